use Rattle.std.proofs.lemmas.Option.{slice_get_within}
use Rattle.step_core.proofs.{EntryRuns.at_number, NearPlaces.same_method}
use Rattle.step_core.proofs.ahead.monitors.stays.Goals as goal

pub returns-clause-method : goal.returns-clause-method
returns-clause-method c =
    rw c.method.ensures
    (same_method c.args.p.now.program c.args.f.now.frames c.args.place.now.method c.requires.stands.method)

pub returns-clause-number : goal.returns-clause-number
returns-clause-number c =
    let code = c.args.place.now.method.code in
    at_number c.args.p.now c.args.f.now c.args.place.now.method c.args.at
    c.numbers_are_exact.ensures c.requires.stands.laid c.requires.stands.method
    (slice_get_within code c.args.at c.args.place.now.insn c.requires.insn) (rw c.requires.insn c.requires.stands.pc)
