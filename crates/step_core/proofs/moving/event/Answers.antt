use Rattle.machine_types.specs.{Accesses.found_by, Events.wanted}
use Rattle.step_core.proofs.StaysLawful.{stays_lawful}
use Rattle.step_core.proofs.moving.event.Goals as goal

pub returns-clause-lawful : goal.returns-clause-lawful
returns-clause-lawful c =
    stays_lawful c.args.p.now c.args.s.now c.make_event.new.s (found_by c.args.words.now (wanted c.args.p.now c.args.s.now c.args.s.now.phase))
    c.lawful_is_kept.ensures c.program-checked.ensures.marked c.requires.lawful c.requires.fits c.make_event.ensures.state
