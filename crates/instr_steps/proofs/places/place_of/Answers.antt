use Rattle.std.proofs.{Common.{sym, ◌∙◌, slice_index_or}, lemmas.Option.slice_get-get_or}
use Rattle.jvm_types.specs.declared.program.Target.TheVariants.{Nothing}
use Rattle.instr_steps.proofs.TopPlaces.{placed, numbers_within, number_some}
use Rattle.instr_steps.proofs.places.place_of.Goals as goal

pub insn_at-requires : goal.insn_at-requires
insn_at-requires c =
    (numbers_within c.args.p.now.program c.args.s.now.frames c.method_of-method.result.now c.in-Some.i c.requires (rw c.method.ensures at c.method_of-method.ensures)
    (rw (c.method-2.ensures, c.pc.ensures) at (sym c.number_at.ensures ∙ c.in-Some.is))).0

pub unreachable-requires : goal.unreachable-requires
unreachable-requires c = number_some c.args.p.now.program c.args.s.now.frames c.requires (rw (c.method-2.ensures, c.pc.ensures) at (sym c.number_at.ensures ∙ c.in-None.is))

pub returns : goal.returns
returns c =
    let method = rw c.method.ensures at c.method_of-method.ensures in
    let number = rw (c.method-2.ensures, c.pc.ensures) at (sym c.number_at.ensures ∙ c.in-Some.is) in
    let there = (numbers_within c.args.p.now.program c.args.s.now.frames c.method_of-method.result.now c.in-Some.i c.requires method number).1 in
    placed c.args.p.now.program c.args.s.now.frames c.method_of-method.result.now c.in-Some.i c.insn_at.result.now (slice_index_or c.method_of-method.result.now.targets c.in-Some.i Nothing) c.requires method number c.insn_at.ensures
    (slice_get-get_or c.method_of-method.result.now.targets c.in-Some.i Nothing there)

pub invariant_of-result : goal.invariant_of-result
invariant_of-result c =
    (numbers_within c.args.p.now.program c.args.s.now.frames c.method_of-method.result.now c.in-Some.i c.requires (rw c.method.ensures at c.method_of-method.ensures)
    (rw (c.method-2.ensures, c.pc.ensures) at (sym c.number_at.ensures ∙ c.in-Some.is))).1
