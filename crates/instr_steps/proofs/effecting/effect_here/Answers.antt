use Rattle.std.proofs.Common.{List, ap, sym, subst, ◌∙◌}
use Rattle.jvm_types.specs.declared.code.{Case.Case, Insn.Insn, Op.Op}
use Rattle.machine_types.specs.Effects.{effect}
use Rattle.instr_effects.specs.SwitchKeys.{AreKeys}
use Rattle.frames.specs.FrameLists.{top}
use Rattle.instr_steps.proofs.SwitchKeys.{switch_keys}
use Rattle.instr_steps.proofs.effecting.effect_here.Goals as goal

pub look_up-requires : goal.look_up-requires
look_up-requires c =
    let op = ap (λ (i : Insn). i.op) (sym c.insn-insn.ensures) ∙ c.in-Lookupswitch-default.is-0 in
    subst (λ (cases : List Case). AreKeys cases) (sym c.as_slice.ensures)
    (switch_keys c.args.place.now.method c.requires.stands.number c.args.place.now.insn c.in-Lookupswitch-default.otherwise c.in-Lookupswitch-default.cases c.requires.stands.laid c.requires.stands.insn op)

pub returns-in-Lookupswitch-default : goal.returns-in-Lookupswitch-default
returns-in-Lookupswitch-default c =
    let op = ap (λ (i : Insn). i.op) (sym c.insn-insn.ensures) ∙ c.in-Lookupswitch-default.is-0 in
    let at = c.args.place.now in
    let frame = top c.args.s.now.frames in
    (rw (c.as_slice.ensures, c.stack.ensures) at (c.look_up.ensures c.args.p.now.program at.insn.next at.target frame.locals))
    ∙ ap (λ (x : Op). effect c.args.p.now.program at.insn.next at.target x frame.locals frame.stack) (sym op)
