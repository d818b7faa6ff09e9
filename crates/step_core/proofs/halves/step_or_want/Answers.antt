use Rattle.std.proofs.Common.{rules, ◌≡◌, None, ap, sym, ◌∙◌}
use Rattle.machine_types.specs.{Events.{moved, wanted}, declared.phase.Phase.TheVariants.Run}
use Rattle.step_core.proofs.{LocalEvents.local_fits, StaysLawful.stays_lawful}
use Rattle.step_core.proofs.halves.step_or_want.Goals as goal

pub returns-in-None-clause-lawful : goal.returns-in-None-clause-lawful
returns-in-None-clause-lawful c =
    let p = c.args.p.now in
    let s = c.args.s.now in
    let phase : s.phase ≡ Run = search rules in
    let wants : wanted p s s.phase ≡ None = ap (wanted p s) phase ∙ sym c.in-None.ensures.access in
    stays_lawful p s c.run_or_want.new.s 0 c.lawful_is_kept.ensures c.program-checked.ensures.marked c.requires.lawful (local_fits p s wants)
    (c.in-None.ensures.state ∙ ap (λ phase. moved p s phase 0) (sym phase))
