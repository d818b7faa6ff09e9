-- What a run has printed a state of the list has printed.
use Rattle.std.proofs.Common.{◌≡◌, true, List, [], ◌∷◌, Some, ap, ◌∙◌}
use Rattle.jvm_types.specs.declared.program.Program.{Program}
use Rattle.machine_types.specs.PlainState.{Plain, with_thread}
use Rattle.machine_types.specs.PlainSteps.{plain_step}
use Rattle.machine_types.specs.declared.plain.Act.{Act}
use Rattle.machine_types.specs.declared.plain.PlainStep.{PlainStep}
use Rattle.plain_orders.specs.CoveredRuns.{RunsAreCovered, PrintsAreCovered}
use Rattle.plain_orders.specs.LocalSteps.{is_local}
use Rattle.plain_orders.specs.Orders.{IsLocalRun}
use Rattle.plain_orders.proofs.{OwnSteps.local_steps_are_own, Swaps.{known, one_state}}

one_prints : (p : Program) (q r : Plain) (a : PlainStep) → is_local p q a ≡ true → plain_step p q a ≡ Some r → q.prints ≡ r.prints
one_prints p q r a l e =
    let k = known p q a l in
    let made : plain_step p q a ≡ Some (with_thread q a.thread k.1) =
    ap (λ (act : Act). plain_step p q (record { thread = a.thread; act = act })) k.4 ∙ local_steps_are_own p q a.thread k.0 k.1 k.2 k.3 in
    ap (λ (z : Plain). z.prints) (one_state (plain_step p q a) (with_thread q a.thread k.1) r made e)

all_print : (p : Program) (q z : Plain) (xs : List PlainStep) → IsLocalRun (plain_step p) (is_local p) q xs z → q.prints ≡ z.prints
all_print p q z [] v = ap (λ (r : Plain). r.prints) v
all_print p q z (a ∷ xs) v = one_prints p q v.1 a v.0 v.2 ∙ all_print p v.1 z xs v.3

pub prints_are_covered : RunsAreCovered → PrintsAreCovered
prints_are_covered covered c cfg hs seen marked width settings covers =
    let r = covered c cfg hs seen marked width settings covers in
    let z = r.1.later in
    (r.0.state, z.0, r.0.prints, z.2, all_print c.program r.0.state z.0 z.1.0 z.1.1)
