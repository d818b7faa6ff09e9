-- What is due of an attempt as a run of the plain machine, with more steps behind it.
use Rattle.std.proofs.Common.{◌≡◌, ◌≢◌, ℕ, ◌+◌, List, [], ◌∷◌, ◌++◌, Option, Some, None, refl, ap, ◌∙◌, arith, option_and_then}
use Rattle.lists.proofs.ListLaws.{same_some}
use Rattle.jvm_types.specs.declared.program.Program.{Program}
use Rattle.machine_types.specs.{Counting.{run_at, take_at, count_from, count_along}, History.steps_of, PlainState.{Plain, value_at}, PlainSteps.{plain_run, plain_step}}
use Rattle.machine_types.{specs.{Replay.{Alone, replay_act, replayed}, declared.plain.Act.Act}, proofs.AttemptReplay.{stands_as, Stands, stands_after, stands_twice}}
use Rattle.laws_refinement.proofs.CountedActs.{does}
use Rattle.machine_types.proofs.AttemptReplay as replay

-- where x has come to y, with more acts behind
pub record Played (p : Program) (q : Plain) (t m : ℕ) (due more : List Act) (x y : Alone) : Type 0 where
  pub run : plain_run p q (steps_of t (due ++ more)) ≡ plain_run p (stands_as q t m y) (steps_of t more)
  pub runs : count_along p (run_at t) (steps_of t (due ++ more)) q + x.begun ≡ count_along p (run_at t) (steps_of t more) (stands_as q t m y) + y.begun
  pub takes : count_along p (take_at t) (steps_of t (due ++ more)) q ≡ count_along p (take_at t) (steps_of t more) (stands_as q t m y)

pub played : (p : Program) (q : Plain) (t m : ℕ) (due more : List Act) (x y : Alone) → Stands q t m x → m ≢ 0 → replayed p m (value_at q) due x ≡ Some y → Played p q t m due more x y
played p q t m [] more x y f some e =
    let here : q ≡ stands_as q t m y = same_some (replay.played p q t m [] x y f some (ap Some (same_some e))) in
    let runs : count_along p (run_at t) (steps_of t more) q ≡ count_along p (run_at t) (steps_of t more) (stands_as q t m y) = ap (λ (r : Plain). count_along p (run_at t) (steps_of t more) r) here in
    let begun : x.begun ≡ y.begun = ap (λ (z : Alone). z.begun) (same_some e) in
    record { run = ap (λ (r : Plain). plain_run p r (steps_of t more)) here; runs = omega (arith, runs, begun); takes = ap (λ (r : Plain). count_along p (take_at t) (steps_of t more) r) here }
played p q t m (act ∷ due) more x y f some e =
    next (replay_act p m (value_at q) x act x.thread.status) refl e (λ z g. played p (stands_as q t m z) t m due more z y (stands_after q t m x.thread z f.thread) some g)
  where
    next : (o : Option Alone) → replay_act p m (value_at q) x act x.thread.status ≡ o → option_and_then (replayed p m (value_at q) due) o ≡ Some y
        → ((z : Alone) → replayed p m (value_at q) due z ≡ Some y → Played p (stands_as q t m z) t m due more z y) → Played p q t m (act ∷ due) more x y
    next None k g on = absurd (cc)
    next (Some z) k g on =
        let twice : stands_as (stands_as q t m z) t m y ≡ stands_as q t m y = stands_twice q t m z y in
        let to : plain_step p q (record { thread = t; act = act }) ≡ Some (stands_as q t m z) = (does p q t m x z act f some k).step in
        record {
          run = ap (λ (o : Option Plain). option_and_then (λ r. plain_run p r (steps_of t (due ++ more))) o) to ∙ (on z g).run ∙ ap (λ (r : Plain). plain_run p r (steps_of t more)) twice;
          runs = ap (λ (o : Option Plain). run_at t q (record { thread = t; act = act }) + count_from (count_along p (run_at t) (steps_of t (due ++ more))) o + x.begun) to
              ∙ (omega (arith, (does p q t m x z act f some k).runs, (on z g).runs)) ∙ ap (λ (r : Plain). count_along p (run_at t) (steps_of t more) r + y.begun) twice;
          takes = ap (λ (o : Option Plain). take_at t q (record { thread = t; act = act }) + count_from (count_along p (take_at t) (steps_of t (due ++ more))) o) to
              ∙ (omega (arith, (does p q t m x z act f some k).takes, (on z g).takes)) ∙ ap (λ (r : Plain). count_along p (take_at t) (steps_of t more) r) twice;
        }
