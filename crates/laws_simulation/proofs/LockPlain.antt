-- The plain steps by which a thread enters a monitor and leaves it.
use Rattle.std.proofs.Common.{◌≡◌, ℕ, ◌+◌, Bool, true, cond, [], ◌∷◌, Option, Some, None, ap, ◌∙◌, ◌==◌, option_map, slice_get}
use Rattle.jvm_types.specs.declared.program.Program.{Program}
use Rattle.machine_types.specs.{History.steps_of, Onward.{Onward, after}, PlainState.{Plain, PlainThread, Holding, Status, holding_at, held_by, with_thread, with_status, plain_goes_on}}
use Rattle.machine_types.{specs.{PlainSteps.{plain_entered, left, exited, step_at, plain_run}, declared.{phase.After.After}}, proofs.PlainStepLaws.is_same}
use Rattle.laws_simulation.proofs.{Assembled.one_step, HoldingsAlike.IsHolding}
use Rattle.machine_types.specs.PlainState as plain
use Rattle.machine_types.specs.declared.plain.Act.TheVariants as acts

module _ (p : Program) (q : Plain) (t : ℕ) (z : PlainThread)
    (here : slice_get q.threads t ≡ Some z) where
  is_own : (h : Holding) → h.holder ≡ t → (h.holder == t) ≡ true
  is_own h e = ap (λ (n : ℕ). n == t) e ∙ is_same t

  -- nobody holds the monitor
  pub enters_first : (m : ℕ) → z.status ≡ plain.Enter m → holding_at q.holdings m ≡ None → plain_run p q (steps_of t (acts.Enter ∷ [])) ≡ Some (with_thread (held_by q m t 1) t (with_status z plain.Run))
  enters_first m e none = one_step p q (with_thread (held_by q m t 1) t (with_status z plain.Run)) t z acts.Enter here (ap (step_at p q t z acts.Enter) e ∙ ap (λ (o : Option Holding). plain_entered q t m z o) none)

  pub enters_again : (m depth : ℕ) → z.status ≡ plain.Enter m → IsHolding (holding_at q.holdings m) t m depth → plain_run p q (steps_of t (acts.Enter ∷ [])) ≡ Some (with_thread (held_by q m t (depth + 1)) t (with_status z plain.Run))
  enters_again m depth e h = one_step p q (with_thread (held_by q m t (depth + 1)) t (with_status z plain.Run)) t z acts.Enter here (ap (step_at p q t z acts.Enter) e ∙ ap (λ (o : Option Holding). plain_entered q t m z o) h.is
      ∙ ap (λ (b : Bool). cond b (Some (with_thread (held_by q m t (h.holding.depth + 1)) t (with_status z plain.Run))) None) (is_own h.holding h.holder)
      ∙ ap (λ (d : ℕ). Some (with_thread (held_by q m t (d + 1)) t (with_status z plain.Run))) h.depth_is)

  -- by the depth at which it holds the monitor
  pub exits : (m depth : ℕ) (a : After) (o : Onward) → z.status ≡ plain.Leave m a → IsHolding (holding_at q.holdings m) t m depth → after p z.frames a ≡ Some o
      → plain_run p q (steps_of t (acts.Exit ∷ [])) ≡ Some (with_thread (left q t m depth) t (plain_goes_on z o))
  exits m depth a o e h onward = one_step p q (with_thread (left q t m depth) t (plain_goes_on z o)) t z acts.Exit here (ap (step_at p q t z acts.Exit) e ∙ ap (λ (g : Option Holding). exited p q t m a z g) h.is
      ∙ ap (λ (b : Bool). cond b (option_map (λ (w : Onward). with_thread (left q t m h.holding.depth) t (plain_goes_on z w)) (after p z.frames a)) None) (is_own h.holding h.holder)
      ∙ ap (option_map (λ (w : Onward). with_thread (left q t m h.holding.depth) t (plain_goes_on z w))) onward
      ∙ ap (λ (d : ℕ). Some (with_thread (left q t m d) t (plain_goes_on z o))) h.depth_is)
