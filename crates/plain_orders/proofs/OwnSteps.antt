-- A local step makes of its thread what that alone tells, and its thread has no other.
use Rattle.std.proofs.Common.{◌≡◌, ℕ, Option, Some, None, refl, ap, ◌∙◌, option_map, option_and_then}
use Rattle.jvm_types.specs.declared.program.Program.{Program}
use Rattle.machine_types.specs.{Frames.{Top, top_of, effect_at}, Onward.{Onward, Running, done, returns, dispatched}}
use Rattle.machine_types.specs.PlainInstructions.{plain_instructed, instructed_by, if_left}
use Rattle.machine_types.specs.PlainState.{Plain, PlainThread, Status, plain_goes_on, Run, Throw, with_thread}
use Rattle.machine_types.specs.PlainSteps.{step_at, step_of}
use Rattle.machine_types.specs.declared.effect.Effect.{Effect}
use Rattle.machine_types.specs.declared.effect.Effect.TheVariants as effects
use Rattle.machine_types.specs.declared.plain.Act.TheVariants as acts
use Rattle.machine_types.specs.PlainState as plain
use Rattle.machine_types.specs.Onward as onward
use Rattle.plain_orders.specs.LocalSteps.{returned_alone, own_onward, onward_alone, stays_live, LocalStepsAreOwn}

module _ (p : Program) (q : Plain) (t : ℕ) (x : PlainThread) where
  abbrev Goes : Option Onward → Onward → Option Plain → Type 0
  Goes own o step = own ≡ Some o → step ≡ Some (with_thread q t (plain_goes_on x o))

  by_done : (own : Option Onward) (o : Onward) → own ≡ Some o
      → option_map (λ k. with_thread q t (plain_goes_on x k)) own ≡ Some (with_thread q t (plain_goes_on x o))
  by_done own o e = ap (option_map (λ k. with_thread q t (plain_goes_on x k))) e

  by_return : (at : Top) (k o : Onward) → returned_alone k ≡ Some o
      → Some (with_thread q t (if_left q t x at k)) ≡ Some (with_thread q t (plain_goes_on x o))
  by_return at (onward.Running frames) o e = cc
  by_return at k o e = absurd (none o e)
    where
      none : (z : Onward) → None ≡ Some z → ⊥
      none z f = cc

  by_effect : (at : Top) (e : Effect) (o : Onward) → Goes (own_onward p at e) o (instructed_by p q t x at e)
  by_effect at (effects.Goes to made) o e = by_done (done p at (effects.Goes to made) 0) o e
  by_effect at (effects.Throws v) o e = by_done (done p at (effects.Throws v) 0) o e
  by_effect at (effects.Calls number) o e = by_done (done p at (effects.Calls number) 0) o e
  by_effect at (effects.Enters m) o e = by_done (done p at (effects.Enters m) 0) o e
  by_effect at effects.Returns o e = by_return at (returns p at) o e
  by_effect at effect o e = absurd (none o e)
    where
      none : (z : Onward) → None ≡ Some z → ⊥
      none z f = cc

  by_top : (top : Option Top) (o : Onward) → Goes (option_and_then (λ at. own_onward p at (effect_at p at)) top) o (plain_instructed p q t x top)
  by_top None o e = cc
  by_top (Some at) o e = by_effect at (effect_at p at) o e

  by_status : (status : Status) (o : Onward) → Goes (onward_alone p x status) o (step_at p q t x acts.Do status)
  by_status plain.Run o e = by_top (top_of p x.frames) o e
  by_status (plain.Throw r class) o e = by_done (dispatched p r class x.frames) o e
  by_status status o e = absurd (none o e)
    where
      none : (z : Onward) → None ≡ Some z → ⊥
      none z f = cc

pub live_onward : (k : Option Onward) (x y : PlainThread) → option_map (plain_goes_on x) (option_and_then stays_live k) ≡ Some y
    → (o : Onward) × (k ≡ Some o) × (stays_live o ≡ Some o) × (plain_goes_on x o ≡ y)
live_onward None x y e = absurd (none y e)
  where
    none : (z : PlainThread) → None ≡ Some z → ⊥
    none z f = cc
live_onward (Some o) x y e = by_kind o e
  where
    some_in : (a b : PlainThread) → Some a ≡ Some b → a ≡ b
    some_in a b f = cc

    none : (z : PlainThread) → None ≡ Some z → ⊥
    none z f = cc

    by_kind : (k : Onward) → option_map (plain_goes_on x) (stays_live k) ≡ Some y → (o : Onward) × (Some k ≡ Some o) × (stays_live o ≡ Some o) × (plain_goes_on x o ≡ y)
    by_kind onward.RootReturned f = absurd (none y f)
    by_kind (onward.Uncaught class) f = absurd (none y f)
    by_kind (onward.Running fs) f = (onward.Running fs, refl, refl, some_in (plain_goes_on x (onward.Running fs)) y f)
    by_kind (onward.Throwing r c fs) f = (onward.Throwing r c fs, refl, refl, some_in (plain_goes_on x (onward.Throwing r c fs)) y f)
    by_kind (onward.Entering m fs) f = (onward.Entering m fs, refl, refl, some_in (plain_goes_on x (onward.Entering m fs)) y f)
    by_kind (onward.Leaving m a fs) f = (onward.Leaving m a fs, refl, refl, some_in (plain_goes_on x (onward.Leaving m a fs)) y f)

pub local_steps_are_own : LocalStepsAreOwn
local_steps_are_own p q t x y here gone =
    let k = live_onward (onward_alone p x x.status) x y gone in
    ap (step_of p q t acts.Do) here ∙ by_status p q t x x.status k.0 k.1 ∙ ap (λ (z : PlainThread). Some (with_thread q t z)) k.3
