-- What a call that makes a step answers, by the state that the step gives, where there is one.
use Rattle.std.specs.Prelude.{◌≡◌, ◌+◌, ℕ, Bool, true, false, List, Option, Some, None, Result, Ok}
use Rattle.std.specs.Prelude.{Err}
use Rattle.checked_program.specs.MarkedProgram.{MarkedProgram}
use Rattle.machine_types.specs.PlainState.{Plain}
use Rattle.machine_types.specs.PlainSteps.{plain_run}
use Rattle.machine_types.specs.declared.plain.PlainStep.{PlainStep}

-- it is made; there is none, and nothing has changed; there is no memory, and nothing has changed
abbrev pub IsStep : {E : Type 0} → Option Plain → (old new : Plain) → Result Bool E → Type 0
IsStep wanted old new (Ok true) = wanted ≡ Some new
IsStep wanted old new (Ok false) = (wanted ≡ None) × (new ≡ old)
IsStep wanted old new (Err e) = new ≡ old

-- ---- a plain machine: the program that it was made for, its state, and how many steps were made

pub record Played : Type 0 where
  pub program : MarkedProgram
  pub state : Plain
  pub steps : ℕ

-- the same, with a step that was made, where it is
abbrev pub IsPlayed : {E : Type 0} → Option Plain → (old new : Played) → Result Bool E → Type 0
IsPlayed wanted old new (Ok true) =
    (wanted ≡ Some new.state) × (new ≡ record old { state = new.state; steps = old.steps + 1 })
IsPlayed wanted old new (Ok false) = (wanted ≡ None) × (new ≡ old)
IsPlayed wanted old new (Err e) = new ≡ old

-- all steps are made; there is one that there is not; there is no memory
abbrev pub IsRunMade : {E : Type 0} → Option Plain → (new : Plain) → Result Bool E → Type 0
IsRunMade wanted new (Ok true) = wanted ≡ Some new
IsRunMade wanted new (Ok false) = wanted ≡ None
IsRunMade wanted new (Err e) = Unit {0}

-- these steps were made, so many
pub record IsPlayedOn (old : Played) (steps : List PlainStep) (n : ℕ) (new : Played) : Type 0 where
  pub made : plain_run old.program.program old.state steps ≡ Some new.state
  pub same : new ≡ record old { state = new.state; steps = old.steps + n }
