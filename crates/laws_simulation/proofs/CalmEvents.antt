-- Events that begin no instruction, take no section and print nothing.
use Rattle.std.proofs.Common.{◌≡◌, ℕ, ◌+◌, nat_lt, Bool, true, false, List, [], ◌∷◌, Option, Some, None, refl, if◌then◌else◌}
use Rattle.jvm_types.specs.declared.outcome.End.{End}
use Rattle.machine_types.specs.{Counting.extra_of, Going.{runs, failed_turn, goes_on, goes_on_if, with_phase}, Onward.{Onward, Running, Throwing, Entering, Leaving, RootReturned, Uncaught}}
use Rattle.machine_types.specs.{Threads.{Attempt, Thread}, declared.phase.Phase.Phase}
use Rattle.jvm_types.specs.declared.outcome.End.TheVariants as ends
use Rattle.machine_types.specs.declared.phase.Phase.TheVariants as phases

-- ---- no instruction is begun without a step

abbrev pub IsCalm : Phase → Type 0
IsCalm (phases.Element word stored) = ⊥
IsCalm (phases.Ending ends.Prints) = ⊥
IsCalm (phases.Ended ends.Prints) = ⊥
IsCalm phase = Unit {0}

pub record Calm (s x : Thread) : Type 0 where
  pub instructions : x.counts.instructions ≡ s.counts.instructions
  pub sections : x.counts.elided + x.counts.locked ≡ s.counts.elided + s.counts.locked
  pub prints : x.prints ≡ s.prints
  pub phase : IsCalm x.phase

no_extra_at_end : (e : End) → (IsCalm (phases.Ending e) → extra_of None (phases.Ending e) ≡ 0) × (IsCalm (phases.Ended e) → extra_of None (phases.Ended e) ≡ 0)
no_extra_at_end ends.Prints = (λ k. absurd k, λ k. absurd k)
no_extra_at_end e = (λ k. refl, λ k. refl)

pub no_extra : (attempt : Option Attempt) (phase : Phase) → IsCalm phase → extra_of attempt phase ≡ 0
no_extra (Some a) phase k = refl
no_extra None (phases.Element word stored) k = absurd k
no_extra None (phases.Ending e) k = (no_extra_at_end e).0 k
no_extra None (phases.Ended e) k = (no_extra_at_end e).1 k
no_extra None phase k = refl

-- ---- ways to go on

pub ran : (s : Thread) → Calm s (runs s)
ran s = record {
  instructions = refl;
  sections = refl;
  prints = refl;
  phase = elim (nat_lt s.counts.instructions s.cfg.steps) as (λ (b : Bool). IsCalm (if b then phases.Run else phases.Ending ends.Steps))
      [ true ↦ tt | false ↦ tt ];
}

pub failed : (s : Thread) (phase : Phase) → IsCalm phase → Calm s (failed_turn s phase)
failed s phase k = record {
  instructions = refl;
  sections = refl;
  prints = refl;
  phase = elim (nat_lt (s.turns + 1) s.cfg.turns) as (λ (b : Bool). IsCalm (if b then phase else phases.Ending ends.Turns))
      [ true ↦ k | false ↦ tt ];
}

pub goes : (s : Thread) (o : Onward) → Calm s (goes_on s o)
goes s (Running frames) = let h = ran (record s { frames = frames }) in record { instructions = refl; sections = refl; prints = refl; phase = h.phase }
goes s (Throwing x class frames) = record { instructions = refl; sections = refl; prints = refl; phase = tt }
goes s (Entering m frames) = record { instructions = refl; sections = refl; prints = refl; phase = tt }
goes s (Leaving m a frames) = record { instructions = refl; sections = refl; prints = refl; phase = tt }
goes s RootReturned = elim s.roots as (λ (roots : List ℕ). Calm s (goes_on (record s { roots = roots }) RootReturned))
    [ [] ↦ record { instructions = refl; sections = refl; prints = refl; phase = tt } | number ∷ roots ↦ record { instructions = refl; sections = refl; prints = refl; phase = tt } ]
goes s (Uncaught class) = record { instructions = refl; sections = refl; prints = refl; phase = tt }

pub goes_if : (s : Thread) (o : Option Onward) → IsCalm s.phase → Calm s (goes_on_if s o)
goes_if s None k = record { instructions = refl; sections = refl; prints = refl; phase = k }
goes_if s (Some o) k = goes s o

-- to another phase
pub changed : (s : Thread) (phase : Phase) → IsCalm phase → Calm s (with_phase s phase)
changed s phase k = record { instructions = refl; sections = refl; prints = refl; phase = k }
