-- How a thread goes on from an event: to its next instruction, to another turn, or to the limit that it made.
use Rattle.std.proofs.Common.{◌≡◌, ℕ, ◌+◌, ◌<◌, Bool, cond, List, [], length, ap, arith, Option, Some, None, refl, sym, ◌∙◌, subst, nat_lt}
use Rattle.checked_program.specs.MarkedProgram.{MarkedProgram}
use Rattle.machine_types.specs.{Elision.fails, Going.{with_phase, runs, failed_turn}, HeldMonitors.held_at, Structure.{CountsTurns, IsPhaseInside, Stands, AttemptStands, AttemptStandsIn}}
use Rattle.machine_types.specs.{Threads.{Frame, Attempt, Thread}, declared.{lock.Held.Held, phase.Phase.Phase}}
use Rattle.laws_threads.{specs.StructureLaws.{StaysStructured, turned_from}, proofs.Tests.either_way}
use Rattle.jvm_types.specs.declared.outcome.End.TheVariants as ends
use Rattle.machine_types.specs.declared.phase.Phase.TheVariants as phases

-- ---- to another phase

pub running : (c : MarkedProgram) (was : Phase) (s : Thread) → Stands c phases.Run s.frames s.held s.attempt → AttemptStandsIn c phases.Run s.frames s.held s.attempt → StaysStructured c was (runs s)
running c was s stands inside = either_way (λ (left : Bool). StaysStructured c was (with_phase s (cond left phases.Run (phases.Ending ends.Steps)))) (nat_lt s.counts.instructions s.cfg.steps)
    (record { is_as = refl; stands = stands; attempt = inside })
    (record { is_as = refl; stands = stands; attempt = inside })

-- it stands in a phase of turns
pub record TurnsIn (c : MarkedProgram) (phase : Phase) (s : Thread) : Type 0 where
  pub counts : CountsTurns phase
  pub stands : Stands c phase s.frames s.held s.attempt
  pub inside : AttemptStandsIn c phase s.frames s.held s.attempt

to_turn : (c : MarkedProgram) (was : Phase) (s : Thread) (phase : Phase) → TurnsIn c phase s → StaysStructured c was (with_phase s phase)
to_turn c was s (phases.Ending e) k = absurd k.counts
to_turn c was s (phases.Ended e) k = absurd k.counts
to_turn c was s phase k = record { is_as = refl; stands = k.stands; attempt = k.inside }

pub turning : (c : MarkedProgram) (was : Phase) (s : Thread) (phase : Phase) → TurnsIn c phase s → TurnsIn c (turned_from was) s → StaysStructured c was (failed_turn s phase)
turning c was s phase k limit = either_way (λ (left : Bool). StaysStructured c was (record s { turns = s.turns + 1; phase = cond left phase (phases.Ending ends.Turns) })) (nat_lt (s.turns + 1) s.cfg.turns)
    (to_turn c was (record s { turns = s.turns + 1 }) phase (record { counts = k.counts; stands = k.stands; inside = k.inside }))
    (record { is_as = limit.counts; stands = limit.stands; attempt = limit.inside })

-- ---- outside an attempt

pub no_attempt : (c : MarkedProgram) (phase : Phase) (fs : List Frame) (held : List Held) (o : Option Attempt) → o ≡ None → AttemptStandsIn c phase fs held o
no_attempt c phase fs held None e = tt
no_attempt c phase fs held (Some a) e = absurd (cc)

-- without frames
pub no_try : (c : MarkedProgram) (phase : Phase) (fs : List Frame) (held : List Held) (o : Option Attempt) → fs ≡ [] → AttemptStandsIn c phase fs held o → o ≡ None
no_try c phase fs held None e k = refl
no_try c phase fs held (Some a) e k = let short : length fs ≡ 0 = ap (length {A = Frame}) e in let deep : a.base < length fs = k.based in absurd (omega arith)

-- in a phase that no attempt is in
pub outside : (c : MarkedProgram) (phase : Phase) (fs : List Frame) (held : List Held) (o : Option Attempt) → ((m : ℕ) → IsPhaseInside m phase → ⊥) → AttemptStandsIn c phase fs held o → o ≡ None
outside c phase fs held None never k = refl
outside c phase fs held (Some a) never k = absurd (never a.monitor k.inside)

-- in a phase of a monitor that is held
pub held_outside : (c : MarkedProgram) (phase : Phase) (m : ℕ) (h : Held) (fs : List Frame) (held : List Held) (o : Option Attempt) → ((n : ℕ) → IsPhaseInside n phase → m ≡ n) → held_at held m ≡ Some h → AttemptStandsIn c phase fs held o → o ≡ None
held_outside c phase m h fs held None on e k = refl
held_outside c phase m h fs held (Some a) on e k = let same : m ≡ a.monitor = on a.monitor k.inside in let other : held_at held m ≡ None = subst (λ (n : ℕ). held_at held n ≡ None) (sym same) k.not_held in absurd (let bad : Some h ≡ None = sym e ∙ other in cc)

-- ---- an attempt fails, or goes on by a move that leaves its frames as they are

pub failing : (c : MarkedProgram) (was phase : Phase) (s : Thread) (a : Attempt) → AttemptStands c phase s.frames s.held a → StaysStructured c was (fails s a)
failing c was phase s a k = record { is_as = refl; stands = k.goes_back; attempt = tt }
