-- A lawful thread has what an event at a monitor needs of it.
use Rattle.std.proofs.Common.{◌≡◌, ℕ, ◌+◌, ◌<◌, ◌≤◌, Bool, true, false, List, [], ◌∷◌, length, Option, Some, None, subst, arith, ◌==◌, if◌then◌else◌}
use Rattle.jvm_types.specs.declared.limits.TheConstants.{MOST_FRAMES}
use Rattle.checked_program.specs.MarkedProgram.{MarkedProgram}
use Rattle.machine_types.specs.{Bounds.{PhaseFits, StepsFit, TurnsFit, flat_held, under_way}, FoundWords.{Fits, WordFits, content_at}, HeldMonitors.{held_at, places_of}, Lawful.{IsLawful, within}}
use Rattle.machine_types.specs.{Structure.{IsAs, IsFlat, PhaseShows}, Threads.{Attempt, Thread}, Typed.PhaseHolds, declared.{lock.Held.Held, phase.{Phase.Phase, Toward.Toward}}}
use Rattle.laws_threads.specs.HeldLaws.{AddsHeld, HeldHasRoom}
use Rattle.fat_monitor.specs.Answering.{CanAnswer}
use Rattle.machine_types.specs.declared.lock.Kept.TheVariants as keeps
use Rattle.machine_types.specs.declared.phase.Phase.TheVariants as phases

-- what is known of a lawful thread in a phase
record Known (c : MarkedProgram) (s : Thread) (phase : Phase) (got : ℕ) : Type 0 where
  turns : TurnsFit phase s.turns s.cfg.turns
  fits : WordFits c.program (content_at c s phase) got
  numbers : PhaseFits phase
  room : AddsHeld phase → length s.held < places_of s.program
  locked : s.counts.locked + under_way s.attempt phase ≤ 4294967295
  inflated : s.counts.inflated + flat_held s.held ≤ s.counts.locked
  holds : PhaseHolds c (within c.program) phase s.frames
  was : Phase
  is_as : IsAs phase was
  shown : List ℕ
  shows : PhaseShows c was s.frames shown s.held s.attempt

-- ---- counts

take_is_under_way : (a : Option Attempt) (m count : ℕ) → 1 ≤ under_way a (phases.Take m count)
take_is_under_way None m count = omega arith
take_is_under_way (Some a) m count = omega arith

take_fat_is_under_way : (a : Option Attempt) (m r : ℕ) → 1 ≤ under_way a (phases.TakeFat m r)
take_fat_is_under_way None m r = omega arith
take_fat_is_under_way (Some a) m r = omega arith

first_is_flat : (h : Held) (hs : List Held) (count : ℕ) → h.kept ≡ keeps.Flat count → 1 ≤ flat_held (h ∷ hs)
first_is_flat h hs count e = rw e (omega arith)

first_or_later : (b : Bool) (h : Held) (hs : List Held) (o : Option Held) → (IsFlat o → 1 ≤ flat_held hs) → IsFlat (if b then Some h else o) → 1 ≤ flat_held (h ∷ hs)
first_or_later true h hs o more (count, e) = first_is_flat h hs count e
first_or_later false h hs o more flat = omega (arith, more flat)

flat_is_counted : (hs : List Held) (m : ℕ) → IsFlat (held_at hs m) → 1 ≤ flat_held hs
flat_is_counted [] m flat = absurd flat
flat_is_counted (h ∷ hs) m flat = first_or_later (h.monitor == m) h hs (held_at hs m) (λ f. flat_is_counted hs m f) flat

flat_in : (c : MarkedProgram) (s : Thread) (m r : ℕ) (toward : Toward) (got : ℕ) → Known c s (phases.FatIn m r toward) got → IsFlat (held_at s.held m)
flat_in c s m r toward got k =
    let shows : PhaseShows c (phases.FatIn m r toward) s.frames k.shown s.held s.attempt = subst (λ p. PhaseShows c p s.frames k.shown s.held s.attempt) k.is_as k.shows in
    shows.flat

-- ---- by the phase

can_in : (c : MarkedProgram) (s : Thread) (phase : Phase) (got : ℕ) → Known c s phase got → CanAnswer c s phase got
can_in c s (phases.Acquire m) got k = (k.turns, k.fits.0)
can_in c s (phases.Take m count) got k = (record { turn = k.turns; place = λ none. k.room tt; count = omega (arith, k.locked, take_is_under_way s.attempt m count) }, omega (arith, k.numbers))
can_in c s (phases.TakeFat m r) got k = record { turn = k.turns; place = λ none. k.room tt; count = omega (arith, k.locked, take_fat_is_under_way s.attempt m r) }
can_in c s (phases.Leave m a) got k = k.holds
can_in c s (phases.FlatOut m a) got k = k.holds
can_in c s (phases.FatIn m r toward) got k = omega (arith, k.locked, k.inflated, flat_is_counted s.held m (flat_in c s m r toward got k))
can_in c s (phases.WaitLook m r depth) got k = k.turns
can_in c s (phases.Retake m r depth) got k = (k.turns, λ none. k.room tt)
can_in c s phase got k = tt

pub made_by_steps : (phase : Phase) (instructions most : ℕ) → StepsFit phase instructions most → instructions ≤ most
made_by_steps phases.Run instructions most fit = omega arith
made_by_steps phase instructions most fit = fit

pub can_answer : (c : MarkedProgram) (s : Thread) (got : ℕ) → HeldHasRoom → c ≡ s.program → length s.frames ≤ MOST_FRAMES → s.cfg.steps ≤ 4294967295
    → IsLawful c s → Fits c s got → CanAnswer c s s.phase got
can_answer c s got law same few most lawful fits =
    let made : s.counts.instructions ≤ s.cfg.steps = made_by_steps s.phase s.counts.instructions s.cfg.steps lawful.bounded.steps in
    can_in c s s.phase got record {
      turns = lawful.bounded.turns;
      fits = fits;
      numbers = lawful.bounded.phase;
      room = λ adds. subst (λ d. length s.held < places_of d) same (law c lawful.was s lawful.structured few adds);
      locked = omega (arith, lawful.bounded.sections, made, most);
      inflated = lawful.bounded.inflated;
      holds = lawful.typed.values.phase;
      was = lawful.was;
      is_as = lawful.structured.is_as;
      shown = lawful.structured.stands.shown;
      shows = lawful.structured.stands.phase_shows;
    }
