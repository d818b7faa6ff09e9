-- The begin of a part keeps threads lawful.
use Rattle.std.{proofs.Common.{◌≡◌, ℕ, List, [], ◌∷◌, Option, Some, None, refl, sym, subst, arith, IsTrue}, specs.List.AllByRecursion}
use Rattle.jvm_types.specs.{Numbers.has_number, declared.outcome.End.End}
use Rattle.checked_program.specs.MarkedProgram.{MarkedProgram}
use Rattle.machine_types.specs.{Bounds.{IsBounded, IsRooted, part_roots}, Core.{part_phase, with_roots}, Lawful.{IsLawful, IsTypedWithin}, Structure.{IsStructured, IsAs, Stands, AttemptStandsIn}}
use Rattle.machine_types.specs.{Threads.{Thread, Attempt, Frame}, declared.{lock.Held.Held, phase.Phase.Phase}}
use Rattle.jvm_types.specs.declared.outcome.End.TheVariants as ends
use Rattle.machine_types.specs.declared.phase.Phase.TheVariants as phases

-- a thread between its parts: its part has not begun, or it has returned
pub data IsBetween : Phase → Type 0 where
  is_idle : IsBetween phases.Idle
  has_returned : IsBetween (phases.Ended ends.Returned)

-- it has no frame
no_frames : (c : MarkedProgram) (phase was : Phase) (fs : List Frame) (held : List Held) (a : Option Attempt) → IsBetween phase → was ≡ phase → Stands c was fs held a → fs ≡ []
no_frames c _ was fs held a is_idle e s = (subst (λ (q : Phase). Stands c q fs held a) e s).phase_shows
no_frames c _ was fs held a has_returned e s = (subst (λ (q : Phase). Stands c q fs held a) e s).phase_shows

-- and is in no attempt
no_attempt : (c : MarkedProgram) (phase : Phase) (held : List Held) (a : Option Attempt) → AttemptStandsIn c phase [] held a → a ≡ None
no_attempt c phase held None h = refl
no_attempt c phase held (Some a) h = absurd (omega (arith, h.based))

was_itself : (phase was : Phase) → IsBetween phase → IsAs phase was → was ≡ phase
was_itself _ was is_idle h = h
was_itself _ was has_returned h = h

-- as its next part begins
module _ (c : MarkedProgram) (s : Thread) (part : ℕ) (first : Option End) where
  abbrev pub new_part : (roots : List ℕ) → Thread
  new_part roots = with_roots roots (record s { part = part; first = first })

  stands_anew : (old : Phase) (roots : List ℕ) → IsBetween old → Stands c old s.frames s.held s.attempt → Stands c (part_phase roots) s.frames s.held s.attempt
  stands_anew _ [] is_idle h = record { shown = h.shown; show = h.show; depths = h.depths; once = h.once; phase_shows = h.phase_shows }
  stands_anew _ (number ∷ roots) is_idle h = record { shown = h.shown; show = h.show; depths = h.depths; once = h.once; phase_shows = h.phase_shows }
  stands_anew _ roots b h = record { shown = h.shown; show = h.show; depths = h.depths; once = h.once; phase_shows = h.phase_shows }

  is_as_itself : (roots : List ℕ) → IsAs (part_phase roots) (part_phase roots)
  is_as_itself [] = refl
  is_as_itself (number ∷ roots) = refl

  structured_anew : (was : Phase) (roots : List ℕ) → IsBetween s.phase → IsStructured c was s → IsStructured c (part_phase roots) (new_part roots)
  structured_anew was roots b h =
      let e : was ≡ s.phase = was_itself s.phase was b h.is_as in
      let stands : Stands c s.phase s.frames s.held s.attempt = subst (λ (q : Phase). Stands c q s.frames s.held s.attempt) e h.stands in
      let none : s.frames ≡ [] = no_frames c s.phase was s.frames s.held s.attempt b e h.stands in
      let attempt : AttemptStandsIn c was [] s.held s.attempt = subst (λ (fs : List Frame). AttemptStandsIn c was fs s.held s.attempt) none h.attempt in
      record {
        is_as = is_as_itself roots;
        stands = stands_anew s.phase roots b stands;
        attempt = subst (λ (o : Option Attempt). AttemptStandsIn c (part_phase roots) s.frames s.held o) (sym (no_attempt c was s.held s.attempt attempt)) tt;
      }

  pub between_frames : (was : Phase) → IsBetween s.phase → IsStructured c was s → s.frames ≡ []
  between_frames was b h = no_frames c s.phase was s.frames s.held s.attempt b (was_itself s.phase was b h.is_as) h.stands

  pub between_attempt : (was : Phase) → IsBetween s.phase → IsStructured c was s → s.attempt ≡ None
  between_attempt was b h = no_attempt c was s.held s.attempt (subst (λ (fs : List Frame). AttemptStandsIn c was fs s.held s.attempt) (between_frames was b h) h.attempt)

  -- without frames and attempt, which it has none of
  abbrev bare : (phase : Phase) (roots : List ℕ) → List Frame → Option Attempt → Thread
  bare phase roots fs a = record s { part = part; first = first; roots = roots; phase = phase; frames = fs; attempt = a }

  typed_bare : (roots : List ℕ) → IsTypedWithin c (bare (part_phase roots) roots [] None)
  typed_bare [] = record { values = record { phase = tt; attempt = tt }; new = tt; receivers = tt; entry = tt }
  typed_bare (number ∷ roots) = record { values = record { phase = tt; attempt = tt }; new = tt; receivers = tt; entry = tt }

  typed_anew : (roots : List ℕ) → s.frames ≡ [] → s.attempt ≡ None → IsTypedWithin c (new_part roots)
  typed_anew roots e h =
      subst (λ (fs : List Frame). IsTypedWithin c (bare (part_phase roots) roots fs s.attempt)) (sym e)
      (subst (λ (a : Option Attempt). IsTypedWithin c (bare (part_phase roots) roots [] a)) (sym h) (typed_bare roots))

  -- its numbers, between its parts
  bounded_bare : (old : Phase) (roots : List ℕ) → IsBetween old → IsBounded c.program (record s { phase = old; attempt = None }) → IsBounded c.program (bare (part_phase roots) roots s.frames None)
  bounded_bare _ [] is_idle h = record { number = h.number; kept = h.kept; noted = tt; phase = tt; prints = h.prints; turns = h.turns; steps = h.steps; depths = h.depths; waits = tt; inner = tt; entry = tt; inflated = h.inflated; sections = h.sections }
  bounded_bare _ (number ∷ roots) is_idle h = record { number = h.number; kept = h.kept; noted = tt; phase = tt; prints = h.prints; turns = h.turns; steps = h.steps; depths = h.depths; waits = tt; inner = tt; entry = tt; inflated = h.inflated; sections = h.sections }
  bounded_bare _ roots b h = record { number = h.number; kept = h.kept; noted = tt; phase = tt; prints = h.prints; turns = h.turns; steps = h.steps; depths = h.depths; waits = tt; inner = tt; entry = tt; inflated = h.inflated; sections = h.sections }

  bounded_anew : (roots : List ℕ) → IsBetween s.phase → s.attempt ≡ None → IsBounded c.program s → IsBounded c.program (new_part roots)
  bounded_anew roots b e h =
      subst (λ (a : Option Attempt). IsBounded c.program (bare (part_phase roots) roots s.frames a)) (sym e)
      (bounded_bare s.phase roots b (subst (λ (a : Option Attempt). IsBounded c.program (record s { attempt = a })) e h))

  rooted_anew : (roots : List ℕ) → s.frames ≡ [] → AllByRecursion (λ number. IsTrue (has_number (part_roots c.program s.number part) number)) roots → IsRooted c.program (new_part roots)
  rooted_anew [] e h = record { roots = tt; frames = tt }
  rooted_anew (number ∷ roots) e h = record { roots = h; frames = e }

  pub lawful_anew : (roots : List ℕ) → IsBetween s.phase → AllByRecursion (λ number. IsTrue (has_number (part_roots c.program s.number part) number)) roots → IsLawful c s → IsLawful c (new_part roots)
  lawful_anew roots b among h = record {
    was = part_phase roots;
    structured = structured_anew h.was roots b h.structured;
    typed = typed_anew roots (between_frames h.was b h.structured) (between_attempt h.was b h.structured);
    bounded = bounded_anew roots b (between_attempt h.was b h.structured) h.bounded;
    rooted = rooted_anew roots (between_frames h.was b h.structured) among;
  }

-- a thread that sees a part begin without a part of its own
pub lawful_seen : (c : MarkedProgram) (s : Thread) (first : Option End) → s.number ≡ 0 → s.part ≡ 0 → IsLawful c s → IsLawful c (record s { part = 1; first = first })
lawful_seen c s first e k h = record {
  was = h.was;
  structured = record { is_as = h.structured.is_as; stands = h.structured.stands; attempt = h.structured.attempt };
  typed = record { values = record { phase = h.typed.values.phase; attempt = h.typed.values.attempt }; new = h.typed.new; receivers = h.typed.receivers; entry = h.typed.entry };
  bounded = record { number = h.bounded.number; kept = h.bounded.kept; noted = h.bounded.noted; phase = h.bounded.phase; prints = h.bounded.prints; turns = h.bounded.turns; steps = h.bounded.steps; depths = h.bounded.depths; waits = h.bounded.waits; inner = h.bounded.inner; entry = h.bounded.entry; inflated = h.bounded.inflated; sections = h.bounded.sections };
  rooted = record { roots = subst (λ (ns : List ℕ). AllByRecursion (λ number. IsTrue (has_number ns number)) s.roots) (sym roots_are) h.rooted.roots; frames = h.rooted.frames };
}
  where
    roots_are : part_roots c.program s.number 1 ≡ part_roots c.program s.number s.part
    roots_are = rw (e, k) refl
