-- Where a part of the run may begin, no thread is in an attempt.
use Rattle.std.{proofs.Common.{◌≡◌, ℕ, zero, suc, Bool, true, false, cond, List, [], ◌∷◌, Some, None, refl, ap, subst, slice_get}}
use Rattle.lists.proofs.{ListLaws.same_some}
use Rattle.jvm_types.specs.declared.{outcome.End.TheVariants.Returned, program.Program.Program}
use Rattle.laws_programs.proofs.LocalGoing.{at_index}
use Rattle.checked_program.specs.MarkedProgram.{MarkedProgram}
use Rattle.machine_types.specs.{Core.{ended_by, may_begin_by, may_begin, part_begins, next_threads}, Parts.{has_returned, has_finished}, Structure.{IsStructured, Structure}, Threads.Thread}
use Rattle.machine_types.{specs.declared.phase.Phase.{Phase, TheVariants.{Ended, Idle}}, proofs.Lists.every}
use Rattle.laws_threads.specs.PartLaws.{PartFits, PartsFit}
use Rattle.laws_simulation.proofs.{NextBeside.idle_attempt, PartsDue.no_attempt}

-- ---- one thread

-- it has ended by itself
ended_untried : (c : MarkedProgram) (was : Phase) (z : Thread) (phase : Phase) → z.phase ≡ phase → ended_by has_finished phase ≡ true → IsStructured c was z → z.attempt ≡ None
ended_untried c was z (Ended e) f h k = no_attempt c was z e h f k
ended_untried c was z phase f h k = absurd (cc)

returned_finished : (phase : Phase) → ended_by has_returned phase ≡ true → ended_by has_finished phase ≡ true
returned_finished (Ended Returned) e = refl
returned_finished phase e = absurd (cc)

-- ---- all of them

module _ (c : MarkedProgram) (was : ℕ → Phase) (x : Thread) (workers : List Thread) (structure : Structure c was (x ∷ workers)) where
  by_part : (part : ℕ) → may_begin_by part x.phase workers ≡ true → PartFits part x.phase workers → (t : ℕ) (z : Thread) → slice_get (x ∷ workers) t ≡ Some z → z.attempt ≡ None
  by_part zero may fits zero z e = subst (λ (w : Thread). w.attempt ≡ None) (same_some e) (ended_untried c (was 0) x x.phase refl (returned_finished x.phase may) (structure 0 x refl))
  by_part zero may fits (suc u) z e = idle_attempt c (was (suc u)) z (at_index (λ (w : Thread). w.phase ≡ Idle) workers u z fits e) (structure (suc u) z e)
  by_part (suc zero) may fits zero z e = subst (λ (w : Thread). w.attempt ≡ None) (same_some e) (no_attempt c (was 0) x Returned refl fits (structure 0 x refl))
  by_part (suc zero) may fits (suc u) z e = ended_untried c (was (suc u)) z z.phase refl (every (λ (w : Thread). ended_by has_finished w.phase) workers may u z e) (structure (suc u) z e)
  by_part (suc (suc part)) may fits t z e = absurd (cc)

pub none_tries : (c : MarkedProgram) (was : ℕ → Phase) (threads : List Thread) → may_begin threads ≡ true → PartsFit threads → Structure c was threads → (t : ℕ) (z : Thread) → slice_get threads t ≡ Some z → z.attempt ≡ None
none_tries c was [] may fits structure t z e = absurd (cc)
none_tries c was (x ∷ workers) may fits structure t z e = by_part c was x workers structure x.part may fits t z e

-- where none may begin, the threads are as they were
pub same_threads : (p : Program) (threads : List Thread) → may_begin threads ≡ false → next_threads p threads ≡ threads
same_threads p [] may = refl
same_threads p (x ∷ workers) may = ap (λ (b : Bool). cond b (part_begins p x.part x workers) (x ∷ workers)) may
