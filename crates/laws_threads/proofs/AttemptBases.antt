-- The frame at the base of an attempt is that of the section's method.
use Rattle.std.{proofs.Common.{◌≡◌, ℕ, zero, suc, ◌+◌, ◌-◌, ◌<◌, List, [], ◌∷◌, length, take, drop, Some, None, refl, sym, ap, ◌∙◌, subst, inl, inr, arith, ◌⊎◌}, specs.List.AllZip}
use Rattle.lists.proofs.ListLaws.{same_some}
use Rattle.checked_program.specs.{MarkedProgram.MarkedProgram, SectionLaws.{Part, AreParts}, declared.section.Mode.Mode}
use Rattle.machine_types.specs.{Standing.tags_of, Structure.{AttemptStandsIn, Finishes, RunsSection, IsPart, frames_inside, section_of}, Threads.{Frame, Attempt}, declared.phase.Phase.Phase}
use Rattle.laws_threads.specs.AttemptLaws.{IsOnBase, AttemptsAreBased}

-- behind so many frames
pub record IsBehind (count method : ℕ) (fs : List Frame) : Type 0 where
  pub frame : Frame
  pub below : List Frame
  pub there : drop count fs ≡ frame ∷ below
  pub is_method : method ≡ frame.method

module _ (c : MarkedProgram) (a : Attempt) where
  in_section : (count : ℕ) (fs : List Frame) (parts : List Part) (mode : Mode) → count < length fs → AllZip (IsPart c) (take (suc count) fs) parts → AreParts c.program (tags_of c) (section_of a) a.entry.receiver parts mode → IsBehind count a.entry.method fs
  in_section count [] parts mode l z p = absurd (omega (arith, l))
  in_section zero (f ∷ fs) [] mode l z p = absurd p
  in_section zero (f ∷ fs) (x ∷ []) mode l z p = record { frame = f; below = fs; there = refl; is_method = sym p.method ∙ ap (λ (y : Part). y.method) z.0.1 }
  in_section zero (f ∷ fs) (x ∷ y ∷ parts) mode l z p = absurd z.1
  in_section (suc count) (f ∷ fs) [] mode l z p = absurd p
  in_section (suc count) (f ∷ []) (x ∷ parts) mode l z p = absurd (omega (arith, l))
  in_section (suc count) (f ∷ g ∷ fs) (x ∷ []) mode l z p = absurd z.1
  in_section (suc count) (f ∷ g ∷ fs) (x ∷ y ∷ parts) mode l z p = let b = in_section count (g ∷ fs) (y ∷ parts) p.0 (omega (arith, l)) z.1 p.1 in record { frame = b.frame; below = b.below; there = b.there; is_method = b.is_method }

  when_finished : (count : ℕ) (fs : List Frame) (frame : Frame) → count < length fs → take (suc count) fs ≡ frame ∷ [] → frame.method ≡ a.entry.method → IsBehind count a.entry.method fs
  when_finished count [] frame l e m = absurd (omega (arith, l))
  when_finished zero (f ∷ fs) frame l e m = record { frame = f; below = fs; there = refl; is_method = sym m ∙ ap (λ (x : Frame). x.method) (let same : f ≡ frame = cc in sym same) }
  when_finished (suc count) (f ∷ []) frame l e m = absurd (omega (arith, l))
  when_finished (suc count) (f ∷ g ∷ fs) frame l e m = absurd (cc)

  based : (phase : Phase) (fs : List Frame) → a.base < length fs → Finishes a phase (frames_inside a fs) ⊎ RunsSection c a (frames_inside a fs) → IsOnBase a fs
  based phase fs l inside =
      let count : ℕ = length fs - (a.base + 1) in
      let more : length fs - a.base ≡ suc count = omega (arith, l) in
      let behind : IsBehind count a.entry.method fs = either count more inside in
      record { based = l; frame = behind.frame; below = behind.below; at_base = behind.there; method = behind.is_method }
    where
      either : (count : ℕ) → length fs - a.base ≡ suc count → Finishes a phase (frames_inside a fs) ⊎ RunsSection c a (frames_inside a fs) → IsBehind count a.entry.method fs
      either count e (inl x) = when_finished count fs x.frame (omega (arith, e)) (sym (ap (λ (n : ℕ). take n fs) e) ∙ x.alone) x.method
      either count e (inr x) = in_section count fs x.0 x.1 (omega (arith, e)) (subst (λ (n : ℕ). AllZip (IsPart c) (take n fs) x.0) e x.2) x.3

pub are_based : AttemptsAreBased
are_based c was s a structured e = (elim s.attempt as (λ o. o ≡ Some a → AttemptStandsIn c was s.frames s.held o → IsOnBase a s.frames) [
  | None ↦ λ e k. absurd (cc)
  | Some b ↦ λ e k. subst (λ (x : Attempt). IsOnBase x s.frames) (same_some e) (based c b was s.frames k.based k.frames)
]) e structured.attempt
