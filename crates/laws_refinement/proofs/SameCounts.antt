-- Where a part of the run begins, no thread counts, tries or prints anything.
use Rattle.std.{proofs.Common.{◌≡◌, ◌⊎◌, inl, inr, ℕ, zero, suc, Bool, true, false, cond, List, [], ◌∷◌, map, Option, Some, None, refl, sym, ap, ◌∙◌, subst, arith, slice_get}, specs.List.AllByRecursion}
use Rattle.lists.proofs.ListLaws.{same_some}
use Rattle.jvm_types.specs.declared.{outcome.Counts.Counts, program.Program.Program}
use Rattle.machine_types.specs.{Core.{part_phase, may_begin, may_begin_by, with_roots, part_begins, next_threads}, Counting.{CountsFit, extra_of}, History.Past, Parts.{run_roots, done_roots}}
use Rattle.machine_types.specs.{Threads.{Attempt, Thread}, declared.phase.Phase.{Phase, TheVariants.Idle}}
use Rattle.laws_threads.specs.PartLaws.{PartFits, PartsFit}

-- its phase is as it was, or a part of its own begins
abbrev pub IsPassedOn : (was now : Phase) → Type 0
IsPassedOn was now = (now ≡ was) ⊎ ((roots : List ℕ) × (now ≡ part_phase roots))

pub record SameCounts (x z : Thread) : Type 0 where
  pub counts : z.counts ≡ x.counts
  pub attempt : z.attempt ≡ x.attempt
  pub extra : extra_of None z.phase ≡ extra_of None x.phase
  pub phase : IsPassedOn x.phase z.phase

as_it_is : (x z : Thread) → x ≡ z → SameCounts x z
as_it_is x z e = subst (λ (y : Thread). SameCounts x y) e (record { counts = refl; attempt = refl; extra = refl; phase = inl refl })

pub part_extra : (roots : List ℕ) → extra_of None (part_phase roots) ≡ 0
part_extra [] = refl
part_extra (number ∷ roots) = refl

begins_same : (roots : List ℕ) (x z : Thread) → extra_of None x.phase ≡ 0 → with_roots roots x ≡ z → SameCounts x z
begins_same roots x z none e = subst (λ (y : Thread). SameCounts x y) e (record { counts = refl; attempt = refl; extra = part_extra roots ∙ sym none; phase = inr (roots, refl) })

-- which thread it was
pub record CameFrom (threads : List Thread) (t : ℕ) (z : Thread) : Type 0 where
  pub old : Thread
  pub there : slice_get threads t ≡ Some old
  pub same : SameCounts old z

workers_same : (roots : List ℕ) (workers : List Thread) (t : ℕ) (z : Thread) → AllByRecursion (λ w. w.phase ≡ Idle) workers → slice_get (map (with_roots roots) workers) t ≡ Some z → CameFrom workers t z
workers_same roots [] t z idle e = absurd (cc)
workers_same roots (x ∷ workers) zero z idle e = record { old = x; there = refl; same = begins_same roots x z (ap (extra_of None) idle.0) (same_some e) }
workers_same roots (x ∷ workers) (suc t) z idle e = let k = workers_same roots workers t z idle.1 e in record { old = k.old; there = k.there; same = k.same }

begun : (p : Program) (n : ℕ) (x : Thread) (workers : List Thread) (t : ℕ) (z : Thread) → may_begin_by n x.phase workers ≡ true → PartFits n x.phase workers → slice_get (part_begins p n x workers) t ≡ Some z → CameFrom (x ∷ workers) t z
begun p zero x workers zero z may fits e = record { old = x; there = refl; same = subst (λ (y : Thread). SameCounts x y) (same_some e) (record { counts = refl; attempt = refl; extra = refl; phase = inl refl }) }
begun p zero x workers (suc t) z may fits e = let k = workers_same (run_roots p) workers t z fits e in record { old = k.old; there = k.there; same = k.same }
begun p (suc zero) x workers zero z may fits e = record { old = x; there = refl; same = subst (λ (y : Thread). SameCounts x y) (same_some e) (record { counts = refl; attempt = refl; extra = part_extra (done_roots p) ∙ sym (ap (extra_of None) fits); phase = inr (done_roots p, refl) }) }
begun p (suc zero) x workers (suc t) z may fits e = record { old = z; there = e; same = as_it_is z z refl }
begun p (suc (suc n)) x workers t z may fits e = absurd (cc)

pub came_from : (p : Program) (threads : List Thread) (t : ℕ) (z : Thread) → PartsFit threads → slice_get (next_threads p threads) t ≡ Some z → CameFrom threads t z
came_from p [] t z fits e = record { old = z; there = e; same = as_it_is z z refl }
came_from p (x ∷ workers) t z fits e = (elim (may_begin (x ∷ workers)) as (λ (b : Bool). may_begin (x ∷ workers) ≡ b → slice_get (cond b (part_begins p x.part x workers) (x ∷ workers)) t ≡ Some z → CameFrom (x ∷ workers) t z)
    [ true ↦ λ m f. begun p x.part x workers t z m fits f | false ↦ λ m f. record { old = z; there = f; same = as_it_is z z refl } ]) refl e

pub counted_same : (x z : Thread) (d : Past) (runs takes : ℕ) → x.attempt ≡ None → SameCounts x z → CountsFit x d runs takes → CountsFit z d runs takes
counted_same x z d runs takes outside same fit =
    let locked : z.counts.locked ≡ x.counts.locked = ap (λ (k : Counts). k.locked) same.counts in
    let extra : extra_of z.attempt z.phase ≡ extra_of x.attempt x.phase =
    ap (λ (a : Option Attempt). extra_of a z.phase) (same.attempt ∙ outside) ∙ same.extra ∙ ap (λ (a : Option Attempt). extra_of a x.phase) (sym outside) in
    let instructions = fit.instructions in
    let sections = fit.sections in
    record { instructions = omega (arith, ap (λ (k : Counts). k.instructions) same.counts, extra, instructions); sections = omega (arith, ap (λ (k : Counts). k.elided) same.counts, locked, sections) }
