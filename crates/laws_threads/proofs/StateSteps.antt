-- The threads of a state stay structured.
use Rattle.std.proofs.{Common.{◌≡◌, ℕ, zero, suc, Bool, false, cond, List, [], ◌∷◌, Option, Some, None, refl, sym, ap, ◌∙◌, subst, arith, ◌==◌, slice_get, slice_set}, lemmas.Bool.Decides.nat_tests}
use Rattle.checked_program.specs.MarkedProgram.{MarkedProgram, IsMarked}
use Rattle.machine_types.specs.{Accesses.found_by, Bounds.IsRooted, Core.{Core, event_of}, Events.{wanted, moved}, PlainMemory.Object, Structure.{IsStructured, Structure}, Threads.Thread}
use Rattle.machine_types.specs.{Typed.{HasClass, ThreadHolds}, declared.phase.Phase.Phase}
use Rattle.laws_threads.{specs.{InsideMoves.{BeginsAttempt, EntersInside}, StateLaws.{counted_of, counted_phase_at, EventsKeepStructure}, StructureLaws.StaysStructured}, proofs.Tests.either_way}
use Rattle.laws_threads.proofs.ThreadSteps.{structure_kept}

-- ---- one thread of a list is changed

pub set_there : {A : Type 0} (xs : List A) (i : ℕ) (x y z : A) → slice_get xs i ≡ Some x → slice_get (slice_set xs i y) i ≡ Some z → y ≡ z
set_there [] i x y z e f = absurd (cc)
set_there (a ∷ xs) zero x y z e f = cc
set_there (a ∷ xs) (suc i) x y z e f = set_there xs i x y z e f

pub set_other : {A : Type 0} (xs : List A) (i j : ℕ) (x : A) → (j == i) ≡ false → slice_get (slice_set xs i x) j ≡ slice_get xs j
set_other [] i j x d = refl
set_other (a ∷ xs) zero zero x d = absurd (grind (arith, nat_tests, d))
set_other (a ∷ xs) zero (suc j) x d = refl
set_other (a ∷ xs) (suc i) zero x d = refl
set_other (a ∷ xs) (suc i) (suc j) x d = set_other xs i j x (grind (arith, nat_tests, d))

-- ---- an event

module _ (begin : BeginsAttempt) (entered_again : EntersInside) (c : MarkedProgram) (objects : List Object) (was : ℕ → Phase) (s : Core) (t : ℕ) (marked : IsMarked c) (structure : Structure c was s.threads) where
  moved_thread : (x : Thread) (got : ℕ) → slice_get s.threads t ≡ Some x → ThreadHolds c (HasClass objects) x × IsRooted c.program x → Structure c (counted_phase_at was t (slice_set s.threads t (moved c x x.phase got))) (slice_set s.threads t (moved c x x.phase got))
  moved_thread x got e k u y f =
      let now : Thread = moved c x x.phase got in
      let stays : StaysStructured c (was t) now = structure_kept begin entered_again (HasClass objects) c (was t) x got marked (structure t x e) k.0 k.1 in
      either_way (λ (b : Bool). (u == t) ≡ b → IsStructured c (cond b (counted_of (was t) (slice_get (slice_set s.threads t now) t)) (was u)) y) (u == t)
      (λ g. let same : u ≡ t = grind (arith, nat_tests, g) in
      let at : slice_get (slice_set s.threads t now) t ≡ Some y = ap (λ (n : ℕ). slice_get (slice_set s.threads t now) n) (sym same) ∙ f in
      subst (λ (o : Option Thread). IsStructured c (counted_of (was t) o) y) (sym at) (subst (λ (z : Thread). StaysStructured c (was t) z) (set_there s.threads t x now y e at) stays))
      (λ g. structure u y (sym (set_other s.threads t u now g) ∙ f)) refl

  unmoved : slice_get s.threads t ≡ None → Structure c (counted_phase_at was t s.threads) s.threads
  unmoved e u y f = either_way (λ (b : Bool). (u == t) ≡ b → IsStructured c (cond b (counted_of (was t) (slice_get s.threads t)) (was u)) y) (u == t)
      (λ g. let same : u ≡ t = grind (arith, nat_tests, g) in let bad : Some y ≡ None = sym f ∙ ap (slice_get s.threads) same ∙ e in absurd (cc))
      (λ g. structure u y f) refl

pub events_keep : BeginsAttempt → EntersInside → EventsKeepStructure
events_keep begin entered_again c objects was s t marked structure k = by_thread (slice_get s.threads t) refl
  where
    by_thread : (o : Option Thread) → slice_get s.threads t ≡ o → Structure c (counted_phase_at was t (event_of c s t o).threads) (event_of c s t o).threads
    by_thread None e = unmoved begin entered_again c objects was s t marked structure e
    by_thread (Some x) e = moved_thread begin entered_again c objects was s t marked structure x (found_by s.words (wanted c x x.phase)) e (k x e)
