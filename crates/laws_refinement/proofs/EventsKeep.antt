-- An event brings no thread to life, and leaves the part of thread 0.
use Rattle.std.proofs.Common.{◌≡◌, inl, inr, ◌≢◌, ℕ, zero, suc, false, List, [], ◌∷◌, Option, Some, None, refl, sym, ap, subst, ◌∙◌, arith, ◌==◌, slice_get, slice_set}
use Rattle.std.proofs.lemmas.{Bool.cases_Bool, Bool.Decides.{nat_tests}}
use Rattle.checked_program.specs.MarkedProgram.{MarkedProgram}
use Rattle.machine_types.{specs.{Accesses.found_by, Core.{Core, event, event_of, is_live_thread, lives}, Events.{moved, wanted}, Threads.Thread}, proofs.{Lists.got_other, OnlyLive.only_live_change}}
use Rattle.laws_threads.specs.GivenThread.{Given, GivenIsKept}
use Rattle.laws_refinement.proofs.StageFits.{PartIs}

abbrev now : MarkedProgram → Core → Thread → Thread
now c s x = moved c x x.phase (found_by s.words (wanted c x x.phase))

-- ---- who lives

other_lives : (c : MarkedProgram) (s : Core) (t u : ℕ) → u ≢ t → (o : Option Thread) → slice_get s.threads t ≡ o → lives (event_of c s t o) u ≡ lives s u
other_lives c s t u n None e = refl
other_lives c s t u n (Some x) e = ap is_live_thread (got_other s.threads t u (now c s x) n)

pub none_wakes : (c : MarkedProgram) (s : Core) (t u : ℕ) → lives s u ≡ false → lives (event c s t) u ≡ false
none_wakes c s t u dead = elim (cases_Bool (u == t)) [
  | inl e ↦ ap (λ (r : Core). lives r u) (only_live_change c s t (ap (lives s) (sym (grind (arith, nat_tests, e))) ∙ dead)) ∙ dead
  | inr e ↦ other_lives c s t u (λ same. let no : ⊥ = grind (arith, nat_tests, e, same) in no) (slice_get s.threads t) refl ∙ dead
]

-- ---- the part of thread 0

first_part : (P : ℕ → Type 0) (xs : List Thread) (t : ℕ) (old new : Thread) → slice_get xs t ≡ Some old → new.part ≡ old.part → ((x : Thread) → slice_get xs 0 ≡ Some x → P x.part)
    → (x : Thread) → slice_get (slice_set xs t new) 0 ≡ Some x → P x.part
first_part P [] t old new there same h x e = absurd (cc)
first_part P (y ∷ ys) zero old new there same h x e =
    let is : new ≡ x = cc in
    subst (λ (z : Thread). P z.part) is (subst P (sym same) (h old there))
first_part P (y ∷ ys) (suc t) old new there same h x e = h x e

part_kept : GivenIsKept → (P : ℕ → Type 0) (c : MarkedProgram) (s : Core) (t : ℕ) (o : Option Thread) → slice_get s.threads t ≡ o → PartIs P s → PartIs P (event_of c s t o)
part_kept given P c s t None e h = h
part_kept given P c s t (Some x) e h = first_part P s.threads t x (now c s x) e (ap (λ (g : Given). g.part) (given c x x.phase (found_by s.words (wanted c x x.phase)))) h

pub keeps_part : GivenIsKept → (P : ℕ → Type 0) (c : MarkedProgram) (s : Core) (t : ℕ) → PartIs P s → PartIs P (event c s t)
keeps_part given P c s t h = part_kept given P c s t (slice_get s.threads t) refl h
