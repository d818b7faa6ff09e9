-- What a thread keeps of how many of its attempts failed at an entry agrees with what its events tell, whatever its next event is.
use Rattle.std.proofs.{Common.{◌≡◌, ℕ, ◌+◌, ◌<◌, ◌≤◌, nat_lt, Bool, false, Option, Some, None, refl, sym, ap, ◌∙◌, subst, arith, ◌&&◌, if◌then◌else◌}, lemmas.Bool.{ltb-true, Decides.nat_tests}}
use Rattle.lists.proofs.TestLaws.{both_are_true}
use Rattle.checked_program.specs.MarkedProgram.{MarkedProgram}
use Rattle.machine_types.specs.{Elision.enters_marked, Events.moved, History.{Fate, GoesOn, Fails, Finishes, fate}, Threads.{Attempt, Thread}, declared.phase.Phase.{Phase, TheVariants.Enter}}
use Rattle.laws_refinement.{specs.Entries.{comes_to_enter, fails_more, failed_after, KeepsCount}, proofs.{Inside.Inside, OutsideEntries.{is_entering, ComesNew, Begins, MovesTo, outside_moves}}}
use Rattle.laws_refinement.proofs.Within.{HasFate, inside_moves}

-- of a thread that is y so many have failed
pub record Counts (y : Thread) (failed : ℕ) : Type 0 where
  pub few : failed ≤ 2
  pub kept : KeepsCount y.attempt y.phase failed

elsewhere : (phase : Phase) (failed : ℕ) → is_entering phase ≡ false → KeepsCount None phase failed
elsewhere (Enter m tried) failed e = absurd (cc)
elsewhere phase failed e = tt

-- ---- outside an attempt

comes_new : (was now : Phase) (failed : ℕ) → ComesNew was now → KeepsCount None now (if comes_to_enter was now then 0 else failed)
comes_new was (Enter m tried) failed k = subst (λ (phase : Phase). tried ≡ (if comes_to_enter phase (Enter m tried) then 0 else failed)) (sym k.0) k.1
comes_new was now failed k = tt

module _ (c : MarkedProgram) (x y : Thread) (got failed : ℕ) where
  -- of the attempt that begins
  begins_counted : (a : Attempt) → Begins c x y got a → KeepsCount None x.phase failed → KeepsCount (Some a) y.phase failed
  begins_counted a b kept =
      let same : b.tried ≡ failed = subst (λ (phase : Phase). KeepsCount None phase failed) b.enters kept in
      let few = ltb-true b.tried 2 (both_are_true x.cfg.elide (nat_lt b.tried 2) (both_are_true (x.cfg.elide && nat_lt b.tried 2) (enters_marked c x.frames) b.may).0).1 in
      (b.number ∙ ap (λ (n : ℕ). n + 1) same, subst (λ (n : ℕ). n < 2) same few)

  outside_counted : (o : Option Attempt) → y.attempt ≡ o → MovesTo c x y got o → KeepsCount None x.phase failed → failed ≤ 2 → Counts y (if comes_to_enter x.phase y.phase then 0 else failed)
  outside_counted None e new kept few = record {
    few = grind (arith, nat_tests, few);
    kept = subst (λ (o : Option Attempt). KeepsCount o y.phase (if comes_to_enter x.phase y.phase then 0 else failed)) (sym e) (comes_new x.phase y.phase failed new.0);
  }
  outside_counted (Some a) e b kept few =
      let stays : comes_to_enter x.phase y.phase ≡ false = subst (λ (phase : Phase). comes_to_enter phase y.phase ≡ false) (sym b.enters) refl in
      record {
        few = grind (arith, nat_tests, few);
        kept = subst (λ (o : Option Attempt). KeepsCount o y.phase (if comes_to_enter x.phase y.phase then 0 else failed)) (sym e)
            (subst (λ (b : Bool). KeepsCount (Some a) y.phase (if b then 0 else failed)) (sym stays) (begins_counted a b kept));
      }

-- ---- inside

module _ (x y : Thread) (a : Attempt) (failed : ℕ) (few : failed ≤ 2) (number : a.number ≡ failed + 1) (below : failed < 2) where
  inside_counted : (f : Fate) → HasFate x y a f → Counts y (fails_more f failed)
  inside_counted GoesOn k = record { few = few; kept = subst (λ (o : Option Attempt). KeepsCount o y.phase failed) (sym k.1) (number, below) }
  inside_counted Fails k = record {
    few = omega (arith, below);
    kept = subst (λ (o : Option Attempt). KeepsCount o y.phase (failed + 1)) (sym k.outside) (subst (λ (phase : Phase). KeepsCount None phase (failed + 1)) (sym k.enters) number);
  }
  inside_counted Finishes k = record { few = few; kept = subst (λ (o : Option Attempt). KeepsCount o y.phase failed) (sym k.0) (elsewhere y.phase failed k.1) }

-- ---- an event

pub event_counted : (c : MarkedProgram) (x : Thread) (got failed : ℕ) → ((a : Attempt) → x.attempt ≡ Some a → Inside c x a) → Counts x failed → Counts (moved c x x.phase got) (failed_after c x x.attempt got failed)
event_counted c x got failed inside k = (elim x.attempt as (λ (o : Option Attempt). x.attempt ≡ o → Counts (moved c x x.phase got) (failed_after c x o got failed)) [
  | None ↦ λ e. outside_counted c x (moved c x x.phase got) got failed (moved c x x.phase got).attempt refl (outside_moves c x got e x.phase refl)
      (subst (λ (o : Option Attempt). KeepsCount o x.phase failed) e k.kept) k.few
  | Some a ↦ λ e.
      let kept = subst (λ (o : Option Attempt). KeepsCount o x.phase failed) e k.kept in
      inside_counted x (moved c x x.phase got) a failed k.few kept.0 kept.1 (fate c x a x.phase got) (inside_moves c x a (inside a e) got)
]) refl
