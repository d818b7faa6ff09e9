-- An instruction that comes to a monitor leaves its thread at the entry, unless an attempt fails by it.
use Rattle.std.proofs.Common.{◌≡◌, ℕ, Bool, true, false, cond, List, Option, Some, None, refl, sym, ap, ◌∙◌, subst}
use Rattle.jvm_types.specs.declared.program.Program.{Program}
use Rattle.checked_program.specs.MarkedProgram.{MarkedProgram}
use Rattle.machine_types.specs.{Accesses.found_by, Core.{Core, core}, Elision.{is_same, is_checked, if_same, fails}, Events.{wanted, moved}, Frames.{Top, top_of, effect_at}}
use Rattle.machine_types.specs.{Going.{goes_on, goes_on_if}, History.{GoesOn, Fails, fate, fate_by, run_fate}, Instructions.{begun, did, instructed, ran}, Onward.{Entering, done}}
use Rattle.machine_types.specs.{Threads.{Attempt, Frame, Thread}, declared.{effect.Effect.{Effect, TheVariants.Indexes}, phase.Phase.{Phase, TheVariants.Run}}}
use Rattle.laws_objects.proofs.ThrownInits.{moved_is}
use Rattle.laws_refinement.specs.EntryLaws.{IsToEnter, InstructionsEnter}

-- behind a check that fails no attempt
if_same_goes : (z y : Thread) (o : Option Attempt) (got : ℕ) → ((a : Attempt) → o ≡ Some a → fate_by (is_same a got) GoesOn ≡ Fails → ⊥) → if_same z o got y ≡ y
if_same_goes z y None got never = refl
if_same_goes z y (Some a) got never = (elim (is_same a got) as (λ (b : Bool). (fate_by b GoesOn ≡ Fails → ⊥) → cond b y (fails z a) ≡ y) [ true ↦ λ passes. refl | false ↦ λ passes. absurd (passes refl) ]) (never a refl)

module _ (p : Program) (at : Top) (got m : ℕ) (fs : List Frame) where
  did_enter : (s : Thread) (e : Effect) → done p at e got ≡ Some (Entering m fs) → did p s at e got ≡ goes_on s (Entering m fs)
  did_enter s (Indexes array index stored) k = absurd (let bad : None ≡ Some (Entering m fs) = k in cc)
  did_enter s e k = first_of (cc, search (ap (goes_on_if s) k))

  instructed_goes : (x : Thread) (e : Effect) → ((a : Attempt) → x.attempt ≡ Some a → cond (is_checked at.frame.pc e) (fate_by (is_same a got) GoesOn) GoesOn ≡ Fails → ⊥) → instructed p (begun x) at e got ≡ did p (begun x) at e got
  instructed_goes x e never = (elim (is_checked at.frame.pc e) as (λ (b : Bool). ((a : Attempt) → x.attempt ≡ Some a → cond b (fate_by (is_same a got) GoesOn) GoesOn ≡ Fails → ⊥) → cond b (if_same (begun x) x.attempt got (did p (begun x) at e got)) (did p (begun x) at e got) ≡ did p (begun x) at e got)
      [ true ↦ λ never. if_same_goes (begun x) (did p (begun x) at e got) x.attempt got never | false ↦ λ never. refl ]) never

module _ (c : MarkedProgram) (x : Thread) (got : ℕ) (at : Top) (m : ℕ) (fs : List Frame) (is_run : x.phase ≡ Run) (top : top_of c.program x.frames ≡ Some at) where
  to_enter : done c.program at (effect_at c.program at) got ≡ Some (Entering m fs) → ((a : Attempt) → x.attempt ≡ Some a → fate c x a x.phase got ≡ Fails → ⊥) → IsToEnter x (moved c x x.phase got) m fs
  to_enter comes never =
      let moves : moved c x x.phase got ≡ goes_on (begun x) (Entering m fs) = ap (λ (phase : Phase). moved c x phase got) is_run
      ∙ ap (λ (o : Option Top). ran c.program x o got) top ∙ instructed_goes c.program at got m fs x (effect_at c.program at)
      (λ a tries failed. never a tries (ap (λ (phase : Phase). fate c x a phase got) is_run ∙ ap (λ (o : Option Top). run_fate c a o got) top ∙ failed))
      ∙ did_enter c.program at got m fs (begun x) (effect_at c.program at) comes in
      subst (λ (y : Thread). IsToEnter x y m fs) (sym moves) (record { enters = refl; frames = refl; turns = refl; held = refl; attempt = refl })

pub instructions_enter : InstructionsEnter
instructions_enter c cfg hs t x y at m fs here there is_run top comes never =
    let s : Core = core c cfg hs in
    subst (λ (z : Thread). IsToEnter x z m fs) (moved_is c s t x y here there) (to_enter c x (found_by s.words (wanted c x x.phase)) at m fs is_run top comes never)
