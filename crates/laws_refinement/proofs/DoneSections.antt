-- When an attempt has done its section: its thread leaves the monitor for the last time, and finds the lock word as it was noted.
use Rattle.std.proofs.Common.{◌≡◌, ℕ, Bool, true, false, cond, Option, Some, None, refl, sym, ap, ◌∙◌, subst, arith, ◌==◌, nat_lt, slice_get, slice_set}
use Rattle.std.proofs.lemmas.Bool.Decides.{nat_tests, Decides-eqb}
use Rattle.checked_program.specs.MarkedProgram.{MarkedProgram}
use Rattle.machine_types.specs.{Accesses.{found_by, words_after}, Attempts.IsAsNoted, Core.{Core, event, event_of}, Elision.{elided, fails, is_checked, is_same}, Events.{wanted, moved}}
use Rattle.machine_types.specs.{Frames.{Top, top_of, effect_at}, Going.{goes_after, goes_on, goes_on_if}, HeldMonitors.held_at, History.{GoesOn, Finishes, fate, fate_by, leave_fate, run_fate}}
use Rattle.machine_types.specs.{LockWords.word_of_lock, Monitors.{Claim, HasNot, Tries, claim, claim_by, finish_wants, finishes, leave_moves, leave_wants}, Onward.{Onward, after}}
use Rattle.machine_types.specs.{Threads.{Attempt, Thread}, declared.{access.Access.TheVariants.Load, lock.{Held.Held, LockWord.TheVariants.Free}, phase.{After.After, Phase.Phase}}}
use Rattle.laws_states.proofs.WordViews.{set_self}
use Rattle.machine_types.specs.declared.phase.Phase.TheVariants as phases

-- ---- what the fate says

pub record IsDone (x : Thread) (a : Attempt) (phase : Phase) (got : ℕ) : Type 0 where
  -- it goes on so
  pub after_it : After
  pub leaves : phase ≡ phases.Leave a.monitor after_it
  pub claims : claim x a.monitor ≡ Tries a
  pub outermost : a.inner ≡ 0
  pub same : is_same a got ≡ true

never_by : (b : Bool) → fate_by b GoesOn ≡ Finishes → ⊥
never_by true e = absurd (cc)
never_by false e = absurd (cc)

pub never_runs : (c : MarkedProgram) (a : Attempt) (o : Option Top) (got : ℕ) → run_fate c a o got ≡ Finishes → ⊥
never_runs c a None got e = absurd (cc)
never_runs c a (Some at) got e = (elim (is_checked at.frame.pc (effect_at c.program at)) as (λ (b : Bool). cond b (fate_by (is_same a got) GoesOn) GoesOn ≡ Finishes → ⊥)
    [ true ↦ λ f. never_by (is_same a got) f | false ↦ λ f. absurd (cc) ]) e

by_claim : (x : Thread) (a : Attempt) (m : ℕ) (b : After) (got : ℕ) (o : Option Held) → held_at x.held m ≡ o → x.attempt ≡ Some a → leave_fate (claim_by m o x.attempt) got ≡ Finishes → IsDone x a (phases.Leave m b) got
by_claim x a m b got (Some h) h_is tries e = absurd (cc)
by_claim x a m b got None none tries e = (elim (a.monitor == m) as (λ (d : Bool). (a.monitor == m) ≡ d → leave_fate (cond d (Tries a) HasNot) got ≡ Finishes → IsDone x a (phases.Leave m b) got) [
  | true ↦ λ k f. on_it ((Decides-eqb a.monitor m).0 k) (nat_lt 0 a.inner) refl f
      (ap (λ (h : Option Held). claim_by m h x.attempt) none ∙ ap (λ (r : Option Attempt). claim_by m None r) tries ∙ ap (λ (d : Bool). cond d (Tries a) HasNot) k)
  | false ↦ λ k f. absurd (cc)
]) refl (subst (λ (k : Option Attempt). leave_fate (claim_by m None k) got ≡ Finishes) tries e)
  where
    on_it : a.monitor ≡ m → (d : Bool) → nat_lt 0 a.inner ≡ d → cond d GoesOn (fate_by (is_same a got) Finishes) ≡ Finishes → (claim x m ≡ Tries a) → IsDone x a (phases.Leave m b) got
    on_it same true k f g = absurd (cc)
    on_it same false k f g = record {
      after_it = b;
      leaves = ap (λ (n : ℕ). phases.Leave n b) (sym same);
      claims = ap (claim x) same ∙ g;
      outermost = grind (arith, nat_tests, k);
      same = (elim (is_same a got) as (λ (b : Bool). fate_by b Finishes ≡ Finishes → b ≡ true) [ true ↦ λ e. refl | false ↦ λ e. absurd (cc) ]) f;
    }

pub is_done : (c : MarkedProgram) (x : Thread) (a : Attempt) (phase : Phase) (got : ℕ) → x.attempt ≡ Some a → fate c x a phase got ≡ Finishes → IsDone x a phase got
is_done c x a phases.Run got tries e = absurd (never_runs c a (top_of c.program x.frames) got e)
is_done c x a (phases.Throw r class) got tries e = absurd (never_by (is_same a got) e)
is_done c x a (phases.Leave m b) got tries e = by_claim x a m b got (held_at x.held m) refl tries e
is_done c x a phase got tries e = absurd (cc)

-- ---- the event

module _ (c : MarkedProgram) (s : Core) (t : ℕ) (x : Thread) (a : Attempt) (there : slice_get s.threads t ≡ Some x) (d : IsDone x a x.phase (found_by s.words (wanted c x x.phase))) where
  wants : wanted c x x.phase ≡ Some (Load a.monitor)
  wants = ap (wanted c x) d.leaves ∙ ap (leave_wants x a.monitor) d.claims ∙ ap (finish_wants a.monitor) d.outermost

  pub as_noted : IsAsNoted s.words a
  as_noted = sym (ap (found_by s.words) wants) ∙ (Decides-eqb (found_by s.words (wanted c x x.phase)) (word_of_lock (Free a.noted))).0 d.same

  moves : (o : Onward) → after c.program x.frames d.after_it ≡ Some o → moved c x x.phase (found_by s.words (wanted c x x.phase)) ≡ goes_on (elided x) o
  moves o goes =
      let got : ℕ = found_by s.words (wanted c x x.phase) in
      ap (λ (phase : Phase). moved c x phase got) d.leaves
      ∙ ap (λ (k : Claim). leave_moves c.program x a.monitor d.after_it k got) d.claims
      ∙ ap (λ (n : ℕ). finishes c.program x d.after_it a n got) d.outermost
      ∙ ap (λ (b : Bool). cond b (goes_after c.program (elided x) d.after_it) (fails x a)) d.same ∙ ap (goes_on_if (elided x)) goes

  pub event_is : (o : Onward) → after c.program x.frames d.after_it ≡ Some o → event c s t ≡ record { words = s.words; threads = slice_set s.threads t (goes_on (elided x) o) }
  event_is o goes = ap (event_of c s t) there ∙ (λ i. record { words = (ap (words_after s.words) wants ∙ set_self s.words a.monitor) i; threads = slice_set s.threads t (moves o goes i) })
