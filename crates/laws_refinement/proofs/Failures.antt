-- How an attempt ends, what a failure leaves, and that nothing else is counted as one.
use Rattle.std.proofs.Common.{◌≡◌, ℕ, true, false, Option, Some, None, refl, sym, ap, ◌∙◌, subst}
use Rattle.checked_program.specs.MarkedProgram.{MarkedProgram}
use Rattle.machine_types.specs.{Accesses.found_by, Core.{Core, core, event_of}, Events.{wanted, moved}, History.{Fate, GoesOn, Fails, Finishes, fate}, Threads.{Attempt, Thread}}
use Rattle.laws_threads.specs.{InsideEffects.InsideMayDo, InsideMoves.ElementsInside}
use Rattle.laws_states.specs.StateLaws.{ProgramsKeepThreads, RunsHaveState}
use Rattle.laws_objects.proofs.ThrownInits.{moved_is}
use Rattle.laws_refinement.{specs.EntryLaws.{EndsBy, HasFailed, AttemptsEnd, FailuresPutBack, OnlyFailuresCount}, proofs.{Beginnings.in_attempt, Inside.Inside, InsideWords.words_stay}}
use Rattle.laws_refinement.proofs.{OutsideEntries.{is_entering, MovesTo, outside_moves}, Within.{HasFate, inside_moves}}

module _ (c : MarkedProgram) (x y : Thread) (got : ℕ) where
  outside_counts : (o : Option Attempt) → MovesTo c x y got o → y.counts.failed ≡ x.counts.failed
  outside_counts None k = k.1
  outside_counts (Some a) k = k.failed

  inside_counts : (a : Attempt) (f : Fate) → (f ≡ Fails → ⊥) → HasFate x y a f → y.counts.failed ≡ x.counts.failed
  inside_counts a GoesOn never k = k.2
  inside_counts a Fails never k = absurd (never refl)
  inside_counts a Finishes never k = k.2

  ends_by : (a : Attempt) (f : Fate) → HasFate x y a f → EndsBy f a y
  ends_by a GoesOn k = (k.0, k.1)
  ends_by a Fails k = k.outside
  ends_by a Finishes k = (k.0, λ m tried e. let bad : true ≡ false = ap is_entering (sym e) ∙ k.1 in absurd (cc))

module _ (may_do : InsideMayDo) (elements : ElementsInside) (runs : RunsHaveState) (parts : ProgramsKeepThreads) where
  pub attempts_end : AttemptsEnd
  attempts_end c cfg hs t x y a marked width settings here there tries =
      let got : ℕ = found_by (core c cfg hs).words (wanted c x x.phase) in
      let inside : Inside c x a = in_attempt may_do elements runs parts c cfg hs t x a marked width settings here tries in
      subst (EndsBy (fate c x a x.phase got) a) (moved_is c (core c cfg hs) t x y here there) (ends_by c x (moved c x x.phase got) got a (fate c x a x.phase got) (inside_moves c x a inside got))

  pub failures_put_back : FailuresPutBack
  failures_put_back c cfg hs t x y a marked width settings here there tries fails =
      let s : Core = core c cfg hs in
      let got : ℕ = found_by s.words (wanted c x x.phase) in
      let inside : Inside c x a = in_attempt may_do elements runs parts c cfg hs t x a marked width settings here tries in
      let failed : HasFailed x (moved c x x.phase got) a = subst (HasFate x (moved c x x.phase got) a) fails (inside_moves c x a inside got) in (
        subst (λ (z : Thread). HasFailed x z a) (moved_is c s t x y here there) failed,
        ap (λ (o : Option Thread). (event_of c s t o).words) here ∙ words_stay s.words c x a inside,
      )

  pub only_failures_count : OnlyFailuresCount
  only_failures_count c cfg hs t x y marked width settings here there never =
      let got : ℕ = found_by (core c cfg hs).words (wanted c x x.phase) in
      subst (λ (z : Thread). z.counts.failed ≡ x.counts.failed) (moved_is c (core c cfg hs) t x y here there) ((elim x.attempt as (λ (o : Option Attempt). x.attempt ≡ o → (moved c x x.phase got).counts.failed ≡ x.counts.failed) [
        | None ↦ λ e. outside_counts c x (moved c x x.phase got) got (moved c x x.phase got).attempt (outside_moves c x got e x.phase refl)
        | Some a ↦ λ e. inside_counts c x (moved c x x.phase got) got a (fate c x a x.phase got) (never a e) (inside_moves c x a (in_attempt may_do elements runs parts c cfg hs t x a marked width settings here e) got)
      ]) refl)
