-- A view that has all threads of a run, and the begin of a part.
use Rattle.std.proofs.Common.{◌≡◌, ℕ, zero, suc, ◌<◌, ◌≤◌, ⊎_elim, Bool, true, false, List, [], ◌∷◌, ◌++◌, length, Option, Some, None, refl, sym, ap, subst, ◌∙◌, arith, nat_lt, slice_get, slice_set, IsSome}
use Rattle.std.proofs.lemmas.{Bool.Decides.nat_tests, List.{get_or_past, set-set}}
use Rattle.atomic_table.proofs.Lists.{at_set, set_here, set_again}
use Rattle.checked_program.specs.MarkedProgram.{MarkedProgram}
use Rattle.machine_types.specs.{Core.{Core, Happening, NextPart, core, next_threads}, Threads.Thread, declared.config.Config.Config}
use Rattle.laws_states.proofs.GrowingRuns.{one_more, runs_keep_sizes}
use Rattle.table_rule.specs.Views.{View, held_in, AreShown, ShowsRun, AllFollow, EachFollows, HasThreads, HoldsAll}
use Rattle.table_rule.proofs.{Entries.{AtRun, Seen, seen_at, with_view, got_within, held_here, held_else, view_within}, Shown.locals_show}
use lib.ListN.{get_elem?}
use mathlib.Core.{Logic.dite, Option.some}
use native.Mathlib.Decide.{ℕ_discrete}

-- ---- a view that has all threads

module _ (seen : Seen) (new : List Thread) (w : View) (all : (t : ℕ) (x : Thread) → slice_get seen.threads t ≡ Some x → held_in seen.v t ≡ Some x) (holds : HasThreads w new) where
  open seen use {views, id, v, shown, at}

  abbrev whole : List View
  whole = slice_set views id w

  here_only : (i u : ℕ) (r : View) (z : Thread) → get_elem? whole i ≡ some r → held_in r u ≡ Some z
      → (i ≡ id) × (held_in w u ≡ Some z)
  here_only i u r z a h = ⊎_elim (λ k. (k.0, ap (λ (q : View). held_in q u) k.1 ∙ h)) (λ k. absurd (k.0 (shown.once i id u r v z z k.1 at h (all u z (shown.own i u r z k.1 h))))) (at_set views id i w r a)

  whole_shows : AreShown new whole
  whole_shows = record {
    own = λ i u r z a h. sym (holds u) ∙ (here_only i u r z a h).1;
    once = λ i j u r q y z a b h k. (here_only i u r y a h).0 ∙ sym (here_only j u q z b k).0;
    each = λ u z e. (id, w, set_here views id w (view_within views id v at), holds u ∙ e);
  }

-- ---- the seat catches up with its threads

none_before : (c : MarkedProgram) (o p : Option Thread) → EachFollows c o p → p ≡ None → o ≡ None
none_before c None p k e = refl
none_before c (Some x) None k e = absurd k
none_before c (Some x) (Some y) k e = let bad : Some y ≡ None = e in absurd (cc)

module _ {c : MarkedProgram} {cfg : Config} (place : AtRun c cfg) (u : View) (follow : AllFollow c place.v u) where
  open place use {words, views, id, v, run, at}

  record CaughtUp (n : ℕ) : Type 0 where
    pub view : View
    pub shows : ShowsRun c cfg words (slice_set views id view)
    pub below : (t : ℕ) → t < n → held_in view t ≡ held_in u t
    pub from : (t : ℕ) → n ≤ t → held_in view t ≡ held_in v t

  further : (n : ℕ) → CaughtUp n → (o p : Option Thread) → held_in v n ≡ o → held_in u n ≡ p
      → EachFollows c o p → CaughtUp (suc n)
  further n k None None e f m = record {
    view = k.view;
    shows = k.shows;
    below = λ t lt. dite (ℕ_discrete t n) (λ same. ap (held_in k.view) same ∙ k.from n (omega arith) ∙ e ∙ sym f ∙ ap (held_in u) (sym same)) (λ ne. k.below t (omega (arith, lt, ne)));
    from = λ t le. k.from t (omega (arith, le));
  }
  further n k (Some x) (Some y) e f m =
      let here : get_elem? (slice_set views id k.view) id ≡ some k.view = set_here views id k.view (view_within views id v at) in
      let mine : held_in k.view n ≡ Some x = k.from n (omega arith) ∙ e in
      let local = locals_show c cfg words (slice_set views id k.view) id n k.view x y k.shows here mine m in
      record {
        view = slice_set k.view n (Some y);
        shows = subst (ShowsRun c cfg words) (set-set views id k.view (slice_set k.view n (Some y))) local.0;
        below = λ t lt. dite (ℕ_discrete t n) (λ same. ap (held_in (slice_set k.view n (Some y))) same ∙ held_here k.view n x y mine ∙ sym f ∙ ap (held_in u) (sym same)) (λ ne. held_else k.view n t (Some y) ne ∙ k.below t (omega (arith, lt, ne)));
        from = λ t le. held_else k.view n t (Some y) (λ same. absurd (omega (arith, le, same)))
            ∙ k.from t (omega (arith, le));
      }
  further n k o p e f m = absurd m

  caught_up : (n : ℕ) → CaughtUp n
  caught_up zero = record { view = v; shows = subst (ShowsRun c cfg words) (sym (set_again views id v at)) run; below = λ t lt. absurd (omega (arith, lt)); from = λ t le. refl }
  caught_up (suc n) = further n (caught_up n) (held_in v n) (held_in u n) refl refl (follow n)

  latest : View
  latest = (caught_up (length u)).view

  latest_shows : ShowsRun c cfg words (slice_set views id latest)
  unfolding latest
  latest_shows = (caught_up (length u)).shows

  latest_is : (t : ℕ) → held_in latest t ≡ held_in u t
  unfolding latest
  latest_is t = by_place (nat_lt t (length u)) refl
    where
      by_place : (b : Bool) → nat_lt t (length u) ≡ b → held_in latest t ≡ held_in u t
      by_place true e = (caught_up (length u)).below t (grind (arith, nat_tests, e))
      by_place false e =
          let le : length u ≤ t = grind (arith, nat_tests, e) in
          let none : held_in u t ≡ None = get_or_past u t None le in
          (caught_up (length u)).from t le ∙ none_before c (held_in v t) (held_in u t) (follow t) none
          ∙ sym none

  -- ---- all threads of the run

  abbrev now : AtRun c cfg
  now = with_view place latest latest_shows

  -- the run that reaches the words and the states of all its threads
  pub run_of : List Happening
  run_of = now.run.happenings

  has_all : HoldsAll c u → HasThreads u (core c cfg run_of).threads
  unfolding run_of
  has_all holds t = sym (latest_is t) ∙ by_entry (held_in latest t) refl
    where
      by_entry : (o : Option Thread) → held_in latest t ≡ o → held_in latest t ≡ slice_get (core c cfg run_of).threads t
      by_entry (Some y) e = e ∙ sym (now.run.threads_are.own id t latest y now.at e)
      by_entry None e = by_thread (slice_get (core c cfg run_of).threads t) refl
        where
          by_thread : (p : Option Thread) → slice_get (core c cfg run_of).threads t ≡ p → held_in latest t ≡ slice_get (core c cfg run_of).threads t
          by_thread None f = e ∙ sym f
          by_thread (Some x) f =
              let lt = got_within (core c cfg run_of).threads t x f in
              let some : IsSome (held_in u t) = holds t (omega (arith, lt, (runs_keep_sizes c cfg run_of).threads)) in
              let bad : false ≡ true = subst IsSome (sym (latest_is t) ∙ e) some in absurd (cc)

  -- the begin of a part
  begun : HoldsAll c u → (w : View) → HasThreads w (next_threads c.program (core c cfg run_of).threads) → ShowsRun c cfg words (slice_set views id w)
  unfolding run_of
  begun holds w h = record {
    happenings = run_of ++ NextPart ∷ [];
    words_are = now.run.words_are ∙ ap (λ (s : Core). s.words) (sym (one_more c cfg run_of NextPart));
    threads_are = subst (λ (ts : List Thread). AreShown ts (slice_set views id w)) (ap (λ (s : Core). s.threads) (sym (one_more c cfg run_of NextPart)))
        (subst (AreShown (next_threads c.program (core c cfg run_of).threads)) (set-set views id latest w)
        (whole_shows (seen_at now) (next_threads c.program (core c cfg run_of).threads) w (λ t x e. latest_is t ∙ has_all holds t ∙ e) h));
  }

-- ---- of words and views

module _ (c : MarkedProgram) (cfg : Config) (words : List ℕ) (views : List View) (id : ℕ) (v u : View) where
  abbrev place : ShowsRun c cfg words views → get_elem? views id ≡ some v → AtRun c cfg
  place run at = record { words = words; views = views; id = id; v = v; run = run; at = at }

  abbrev pub whole_run : ShowsRun c cfg words views → get_elem? views id ≡ some v → AllFollow c v u → HoldsAll c u → List Happening
  whole_run run at follow holds = run_of (place run at) u follow

  pub whole_holds : (run : ShowsRun c cfg words views) (at : get_elem? views id ≡ some v) (follow : AllFollow c v u) (holds : HoldsAll c u)
      → HasThreads u (core c cfg (whole_run run at follow holds)).threads
  whole_holds run at follow = has_all (place run at) u follow

  pub part_shows : (run : ShowsRun c cfg words views) (at : get_elem? views id ≡ some v) (follow : AllFollow c v u) (holds : HoldsAll c u)
      (w : View) → HasThreads w (next_threads c.program (core c cfg (whole_run run at follow holds)).threads) → ShowsRun c cfg words (slice_set views id w)
  part_shows run at follow = begun (place run at) u follow
