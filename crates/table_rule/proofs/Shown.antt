-- The views of a table show a state of a run, and what an event makes of it.
use Rattle.std.proofs.{Common.{◌≡◌, ◌≢◌, ℕ, zero, suc, ◌⊎◌, inl, inr, ⊎_elim, List, [], ◌∷◌, ◌++◌, Some, None, sym, ap, subst, ◌∙◌, slice_get, slice_set}, lemmas.List.set-set}
use Rattle.atomic_table.proofs.Lists.{at_set, set_here, set_else, set_again}
use Rattle.checked_program.specs.MarkedProgram.{MarkedProgram}
use Rattle.machine_types.specs.{Accesses.{found_by, words_after}, Core.{Core, Happening, Of, core}, Events.{wanted, moved}, Threads.Thread, declared.config.Config.Config}
use Rattle.machine_types.proofs.Lists.{got_other, got_when_set}
use Rattle.laws_states.{specs.GrowingRuns.behind, proofs.GrowingRuns.{event_is, one_more}}
use Rattle.local_events.specs.Locals.{AfterLocals}
use Rattle.table_rule.specs.{TableLaws.{EventsShow, LocalsShow}, Views.{View, held_in, IsHeld, AreShown, ShowsRun, StandsIn}}
use Rattle.table_rule.proofs.Entries.{AtRun, Seen, seen_at, with_view, held_else, held_here, set_held, view_within}
use lib.ListN.{get_elem?}
use mathlib.Core.{Logic.dite, Option.{some, some-injective}}
use native.Mathlib.Decide.{ℕ_discrete}

-- ---- the thread of a view goes on

module _ (seen : Seen) (t : ℕ) (x y : Thread) (is : held_in seen.v t ≡ Some x) where
  open seen use {threads, views, id, v, shown, at}

  abbrev more : View
  more = slice_set v t (Some y)

  abbrev later : List View
  later = slice_set views id more

  -- what the views had of the other threads
  abbrev Stays : (i u : ℕ) → Thread → Type 0
  Stays i u z = (u ≢ t) × (w : View) × (get_elem? views i ≡ some w) × (held_in w u ≡ Some z)

  abbrev IsNew : (i u : ℕ) → Thread → Type 0
  IsNew i u z = (i ≡ id) × (u ≡ t) × (z ≡ y)

  held_now : held_in more t ≡ Some y
  held_now = held_here v t x y is

  in_changed : (i u : ℕ) (z : Thread) → i ≡ id → held_in more u ≡ Some z → Stays i u z ⊎ IsNew i u z
  in_changed i u z here h = dite (ℕ_discrete u t) same other
    where
      same : u ≡ t → Stays i u z ⊎ IsNew i u z
      same e = let two : Some y ≡ Some z = sym held_now ∙ ap (held_in more) (sym e)
          ∙ h in let is_new : z ≡ y = cc in inr (here, e, is_new)

      other : u ≢ t → Stays i u z ⊎ IsNew i u z
      other n = inl (n, v, ap (get_elem? views) here ∙ at, sym (held_else v t u (Some y) n) ∙ h)

  in_kept : (i u : ℕ) (w : View) (z : Thread) → i ≢ id → get_elem? views i ≡ some w → held_in w u ≡ Some z
      → Stays i u z ⊎ IsNew i u z
  in_kept i u w z n a h = dite (ℕ_discrete u t) (λ e. absurd (n (shown.once i id t w v z x a at (ap (held_in w) (sym e) ∙ h) is))) (λ m. inl (m, w, a, h))

  in_later : (i u : ℕ) (w : View) (z : Thread) → get_elem? later i ≡ some w → held_in w u ≡ Some z
      → Stays i u z ⊎ IsNew i u z
  in_later i u w z a h = ⊎_elim (λ k. in_changed i u z k.0 (ap (λ (r : View). held_in r u) k.1 ∙ h)) (λ k. in_kept i u w z k.0 k.1 h) (at_set views id i more w a)

  here_later : get_elem? later id ≡ some more
  here_later = set_here views id more (view_within views id v at)

  held_later : (u : ℕ) (z : Thread) → u ≢ t → IsHeld views u z → IsHeld later u z
  held_later u z n h = dite (ℕ_discrete h.0 id) same other
    where
      same : h.0 ≡ id → IsHeld later u z
      same e = let one : v ≡ h.1 = some-injective v h.1 (sym at ∙ ap (get_elem? views) (sym e) ∙ h.2) in (id, more, here_later, held_else v t u (Some y) n ∙ ap (λ (r : View). held_in r u) one ∙ h.3)

      other : h.0 ≢ id → IsHeld later u z
      other m = (h.0, h.1, set_else views id h.0 more m ∙ h.2, h.3)

  pub goes_on : AreShown (slice_set threads t y) later
  goes_on = record {
    own = λ i u w z a h. ⊎_elim (λ k. got_other threads t u y k.0 ∙ shown.own i u k.1 z k.2 k.3) (λ k. ap (slice_get (slice_set threads t y)) k.1 ∙ got_when_set threads t x y (shown.own id t v x at is) ∙ ap Some (sym k.2)) (in_later i u w z a h);
    once = λ i j u w r z q a b h k. ⊎_elim
        (λ l. ⊎_elim (λ m. shown.once i j u l.1 m.1 z q l.2 m.2 l.3 m.3) (λ m. absurd (l.0 m.1)) (in_later j u r q b k))
        (λ l. ⊎_elim (λ m. absurd (m.0 l.1)) (λ m. l.0 ∙ sym m.0) (in_later j u r q b k)) (in_later i u w z a h);
    each = λ u z e. dite (ℕ_discrete u t) (λ m. is_new u z m e) (λ n. held_later u z n (shown.each u z (sym (got_other threads t u y n) ∙ e)));
  }
    where
      is_new : (u : ℕ) (z : Thread) → u ≡ t → slice_get (slice_set threads t y) u ≡ Some z → IsHeld later u z
      is_new u z m e = let two : Some y ≡ Some z = sym (got_when_set threads t x y (shown.own id t v x at is))
          ∙ ap (slice_get (slice_set threads t y)) (sym m) ∙ e in
          (id, more, here_later, ap (held_in more) m ∙ held_now ∙ two)

-- ---- an event

module _ {c : MarkedProgram} {cfg : Config} (place : AtRun c cfg) (t : ℕ) (x : Thread) (is : held_in place.v t ≡ Some x) where
  open place use {words, views, id, v, run, at}

  abbrev next_run : List Happening
  next_run = run.happenings ++ Of t ∷ []

  stands : slice_get (core c cfg run.happenings).threads t ≡ Some x
  stands = run.threads_are.own id t v x at is

  comes :
      core c cfg next_run ≡ record { words = words_after (core c cfg run.happenings).words (wanted c x x.phase); threads = slice_set (core c cfg run.happenings).threads t (behind c (core c cfg run.happenings).words x) }
  comes = one_more c cfg run.happenings (Of t) ∙ event_is c (core c cfg run.happenings) t x stands

  now : behind c (core c cfg run.happenings).words x ≡ behind c words x
  now = ap (λ ws. behind c ws x) (sym run.words_are)

  -- the thread is there behind the event
  pub stands_behind : slice_get (core c cfg next_run).threads t ≡ Some (behind c words x)
  stands_behind = ap (λ (s : Core). slice_get s.threads t) comes
      ∙ ap (λ y. slice_get (slice_set (core c cfg run.happenings).threads t y) t) now
      ∙ got_when_set (core c cfg run.happenings).threads t x (behind c words x) stands

  pub one_event :
      ShowsRun c cfg (words_after words (wanted c x x.phase)) (slice_set views id (slice_set v t (Some (behind c words x))))
  one_event = record {
    happenings = next_run;
    words_are = ap (λ ws. words_after ws (wanted c x x.phase)) run.words_are
        ∙ ap (λ (s : Core). s.words) (sym comes);
    threads_are = subst (λ (ts : List Thread). AreShown ts (slice_set views id (slice_set v t (Some (behind c words x))))) (sym (ap (λ (s : Core). s.threads) comes ∙ ap (λ y. slice_set (core c cfg run.happenings).threads t y) now))
        (goes_on (seen_at place) t x (behind c words x) is);
  }

-- ---- events without an access, and then one

abbrev Local : {c : MarkedProgram} {cfg : Config} → AtRun c cfg → (t : ℕ) → Thread → Type 0
Local {c} {cfg} place t y = ShowsRun c cfg place.words (slice_set place.views place.id (slice_set place.v t (Some y))) × StandsIn c cfg place.words t y

-- nothing has happened yet
none_yet : {c : MarkedProgram} {cfg : Config} (place : AtRun c cfg) (t : ℕ) (x : Thread) → held_in place.v t ≡ Some x → Local place t x
none_yet {c} {cfg} place t x is =
    let run = place.run in
    let same : slice_set place.v t (Some x) ≡ place.v = set_held place.v t (Some x) is in
    (subst (ShowsRun c cfg place.words) (sym (ap (slice_set place.views place.id) same ∙ set_again place.views place.id place.v place.at)) run, record { happenings = run.happenings; words_are = run.words_are; at = run.threads_are.own place.id t place.v x place.at is })

-- a thread of a view that is set twice
set_twice : (views : List View) (id t : ℕ) (v : View) (z y : Thread)
    → slice_set (slice_set views id (slice_set v t (Some z))) id (slice_set (slice_set v t (Some z)) t (Some y)) ≡ slice_set views id (slice_set v t (Some y))
set_twice views id t v z y = set-set views id (slice_set v t (Some z)) (slice_set (slice_set v t (Some z)) t (Some y)) ∙ ap (slice_set views id) (set-set v t (Some z) (Some y))

many : (k : ℕ) {c : MarkedProgram} {cfg : Config} (place : AtRun c cfg) (t : ℕ) (x y : Thread) → held_in place.v t ≡ Some x → AfterLocals c x k y → Local place t y
many zero place t x y is e = subst (Local place t) (sym e) (none_yet place t x is)
many (suc k) {c} {cfg} place t x y is e =
    let words = place.words in
    let none : wanted c x x.phase ≡ None = e.0 in
    let z : Thread = behind c words x in
    let same : z ≡ moved c x x.phase 0 = ap (λ o. moved c x x.phase (found_by words o)) none in
    let w : View = slice_set place.v t (Some z) in
    let still : ShowsRun c cfg words (slice_set place.views place.id w) = subst (λ o. ShowsRun c cfg (words_after words o) (slice_set place.views place.id w)) none (one_event place t x is) in
    let rest = many k (with_view place w still) t z y (held_here place.v t x z is) (subst (λ q. AfterLocals c q k y) (sym same) e.1) in
    (subst (ShowsRun c cfg words) (set_twice place.views place.id t place.v z y) rest.0, rest.1)

pub locals_show : LocalsShow
locals_show c cfg words views id t v x y run at is follows = many follows.0 (record { words = words; views = views; id = id; v = v; run = run; at = at }) t x y is follows.1

pub events_show : EventsShow
events_show c cfg words views id t v x y run at is follows =
    let local = locals_show c cfg words views id t v x y run at is follows in
    let place : AtRun c cfg = with_view (record { words = words; views = views; id = id; v = v; run = run; at = at }) (slice_set v t (Some y)) local.0 in
    let now : held_in (slice_set v t (Some y)) t ≡ Some y = held_here v t x y is in
    (subst (ShowsRun c cfg (words_after words (wanted c y y.phase))) (set_twice views id t v y (behind c words y)) (one_event place t y now), (local.0.happenings ++ Of t ∷ [], stands_behind place t y now))
