-- A thread leaves a monitor, or makes its lock fat.
use Rattle.std.proofs.Common.{◌≡◌, ◌≢◌, ℕ, suc, ◌+◌, ◌-◌, ◌<◌, nat_lt, Bool, true, false, cond, List, [], ◌∷◌, Option, Some, None, refl, sym, ap, ◌∙◌, subst, arith, slice_index, slice_set, ◌==◌}
use Rattle.std.proofs.lemmas.Bool.Decides.{nat_tests, Decides-eqb}
use Rattle.jvm_types.specs.declared.fixed_words.TheConstants.{MONITOR_RECORDS, NEXT_RECORD_WORD}
use Rattle.machine_types.specs.{Accesses.{found, found_by, performed, words_after}, Agreement.{IsWaiter, depth_for, has_wait_bit, toward_status}, Going.{with_phase, goes_on, goes_on_if, goes_after}}
use Rattle.machine_types.specs.{HeldMonitors.{held_at, with_held, without_held, shallower}, History.{act_if, steps_of, leave_acts, release_acts}, LockWords.{word_of_lock, next_count}}
use Rattle.machine_types.specs.{Monitors.{claim_by, leave_wants, leave_moves, release, released, freed, lets_go, grows_not, fattens}, Onward.{Onward, after}}
use Rattle.machine_types.specs.Owners.{IsDrawn, hold_by_word, hold_by_kept, hold_by_list, lock_at, owner_at, locks_in, references_of}
use Rattle.machine_types.specs.{PlainState.{Plain, Holding, holding_at, held_by, with_holding, without_holding, with_thread}, PlainSteps.{left, plain_run}, Shown.Show, StartLaws.StartLiesApart}
use Rattle.machine_types.specs.{Structure.{AfterShows, AreHeldOnce, IsFlat, held_depth, operands_after}, Threads.{Attempt, Frame, Thread}, Typed.{AfterHolds, HasClass, IsObject}, Words.owner_word}
use Rattle.machine_types.specs.declared.{lock.{Held.Held, Kept.Kept}, phase.{After.After, Toward.Toward}}
use Rattle.laws_threads.proofs.{HeldBounds.{found as found_held}, HeldLists.{held_monitor, held_positive, held_put, depth_some}, Releases.goes_behind, ThreadMove.{goes_held, goes_attempt}}
use Rattle.laws_states.{specs.Sites.HasObject, proofs.{LockViews.{fatly, thin_if_flat}, Phases.some_of, WordViews.lock_of_word}}
use Rattle.laws_simulation.proofs.{EntryPhases.loaded, GoingOnAlike.{awake_fits, going_alike}}
use Rattle.laws_simulation.proofs.{HoldingsAlike.{HoldAlike, alone, held_depth_is, holds_then, alike_set, alike_put, alike_dropped}, Landing.{WordsStay, Makes, words_stay}}
use Rattle.laws_simulation.proofs.{LockPlain.exits, Moving.{stays_with, steps_as, calm_fits, to_phase, stays_itself, goes_part, goes_old}, OwnBits.nobody_in, OwnThread.Moving, Scene.Scene}
use Rattle.laws_simulation.proofs.WordsAround.{low, thin_stays, fat_stays, owner_stays, record_stays}
use Rattle.jvm_types.specs.declared.outcome.End.TheVariants as ends
use Rattle.machine_types.specs.PlainState as plain
use Rattle.machine_types.specs.declared.lock.Kept.TheVariants as keeps
use Rattle.machine_types.specs.declared.lock.LockWord.TheVariants as locks
use Rattle.machine_types.specs.declared.phase.Phase.TheVariants as phases
use Rattle.machine_types.specs.declared.phase.Toward.TheVariants as towards
use Rattle.machine_types.specs.declared.plain.Act.TheVariants as acts

module _ (lies : StartLiesApart) (scene : Scene) (k : Moving scene.turn) where
  open scene use {c, objects, was, s, t, x, q, marked, facts, beside, here}

  -- ---- what it holds

  once : AreHeldOnce x.held
  once = let st = facts.structure t x here in st.stands.once

  pub held_object : (m : ℕ) (h : Held) → held_at x.held m ≡ Some h → HasObject objects m
  held_object m h e =
      let holds = facts.heap.monitors t x here in
      let object = some_of (λ (g : Held). IsObject (HasClass objects) g.monitor) (held_at x.held m) h e (found_held (λ g. IsObject (HasClass objects) g.monitor) m x.held holds.held) in
      (object.1.0, object.1.1, object.1.2 ∙ held_monitor m x.held h e)

  holds_kept : (m : ℕ) (h : Held) (kept : Kept) → held_at x.held m ≡ Some h → h.kept ≡ kept → hold_by_word t (lock_at (references_of objects) s.words m) (owner_at s.words) ≡ hold_by_kept kept
  holds_kept m h kept e f = let owns = facts.owners.each t x here in owns.holds m ∙ ap hold_by_list e ∙ ap hold_by_kept f

  pub thin_when_flat : (m : ℕ) (h : Held) (count : ℕ) → held_at x.held m ≡ Some h → h.kept ≡ keeps.Flat count → (r : ℕ) → lock_at (references_of objects) s.words m ≢ locks.Fat r
  thin_when_flat m h count e f = thin_if_flat t (lock_at (references_of objects) s.words m) (owner_at s.words) (holds_kept m h (keeps.Flat count) e f)

  others_not : (m : ℕ) (h : Held) → held_at x.held m ≡ Some h → (u : ℕ) → u ≢ t → depth_for u (holding_at q.holdings m) ≡ None
  others_not m h e u d = alone (holding_at q.holdings m) t u h.depth (held_depth_is q.holdings s.threads beside.agrees.monitors t m x h here e) d

  -- ---- how it goes on behind the monitor

  pub behind : (a : After) (shown : List ℕ) (m : ℕ) → Show c (operands_after a) x.frames shown → AfterShows c m a x.frames → AfterHolds c (HasClass objects) a x.frames → (o : Onward) × (after c.program x.frames a ≡ Some o)
  behind a shown m show leaves holds = let g = goes_behind (HasClass objects) c marked m shown a x.frames show leaves holds in (g.onward, g.is)

  goes_out : (words : List ℕ) (a : After) (less : List Held) (later : List Holding) (o : Onward) → WordsStay objects s q words → after c.program x.frames a ≡ Some o
      → plain_run c.program q (steps_of t (acts.Exit ∷ [])) ≡ Some (record q { holdings = later; threads = slice_set q.threads t (plain.plain_goes_on k.z o) })
      → ((y : Thread) → y.held ≡ less → HoldAlike later (slice_set s.threads t y))
      → Makes k (acts.Exit ∷ []) words (goes_after c.program (record x { held = less }) a)
  goes_out words a less later o stay is run holds = subst (λ (w : Option Onward). Makes k (acts.Exit ∷ []) words (goes_on_if (record x { held = less }) w)) (sym is)
      (steps_as k acts.Exit words (goes_on (record x { held = less }) o) later (plain.plain_goes_on k.z o) run stay (holds (goes_on (record x { held = less }) o) (goes_held (record x { held = less }) o))
      (goes_attempt (record x { held = less }) o) (goes_part (record x { held = less }) o) (goes_old (record x { held = less }) o)
      (going_alike c.program (has_wait_bit (references_of q.objects) s.words t) k.awake (record x { held = less }) k.z o k.under_way))

  exits_it : (m : ℕ) (h : Held) (a : After) (o : Onward) → held_at x.held m ≡ Some h → k.z.status ≡ plain.Leave m a → after c.program x.frames a ≡ Some o
      → plain_run c.program q (steps_of t (acts.Exit ∷ [])) ≡ Some (with_thread (left q t m h.depth) t (plain.plain_goes_on k.z o))
  exits_it m h a o e status is = exits c.program q t k.z k.twin m h.depth a o status (holds_then q.holdings s.threads beside.agrees.monitors t m x h here e) (ap (λ (fs : List Frame). after c.program fs a) k.frames ∙ is)

  -- one entry of several
  leaves_shallower : (m : ℕ) (h : Held) (a : After) (o : Onward) → held_at x.held m ≡ Some h → nat_lt 1 h.depth ≡ true → k.z.status ≡ plain.Leave m a → after c.program x.frames a ≡ Some o
      → Makes k (acts.Exit ∷ []) s.words (goes_after c.program (record x { held = with_held (shallower h) x.held }) a)
  leaves_shallower m h a o e deep status is =
      let some : 1 < h.depth = grind (arith, nat_tests, deep) in
      let two : h.depth ≡ suc (suc (h.depth - 2)) = omega (arith, some) in
      let one : suc (h.depth - 2) ≡ h.depth - 1 = omega (arith, some) in
      goes_out s.words a (with_held (shallower h) x.held) (with_holding (record { monitor = m; holder = t; depth = h.depth - 1 }) q.holdings) o (words_stay objects s q) is
      (exits_it m h a o e status is ∙ ap (λ (n : ℕ). Some (with_thread (left q t m n) t (plain.plain_goes_on k.z o))) two ∙ ap (λ (n : ℕ). Some (with_thread (held_by q m t n) t (plain.plain_goes_on k.z o))) one)
      (λ y f. alike_put q.holdings s.threads beside.agrees.monitors t x y here m (shallower h) (held_monitor m x.held h e) f (others_not m h e))

  -- the last one
  pub leaves_last : (words : List ℕ) (m : ℕ) (h : Held) (a : After) (o : Onward) → WordsStay objects s q words → held_at x.held m ≡ Some h → h.depth ≡ 1 → k.z.status ≡ plain.Leave m a → after c.program x.frames a ≡ Some o
      → Makes k (acts.Exit ∷ []) words (lets_go c.program x m a)
  leaves_last words m h a o stay e one status is = goes_out words a (without_held m x.held) (without_holding m q.holdings) o stay is
      (exits_it m h a o e status is ∙ ap (λ (n : ℕ). Some (with_thread (left q t m n) t (plain.plain_goes_on k.z o))) one)
      (λ y f. alike_dropped q.holdings s.threads beside.agrees.monitors t x y here m f once (others_not m h e))

  -- ---- the lock is released

  freed_stays : (m n : ℕ) (h : Held) (count : ℕ) → held_at x.held m ≡ Some h → h.kept ≡ keeps.Flat count → WordsStay objects s q (slice_set s.words m (word_of_lock (locks.Free n)))
  freed_stays m n h count e f = thin_stays lies scene m (word_of_lock (locks.Free n)) (held_object m h e) (thin_when_flat m h count e f)
      (λ r g. let bad : locks.Free n ≡ locks.Fat r = sym (lock_of_word (locks.Free n)) ∙ g in cc)

  released_it : (m : ℕ) (h : Held) (a : After) (o : Onward) (kept : Kept) → h.kept ≡ kept → held_at x.held m ≡ Some h → h.depth ≡ 1 → k.z.status ≡ plain.Leave m a → after c.program x.frames a ≡ Some o
      → Makes k (release_acts x kept (found s.words (release x m kept))) (performed s.words (release x m kept)) (released c.program x m a kept (found s.words (release x m kept)))
  released_it m h a o (keeps.Fat r) f e one status is = leaves_last (slice_set s.words (owner_word r) 0) m h a o
      (owner_stays lies scene r 0 (low scene m r ((fatly t (lock_at (references_of objects) s.words m) (owner_at s.words) r (holds_kept m h (keeps.Fat r) e f)).0))) e one status is
  released_it m h a o (keeps.Flat count) f e one status is = by_word (slice_index s.words m == word_of_lock (locks.Held x.number))
    where
      by_word : (b : Bool) → Makes k (act_if b acts.Exit) (slice_set s.words m (cond b (freed x count) (slice_index s.words m)))
          (cond b (lets_go c.program x m a) (with_phase x (phases.Grow m (towards.Leave a))))
      by_word true = leaves_last (slice_set s.words m (freed x count)) m h a o (freed_stays m (next_count count x.cfg.range) h count e f) e one status is
      by_word false = to_phase k (slice_set s.words m (slice_index s.words m)) (phases.Grow m (towards.Leave a)) (loaded lies scene k m) tt status

  -- ---- the phases

  pub left_it : (m : ℕ) (a : After) (o : Option Held) (b : Option Attempt) → held_at x.held m ≡ o → b ≡ None → k.z.status ≡ plain.Leave m a → (w : Onward) × (after c.program x.frames a ≡ Some w)
      → Makes k (leave_acts x (claim_by m o b) (found_by s.words (leave_wants x m (claim_by m o b)))) (words_after s.words (leave_wants x m (claim_by m o b)))
      (leave_moves c.program x m a (claim_by m o b) (found_by s.words (leave_wants x m (claim_by m o b))))
  left_it m a None None e none status w = stays_itself k s.words (words_stay objects s q)
  left_it m a None (Some b) e none status w = absurd (cc)
  left_it m a (Some h) b e none status w = by_depth (nat_lt 1 h.depth) refl
    where
      by_depth : (d : Bool) → nat_lt 1 h.depth ≡ d
          → Makes k (cond d (acts.Exit ∷ []) (release_acts x h.kept (found_by s.words (cond d None (Some (release x m h.kept)))))) (words_after s.words (cond d None (Some (release x m h.kept))))
          (cond d (goes_after c.program (record x { held = with_held (shallower h) x.held }) a) (released c.program x m a h.kept (found_by s.words (cond d None (Some (release x m h.kept))))))
      by_depth true f = leaves_shallower m h a w.0 e f status w.1
      by_depth false f =
          let some : 0 < h.depth = held_positive m x.held h once e in
          let one : h.depth ≡ 1 = grind (arith, nat_tests, f, some) in
          released_it m h a w.0 h.kept refl e one status w.1

  pub drew_it : (m : ℕ) (toward : Toward) → k.z.status ≡ toward_status m toward → IsFlat (held_at x.held m)
      → Makes k [] (slice_set s.words NEXT_RECORD_WORD (slice_index s.words NEXT_RECORD_WORD + 1))
      (cond (nat_lt (slice_index s.words NEXT_RECORD_WORD) MONITOR_RECORDS) (with_phase x (phases.Own m (slice_index s.words NEXT_RECORD_WORD) toward)) (grows_not x m toward))
  drew_it m toward status flat = by_test (nat_lt (slice_index s.words NEXT_RECORD_WORD) MONITOR_RECORDS)
    where
      stay : WordsStay objects s q (slice_set s.words NEXT_RECORD_WORD (slice_index s.words NEXT_RECORD_WORD + 1))
      stay = record_stays lies scene (slice_index s.words NEXT_RECORD_WORD + 1)

      by_test : (b : Bool) → Makes k [] (slice_set s.words NEXT_RECORD_WORD (slice_index s.words NEXT_RECORD_WORD + 1))
          (cond b (with_phase x (phases.Own m (slice_index s.words NEXT_RECORD_WORD) toward)) (grows_not x m toward))
      by_test true = to_phase k (slice_set s.words NEXT_RECORD_WORD (slice_index s.words NEXT_RECORD_WORD + 1)) (phases.Own m (slice_index s.words NEXT_RECORD_WORD) toward) stay tt status
      by_test false = (elim toward as (λ (toward : Toward). k.z.status ≡ toward_status m toward → Makes k [] (slice_set s.words NEXT_RECORD_WORD (slice_index s.words NEXT_RECORD_WORD + 1)) (grows_not x m toward)) [
        | towards.Leave a ↦ λ status. to_phase k (slice_set s.words NEXT_RECORD_WORD (slice_index s.words NEXT_RECORD_WORD + 1)) (phases.FlatOut m a) stay tt status
        | towards.Wait ↦ λ status.
            let h = (elim (held_at x.held m) as (λ (o : Option Held). IsFlat o → (h : Held) × (o ≡ Some h)) [ None ↦ λ f. absurd f | Some h ↦ λ f. (h, refl) ]) flat in
            to_phase k (slice_set s.words NEXT_RECORD_WORD (slice_index s.words NEXT_RECORD_WORD + 1)) (phases.Ending ends.Records) stay refl
            (awake_fits (has_wait_bit (references_of q.objects) s.words t) k.z.status (IsWaiter x.held k.z.status) k.awake (m, status, (h.0, h.1)))
      ]) status

  pub flat_out : (m n : ℕ) (a : After) (o : Option Held) → held_at x.held m ≡ o → IsFlat o → held_depth m x.held ≡ 1 → k.z.status ≡ plain.Leave m a → (w : Onward) × (after c.program x.frames a ≡ Some w)
      → Makes k (acts.Exit ∷ []) (slice_set s.words m (word_of_lock (locks.Free n))) (lets_go c.program x m a)
  flat_out m n a None e flat one status w = absurd flat
  flat_out m n a (Some h) e flat one status w = leaves_last (slice_set s.words m (word_of_lock (locks.Free n))) m h a w.0 (freed_stays m n h flat.0 e flat.1) e (sym (depth_some m x.held h e) ∙ one) status w.1

  pub owned : (m r : ℕ) (toward : Toward) → k.z.status ≡ toward_status m toward → r < MONITOR_RECORDS → Makes k [] (slice_set s.words (owner_word r) (x.number + 1)) (with_phase x (phases.FatIn m r toward))
  owned m r toward status l = to_phase k (slice_set s.words (owner_word r) (x.number + 1)) (phases.FatIn m r toward)
      (owner_stays lies scene r (x.number + 1) l) tt status

  -- an entry at the same depth
  refitted : (m : ℕ) (h g : Held) (y : Thread) → held_at x.held m ≡ Some h → g.monitor ≡ m → g.depth ≡ h.depth → y.held ≡ with_held g x.held → HoldAlike q.holdings (slice_set s.threads t y)
  refitted m h g y e at deep f = alike_set q.holdings s.threads beside.agrees.monitors t x y here q.holdings m (holding_at q.holdings m) (Some g) (λ n. same n (m == n) refl)
      (λ n. ap (λ (hs : List Held). held_at hs n) f ∙ held_put n g x.held ∙ ap (λ (a : ℕ). cond (a == n) (Some g) (held_at x.held n)) at)
      (held_depth_is q.holdings s.threads beside.agrees.monitors t m x h here e ∙ ap Some (sym deep)) (λ u d. refl)
    where
      same : (n : ℕ) (b : Bool) → (m == n) ≡ b → holding_at q.holdings n ≡ cond b (holding_at q.holdings m) (holding_at q.holdings n)
      same n true i = ap (holding_at q.holdings) (sym ((Decides-eqb m n).0 i))
      same n false i = refl

  pub fattened : (m r : ℕ) (toward : Toward) (o : Option Held) → held_at x.held m ≡ o → IsFlat o → k.z.status ≡ toward_status m toward → r < MONITOR_RECORDS → IsDrawn (locks_in (references_of objects) s.words) r
      → Makes k [] (slice_set s.words m (word_of_lock (locks.Fat r))) (fattens x m r toward o)
  fattened m r toward None e flat status l drawn = absurd flat
  fattened m r toward (Some h) e flat status l drawn = (elim toward as (λ (toward : Toward). k.z.status ≡ toward_status m toward → Makes k [] (slice_set s.words m (word_of_lock (locks.Fat r))) (fattens x m r toward (Some h))) [
    | towards.Leave a ↦ λ status.
        let y : Thread = fattens x m r (towards.Leave a) (Some h) in
        stays_with k (slice_set s.words m (word_of_lock (locks.Fat r))) y stay (refitted m h (record h { kept = keeps.Fat r }) y e (held_monitor m x.held h e) refl refl) refl refl tt
        (calm_fits k y tt refl refl refl status)
    | towards.Wait ↦ λ status.
        let y : Thread = fattens x m r towards.Wait (Some h) in
        stays_with k (slice_set s.words m (word_of_lock (locks.Fat r))) y stay (refitted m h (record h { kept = keeps.Fat r }) y e (held_monitor m x.held h e) refl refl) refl refl tt
        (calm_fits k y tt refl refl refl status)
  ]) status
    where
      stay : WordsStay objects s q (slice_set s.words m (word_of_lock (locks.Fat r)))
      stay = fat_stays lies scene m (word_of_lock (locks.Fat r)) r (held_object m h e) (thin_when_flat m h flat.0 e flat.1) (lock_of_word (locks.Fat r)) l
          (λ u. nobody_in (references_of objects) was s facts.owners facts.waiting c facts.structure r u l drawn)
