-- One event of a thread changes one word: what it has to show of the thread, of the others, and of the words.
use Rattle.std.{proofs.Common.{◌≡◌, ◌≢◌, ◌⊎◌, inl, inr, ℕ, ◌+◌, ◌<◌, ◌≤◌, Bool, true, false, cond, List, Option, Some, refl, sym, ap, ◌∙◌, subst, arith, ◌==◌, slice_get, slice_set}, specs.List.sum_by}
use Rattle.std.proofs.lemmas.Bool.{eqb-false, Decides.Decides-eqb}
use Rattle.machine_types.specs.{HeldMonitors.held_at, Owners.{Locks, locks_in, hold_by_list, drawn_by, Knows, Owns, AreLocks, DrewApart, one_if_flat, flat_holders, Owners}}
use Rattle.machine_types.specs.{Threads.Thread, declared.{config.Config.Config, phase.Phase.Phase}}
use Rattle.laws_threads.{specs.{StateLaws.{counted_of, counted_phase_at}, StructureLaws.counted_by}, proofs.StateSteps.{set_there, set_other}}
use Rattle.laws_states.proofs.{CountedPhases.{was_draws, phase_draws, counted_draws}, Movers.{LockMover, locks_of}, Sums.sum_set}
use Rattle.machine_types.specs.declared.phase.Phase.TheVariants as phases

-- ---- one thread of a list is changed

-- ---- what an event owes

-- a thread that holds the flat lock of m
abbrev pub flat_in : (m : ℕ) → Thread → ℕ
flat_in m x = one_if_flat (hold_by_list (held_at x.held m))

-- what an event of t owes that made y of x: t's own part, the others' part, and the words
pub record Owes (v w : Locks) (count more : ℕ → ℕ) (t : ℕ) (was now : Phase) (x y : Thread) : Type 0 where
  pub own : Owns w more t now y
  pub others : (u : ℕ) (phase : Phase) (z : Thread) → u ≢ t → Owns v count u phase z → ((r : ℕ) → drawn_by was ≡ Some r → drawn_by phase ≡ Some r → ⊥) → Owns w more u phase z
  pub words : AreLocks w more
  -- a record that is drawn now was drawn before, or is the next one
  pub draws : (r : ℕ) → drawn_by now ≡ Some r → (drawn_by was ≡ Some r) ⊎ (v.next ≤ r)
  pub within : (m : ℕ) → more m ≤ x.cfg.range
  pub few : (m : ℕ) → more m + flat_in m y + x.counts.locked ≤ count m + flat_in m x + y.counts.locked

drawn_below : (v : Locks) (u r : ℕ) (phase : Phase) → Knows v u phase → drawn_by phase ≡ Some r → r < v.next
drawn_below v u r (phases.Own m k toward) h e = let same : k ≡ r = cc in subst (λ (i : ℕ). i < v.next) same h.below
drawn_below v u r (phases.FatIn m k toward) h e = let same : k ≡ r = cc in subst (λ (i : ℕ). i < v.next) same h.0.below
drawn_below v u r phase h e = absurd (cc)

-- the words, the thread and the counts behind the event, by the references of the objects then
pub record Owed (m : LockMover) : Type 0 where
  pub later : List ℕ
  pub after : List ℕ
  pub y : Thread
  pub same_cfg : y.cfg ≡ m.x.cfg
  pub more : ℕ → ℕ
  pub owes : Owes (locks_of m.state.base.heap) (locks_in later after) m.state.owners.count more m.t (m.state.was m.t) (counted_by (m.state.was m.t) y.phase) m.x y

module _ (mover : LockMover) (owed : Owed mover) where
  open mover use {t, x, there, state.{was, structure, owners, base.{threads, heap.s}}}
  open owed use {later, after, y, same_cfg, more, owes}

  here : (u : ℕ) (z : Thread) → (u == t) ≡ true → slice_get (slice_set s.threads t y) u ≡ Some z → y ≡ z
  here u z g e = set_there s.threads t x y z there (ap (λ (n : ℕ). slice_get (slice_set s.threads t y) n) (sym ((Decides-eqb u t).0 g)) ∙ e)

  there_too : (u : ℕ) (z : Thread) → (u == t) ≡ false → slice_get (slice_set s.threads t y) u ≡ Some z → slice_get s.threads u ≡ Some z
  there_too u z g e = sym (set_other s.threads t u y g) ∙ e

  was_apart : (u : ℕ) (z : Thread) → (u == t) ≡ false → slice_get s.threads u ≡ Some z → (r : ℕ) → drawn_by (was t) ≡ Some r → drawn_by (was u) ≡ Some r → ⊥
  was_apart u z g e r a b =
      owners.apart t u x z there e (λ q. eqb-false u t g (sym q)) r (was_draws x.phase (was t) r (structure t x there).is_as a) (was_draws z.phase (was u) r (structure u z e).is_as b)

  each_owns : (u : ℕ) (z : Thread) → slice_get (slice_set s.threads t y) u ≡ Some z → Owns (locks_in later after) more u (counted_phase_at was t (slice_set s.threads t y) u) z
  each_owns u z e = by_number (u == t) refl
    where
      by_number : (b : Bool) → (u == t) ≡ b → Owns (locks_in later after) more u (cond b (counted_of (was t) (slice_get (slice_set s.threads t y) t)) (was u)) z
      by_number true g =
          let same : u ≡ t = (Decides-eqb u t).0 g in
          subst (λ (o : Option Thread). Owns (locks_in later after) more u (counted_of (was t) o) z) (sym (ap (λ (n : ℕ). slice_get (slice_set s.threads t y) n) (sym same) ∙ e))
          (subst (λ (n : ℕ). Owns (locks_in later after) more n (counted_by (was t) z.phase) z) (sym same)
          (subst (λ (q : Thread). Owns (locks_in later after) more t (counted_by (was t) q.phase) q) (here u z g e) owes.own))
      by_number false g =
          let old = there_too u z g e in
          owes.others u (was u) z (eqb-false u t g) (owners.each u z old) (was_apart u z g old)

  drew : (u : ℕ) (z : Thread) → (u == t) ≡ false → slice_get s.threads u ≡ Some z → (r : ℕ) → drawn_by y.phase ≡ Some r → drawn_by z.phase ≡ Some r → ⊥
  drew u z g e r a b = elim (owes.draws r (counted_draws (was t) y.phase r a)) [
    | inl d ↦ let st = structure t x there in owners.apart t u x z there e (λ q. eqb-false u t g (sym q)) r (was_draws x.phase (was t) r st.is_as d) b
    | inr d ↦
        absurd (omega (arith, (drawn_below (locks_of mover.state.base.heap) u r (was u) (owners.each u z e).knows (phase_draws z.phase (was u) r (structure u z e).is_as b)), d))
  ]

  pub owned_on : Owners later (counted_phase_at was t (slice_set s.threads t y)) (record { words = after; threads = slice_set s.threads t y })
  owned_on = record {
    count = more;
    locks_are = owes.words;
    each = each_owns;
    apart = λ u k a b e f d r g h. apart_at u k a b e f d r g h;
    within = λ m u z e. within_at m u z e;
    few = λ m. few_at m;
  }
    where
      apart_at : (u k : ℕ) (a b : Thread) → slice_get (slice_set s.threads t y) u ≡ Some a → slice_get (slice_set s.threads t y) k ≡ Some b → u ≢ k → DrewApart a b
      apart_at u k a b e f d r g h = by_both (u == t) refl (k == t) refl
        where
          by_both : (p : Bool) → (u == t) ≡ p → (q : Bool) → (k == t) ≡ q → ⊥
          by_both true p true q = d ((Decides-eqb u t).0 p ∙ sym ((Decides-eqb k t).0 q))
          by_both true p false q = drew k b q (there_too k b q f) r (subst (λ (z : Thread). drawn_by z.phase ≡ Some r) (sym (here u a p e)) g) h
          by_both false p true q = drew u a p (there_too u a p e) r (subst (λ (z : Thread). drawn_by z.phase ≡ Some r) (sym (here k b q f)) h) g
          by_both false p false q = owners.apart u k a b (there_too u a p e) (there_too k b q f) d r g h

      within_at : (m u : ℕ) (z : Thread) → slice_get (slice_set s.threads t y) u ≡ Some z → more m ≤ z.cfg.range
      within_at m u z e = by_number (u == t) refl
        where
          by_number : (b : Bool) → (u == t) ≡ b → more m ≤ z.cfg.range
          by_number true g = subst (λ (q : Thread). more m ≤ q.cfg.range) (here u z g e) (subst (λ (cfg : Config). more m ≤ cfg.range) (sym same_cfg) (owes.within m))
          by_number false g = subst (λ (cfg : Config). more m ≤ cfg.range) (sym ((threads.own u z (there_too u z g e)).settings ∙ sym (threads.own t x there).settings)) (owes.within m)

      few_at : (m : ℕ) → more m + flat_holders m (slice_set s.threads t y) ≤ sum_by (λ z. z.counts.locked) (slice_set s.threads t y)
      few_at m = omega (arith, (sum_set (flat_in m) s.threads t x y there), (sum_set (λ (z : Thread). z.counts.locked) s.threads t x y there), (owners.few m), (owes.few m))
