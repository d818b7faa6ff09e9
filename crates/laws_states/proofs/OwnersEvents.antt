-- The events by which owners change: a lock is taken, flagged, made fat or let go; a record is drawn, gets an owner or loses it.
use Rattle.std.proofs.Common.{◌≡◌, inl, inr, ℕ, ◌+◌, ◌<◌, ◌≤◌, nat_lt, Bool, true, false, cond, List, Option, Some, None, refl, sym, ap, ◌∙◌, subst, arith, ◌==◌, if◌then◌else◌}
use Rattle.std.proofs.lemmas.Bool.{ne_eqb, eqb-false, Decides.{nat_tests, Decides-eqb}}
use Rattle.jvm_types.specs.declared.fixed_words.TheConstants.{MONITOR_RECORDS}
use Rattle.machine_types.specs.{HeldMonitors.{held_at, with_held, without_held}, LockWords.next_count}
use Rattle.machine_types.specs.Owners.{Locks, Hold, NotHeld, HeldFlat, HeldFat, hold_by_word, hold_by_kept, hold_by_list, drawn_by, IsDrawn, Knows, PhaseSaw, AttemptSawIn, IsKeptIn, one_if_flat}
use Rattle.machine_types.specs.{Structure.AreHeldOnce, Threads.{Attempt, Thread}, declared.{config.Config.Config, lock.{Held.Held, Kept.Kept, LockWord.LockWord}, phase.Phase.Phase}}
use Rattle.machine_types.proofs.PlainStepLaws.{is_same}
use Rattle.laws_threads.proofs.HeldLists.{held_monitor, held_put, held_without}
use Rattle.laws_states.proofs.{CountedPhases.{IsPlain, plain_knows, plain_saw, plain_draws_none}, Movers.{LockMover, OwnsAs, locks_of}}
use Rattle.laws_states.proofs.LockViews.{set_lock, set_owner, set_next, recounted, itself, another, fatly, thin_if_flat, flat_alone, knows_by, phase_by, attempt_by}
use Rattle.laws_states.proofs.{LockWritten.{lock_written, put_holds, drop_holds, put_keeps, drop_keeps}, OwnerWritten.{owner_written, words_apart, own_attempt}}
use Rattle.laws_states.proofs.OwnersStep.{Owes, flat_in}
use Rattle.machine_types.specs.declared.lock.Kept.TheVariants as keeps
use Rattle.machine_types.specs.declared.lock.LockWord.TheVariants as locks

-- what became of a thread, that now holds these monitors
pub record Became (x y : Thread) (held : List Held) (taken : ℕ) : Type 0 where
  pub held_is : y.held ≡ held
  pub attempt : y.attempt ≡ x.attempt
  pub cfg : y.cfg ≡ x.cfg
  pub locked : y.counts.locked ≡ x.counts.locked + taken

pub recount_same : (n m : ℕ) (count : ℕ → ℕ) → recounted n (count n) count m ≡ count m
recount_same n m count = (elim (n == m) as (λ (b : Bool). (n == m) ≡ b → cond b (count n) (count m) ≡ count m)
    [ true ↦ λ e. ap count ((Decides-eqb n m).0 e) | false ↦ λ e. refl ]) refl

flat_once : (h : Hold) → one_if_flat h ≤ 1
flat_once NotHeld = omega arith
flat_once h = omega arith

none_drawn : (phase : Phase) (i : ℕ) → IsPlain phase → drawn_by phase ≡ Some i → ⊥
none_drawn phase i is e = let none : drawn_by phase ≡ None = plain_draws_none phase is in cc

module _ (mover : LockMover) (was : Phase) (o : OwnsAs mover was) (y : Thread) (now : Phase) where
  open mover use {t, x, most, state.owners.{count, locks_are as a}}

  abbrev v : Locks
  v = locks_of mover.state.base.heap

  -- ---- nothing is written

  pub unwritten : ((m : ℕ) → hold_by_list (held_at y.held m) ≡ hold_by_list (held_at x.held m)) → ((m : ℕ) → IsKeptIn (held_at y.held m) (count m)) → AttemptSawIn v count y.cfg y.attempt → x.counts.locked ≤ y.counts.locked
      → Knows v t now → PhaseSaw v count now → ((i : ℕ) → drawn_by now ≡ Some i → drawn_by was ≡ Some i) → Owes v v count count t was now x y
  unwritten holds keeps attempt locked knows take draws = record {
    own = record { holds = λ m. o.holds m ∙ sym (holds m); knows = knows; keeps_count = keeps; take = take; attempt = attempt };
    others = λ u phase z d owns e. owns;
    words = a;
    draws = λ i e. inl (draws i e);
    within = most;
    few = λ m. let same : flat_in m y ≡ flat_in m x = ap one_if_flat (holds m) in omega (arith, same, locked);
  }

  pub same_held : y.held ≡ x.held → AttemptSawIn v count y.cfg y.attempt → x.counts.locked ≤ y.counts.locked
      → Knows v t now → PhaseSaw v count now → ((i : ℕ) → drawn_by now ≡ Some i → drawn_by was ≡ Some i) → Owes v v count count t was now x y
  same_held h attempt locked knows take draws = unwritten (λ m. ap (λ (hs : List Held). hold_by_list (held_at hs m)) h) (λ m. subst (λ (hs : List Held). IsKeptIn (held_at hs m) (count m)) (sym h) (o.keeps_count m)) attempt locked knows take draws

  -- the attempt is as it was
  pub same_attempt : y.cfg ≡ x.cfg → y.attempt ≡ x.attempt → AttemptSawIn v count y.cfg y.attempt
  same_attempt cfg attempt = subst (λ (g : Config). AttemptSawIn v count g y.attempt) (sym cfg) (subst (λ (q : Option Attempt). AttemptSawIn v count x.cfg q) (sym attempt) o.attempt)

  -- ---- a free lock is taken

  pub take_won : (n c : ℕ) → v.lock n ≡ locks.Free c → Became x y (with_held (record { monitor = n; kept = keeps.Flat c; depth = 1 }) x.held) 1 → IsPlain now
      → Owes v (set_lock n (locks.Held t) v) count (recounted n (count n) count) t was now x y
  take_won n c f b plain = lock_written v count n (count n) (locks.Held t) (λ i e. let bad : locks.Free c ≡ locks.Fat i = sym f ∙ e in cc) (omega arith) t was now x y a o b.cfg
      (λ i e. absurd (cc)) (λ i e. absurd (cc)) (λ i e. absurd (cc))
      (λ u d. (another t u HeldFlat (λ e. d (sym e)) ∙ sym (ap (λ (l : LockWord). hold_by_word u l v.owner) f), inr refl))
      holds keeps_it
      (plain_knows (set_lock n (locks.Held t) v) t now plain) (plain_saw (set_lock n (locks.Held t) v) (recounted n (count n) count) now plain) b.attempt (λ i e. none_drawn now i plain e)
      (λ m. subst (λ (i : ℕ). i ≤ x.cfg.range) (sym (recount_same n m count)) (most m))
      (λ m. let same = recount_same n m count in let locked = b.locked in let once = flat_once (hold_by_list (held_at y.held m)) in omega (arith, same, locked, once))
    where
      holds : (m : ℕ) → hold_by_list (held_at y.held m) ≡ cond (n == m) (hold_by_word t (locks.Held t) v.owner) (hold_by_list (held_at x.held m))
      holds m = ap (λ (hs : List Held). hold_by_list (held_at hs m)) b.held_is ∙ put_holds (record { monitor = n; kept = keeps.Flat c; depth = 1 }) x.held n m refl
          ∙ ap (λ (h : Hold). cond (n == m) h (hold_by_list (held_at x.held m))) (sym (itself t HeldFlat))

      keeps_it : (m : ℕ) → IsKeptIn (held_at y.held m) (recounted n (count n) count m)
      keeps_it m = subst (λ (hs : List Held). IsKeptIn (held_at hs m) (recounted n (count n) count m)) (sym b.held_is)
          (put_keeps (record { monitor = n; kept = keeps.Flat c; depth = 1 }) x.held n (count n) m count refl (a.free n c f) (o.keeps_count m))

  -- ---- a lock that another thread holds is flagged

  -- ---- what its list says of it behind the event

  held_kept : Became x y x.held 0 → (m : ℕ) → hold_by_list (held_at y.held m) ≡ hold_by_list (held_at x.held m)
  held_kept b m = ap (λ (hs : List Held). hold_by_list (held_at hs m)) b.held_is

  dropped : (n : ℕ) → AreHeldOnce x.held → Became x y (without_held n x.held) 0 → (m : ℕ) → hold_by_list (held_at y.held m) ≡ cond (n == m) NotHeld (hold_by_list (held_at x.held m))
  dropped n once b m = ap (λ (hs : List Held). hold_by_list (held_at hs m)) b.held_is ∙ drop_holds x.held n m once

  -- where it holds no flat lock more
  no_flat : {hs : List Held} {taken : ℕ} → Became x y hs taken → (l : Hold) → one_if_flat l ≡ 0 → (m : ℕ) (q : Bool) → hold_by_list (held_at y.held m) ≡ cond q l (hold_by_list (held_at x.held m)) → count m + flat_in m y + x.counts.locked ≤ count m + flat_in m x + y.counts.locked
  no_flat b l none m true g = omega (arith, ap one_if_flat g, none, b.locked)
  no_flat b l none m false g = omega (arith, ap one_if_flat g, b.locked)

  pub flag_won : (n u : ℕ) → v.lock n ≡ locks.Held u → Became x y x.held 0 → IsPlain now → Owes v (set_lock n (locks.Flagged u) v) count (recounted n (count n) count) t was now x y
  flag_won n u f b plain = lock_written v count n (count n) (locks.Flagged u) (λ i e. let bad : locks.Held u ≡ locks.Fat i = sym f ∙ e in cc) (omega arith) t was now x y a o b.cfg
      (λ i e. absurd (cc)) (λ i e. absurd (cc)) (λ i e. absurd (cc))
      (λ z d. (sym (ap (λ (l : LockWord). hold_by_word z l v.owner) f), inr refl))
      (λ m. ap (λ (hs : List Held). hold_by_list (held_at hs m)) b.held_is ∙ same m (n == m) refl)
      (λ m. subst (λ (hs : List Held). IsKeptIn (held_at hs m) (recounted n (count n) count m)) (sym b.held_is) (subst (λ (i : ℕ). IsKeptIn (held_at x.held m) i) (sym (recount_same n m count)) (o.keeps_count m)))
      (plain_knows (set_lock n (locks.Flagged u) v) t now plain) (plain_saw (set_lock n (locks.Flagged u) v) (recounted n (count n) count) now plain) b.attempt (λ i e. none_drawn now i plain e)
      (λ m. subst (λ (i : ℕ). i ≤ x.cfg.range) (sym (recount_same n m count)) (most m))
      (λ m. let same = recount_same n m count in let locked = b.locked in let flat : flat_in m y ≡ flat_in m x = ap (λ (hs : List Held). one_if_flat (hold_by_list (held_at hs m))) b.held_is in omega (arith, same, locked, flat))
    where
      same : (m : ℕ) (b : Bool) → (n == m) ≡ b → hold_by_list (held_at x.held m) ≡ cond b (cond (u == t) HeldFlat NotHeld) (hold_by_list (held_at x.held m))
      same m true e = sym (o.holds m) ∙ ap (λ (i : ℕ). hold_by_word t (v.lock i) v.owner) (sym ((Decides-eqb n m).0 e)) ∙ ap (λ (l : LockWord). hold_by_word t l v.owner) f
      same m false e = refl

  -- ---- a flat lock is let go, with the count that follows

  pub let_go : (n c : ℕ) (h : Held) → held_at x.held n ≡ Some h → h.kept ≡ keeps.Flat c → AreHeldOnce x.held → Became x y (without_held n x.held) 0 → IsPlain now
      → Owes v (set_lock n (locks.Free (next_count c x.cfg.range)) v) count (recounted n (next_count c x.cfg.range) count) t was now x y
  let_go n c h k f once b plain = lock_written v count n (next_count c x.cfg.range) (locks.Free (next_count c x.cfg.range)) (thin_if_flat t (v.lock n) v.owner flat) ((elim (nat_lt c x.cfg.range) as
      (λ (b : Bool). nat_lt c x.cfg.range ≡ b → count n ≤ (if b then c + 1 else x.cfg.range))
      [ true ↦ λ e. let same = counts in omega (arith, same) | false ↦ λ e. most n ]) refl) t was now x y a o b.cfg
      (λ i e. absurd (cc)) (λ i e. absurd (cc)) (λ i e. let same : next_count c x.cfg.range ≡ i = cc in sym same)
      (λ u d. (sym (flat_alone t u (v.lock n) v.owner flat d), inl (flat_alone t u (v.lock n) v.owner flat d)))
      (dropped n once b)
      (λ m. subst (λ (hs : List Held). IsKeptIn (held_at hs m) (recounted n (next_count c x.cfg.range) count m)) (sym b.held_is) (drop_keeps x.held n (next_count c x.cfg.range) m count once (o.keeps_count m)))
      (plain_knows (set_lock n (locks.Free (next_count c x.cfg.range)) v) t now plain) (plain_saw (set_lock n (locks.Free (next_count c x.cfg.range)) v) (recounted n (next_count c x.cfg.range) count) now plain) b.attempt (λ i e. none_drawn now i plain e)
      (λ m. within (n == m) m)
      (λ m. few m (n == m) refl (dropped n once b m))
    where
      flat : hold_by_word t (v.lock n) v.owner ≡ HeldFlat
      flat = o.holds n ∙ ap hold_by_list k ∙ ap hold_by_kept f

      counts : c ≡ count n
      counts = subst (λ (q : Kept). IsKeptIn (Some (record h { kept = q })) (count n)) f (subst (λ (q : Option Held). IsKeptIn q (count n)) k (o.keeps_count n))

      one_more : (b : Bool) → nat_lt c x.cfg.range ≡ b → (if b then c + 1 else x.cfg.range) ≤ count n + 1
      one_more true e = let same = counts in omega (arith, same)
      one_more false e = let same = counts in let up : x.cfg.range ≤ c = grind (arith, nat_tests, e) in omega (arith, same, up)

      within : (b : Bool) (m : ℕ) → cond b (next_count c x.cfg.range) (count m) ≤ x.cfg.range
      within true m = (elim (nat_lt c x.cfg.range) as (λ (b : Bool). nat_lt c x.cfg.range ≡ b → (if b then c + 1 else x.cfg.range) ≤ x.cfg.range)
          [ true ↦ λ e. let up : c < x.cfg.range = grind (arith, nat_tests, e) in omega (arith, up) | false ↦ λ e. omega arith ]) refl
      within false m = most m

      few : (m : ℕ) (q : Bool) → (n == m) ≡ q → hold_by_list (held_at y.held m) ≡ cond q NotHeld (hold_by_list (held_at x.held m))
          → cond q (next_count c x.cfg.range) (count m) + flat_in m y + x.counts.locked ≤ count m + flat_in m x + y.counts.locked
      few m true e g =
          let same : n ≡ m = (Decides-eqb n m).0 e in
          omega (arith, (ap one_if_flat g), (ap one_if_flat (sym (o.holds n) ∙ flat)), (ap (λ (i : ℕ). flat_in i x) same), (ap count same), (one_more (nat_lt c x.cfg.range) refl), b.locked)
      few m false e g = let same : flat_in m y ≡ flat_in m x = ap one_if_flat g in let locked = b.locked in omega (arith, same, locked)

  -- ---- the lock word names the record

  pub fat_in : (n r : ℕ) (h : Held) → IsDrawn v r → r < MONITOR_RECORDS → v.owner r ≡ t + 1 → drawn_by was ≡ Some r → held_at x.held n ≡ Some h → hold_by_kept h.kept ≡ HeldFlat
      → Became x y (with_held (record h { kept = keeps.Fat r }) x.held) 0 → IsPlain now
      → Owes v (set_lock n (locks.Fat r) v) count (recounted n (count n) count) t was now x y
  fat_in n r h dr low mine d k f b plain = lock_written v count n (count n) (locks.Fat r) (thin_if_flat t (v.lock n) v.owner flat) (omega arith) t was now x y a o b.cfg
      (λ i e. let same : r ≡ i = cc in subst (λ (j : ℕ). IsDrawn v j × (j < MONITOR_RECORDS)) same (dr, low))
      (λ i e. let same : r ≡ i = cc in subst (λ (j : ℕ). drawn_by was ≡ Some j) same d)
      (λ c e. absurd (cc))
      (λ u e. (ap (λ (i : ℕ). cond (i == u + 1) (HeldFat r) NotHeld) mine ∙ another (t + 1) (u + 1) (HeldFat r) (λ g. e (omega (arith, g))) ∙ sym (flat_alone t u (v.lock n) v.owner flat e), inl (flat_alone t u (v.lock n) v.owner flat e)))
      holds
      (λ m. subst (λ (hs : List Held). IsKeptIn (held_at hs m) (recounted n (count n) count m)) (sym b.held_is) (put_keeps (record h { kept = keeps.Fat r }) x.held n (count n) m count (held_monitor n x.held h k) tt (o.keeps_count m)))
      (plain_knows (set_lock n (locks.Fat r) v) t now plain) (plain_saw (set_lock n (locks.Fat r) v) (recounted n (count n) count) now plain) b.attempt (λ i e. none_drawn now i plain e)
      (λ m. subst (λ (i : ℕ). i ≤ x.cfg.range) (sym (recount_same n m count)) (most m))
      (λ m. few m (n == m) refl (holds m))
    where
      flat : hold_by_word t (v.lock n) v.owner ≡ HeldFlat
      flat = o.holds n ∙ ap hold_by_list k ∙ f

      owned : cond (v.owner r == t + 1) (HeldFat r) NotHeld ≡ HeldFat r
      owned = ap (λ (i : ℕ). cond (i == t + 1) (HeldFat r) NotHeld) mine ∙ itself (t + 1) (HeldFat r)

      holds : (m : ℕ) → hold_by_list (held_at y.held m) ≡ cond (n == m) (hold_by_word t (locks.Fat r) v.owner) (hold_by_list (held_at x.held m))
      holds m = ap (λ (hs : List Held). hold_by_list (held_at hs m)) b.held_is ∙ put_holds (record h { kept = keeps.Fat r }) x.held n m (held_monitor n x.held h k)
          ∙ ap (λ (g : Hold). cond (n == m) g (hold_by_list (held_at x.held m))) (sym owned)

      few : (m : ℕ) (q : Bool) → (n == m) ≡ q → hold_by_list (held_at y.held m) ≡ cond q (hold_by_word t (locks.Fat r) v.owner) (hold_by_list (held_at x.held m))
          → recounted n (count n) count m + flat_in m y + x.counts.locked ≤ count m + flat_in m x + y.counts.locked
      few m true e g = omega (arith, (ap one_if_flat (g ∙ owned)), (recount_same n m count), b.locked)
      few m false e g = let flat_same : flat_in m y ≡ flat_in m x = ap one_if_flat g in let same = recount_same n m count in let locked = b.locked in omega (arith, flat_same, same, locked)

  -- ---- a record is drawn

  pub drawn_next : Became x y x.held 0 → Knows (set_next (v.next + 1) v) t now → PhaseSaw (set_next (v.next + 1) v) count now → ((i : ℕ) → drawn_by now ≡ Some i → v.next ≤ i) → Owes v (set_next (v.next + 1) v) count count t was now x y
  drawn_next b knows take draws = record {
    own = record {
      holds = λ m. o.holds m ∙ sym (held_kept b m);
      knows = knows;
      keeps_count = λ m. subst (λ (hs : List Held). IsKeptIn (held_at hs m) (count m)) (sym b.held_is) (o.keeps_count m);
      take = take;
      attempt = attempt_by v (set_next (v.next + 1) v) count count (λ m seen k. k) y.cfg y.attempt (same_attempt b.cfg b.attempt);
    };
    others = λ u phase z e owns apart. record {
      holds = owns.holds;
      knows = knows_by v (set_next (v.next + 1) v) u phase (λ r d k. record { unnamed = k.unnamed; below = let below = k.below in omega (arith, below) }) (λ r d k. k) (λ m r k. k) owns.knows;
      keeps_count = owns.keeps_count;
      take = phase_by v (set_next (v.next + 1) v) count count (λ m seen k. k) phase owns.take;
      attempt = attempt_by v (set_next (v.next + 1) v) count count (λ m seen k. k) z.cfg z.attempt owns.attempt;
    };
    words = record { one = a.one; below = λ m r e. (let below = (a.below m r e).0 in omega (arith, below), (a.below m r e).1); free = a.free };
    draws = λ i e. inr (draws i e);
    within = most;
    few = λ m. let same : flat_in m y ≡ flat_in m x = ap one_if_flat (held_kept b m) in let locked = b.locked in omega (arith, same, locked);
  }

  pub fresh_record : IsDrawn (set_next (v.next + 1) v) v.next
  fresh_record = record { unnamed = λ m e. let below : v.next < v.next = (a.below m v.next e).0 in absurd (omega (arith, below)); below = omega arith }

  -- ---- it has its owner before a lock names it

  pub own_stored : (r : ℕ) → IsDrawn v r → drawn_by was ≡ Some r → Became x y x.held 0 → ((w : Locks) → IsDrawn w r → w.owner r ≡ t + 1 → Knows w t now) → ((w : Locks) → PhaseSaw w count now) → ((i : ℕ) → drawn_by now ≡ Some i → drawn_by was ≡ Some i)
      → Owes v (set_owner r (t + 1) v) count count t was now x y
  own_stored r dr d b knows take draws = record {
    own = record {
      holds = λ m. words_apart v count r (t + 1) t (v.lock m) (dr.unnamed m) ∙ o.holds m ∙ sym (held_kept b m);
      knows = knows (set_owner r (t + 1) v) (record { unnamed = dr.unnamed; below = dr.below }) (ap (λ (b : Bool). cond b (t + 1) (v.owner r)) (is_same r));
      keeps_count = λ m. subst (λ (hs : List Held). IsKeptIn (held_at hs m) (count m)) (sym b.held_is) (o.keeps_count m);
      take = take (set_owner r (t + 1) v);
      attempt = own_attempt v count r (t + 1) x y b.cfg b.attempt o.attempt;
    };
    others = λ u phase z e owns apart. record {
      holds = λ m. words_apart v count r (t + 1) u (v.lock m) (dr.unnamed m) ∙ owns.holds m;
      knows = knows_by v (set_owner r (t + 1) v) u phase (λ i e k. record { unnamed = k.unnamed; below = k.below })
          (λ i e k. ap (λ (b : Bool). cond b (t + 1) (v.owner i)) (ne_eqb r i (λ q. apart r d (e ∙ ap Some (sym q)))) ∙ k) (λ m i k. k) owns.knows;
      keeps_count = owns.keeps_count;
      take = phase_by v (set_owner r (t + 1) v) count count (λ m seen k. k) phase owns.take;
      attempt = attempt_by v (set_owner r (t + 1) v) count count (λ m seen k. k) z.cfg z.attempt owns.attempt;
    };
    words = record { one = a.one; below = a.below; free = a.free };
    draws = λ i e. inl (draws i e);
    within = most;
    few = λ m. let same : flat_in m y ≡ flat_in m x = ap one_if_flat (held_kept b m) in let locked = b.locked in omega (arith, same, locked);
  }

  -- ---- a record without an owner gets one

  pub record_taken : (n r depth taken : ℕ) → v.lock n ≡ locks.Fat r → v.owner r ≡ 0 → Became x y (with_held (record { monitor = n; kept = keeps.Fat r; depth = depth }) x.held) taken → IsPlain now → Owes v (set_owner r (t + 1) v) count count t was now x y
  record_taken n r depth taken f z b plain = owner_written v count r (t + 1) t was now x y a o b.cfg
      (λ u e. (ne_eqb (t + 1) (u + 1) (λ g. e (omega (arith, g))), ap (λ (i : ℕ). i == u + 1) z ∙ ne_eqb 0 (u + 1) (λ g. absurd (omega (arith, g)))))
      (λ m. by_test m (n == m) refl ∙ sym (holds m))
      (λ m. subst (λ (hs : List Held). IsKeptIn (held_at hs m) (count m)) (sym b.held_is) (saved m))
      (plain_knows (set_owner r (t + 1) v) t now plain) (plain_saw (set_owner r (t + 1) v) count now plain) b.attempt (λ i e. absurd (none_drawn now i plain e))
      most
      (λ m. no_flat b (HeldFat r) refl m (n == m) (holds m))
    where
      holds : (m : ℕ) → hold_by_list (held_at y.held m) ≡ cond (n == m) (HeldFat r) (hold_by_list (held_at x.held m))
      holds m = ap (λ (hs : List Held). hold_by_list (held_at hs m)) b.held_is ∙ put_holds (record { monitor = n; kept = keeps.Fat r; depth = depth }) x.held n m refl

      by_test : (m : ℕ) (q : Bool) → (n == m) ≡ q → hold_by_word t (v.lock m) (set_owner r (t + 1) v).owner ≡ cond q (HeldFat r) (hold_by_list (held_at x.held m))
      by_test m true e =
          ap (λ (i : ℕ). hold_by_word t (v.lock i) (set_owner r (t + 1) v).owner) (sym ((Decides-eqb n m).0 e)) ∙ ap (λ (l : LockWord). hold_by_word t l (set_owner r (t + 1) v).owner) f
          ∙ ap (λ (q : Bool). cond (cond q (t + 1) (v.owner r) == t + 1) (HeldFat r) NotHeld) (is_same r) ∙ itself (t + 1) (HeldFat r)
      by_test m false e = words_apart v count r (t + 1) t (v.lock m) (λ g. eqb-false n m e (a.one n m r f g)) ∙ o.holds m

      saved : (m : ℕ) → IsKeptIn (held_at (with_held (record { monitor = n; kept = keeps.Fat r; depth = depth }) x.held) m) (count m)
      saved m = subst (λ (q : Option Held). IsKeptIn q (count m)) (sym (held_put m (record { monitor = n; kept = keeps.Fat r; depth = depth }) x.held)) (elim (n == m) as
          (λ (q : Bool). IsKeptIn (cond q (Some (record { monitor = n; kept = keeps.Fat r; depth = depth })) (held_at x.held m)) (count m))
          [ true ↦ tt | false ↦ o.keeps_count m ])

  -- ---- a record that the thread owns loses its owner

  pub record_left : (n r : ℕ) (h : Held) → held_at x.held n ≡ Some h → h.kept ≡ keeps.Fat r → AreHeldOnce x.held → Became x y (without_held n x.held) 0
      → ((w : Locks) → w.lock n ≡ locks.Fat r → Knows w t now) → ((w : Locks) → PhaseSaw w count now) → ((i : ℕ) → drawn_by now ≡ Some i → ⊥) → Owes v (set_owner r 0 v) count count t was now x y
  record_left n r h k f once b knows take none = owner_written v count r 0 t was now x y a o b.cfg
      (λ u e. (ne_eqb 0 (u + 1) (λ q. absurd (omega (arith, q))), ap (λ (i : ℕ). i == u + 1) fat.1 ∙ ne_eqb (t + 1) (u + 1) (λ q. e (omega (arith, q)))))
      (λ m. by_test m (n == m) refl ∙ sym (dropped n once b m))
      (λ m. subst (λ (hs : List Held). IsKeptIn (held_at hs m) (count m)) (sym b.held_is) (subst (λ (q : Option Held). IsKeptIn q (count m)) (sym (held_without m n x.held once)) (elim (n == m) as
      (λ (q : Bool). IsKeptIn (cond q None (held_at x.held m)) (count m))
      [ true ↦ tt | false ↦ o.keeps_count m ])))
      (knows (set_owner r 0 v) fat.0) (take (set_owner r 0 v)) b.attempt (λ i e. absurd (none i e))
      most
      (λ m. no_flat b NotHeld refl m (n == m) (dropped n once b m))
    where
      fat : (v.lock n ≡ locks.Fat r) × (v.owner r ≡ t + 1)
      fat = fatly t (v.lock n) v.owner r (o.holds n ∙ ap hold_by_list k ∙ ap hold_by_kept f)

      by_test : (m : ℕ) (q : Bool) → (n == m) ≡ q → hold_by_word t (v.lock m) (set_owner r 0 v).owner ≡ cond q NotHeld (hold_by_list (held_at x.held m))
      by_test m true e =
          ap (λ (i : ℕ). hold_by_word t (v.lock i) (set_owner r 0 v).owner) (sym ((Decides-eqb n m).0 e)) ∙ ap (λ (l : LockWord). hold_by_word t l (set_owner r 0 v).owner) fat.0
          ∙ ap (λ (q : Bool). cond (cond q 0 (v.owner r) == t + 1) (HeldFat r) NotHeld) (is_same r) ∙ another 0 (t + 1) (HeldFat r) (λ q. absurd (omega (arith, q)))
      by_test m false e = words_apart v count r 0 t (v.lock m) (λ q. eqb-false n m e (a.one n m r fat.0 q)) ∙ o.holds m
