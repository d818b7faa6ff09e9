-- A write of a lock word by a thread: what it has to show.
use Rattle.std.proofs.{Common.{◌≡◌, ◌≢◌, ◌⊎◌, inl, inr, ℕ, ◌+◌, ◌<◌, ◌≤◌, Bool, true, false, cond, List, Option, Some, None, refl, sym, ap, ◌∙◌, subst, arith, ◌==◌}, lemmas.Bool.Decides.Decides-eqb}
use Rattle.jvm_types.specs.declared.fixed_words.TheConstants.{MONITOR_RECORDS}
use Rattle.machine_types.specs.HeldMonitors.{held_at, with_held, without_held}
use Rattle.machine_types.specs.Owners.{Locks, NotHeld, hold_by_word, hold_by_kept, hold_by_list, drawn_by, IsDrawn, Knows, IsSeen, PhaseSaw, AttemptSawIn, IsKeptIn, Owns, AreLocks}
use Rattle.machine_types.specs.{Structure.AreHeldOnce, Threads.{Attempt, Thread}, declared.{config.Config.Config, lock.{Held.Held, LockWord.LockWord}, phase.Phase.Phase}}
use Rattle.laws_threads.proofs.HeldLists.{held_put, held_without}
use Rattle.laws_states.proofs.{LockViews.{set_lock, recounted, not_held, knows_by, phase_by, attempt_by}, OwnersStep.{Owes, flat_in}}
use Rattle.machine_types.specs.declared.lock.LockWord.TheVariants as locks

-- ---- counts that were seen

pub thin_seen : (l : LockWord) (seen count : ℕ) → ((r : ℕ) → l ≢ locks.Fat r) → IsSeen l seen count → seen ≤ count
thin_seen (locks.Fat r) seen count thin h = absurd (thin r refl)
thin_seen l seen count thin h = h

pub seen_any : (l : LockWord) (seen count : ℕ) → seen ≤ count → IsSeen l seen count
seen_any (locks.Fat r) seen count h = tt
seen_any l seen count h = h

-- ---- the lock of n becomes l, with the count k

module _ (v : Locks) (count : ℕ → ℕ) (n k : ℕ) (l : LockWord) (thin : (r : ℕ) → v.lock n ≢ locks.Fat r) (grows : count n ≤ k) where
  pub seen_after : (m seen : ℕ) → IsSeen (v.lock m) seen (count m) → IsSeen ((set_lock n l v).lock m) seen (recounted n k count m)
  seen_after m seen h = (elim (n == m) as (λ (b : Bool). (n == m) ≡ b → IsSeen (cond b l (v.lock m)) seen (cond b k (count m))) [
    | true ↦ λ e. seen_any l seen k (omega (arith, (thin_seen (v.lock n) seen (count n) thin (subst (λ (i : ℕ). IsSeen (v.lock i) seen (count i)) (sym ((Decides-eqb n m).0 e)) h)), grows))
    | false ↦ λ e. h
  ]) refl

  drawn_after : (r : ℕ) → l ≢ locks.Fat r → IsDrawn v r → IsDrawn (set_lock n l v) r
  drawn_after r d h = record { unnamed = λ m. (elim (n == m) as (λ (b : Bool). cond b l (v.lock m) ≢ locks.Fat r) [ true ↦ d | false ↦ h.unnamed m ]); below = h.below }

  still_fat : (m r : ℕ) → v.lock m ≡ locks.Fat r → (set_lock n l v).lock m ≡ locks.Fat r
  still_fat m r h = (elim (n == m) as (λ (b : Bool). (n == m) ≡ b → cond b l (v.lock m) ≡ locks.Fat r)
      [ true ↦ λ e. absurd (thin r (ap v.lock ((Decides-eqb n m).0 e) ∙ h)) | false ↦ λ e. h ]) refl

  pub knows_after : (u : ℕ) (phase : Phase) → ((r : ℕ) → drawn_by phase ≡ Some r → l ≢ locks.Fat r) → Knows v u phase → Knows (set_lock n l v) u phase
  knows_after u phase d h = knows_by v (set_lock n l v) u phase (λ r e k. drawn_after r (d r e) k) (λ r e k. k) still_fat h

  others_after : (u : ℕ) (was phase : Phase) (z : Thread) → hold_by_word u l v.owner ≡ hold_by_word u (v.lock n) v.owner → (hold_by_word u (v.lock n) v.owner ≡ NotHeld) ⊎ (k ≡ count n) → ((r : ℕ) → l ≡ locks.Fat r → drawn_by was ≡ Some r)
      → Owns v count u phase z → ((r : ℕ) → drawn_by was ≡ Some r → drawn_by phase ≡ Some r → ⊥) → Owns (set_lock n l v) (recounted n k count) u phase z
  others_after u was phase z new quiet draws o d = record {
    holds = λ m. holds m (n == m) refl;
    knows = knows_after u phase (λ r e f. d r (draws r f) e) o.knows;
    keeps_count = λ m. keeps m (n == m) refl quiet;
    take = phase_by v (set_lock n l v) count (recounted n k count) seen_after phase o.take;
    attempt = attempt_by v (set_lock n l v) count (recounted n k count) seen_after z.cfg z.attempt o.attempt;
  }
    where
      holds : (m : ℕ) (b : Bool) → (n == m) ≡ b → hold_by_word u (cond b l (v.lock m)) v.owner ≡ hold_by_list (held_at z.held m)
      holds m true e = new ∙ ap (λ (i : ℕ). hold_by_word u (v.lock i) v.owner) ((Decides-eqb n m).0 e) ∙ o.holds m
      holds m false e = o.holds m

      keeps : (m : ℕ) (b : Bool) → (n == m) ≡ b → (hold_by_word u (v.lock n) v.owner ≡ NotHeld) ⊎ (k ≡ count n) → IsKeptIn (held_at z.held m) (cond b k (count m))
      keeps m true e (inr c) = subst (λ (i : ℕ). IsKeptIn (held_at z.held m) i) (ap count (sym ((Decides-eqb n m).0 e)) ∙ sym c) (o.keeps_count m)
      keeps m true e (inl old) =
          subst (λ (q : Option Held). IsKeptIn q k) (sym (not_held (held_at z.held m) (sym (o.holds m) ∙ ap (λ (i : ℕ). hold_by_word u (v.lock i) v.owner) (sym ((Decides-eqb n m).0 e)) ∙ old))) tt
      keeps m false e q = o.keeps_count m

  words_after : ((r : ℕ) → l ≡ locks.Fat r → IsDrawn v r × (r < MONITOR_RECORDS)) → ((c : ℕ) → l ≡ locks.Free c → c ≡ k) → AreLocks v count → AreLocks (set_lock n l v) (recounted n k count)
  words_after named freed a = record { one = λ i j r. one i j r (n == i) refl (n == j) refl; below = λ i r. below i r (n == i); free = λ i c. free i c (n == i) }
    where
      one : (i j r : ℕ) (b : Bool) → (n == i) ≡ b → (d : Bool) → (n == j) ≡ d → cond b l (v.lock i) ≡ locks.Fat r → cond d l (v.lock j) ≡ locks.Fat r → i ≡ j
      one i j r true e true f g h = sym ((Decides-eqb n i).0 e) ∙ (Decides-eqb n j).0 f
      one i j r true e false f g h = absurd ((named r g).0.unnamed j h)
      one i j r false e true f g h = absurd ((named r h).0.unnamed i g)
      one i j r false e false f g h = a.one i j r g h

      below : (i r : ℕ) (b : Bool) → cond b l (v.lock i) ≡ locks.Fat r → (r < v.next) × (r < MONITOR_RECORDS)
      below i r true g = ((named r g).0.below, (named r g).1)
      below i r false g = a.below i r g

      free : (i c : ℕ) (b : Bool) → cond b l (v.lock i) ≡ locks.Free c → c ≡ cond b k (count i)
      free i c true g = freed c g
      free i c false g = a.free i c g

  -- the write, from what the thread has then
  pub lock_written : (t : ℕ) (was now : Phase) (x y : Thread) → AreLocks v count → Owns v count t was x → y.cfg ≡ x.cfg
      → ((i : ℕ) → l ≡ locks.Fat i → IsDrawn v i × (i < MONITOR_RECORDS)) → ((i : ℕ) → l ≡ locks.Fat i → drawn_by was ≡ Some i) → ((c : ℕ) → l ≡ locks.Free c → c ≡ k)
      → ((u : ℕ) → u ≢ t → (hold_by_word u l v.owner ≡ hold_by_word u (v.lock n) v.owner) × ((hold_by_word u (v.lock n) v.owner ≡ NotHeld) ⊎ (k ≡ count n)))
      → ((m : ℕ) → hold_by_list (held_at y.held m) ≡ cond (n == m) (hold_by_word t l v.owner) (hold_by_list (held_at x.held m)))
      → ((m : ℕ) → IsKeptIn (held_at y.held m) (recounted n k count m))
      → Knows (set_lock n l v) t now → PhaseSaw (set_lock n l v) (recounted n k count) now → y.attempt ≡ x.attempt → ((i : ℕ) → drawn_by now ≡ Some i → ⊥)
      → ((m : ℕ) → recounted n k count m ≤ x.cfg.range)
      → ((m : ℕ) → recounted n k count m + flat_in m y + x.counts.locked ≤ count m + flat_in m x + y.counts.locked)
      → Owes v (set_lock n l v) count (recounted n k count) t was now x y
  lock_written t was now x y a o cfg named draws freed mine held keeps knows take attempt none within few = record {
    own = record {
      holds = λ m. holds m (n == m) (held m) (o.holds m);
      knows = knows;
      keeps_count = keeps;
      take = take;
      attempt = subst (λ (g : Config). AttemptSawIn (set_lock n l v) (recounted n k count) g y.attempt) (sym cfg)
          (subst (λ (q : Option Attempt). AttemptSawIn (set_lock n l v) (recounted n k count) x.cfg q) (sym attempt) (attempt_by v (set_lock n l v) count (recounted n k count) seen_after x.cfg x.attempt o.attempt));
    };
    others = λ u phase z d owns apart. others_after u was phase z (mine u d).0 (mine u d).1 draws owns apart;
    words = words_after named freed a;
    draws = λ i e. absurd (none i e);
    within = within;
    few = few;
  }
    where
      holds : (m : ℕ) (b : Bool) → hold_by_list (held_at y.held m) ≡ cond b (hold_by_word t l v.owner) (hold_by_list (held_at x.held m)) → hold_by_word t (v.lock m) v.owner ≡ hold_by_list (held_at x.held m)
          → hold_by_word t (cond b l (v.lock m)) v.owner ≡ hold_by_list (held_at y.held m)
      holds m true e f = sym e
      holds m false e f = f ∙ sym e

-- ---- what is held when an entry is put or taken away

pub put_holds : (h : Held) (hs : List Held) (n m : ℕ) → h.monitor ≡ n → hold_by_list (held_at (with_held h hs) m) ≡ cond (n == m) (hold_by_kept h.kept) (hold_by_list (held_at hs m))
put_holds h hs n m e = ap hold_by_list (held_put m h hs) ∙ ap (λ (i : ℕ). hold_by_list (cond (i == m) (Some h) (held_at hs m))) e ∙ (elim (n == m) as
    (λ (b : Bool). hold_by_list (cond b (Some h) (held_at hs m)) ≡ cond b (hold_by_kept h.kept) (hold_by_list (held_at hs m)))
    [ true ↦ refl | false ↦ refl ])

pub drop_holds : (hs : List Held) (n m : ℕ) → AreHeldOnce hs → hold_by_list (held_at (without_held n hs) m) ≡ cond (n == m) NotHeld (hold_by_list (held_at hs m))
drop_holds hs n m a = ap hold_by_list (held_without m n hs a) ∙ (elim (n == m) as (λ (b : Bool). hold_by_list (cond b None (held_at hs m)) ≡ cond b NotHeld (hold_by_list (held_at hs m)))
    [ true ↦ refl | false ↦ refl ])

pub put_keeps : (h : Held) (hs : List Held) (n k m : ℕ) (count : ℕ → ℕ) → h.monitor ≡ n → IsKeptIn (Some h) k → IsKeptIn (held_at hs m) (count m) → IsKeptIn (held_at (with_held h hs) m) (recounted n k count m)
put_keeps h hs n k m count e one more = subst (λ (q : Option Held). IsKeptIn q (recounted n k count m)) (sym (held_put m h hs ∙ ap (λ (i : ℕ). cond (i == m) (Some h) (held_at hs m)) e)) (elim (n == m) as
    (λ (b : Bool). IsKeptIn (cond b (Some h) (held_at hs m)) (cond b k (count m)))
    [ true ↦ one | false ↦ more ])

pub drop_keeps : (hs : List Held) (n k m : ℕ) (count : ℕ → ℕ) → AreHeldOnce hs → IsKeptIn (held_at hs m) (count m) → IsKeptIn (held_at (without_held n hs) m) (recounted n k count m)
drop_keeps hs n k m count a more = subst (λ (q : Option Held). IsKeptIn q (recounted n k count m)) (sym (held_without m n hs a)) (elim (n == m) as
    (λ (b : Bool). IsKeptIn (cond b None (held_at hs m)) (cond b k (count m)))
    [ true ↦ tt | false ↦ more ])
