-- A write of the owner of a record by a thread: what it has to show.
use Rattle.std.proofs.{Common.{◌≡◌, ◌≢◌, inl, ℕ, ◌+◌, ◌≤◌, Bool, true, false, cond, Option, Some, refl, sym, ap, ◌∙◌, subst, ◌==◌}, lemmas.Bool.{ne_eqb, Decides.Decides-eqb}}
use Rattle.machine_types.specs.{HeldMonitors.held_at, Owners.{Locks, NotHeld, HeldFat, hold_by_word, hold_by_list, drawn_by, Knows, PhaseSaw, AttemptSawIn, IsKeptIn, Owns, AreLocks}}
use Rattle.machine_types.{specs.{Threads.{Attempt, Thread}, declared.{config.Config.Config, lock.LockWord.LockWord, phase.Phase.Phase}}, proofs.PlainStepLaws.is_same}
use Rattle.laws_states.proofs.{LockViews.{set_owner, knows_by, phase_by, attempt_by}, OwnersStep.{Owes, flat_in}}
use Rattle.machine_types.specs.declared.lock.LockWord.TheVariants as locks

module _ (v : Locks) (count : ℕ → ℕ) (one owner : ℕ) where
  -- a thread that owns the record neither before nor after has all as before
  words_same : (u : ℕ) (l : LockWord) → (owner == u + 1) ≡ false → (v.owner one == u + 1) ≡ false → hold_by_word u l (set_owner one owner v).owner ≡ hold_by_word u l v.owner
  words_same u (locks.Fat r) e f = (elim (one == r) as (λ (b : Bool). (one == r) ≡ b → cond (cond b owner (v.owner r) == u + 1) (HeldFat r) NotHeld ≡ cond (v.owner r == u + 1) (HeldFat r) NotHeld)
      [ true ↦ λ g. ap (λ (b : Bool). cond b (HeldFat r) NotHeld) (e ∙ sym f ∙ ap (λ (i : ℕ). v.owner i == u + 1) ((Decides-eqb one r).0 g)) | false ↦ λ g. refl ]) refl
  words_same u l e f = refl

  -- nor does another record's owner change
  pub words_apart : (u : ℕ) (l : LockWord) → l ≢ locks.Fat one → hold_by_word u l (set_owner one owner v).owner ≡ hold_by_word u l v.owner
  words_apart u (locks.Fat r) d = ap (λ (b : Bool). cond (cond b owner (v.owner r) == u + 1) (HeldFat r) NotHeld) (ne_eqb one r (λ e. d (ap locks.Fat (sym e))))
  words_apart u l d = refl

  knows_same : (u : ℕ) (phase : Phase) → (v.owner one == u + 1) ≡ false → Knows v u phase → Knows (set_owner one owner v) u phase
  knows_same u phase f h = knows_by v (set_owner one owner v) u phase (λ r d k. record { unnamed = k.unnamed; below = k.below }) (λ r d e. owned r e (one == r) refl) (λ m r e. e) h
    where
      owned : (r : ℕ) → v.owner r ≡ u + 1 → (b : Bool) → (one == r) ≡ b → cond b owner (v.owner r) ≡ u + 1
      owned r e true g = let owned : (v.owner one == u + 1) ≡ true = ap (λ (i : ℕ). i == u + 1) (ap v.owner ((Decides-eqb one r).0 g) ∙ e) ∙ is_same (u + 1) in absurd (cc)
      owned r e false g = e

  pub own_attempt : (x y : Thread) → y.cfg ≡ x.cfg → y.attempt ≡ x.attempt → AttemptSawIn v count x.cfg x.attempt → AttemptSawIn (set_owner one owner v) count y.cfg y.attempt
  own_attempt x y cfg attempt h = subst (λ (g : Config). AttemptSawIn (set_owner one owner v) count g y.attempt) (sym cfg)
      (subst (λ (q : Option Attempt). AttemptSawIn (set_owner one owner v) count x.cfg q) (sym attempt) (attempt_by v (set_owner one owner v) count count (λ m seen k. k) x.cfg x.attempt h))

  pub owner_written : (t : ℕ) (was now : Phase) (x y : Thread) → AreLocks v count → Owns v count t was x → y.cfg ≡ x.cfg
      → ((u : ℕ) → u ≢ t → ((owner == u + 1) ≡ false) × ((v.owner one == u + 1) ≡ false))
      → ((m : ℕ) → hold_by_word t (v.lock m) (set_owner one owner v).owner ≡ hold_by_list (held_at y.held m))
      → ((m : ℕ) → IsKeptIn (held_at y.held m) (count m))
      → Knows (set_owner one owner v) t now → PhaseSaw (set_owner one owner v) count now → y.attempt ≡ x.attempt → ((i : ℕ) → drawn_by now ≡ Some i → drawn_by was ≡ Some i)
      → ((m : ℕ) → count m ≤ x.cfg.range)
      → ((m : ℕ) → count m + flat_in m y + x.counts.locked ≤ count m + flat_in m x + y.counts.locked)
      → Owes v (set_owner one owner v) count count t was now x y
  owner_written t was now x y a own cfg apart holds keeps knows take attempt draws within few = record {
    own = record { holds = holds; knows = knows; keeps_count = keeps; take = take; attempt = own_attempt x y cfg attempt own.attempt };
    others = λ u phase z d owns e. record {
      holds = λ m. words_same u (v.lock m) (apart u d).0 (apart u d).1 ∙ owns.holds m;
      knows = knows_same u phase (apart u d).1 owns.knows;
      keeps_count = owns.keeps_count;
      take = phase_by v (set_owner one owner v) count count (λ m seen k. k) phase owns.take;
      attempt = attempt_by v (set_owner one owner v) count count (λ m seen k. k) z.cfg z.attempt owns.attempt;
    };
    words = record { one = a.one; below = a.below; free = a.free };
    draws = λ i e. inl (draws i e);
    within = within;
    few = few;
  }
