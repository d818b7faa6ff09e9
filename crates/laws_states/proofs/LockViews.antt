-- What the words say of locks, where one of them has changed; and how a thread has a monitor by them.
use Rattle.std.proofs.{Common.{⊎_elim, ◌≡◌, ◌≢◌, ◌⊎◌, inl, inr, ℕ, ◌+◌, Bool, true, false, cond, Option, Some, None, refl, sym, ap, ◌∙◌, ◌==◌}, lemmas.Bool.{ne_eqb, Decides.Decides-eqb}}
use Rattle.machine_types.specs.Owners.{Locks, Hold, NotHeld, HeldFlat, HeldFat, hold_by_word, hold_by_kept, hold_by_list, drawn_by, IsDrawn, Knows, IsSeen, PhaseSaw, AttemptSawIn}
use Rattle.machine_types.specs.{Threads.Attempt, declared.{config.Config.Config, lock.{Held.Held, Kept.Kept, LockWord.LockWord}, phase.Phase.Phase}}
use Rattle.machine_types.proofs.PlainStepLaws.{is_same}
use Rattle.machine_types.specs.declared.lock.Kept.TheVariants as keeps
use Rattle.machine_types.specs.declared.lock.LockWord.TheVariants as locks
use Rattle.machine_types.specs.declared.phase.Phase.TheVariants as phases

abbrev pub set_lock : (n : ℕ) → LockWord → Locks → Locks
set_lock n l v = record v { lock = λ m. cond (n == m) l (v.lock m) }

abbrev pub set_owner : (r owner : ℕ) → Locks → Locks
set_owner r owner v = record v { owner = λ k. cond (r == k) owner (v.owner k) }

abbrev pub set_next : ℕ → Locks → Locks
set_next n v = record v { next = n }

-- the count of one monitor is another
abbrev pub recounted : (n k : ℕ) → (count : ℕ → ℕ) → (m : ℕ) → ℕ
recounted n k count m = cond (n == m) k (count m)

-- ---- tests

pub itself : (t : ℕ) (h : Hold) → cond (t == t) h NotHeld ≡ h
itself t h = ap (λ (b : Bool). cond b h NotHeld) (is_same t)

pub another : (t u : ℕ) (h : Hold) → t ≢ u → cond (t == u) h NotHeld ≡ NotHeld
another t u h d = ap (λ (b : Bool). cond b h NotHeld) (ne_eqb t u d)

-- ---- how a thread has a monitor

pub flatly : (t : ℕ) (l : LockWord) (owner : ℕ → ℕ) → hold_by_word t l owner ≡ HeldFlat → (l ≡ locks.Held t) ⊎ (l ≡ locks.Flagged t)
flatly t (locks.Free c) owner e = absurd (cc)
flatly t (locks.Held u) owner e = (elim (u == t) as (λ (b : Bool). (u == t) ≡ b → cond b HeldFlat NotHeld ≡ HeldFlat → (locks.Held u ≡ locks.Held t) ⊎ (locks.Held u ≡ locks.Flagged t))
    [ true ↦ λ g e. inl (ap locks.Held ((Decides-eqb u t).0 g)) | false ↦ λ g e. absurd (cc) ]) refl e
flatly t (locks.Flagged u) owner e = (elim (u == t) as (λ (b : Bool). (u == t) ≡ b → cond b HeldFlat NotHeld ≡ HeldFlat → (locks.Flagged u ≡ locks.Held t) ⊎ (locks.Flagged u ≡ locks.Flagged t))
    [ true ↦ λ g e. inr (ap locks.Flagged ((Decides-eqb u t).0 g)) | false ↦ λ g e. absurd (cc) ]) refl e
flatly t (locks.Fat r) owner e = (elim (owner r == t + 1) as (λ (b : Bool). cond b (HeldFat r) NotHeld ≡ HeldFlat → (locks.Fat r ≡ locks.Held t) ⊎ (locks.Fat r ≡ locks.Flagged t))
    [ true ↦ λ e. absurd (cc) | false ↦ λ e. absurd (cc) ]) e

-- the lock is fat, and the thread owns its record
pub fatly : (t : ℕ) (l : LockWord) (owner : ℕ → ℕ) (r : ℕ) → hold_by_word t l owner ≡ HeldFat r → (l ≡ locks.Fat r) × (owner r ≡ t + 1)
fatly t (locks.Free c) owner r e = absurd (cc)
fatly t (locks.Held u) owner r e = (elim (u == t) as (λ (b : Bool). cond b HeldFlat NotHeld ≡ HeldFat r → (locks.Held u ≡ locks.Fat r) × (owner r ≡ t + 1))
    [ true ↦ λ e. absurd (cc) | false ↦ λ e. absurd (cc) ]) e
fatly t (locks.Flagged u) owner r e = (elim (u == t) as (λ (b : Bool). cond b HeldFlat NotHeld ≡ HeldFat r → (locks.Flagged u ≡ locks.Fat r) × (owner r ≡ t + 1))
    [ true ↦ λ e. absurd (cc) | false ↦ λ e. absurd (cc) ]) e
fatly t (locks.Fat k) owner r e = (elim (owner k == t + 1) as (λ (b : Bool). (owner k == t + 1) ≡ b → cond b (HeldFat k) NotHeld ≡ HeldFat r → (locks.Fat k ≡ locks.Fat r) × (owner r ≡ t + 1))
    [ true ↦ λ g e. let same : k ≡ r = cc in (ap locks.Fat same, ap owner (sym same) ∙ (Decides-eqb (owner k) (t + 1)).0 g) | false ↦ λ g e. absurd (cc) ]) refl e

-- a flat lock is held by one thread, and is not fat
pub thin_if_flat : (t : ℕ) (l : LockWord) (owner : ℕ → ℕ) → hold_by_word t l owner ≡ HeldFlat → (r : ℕ) → l ≢ locks.Fat r
thin_if_flat t l owner h r e = ⊎_elim (λ (g : l ≡ locks.Held t). cc) (λ (g : l ≡ locks.Flagged t). cc) (flatly t l owner h)

pub flat_alone : (t u : ℕ) (l : LockWord) (owner : ℕ → ℕ) → hold_by_word t l owner ≡ HeldFlat → u ≢ t → hold_by_word u l owner ≡ NotHeld
flat_alone t u l owner h d = ⊎_elim
    (λ (g : l ≡ locks.Held t). ap (λ (l : LockWord). hold_by_word u l owner) g ∙ another t u HeldFlat (λ e. d (sym e)))
    (λ (g : l ≡ locks.Flagged t). ap (λ (l : LockWord). hold_by_word u l owner) g ∙ another t u HeldFlat (λ e. d (sym e))) (flatly t l owner h)

-- ---- what a thread holds not has no entry

pub not_held : (o : Option Held) → hold_by_list o ≡ NotHeld → o ≡ None
not_held None e = refl
not_held (Some h) e = (elim h.kept as (λ (k : Kept). hold_by_kept k ≡ NotHeld → Some h ≡ None) [ keeps.Flat c ↦ λ e. absurd (cc) | keeps.Fat r ↦ λ e. absurd (cc) ]) e

-- ---- what a phase knows, and it or an attempt saw, where the words are others

pub knows_by : (v w : Locks) (u : ℕ) (phase : Phase) → ((r : ℕ) → drawn_by phase ≡ Some r → IsDrawn v r → IsDrawn w r) → ((r : ℕ) → drawn_by phase ≡ Some r → v.owner r ≡ u + 1 → w.owner r ≡ u + 1)
    → ((m r : ℕ) → v.lock m ≡ locks.Fat r → w.lock m ≡ locks.Fat r) → Knows v u phase → Knows w u phase
knows_by v w u (phases.Own m r toward) drawn owner fat h = drawn r refl h
knows_by v w u (phases.FatIn m r toward) drawn owner fat h = (drawn r refl h.0, owner r refl h.1)
knows_by v w u (phases.TakeFat m r) drawn owner fat h = fat m r h
knows_by v w u (phases.WaitLook m r depth) drawn owner fat h = fat m r h
knows_by v w u (phases.Retake m r depth) drawn owner fat h = fat m r h
knows_by v w u phase drawn owner fat h = tt

module _ (v w : Locks) (count more : ℕ → ℕ) (saw : (m seen : ℕ) → IsSeen (v.lock m) seen (count m) → IsSeen (w.lock m) seen (more m)) where
  pub phase_by : (phase : Phase) → PhaseSaw v count phase → PhaseSaw w more phase
  phase_by (phases.Take m seen) h = saw m seen h
  phase_by phase h = tt

  pub attempt_by : (cfg : Config) (a : Option Attempt) → AttemptSawIn v count cfg a → AttemptSawIn w more cfg a
  attempt_by cfg None h = tt
  attempt_by cfg (Some a) h = record { seen = saw a.monitor a.noted h.seen; not_last = h.not_last }
