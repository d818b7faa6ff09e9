-- What an event leaves of a word of a lock or of a record, phase by phase.
use Rattle.std.proofs.Common.{◌≡◌, ℕ, zero, suc, ◌+◌, ◌-◌, ◌*◌, ◌/◌, ◌%◌, ◌^◌, ◌<◌, ◌≤◌, nat_lt, nat_le, Bool, true, false, ◌&&◌, Option, Some, None, refl, sym, ap, ◌∙◌, subst, arith, ◌==◌, if◌then◌else◌}
use Rattle.std.proofs.lemmas.{Bool.Decides.nat_tests, Nat.{or_lt, and_le_l}}
use Rattle.lists.proofs.ListLaws.{same_some}
use Rattle.jvm_types.specs.declared.{fixed_words.TheConstants.{NEXT_FREE_WORD, NEXT_TICKET_WORD, MONITOR_RECORDS}, program.{FieldInfo.FieldInfo, Kind.Kind, Program.Program, Target.Target}}
use Rattle.machine_types.specs.{Accesses.left_by, Bounds.PhaseFits, Elision.looks, Events.wanted}
use Rattle.machine_types.specs.{FoundWords.{Content, IntPlace, ReferencePlace, Any, kind_content, field_content, variable_content, effect_content, run_content, leave_content, content_at}, Frames.{Top, top_of, effect_at}}
use Rattle.machine_types.specs.{HeldMonitors.held_at, Instructions.{has_print_left, effect_wants, run_wants}, LockWords.{word_of_lock, lock_by, lock_of, is_lock_by, next_count}}
use Rattle.machine_types.specs.{Monitors.{Claim, Has, Tries, HasNot, claim, count_kept, enter_wants, finish_wants, freed, leave_wants, release, bit_of}, Threads.{Attempt, Thread}}
use Rattle.machine_types.specs.declared.{access.Access.{Access, TheVariants.{Load, Store, Add}}, effect.{Effect.Effect, Variable.Variable}, lock.{Held.Held, Kept.Kept, LockWord.LockWord}}
use Rattle.machine_types.specs.{Words.variable_word, declared.{effect.Effect.TheVariants.{Goes, Reads, Writes, Indexes, Measures, Raises, Makes, Prints, Calls}, phase.Phase.Phase}}
use Rattle.laws_states.specs.{LeftWords.LeftMayStand, SharedWords.{CountsTo, IsLock, MayStand}}
use Rattle.jvm_types.specs.declared.program.Kind.TheVariants as kinds
use Rattle.jvm_types.specs.declared.program.Target.TheVariants as targets
use Rattle.machine_types.specs.declared.lock.LockWord.TheVariants as locks
use Rattle.machine_types.specs.declared.lock.Kept.TheVariants as keeps
use Rattle.machine_types.specs.declared.phase.Phase.TheVariants as phases

-- ---- words of locks

pub by_parts : (word kind upper : ℕ) → word % 4 ≡ kind → word / 4 ≡ upper → lock_of word ≡ lock_by kind upper
by_parts word kind upper e f = ap (λ (k : ℕ). lock_by k (word / 4)) e ∙ ap (λ (n : ℕ). lock_by kind n) f

lock_by_parts : (range word kind upper : ℕ) → word % 4 ≡ kind → word / 4 ≡ upper → is_lock_by kind upper ≡ true → CountsTo range (lock_by kind upper) → IsLock range word
lock_by_parts range word kind upper e f is counts = record {
  is = ap (λ (k : ℕ). is_lock_by k (word / 4)) e ∙ ap (λ (n : ℕ). is_lock_by kind n) f ∙ is;
  counts = subst (CountsTo range) (sym (by_parts word kind upper e f)) counts;
}

-- of a thread that there may be, of a record that there is, with a count up to the last one
abbrev pub LockFits : (range : ℕ) → LockWord → Type 0
LockFits range (locks.Free c) = c ≤ range
LockFits range (locks.Fat r) = r < MONITOR_RECORDS
LockFits range (locks.Held t) = t ≤ 8
LockFits range (locks.Flagged t) = t ≤ 8

thread_fits : (t : ℕ) → t ≤ 8 → nat_lt 0 (t + 1) && nat_le (t + 1) 9 ≡ true
thread_fits t few = grind (arith, nat_tests, few)

pub word_is_lock : (range : ℕ) (lock : LockWord) → LockFits range lock → IsLock range (word_of_lock lock)
word_is_lock range (locks.Free c) fits = lock_by_parts range (4 * c) 0 c (omega arith) (omega arith) refl fits
word_is_lock range (locks.Fat r) fits = lock_by_parts range (4 * r + 1) 1 r (omega arith) (omega arith) (grind (arith, nat_tests, fits)) tt
word_is_lock range (locks.Held t) fits = lock_by_parts range (4 * (t + 1) + 2) 2 (t + 1) (omega arith) (omega arith) (thread_fits t fits) tt
word_is_lock range (locks.Flagged t) fits = lock_by_parts range (4 * (t + 1) + 3) 3 (t + 1) (omega arith) (omega arith) (thread_fits t fits) tt

next_in_range : (count range : ℕ) → next_count count range ≤ range
next_in_range count range = (elim (nat_lt count range) as (λ (b : Bool). nat_lt count range ≡ b → (if b then count + 1 else range) ≤ range)
    [ true ↦ λ e. grind (arith, nat_tests, e) | false ↦ λ e. omega arith ]) refl

freed_is_lock : (s : Thread) (count : ℕ) → IsLock s.cfg.range (freed s count)
freed_is_lock s count = word_is_lock s.cfg.range (locks.Free (next_count count s.cfg.range)) (next_in_range count s.cfg.range)

-- ---- accesses

swapped : (P : ℕ → Type 0) (is v n : ℕ) → P v → P n → P (if n == is then v else n)
swapped P is v n h k = elim (n == is) as (λ (b : Bool). P (if b then v else n)) [ true ↦ h | false ↦ k ]

module _ (P : ℕ → Type 0) (access : Access) (got : ℕ) (may : P got) where
  pub leaves : (a : Access) → Some a ≡ Some access → P (left_by a got) → P (left_by access got)
  leaves a e h = subst (λ (x : Access). P (left_by x got)) (same_some e) h

  pub no_access : None ≡ Some access → P (left_by access got)
  no_access e = absurd (cc)

  pub loaded : (w : ℕ) → Some (Load w) ≡ Some access → P (left_by access got)
  loaded w e = leaves (Load w) e may

  pub looked : (a : Option Attempt) → looks a ≡ Some access → P (left_by access got)
  looked None e = no_access e
  looked (Some a) e = loaded a.monitor e

  pub checked : (b : Bool) (a : Option Attempt) → (if b then looks a else None) ≡ Some access → P (left_by access got)
  checked true a e = looked a e
  checked false a e = no_access e

-- ---- the access that an instruction begins with

pub data Wants : Effect → Access → Type 0 where
  loads : (e : Effect) (w : ℕ) → Wants e (Load w)
  writes : (v : Variable) (word : ℕ) → Wants (Writes v word) (Store (variable_word v) word)
  makes : (word size : ℕ) → Wants (Makes word size) (Add NEXT_FREE_WORD size)
  prints : (n : ℕ) → Wants (Prints n) (Add NEXT_TICKET_WORD 1)

looks_wanted : (e : Effect) (access : Access) (a : Option Attempt) → looks a ≡ Some access → Wants e access
looks_wanted e access None w = absurd (cc)
looks_wanted e access (Some a) w = subst (Wants e) (same_some w) (loads e a.monitor)

effect_wanted : (s : Thread) (access : Access) (pc : ℕ) (e : Effect) → effect_wants s pc e ≡ Some access → Wants e access
effect_wanted s access pc (Goes to made) w = (elim (nat_le to pc) as (λ (b : Bool). (if b then looks s.attempt else None) ≡ Some access → Wants (Goes to made) access)
    [ true ↦ λ w. looks_wanted (Goes to made) access s.attempt w | false ↦ λ w. absurd (cc) ]) w
effect_wanted s access pc (Calls number) w = looks_wanted (Calls number) access s.attempt w
effect_wanted s access pc (Reads v) w = subst (Wants (Reads v)) (same_some w) (loads (Reads v) _)
effect_wanted s access pc (Writes v word) w = subst (Wants (Writes v word)) (same_some w) (writes v word)
effect_wanted s access pc (Indexes array index stored) w = subst (Wants (Indexes array index stored)) (same_some w) (loads (Indexes array index stored) _)
effect_wanted s access pc (Measures array) w = subst (Wants (Measures array)) (same_some w) (loads (Measures array) _)
effect_wanted s access pc (Raises x) w = subst (Wants (Raises x)) (same_some w) (loads (Raises x) _)
effect_wanted s access pc (Makes word size) w = subst (Wants (Makes word size)) (same_some w) (makes word size)
effect_wanted s access pc (Prints n) w = (elim (has_print_left s) as (λ (b : Bool). (if b then Some (Add NEXT_TICKET_WORD 1) else None) ≡ Some access → Wants (Prints n) access)
    [ true ↦ λ w. subst (Wants (Prints n)) (same_some w) (prints n) | false ↦ λ w. absurd (cc) ]) w
effect_wanted s access pc e w = absurd (cc)

-- with the instruction
pub run_wanted : (p : Program) (s : Thread) (access : Access) (top : Option Top) → run_wants p s top ≡ Some access → (x : Top) × (top ≡ Some x) × Wants (effect_at p x) access
run_wanted p s access None w = absurd (cc)
run_wanted p s access (Some x) w = (x, refl, effect_wanted s access x.frame.pc (effect_at p x) w)

-- ---- an instruction looks at a lock word; its other accesses are of other words

-- what a variable's word may be
module _ (P : Content → Type 0) (int : P IntPlace) (reference : P ReferencePlace) (any : P Any) where
  kind_in : (k : Kind) → P (kind_content k)
  kind_in (kinds.Ref class) = reference
  kind_in k = int

  field_in : (f : Option FieldInfo) → P (field_content f)
  field_in None = any
  field_in (Some f) = kind_in f.kind

  pub variable_in : (p : Program) (target : Target) → P (variable_content p target)
  variable_in p (targets.Field number) = field_in _
  variable_in p target = any

effect_leaves : (range : ℕ) (p : Program) (target : Target) (e : Effect) (access : Access) (got : ℕ) → Wants e access → MayStand range (effect_content p target e) got
    → MayStand range (effect_content p target e) (left_by access got)
effect_leaves range p target _ _ got (loads e w) may = may
effect_leaves range p target _ _ got (writes v word) may = variable_in (λ (content : Content). MayStand range content (left_by (Store (variable_word v) word) got)) tt tt tt p target
effect_leaves range p target _ _ got (makes word size) may = tt
effect_leaves range p target _ _ got (prints n) may = tt

-- ---- a monitor is left

module _ (s : Thread) (m : ℕ) (access : Access) (got : ℕ) (number : s.number ≤ 8) where
  released_by : (h : Held) (k : Kept) → Some (release s m k) ≡ Some access → MayStand s.cfg.range (leave_content (Has (record h { kept = k }))) got
      → MayStand s.cfg.range (leave_content (Has (record h { kept = k }))) (left_by access got)
  released_by h (keeps.Flat n) w may = leaves (IsLock s.cfg.range) access got may _ w (swapped (IsLock s.cfg.range) (word_of_lock (locks.Held s.number)) (freed s n) got (freed_is_lock s n) may)
  released_by h (keeps.Fat r) w may = leaves (λ n. n ≤ 9) access got may _ w (omega arith)

  held_left : (h : Held) (b : Bool) → (if b then None else Some (release s m h.kept)) ≡ Some access → MayStand s.cfg.range (leave_content (Has h)) got → MayStand s.cfg.range (leave_content (Has h)) (left_by access got)
  held_left h true w may = absurd (cc)
  held_left h false w may = released_by h h.kept w may

  finish_left : (inner : ℕ) → finish_wants m inner ≡ Some access → IsLock s.cfg.range got → IsLock s.cfg.range (left_by access got)
  finish_left zero w may = loaded (IsLock s.cfg.range) access got may m w
  finish_left (suc inner) w may = no_access (IsLock s.cfg.range) access got may w

  claim_left : (claimed : Claim) → leave_wants s m claimed ≡ Some access → MayStand s.cfg.range (leave_content claimed) got → MayStand s.cfg.range (leave_content claimed) (left_by access got)
  claim_left (Has h) w may = held_left h (nat_lt 1 h.depth) w may
  claim_left (Tries a) w may = finish_left a.inner w may
  claim_left HasNot w may = no_access (IsLock s.cfg.range) access got may w

  entry_left : (claimed : Claim) → enter_wants m claimed ≡ Some access → IsLock s.cfg.range got → IsLock s.cfg.range (left_by access got)
  entry_left HasNot w may = loaded (IsLock s.cfg.range) access got may m w
  entry_left claimed w may = no_access (IsLock s.cfg.range) access got may w

-- ---- waiting bits

bit_is_small : (t : ℕ) → t ≤ 8 → bit_of t < 512
bit_is_small (suc (suc (suc (suc (suc (suc (suc (suc (suc t))))))))) h = absurd (omega (arith, h))
bit_is_small t h = omega arith

-- ---- all phases

pub left_may_stand : LeftMayStand
left_may_stand c s access got number b w may = by_phase s.phase b.phase w may
  where
    IsOwner : ℕ → Type 0
    IsOwner n = n ≤ 9

    AreBits : ℕ → Type 0
    AreBits n = n < 512

    range : ℕ
    range = s.cfg.range

    by_phase : (phase : Phase) → PhaseFits phase → wanted c s phase ≡ Some access → MayStand s.cfg.range (content_at c s phase) got → MayStand s.cfg.range (content_at c s phase) (left_by access got)
    by_phase phases.Run f w may =
        let k = run_wanted c.program s access (top_of c.program s.frames) w in
        subst (λ (o : Option Top). MayStand s.cfg.range (run_content c.program o) (left_by access got)) (sym k.1)
        (effect_leaves s.cfg.range c.program k.0.target (effect_at c.program k.0) access got k.2 (subst (λ (o : Option Top). MayStand s.cfg.range (run_content c.program o) got) k.1 may))
    by_phase (phases.Throw x class) f w may = looked (IsLock s.cfg.range) access got may s.attempt w
    by_phase (phases.Enter m tried) f w may = entry_left s m access got number (claim s m) w may
    by_phase (phases.Acquire m) f w may = loaded (IsLock s.cfg.range) access got may m w
    by_phase (phases.Take m n) f w may = leaves (IsLock s.cfg.range) access got may _ w
        (swapped (IsLock s.cfg.range) (word_of_lock (locks.Free n)) (word_of_lock (locks.Held s.number)) got (word_is_lock s.cfg.range (locks.Held s.number) number) may)
    by_phase (phases.Flag m u) f w may = leaves (IsLock s.cfg.range) access got may _ w
        (swapped (IsLock s.cfg.range) (word_of_lock (locks.Held u)) (word_of_lock (locks.Flagged u)) got (word_is_lock s.cfg.range (locks.Flagged u) f) may)
    by_phase (phases.TakeFat m r) f w may = leaves IsOwner access got may _ w (swapped IsOwner 0 (s.number + 1) got (omega (arith, number)) may)
    by_phase (phases.Leave m a) f w may = claim_left s m access got number (claim s m) w may
    by_phase (phases.FlatOut m a) f w may = leaves (IsLock s.cfg.range) access got may _ w (freed_is_lock s (count_kept (held_at s.held m)))
    by_phase (phases.Own m r toward) f w may = leaves IsOwner access got may _ w (omega (arith, number))
    by_phase (phases.FatIn m r toward) f w may = leaves (IsLock s.cfg.range) access got may _ w (word_is_lock s.cfg.range (locks.Fat r) f)
    by_phase (phases.WaitBit m r) f w may = leaves AreBits access got may _ w (or_lt 9 got (bit_of s.number) may (bit_is_small s.number number))
    by_phase (phases.WaitOut m r) f w may = leaves IsOwner access got may _ w (omega arith)
    by_phase (phases.WaitLook m r depth) f w may = loaded AreBits access got may _ w
    by_phase (phases.Retake m r depth) f w may = leaves IsOwner access got may _ w (swapped IsOwner 0 (s.number + 1) got (omega (arith, number)) may)
    by_phase (phases.NotifyLook m r) f w may = loaded AreBits access got may _ w
    by_phase (phases.NotifyOne m r u) f w may = leaves AreBits access got may _ w (let less = and_le_l got (2 ^ 64 - 1 - bit_of u) in omega (arith, less, may))
    by_phase (phases.NotifyAll m r) f w may = leaves AreBits access got may _ w (omega arith)
    by_phase phase f w may = tt
