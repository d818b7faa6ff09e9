-- What an event leaves of a word is below 2^64, and what it adds to a counter is little.
use Rattle.std.proofs.Common.{◌≡◌, ◌⊎◌, inl, inr, ℕ, zero, suc, ◌+◌, ◌*◌, ◌/◌, ◌%◌, ◌^◌, ◌<◌, ◌≤◌, nat_lt, Bool, true, false, IfSome, Option, Some, None, refl, sym, subst, arith, if◌then◌else◌}
use Rattle.std.proofs.lemmas.Bool.Decides.{nat_tests}
use Rattle.lists.proofs.ListLaws.{same_some}
use Rattle.jvm_types.specs.declared.{fixed_words.TheConstants.{NEXT_FREE_WORD, NEXT_TICKET_WORD, NEXT_RECORD_WORD}, program.{Program.Program, Target.Target}}
use Rattle.checked_program.specs.MarkedProgram.{MarkedProgram}
use Rattle.machine_types.specs.{Accesses.{accessed, left_by}, Elision.looks, Events.{element_wants, wanted}}
use Rattle.machine_types.specs.{FoundWords.{Content, Lock, Owner, Bits, Any, effect_content, run_content, leave_content, content_at}, Frames.{Top, top_of, effect_at}}
use Rattle.machine_types.specs.{LockWords.{lock_by, is_lock_by}}
use Rattle.machine_types.specs.{Monitors.{Claim, Has, Tries, HasNot, claim, enter_wants, finish_wants, leave_wants, release}, Threads.{Attempt, Thread}, Words.variable_word, declared.access.Access.Access}
use Rattle.machine_types.specs.declared.{access.Access.TheVariants.{Load, Store, Add}, effect.Effect.{Effect, TheVariants.{Writes}}}
use Rattle.machine_types.specs.declared.{lock.Kept.Kept, phase.Phase.Phase}
use Rattle.laws_threads.proofs.ThreadMove.{begun_by}
use Rattle.laws_states.{specs.{Counters.most_size, SharedWords.{CountsTo, IsLock, MayStand}}, proofs.{CountedEvents.drawn_by, LeftStands.{Wants, loads, writes, makes, prints, run_wanted, leaves, loaded}}}
use Rattle.laws_states.proofs.TopStores.{IsPlace, StoresFit}
use Rattle.machine_types.specs.declared.lock.Kept.TheVariants as keeps
use Rattle.machine_types.specs.declared.phase.Phase.TheVariants as phases

-- ---- words for locking

upper_small : (range kind upper : ℕ) → range < 2 ^ 61 → is_lock_by kind upper ≡ true → CountsTo range (lock_by kind upper) → upper < 2 ^ 61
upper_small range zero n few is counts = omega (arith, few, counts)
upper_small range (suc zero) n few is counts = let h : n < 1024 = grind (arith, nat_tests, is) in omega (arith, h)
upper_small range kind n few is counts = let h : n ≤ 9 = grind (arith, nat_tests, is) in omega (arith, h)

pub lock_small : (range word : ℕ) → range < 2 ^ 61 → IsLock range word → word < 2 ^ 64
lock_small range word few h = let upper : word / 4 < 2 ^ 61 = upper_small range (word % 4) (word / 4) few h.is h.counts in omega (arith, upper)

-- ---- accesses

abbrev pub Small : ℕ → Type 0
Small n = n < 2 ^ 64

-- what is added has to fit
abbrev pub SumFits : Access → (got : ℕ) → Type 0
SumFits access got = (w v : ℕ) → Some (Add w v) ≡ Some access → got + v < 2 ^ 64

effect_small : (p : Program) (target : Target) (e : Effect) (access : Access) (got : ℕ) → Wants e access → got < 2 ^ 64 → SumFits access got → StoresFit p target e → Small (left_by access got)
effect_small p target _ _ got (loads e w) small sum fits = small
effect_small p target _ _ got (writes v word) small sum fits = fits.1
effect_small p target _ _ got (makes word size) small sum fits = sum NEXT_FREE_WORD size refl
effect_small p target _ _ got (prints n) small sum fits = sum NEXT_TICKET_WORD 1 refl

element_small : (access : Access) (got : ℕ) → got < 2 ^ 64 → (word : ℕ) (stored : Option ℕ)
    → ((v : ℕ) → stored ≡ Some v → v < 2 ^ 64) → Some (element_wants word stored) ≡ Some access → Small (left_by access got)
element_small access got small word None fits w = loaded Small access got small word w
element_small access got small word (Some v) fits w = leaves Small access got small _ w (fits v refl)

-- what a phase stores fits a word
abbrev pub PhaseStores : MarkedProgram → Thread → Phase → Type 0
PhaseStores c s phases.Run = (at : Top) → top_of c.program s.frames ≡ Some at → StoresFit c.program at.target (effect_at c.program at)
PhaseStores c s (phases.Element word stored) = (v : ℕ) → stored ≡ Some v → v < 2 ^ 64
PhaseStores c s (phases.Made a word) = word < 2 ^ 64
PhaseStores c s phase = Unit {0}

abbrev pub IsLocking : Content → Type 0
IsLocking Lock = Unit {0}
IsLocking Owner = Unit {0}
IsLocking Bits = Unit {0}
IsLocking content = ⊥

may_small : (range n : ℕ) (content : Content) → range < 2 ^ 61 → IsLocking content → MayStand range content n → n < 2 ^ 64
may_small range n Lock few is h = lock_small range n few h
may_small range n Owner few is h = omega (arith, h)
may_small range n Bits few is h = omega (arith, h)
may_small range n content few is h = absurd is

-- the phases whose access, where they have one, is of a word for locking
abbrev pub IsLockingPhase : Phase → Type 0
IsLockingPhase phases.Run = ⊥
IsLockingPhase (phases.Element word stored) = ⊥
IsLockingPhase (phases.Made a word) = ⊥
IsLockingPhase (phases.Grow m toward) = ⊥
IsLockingPhase (phases.Ending e) = ⊥
IsLockingPhase phase = Unit {0}

leave_is_locking : (claimed : Claim) → IsLocking (leave_content claimed)
leave_is_locking (Has h) = elim h.kept as (λ (k : Kept). IsLocking (leave_content (Has (record h { kept = k })))) [ keeps.Flat n ↦ tt | keeps.Fat r ↦ tt ]
leave_is_locking (Tries a) = tt
leave_is_locking HasNot = tt

content_is_locking : (c : MarkedProgram) (s : Thread) (phase : Phase) (access : Access) → wanted c s phase ≡ Some access → IsLockingPhase phase → IsLocking (content_at c s phase)
content_is_locking c s phases.Run access w is = absurd is
content_is_locking c s (phases.Leave m a) access w is = leave_is_locking (claim s m)
content_is_locking c s phase access w is = first_of (assumption, cc)

-- where a word for locking is left as one
pub left_small : (c : MarkedProgram) (s : Thread) (phase : Phase) (access : Access) (got : ℕ) → s.cfg.range < 2 ^ 61 → wanted c s phase ≡ Some access → Small got → SumFits access got → PhaseStores c s phase
    → MayStand s.cfg.range (content_at c s phase) (left_by access got) → Small (left_by access got)
left_small c s phases.Run access got few w small sum fits left =
    let k = run_wanted c.program s access (top_of c.program s.frames) w in
    effect_small c.program k.0.target (effect_at c.program k.0) access got k.2 small sum (fits k.0 k.1)
left_small c s (phases.Element word stored) access got few w small sum fits left = element_small access got small word stored fits w
left_small c s (phases.Made a word) access got few w small sum fits left = leaves Small access got small _ w fits
left_small c s (phases.Grow m toward) access got few w small sum fits left = leaves Small access got small _ w (sum NEXT_RECORD_WORD 1 w)
left_small c s (phases.Ending e) access got few w small sum fits left = leaves Small access got small _ w small
left_small c s phase access got few w small sum fits left = may_small s.cfg.range (left_by access got) (content_at c s phase) few (content_is_locking c s phase access w tt) left

-- ---- what is added

abbrev pub added : Access → ℕ
added (Add w v) = v
added access = 0

-- only counters are added to
abbrev pub IsCounted : Access → Type 0
IsCounted (Add w v) = (w ≡ NEXT_FREE_WORD) ⊎ (w ≡ NEXT_TICKET_WORD) ⊎ (w ≡ NEXT_RECORD_WORD)
IsCounted access = Unit {0}

abbrev AddsNone : Access → Type 0
AddsNone (Add w v) = ⊥
AddsNone access = Unit {0}

pub record AddsFew (access : Access) (began drew : ℕ) : Type 0 where
  pub counted : IsCounted access
  pub free : accessed access ≡ NEXT_FREE_WORD → added access ≤ most_size * began
  pub tickets : accessed access ≡ NEXT_TICKET_WORD → added access ≤ began
  pub records : accessed access ≡ NEXT_RECORD_WORD → added access ≤ drew

module _ (access : Access) (began drew : ℕ) where
  by_access : (a : Access) → Some a ≡ Some access → AddsFew a began drew → AddsFew access began drew
  by_access a e h = subst (λ (x : Access). AddsFew x began drew) (same_some e) h

  no_sum : (o : Option Access) → o ≡ Some access → IfSome o AddsNone → AddsFew access began drew
  no_sum None e h = absurd (cc)
  no_sum (Some (Add w v)) e h = absurd h
  no_sum (Some a) e h = by_access a e (record { counted = tt; free = λ k. omega arith; tickets = λ k. omega arith; records = λ k. omega arith })

  looks_adds : (a : Option Attempt) → looks a ≡ Some access → AddsFew access began drew
  looks_adds None e = no_sum _ e tt
  looks_adds (Some a) e = no_sum _ e tt

effect_adds : (p : Program) (target : Target) (e : Effect) (access : Access) → Wants e access → StoresFit p target e → AddsFew access 1 0
effect_adds p target _ _ (loads e w) fits = no_sum (Load w) 1 0 (Some (Load w)) refl tt
effect_adds p target _ _ (writes v word) fits = no_sum (Store (variable_word v) word) 1 0 (Some (Store (variable_word v) word)) refl tt
effect_adds p target _ _ (makes word size) fits = record { counted = inl refl; free = λ k. omega (arith, fits); tickets = λ k. absurd (omega (arith, k)); records = λ k. absurd (omega (arith, k)) }
effect_adds p target _ _ (prints n) fits = record { counted = inr (inl refl); free = λ k. absurd (omega (arith, k)); tickets = λ k. omega arith; records = λ k. absurd (omega (arith, k)) }

leave_adds : (s : Thread) (m : ℕ) (access : Access) (claimed : Claim) → leave_wants s m claimed ≡ Some access → AddsFew access 0 0
leave_adds s m access (Has h) w = by_depth (nat_lt 1 h.depth) w
  where
    by_depth : (b : Bool) → (if b then None else Some (release s m h.kept)) ≡ Some access → AddsFew access 0 0
    by_depth true w = no_sum access 0 0 _ w tt
    by_depth false w = (elim h.kept as (λ (k : Kept). Some (release s m k) ≡ Some access → AddsFew access 0 0)
        [ keeps.Flat n ↦ λ w. no_sum access 0 0 _ w tt | keeps.Fat r ↦ λ w. no_sum access 0 0 _ w tt ]) w
leave_adds s m access (Tries a) w = (elim a.inner as (λ (inner : ℕ). finish_wants m inner ≡ Some access → AddsFew access 0 0)
    [ zero ↦ λ w. no_sum access 0 0 _ w tt | suc inner ↦ λ w. no_sum access 0 0 _ w tt ]) w
leave_adds s m access HasNot w = no_sum access 0 0 _ w tt

enter_adds : (m : ℕ) (access : Access) (claimed : Claim) → enter_wants m claimed ≡ Some access → AddsFew access 0 0
enter_adds m access HasNot w = no_sum access 0 0 _ w tt
enter_adds m access claimed w = no_sum access 0 0 _ w tt

element_adds : (word : ℕ) (access : Access) (stored : Option ℕ) → Some (element_wants word stored) ≡ Some access → AddsFew access 0 0
element_adds word access None w = no_sum access 0 0 _ w tt
element_adds word access (Some v) w = no_sum access 0 0 _ w tt

pub adds_few : (c : MarkedProgram) (s : Thread) (phase : Phase) (access : Access) → wanted c s phase ≡ Some access → PhaseStores c s phase → AddsFew access (begun_by phase (top_of c.program s.frames)) (drawn_by phase)
adds_few c s phases.Run access w fits =
    let k = run_wanted c.program s access (top_of c.program s.frames) w in
    subst (λ (o : Option Top). AddsFew access (begun_by phases.Run o) 0) (sym k.1) (effect_adds c.program k.0.target (effect_at c.program k.0) access k.2 (fits k.0 k.1))
adds_few c s (phases.Element word stored) access w fits = element_adds word access stored w
adds_few c s (phases.Throw x class) access w fits = looks_adds access 0 0 s.attempt w
adds_few c s (phases.Enter m n) access w fits = enter_adds m access (claim s m) w
adds_few c s (phases.Leave m a) access w fits = leave_adds s m access (claim s m) w
adds_few c s (phases.Grow m toward) access w fits = by_access access 0 1 _ w (record { counted = inr (inr refl); free = λ k. absurd (omega (arith, k)); tickets = λ k. absurd (omega (arith, k)); records = λ k. omega arith })
adds_few c s phase access w fits = no_sum access 0 0 _ w tt

-- ---- a counter is only added to

abbrev pub OnlyAdds : Access → (got : ℕ) → Type 0
OnlyAdds access got = left_by access got ≤ got + added access

module _ (access : Access) (got : ℕ) where
  adds_by : (a : Access) → Some a ≡ Some access → left_by a got ≤ got + added a → OnlyAdds access got
  adds_by a e h = subst (λ (x : Access). left_by x got ≤ got + added x) (same_some e) h

not_place : (content : Content) → content ≡ Any → IsPlace content → ⊥
not_place content e is = subst IsPlace e is

abbrev pub IsMade : Phase → Type 0
IsMade (phases.Made a word) = Unit {0}
IsMade phase = ⊥

effect_only_adds : (p : Program) (target : Target) (e : Effect) (access : Access) (got : ℕ) → Wants e access → StoresFit p target e → effect_content p target e ≡ Any → OnlyAdds access got
effect_only_adds p target _ _ got (writes v word) fits any = absurd (not_place (effect_content p target (Writes v word)) any fits.0)
effect_only_adds p target _ _ got (loads e w) fits any = omega arith
effect_only_adds p target _ _ got (makes word size) fits any = omega arith
effect_only_adds p target _ _ got (prints n) fits any = omega arith

-- but where a header is stored for the first time
pub only_adds : (c : MarkedProgram) (s : Thread) (phase : Phase) (access : Access) (got : ℕ) → wanted c s phase ≡ Some access → PhaseStores c s phase → content_at c s phase ≡ Any → (IsMade phase → ⊥) → OnlyAdds access got
only_adds c s phases.Run access got w fits any not_made =
    let k = run_wanted c.program s access (top_of c.program s.frames) w in
    effect_only_adds c.program k.0.target (effect_at c.program k.0) access got k.2 (fits k.0 k.1) (subst (λ (o : Option Top). run_content c.program o ≡ Any) k.1 any)
only_adds c s (phases.Element word stored) access got w fits any not_made = absurd (not_place _ any tt)
only_adds c s (phases.Made a word) access got w fits any not_made = absurd (not_made tt)
only_adds c s (phases.Grow m toward) access got w fits any not_made = adds_by access got _ w (omega arith)
only_adds c s (phases.Ending e) access got w fits any not_made = adds_by access got _ w (omega arith)
only_adds c s phase access got w fits any not_made = absurd (subst IsLocking any (content_is_locking c s phase access w tt))
