-- The list of held monitors, in memory.
use Rattle.std.proofs.Common.{◌≡◌, ℕ, zero, suc, ◌+◌, ◌<◌, ◌≤◌, Bool, true, false, List, [], ◌∷◌, ◌++◌, length, take, drop, set, get_or, Some, None, refl, sym, ap, subst, ◌∙◌, arith, add-one, ◌==◌, if◌then◌else◌, slice_get}
use Rattle.std.{specs.List.{AllByRecursion, IsDistinct, remove}, proofs.lemmas.{Bool.{eq-eqb, Decides.nat_tests}, List.{drop_more, set_split}, Map.Keys.{IsDistinct-tail, apart_from_distinct}}}
use Rattle.machine_types.specs.{HeldMonitors.{held_at, with_held, without_held}, declared.lock.Held.Held}
use Rattle.frames.specs.HeldLists.{AreOfOtherMonitors, has_same_monitor}

put_after : (e h : Held) (hs : List Held) (b : Bool) → (held_at hs e.monitor ≡ None → with_held e hs ≡ hs ++ e ∷ [])
    → (if b then Some h else held_at hs e.monitor) ≡ None → (if b then e ∷ hs else h ∷ with_held e hs) ≡ h ∷ (hs ++ e ∷ [])
put_after e h hs true more none = cc
put_after e h hs false more none = ap (λ l. h ∷ l) (more none)

pub put_new : (e : Held) (hs : List Held) → held_at hs e.monitor ≡ None → with_held e hs ≡ hs ++ e ∷ []
put_new e [] none = refl
put_new e (h ∷ hs) none = put_after e h hs (h.monitor == e.monitor) (put_new e hs) none

stays_after : (m : ℕ) (h : Held) (hs : List Held) (b : Bool) → (held_at hs m ≡ None → without_held m hs ≡ hs)
    → (if b then Some h else held_at hs m) ≡ None → (if b then hs else h ∷ without_held m hs) ≡ h ∷ hs
stays_after m h hs true more none = cc
stays_after m h hs false more none = ap (λ l. h ∷ l) (more none)

-- nothing is dropped where the monitor has no entry
pub stays : (m : ℕ) (hs : List Held) → held_at hs m ≡ None → without_held m hs ≡ hs
stays m [] none = refl
stays m (h ∷ hs) none = stays_after m h hs (h.monitor == m) (stays m hs) none

pub stays_behind : (m : ℕ) (hs : List Held) (i : ℕ) → i ≤ 0 → held_at (drop i hs) m ≡ None → without_held m hs ≡ hs
stays_behind m hs zero l none = stays m hs none
stays_behind m hs (suc i) l none = absurd (omega (arith, l))

-- no entry before that at i is of the monitor
record IsFirst (m : ℕ) (hs : List Held) (i : ℕ) : Type 0 where
  found : held_at hs m ≡ slice_get hs i
  rest : without_held m hs ≡ take i hs ++ without_held m (drop i hs)
  other : (e : Held) → e.monitor ≡ m → with_held e hs ≡ take i hs ++ with_held e (drop i hs)

skipped : (e h : Held) (hs rest : List Held) → (h.monitor == e.monitor) ≡ false → with_held e hs ≡ rest → with_held e (h ∷ hs) ≡ h ∷ rest
skipped e h hs rest test more = rw test (ap (λ l. h ∷ l) more)

first : (m : ℕ) (hs : List Held) (i : ℕ) (d : Held) → AreOfOtherMonitors hs → i < length hs → (get_or hs i d).monitor ≡ m → IsFirst m hs i
first m [] i d once l same = absurd (omega (arith, l))
first m (h ∷ hs) zero d once l same = record { found = rw (eq-eqb h.monitor m same) refl; rest = refl; other = λ e q. refl }
first m (h ∷ hs) (suc i) d once l same =
    let apart : (h.monitor == (get_or hs i d).monitor) ≡ false = apart_from_distinct has_same_monitor (h ∷ hs) 0 (suc i) d once (omega arith) l in
    let test : (h.monitor == m) ≡ false = rw same at apart in
    let less : i < length hs = omega (arith, l) in
    let more = first m hs i d (IsDistinct-tail has_same_monitor h hs once) less same in
    record {
      found = rw test (more.found);
      rest = rw test (ap (λ r. h ∷ r) more.rest);
      other = λ e q. skipped e h hs (take i hs ++ with_held e (drop i hs)) (subst (λ (n : ℕ). (h.monitor == n) ≡ false) (sym q) test) (more.other e q);
    }

-- the entry at i is that of its monitor
pub placed : (m : ℕ) (hs : List Held) (i : ℕ) (d : Held) → AreOfOtherMonitors hs → i < length hs → (get_or hs i d).monitor ≡ m
    → (held_at hs m ≡ slice_get hs i) × (without_held m hs ≡ remove hs i) × ((e : Held) → e.monitor ≡ m → with_held e hs ≡ set hs i e)
placed m hs i d once l same =
    let before = first m hs i d once l same in
    let h = get_or hs i d in
    let opened : drop i hs ≡ h ∷ drop (i + 1) hs = drop_more hs i d l in
    let test : (h.monitor == m) ≡ true = eq-eqb h.monitor m same in
    let gone : without_held m (drop i hs) ≡ drop (i + 1) hs = rw (opened, test) refl in
    let swapped : (e : Held) → e.monitor ≡ m → with_held e (drop i hs) ≡ e ∷ drop (i + 1) hs = (λ e q. rw (opened, q, test) refl) in (
      before.found,
      before.rest ∙ ap (λ r. take i hs ++ r) gone ∙ ap (λ (j : ℕ). take i hs ++ drop j hs) (add-one i),
      (λ e q. before.other e q ∙ ap (λ r. take i hs ++ r) (swapped e q) ∙ ap (λ (j : ℕ). take i hs ++ e ∷ drop j hs) (add-one i) ∙ sym (set_split hs i e l)),
    )

-- ---- the monitors stay distinct

pub none_held : AreOfOtherMonitors []
unfolding IsDistinct
none_held = tt

abbrev IsOther : Held → List Held → Type 0
IsOther g hs = AllByRecursion (λ h. has_same_monitor g h ≡ false) hs

other_with : (g e h : Held) (hs : List Held) (b : Bool) → has_same_monitor g e ≡ false → has_same_monitor g h ≡ false → IsOther g hs → IsOther g (with_held e hs)
    → IsOther g (if b then e ∷ hs else h ∷ with_held e hs)
other_with g e h hs true this that rest more = (this, rest)
other_with g e h hs false this that rest more = (that, more)

put_other : (g e : Held) (hs : List Held) → has_same_monitor g e ≡ false → IsOther g hs → IsOther g (with_held e hs)
put_other g e [] this none = (this, none)
put_other g e (h ∷ hs) this all = other_with g e h hs (h.monitor == e.monitor) this all.0 all.1 (put_other g e hs this all.1)

other_without : (g h : Held) (hs : List Held) (m : ℕ) (b : Bool) → has_same_monitor g h ≡ false → IsOther g hs → IsOther g (without_held m hs)
    → IsOther g (if b then hs else h ∷ without_held m hs)
other_without g h hs m true that rest more = rest
other_without g h hs m false that rest more = (that, more)

drop_other : (g : Held) (m : ℕ) (hs : List Held) → IsOther g hs → IsOther g (without_held m hs)
drop_other g m [] none = none
drop_other g m (h ∷ hs) all = other_without g h hs m (h.monitor == m) all.0 all.1 (drop_other g m hs all.1)

same_key : (g h e : Held) (hs : List Held) → g.monitor ≡ e.monitor → IsOther g hs → IsOther e hs
same_key g h e hs same all = subst (λ (n : ℕ). AllByRecursion (λ (x : Held). (n == x.monitor) ≡ false) hs) same all

put_by : (e h : Held) (hs : List Held) (b : Bool) → (h.monitor == e.monitor) ≡ b → IsOther h hs → AreOfOtherMonitors hs → AreOfOtherMonitors (with_held e hs)
    → AreOfOtherMonitors (if b then e ∷ hs else h ∷ with_held e hs)
unfolding IsDistinct
put_by e h hs true test here rest more = (same_key h h e hs (grind (arith, nat_tests)) here, rest)
put_by e h hs false test here rest more = (put_other h e hs test here, more)

pub put_keeps : (e : Held) (hs : List Held) → AreOfOtherMonitors hs → AreOfOtherMonitors (with_held e hs)
unfolding IsDistinct
put_keeps e [] none = (none, none)
put_keeps e (h ∷ hs) all = put_by e h hs (h.monitor == e.monitor) refl all.0 all.1 (put_keeps e hs all.1)

-- an entry is added to those of other monitors
pub add_keeps : (e : Held) (hs : List Held) → held_at hs e.monitor ≡ None → AreOfOtherMonitors hs → AreOfOtherMonitors (hs ++ e ∷ [])
add_keeps e hs none all = subst AreOfOtherMonitors (put_new e hs none) (put_keeps e hs all)

drop_by : (m : ℕ) (h : Held) (hs : List Held) (b : Bool) → IsOther h hs → AreOfOtherMonitors hs → AreOfOtherMonitors (without_held m hs)
    → AreOfOtherMonitors (if b then hs else h ∷ without_held m hs)
unfolding IsDistinct
drop_by m h hs true here rest more = rest
drop_by m h hs false here rest more = (drop_other h m hs here, more)

pub drop_keeps : (m : ℕ) (hs : List Held) → AreOfOtherMonitors hs → AreOfOtherMonitors (without_held m hs)
unfolding IsDistinct
drop_keeps m [] none = none
drop_keeps m (h ∷ hs) all = drop_by m h hs (h.monitor == m) all.0 all.1 (drop_keeps m hs all.1)
