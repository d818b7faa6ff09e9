-- A step of the plain machine leaves its numbers small.
use Rattle.std.proofs.Common.{◌≡◌, ◌<◌, ◌≤◌, ◌+◌, ◌*◌, ◌^◌, ℕ, zero, suc, Bool, true, false, List, [], ◌∷◌, ◌++◌, map, Option, Some, None, refl, subst, arith, ◌==◌, nat_lt, nat_le, not, filter, option_map, option_and_then, slice_get, slice_set, if◌then◌else◌}
use Rattle.std.specs.List.{AllByRecursion, list_any, range_with_len}
use Rattle.lists.proofs.ListLaws.{all_weaker, same_some}
use Rattle.jvm_types.specs.{ProgramInvariant.IsProgram, declared.outcome.Thrown.TheVariants.{ArrayIndexOutOfBoundsException, IllegalMonitorStateException, NullPointerException, OutOfMemoryError}}
use Rattle.jvm_types.specs.declared.program.{MethodInfo.MethodInfo, Program.Program}
use Rattle.machine_types.specs.{Effects.read_by, Frames.{Top, effect_at, making, pushed, top_of, went_on}, Ints.{int_of, low}}
use Rattle.machine_types.specs.{Onward.{Onward, Running, after, dispatched, done, returns, rooted, threw}, Parts.{done_roots, init_roots}}
use Rattle.machine_types.specs.PlainInstructions.{plain_did, got_by, if_plain_held, if_left, plain_indexed, indexed_in, plain_instructed, plain_leaves, plain_leaving, plain_made}
use Rattle.machine_types.specs.PlainMemory.{new_object}
use Rattle.machine_types.specs.PlainState.{Holding, Plain, PlainThread, Status, Ready, Run, Throw, Enter, Leave, Wait, Notify, NotifyAll, Waiting, Woken, Ended, first_thread, plain_goes_on, held_by, holding_at, is_holder, let_go, plain_start, plain_root_over, plain_start_thread, value_at, with_holding, with_status, with_thread, written}
use Rattle.machine_types.specs.PlainSteps.{all_notified, plain_begins, plain_begun, plain_entered, exited, is_due, left, may_do_done, notified, plain_step, retaken, step_at, step_of, waited, waits_on, wakes, wakes_one, woken}
use Rattle.machine_types.specs.{Words.{header_length, value_word, variable_word}, declared.effect.Effect.Effect}
use Rattle.machine_types.specs.declared.{effect.Effect.TheVariants.{Writes, Indexes, Makes, Prints, Returns, Leaves, Waits, Notifies, NotifiesAll}, phase.After.After, plain.Act.Act}
use Rattle.machine_types.specs.declared.plain.PlainStep.{PlainStep}
use Rattle.history_rule.{specs.Small.{IsSmall, HasRoomForStep, MakesSmall, waiting_depth}, proofs.SmallEffects.top_small}
use Rattle.jvm_types.specs.declared.outcome.End.TheVariants as ends
use Rattle.machine_types.specs.declared.phase.After.TheVariants as afters
use Rattle.machine_types.specs.Onward as onward
use Rattle.machine_types.specs.declared.plain.Act.TheVariants as acts

-- ---- lists

module _ {X : Type 0} (P : X → Type 0) where
  all_set : (xs : List X) (t : ℕ) (x : X) → AllByRecursion P xs → P x → AllByRecursion P (slice_set xs t x)
  all_set [] t x all h = tt
  all_set (y ∷ ys) zero x all h = (h, all.1)
  all_set (y ∷ ys) (suc t) x all h = (all.0, all_set ys t x all.1 h)

  all_got : (xs : List X) (t : ℕ) (x : X) → AllByRecursion P xs → slice_get xs t ≡ Some x → P x
  all_got [] t x all e = cc
  all_got (y ∷ ys) zero x all e = subst P (same_some e) all.0
  all_got (y ∷ ys) (suc t) x all e = all_got ys t x all.1 e

  all_filter : (test : X → Bool) (xs : List X) → AllByRecursion P xs → AllByRecursion P (filter test xs)
  all_filter test [] all = tt
  all_filter test (x ∷ xs) all = by_test (test x) (all_filter test xs all.1)
    where
      by_test : (b : Bool) → AllByRecursion P (filter test xs) → AllByRecursion P (if b then x ∷ filter test xs else filter test xs)
      by_test true rest = (all.0, rest)
      by_test false rest = rest

all_map : {X Y : Type 0} (P : X → Type 0) (Q : Y → Type 0) (f : X → Y) → ((x : X) → P x → Q (f x)) → (xs : List X) → AllByRecursion P xs → AllByRecursion Q (map f xs)
all_map P Q f h [] all = tt
all_map P Q f h (x ∷ xs) all = (h x all.0, all_map P Q f h xs all.1)

-- ---- monitors

module _ (n : ℕ) where
  abbrev AreHeld : List Holding → Type 0
  AreHeld hs = AllByRecursion (λ h. h.depth ≤ n) hs

  abbrev DoWait : List PlainThread → Type 0
  DoWait xs = AllByRecursion (λ x. waiting_depth x.status ≤ n) xs

  put_held : (e : Holding) (hs : List Holding) → AreHeld hs → e.depth ≤ n → AreHeld (with_holding e hs)
  put_held e [] all h = (h, tt)
  put_held e (x ∷ xs) all h = by_test (x.monitor == e.monitor) (put_held e xs all.1 h)
    where
      by_test : (b : Bool) → AreHeld (with_holding e xs) → AreHeld (if b then e ∷ xs else x ∷ with_holding e xs)
      by_test true rest = (h, all.1)
      by_test false rest = (all.0, rest)

  -- ---- states

  set_thread : (q : Plain) (t : ℕ) (x : PlainThread) → IsSmall n q → waiting_depth x.status ≤ n → IsSmall n (with_thread q t x)
  set_thread q t x k h = record { held = k.held; waits = all_set (λ (y : PlainThread). waiting_depth y.status ≤ n) q.threads t x k.waits h; next = k.next }

  holds : (q : Plain) (m t depth : ℕ) → IsSmall n q → depth ≤ n → IsSmall n (held_by q m t depth)
  holds q m t depth k h = record { held = put_held (record { monitor = m; holder = t; depth = depth }) q.holdings k.held h; waits = k.waits; next = k.next }

  lets_go : (q : Plain) (m : ℕ) → IsSmall n q → IsSmall n (let_go q m)
  lets_go q m k = record { held = all_filter (λ (h : Holding). h.depth ≤ n) (λ (h : Holding). not (h.monitor == m)) q.holdings k.held; waits = k.waits; next = k.next }

  writes : (q : Plain) (place value : ℕ) → IsSmall n q → IsSmall n (written q place value)
  writes q place value k = record { held = k.held; waits = k.waits; next = k.next }

  -- ---- where there is one

  module _ (r : Plain) where
    mapped : {X : Type 0} (f : X → Plain) (o : Option X) → ((x : X) → o ≡ Some x → IsSmall n (f x)) → option_map f o ≡ Some r → IsSmall n r
    mapped f None h e = cc
    mapped f (Some x) h e = subst (IsSmall n) (same_some e) (h x refl)

    bound : {X : Type 0} (f : X → Option Plain) (o : Option X) → ((x : X) → o ≡ Some x → f x ≡ Some r → IsSmall n r) → option_and_then f o ≡ Some r → IsSmall n r
    bound f None h e = cc
    bound f (Some x) h e = h x refl e

    is : (q : Plain) → IsSmall n q → Some q ≡ Some r → IsSmall n r
    is q k e = subst (IsSmall n) (same_some e) k

    tested : (b : Bool) (o : Option Plain) → (o ≡ Some r → IsSmall n r) → (if b then o else None) ≡ Some r → IsSmall n r
    tested true o h e = h e
    tested false o h e = cc

    untested : (b : Bool) (o : Option Plain) → (o ≡ Some r → IsSmall n r) → (if b then None else o) ≡ Some r → IsSmall n r
    untested false o h e = h e
    untested true o h e = cc

  -- ---- how a thread goes on

  root_small : (x : PlainThread) (roots : List ℕ) → waiting_depth (plain_root_over x roots).status ≤ n
  root_small x [] = omega arith
  root_small x (number ∷ roots) = omega arith

  goes_small : (x : PlainThread) (o : Onward) → waiting_depth (plain_goes_on x o).status ≤ n
  goes_small x (onward.Running frames) = omega arith
  goes_small x (onward.Throwing r class frames) = omega arith
  goes_small x (onward.Entering m frames) = omega arith
  goes_small x (onward.Leaving m a frames) = omega arith
  goes_small x onward.RootReturned = root_small x x.roots
  goes_small x (onward.Uncaught class) = omega arith

  go_small : (q : Plain) (t : ℕ) (x : PlainThread) (o : Onward) → IsSmall n q → IsSmall n (with_thread q t (plain_goes_on x o))
  go_small q t x o k = set_thread q t (plain_goes_on x o) k (goes_small x o)

  -- ---- the begin of a root

  begun_small : (p : Program) (t : ℕ) (x y : PlainThread) (roots : List ℕ) → plain_begun p t x roots ≡ Some y → waiting_depth y.status ≤ n
  begun_small p t x y [] e = cc
  begun_small p t x y (number ∷ roots) e = by_method (slice_get p.methods number) e
    where
      by_method : (o : Option MethodInfo) → option_map (λ m. plain_goes_on (record x { roots = roots }) (rooted p t number m)) o ≡ Some y → waiting_depth y.status ≤ n
      by_method None e = cc
      by_method (Some m) e = subst (λ (z : PlainThread). waiting_depth z.status ≤ n) (same_some e) (goes_small (record x { roots = roots }) (rooted p t number m))

  may_small : (b : Bool) (o : Option PlainThread) (y : PlainThread) → (o ≡ Some y → waiting_depth y.status ≤ n) → (if b then o else None) ≡ Some y → waiting_depth y.status ≤ n
  may_small true o y h e = h e
  may_small false o y h e = cc

  begins_small : (p : Program) (t : ℕ) (x y : PlainThread) (status : Status) → plain_begins p t x status ≡ Some y → waiting_depth y.status ≤ n
  begins_small p t x y Ready e = begun_small p t x y x.roots e
  begins_small p t x y (Ended ends.Returned) e = may_small (may_do_done t x.ended) (plain_begun p t x (done_roots p)) y (begun_small p t x y (done_roots p)) e
  begins_small p t x y status e = cc

  -- ---- what an instruction does

  module _ (q : Plain) (t : ℕ) (x : PlainThread) (k : IsSmall n q) where
    held_small : (m : ℕ) (at : Top) (more : PlainThread) → waiting_depth more.status ≤ n → IsSmall n (with_thread q t (if_plain_held q t m x at more))
    held_small m at more h = by_test (is_holder t (holding_at q.holdings m))
      where
        by_test : (b : Bool) → IsSmall n (with_thread q t (if b then more else plain_goes_on x (threw IllegalMonitorStateException at)))
        by_test true = set_thread q t more k h
        by_test false = go_small q t x (threw IllegalMonitorStateException at) k

    left_small : (at : Top) (o : Onward) → IsSmall n (with_thread q t (if_left q t x at o))
    left_small at (onward.Leaving m a frames) = held_small m at (plain_goes_on x (onward.Leaving m a frames)) (omega arith)
    left_small at (onward.Running frames) = go_small q t x (onward.Running frames) k
    left_small at (onward.Throwing r class frames) = go_small q t x (onward.Throwing r class frames) k
    left_small at (onward.Entering m frames) = go_small q t x (onward.Entering m frames) k
    left_small at onward.RootReturned = go_small q t x onward.RootReturned k
    left_small at (onward.Uncaught class) = go_small q t x (onward.Uncaught class) k

    leaves_small : (p : Program) (at : Top) (m : ℕ) → IsSmall n (with_thread q t (plain_leaves p q t x at m))
    leaves_small p at m = by_test (m == 0)
      where
        by_test : (b : Bool) → IsSmall n (with_thread q t (if b then plain_goes_on x (threw NullPointerException at) else if_left q t x at (onward.Leaving m afters.Next (went_on p at 0))))
        by_test true = go_small q t x (threw NullPointerException at) k
        by_test false = left_small at (onward.Leaving m afters.Next (went_on p at 0))

    element_small : (p : Program) (at : Top) (word value : ℕ) (stored : Option ℕ) → IsSmall n (indexed_in p q t x at word stored value)
    element_small p at word value None = go_small q t x (Running (went_on p at value)) k
    element_small p at word value (Some v) = go_small (written q word v) t x (Running (went_on p at 0)) (writes q word v k)

    indexed_small : (p : Program) (at : Top) (r : Plain) (array index : ℕ) (stored : Option ℕ) (count : ℕ) → plain_indexed p q t x at array index stored count ≡ Some r → IsSmall n r
    indexed_small p at r array index stored count e = by_test (nat_lt index count) e
      where
        by_test : (b : Bool) → (if b then option_map (indexed_in p q t x at (value_word array index) stored) (value_at q (value_word array index)) else Some (with_thread q t (plain_goes_on x (threw ArrayIndexOutOfBoundsException at)))) ≡ Some r → IsSmall n r
        by_test true e = mapped r (indexed_in p q t x at (value_word array index) stored) (value_at q (value_word array index)) (λ value there. element_small p at (value_word array index) value stored) e
        by_test false e = is r (with_thread q t (plain_goes_on x (threw ArrayIndexOutOfBoundsException at))) (go_small q t x (threw ArrayIndexOutOfBoundsException at) k) e

-- ---- one step more

more : (n : ℕ) (q : Plain) → IsSmall n q → IsSmall (n + 1) q
more n q k = record {
  held = all_weaker (λ (h : Holding). h.depth ≤ n) (λ (h : Holding). h.depth ≤ n + 1) (λ h low. omega (arith, low)) q.holdings k.held;
  waits = all_weaker (λ (x : PlainThread). waiting_depth x.status ≤ n) (λ (x : PlainThread). waiting_depth x.status ≤ n + 1) (λ x low. omega (arith, low)) q.threads k.waits;
  next = let low = k.next in omega (arith, low);
}

held_few : (n : ℕ) (hs : List Holding) (m : ℕ) (h : Holding) → AllByRecursion (λ e. e.depth ≤ n) hs → holding_at hs m ≡ Some h → h.depth ≤ n
held_few n [] m h all e = cc
held_few n (x ∷ xs) m h all e = by_test (x.monitor == m) e (held_few n xs m h all.1)
  where
    by_test : (b : Bool) → (if b then Some x else holding_at xs m) ≡ Some h → (holding_at xs m ≡ Some h → h.depth ≤ n) → h.depth ≤ n
    by_test true e rest = subst (λ (y : Holding). y.depth ≤ n) (same_some e) all.0
    by_test false e rest = rest e

module _ (p : Program) (is_p : IsProgram p) (n : ℕ) (q : Plain) (t : ℕ) (x : PlainThread) (was : IsSmall n q) (r : Plain) where
  abbrev k : IsSmall (n + 1) q
  k = more n q was

  abbrev Small : Type 0
  Small = IsSmall (n + 1) r

  -- ---- Do

  made_small : (at : Top) (word size : ℕ) → size ≤ 1048578 → IsSmall (n + 1) (plain_made p q t x at word size)
  made_small at word size few = by_room (nat_le (q.next + size) p.heap)
    where
      next_small : q.next + size ≤ 1048576 + 1048578 * (n + 1)
      next_small = let low : q.next ≤ 1048576 + 1048578 * n = was.next in omega (arith, low, few)

      by_room : (b : Bool)
          → IsSmall (n + 1) (if b
          then with_thread (record q { objects = q.objects ++ new_object q.next word size ∷ []; next = q.next + size }) t (plain_goes_on x (Running (pushed q.next (making p at))))
          else with_thread (record q { next = q.next + size }) t (plain_goes_on x (threw OutOfMemoryError at)))
      by_room true = go_small (n + 1) (record q { objects = q.objects ++ new_object q.next word size ∷ []; next = q.next + size }) t x (Running (pushed q.next (making p at))) (record { held = k.held; waits = k.waits; next = next_small })
      by_room false = go_small (n + 1) (record q { next = q.next + size }) t x (threw OutOfMemoryError at) (record { held = k.held; waits = k.waits; next = next_small })

  did_small : (at : Top) (e : Effect) (got : ℕ) → MakesSmall e → plain_did p q t x at e got ≡ Some r → Small
  did_small at (Writes v word) got few e =
      mapped (n + 1) r (λ was. with_thread (written q (variable_word v) word) t (plain_goes_on x (Running (went_on p at 0)))) (value_at q (variable_word v))
      (λ value there. go_small (n + 1) (written q (variable_word v) word) t x (Running (went_on p at 0)) (writes (n + 1) q (variable_word v) word k)) e
  did_small at (Indexes array index stored) got few e = indexed_small (n + 1) q t x k p at r array (low index) stored (header_length got) e
  did_small at (Makes word size) got few e = is (n + 1) r (plain_made p q t x at word size) (made_small at word size few) e
  did_small at (Prints v) got few e = is (n + 1) r _ (go_small (n + 1) (record q { prints = q.prints ++ record { thread = t; value = int_of v } ∷ [] }) t x (Running (went_on p at 0)) (record { held = k.held; waits = k.waits; next = k.next })) e
  did_small at Returns got few e = is (n + 1) r _ (left_small (n + 1) q t x k at (returns p at)) e
  did_small at (Leaves m) got few e = is (n + 1) r _ (leaves_small (n + 1) q t x k p at m) e
  did_small at (Waits m) got few e = is (n + 1) r _ (held_small (n + 1) q t x k m at (plain_leaving p x at (Wait m)) (omega arith)) e
  did_small at (Notifies m) got few e = is (n + 1) r _ (held_small (n + 1) q t x k m at (plain_leaving p x at (Notify m)) (omega arith)) e
  did_small at (NotifiesAll m) got few e = is (n + 1) r _ (held_small (n + 1) q t x k m at (plain_leaving p x at (NotifyAll m)) (omega arith)) e
  did_small at e got few made = mapped (n + 1) r (λ o. with_thread q t (plain_goes_on x o)) (done p at e got) (λ o there. go_small (n + 1) q t x o k) made

  instructed_small : (o : Option Top) → plain_instructed p q t x o ≡ Some r → Small
  instructed_small None e = cc
  instructed_small (Some at) e = bound (n + 1) r (λ got. plain_did p q t x at (effect_at p at) got) (got_by (value_at q) (read_by (effect_at p at))) (λ got there made. did_small at (effect_at p at) got (top_small p is_p at) made) e

  -- ---- Enter and Exit

  entered_small : (m : ℕ) (o : Option Holding) → holding_at q.holdings m ≡ o → plain_entered q t m x o ≡ Some r → Small
  entered_small m None there e = is (n + 1) r _ (set_thread (n + 1) (held_by q m t 1) t (with_status x Run) (holds (n + 1) q m t 1 k (omega arith)) (omega arith)) e
  entered_small m (Some h) there e =
      let few = held_few n q.holdings m h was.held there in
      tested (n + 1) r (h.holder == t) _ (is (n + 1) r _ (set_thread (n + 1) (held_by q m t (h.depth + 1)) t (with_status x Run) (holds (n + 1) q m t (h.depth + 1) k (omega (arith, few))) (omega arith))) e

  left_once_small : (m depth : ℕ) → depth ≤ n → IsSmall (n + 1) (left q t m depth)
  left_once_small m zero few = lets_go (n + 1) q m k
  left_once_small m (suc zero) few = lets_go (n + 1) q m k
  left_once_small m (suc (suc depth)) few = holds (n + 1) q m t (suc depth) k (omega (arith, few))

  exited_small : (m : ℕ) (a : After) (o : Option Holding) → holding_at q.holdings m ≡ o → exited p q t m a x o ≡ Some r → Small
  exited_small m a None there e = cc
  exited_small m a (Some h) there e =
      tested (n + 1) r (h.holder == t) _
      (mapped (n + 1) r (λ o. with_thread (left q t m h.depth) t (plain_goes_on x o)) (after p x.frames a) (λ o on. go_small (n + 1) (left q t m h.depth) t x o (left_once_small m h.depth (held_few n q.holdings m h was.held there)))) e

  -- ---- Wait, Notify, NotifyAll and Retake

  waited_small : (m : ℕ) (o : Option Holding) → holding_at q.holdings m ≡ o → waited q t m x o ≡ Some r → Small
  waited_small m None there e = cc
  waited_small m (Some h) there e =
      let few = held_few n q.holdings m h was.held there in
      tested (n + 1) r (h.holder == t) _ (is (n + 1) r _ (set_thread (n + 1) (let_go q m) t (with_status x (Waiting m h.depth)) (lets_go (n + 1) q m k) (omega (arith, few)))) e

  woken_small : (m : ℕ) (status : Status) → waiting_depth status ≤ n → waiting_depth (woken m status) ≤ n + 1
  woken_small m (Waiting j depth) few = by_test (j == m)
    where
      by_test : (b : Bool) → waiting_depth (if b then Woken j depth else Waiting j depth) ≤ n + 1
      by_test true = omega (arith, few)
      by_test false = omega (arith, few)
  woken_small m (Woken j depth) few = omega (arith, few)
  woken_small m status few = omega arith

  wakes_small : (m u : ℕ) (o : Option PlainThread) (one : Plain) → slice_get q.threads u ≡ o → wakes_one q m u o ≡ Some one → IsSmall (n + 1) one
  wakes_small m u None one there e = cc
  wakes_small m u (Some y) one there e =
      let few = all_got (λ (z : PlainThread). waiting_depth z.status ≤ n) q.threads u y was.waits there in
      tested (n + 1) one (waits_on m y.status) _ (is (n + 1) one _ (set_thread (n + 1) q u (wakes m y) k (woken_small m y.status few))) e

  notified_small : (m : ℕ) (one : Option ℕ) → notified q t m x one ≡ Some r → Small
  notified_small m None e = untested (n + 1) r (list_any (λ w. waits_on m w.status) q.threads) _ (is (n + 1) r _ (set_thread (n + 1) q t (with_status x Run) k (omega arith))) e
  notified_small m (Some u) e =
      mapped (n + 1) r (λ s. with_thread s t (with_status x Run)) (wakes_one q m u (slice_get q.threads u))
      (λ s woke. set_thread (n + 1) s t (with_status x Run) (wakes_small m u (slice_get q.threads u) s refl woke) (omega arith)) e

  all_small : (m : ℕ) → IsSmall (n + 1) (all_notified q t m x)
  all_small m =
      set_thread (n + 1) (record q { threads = map (wakes m) q.threads }) t (with_status x Run)
      (record {
        held = k.held;
        waits = all_map (λ (y : PlainThread). waiting_depth y.status ≤ n) (λ (y : PlainThread). waiting_depth y.status ≤ n + 1) (wakes m) (λ y few. woken_small m y.status few) q.threads was.waits;
        next = k.next;
      }) (omega arith)

  retaken_small : (m depth : ℕ) (o : Option Holding) → depth ≤ n → retaken q t m depth x o ≡ Some r → Small
  retaken_small m depth None few e = is (n + 1) r _ (set_thread (n + 1) (held_by q m t depth) t (with_status x Run) (holds (n + 1) q m t depth k (omega (arith, few))) (omega arith)) e
  retaken_small m depth (Some h) few e = cc

  -- ---- all acts

  at_small : (act : Act) (status : Status) → waiting_depth status ≤ n → step_at p q t x act status ≡ Some r → Small
  at_small acts.Begin status few e = tested (n + 1) r (is_due q.threads t x.ended) _ (mapped (n + 1) r (with_thread q t) (plain_begins p t x status) (λ y begun. set_thread (n + 1) q t y k (begins_small (n + 1) p t x y status begun))) e
  at_small acts.Do Run few e = instructed_small (top_of p x.frames) e
  at_small acts.Do (Throw z class) few e = mapped (n + 1) r (λ o. with_thread q t (plain_goes_on x o)) (dispatched p z class x.frames) (λ o there. go_small (n + 1) q t x o k) e
  at_small acts.Enter (Enter m) few e = entered_small m (holding_at q.holdings m) refl e
  at_small acts.Exit (Leave m a) few e = exited_small m a (holding_at q.holdings m) refl e
  at_small acts.Wait (Wait m) few e = waited_small m (holding_at q.holdings m) refl e
  at_small (acts.Notify one) (Notify m) few e = notified_small m one e
  at_small acts.NotifyAll (NotifyAll m) few e = is (n + 1) r _ (all_small m) e
  at_small acts.Retake (Woken m depth) few e = retaken_small m depth (holding_at q.holdings m) few e
  at_small act status few e = cc

pub step_small : (p : Program) → IsProgram p → (n : ℕ) (q r : Plain) (step : PlainStep) → IsSmall n q → plain_step p q step ≡ Some r → IsSmall (n + 1) r
step_small p is_p n q r step was e = by_thread (slice_get q.threads step.thread) refl e
  where
    by_thread : (o : Option PlainThread) → slice_get q.threads step.thread ≡ o → step_of p q step.thread step.act o ≡ Some r → IsSmall (n + 1) r
    by_thread None there e = cc
    by_thread (Some x) there e = at_small p is_p n q step.thread x was r step.act x.status (all_got (λ (y : PlainThread). waiting_depth y.status ≤ n) q.threads step.thread x was.waits there) e

-- ---- at the start, and behind few steps

first_small : (roots : List ℕ) → waiting_depth (first_thread roots).status ≤ 0
first_small [] = omega arith
first_small (number ∷ roots) = omega arith

pub start_small : (p : Program) → IsProgram p → IsSmall 0 (plain_start p)
start_small p is_p = record { held = tt; waits = each (range_with_len 0 (p.workers + 1)); next = (let words = is_p.words in let heap = is_p.heap_to in omega (arith, words, heap)) }
  where
    one : (t : ℕ) → waiting_depth (plain_start_thread p t).status ≤ 0
    one zero = first_small (init_roots p)
    one (suc t) = omega arith

    each : (ts : List ℕ) → AllByRecursion (λ x. waiting_depth x.status ≤ 0) (map (plain_start_thread p) ts)
    each [] = tt
    each (t ∷ ts) = (one t, each ts)

pub has_room : (n : ℕ) (q : Plain) → n < 1099511627776 → IsSmall n q → HasRoomForStep q
has_room n q few k = record {
  held = all_weaker (λ (h : Holding). h.depth ≤ n) (λ (h : Holding). h.depth < 2 ^ 63) (λ h low. omega (arith, low, few)) q.holdings k.held;
  next = let low = k.next in omega (arith, low, few);
}

pub room_held : (q : Plain) (m : ℕ) (h : Holding) → HasRoomForStep q → holding_at q.holdings m ≡ Some h → h.depth < 2 ^ 63
room_held q m h k there = by_list q.holdings k.held there
  where
    by_list : (hs : List Holding) → AllByRecursion (λ e. e.depth < 2 ^ 63) hs → holding_at hs m ≡ Some h → h.depth < 2 ^ 63
    by_list [] all e = cc
    by_list (x ∷ xs) all e = by_test (x.monitor == m) e (by_list xs all.1)
      where
        by_test : (b : Bool) → (if b then Some x else holding_at xs m) ≡ Some h → (holding_at xs m ≡ Some h → h.depth < 2 ^ 63) → h.depth < 2 ^ 63
        by_test true e rest = subst (λ (y : Holding). y.depth < 2 ^ 63) (same_some e) all.0
        by_test false e rest = rest e
