-- A step of one thread, before and behind a local step of another.
use Rattle.std.proofs.Common.{◌≡◌, ◌≢◌, ℕ, zero, suc, Bool, true, false, List, [], ◌∷◌, Option, Some, None, refl, sym, ap, ◌∙◌, subst, option_map, option_and_then, slice_get, slice_set, map, if◌then◌else◌, ◌&&◌, ◌||◌, ◌==◌, ◌++◌, ◌+◌, nat_lt, nat_le}
use Rattle.std.specs.List.{list_any, list_all}
use Rattle.jvm_types.specs.declared.outcome.End.{End}
use Rattle.jvm_types.specs.declared.program.Program.{Program}
use Rattle.jvm_types.specs.declared.outcome.Thrown.TheVariants.{OutOfMemoryError, ArrayIndexOutOfBoundsException}
use Rattle.machine_types.specs.{Frames.{Top, top_of, effect_at, went_on, making, pushed}, Ints.{low, int_of}, Onward.{Onward, Running, done, dispatched, after, threw, returns}, PlainMemory.{new_object}, Words.{header_length, value_word, variable_word}}
use Rattle.machine_types.specs.Effects.{read_by}
use Rattle.machine_types.specs.declared.phase.After.{After}
use Rattle.machine_types.specs.PlainInstructions.{plain_instructed, plain_did, indexed_in, got_by, if_left, if_plain_held, plain_leaves, plain_leaving}
use Rattle.machine_types.specs.PlainState.{Plain, PlainThread, Status, Holding, plain_goes_on, with_thread, with_status, held_by, let_go, holding_at, value_at, written}
use Rattle.machine_types.specs.PlainSteps.{step_at, is_due, is_done_due, init_has_returned, first_is_return, is_over, plain_begins, plain_entered, exited, left, waited, waits_on, wakes, wakes_one, notified, all_notified, retaken}
use Rattle.machine_types.specs.declared.effect.Effect.{Effect}
use Rattle.machine_types.specs.declared.effect.Effect.TheVariants as effects
use Rattle.machine_types.specs.declared.plain.Act.{Act}
use Rattle.machine_types.specs.declared.plain.Act.TheVariants as acts
use Rattle.machine_types.specs.PlainState as plain
use mathlib.Core.Logic.{dite}
use native.Mathlib.Decide.{ℕ_discrete}

-- ---- lists

and_false : (b : Bool) → b && false ≡ false
and_false false = refl
and_false true = refl

pub got_same : {A : Type 0} (a b : A) → Some a ≡ Some b → a ≡ b
got_same a b e = cc

module _ {A : Type 0} where
  pub got_here : (xs : List A) (i : ℕ) (x y : A) → slice_get xs i ≡ Some x → slice_get (slice_set xs i y) i ≡ Some y
  got_here [] i x y e = cc
  got_here (z ∷ zs) zero x y e = refl
  got_here (z ∷ zs) (suc i) x y e = got_here zs i x y e

  pub got_else : (xs : List A) (i j : ℕ) (y : A) → j ≢ i → slice_get (slice_set xs i y) j ≡ slice_get xs j
  got_else (z ∷ zs) zero zero y n = absurd (n refl)
  got_else (z ∷ zs) (suc i) (suc j) y n = got_else zs i j y (λ e. n (ap suc e))
  got_else xs i j y n = refl

  pub set_swaps : (xs : List A) (i j : ℕ) (a b : A) → j ≢ i → slice_set (slice_set xs i a) j b ≡ slice_set (slice_set xs j b) i a
  set_swaps (z ∷ zs) zero zero a b n = absurd (n refl)
  set_swaps (z ∷ zs) (suc i) (suc j) a b n = ap (λ l. z ∷ l) (set_swaps zs i j a b (λ e. n (ap suc e)))
  set_swaps xs i j a b n = refl

  map_set : (f : A → A) (xs : List A) (i : ℕ) (a : A) → map f (slice_set xs i a) ≡ slice_set (map f xs) i (f a)
  map_set f (z ∷ zs) (suc i) a = ap (λ l. f z ∷ l) (map_set f zs i a)
  map_set f xs i a = refl

  map_got : (f : A → A) (xs : List A) (i : ℕ) (a : A) → slice_get xs i ≡ Some a → slice_get (map f xs) i ≡ Some (f a)
  map_got f (z ∷ zs) (suc i) a e = map_got f zs i a e
  map_got f xs i a e = cc

  any_set : (f : A → Bool) (xs : List A) (i : ℕ) (x y : A) → slice_get xs i ≡ Some x → f y ≡ f x → list_any f (slice_set xs i y) ≡ list_any f xs
  any_set f [] i x y e k = refl
  any_set f (z ∷ zs) zero x y e k = ap (λ b. b || list_any f zs) (k ∙ ap f (sym (got_same z x e)))
  any_set f (z ∷ zs) (suc i) x y e k = ap (λ b. f z || b) (any_set f zs i x y e k)

  not_all : (f : A → Bool) (xs : List A) (i : ℕ) (x : A) → slice_get xs i ≡ Some x → f x ≡ false → list_all f xs ≡ false
  not_all f [] i x e k = cc
  not_all f (z ∷ zs) zero x e k = ap (λ b. b && list_all f zs) (ap f (got_same z x e) ∙ k)
  not_all f (z ∷ zs) (suc i) x e k = ap (λ b. f z && b) (not_all f zs i x e k) ∙ and_false (f z)

-- ---- a thread that is about no waiting, and whose part has not ended

pub record IsQuiet (x : PlainThread) : Type 0 where
  pub waits : (m : ℕ) → waits_on m x.status ≡ false
  pub wakes : (m : ℕ) → wakes m x ≡ x
  pub over : is_over x.status ≡ false

-- ---- which parts are due

init_same : (ts : List PlainThread) (t : ℕ) (x y : PlainThread) → slice_get ts t ≡ Some x → y.ended ≡ x.ended
    → init_has_returned (slice_set ts t y) ≡ init_has_returned ts
init_same (z ∷ zs) zero x y e k = ap first_is_return (k ∙ ap (λ (w : PlainThread). w.ended) (sym (got_same z x e)))
init_same ts t x y e k = refl

done_same : (ts : List PlainThread) (t : ℕ) (x y : PlainThread) → slice_get ts t ≡ Some x → y.ended ≡ x.ended
    → is_over x.status ≡ false → is_over y.status ≡ false → is_done_due (slice_set ts t y) ≡ is_done_due ts
done_same [] t x y e k a b = refl
done_same (z ∷ zs) zero x y e k a b = ap (λ c. c && list_all (λ w. is_over w.status) zs) (init_same (z ∷ zs) zero x y e k)
done_same (z ∷ zs) (suc t) x y e k a b =
    ap (λ c. first_is_return z.ended && c) (not_all (λ w. is_over w.status) (slice_set zs t y) t y (got_here zs t x y e) b)
    ∙ sym (ap (λ c. first_is_return z.ended && c) (not_all (λ w. is_over w.status) zs t x e a))

due_same : (ts : List PlainThread) (t u : ℕ) (x y : PlainThread) (ended : List End) → slice_get ts t ≡ Some x → y.ended ≡ x.ended
    → is_over x.status ≡ false → is_over y.status ≡ false → is_due (slice_set ts t y) u ended ≡ is_due ts u ended
due_same ts t zero x y [] e k a b = refl
due_same ts t zero x y (v ∷ vs) e k a b = done_same ts t x y e k a b
due_same ts t (suc u) x y ended e k a b = init_same ts t x y e k

-- ---- one step of thread u, beside a local step of another

-- what a local step changes: thread t is x, or y instead
pub record Changed (q : Plain) : Type 0 where
  pub t : ℕ
  pub x : PlainThread
  pub y : PlainThread
  pub here : slice_get q.threads t ≡ Some x
  pub quiet : IsQuiet x
  pub quiet_too : IsQuiet y
  pub ends : y.ended ≡ x.ended

module _ (p : Program) (q : Plain) (changed : Changed q) (u : ℕ) (w : PlainThread) (apart : u ≢ changed.t) where
  open changed use {t, x, y, here, quiet, quiet_too, ends}

  abbrev put : Plain → Plain
  put s = with_thread s t y

  -- the other step leads to the state that the one leads to, but for thread t, which is x there
  abbrev Beside : Option Plain → Option Plain → Type 0
  Beside a b = (b ≡ option_map put a) × ((s : Plain) → a ≡ Some s → slice_get s.threads t ≡ Some x)

  abbrev r : Plain
  r = put q

  none : Beside None None
  none = (refl, λ s e. absurd (no s e))
    where
      no : (s : Plain) → None ≡ Some s → ⊥
      no s e = cc

  state_in : (a b : Plain) → Some a ≡ Some b → a ≡ b
  state_in a b e = cc

  one : (k : Plain) (z : PlainThread) → slice_get k.threads t ≡ Some x → Beside (Some (with_thread k u z)) (Some (with_thread (put k) u z))
  one k z e = (
    ap (λ ts. Some (record k { threads = ts })) (set_swaps k.threads t u y z apart),
    λ s f. ap (λ (v : Plain). slice_get v.threads t) (sym (state_in (with_thread k u z) s f))
        ∙ got_else k.threads u t z (λ g. apart (sym g)) ∙ e,
  )

  abbrev at_q : PlainThread → Option Plain
  at_q z = Some (with_thread q u z)

  abbrev at_r : PlainThread → Option Plain
  at_r z = Some (with_thread r u z)

  by_thread : (o : Option PlainThread) → Beside (option_map (with_thread q u) o) (option_map (with_thread r u) o)
  by_thread None = none
  by_thread (Some z) = one q z here

  by_onward : (o : Option Onward) → Beside (option_map (λ k. with_thread q u (plain_goes_on w k)) o) (option_map (λ k. with_thread r u (plain_goes_on w k)) o)
  by_onward None = none
  by_onward (Some k) = one q (plain_goes_on w k) here

  -- begin
  by_due : (b c : Bool) (o : Option PlainThread) → c ≡ b
      → Beside (if b then option_map (with_thread q u) o else None) (if c then option_map (with_thread r u) o else None)
  by_due true true o e = by_thread o
  by_due false false o e = none
  by_due b c o e = cc

  -- instructions
  by_written : (o : Option ℕ) (place word : ℕ) (z : PlainThread)
      → Beside (option_map (λ was. with_thread (written q place word) u z) o) (option_map (λ was. with_thread (written r place word) u z) o)
  by_written None place word z = none
  by_written (Some was) place word z = one (written q place word) z here

  by_element : (at : Top) (place : ℕ) (stored : Option ℕ) (o : Option ℕ)
      → Beside (option_map (indexed_in p q u w at place stored) o) (option_map (indexed_in p r u w at place stored) o)
  by_element at place stored None = none
  by_element at place None (Some v) = one q (plain_goes_on w (Running (went_on p at v))) here
  by_element at place (Some n) (Some v) = one (written q place n) (plain_goes_on w (Running (went_on p at 0))) here

  by_index : (b : Bool) (at : Top) (place : ℕ) (stored : Option ℕ)
      → Beside (if b then option_map (indexed_in p q u w at place stored) (value_at q place) else at_q (plain_goes_on w (threw ArrayIndexOutOfBoundsException at)))
      (if b then option_map (indexed_in p r u w at place stored) (value_at q place) else at_r (plain_goes_on w (threw ArrayIndexOutOfBoundsException at)))
  by_index true at place stored = by_element at place stored (value_at q place)
  by_index false at place stored = one q (plain_goes_on w (threw ArrayIndexOutOfBoundsException at)) here

  by_made : (b : Bool) (at : Top) (word size : ℕ)
      → Beside (Some (if b then with_thread (record q { objects = q.objects ++ new_object q.next word size ∷ []; next = q.next + size }) u (plain_goes_on w (Running (pushed q.next (making p at))))
      else with_thread (record q { next = q.next + size }) u (plain_goes_on w (threw OutOfMemoryError at))))
      (Some (if b then with_thread (record r { objects = q.objects ++ new_object q.next word size ∷ []; next = q.next + size }) u (plain_goes_on w (Running (pushed q.next (making p at))))
      else with_thread (record r { next = q.next + size }) u (plain_goes_on w (threw OutOfMemoryError at))))
  by_made true at word size = one (record q { objects = q.objects ++ new_object q.next word size ∷ []; next = q.next + size }) (plain_goes_on w (Running (pushed q.next (making p at)))) here
  by_made false at word size = one (record q { next = q.next + size }) (plain_goes_on w (threw OutOfMemoryError at)) here

  did : (at : Top) (e : Effect) (got : ℕ) → Beside (plain_did p q u w at e got) (plain_did p r u w at e got)
  did at (effects.Writes v word) got = by_written (value_at q (variable_word v)) (variable_word v) word (plain_goes_on w (Running (went_on p at 0)))
  did at (effects.Indexes array index stored) got = by_index (nat_lt (low index) (header_length got)) at (value_word array (low index)) stored
  did at (effects.Makes word size) got = by_made (nat_le (q.next + size) p.heap) at word size
  did at (effects.Prints n) got =
      one (record q { prints = q.prints ++ record { thread = u; value = int_of n } ∷ [] }) (plain_goes_on w (Running (went_on p at 0))) here
  did at effects.Returns got = one q (if_left q u w at (returns p at)) here
  did at (effects.Leaves m) got = one q (plain_leaves p q u w at m) here
  did at (effects.Waits m) got = one q (if_plain_held q u m w at (plain_leaving p w at (plain.Wait m))) here
  did at (effects.Notifies m) got = one q (if_plain_held q u m w at (plain_leaving p w at (plain.Notify m))) here
  did at (effects.NotifiesAll m) got = one q (if_plain_held q u m w at (plain_leaving p w at (plain.NotifyAll m))) here
  did at e got = by_onward (done p at e got)

  by_got : (at : Top) (e : Effect) (o : Option ℕ)
      → Beside (option_and_then (λ got. plain_did p q u w at e got) o) (option_and_then (λ got. plain_did p r u w at e got) o)
  by_got at e None = none
  by_got at e (Some got) = did at e got

  by_top : (top : Option Top) → Beside (plain_instructed p q u w top) (plain_instructed p r u w top)
  by_top None = none
  by_top (Some at) = by_got at (effect_at p at) (got_by (value_at q) (read_by (effect_at p at)))

  -- monitors
  by_holder : (b : Bool) (k : Plain) (z : PlainThread) → slice_get k.threads t ≡ Some x
      → Beside (if b then Some (with_thread k u z) else None) (if b then Some (with_thread (put k) u z) else None)
  by_holder true k z e = one k z e
  by_holder false k z e = none

  enters : (m : ℕ) (o : Option Holding) → Beside (plain_entered q u m w o) (plain_entered r u m w o)
  enters m None = one (held_by q m u 1) (with_status w plain.Run) here
  enters m (Some h) = by_holder (h.holder == u) (held_by q m u (h.depth + 1)) (with_status w plain.Run) here

  by_left : (m depth : ℕ) (o : Option Onward)
      → Beside (option_map (λ k. with_thread (left q u m depth) u (plain_goes_on w k)) o) (option_map (λ k. with_thread (left r u m depth) u (plain_goes_on w k)) o)
  by_left m depth None = none
  by_left m (suc (suc depth)) (Some k) = one (held_by q m u (suc depth)) (plain_goes_on w k) here
  by_left m depth (Some k) = one (let_go q m) (plain_goes_on w k) here

  by_exit : (b : Bool) (m depth : ℕ) (o : Option Onward)
      → Beside (if b then option_map (λ k. with_thread (left q u m depth) u (plain_goes_on w k)) o else None) (if b then option_map (λ k. with_thread (left r u m depth) u (plain_goes_on w k)) o else None)
  by_exit true m depth o = by_left m depth o
  by_exit false m depth o = none

  exits : (m : ℕ) (a : After) (o : Option Holding) → Beside (exited p q u m a w o) (exited p r u m a w o)
  exits m a None = none
  exits m a (Some h) = by_exit (h.holder == u) m h.depth (after p w.frames a)

  waits : (m : ℕ) (o : Option Holding) → Beside (waited q u m w o) (waited r u m w o)
  waits m None = none
  waits m (Some h) = by_holder (h.holder == u) (let_go q m) (with_status w (plain.Waiting m h.depth)) here

  retakes : (m depth : ℕ) (o : Option Holding) → Beside (retaken q u m depth w o) (retaken r u m depth w o)
  retakes m depth None = one (held_by q m u depth) (with_status w plain.Run) here
  retakes m depth (Some h) = none

  -- notification
  by_any : (b c : Bool) → c ≡ b → Beside (if b then None else at_q (with_status w plain.Run)) (if c then None else at_r (with_status w plain.Run))
  by_any true true e = none
  by_any false false e = one q (with_status w plain.Run) here
  by_any b c e = cc

  abbrev then_runs : Option Plain → Option Plain
  then_runs o = option_map (λ k. with_thread k u (with_status w plain.Run)) o

  by_woken : (b : Bool) (v : ℕ) (z : PlainThread) → v ≢ t
      → Beside (then_runs (if b then Some (with_thread q v z) else None)) (then_runs (if b then Some (with_thread r v z) else None))
  by_woken false v z n = none
  by_woken true v z n =
      let kept : slice_get (slice_set q.threads v z) t ≡ Some x = got_else q.threads v t z (λ g. n (sym g)) ∙ here in
      let both = one (with_thread q v z) (with_status w plain.Run) kept in
      (ap (λ ts. Some (with_thread (record q { threads = ts }) u (with_status w plain.Run))) (set_swaps q.threads t v y z n) ∙ both.0, both.1)

  by_waiter : (m v : ℕ) (o : Option PlainThread) → v ≢ t → Beside (then_runs (wakes_one q m v o)) (then_runs (wakes_one r m v o))
  by_waiter m v None n = none
  by_waiter m v (Some z) n = by_woken (waits_on m z.status) v (wakes m z) n

  not_woken : (m v : ℕ) (k : Plain) (z : PlainThread) (o : Option PlainThread) → o ≡ Some z → IsQuiet z → then_runs (wakes_one k m v o) ≡ None
  not_woken m v k z o e quiet_z =
      ap (λ c. then_runs (wakes_one k m v c)) e ∙ ap (λ b. then_runs (if b then Some (with_thread k v (wakes m z)) else None)) (quiet_z.waits m)

  notifies : (m : ℕ) (one_of : Option ℕ) → Beside (notified q u m w one_of) (notified r u m w one_of)
  notifies m None = by_any (list_any (λ z. waits_on m z.status) q.threads) (list_any (λ z. waits_on m z.status) r.threads)
      (any_set (λ z. waits_on m z.status) q.threads t x y here (quiet_too.waits m ∙ sym (quiet.waits m)))
  notifies m (Some v) = dite (ℕ_discrete v t)
      (λ (e : v ≡ t). subst (λ (o : Option Plain × Option Plain). Beside o.0 o.1)
      (ap (λ (o : Option Plain). (o, then_runs (wakes_one r m v (slice_get r.threads v)))) (sym (not_woken m v q x (slice_get q.threads v) (ap (slice_get q.threads) e ∙ here) quiet))
      )
      (subst (λ (o : Option Plain). Beside None o) (sym (not_woken m v r y (slice_get r.threads v) (ap (slice_get r.threads) e ∙ got_here q.threads t x y here) quiet_too)) none))
      (λ (n : v ≢ t). subst (λ (o : Option PlainThread). Beside (then_runs (wakes_one q m v (slice_get q.threads v))) (then_runs (wakes_one r m v o)))
      (sym (got_else q.threads t v y n)) (by_waiter m v (slice_get q.threads v) n))

  notifies_all : (m : ℕ) → Beside (Some (all_notified q u m w)) (Some (all_notified r u m w))
  notifies_all m =
      let woken_q : Plain = record q { threads = map (wakes m) q.threads } in
      let both = one woken_q (with_status w plain.Run) (map_got (wakes m) q.threads t x here ∙ ap Some (quiet.wakes m)) in (
        ap (λ ts. Some (with_thread (record q { threads = ts }) u (with_status w plain.Run)))
            (map_set (wakes m) q.threads t y ∙ ap (slice_set (map (wakes m) q.threads) t) (quiet_too.wakes m)) ∙ both.0,
        both.1,
      )

  pub step_beside : (act : Act) (status : Status) → Beside (step_at p q u w act status) (step_at p r u w act status)
  step_beside acts.Begin status = by_due (is_due q.threads u w.ended) (is_due r.threads u w.ended) (plain_begins p u w status)
      (due_same q.threads t u x y w.ended here ends quiet.over quiet_too.over)
  step_beside acts.Do plain.Run = by_top (top_of p w.frames)
  step_beside acts.Do (plain.Throw k class) = by_onward (dispatched p k class w.frames)
  step_beside acts.Enter (plain.Enter m) = enters m (holding_at q.holdings m)
  step_beside acts.Exit (plain.Leave m a) = exits m a (holding_at q.holdings m)
  step_beside acts.Wait (plain.Wait m) = waits m (holding_at q.holdings m)
  step_beside (acts.Notify o) (plain.Notify m) = notifies m o
  step_beside acts.NotifyAll (plain.NotifyAll m) = notifies_all m
  step_beside acts.Retake (plain.Woken m depth) = retakes m depth (holding_at q.holdings m)
  step_beside act status = none
