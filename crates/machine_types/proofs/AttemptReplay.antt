-- A replay of what is due of an attempt is a run of the plain machine, where its thread holds the monitor.
use Rattle.std.proofs.Common.{◌≡◌, ◌≢◌, ℕ, zero, suc, ◌+◌, Bool, true, false, cond, List, [], ◌∷◌, Option, Some, None, refl, sym, ap, ◌∙◌, arith, ◌==◌, nat_lt, option_map, option_and_then, slice_get, slice_set}
use Rattle.std.proofs.lemmas.{Bool.{eqb-true, Decides.nat_tests}, List.set-set}
use Rattle.lists.proofs.ListLaws.{same_some}
use Rattle.jvm_types.specs.declared.{outcome.Thrown.TheVariants.ArrayIndexOutOfBoundsException, program.Program.Program}
use Rattle.machine_types.specs.{Effects.{Effect, Writes, Indexes, Makes, Prints, Returns, Leaves, Waits, Notifies, NotifiesAll, read_by}, Frames.{Top, top_of, effect_at, went_on}, History.steps_of}
use Rattle.machine_types.specs.{Ints.low, Onward.{Onward, Running, Entering, Leaving, Next, threw, after, returns, dispatched, done}}
use Rattle.machine_types.specs.PlainInstructions.{plain_did, indexed_in, if_plain_held, if_left, plain_instructed, got_by}
use Rattle.machine_types.specs.PlainState.{Plain, PlainThread, Holding, Status, value_at, holding_at, with_holding, held_by, is_holder, with_thread, with_status, plain_goes_on}
use Rattle.machine_types.specs.{PlainSteps.{plain_entered, left, exited, step_at, step_of, plain_run}, Replay.{Alone, only_on, reads_only, goes, instructs, enters, leaves, replay_act, replayed}}
use Rattle.machine_types.{specs.{Words.{header_length, value_word}, declared.{phase.After.After, plain.Act.Act}}, proofs.{Lists.{set_as_it_is, got_when_set}, PlainStepLaws.{is_same, found_when_put}}}
use Rattle.machine_types.specs.PlainState as plain
use Rattle.machine_types.specs.declared.plain.Act.TheVariants as acts

-- ---- the plain state in which a thread stands as in a replay, with the monitor

abbrev pub hold : (m t depth : ℕ) → Holding
hold m t depth = record { monitor = m; holder = t; depth = depth }

abbrev pub stands_as : Plain → (t m : ℕ) → Alone → Plain
stands_as q t m x = with_thread (held_by q m t x.depth) t x.thread

pub record Stands (q : Plain) (t m : ℕ) (x : Alone) : Type 0 where
  pub thread : slice_get q.threads t ≡ Some x.thread
  pub holding : holding_at q.holdings m ≡ Some (hold m t x.depth)

-- a holding that is put where it is
put_there : (m t depth : ℕ) (hs : List Holding) → holding_at hs m ≡ Some (hold m t depth) → with_holding (hold m t depth) hs ≡ hs
put_there m t depth [] e = cc
put_there m t depth (h ∷ hs) e = by_test (h.monitor == m) refl e (put_there m t depth hs)
  where
    by_test : (b : Bool) → (h.monitor == m) ≡ b → cond b (Some h) (holding_at hs m) ≡ Some (hold m t depth) → (holding_at hs m ≡ Some (hold m t depth) → with_holding (hold m t depth) hs ≡ hs)
        → cond b (hold m t depth ∷ hs) (h ∷ with_holding (hold m t depth) hs) ≡ h ∷ hs
    by_test true k f more = ap (λ (g : Holding). g ∷ hs) (sym (same_some f))
    by_test false k f more = ap (λ (gs : List Holding). h ∷ gs) (more f)

-- a second one goes over the first
put_twice : (m t depth deeper : ℕ) (hs : List Holding) → with_holding (hold m t deeper) (with_holding (hold m t depth) hs) ≡ with_holding (hold m t deeper) hs
put_twice m t depth deeper [] = ap (λ (b : Bool). cond b (hold m t deeper ∷ []) (hold m t depth ∷ (hold m t deeper ∷ []))) (is_same m)
put_twice m t depth deeper (h ∷ hs) = by_test (h.monitor == m) refl (put_twice m t depth deeper hs)
  where
    by_test : (b : Bool) → (h.monitor == m) ≡ b → with_holding (hold m t deeper) (with_holding (hold m t depth) hs) ≡ with_holding (hold m t deeper) hs
        → with_holding (hold m t deeper) (cond b (hold m t depth ∷ hs) (h ∷ with_holding (hold m t depth) hs)) ≡ cond b (hold m t deeper ∷ hs) (h ∷ with_holding (hold m t deeper) hs)
    by_test true k more = ap (λ (b : Bool). cond b (hold m t deeper ∷ hs) (hold m t depth ∷ with_holding (hold m t deeper) hs)) (is_same m)
    by_test false k more = ap (λ (b : Bool). cond b (hold m t deeper ∷ with_holding (hold m t depth) hs) (h ∷ with_holding (hold m t deeper) (with_holding (hold m t depth) hs))) k ∙ ap (λ (gs : List Holding). h ∷ gs) more

stands_here : (q : Plain) (t m : ℕ) (x : Alone) → Stands q t m x → stands_as q t m x ≡ q
stands_here q t m x f =
    let holdings : with_holding (hold m t x.depth) q.holdings ≡ q.holdings = put_there m t x.depth q.holdings f.holding in
    let threads : slice_set q.threads t x.thread ≡ q.threads = set_as_it_is q.threads t x.thread f.thread in
    λ i. record q { holdings = holdings i; threads = threads i }

pub stands_after : (q : Plain) (t m : ℕ) (x : PlainThread) (y : Alone) → slice_get q.threads t ≡ Some x → Stands (stands_as q t m y) t m y
stands_after q t m x y g = record { thread = got_when_set q.threads t x y.thread g; holding = found_when_put (hold m t y.depth) q.holdings }

pub stands_twice : (q : Plain) (t m : ℕ) (x y : Alone) → stands_as (stands_as q t m x) t m y ≡ stands_as q t m y
stands_twice q t m x y =
    let holdings : with_holding (hold m t y.depth) (with_holding (hold m t x.depth) q.holdings) ≡ with_holding (hold m t y.depth) q.holdings = put_twice m t x.depth y.depth q.holdings in
    let threads : slice_set (slice_set q.threads t x.thread) t y.thread ≡ slice_set q.threads t y.thread = set-set q.threads t x.thread y.thread in
    λ i. record q { holdings = holdings i; threads = threads i }

-- a step that leaves the depth changes the thread alone
moves : (q : Plain) (t m : ℕ) (x : Alone) (y : PlainThread) (begun : ℕ) → Stands q t m x → with_thread q t y ≡ stands_as q t m (record { thread = y; depth = x.depth; begun = begun })
moves q t m x y begun f = ap (λ (hs : List Holding). record q { holdings = hs; threads = slice_set q.threads t y }) (sym (put_there m t x.depth q.holdings f.holding))

-- ---- how the thread goes on

same_onward : (m : ℕ) (o w : Onward) → only_on m o ≡ Some w → o ≡ w
same_onward m (Entering n frames) w e = by_test (n == m) e
  where
    by_test : (b : Bool) → cond b (Some (Entering n frames)) None ≡ Some w → Entering n frames ≡ w
    by_test true f = same_some f
    by_test false f = cc
same_onward m (Leaving n a frames) w e = by_test (n == m) e
  where
    by_test : (b : Bool) → cond b (Some (Leaving n a frames)) None ≡ Some w → Leaving n a frames ≡ w
    by_test true f = same_some f
    by_test false f = cc
same_onward m o w e = same_some e

-- with the instructions that it has begun
onward_as : (q : Plain) (t m : ℕ) (x z : Alone) (begun : ℕ) (o : Onward) → Stands q t m x → goes (record x { begun = begun }) (Some o) ≡ Some z → with_thread q t (plain_goes_on x.thread o) ≡ stands_as q t m z
onward_as q t m x z begun o f e = moves q t m x (plain_goes_on x.thread o) begun f ∙ ap (stands_as q t m) (same_some e)

mapped_as : (q : Plain) (t m : ℕ) (x z : Alone) (begun : ℕ) (o : Option Onward) → Stands q t m x → goes (record x { begun = begun }) (option_and_then (only_on m) o) ≡ Some z
    → option_map (λ o. with_thread q t (plain_goes_on x.thread o)) o ≡ Some (stands_as q t m z)
mapped_as q t m x z begun None f e = cc
mapped_as q t m x z begun (Some o) f e = by_onward (only_on m o) refl e
  where
    by_onward : (w : Option Onward) → only_on m o ≡ w → goes (record x { begun = begun }) w ≡ Some z → Some (with_thread q t (plain_goes_on x.thread o)) ≡ Some (stands_as q t m z)
    by_onward None k g = cc
    by_onward (Some w) k g = ap (λ (v : Onward). Some (with_thread q t (plain_goes_on x.thread v))) (same_onward m o w k) ∙ ap Some (onward_as q t m x z begun w f g)

-- the thread holds the monitor
holds : (q : Plain) (t m : ℕ) (x : Alone) → Stands q t m x → is_holder t (holding_at q.holdings m) ≡ true
holds q t m x f = ap (is_holder t) f.holding ∙ is_same t

-- what the plain machine does that it does not do without the monitor
if_held_as : (q : Plain) (t m n : ℕ) (x z : Alone) (at : Top) (begun : ℕ) (o : Onward) (b : Bool) → (n == m) ≡ b → Stands q t m x → goes (record x { begun = begun }) (cond b (Some o) None) ≡ Some z
    → with_thread q t (if_plain_held q t n x.thread at (plain_goes_on x.thread o)) ≡ stands_as q t m z
if_held_as q t m n x z at begun o true k f e =
    let holder : is_holder t (holding_at q.holdings n) ≡ true = ap (λ (i : ℕ). is_holder t (holding_at q.holdings i)) (eqb-true n m k) ∙ holds q t m x f in
    rw holder (onward_as q t m x z begun o f e)
if_held_as q t m n x z at begun o false k f e = cc

if_left_as : (q : Plain) (t m : ℕ) (x z : Alone) (at : Top) (begun : ℕ) (o : Onward) → Stands q t m x → goes (record x { begun = begun }) (only_on m o) ≡ Some z
    → with_thread q t (if_left q t x.thread at o) ≡ stands_as q t m z
if_left_as q t m x z at begun (Leaving n a frames) f e = if_held_as q t m n x z at begun (Leaving n a frames) (n == m) refl f e
if_left_as q t m x z at begun (Entering n frames) f e = by_test (n == m) e
  where
    by_test : (b : Bool) → goes (record x { begun = begun }) (cond b (Some (Entering n frames)) None) ≡ Some z → with_thread q t (plain_goes_on x.thread (Entering n frames)) ≡ stands_as q t m z
    by_test true g = onward_as q t m x z begun (Entering n frames) f g
    by_test false g = cc
if_left_as q t m x z at begun o f e = onward_as q t m x z begun o f e

-- ---- one instruction

leaves_as : (p : Program) (q : Plain) (t m n : ℕ) (x z : Alone) (at : Top) (begun : ℕ) (b : Bool) → (n == m) ≡ b → Stands q t m x → m ≢ 0
    → goes (record x { begun = begun }) (cond b (Some (Leaving n Next (went_on p at 0))) None) ≡ Some z → plain_did p q t x.thread at (Leaves n) 0 ≡ Some (stands_as q t m z)
leaves_as p q t m n x z at begun true k f some e =
    let other : (n == 0) ≡ false = is_other n m (eqb-true n m k) some in
    let left : with_thread q t (if_plain_held q t n x.thread at (plain_goes_on x.thread (Leaving n Next (went_on p at 0)))) ≡ stands_as q t m z = if_held_as q t m n x z at begun (Leaving n Next (went_on p at 0)) true k f e in
    rw other (ap Some left)
  where
    is_other : (n m : ℕ) → n ≡ m → m ≢ 0 → (n == 0) ≡ false
    is_other n m e some = grind (arith, nat_tests, e, some)
leaves_as p q t m n x z at begun false k f some e = cc

-- an element, if there are so many and its word is there
element_as : (p : Program) (q : Plain) (t m : ℕ) (x z : Alone) (at : Top) (begun word : ℕ) (inside : Bool) (o : Option ℕ) → Stands q t m x
    → goes (record x { begun = begun }) (option_and_then (only_on m) (cond inside (option_map (λ value. Running (went_on p at value)) o) (Some (threw ArrayIndexOutOfBoundsException at)))) ≡ Some z
    → cond inside (option_map (indexed_in p q t x.thread at word None) o) (Some (with_thread q t (plain_goes_on x.thread (threw ArrayIndexOutOfBoundsException at)))) ≡ Some (stands_as q t m z)
element_as p q t m x z at begun word true None f e = cc
element_as p q t m x z at begun word true (Some value) f e = ap Some (onward_as q t m x z begun (Running (went_on p at value)) f e)
element_as p q t m x z at begun word false o f e = ap Some (onward_as q t m x z begun (threw ArrayIndexOutOfBoundsException at) f e)

did_as : (p : Program) (q : Plain) (t m : ℕ) (x z : Alone) (at : Top) (begun : ℕ) (e : Effect) (got : ℕ) → Stands q t m x → m ≢ 0
    → goes (record x { begun = begun }) (option_and_then (only_on m) (reads_only p (value_at q) at e got)) ≡ Some z → plain_did p q t x.thread at e got ≡ Some (stands_as q t m z)
did_as p q t m x z at begun (Writes v word) got f some s = cc
did_as p q t m x z at begun (Indexes array index None) got f some s = element_as p q t m x z at begun (value_word array (low index)) (nat_lt (low index) (header_length got)) (value_at q (value_word array (low index))) f s
did_as p q t m x z at begun (Indexes array index (Some v)) got f some s = cc
did_as p q t m x z at begun (Makes word size) got f some s = cc
did_as p q t m x z at begun (Prints n) got f some s = cc
did_as p q t m x z at begun Returns got f some s = ap Some (if_left_as q t m x z at begun (returns p at) f s)
did_as p q t m x z at begun (Leaves n) got f some s = leaves_as p q t m n x z at begun (n == m) refl f some s
did_as p q t m x z at begun (Waits n) got f some s = cc
did_as p q t m x z at begun (Notifies n) got f some s = cc
did_as p q t m x z at begun (NotifiesAll n) got f some s = cc
did_as p q t m x z at begun e got f some s = mapped_as q t m x z begun (done p at e got) f s

got_as : (p : Program) (q : Plain) (t m : ℕ) (x z : Alone) (at : Top) (begun : ℕ) (e : Effect) (o : Option ℕ) → Stands q t m x → m ≢ 0
    → goes (record x { begun = begun }) (option_and_then (λ got. option_and_then (only_on m) (reads_only p (value_at q) at e got)) o) ≡ Some z
    → option_and_then (λ got. plain_did p q t x.thread at e got) o ≡ Some (stands_as q t m z)
got_as p q t m x z at begun e None f some s = cc
got_as p q t m x z at begun e (Some got) f some s = did_as p q t m x z at begun e got f some s

instructed_as : (p : Program) (q : Plain) (t m : ℕ) (x z : Alone) (o : Option Top) → Stands q t m x → m ≢ 0 → instructs p m (value_at q) x o ≡ Some z → plain_instructed p q t x.thread o ≡ Some (stands_as q t m z)
instructed_as p q t m x z None f some e = cc
instructed_as p q t m x z (Some at) f some e = got_as p q t m x z at (x.begun + 1) (effect_at p at) (got_by (value_at q) (read_by (effect_at p at))) f some e

-- ---- one act

entered_as : (q : Plain) (t m n : ℕ) (x z : Alone) (b : Bool) → (n == m) ≡ b → Stands q t m x → cond b (Some (enters x)) None ≡ Some z → plain_entered q t n x.thread (holding_at q.holdings n) ≡ Some (stands_as q t m z)
entered_as q t m n x z true k f e =
    ap (λ (i : ℕ). plain_entered q t i x.thread (holding_at q.holdings i)) (eqb-true n m k)
    ∙ ap (plain_entered q t m x.thread) f.holding
    ∙ ap (λ (b : Bool). cond b (Some (with_thread (held_by q m t (x.depth + 1)) t (with_status x.thread plain.Run))) None) (is_same t)
    ∙ ap (λ (y : Alone). Some (stands_as q t m y)) (same_some e)
entered_as q t m n x z false k f e = cc

left_as : (p : Program) (q : Plain) (t m : ℕ) (x z : Alone) (a : After) (depth : ℕ) → leaves p x a depth ≡ Some z → option_map (λ o. with_thread (left q t m depth) t (plain_goes_on x.thread o)) (after p x.thread.frames a) ≡ Some (stands_as q t m z)
left_as p q t m x z a (suc (suc depth)) e = by_onward (after p x.thread.frames a) e
  where
    by_onward : (o : Option Onward) → goes (record x { depth = suc depth }) o ≡ Some z → option_map (λ o. with_thread (held_by q m t (suc depth)) t (plain_goes_on x.thread o)) o ≡ Some (stands_as q t m z)
    by_onward None f = cc
    by_onward (Some o) f = ap (λ (y : Alone). Some (stands_as q t m y)) (same_some f)
left_as p q t m x z a (suc zero) e = cc
left_as p q t m x z a zero e = cc

exited_as : (p : Program) (q : Plain) (t m n : ℕ) (a : After) (x z : Alone) (b : Bool) → (n == m) ≡ b → Stands q t m x → cond b (leaves p x a x.depth) None ≡ Some z
    → exited p q t n a x.thread (holding_at q.holdings n) ≡ Some (stands_as q t m z)
exited_as p q t m n a x z true k f e =
    ap (λ (i : ℕ). exited p q t i a x.thread (holding_at q.holdings i)) (eqb-true n m k)
    ∙ ap (exited p q t m a x.thread) f.holding
    ∙ ap (λ (b : Bool). cond b (option_map (λ o. with_thread (left q t m x.depth) t (plain_goes_on x.thread o)) (after p x.thread.frames a)) None) (is_same t)
    ∙ left_as p q t m x z a x.depth e
exited_as p q t m n a x z false k f e = cc

acted_as : (p : Program) (q : Plain) (t m : ℕ) (x z : Alone) (act : Act) (status : Status) → Stands q t m x → m ≢ 0 → replay_act p m (value_at q) x act status ≡ Some z → step_at p q t x.thread act status ≡ Some (stands_as q t m z)
acted_as p q t m x z acts.Do plain.Run f some e = instructed_as p q t m x z (top_of p x.thread.frames) f some e
acted_as p q t m x z acts.Do (plain.Throw r class) f some e = mapped_as q t m x z x.begun (dispatched p r class x.thread.frames) f e
acted_as p q t m x z acts.Enter (plain.Enter n) f some e = entered_as q t m n x z (n == m) refl f e
acted_as p q t m x z acts.Exit (plain.Leave n a) f some e = exited_as p q t m n a x z (n == m) refl f e
acted_as p q t m x z act status f some e = cc

-- ---- all of them

pub played : (p : Program) (q : Plain) (t m : ℕ) (due : List Act) (x y : Alone) → Stands q t m x → m ≢ 0 → replayed p m (value_at q) due x ≡ Some y → plain_run p q (steps_of t due) ≡ Some (stands_as q t m y)
played p q t m [] x y f some e = ap Some (sym (stands_here q t m x f)) ∙ ap (λ (z : Alone). Some (stands_as q t m z)) (same_some e)
played p q t m (act ∷ due) x y f some e =
    next (replay_act p m (value_at q) x act x.thread.status) refl e (λ z more. played p (stands_as q t m z) t m due z y (stands_after q t m x.thread z f.thread) some more ∙ ap Some (stands_twice q t m z y))
  where
    next : (o : Option Alone) → replay_act p m (value_at q) x act x.thread.status ≡ o → option_and_then (replayed p m (value_at q) due) o ≡ Some y
        → ((z : Alone) → replayed p m (value_at q) due z ≡ Some y → plain_run p (stands_as q t m z) (steps_of t due) ≡ Some (stands_as q t m y))
        → option_and_then (λ r. plain_run p r (steps_of t due)) (step_of p q t act (slice_get q.threads t)) ≡ Some (stands_as q t m y)
    next None k g on = cc
    next (Some z) k g on =
        ap (λ (o : Option PlainThread). option_and_then (λ r. plain_run p r (steps_of t due)) (step_of p q t act o)) f.thread
        ∙ ap (option_and_then (λ r. plain_run p r (steps_of t due))) (acted_as p q t m x z act x.thread.status f some k)
        ∙ on z g
