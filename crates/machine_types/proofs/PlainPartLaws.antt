-- Laws of the plain machine's steps: the last exit, the notification of all, the begin of a part, instructions and exceptions.
use Rattle.std.proofs.Common.{◌≡◌, ◌≢◌, inl, inr, ℕ, zero, suc, ◌+◌, Bool, true, false, List, [], ◌∷◌, map, Option, Some, None, refl, sym, ap, ◌∙◌, subst, cond, drop, ◌==◌, nat_lt, nat_le, option_map, option_and_then, slice_get}
use Rattle.std.{specs.List.{list_all, list_any}, proofs.lemmas.Bool.eqb-true}
use Rattle.lists.proofs.{ListLaws.same_some, TestLaws.both_are_true}
use Rattle.jvm_types.specs.declared.{code.Insn.Insn, outcome.{End.End, Thrown.Thrown}, program.{MethodInfo.MethodInfo, Program.Program, Row.Row, Target.Target}}
use Rattle.machine_types.specs.{Agreement.depth_for, Effects.{Effect, Writes, Indexes, Makes, Prints, Returns, Leaves, Waits, Notifies, NotifiesAll, read_by}}
use Rattle.machine_types.specs.{Frames.{Top, top_of, top_at, top_in, at_pc, frames_of, effect_at, entry_frame, handler_at, monitor_of}, Ints.low}
use Rattle.machine_types.specs.{Onward.{Onward, Running, Leaving, Uncaught, after, root_arguments, rooted, unwound, handed, dispatched, done}, Parts.done_roots}
use Rattle.machine_types.specs.PlainInstructions.{plain_did, indexed_in, plain_instructed, got_by}
use Rattle.machine_types.specs.PlainLaws.{Steps, LastExitFrees, ExitGoesOn, AllAreWoken, NoOtherIsWoken, TakesRoot, BeginTakesRoot, BeginsDone, DoneBegins, InitHasReturned, WorkersBeginBehindInit, IsFinishedStatus, DoneBeginsLast, IsOwnStep, DoIsOwn, KeepsMemory, InstructionsChangeMemory, ExceptionGoes, ExceptionsGo}
use Rattle.machine_types.specs.PlainState.{Plain, PlainThread, Holding, Status, value_at, written, holding_at, without_holding, with_thread, with_status, held_by, let_go, plain_goes_on, over}
use Rattle.machine_types.specs.PlainSteps.{first_is_return, init_has_returned, is_over, is_due, plain_begun, may_do_done, plain_begins, plain_entered, left, exited, waited, waits_on, woken, wakes, wakes_one, notified, all_notified, retaken, step_at}
use Rattle.machine_types.specs.{ReadyObjects.class_of, Threads.Frame, Words.{header_length, value_word, variable_word}, declared.{phase.After.After, plain.Act.Act}}
use Rattle.machine_types.proofs.{Lists.{got_when_set, got_other, every}, PlainStepLaws.{by_status, is_same, depth_is, none_left}}
use Rattle.jvm_types.specs.declared.outcome.End.TheVariants as ends
use Rattle.jvm_types.specs.declared.outcome.Thrown.TheVariants as thrown
use Rattle.machine_types.specs.PlainState as plain
use Rattle.machine_types.specs.declared.phase.After.TheVariants as afters
use Rattle.machine_types.specs.declared.plain.Act.TheVariants as acts

-- ---- the last exit

frees_by : (p : Program) (q r : Plain) (t u m : ℕ) (a : After) (x : PlainThread) (h : Holding) (b : Bool) → (h.holder == t) ≡ b → h.depth ≡ 1
    → cond b (option_map (λ o. with_thread (left q t m h.depth) t (plain_goes_on x o)) (after p x.frames a)) None ≡ Some r → depth_for u (holding_at r.holdings m) ≡ None
frees_by p q r t u m a x h true e d s = by_onward (after p x.frames a) (subst (λ (n : ℕ). option_map (λ o. with_thread (left q t m n) t (plain_goes_on x o)) (after p x.frames a) ≡ Some r) d s)
  where
    by_onward : (o : Option Onward) → option_map (λ o. with_thread (let_go q m) t (plain_goes_on x o)) o ≡ Some r → depth_for u (holding_at r.holdings m) ≡ None
    by_onward None f = cc
    by_onward (Some o) f =
        let is : with_thread (let_go q m) t (plain_goes_on x o) ≡ r = same_some f in
        subst (λ (z : Plain). depth_for u (holding_at z.holdings m) ≡ None) is (ap (depth_for u) (none_left m q.holdings))
frees_by p q r t u m a x h false e d s = cc

last_by : (p : Program) (q r : Plain) (t u m : ℕ) (a : After) (x : PlainThread) (h : Option Holding) → depth_for t h ≡ Some 1 → exited p q t m a x h ≡ Some r → depth_for u (holding_at r.holdings m) ≡ None
last_by p q r t u m a x None d e = cc
last_by p q r t u m a x (Some h) d e = frees_by p q r t u m a x h (h.holder == t) refl (depth_is t 1 h (h.holder == t) refl d) e

pub last_exit_frees : LastExitFrees
last_exit_frees p q r t m a x h s d u = last_by p q r t u m a x (holding_at q.holdings m) d (by_status p q r t x acts.Exit (plain.Leave m a) h s)

-- ---- how a thread goes on behind an exit

threads_left : (q : Plain) (t m depth : ℕ) → (left q t m depth).threads ≡ q.threads
threads_left q t m (suc (suc depth)) = refl
threads_left q t m (suc zero) = refl
threads_left q t m zero = refl

abbrev GoesOn : Program → Plain → ℕ → After → PlainThread → Type 0
GoesOn p r t a x = (o : Onward) × (after p x.frames a ≡ Some o) × (slice_get r.threads t ≡ Some (plain_goes_on x o))

goes_by : (p : Program) (q r : Plain) (t m : ℕ) (a : After) (x : PlainThread) (h : Holding) (b : Bool) → slice_get q.threads t ≡ Some x
    → cond b (option_map (λ o. with_thread (left q t m h.depth) t (plain_goes_on x o)) (after p x.frames a)) None ≡ Some r → GoesOn p r t a x
goes_by p q r t m a x h true g s = by_onward (after p x.frames a) refl s
  where
    by_onward : (o : Option Onward) → after p x.frames a ≡ o → option_map (λ o. with_thread (left q t m h.depth) t (plain_goes_on x o)) o ≡ Some r → GoesOn p r t a x
    by_onward None e f = cc
    by_onward (Some o) e f =
        let is : with_thread (left q t m h.depth) t (plain_goes_on x o) ≡ r = same_some f in
        let here : slice_get (left q t m h.depth).threads t ≡ Some x = ap (λ (ts : List PlainThread). slice_get ts t) (threads_left q t m h.depth) ∙ g in
        (o, e, subst (λ (z : Plain). slice_get z.threads t ≡ Some (plain_goes_on x o)) is (got_when_set (left q t m h.depth).threads t x (plain_goes_on x o) here))
goes_by p q r t m a x h false g s = cc

exit_by : (p : Program) (q r : Plain) (t m : ℕ) (a : After) (x : PlainThread) (h : Option Holding) → slice_get q.threads t ≡ Some x → exited p q t m a x h ≡ Some r → GoesOn p r t a x
exit_by p q r t m a x None g e = cc
exit_by p q r t m a x (Some h) g e = goes_by p q r t m a x h (h.holder == t) g e

pub exit_goes_on : ExitGoesOn
exit_goes_on p q r t m a x h s = exit_by p q r t m a x (holding_at q.holdings m) h.thread (by_status p q r t x acts.Exit (plain.Leave m a) h s)

-- ---- NotifyAll

got_mapped : (f : PlainThread → PlainThread) (xs : List PlainThread) (u : ℕ) (y : PlainThread) → slice_get xs u ≡ Some y → slice_get (map f xs) u ≡ Some (f y)
got_mapped f [] u y e = cc
got_mapped f (x ∷ xs) zero y e = let same : x ≡ y = same_some e in ap (λ z. Some (f z)) same
got_mapped f (x ∷ xs) (suc u) y e = got_mapped f xs u y e

got_after : (q r : Plain) (t u m : ℕ) (x y : PlainThread) → Some (all_notified q t m x) ≡ Some r → u ≢ t → slice_get q.threads u ≡ Some y → slice_get r.threads u ≡ Some (wakes m y)
got_after q r t u m x y s n g =
    let is : all_notified q t m x ≡ r = same_some s in
    subst (λ (z : Plain). slice_get z.threads u ≡ Some (wakes m y)) is (got_other (map (wakes m) q.threads) t u (with_status x plain.Run) n ∙ got_mapped (wakes m) q.threads u y g)

-- the thread that notifies is none that waits
apart : (q : Plain) (t u m n depth : ℕ) (x y : PlainThread) → slice_get q.threads t ≡ Some x → x.status ≡ plain.NotifyAll m → slice_get q.threads u ≡ Some y → y.status ≡ plain.Waiting n depth → u ≢ t
apart q t u m n depth x y g s e w same =
    let here : slice_get q.threads t ≡ Some y = subst (λ (k : ℕ). slice_get q.threads k ≡ Some y) same e in
    let one : x ≡ y = same_some (sym g ∙ here) in
    let clash : plain.NotifyAll m ≡ plain.Waiting n depth = sym s ∙ ap (λ (z : PlainThread). z.status) one ∙ w in cc

woken_is : (m depth : ℕ) (status : Status) → status ≡ plain.Waiting m depth → woken m status ≡ plain.Woken m depth
woken_is m depth status e = ap (woken m) e ∙ ap (λ (b : Bool). cond b (plain.Woken m depth) (plain.Waiting m depth)) (is_same m)

pub all_are_woken : AllAreWoken
all_are_woken p q r t u m depth x y h s g w =
    got_after q r t u m x y (by_status p q r t x acts.NotifyAll (plain.NotifyAll m) h s) (apart q t u m m depth x y h.thread s g w) g
    ∙ ap (λ (z : Status). Some (record y { status = z })) (woken_is m depth y.status w)

stays_awake : (m : ℕ) (status : Status) → ((depth : ℕ) → status ≢ plain.Waiting m depth) → woken m status ≡ status
stays_awake m (plain.Waiting n depth) none = by_test (n == m) refl
  where
    by_test : (b : Bool) → (n == m) ≡ b → cond b (plain.Woken n depth) (plain.Waiting n depth) ≡ plain.Waiting n depth
    by_test true e = absurd (none depth (ap (λ (k : ℕ). plain.Waiting k depth) (eqb-true n m e)))
    by_test false e = refl
stays_awake m status none = refl

pub no_other_is_woken : NoOtherIsWoken
no_other_is_woken p q r t u m x y h s n g none =
    got_after q r t u m x y (by_status p q r t x acts.NotifyAll (plain.NotifyAll m) h s) n g
    ∙ ap (λ (z : Status). Some (record y { status = z })) (stays_awake m y.status none)

-- ---- Begin

-- what a begin leaves in its thread
begun_by : (p : Program) (q r : Plain) (t : ℕ) (x : PlainThread) (number : ℕ) (rest : List ℕ) (o : Option MethodInfo) → slice_get p.methods number ≡ o → slice_get q.threads t ≡ Some x
    → option_map (with_thread q t) (option_map (λ m. plain_goes_on (record x { roots = rest }) (rooted p t number m)) o) ≡ Some r → TakesRoot p r t x (number ∷ rest)
begun_by p q r t x number rest None e g s = cc
begun_by p q r t x number rest (Some m) e g s = record {
  number = number;
  rest = rest;
  roots_are = refl;
  method = m;
  is = e;
  begins = λ room. is ∙ ap at room;
  overflows = λ full. is ∙ ap at full;
}
  where
    now : PlainThread
    now = plain_goes_on (record x { roots = rest }) (rooted p t number m)

    is : slice_get r.threads t ≡ Some now
    is = subst (λ (z : Plain). slice_get z.threads t ≡ Some now) (same_some s) (got_when_set q.threads t x now g)

    at : Bool → Option PlainThread
    at b = Some (plain_goes_on (record x { roots = rest }) (cond b (Running (entry_frame number m (root_arguments t m) ∷ [])) (Uncaught thrown.StackOverflowError)))

taken_by : (p : Program) (q r : Plain) (t : ℕ) (x : PlainThread) (b : Bool) (roots : List ℕ) → slice_get q.threads t ≡ Some x → cond b (option_map (with_thread q t) (plain_begun p t x roots)) None ≡ Some r → TakesRoot p r t x roots
taken_by p q r t x true (number ∷ rest) g s = begun_by p q r t x number rest (slice_get p.methods number) refl g s
taken_by p q r t x true [] g s = cc
taken_by p q r t x false roots g s = cc

pub begin_takes_root : BeginTakesRoot
begin_takes_root p q r t x h s = taken_by p q r t x (is_due q.threads t x.ended) x.roots h.thread (by_status p q r t x acts.Begin plain.Ready h s)

done_by : (p : Program) (q r : Plain) (t : ℕ) (x : PlainThread) (end : List End) (b : Bool) → x.ended ≡ end → slice_get q.threads t ≡ Some x
    → cond b (option_map (with_thread q t) (cond (may_do_done t end) (plain_begun p t x (done_roots p)) None)) None ≡ Some r → BeginsDone p r t x
done_by p q r zero x (ends.Returned ∷ []) b e g s = record { first = refl; returned = e; takes = taken_by p q r zero x b (done_roots p) g s }
done_by p q r t x end true e g s = cc
done_by p q r t x end false e g s = cc

pub done_begins : DoneBegins
done_begins p q r t x h s = done_by p q r t x x.ended (is_due q.threads t x.ended) refl h.thread (by_status p q r t x acts.Begin (plain.Ended ends.Returned) h s)

-- a part that begins is due
due_by : (b : Bool) (o : Option Plain) (r : Plain) → cond b o None ≡ Some r → b ≡ true
due_by true o r e = refl
due_by false o r e = cc

is_due_at : (p : Program) (q r : Plain) (t : ℕ) (x : PlainThread) → Steps p q r t x acts.Begin → is_due q.threads t x.ended ≡ true
is_due_at p q r t x h = due_by (is_due q.threads t x.ended) (option_map (with_thread q t) (plain_begins p t x x.status)) r (by_status p q r t x acts.Begin x.status h refl)

first_returned : (es : List End) → first_is_return es ≡ true → slice_get es 0 ≡ Some ends.Returned
first_returned (ends.Returned ∷ es) h = refl
first_returned [] h = cc
first_returned (e ∷ es) h = cc

init_by : (q : Plain) (ts : List PlainThread) → q.threads ≡ ts → init_has_returned ts ≡ true → InitHasReturned q
init_by q [] e h = cc
init_by q (x ∷ ts) e h = record { first = x; is = ap (λ (us : List PlainThread). slice_get us 0) e; returned = first_returned x.ended h }

pub workers_begin_behind_init : WorkersBeginBehindInit
workers_begin_behind_init p q r t x h = init_by q q.threads refl (is_due_at p q r (suc t) x h)

over_by : (status : Status) → is_over status ≡ true → IsFinishedStatus status
over_by (plain.Ended ends.Returned) e = inl refl
over_by (plain.Ended (ends.Uncaught class)) e = inr (class, refl)
over_by (plain.Ended e) h = cc
over_by status e = cc

workers_over : (ts : List PlainThread) (u : ℕ) (y : PlainThread) → list_all (λ w. is_over w.status) (drop 1 ts) ≡ true → slice_get ts (suc u) ≡ Some y → IsFinishedStatus y.status
workers_over [] u y all e = cc
workers_over (x ∷ ts) u y all e = over_by y.status (every (λ w. is_over w.status) ts all u y e)

pub done_begins_last : DoneBeginsLast
done_begins_last p q r t u x y h s e =
    let d : BeginsDone p r t x = done_begins p q r t x h s in
    let due : is_due q.threads 0 (ends.Returned ∷ []) ≡ true = subst (λ (n : ℕ). is_due q.threads n (ends.Returned ∷ []) ≡ true) d.first (subst (λ (es : List End). is_due q.threads t es ≡ true) d.returned (is_due_at p q r t x h)) in
    workers_over q.threads u y (both_are_true (init_has_returned q.threads) (list_all (λ w. is_over w.status) (drop 1 q.threads)) due).1 e

-- ---- Do: the other threads and the monitors

own_put : (q r z : Plain) (t : ℕ) (y : PlainThread) → with_thread z t y ≡ r → z.threads ≡ q.threads → z.holdings ≡ q.holdings → IsOwnStep q r t
own_put q r z t y e ts hs = record {
  others = λ u n. subst (λ (w : Plain). slice_get w.threads u ≡ slice_get q.threads u) e (got_other z.threads t u y n ∙ ap (λ (l : List PlainThread). slice_get l u) ts);
  holdings = subst (λ (w : Plain). w.holdings ≡ q.holdings) e hs;
}

own_mapped : (q r : Plain) (t : ℕ) (x : PlainThread) (o : Option Onward) → option_map (λ o. with_thread q t (plain_goes_on x o)) o ≡ Some r → IsOwnStep q r t
own_mapped q r t x None e = cc
own_mapped q r t x (Some o) e = own_put q r q t (plain_goes_on x o) (same_some e) refl refl

own_written : (q r : Plain) (t place word : ℕ) (y : PlainThread) (o : Option ℕ) → option_map (λ (was : ℕ). with_thread (written q place word) t y) o ≡ Some r → IsOwnStep q r t
own_written q r t place word y None e = cc
own_written q r t place word y (Some was) e = own_put q r (written q place word) t y (same_some e) refl refl

own_element : (p : Program) (q r : Plain) (t : ℕ) (x : PlainThread) (at : Top) (place : ℕ) (stored : Option ℕ) (o : Option ℕ) → option_map (indexed_in p q t x at place stored) o ≡ Some r → IsOwnStep q r t
own_element p q r t x at place stored None e = cc
own_element p q r t x at place None (Some value) e = own_put q r q t _ (same_some e) refl refl
own_element p q r t x at place (Some v) (Some value) e = own_put q r (written q place v) t _ (same_some e) refl refl

own_indexed : (p : Program) (q r : Plain) (t : ℕ) (x : PlainThread) (at : Top) (place : ℕ) (stored : Option ℕ) (b : Bool) (y : PlainThread)
    → cond b (option_map (indexed_in p q t x at place stored) (value_at q place)) (Some (with_thread q t y)) ≡ Some r → IsOwnStep q r t
own_indexed p q r t x at place stored true y e = own_element p q r t x at place stored (value_at q place) e
own_indexed p q r t x at place stored false y e = own_put q r q t y (same_some e) refl refl

own_made : (q r y z : Plain) (t : ℕ) (v w : PlainThread) (b : Bool) → cond b (with_thread y t v) (with_thread z t w) ≡ r → y.threads ≡ q.threads → y.holdings ≡ q.holdings → z.threads ≡ q.threads → z.holdings ≡ q.holdings → IsOwnStep q r t
own_made q r y z t v w true e a b c d = own_put q r y t v e a b
own_made q r y z t v w false e a b c d = own_put q r z t w e c d

own_did : (p : Program) (q r : Plain) (t : ℕ) (x : PlainThread) (at : Top) (e : Effect) (got : ℕ) → plain_did p q t x at e got ≡ Some r → IsOwnStep q r t
own_did p q r t x at (Writes v word) got s = own_written q r t (variable_word v) word _ (value_at q (variable_word v)) s
own_did p q r t x at (Indexes array index stored) got s = own_indexed p q r t x at (value_word array (low index)) stored (nat_lt (low index) (header_length got)) _ s
own_did p q r t x at (Makes word size) got s = own_made q r _ _ t _ _ (nat_le (q.next + size) p.heap) (same_some s) refl refl refl refl
own_did p q r t x at (Prints n) got s = own_put q r _ t _ (same_some s) refl refl
own_did p q r t x at Returns got s = own_put q r q t _ (same_some s) refl refl
own_did p q r t x at (Leaves m) got s = own_put q r q t _ (same_some s) refl refl
own_did p q r t x at (Waits m) got s = own_put q r q t _ (same_some s) refl refl
own_did p q r t x at (Notifies m) got s = own_put q r q t _ (same_some s) refl refl
own_did p q r t x at (NotifiesAll m) got s = own_put q r q t _ (same_some s) refl refl
own_did p q r t x at e got s = own_mapped q r t x (done p at e got) s

own_got : (p : Program) (q r : Plain) (t : ℕ) (x : PlainThread) (at : Top) (e : Effect) (o : Option ℕ) → option_and_then (λ got. plain_did p q t x at e got) o ≡ Some r → IsOwnStep q r t
own_got p q r t x at e None s = cc
own_got p q r t x at e (Some got) s = own_did p q r t x at e got s

own_top : (p : Program) (q r : Plain) (t : ℕ) (x : PlainThread) (o : Option Top) → plain_instructed p q t x o ≡ Some r → IsOwnStep q r t
own_top p q r t x None s = cc
own_top p q r t x (Some at) s = own_got p q r t x at (effect_at p at) (got_by (value_at q) (read_by (effect_at p at))) s

own_by : (p : Program) (q r : Plain) (t : ℕ) (x : PlainThread) (status : Status) → step_at p q t x acts.Do status ≡ Some r → IsOwnStep q r t
own_by p q r t x plain.Run s = own_top p q r t x (top_of p x.frames) s
own_by p q r t x (plain.Throw e class) s = own_mapped q r t x (dispatched p e class x.frames) s
own_by p q r t x status s = cc

pub do_is_own : DoIsOwn
do_is_own p q r t x h = own_by p q r t x x.status (by_status p q r t x acts.Do x.status h refl)

-- ---- every other act leaves the memory

kept_put : (q r z : Plain) (t : ℕ) (y : PlainThread) → with_thread z t y ≡ r → KeepsMemory q z → KeepsMemory q r
kept_put q r z t y e k = subst (λ (w : Plain). KeepsMemory q w) e (record { objects = k.objects; statics = k.statics; next = k.next; prints = k.prints })

kept_if : (q r z : Plain) (t : ℕ) (y : PlainThread) (b : Bool) → cond b (Some (with_thread z t y)) None ≡ Some r → KeepsMemory q z → KeepsMemory q r
kept_if q r z t y true e k = kept_put q r z t y (same_some e) k
kept_if q r z t y false e k = cc

kept_mapped : {X : Type 0} (q r z : Plain) (t : ℕ) (f : X → PlainThread) (o : Option X) → option_map (λ v. with_thread z t (f v)) o ≡ Some r → KeepsMemory q z → KeepsMemory q r
kept_mapped q r z t f None e k = cc
kept_mapped q r z t f (Some v) e k = kept_put q r z t (f v) (same_some e) k

as_it_is : (q : Plain) → KeepsMemory q q
as_it_is q = record { objects = refl; statics = refl; next = refl; prints = refl }

kept_begin : (q r : Plain) (t : ℕ) (b : Bool) (o : Option PlainThread) → cond b (option_map (with_thread q t) o) None ≡ Some r → KeepsMemory q r
kept_begin q r t true o e = kept_mapped q r q t (λ y. y) o e (as_it_is q)
kept_begin q r t false o e = cc

kept_enter : (q r : Plain) (t m : ℕ) (x : PlainThread) (o : Option Holding) → plain_entered q t m x o ≡ Some r → KeepsMemory q r
kept_enter q r t m x None e = kept_put q r (held_by q m t 1) t _ (same_some e) (record { objects = refl; statics = refl; next = refl; prints = refl })
kept_enter q r t m x (Some h) e = kept_if q r (held_by q m t (h.depth + 1)) t _ (h.holder == t) e (record { objects = refl; statics = refl; next = refl; prints = refl })

left_keeps : (q : Plain) (t m depth : ℕ) → KeepsMemory q (left q t m depth)
left_keeps q t m (suc (suc depth)) = record { objects = refl; statics = refl; next = refl; prints = refl }
left_keeps q t m (suc zero) = record { objects = refl; statics = refl; next = refl; prints = refl }
left_keeps q t m zero = record { objects = refl; statics = refl; next = refl; prints = refl }

kept_exit : (p : Program) (q r : Plain) (t m : ℕ) (a : After) (x : PlainThread) (o : Option Holding) → exited p q t m a x o ≡ Some r → KeepsMemory q r
kept_exit p q r t m a x None e = cc
kept_exit p q r t m a x (Some h) e = by_test (h.holder == t) e
  where
    by_test : (b : Bool) → cond b (option_map (λ o. with_thread (left q t m h.depth) t (plain_goes_on x o)) (after p x.frames a)) None ≡ Some r → KeepsMemory q r
    by_test true f = kept_mapped q r (left q t m h.depth) t (plain_goes_on x) (after p x.frames a) f (left_keeps q t m h.depth)
    by_test false f = cc

kept_wait : (q r : Plain) (t m : ℕ) (x : PlainThread) (o : Option Holding) → waited q t m x o ≡ Some r → KeepsMemory q r
kept_wait q r t m x None e = cc
kept_wait q r t m x (Some h) e = kept_if q r (let_go q m) t _ (h.holder == t) e (record { objects = refl; statics = refl; next = refl; prints = refl })

kept_woken : (q r : Plain) (t m u : ℕ) (x : PlainThread) (o : Option PlainThread) → option_map (λ z. with_thread z t (with_status x plain.Run)) (wakes_one q m u o) ≡ Some r → KeepsMemory q r
kept_woken q r t m u x None e = cc
kept_woken q r t m u x (Some y) e = by_test (waits_on m y.status) e
  where
    by_test : (b : Bool) → option_map (λ z. with_thread z t (with_status x plain.Run)) (cond b (Some (with_thread q u (wakes m y))) None) ≡ Some r → KeepsMemory q r
    by_test true f = kept_put q r (with_thread q u (wakes m y)) t (with_status x plain.Run) (same_some f) (record { objects = refl; statics = refl; next = refl; prints = refl })
    by_test false f = cc

kept_notify : (q r : Plain) (t m : ℕ) (x : PlainThread) (one : Option ℕ) → notified q t m x one ≡ Some r → KeepsMemory q r
kept_notify q r t m x None e = by_test (list_any (λ w. waits_on m w.status) q.threads) e
  where
    by_test : (b : Bool) → cond b None (Some (with_thread q t (with_status x plain.Run))) ≡ Some r → KeepsMemory q r
    by_test true f = cc
    by_test false f = kept_put q r q t (with_status x plain.Run) (same_some f) (as_it_is q)
kept_notify q r t m x (Some u) e = kept_woken q r t m u x (slice_get q.threads u) e

kept_retake : (q r : Plain) (t m depth : ℕ) (x : PlainThread) (o : Option Holding) → retaken q t m depth x o ≡ Some r → KeepsMemory q r
kept_retake q r t m depth x None e = kept_put q r (held_by q m t depth) t _ (same_some e) (record { objects = refl; statics = refl; next = refl; prints = refl })
kept_retake q r t m depth x (Some h) e = cc

kept_by : (p : Program) (q r : Plain) (t : ℕ) (x : PlainThread) (act : Act) (status : Status) → step_at p q t x act status ≡ Some r → ((act ≡ acts.Do) × (status ≡ plain.Run) → ⊥) → KeepsMemory q r
kept_by p q r t x acts.Begin status s n = kept_begin q r t (is_due q.threads t x.ended) (plain_begins p t x status) s
kept_by p q r t x acts.Do plain.Run s n = absurd (n (refl, refl))
kept_by p q r t x acts.Do (plain.Throw e class) s n = kept_mapped q r q t (plain_goes_on x) (dispatched p e class x.frames) s (as_it_is q)
kept_by p q r t x acts.Enter (plain.Enter m) s n = kept_enter q r t m x (holding_at q.holdings m) s
kept_by p q r t x acts.Exit (plain.Leave m a) s n = kept_exit p q r t m a x (holding_at q.holdings m) s
kept_by p q r t x acts.Wait (plain.Wait m) s n = kept_wait q r t m x (holding_at q.holdings m) s
kept_by p q r t x (acts.Notify one) (plain.Notify m) s n = kept_notify q r t m x one s
kept_by p q r t x acts.NotifyAll (plain.NotifyAll m) s n = subst (λ (w : Plain). KeepsMemory q w) (same_some s) (record { objects = refl; statics = refl; next = refl; prints = refl })
kept_by p q r t x acts.Retake (plain.Woken m depth) s n = kept_retake q r t m depth x (holding_at q.holdings m) s
kept_by p q r t x act status s n = cc

pub instructions_change_memory : InstructionsChangeMemory
instructions_change_memory p q r t x act h n = kept_by p q r t x act x.status (by_status p q r t x act x.status h refl) n

-- ---- exceptions

pub of_top : (f : Frame) (below : List Frame) (m : MethodInfo) (insn : Option Insn) (target : Option Target) (at : Top) → top_at f below m insn target ≡ Some at → frames_of at ≡ f ∷ below
of_top f below m (Some insn) (Some target) at e = ap frames_of (sym (same_some e))
of_top f below m insn target at e = cc

pub of_method : (f : Frame) (below : List Frame) (m : Option MethodInfo) (at : Top) → top_in f below m ≡ Some at → frames_of at ≡ f ∷ below
of_method f below None at e = cc
of_method f below (Some m) at e = of_top f below m (at_pc m.code m.code f.pc) (at_pc m.code m.targets f.pc) at e

pub frames_are : (p : Program) (fs : List Frame) (at : Top) → top_of p fs ≡ Some at → frames_of at ≡ fs
frames_are p [] at e = cc
frames_are p (f ∷ below) at e = of_method f below (slice_get p.methods f.method) at e

dispatched_is : (p : Program) (q r : Plain) (t e : ℕ) (class : Thrown) (x : PlainThread) (at : Top) → slice_get q.threads t ≡ Some x → top_of p x.frames ≡ Some at
    → option_map (λ o. with_thread q t (plain_goes_on x o)) (dispatched p e class x.frames) ≡ Some r → slice_get r.threads t ≡ Some (plain_goes_on x (handed p e class at (handler_at (class_of class) at)))
dispatched_is p q r t e class x at g top s =
    let now : PlainThread = plain_goes_on x (handed p e class at (handler_at (class_of class) at)) in
    let is : Some (with_thread q t now) ≡ Some r = sym (ap (λ (o : Option Top). option_map (λ o. with_thread q t (plain_goes_on x o)) (option_map (λ a. handed p e class a (handler_at (class_of class) a)) o)) top) ∙ s in
    subst (λ (w : Plain). slice_get w.threads t ≡ Some now) (same_some is) (got_when_set q.threads t x now g)

goes : (p : Program) (r : Plain) (t e : ℕ) (class : Thrown) (x : PlainThread) (at : Top) (handler : Option Row) → frames_of at ≡ x.frames → slice_get r.threads t ≡ Some (plain_goes_on x (handed p e class at handler)) → ExceptionGoes p r t e class x at handler
goes p r t e class x at handler frames is = record {
  handled = λ row k. is ∙ ap (λ (h : Option Row). Some (plain_goes_on x (handed p e class at h))) k;
  leaves = λ k l. is ∙ ap (λ (h : Option Row). Some (plain_goes_on x (handed p e class at h))) k ∙ ap none l ∙ ap (λ (fs : List Frame). Some (record x { frames = fs; status = plain.Leave (monitor_of p at.method at.frame) (afters.Unwind e class) })) frames;
  pops = λ k l f fs b. is ∙ ap (λ (h : Option Row). Some (plain_goes_on x (handed p e class at h))) k ∙ ap none l ∙ ap (λ (gs : List Frame). Some (plain_goes_on x (unwound e class gs))) b;
  uncaught = λ k l b. is ∙ ap (λ (h : Option Row). Some (plain_goes_on x (handed p e class at h))) k ∙ ap none l ∙ ap (λ (gs : List Frame). Some (plain_goes_on x (unwound e class gs))) b;
}
  where
    none : Bool → Option PlainThread
    none b = Some (plain_goes_on x (cond b (Leaving (monitor_of p at.method at.frame) (afters.Unwind e class) (frames_of at)) (unwound e class at.below)))

pub exceptions_go : ExceptionsGo
exceptions_go p q r t e class x at h s top =
    goes p r t e class x at (handler_at (class_of class) at) (frames_are p x.frames at top) (dispatched_is p q r t e class x at h.thread top (by_status p q r t x acts.Do (plain.Throw e class) h s))
