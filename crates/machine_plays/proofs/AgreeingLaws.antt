-- What is decided of a thread in a play is what agreement says of it.
use Rattle.std.{proofs.Common.{◌≡◌, ℕ, Bool, true, false, List, [], ◌∷◌, Option, Some, None, refl, sym, ap, ◌∙◌, subst, inl, inr, ◌==◌, not, ◌&&◌, ◌||◌}, specs.List.{list_all, list_any}}
use Rattle.std.proofs.lemmas.Bool.{eqb-true}
use Rattle.lists.proofs.TestLaws.{both_are_true}
use Rattle.jvm_types.specs.{Numbers.has_number, declared.{outcome.{End.End, Thrown.Thrown}, program.Program.Program}}
use Rattle.machine_types.specs.{Agreement.{has_wait_bit, LimitFits, IsWaiter, IsTurning, EndingFits, frames_shown, roots_shown, StatusFits, ThreadFits}, Elision.put_back, HeldMonitors.held_at}
use Rattle.machine_types.specs.{PlainState.{Status, PlainThread}, ReadyObjects.{class_of, thrown_of}, Threads.{Frame, Attempt, Thread}, declared.{lock.Held.Held, phase.{After.After, Phase.Phase}}}
use Rattle.machine_plays.proofs.Agreeing.{same_list, same_frame, same_frames, same_after, same_end, same, waits_on, is_held, waits, turns, limit_fits, ending_fits, status_fits, thread_fits}
use Rattle.jvm_types.specs.declared.outcome.End.TheVariants as ends
use Rattle.jvm_types.specs.declared.outcome.Thrown.TheVariants as thrown
use Rattle.machine_types.specs.PlainState as plain
use Rattle.machine_types.specs.declared.phase.After.TheVariants as afters
use Rattle.machine_types.specs.declared.phase.Phase.TheVariants as phases

-- ---- what is the same is equal

equal_lists : (xs ys : List ℕ) → same_list xs ys ≡ true → xs ≡ ys
equal_lists [] [] e = refl
equal_lists [] (y ∷ ys) e = cc
equal_lists (x ∷ xs) [] e = cc
equal_lists (x ∷ xs) (y ∷ ys) e =
    let parts : ((x == y) ≡ true) × (same_list xs ys ≡ true) = both_are_true (x == y) (same_list xs ys) e in
    let first : x ≡ y = eqb-true x y parts.0 in
    let rest : xs ≡ ys = equal_lists xs ys parts.1 in λ i. first i ∷ rest i

equal_frame : (f g : Frame) → same_frame f g ≡ true → f ≡ g
equal_frame f g e =
    let a : ((f.method == g.method) ≡ true) × (((f.pc == g.pc) && ((f.receiver == g.receiver) && (same_list f.locals g.locals && same_list f.stack g.stack))) ≡ true) = both_are_true _ _ e in
    let b : ((f.pc == g.pc) ≡ true) × (((f.receiver == g.receiver) && (same_list f.locals g.locals && same_list f.stack g.stack)) ≡ true) = both_are_true _ _ a.1 in
    let c : ((f.receiver == g.receiver) ≡ true) × ((same_list f.locals g.locals && same_list f.stack g.stack) ≡ true) = both_are_true _ _ b.1 in
    let d : (same_list f.locals g.locals ≡ true) × (same_list f.stack g.stack ≡ true) = both_are_true _ _ c.1 in
    let method : f.method ≡ g.method = eqb-true f.method g.method a.0 in
    let pc : f.pc ≡ g.pc = eqb-true f.pc g.pc b.0 in
    let receiver : f.receiver ≡ g.receiver = eqb-true f.receiver g.receiver c.0 in
    let locals : f.locals ≡ g.locals = equal_lists f.locals g.locals d.0 in
    let stack : f.stack ≡ g.stack = equal_lists f.stack g.stack d.1 in
    λ i. record { method = method i; pc = pc i; receiver = receiver i; locals = locals i; stack = stack i }

equal_frames : (fs gs : List Frame) → same_frames fs gs ≡ true → fs ≡ gs
equal_frames [] [] e = refl
equal_frames [] (g ∷ gs) e = cc
equal_frames (f ∷ fs) [] e = cc
equal_frames (f ∷ fs) (g ∷ gs) e =
    let parts : (same_frame f g ≡ true) × (same_frames fs gs ≡ true) = both_are_true (same_frame f g) (same_frames fs gs) e in
    let first : f ≡ g = equal_frame f g parts.0 in
    let rest : fs ≡ gs = equal_frames fs gs parts.1 in λ i. first i ∷ rest i

-- each class is that of one throwable
thrown_back : (x : Thrown) → thrown_of (class_of x) ≡ Some x
thrown_back thrown.Throwable = refl
thrown_back thrown.Exception = refl
thrown_back thrown.Error = refl
thrown_back thrown.RuntimeException = refl
thrown_back thrown.InterruptedException = refl
thrown_back thrown.ArithmeticException = refl
thrown_back thrown.NullPointerException = refl
thrown_back thrown.ArrayIndexOutOfBoundsException = refl
thrown_back thrown.NegativeArraySizeException = refl
thrown_back thrown.IllegalMonitorStateException = refl
thrown_back thrown.OutOfMemoryError = refl
thrown_back thrown.StackOverflowError = refl

same_thrown : (x y : Thrown) → (class_of x == class_of y) ≡ true → x ≡ y
same_thrown x y e =
    let one : Some x ≡ Some y = sym (thrown_back x) ∙ ap thrown_of (eqb-true (class_of x) (class_of y) e) ∙ thrown_back y in cc

equal_after : (a b : After) → same_after a b ≡ true → a ≡ b
equal_after afters.Next afters.Next e = refl
equal_after afters.Return afters.Return e = refl
equal_after (afters.Unwind x class) (afters.Unwind y other) e =
    let parts : ((x == y) ≡ true) × ((class_of class == class_of other) ≡ true) = both_are_true (x == y) (class_of class == class_of other) e in
    let first : x ≡ y = eqb-true x y parts.0 in
    let second : class ≡ other = same_thrown class other parts.1 in λ i. afters.Unwind (first i) (second i)
equal_after a b e = cc

equal_end : (e f : End) → same_end e f ≡ true → e ≡ f
equal_end ends.Returned ends.Returned s = refl
equal_end (ends.Uncaught x) (ends.Uncaught y) s = ap ends.Uncaught (same_thrown x y s)
equal_end e f s = cc

equal : (x y : Status) → same x y ≡ true → x ≡ y
equal plain.Ready plain.Ready e = refl
equal plain.Run plain.Run e = refl
equal (plain.Throw x class) (plain.Throw y other) e =
    let parts : ((x == y) ≡ true) × ((class_of class == class_of other) ≡ true) = both_are_true (x == y) (class_of class == class_of other) e in
    let first : x ≡ y = eqb-true x y parts.0 in
    let second : class ≡ other = same_thrown class other parts.1 in λ i. plain.Throw (first i) (second i)
equal (plain.Enter m) (plain.Enter n) e = ap plain.Enter (eqb-true m n e)
equal (plain.Leave m a) (plain.Leave n b) e =
    let parts : ((m == n) ≡ true) × (same_after a b ≡ true) = both_are_true (m == n) (same_after a b) e in
    let first : m ≡ n = eqb-true m n parts.0 in
    let second : a ≡ b = equal_after a b parts.1 in λ i. plain.Leave (first i) (second i)
equal (plain.Wait m) (plain.Wait n) e = ap plain.Wait (eqb-true m n e)
equal (plain.Notify m) (plain.Notify n) e = ap plain.Notify (eqb-true m n e)
equal (plain.NotifyAll m) (plain.NotifyAll n) e = ap plain.NotifyAll (eqb-true m n e)
equal (plain.Waiting m d) (plain.Waiting n f) e =
    let parts : ((m == n) ≡ true) × ((d == f) ≡ true) = both_are_true (m == n) (d == f) e in
    let first : m ≡ n = eqb-true m n parts.0 in
    let second : d ≡ f = eqb-true d f parts.1 in λ i. plain.Waiting (first i) (second i)
equal (plain.Woken m d) (plain.Woken n f) e =
    let parts : ((m == n) ≡ true) × ((d == f) ≡ true) = both_are_true (m == n) (d == f) e in
    let first : m ≡ n = eqb-true m n parts.0 in
    let second : d ≡ f = eqb-true d f parts.1 in λ i. plain.Woken (first i) (second i)
equal (plain.Ended x) (plain.Ended y) e = ap plain.Ended (equal_end x y e)
equal x y e = cc

-- ---- a thread that a limit has ended; its bit is set on no monitor outside some references

waits_there : (bit : ℕ → Bool) (references : List ℕ) (status : Status) → list_all (λ m. not (bit m) || waits_on status m) references ≡ true → (m : ℕ) → has_number references m ≡ true → bit m ≡ true → waits_on status m ≡ true
waits_there bit [] status all m is set = cc
waits_there bit (n ∷ ns) status all m is set = by_test (n == m) refl is (λ h. waits_there bit ns status parts.1 m h set)
  where
    parts : ((not (bit n) || waits_on status n) ≡ true) × (list_all (λ k. not (bit k) || waits_on status k) ns ≡ true)
    parts = both_are_true (not (bit n) || waits_on status n) (list_all (λ k. not (bit k) || waits_on status k) ns) all

    here : (not (bit m) || waits_on status m) ≡ true → waits_on status m ≡ true
    here e = subst (λ (b : Bool). (not b || waits_on status m) ≡ true) set e

    by_test : (b : Bool) → (n == m) ≡ b → b || has_number ns m ≡ true → (has_number ns m ≡ true → waits_on status m ≡ true) → waits_on status m ≡ true
    by_test true k h more = here (subst (λ (j : ℕ). (not (bit j) || waits_on status j) ≡ true) (eqb-true n m k) parts.0)
    by_test false k h more = more h

waiting : (status : Status) (m : ℕ) → waits_on status m ≡ true → (depth : ℕ) × (status ≡ plain.Waiting m depth)
waiting (plain.Waiting n d) m e = (d, ap (λ (k : ℕ). plain.Waiting k d) (eqb-true n m e))
waiting status m e = cc

none_set : (bit : ℕ → Bool) (references : List ℕ) → ((m : ℕ) → bit m ≡ false) → list_any bit references ≡ false
none_set bit [] none = refl
none_set bit (m ∷ ms) none = rw (none m) (none_set bit ms none)

limit_agrees : (bit : ℕ → Bool) (references : List ℕ) (status : Status) (awake : Bool) (Awake : Type 0) → ((m : ℕ) → has_number references m ≡ false → bit m ≡ false) → (awake ≡ true → Awake)
    → limit_fits bit references status awake ≡ true → LimitFits bit status Awake
limit_agrees bit references status awake Awake outside fits e = record {
  waits = λ m set. waiting status m (waits_there bit references status parts.0 m (among m set (has_number references m) refl) set);
  awake = λ none. fits (subst (λ (b : Bool). (b || awake) ≡ true) (none_set bit references none) parts.1);
}
  where
    parts : (list_all (λ m. not (bit m) || waits_on status m) references ≡ true) × ((list_any bit references || awake) ≡ true)
    parts = both_are_true _ _ e

    among : (m : ℕ) → bit m ≡ true → (b : Bool) → has_number references m ≡ b → has_number references m ≡ true
    among m set true h = h
    among m set false h = let g : false ≡ true = sym (outside m h) ∙ set in cc

has_holding : (held : Option Held) → is_held held ≡ true → (h : Held) × (held ≡ Some h)
has_holding (Some h) e = (h, refl)
has_holding None e = cc

is_waiter : (held : List Held) (status : Status) → waits held status ≡ true → IsWaiter held status
is_waiter held (plain.Wait m) e = (m, refl, has_holding (held_at held m) e)
is_waiter held status e = cc

is_turning : (status : Status) → turns status ≡ true → IsTurning status
is_turning (plain.Enter m) e = inl (m, refl)
is_turning (plain.Woken m d) e = inr (m, d, refl)
is_turning status e = cc

-- ---- a thread

ending_agrees : (bit : ℕ → Bool) (references : List ℕ) (held : List Held) (end : End) (status : Status) → ((m : ℕ) → has_number references m ≡ false → bit m ≡ false)
    → ending_fits bit references held end status ≡ true → EndingFits bit held end status
ending_agrees bit references held ends.Steps status outside e = limit_agrees bit references status (same status plain.Run) (status ≡ plain.Run) outside (equal status plain.Run) e
ending_agrees bit references held ends.Prints status outside e = limit_agrees bit references status (same status plain.Run) (status ≡ plain.Run) outside (equal status plain.Run) e
ending_agrees bit references held ends.Records status outside e = limit_agrees bit references status (waits held status) (IsWaiter held status) outside (is_waiter held status) e
ending_agrees bit references held ends.Turns status outside e = limit_agrees bit references status (turns status) (IsTurning status) outside (is_turning status) e
ending_agrees bit references held end status outside e = equal status _ e

status_agrees : (bit : ℕ → Bool) (references : List ℕ) (s : Thread) (phase : Phase) (status : Status) → ((m : ℕ) → has_number references m ≡ false → bit m ≡ false)
    → status_fits bit references s phase status ≡ true → StatusFits bit s phase status
status_agrees bit references s (phases.Ending end) status outside e = ending_agrees bit references s.held end status outside e
status_agrees bit references s (phases.Ended end) status outside e = ending_agrees bit references s.held end status outside e
status_agrees bit references s phase status outside e = equal status _ e

fits : (p : Program) (bit : ℕ → Bool) (references : List ℕ) (s : Thread) (a : Option Attempt) (x : PlainThread) → ((m : ℕ) → has_number references m ≡ false → bit m ≡ false)
    → thread_fits p bit references s a x ≡ true → ThreadFits p bit s a x
fits p bit references s None x outside e =
    let a : (same_frames x.frames (frames_shown s.phase s.frames) ≡ true) × ((status_fits bit references s s.phase x.status && same_list x.roots (roots_shown p s.part s.phase s.roots)) ≡ true) = both_are_true _ _ e in
    let b : (status_fits bit references s s.phase x.status ≡ true) × (same_list x.roots (roots_shown p s.part s.phase s.roots) ≡ true) = both_are_true _ _ a.1 in
    record { frames = equal_frames x.frames (frames_shown s.phase s.frames) a.0; status = status_agrees bit references s s.phase x.status outside b.0; roots = equal_lists x.roots (roots_shown p s.part s.phase s.roots) b.1 }
fits p bit references s (Some t) x outside e =
    let a : (same_frames x.frames (put_back t s.frames) ≡ true) × ((same x.status (plain.Enter t.monitor) && same_list x.roots s.roots) ≡ true) = both_are_true _ _ e in
    let b : (same x.status (plain.Enter t.monitor) ≡ true) × (same_list x.roots s.roots ≡ true) = both_are_true _ _ a.1 in
    record { frames = equal_frames x.frames (put_back t s.frames) a.0; status = equal x.status (plain.Enter t.monitor) b.0; roots = equal_lists x.roots s.roots b.1 }

no_wait_bit : (references words : List ℕ) (t m : ℕ) → has_number references m ≡ false → has_wait_bit references words t m ≡ false
no_wait_bit references words t m e = rw e refl

pub thread_agrees : (p : Program) (references words : List ℕ) (t : ℕ) (s : Thread) (a : Option Attempt) (x : PlainThread) → thread_fits p (has_wait_bit references words t) references s a x ≡ true
    → ThreadFits p (has_wait_bit references words t) s a x
thread_agrees p references words t s a x e = fits p (has_wait_bit references words t) references s a x (no_wait_bit references words t) e
