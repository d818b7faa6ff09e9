-- The steps of the plain machine (JVMS 2.11.10, and JLS 17.1 and 17.2 in the edition of its time),
-- runs of it, and how the parts of a run ended.
use Rattle.std.specs.Prelude.{ℕ, zero, suc, ◌+◌, ◌==◌, Bool, true, false, ◌&&◌, List, [], ◌∷◌, map}
use Rattle.std.specs.Prelude.{drop, Option, Some, None, option_map, option_and_then, slice_get}
use Rattle.std.specs.Prelude.{if◌then◌else◌}
use Rattle.std.specs.List.{list_any, list_all}
use Rattle.jvm_types.specs.declared.outcome.End.{End}
use Rattle.jvm_types.specs.declared.outcome.End.TheVariants as ends
use Rattle.jvm_types.specs.declared.program.Program.{Program}
use Rattle.machine_types.specs.Frames.{top_of}
use Rattle.machine_types.specs.Onward.{After, after, rooted, dispatched}
use Rattle.machine_types.specs.PlainInstructions.{plain_instructed}
use Rattle.machine_types.specs.PlainState.{Plain, PlainThread, Status, Holding, Ready, Run, Throw}
use Rattle.machine_types.specs.PlainState.{Enter, Leave, Wait, Notify, NotifyAll, Waiting, Woken}
use Rattle.machine_types.specs.PlainState.{Ended, holding_at, held_by, let_go, with_thread}
use Rattle.machine_types.specs.PlainState.{with_status, plain_goes_on}
use Rattle.machine_types.specs.Parts.{done_roots, has_returned, has_finished}
use Rattle.machine_types.specs.declared.plain.Act.{Act}
use Rattle.machine_types.specs.declared.plain.Act.TheVariants as acts
use Rattle.machine_types.specs.declared.plain.PlainStep.{PlainStep}

-- ---- Begin: the next root of a part that is due

abbrev pub first_is_return : List End → Bool
first_is_return [] = false
first_is_return (e ∷ es) = has_returned e

abbrev pub init_has_returned : List PlainThread → Bool
init_has_returned [] = false
init_has_returned (x ∷ workers) = first_is_return x.ended

abbrev pub is_over : Status → Bool
is_over (Ended e) = has_finished e
is_over status = false

-- `done`, when `init` has returned and each worker has returned or was ended by an exception
abbrev pub is_done_due : List PlainThread → Bool
is_done_due threads = init_has_returned threads && list_all (λ w. is_over w.status) (drop 1 threads)

-- of thread 0 by the ends of its parts so far
abbrev pub is_due : List PlainThread → (t : ℕ) → (ended : List End) → Bool
is_due threads zero [] = true
is_due threads zero ended = is_done_due threads
is_due threads t ended = init_has_returned threads

abbrev pub plain_begun : Program → (t : ℕ) → PlainThread → (roots : List ℕ) → Option PlainThread
plain_begun p t x [] = None
plain_begun p t x (number ∷ roots) =
    option_map (λ m. plain_goes_on (record x { roots = roots }) (rooted p t number m))
    (slice_get p.methods number)

-- thread 0, when of its parts only `init` has ended
abbrev pub may_do_done : (t : ℕ) → (ended : List End) → Bool
may_do_done zero (ends.Returned ∷ []) = true
may_do_done t ended = false

abbrev pub plain_begins : Program → (t : ℕ) → PlainThread → Status → Option PlainThread
plain_begins p t x Ready = plain_begun p t x x.roots
plain_begins p t x (Ended ends.Returned) =
    if may_do_done t x.ended then plain_begun p t x (done_roots p) else None
plain_begins p t x status = None

-- ---- Enter and Exit

abbrev pub plain_entered : Plain → (t m : ℕ) → PlainThread → Option Holding → Option Plain
plain_entered q t m x None = Some (with_thread (held_by q m t 1) t (with_status x Run))
plain_entered q t m x (Some h) =
    if h.holder == t then Some (with_thread (held_by q m t (h.depth + 1)) t (with_status x Run))
    else None

-- m is free when its one entry is left
abbrev pub left : Plain → (t m depth : ℕ) → Plain
left q t m (suc (suc depth)) = held_by q m t (suc depth)
left q t m depth = let_go q m

abbrev pub exited : Program → Plain → (t m : ℕ) → After → PlainThread → Option Holding
    → Option Plain
exited p q t m a x None = None
exited p q t m a x (Some h) =
    if h.holder == t
    then option_map (λ o. with_thread (left q t m h.depth) t (plain_goes_on x o))
    (after p x.frames a) else None

-- ---- Wait, Notify, NotifyAll and Retake

abbrev pub waited : Plain → (t m : ℕ) → PlainThread → Option Holding → Option Plain
waited q t m x None = None
waited q t m x (Some h) =
    if h.holder == t then Some (with_thread (let_go q m) t (with_status x (Waiting m h.depth)))
    else None

abbrev pub waits_on : (m : ℕ) → Status → Bool
waits_on m (Waiting n depth) = n == m
waits_on m status = false

abbrev pub woken : (m : ℕ) → Status → Status
woken m (Waiting n depth) = if n == m then Woken n depth else Waiting n depth
woken m status = status

abbrev pub wakes : (m : ℕ) → PlainThread → PlainThread
wakes m x = with_status x (woken m x.status)

abbrev pub wakes_one : Plain → (m u : ℕ) → Option PlainThread → Option Plain
wakes_one q m u None = None
wakes_one q m u (Some x) = if waits_on m x.status then Some (with_thread q u (wakes m x)) else None

-- one that waits is woken; none, only where none waits
abbrev pub notified : Plain → (t m : ℕ) → PlainThread → Option ℕ → Option Plain
notified q t m x None =
    if list_any (λ w. waits_on m w.status) q.threads then None
    else Some (with_thread q t (with_status x Run))
notified q t m x (Some u) =
    option_map (λ r. with_thread r t (with_status x Run)) (wakes_one q m u (slice_get q.threads u))

abbrev pub all_notified : Plain → (t m : ℕ) → PlainThread → Plain
all_notified q t m x =
    with_thread (record q { threads = map (wakes m) q.threads }) t (with_status x Run)

-- m is free, and held again at its former depth
abbrev pub retaken : Plain → (t m depth : ℕ) → PlainThread → Option Holding → Option Plain
retaken q t m depth x None = Some (with_thread (held_by q m t depth) t (with_status x Run))
retaken q t m depth x (Some h) = None

-- ---- the step by the act and the thread's status; every other pair is no step

abbrev pub step_at : Program → Plain → (t : ℕ) → PlainThread → Act → Status → Option Plain
step_at p q t x acts.Begin status =
    if is_due q.threads t x.ended then option_map (with_thread q t) (plain_begins p t x status)
    else None
step_at p q t x acts.Do Run = plain_instructed p q t x (top_of p x.frames)
step_at p q t x acts.Do (Throw r class) =
    option_map (λ o. with_thread q t (plain_goes_on x o)) (dispatched p r class x.frames)
step_at p q t x acts.Enter (Enter m) = plain_entered q t m x (holding_at q.holdings m)
step_at p q t x acts.Exit (Leave m a) = exited p q t m a x (holding_at q.holdings m)
step_at p q t x acts.Wait (Wait m) = waited q t m x (holding_at q.holdings m)
step_at p q t x (acts.Notify one) (Notify m) = notified q t m x one
step_at p q t x acts.NotifyAll (NotifyAll m) = Some (all_notified q t m x)
step_at p q t x acts.Retake (Woken m depth) = retaken q t m depth x (holding_at q.holdings m)
step_at p q t x act status = None

abbrev pub step_of : Program → Plain → (t : ℕ) → Act → Option PlainThread → Option Plain
step_of p q t act None = None
step_of p q t act (Some x) = step_at p q t x act x.status

-- None: the machine has no such step
abbrev pub plain_step : Program → Plain → PlainStep → Option Plain
plain_step p q step = step_of p q step.thread step.act (slice_get q.threads step.thread)

-- each step in its turn
abbrev pub plain_run : Program → Plain → List PlainStep → Option Plain
plain_run p q [] = Some q
plain_run p q (step ∷ steps) = option_and_then (λ r. plain_run p r steps) (plain_step p q step)

-- ---- how the parts ended; None: not yet

abbrev pub end_at : (part : ℕ) → Option PlainThread → Option End
end_at part None = None
end_at part (Some x) = slice_get x.ended part

-- of `init` for thread 0, and of a worker
abbrev pub first_end : Plain → (t : ℕ) → Option End
first_end q t = end_at 0 (slice_get q.threads t)

-- where there is no such method, it has returned as soon as it is due
abbrev pub plain_done_end : Program → Plain → Option End
plain_done_end p q = by_roots (done_roots p)
  where
    by_roots : List ℕ → Option End
    by_roots [] = if is_done_due q.threads then Some ends.Returned else None
    by_roots (number ∷ roots) = end_at 1 (slice_get q.threads 0)
