-- An event of a thread in no attempt counts what its plain steps do, and prints the same.
use Rattle.std.proofs.Common.{◌≡◌, ℕ, ◌+◌, nat_lt, Bool, true, false, cond, List, [], ◌∷◌, ◌++◌, Option, Some, None, refl, sym, ap, ◌∙◌, subst, arith, ◌==◌, if◌then◌else◌, option_map, option_and_then, slice_get}
use Rattle.std.specs.List.{AllByRecursion}
use Rattle.jvm_types.specs.declared.{outcome.{End.End, Print.Print, Thrown.Thrown}, program.Program.Program}
use Rattle.machine_types.specs.{Agreement.{StatusFits, frames_shown, depth_for, depth_of, has_wait_bit}, Counting.{is_free, one_if, run_at, take_at, count_along, extra_of}}
use Rattle.machine_types.specs.{Events.{moved, element_made}, Frames.{Top, top_of, effect_at, went_on}, Going.{with_phase, goes_on_if, goes_on, failed_turn, runs}}
use Rattle.machine_types.specs.{HeldMonitors.{held_at, depth_at, with_held, deeper, shallower, without_held}, History.{acts_of, steps_of, act_if, notified_by, release_acts, leave_acts}}
use Rattle.machine_types.specs.{Instructions.{has_print_left, printed}, Ints.{low, int_of}, LockWords.word_of_lock, Monitors.{takes, claim_by, Claim, Has, Tries, HasNot, claim}}
use Rattle.machine_types.specs.{Onward.{Running, threw, Onward}, Owners.references_of, PlainInstructions.plain_instructed, PlainState.{Plain, PlainThread, Status, Holding, holding_at}}
use Rattle.machine_types.specs.{PlainSteps.{plain_run, plain_step, plain_entered, step_at, step_of}, Threads.{Frame, Thread, Attempt}, Words.value_word, declared.effect.Effect.Effect}
use Rattle.machine_types.specs.declared.{effect.Effect.TheVariants.{Indexes, Makes, Prints, Waits, Notifies, NotifiesAll, Stuck}, lock.{Held.Held, Kept.Kept}, phase.Phase.Phase, plain.Act.Act}
use Rattle.machine_types.specs.declared.plain.PlainStep.{PlainStep}
use Rattle.laws_threads.specs.TopFrames.{IsAllowed}
use Rattle.laws_threads.proofs.ThreadMove.{Looks, Lacks, GoesBy, LeadsTo, TurnsTo, Takes, Refuses, IsByDone, IsNotify, Asks, WaitsFrom, Move, becomes, begun_attempt, counting, begun_by, counted_move, gives_up_in, tried_attempt}
use Rattle.laws_simulation.proofs.{CalmEvents.{IsCalm, Calm, no_extra, failed, goes, goes_if, changed, ran}, OwnThread.own}
use Rattle.laws_simulation.proofs.{PlainCounts.{none_along, first_along, NeverCount, is_do, is_enter, not_run, not_taken, did_run, did_throw, did_enter}, Turns.Turn}
use Rattle.jvm_types.specs.declared.outcome.End.TheVariants as ends
use Rattle.machine_types.specs.History as history
use Rattle.machine_types.specs.PlainState as plain
use Rattle.machine_types.specs.declared.lock.Kept.TheVariants as keeps
use Rattle.machine_types.specs.declared.lock.LockWord.TheVariants as locks
use Rattle.machine_types.specs.declared.phase.Phase.TheVariants as phases
use Rattle.machine_types.specs.declared.plain.Act.TheVariants as acts
use Rattle.machine_types.specs.declared.phase.Toward.TheVariants as towards
use Rattle.laws_threads.proofs.ThreadMove as moves

-- ---- acts that count in no state

abbrev pub AreQuiet : List Act → Type 0
AreQuiet acts = AllByRecursion (λ act. (is_do act ≡ false) × (is_enter act ≡ false)) acts

quiet_runs : (t : ℕ) (acts : List Act) → AreQuiet acts → NeverCount (run_at t) t acts
quiet_runs t [] k = tt
quiet_runs t (act ∷ acts) k = (λ q. not_run t q act k.0.0, quiet_runs t acts k.1)

quiet_takes : (t : ℕ) (acts : List Act) → AreQuiet acts → NeverCount (take_at t) t acts
quiet_takes t [] k = tt
quiet_takes t (act ∷ acts) k = (λ q. not_taken t q act k.0.1, quiet_takes t acts k.1)

quiet_if : (b : Bool) (act : Act) → is_do act ≡ false → is_enter act ≡ false → AreQuiet (act_if b act)
quiet_if true act d e = ((d, e), tt)
quiet_if false act d e = tt

-- ---- the first step of a run

pub record FirstStep (p : Program) (q after : Plain) (step : PlainStep) (steps : List PlainStep) : Type 0 where
  pub to : Plain
  pub first : plain_step p q step ≡ Some to
  pub rest : plain_run p to steps ≡ Some after

pub first_step : (p : Program) (q after : Plain) (step : PlainStep) (steps : List PlainStep) → plain_run p q (step ∷ steps) ≡ Some after → FirstStep p q after step steps
first_step p q after step steps e = (elim (plain_step p q step) as (λ (o : Option Plain). plain_step p q step ≡ o → option_and_then (λ r. plain_run p r steps) o ≡ Some after → FirstStep p q after step steps)
    [ None ↦ λ f g. absurd (cc) | Some r ↦ λ f g. record { to = r; first = f; rest = g } ]) refl e

-- a thread x makes its act in its status
pub first_by : (p : Program) (q after : Plain) (t : ℕ) (x : PlainThread) (act : Act) (status : Status) (more : List Act) → slice_get q.threads t ≡ Some x → x.status ≡ status → plain_run p q (steps_of t (act ∷ more)) ≡ Some after
    → (r : Plain) × (step_at p q t x act status ≡ Some r) × (plain_run p r (steps_of t more) ≡ Some after)
first_by p q after t x act status more e s run =
    let f = first_step p q after (record { thread = t; act = act }) (steps_of t more) run in
    (f.to, sym (ap (step_of p q t act) e ∙ ap (step_at p q t x act) s) ∙ f.first, f.rest)

-- ---- what an event counts

-- what an event prints
abbrev pub effect_print : Thread → Effect → (got : ℕ) → Option Print
effect_print s (Prints n) got = if has_print_left s then Some (record { ticket = got; value = int_of n }) else None
effect_print s e got = None

abbrev pub top_print : Program → Thread → Option Top → (got : ℕ) → Option Print
top_print p s None got = None
top_print p s (Some at) got = effect_print s (effect_at p at) got

abbrev pub new_print : Program → Thread → Phase → (got : ℕ) → Option Print
new_print p s phases.Run got = top_print p s (top_of p s.frames) got
new_print p s phase got = None

abbrev pub with_print : List Print → Option Print → List Print
with_print ps None = ps
with_print ps (Some p) = ps ++ p ∷ []

-- extra: an instruction was begun that has no step yet
pub record Tallied (extra : ℕ) (s x : Thread) (runs takes : ℕ) (print : Option Print) : Type 0 where
  pub prints : x.prints ≡ with_print s.prints print
  pub instructions : x.counts.instructions + extra ≡ s.counts.instructions + runs + extra_of x.attempt x.phase
  pub sections : x.counts.elided + x.counts.locked ≡ s.counts.elided + s.counts.locked + takes

-- n: the instructions that it has begun then
calmly : (extra n : ℕ) (s x : Thread) (runs takes : ℕ) → Calm (counting n s) x → n + extra ≡ s.counts.instructions + runs → takes ≡ 0 → Tallied extra s x runs takes None
calmly extra n s x runs takes h r k =
    let i : x.counts.instructions ≡ n = h.instructions in
    let sections : x.counts.elided + x.counts.locked ≡ s.counts.elided + s.counts.locked = h.sections in
    let e = no_extra x.attempt x.phase h.phase in
    record { prints = h.prints; instructions = omega (arith, i, e, r); sections = omega (arith, sections, k) }

-- a monitor that a thread takes is free, and one that it enters again is not
free_by : (p : Program) (q r : Plain) (t m : ℕ) (x : PlainThread) (o : Option Holding) → depth_for t o ≡ None → plain_entered q t m x o ≡ Some r → is_free o ≡ true
free_by p q r t m x None d e = refl
free_by p q r t m x (Some h) d e = (elim (h.holder == t) as (λ (b : Bool). (next : Plain) → cond b (Some h.depth) None ≡ None → cond b (Some next) None ≡ Some r → false ≡ true)
    [ true ↦ λ next f g. absurd (cc) | false ↦ λ next f g. absurd (cc) ]) _ d e

not_free : (t depth : ℕ) (o : Option Holding) → depth_for t o ≡ Some depth → is_free o ≡ false
not_free t depth None d = absurd (cc)
not_free t depth (Some h) d = refl

-- the lock that is being taken is not held
abbrev pub TakesNew : Phase → List Held → Type 0
TakesNew (phases.Take m count) held = held_at held m ≡ None
TakesNew (phases.TakeFat m r) held = held_at held m ≡ None
TakesNew phase held = Unit {0}

-- the instruction that is begun does something
abbrev pub IsAllowedAt : Program → Phase → List Frame → Type 0
IsAllowedAt p phases.Run frames = (at : Top) → top_of p frames ≡ Some at → IsAllowed p at (effect_at p at)
IsAllowedAt p phase frames = Unit {0}

-- ---- phases whose acts count nothing

abbrev pub CountsNone : Phase → Type 0
CountsNone phases.Run = ⊥
CountsNone (phases.Element word stored) = ⊥
CountsNone (phases.Throw r class) = ⊥
CountsNone (phases.Enter m number) = ⊥
CountsNone (phases.Take m count) = ⊥
CountsNone (phases.TakeFat m r) = ⊥
CountsNone (phases.Ending e) = ⊥
CountsNone (phases.Ended e) = ⊥
CountsNone phase = Unit {0}

begins_none : (phase : Phase) (o : Option Top) → CountsNone phase → begun_by phase o ≡ 0
begins_none phases.Run o k = absurd k
begins_none phase o k = refl

none_is_calm : (phase : Phase) → CountsNone phase → IsCalm phase
none_is_calm (phases.Element word stored) k = absurd k
none_is_calm phase k = first_of (assumption, grind arith)

-- s is the thread, and x its plain one
module _ (turn : Turn) (after : Plain) (got : ℕ) where
  open turn use {c, q, t, x as s}
  open own turn use {plain as x, here as there}

  abbrev bit : ℕ → Bool
  bit = has_wait_bit (references_of q.objects) turn.s.words t

  monitors : (m : ℕ) → depth_for t (holding_at q.holdings m) ≡ depth_at s.held m
  monitors m = turn.beside.agrees.monitors t m ∙ ap (λ (o : Option Thread). depth_of o m) turn.here

  abbrev runs_of : List Act → ℕ
  runs_of acts = count_along c.program (run_at t) (steps_of t acts) q

  abbrev takes_of : List Act → ℕ
  takes_of acts = count_along c.program (take_at t) (steps_of t acts) q

  abbrev at_phase : Phase → Thread
  at_phase phase = record s { attempt = None; phase = phase }

  -- what the event of a phase makes of a thread, with the acts of that event
  abbrev Tells : Phase → Thread → Type 0
  Tells phase y = Tallied (extra_of None phase) (at_phase phase) y (runs_of (acts_of c (at_phase phase) phase got)) (takes_of (acts_of c (at_phase phase) phase got)) (new_print c.program (at_phase phase) phase got)

  prints_none : (phase : Phase) → CountsNone phase → new_print c.program (at_phase phase) phase got ≡ None
  prints_none phases.Run k = absurd k
  prints_none phase k = refl

  -- ---- acts that count nothing

  quiet_release : (y : Thread) (k : Kept) → AreQuiet (release_acts y k got)
  quiet_release y (keeps.Flat count) = quiet_if (got == word_of_lock (locks.Held y.number)) acts.Exit refl refl
  quiet_release y (keeps.Fat r) = ((refl, refl), tt)

  quiet_leave : (y : Thread) (k : Claim) → AreQuiet (leave_acts y k got)
  quiet_leave y (Has h) = elim (nat_lt 1 h.depth) as (λ (b : Bool). AreQuiet (if b then acts.Exit ∷ [] else release_acts y h.kept got)) [ true ↦ ((refl, refl), tt) | false ↦ quiet_release y h.kept ]
  quiet_leave y (Tries a) = quiet_if (nat_lt 0 a.inner) acts.Exit refl refl
  quiet_leave y HasNot = tt

  pub quiet_acts : (phase : Phase) → CountsNone phase → (y : Thread) → AreQuiet (acts_of c y phase got)
  quiet_acts phases.Start k y = ((refl, refl), tt)
  quiet_acts (phases.Leave m a) k y = quiet_leave y (claim y m)
  quiet_acts (phases.FlatOut m a) k y = ((refl, refl), tt)
  quiet_acts (phases.WaitOut m r) k y = ((refl, refl), tt)
  quiet_acts (phases.Retake m r depth) k y = quiet_if (got == 0) acts.Retake refl refl
  quiet_acts (phases.NotifyLook m r) k y = quiet_if (got == 0) (acts.Notify None) refl refl
  quiet_acts (phases.NotifyOne m r u) k y = ((refl, refl), tt)
  quiet_acts (phases.NotifyAll m r) k y = ((refl, refl), tt)
  quiet_acts phase k y = first_of (assumption, grind arith)

  -- ---- what a step counts

  did_one : (more : List Act) → x.status ≡ plain.Run → AreQuiet more → (runs_of (acts.Do ∷ more) ≡ 1) × (takes_of (acts.Do ∷ more) ≡ 0)
  did_one more status k = (
    first_along c.program (run_at t) t acts.Do more q (quiet_runs t more k) ∙ did_run t q x there status,
    first_along c.program (take_at t) t acts.Do more q (quiet_takes t more k) ∙ not_taken t q acts.Do refl,
  )

  enters_at : (m : ℕ) → x.status ≡ plain.Enter m → (runs_of (acts.Enter ∷ []) ≡ 0) × (takes_of (acts.Enter ∷ []) ≡ one_if (is_free (holding_at q.holdings m)))
  enters_at m status = (
    first_along c.program (run_at t) t acts.Enter [] q tt ∙ not_run t q acts.Enter refl,
    first_along c.program (take_at t) t acts.Enter [] q tt ∙ did_enter t m q x there status,
  )

  -- ---- an instruction does what it asks for, which nothing is printed by

  does_one : (e : Effect) → IsByDone e → (at : Top) → IsAllowed c.program at e → (y : Thread) → history.instruction_acts y e got ≡ acts.Do ∷ []
  does_one (Indexes array index stored) silent at a y = absurd silent
  does_one (Prints v) silent at a y = absurd silent
  does_one (Notifies m) silent at a y = absurd silent
  does_one (NotifiesAll m) silent at a y = absurd silent
  does_one Stuck silent at a y = absurd a
  does_one e silent at a y = refl

  prints_not : (e : Effect) → IsByDone e → (y : Thread) → effect_print y e got ≡ None
  prints_not (Prints v) silent y = absurd silent
  prints_not e silent y = refl

  -- a notification: the lock is flat, fat, or not held
  pub record Notes (held : Option Held) (act : Act) : Type 0 where
    pub more : List Act
    pub is : history.notify_acts held act ≡ acts.Do ∷ more
    pub quiet : AreQuiet more

  pub notes : (held : Option Held) (act : Act) → is_do act ≡ false → is_enter act ≡ false → Notes held act
  notes None act d e = record { more = []; is = refl; quiet = tt }
  notes (Some h) act d e = (elim h.kept as (λ (k : Kept). h.kept ≡ k → Notes (Some h) act) [
    | keeps.Flat count ↦ λ l. record { more = act ∷ []; is = ap (λ (k : Kept). notified_by k act) l; quiet = ((d, e), tt) }
    | keeps.Fat r ↦ λ l. record { more = []; is = ap (λ (k : Kept). notified_by k act) l; quiet = tt }
  ]) refl

  -- ---- the moves of a thread that has begun n instructions then

  module _ (n : ℕ) where
    abbrev now : Phase → Thread
    now phase = counting n (at_phase phase)

    same_extra : (e : End) → extra_of None (phases.Ending e) ≡ extra_of None (phases.Ended e)
    same_extra ends.Prints = refl
    same_extra e = refl

    -- it begins no instruction, and its acts count nothing
    quietly : (phase : Phase) (y : Thread) → CountsNone phase → Calm (now phase) y → s.counts.instructions + begun_by phase (top_of c.program s.frames) ≡ n → Tells phase y
    quietly phase y k h e =
        let quiet = quiet_acts phase k (at_phase phase) in
        let runs : runs_of (acts_of c (at_phase phase) phase got) ≡ 0 = none_along c.program (run_at t) t (acts_of c (at_phase phase) phase got) q (quiet_runs t (acts_of c (at_phase phase) phase got) quiet) in
        let takes : takes_of (acts_of c (at_phase phase) phase got) ≡ 0 = none_along c.program (take_at t) t (acts_of c (at_phase phase) phase got) q (quiet_takes t (acts_of c (at_phase phase) phase got) quiet) in
        let begins = begins_none phase (top_of c.program s.frames) k in
        let extra = no_extra None phase (none_is_calm phase k) in
        subst (Tallied (extra_of None phase) (at_phase phase) y (runs_of (acts_of c (at_phase phase) phase got)) (takes_of (acts_of c (at_phase phase) phase got))) (sym (prints_none phase k))
        (calmly (extra_of None phase) n (at_phase phase) y (runs_of (acts_of c (at_phase phase) phase got)) (takes_of (acts_of c (at_phase phase) phase got)) h (omega (arith, e, runs, begins, extra)) takes)

    -- with no act
    no_act : (phase : Phase) (y : Thread) → Calm (now phase) y → s.counts.instructions + 0 ≡ n → Tallied 0 (at_phase phase) y 0 0 None
    no_act phase y h e = calmly 0 n (at_phase phase) y 0 0 h (omega (arith, e)) refl

    -- ---- an instruction

    begins : (at : Top) → top_of c.program s.frames ≡ Some at → s.counts.instructions + begun_by phases.Run (top_of c.program s.frames) ≡ n → s.counts.instructions + 1 ≡ n
    begins at found e = subst (λ (o : Option Top). s.counts.instructions + begun_by phases.Run o ≡ n) found e

    runs_as : (at : Top) (e : Effect) → top_of c.program s.frames ≡ Some at → effect_at c.program at ≡ e → (more : List Act) (print : Option Print) → history.instruction_acts (at_phase phases.Run) e got ≡ more → effect_print (at_phase phases.Run) e got ≡ print → (y : Thread)
        → Tallied 0 (at_phase phases.Run) y (runs_of more) (takes_of more) print → Tells phases.Run y
    runs_as at e found same more print acts_are print_is y h =
        let f : acts_of c (at_phase phases.Run) phases.Run got ≡ more = ap (λ (o : Option Top). history.run_acts c (at_phase phases.Run) o got) found ∙ ap (λ (e : Effect). history.instruction_acts (at_phase phases.Run) e got) same ∙ acts_are in
        let g : new_print c.program (at_phase phases.Run) phases.Run got ≡ print = ap (λ (o : Option Top). top_print c.program (at_phase phases.Run) o got) found ∙ ap (λ (e : Effect). effect_print (at_phase phases.Run) e got) same ∙ print_is in
        subst (λ (all : List Act). Tallied 0 (at_phase phases.Run) y (runs_of all) (takes_of all) (new_print c.program (at_phase phases.Run) phases.Run got)) (sym f)
        (subst (Tallied 0 (at_phase phases.Run) y (runs_of more) (takes_of more)) (sym g) h)

    -- it does one step, and others that count nothing
    one_more : (at : Top) (e : Effect) → top_of c.program s.frames ≡ Some at → effect_at c.program at ≡ e → (more : List Act) → history.instruction_acts (at_phase phases.Run) e got ≡ acts.Do ∷ more → AreQuiet more → effect_print (at_phase phases.Run) e got ≡ None
        → x.status ≡ plain.Run → s.counts.instructions + begun_by phases.Run (top_of c.program s.frames) ≡ n → (y : Thread) → Calm (now phases.Run) y → Tells phases.Run y
    one_more at e found same more acts_are quiet print_is status count y h =
        let d = did_one more status quiet in
        let runs : runs_of (acts.Do ∷ more) ≡ 1 = d.0 in
        let one = begins at found count in
        runs_as at e found same (acts.Do ∷ more) None acts_are print_is y (calmly 0 n (at_phase phases.Run) y (runs_of (acts.Do ∷ more)) (takes_of (acts.Do ∷ more)) h (omega (arith, runs, one)) d.1)

    notes_one : (m : ℕ) (at : Top) → top_of c.program s.frames ≡ Some at → IsNotify c.program at m → x.status ≡ plain.Run → s.counts.instructions + begun_by phases.Run (top_of c.program s.frames) ≡ n → (y : Thread) → Calm (now phases.Run) y → Tells phases.Run y
    notes_one m at found (moves.of_one same) status count y h = let k = notes (held_at s.held m) (acts.Notify None) refl refl in one_more at (Notifies m) found same k.more k.is k.quiet refl status count y h
    notes_one m at found (moves.of_all same) status count y h = let k = notes (held_at s.held m) acts.NotifyAll refl refl in one_more at (NotifiesAll m) found same k.more k.is k.quiet refl status count y h

    refuses : (at : Top) (class : Thrown) → top_of c.program s.frames ≡ Some at → Refuses c.program got at class → x.status ≡ plain.Run → s.counts.instructions + begun_by phases.Run (top_of c.program s.frames) ≡ n → (y : Thread) → Calm (now phases.Run) y → Tells phases.Run y
    refuses at _ found (moves.past_end array index stored same past) status count y h = one_more at (Indexes array index stored) found same [] (ap (λ (b : Bool). if b then [] else acts.Do ∷ []) past) tt refl status count y h
    refuses at _ found (moves.no_memory word size same) status count y h = one_more at (Makes word size) found same [] refl tt refl status count y h
    refuses at _ found (moves.waits_unheld m same) status count y h = one_more at (Waits m) found same [] refl tt refl status count y h
    refuses at _ found (moves.notifies_unheld m k) status count y h = notes_one m at found k status count y h

    -- ---- an element

    element : (word : ℕ) (stored : Option ℕ) (y : Thread) → x.status ≡ plain.Run → s.counts.instructions + 0 ≡ n → Calm (now (phases.Element word stored)) y → Tells (phases.Element word stored) y
    element word stored y status e h =
        let d = did_one [] status tt in
        let runs : runs_of (acts.Do ∷ []) ≡ 1 = d.0 in
        calmly 1 n (at_phase (phases.Element word stored)) y (runs_of (acts.Do ∷ [])) (takes_of (acts.Do ∷ [])) h (omega (arith, e, runs)) d.1

    no_element : top_of c.program s.frames ≡ None → x.frames ≡ s.frames → (r : Plain) → plain_instructed c.program q t x (top_of c.program x.frames) ≡ Some r → ⊥
    no_element none frames r e = let bad : plain_instructed c.program q t x None ≡ Some r = subst (λ (o : Option Top). plain_instructed c.program q t x o ≡ Some r) (ap (top_of c.program) frames ∙ none) e in cc

    -- ---- an exception

    throws : (v : ℕ) (class : Thrown) (y : Thread) → x.status ≡ plain.Throw v class → s.counts.instructions + 0 ≡ n → Calm (now (phases.Throw v class)) y → Tells (phases.Throw v class) y
    throws v class y status e h =
        let runs : runs_of (acts.Do ∷ []) ≡ 0 = first_along c.program (run_at t) t acts.Do [] q tt ∙ did_throw t q x v class there status in
        calmly 0 n (at_phase (phases.Throw v class)) y (runs_of (acts.Do ∷ [])) (takes_of (acts.Do ∷ [])) h (omega (arith, e, runs)) (first_along c.program (take_at t) t acts.Do [] q tt ∙ not_taken t q acts.Do refl)

    -- ---- an entry

    -- of a monitor that it has not entered yet
    looks_on : (m number : ℕ) (y : Thread) → claim (at_phase (phases.Enter m number)) m ≡ HasNot → s.counts.instructions + 0 ≡ n → Calm (now (phases.Enter m number)) y → Tells (phases.Enter m number) y
    looks_on m number y free e h = subst (λ (all : List Act). Tallied 0 (at_phase (phases.Enter m number)) y (runs_of all) (takes_of all) None) (sym (ap history.enter_acts free)) (no_act (phases.Enter m number) y h e)

    looks : (m : ℕ) (phase : Phase) (y : Thread) → Looks (now phase) m phase → s.counts.instructions + begun_by phase (top_of c.program s.frames) ≡ n → Calm (now phase) y → Tells phase y
    looks m _ y (moves.entering number free) e h = looks_on m number y free e h
    looks m _ y moves.acquiring e h = quietly (phases.Acquire m) y tt h e

    again : (m number : ℕ) (h : Held) → held_at s.held m ≡ Some h → x.status ≡ plain.Enter m → s.counts.instructions + 0 ≡ n → Tells (phases.Enter m number) (runs (record (now (phases.Enter m number)) { held = with_held (deeper h) s.held }))
    again m number h l status e =
        let d = enters_at m status in
        let no_runs : runs_of (acts.Enter ∷ []) ≡ 0 = d.0 in
        let held : is_free (holding_at q.holdings m) ≡ false = not_free t h.depth (holding_at q.holdings m) (monitors m ∙ ap (option_map (λ h. h.depth)) l) in
        let y : Thread = record (now (phases.Enter m number)) { held = with_held (deeper h) s.held } in
        let r = ran y in
        subst (λ (all : List Act). Tallied 0 (at_phase (phases.Enter m number)) (runs y) (runs_of all) (takes_of all) None) (sym (ap (λ (o : Option Held). history.enter_acts (claim_by m o None)) l))
        (calmly 0 n (at_phase (phases.Enter m number)) (runs y) (runs_of (acts.Enter ∷ [])) (takes_of (acts.Enter ∷ [])) (record { instructions = refl; sections = refl; prints = refl; phase = r.phase }) (omega (arith, e, no_runs)) (d.1 ∙ ap one_if held))

    -- it takes the lock
    took : (phase : Phase) (m : ℕ) (kept : Kept) → extra_of None phase ≡ 0 → held_at s.held m ≡ None → x.status ≡ plain.Enter m → s.counts.instructions + 0 ≡ n → plain_run c.program q (steps_of t (acts.Enter ∷ [])) ≡ Some after
        → Tallied (extra_of None phase) (at_phase phase) (takes (now phase) m kept) (runs_of (acts.Enter ∷ [])) (takes_of (acts.Enter ∷ [])) None
    took phase m kept none_more none status e run =
        let d = enters_at m status in
        let step = first_by c.program q after t x acts.Enter (plain.Enter m) [] there status run in
        let free : is_free (holding_at q.holdings m) ≡ true = free_by c.program q step.0 t m x (holding_at q.holdings m) (monitors m ∙ ap (option_map (λ h. h.depth)) none) step.1 in
        let r = ran (record (now phase) { held = with_held (record { monitor = m; kept = kept; depth = 1 }) s.held; counts = record (now phase).counts { locked = s.counts.locked + 1 } }) in
        let extra = no_extra None _ r.phase in
        let one : takes_of (acts.Enter ∷ []) ≡ 1 = d.1 ∙ ap one_if free in
        let runs : runs_of (acts.Enter ∷ []) ≡ 0 = d.0 in
        record { prints = refl; instructions = omega (arith, extra, runs, e, none_more); sections = omega (arith, one) }

    takes_one : (m : ℕ) (kept : Kept) (phase : Phase) → Takes got m phase kept → StatusFits bit (at_phase phase) phase x.status → TakesNew phase s.held → s.counts.instructions + begun_by phase (top_of c.program s.frames) ≡ n
        → plain_run c.program q (steps_of t (acts_of c (at_phase phase) phase got)) ≡ Some after → Tells phase (takes (now phase) m kept)
    takes_one m _ _ (moves.a_flat count l) status none e run =
        let acts_are : act_if (got == word_of_lock (locks.Free count)) acts.Enter ≡ acts.Enter ∷ [] = ap (λ (b : Bool). act_if b acts.Enter) l in
        subst (λ (all : List Act). Tallied 0 (at_phase (phases.Take m count)) (takes (now (phases.Take m count)) m (keeps.Flat count)) (runs_of all) (takes_of all) None) (sym acts_are)
        (took (phases.Take m count) m (keeps.Flat count) refl none status e (subst (λ (all : List Act). plain_run c.program q (steps_of t all) ≡ Some after) acts_are run))
    takes_one m _ _ (moves.a_fat r l) status none e run =
        let acts_are : act_if (got == 0) acts.Enter ≡ acts.Enter ∷ [] = ap (λ (b : Bool). act_if b acts.Enter) l in
        subst (λ (all : List Act). Tallied 0 (at_phase (phases.TakeFat m r)) (takes (now (phases.TakeFat m r)) m (keeps.Fat r)) (runs_of all) (takes_of all) None) (sym acts_are)
        (took (phases.TakeFat m r) m (keeps.Fat r) refl none status e (subst (λ (all : List Act). plain_run c.program q (steps_of t all) ≡ Some after) acts_are run))

    -- ---- all moves

    -- what is known of the phase that the thread was in
    record Knows (phase : Phase) : Type 0 where
      status : StatusFits bit (at_phase phase) phase x.status
      frames : x.frames ≡ frames_shown phase s.frames
      allowed : IsAllowedAt c.program phase s.frames
      takes : TakesNew phase s.held
      run : plain_run c.program q (steps_of t (acts_of c (at_phase phase) phase got)) ≡ Some after
      count : s.counts.instructions + begun_by phase (top_of c.program s.frames) ≡ n

    by_done : (at : Top) (e : Effect) → top_of c.program s.frames ≡ Some at → effect_at c.program at ≡ e → IsByDone e → Knows phases.Run → (y : Thread) → Calm (now phases.Run) y → Tells phases.Run y
    by_done at e found same silent k y h = one_more at e found same [] (does_one e silent at (subst (IsAllowed c.program at) same (k.allowed at found)) (at_phase phases.Run)) tt (prints_not e silent (at_phase phases.Run)) k.status k.count y h

    stays_tells : (phase : Phase) → Lacks c (now phase) got phase → Knows phase → Tells phase (now phase)
    stays_tells _ (moves.over e) k = let count : s.counts.instructions + 0 ≡ n = k.count in record { prints = refl; instructions = omega (arith, count); sections = omega arith }
    stays_tells _ (moves.no_instruction none) k =
        subst (λ (o : Option Top). s.counts.instructions + begun_by phases.Run o ≡ n → Tallied 0 (at_phase phases.Run) (now phases.Run) (runs_of (history.run_acts c (at_phase phases.Run) o got)) (takes_of (history.run_acts c (at_phase phases.Run) o got)) (top_print c.program (at_phase phases.Run) o got)) (sym none)
        (λ e. no_act phases.Run (now phases.Run) (changed (now phases.Run) phases.Run tt) e) k.count
    stays_tells _ (moves.no_way at e found same silent d) k = by_done at e found same silent k (now phases.Run) (changed (now phases.Run) phases.Run tt)
    stays_tells _ (moves.no_place word stored none) k =
        let step = first_by c.program q after t x acts.Do plain.Run [] there k.status k.run in absurd (no_element none k.frames step.0 step.1)
    stays_tells _ (moves.no_catcher v class none) k = throws v class (now (phases.Throw v class)) k.status k.count (changed (now (phases.Throw v class)) (phases.Throw v class) tt)
    stays_tells phase l k = quietly phase (now phase) tt (changed (now phase) phase tt) k.count

    goes_tells : (phase : Phase) (o : Onward) → GoesBy c.program (now phase) got phase o → Knows phase → Tells phase (goes_on (now phase) o)
    goes_tells _ o (moves.by_effect at e _ found same silent d) k = by_done at e found same silent k (goes_on (now phases.Run) o) (goes (now phases.Run) o)
    goes_tells _ _ (moves.by_machine at class found why) k = refuses at class found why k.status k.count (goes_on (now phases.Run) (threw class at)) (goes (now phases.Run) (threw class at))
    goes_tells _ _ (moves.by_nobody at m count h found y l kept) k = notes_one m at found y k.status k.count (goes_on (now phases.Run) (Running (went_on c.program at 0))) (goes (now phases.Run) (Running (went_on c.program at 0)))
    goes_tells _ _ (moves.by_element word stored at found) k = element word stored (goes_on (now (phases.Element word stored)) (Running (went_on c.program at (element_made stored got)))) k.status k.count (goes (now (phases.Element word stored)) (Running (went_on c.program at (element_made stored got))))
    goes_tells _ o (moves.by_handler v class at found) k = throws v class (goes_on (now (phases.Throw v class)) o) k.status k.count (goes (now (phases.Throw v class)) o)
    goes_tells phase o l k = quietly phase (goes_on (now phase) o) tt (goes (now phase) o) k.count

    leads_tells : (phase next : Phase) → LeadsTo c.program (now phase) got phase next → Knows phase → Tells phase (with_phase (now phase) next)
    leads_tells _ _ (moves.to_acquire m number free) k = looks_on m number (with_phase (now (phases.Enter m number)) (phases.Acquire m)) free k.count (changed (now (phases.Enter m number)) (phases.Acquire m) tt)
    leads_tells phase _ (moves.to_take m count look e) k = looks m phase (with_phase (now phase) (phases.Take m count)) look k.count (changed (now phase) (phases.Take m count) tt)
    leads_tells phase _ (moves.to_take_fat m r look e) k = looks m phase (with_phase (now phase) (phases.TakeFat m r)) look k.count (changed (now phase) (phases.TakeFat m r) tt)
    leads_tells _ _ (moves.to_end e) k = let same = same_extra e in let count : s.counts.instructions + 0 ≡ n = k.count in record { prints = refl; instructions = omega (arith, same, count); sections = omega arith }
    -- an element that is there is read or stored later
    leads_tells _ _ (moves.to_element at array index stored found same there) k =
        let one = begins at found k.count in
        runs_as at (Indexes array index stored) found same [] None (ap (λ (b : Bool). if b then [] else acts.Do ∷ []) there) refl (with_phase (now phases.Run) (phases.Element (value_word array (low index)) stored))
        (record { prints = refl; instructions = omega (arith, one); sections = omega arith })
    -- a print beyond the limit never comes
    leads_tells _ _ (moves.to_no_print at v found same none) k =
        let one = begins at found k.count in
        runs_as at (Prints v) found same [] None (ap (λ (b : Bool). act_if b acts.Do) none) (ap (λ (b : Bool). if b then Some (record { ticket = got; value = int_of v }) else None) none) (with_phase (now phases.Run) (phases.Ending ends.Prints))
        (record { prints = refl; instructions = omega (arith, one); sections = omega arith })
    leads_tells phase next l k = quietly phase (with_phase (now phase) next) tt (changed (now phase) next tt) k.count

    turns_tells : (phase next : Phase) → TurnsTo (now phase) got phase next → Knows phase → Tells phase (failed_turn (now phase) next)
    turns_tells phase _ (moves.looks_again m look) k = looks m phase (failed_turn (now phase) (phases.Acquire m)) look k.count (failed (now phase) (phases.Acquire m) tt)
    turns_tells phase _ (moves.flags m u look e) k = looks m phase (failed_turn (now phase) (phases.Flag m u)) look k.count (failed (now phase) (phases.Flag m u) tt)
    turns_tells _ _ (moves.takes_not m count e) k = subst (λ (b : Bool). Tallied 0 (at_phase (phases.Take m count)) (failed_turn (now (phases.Take m count)) (phases.Acquire m)) (runs_of (act_if b acts.Enter)) (takes_of (act_if b acts.Enter)) None) (sym e)
        (no_act (phases.Take m count) (failed_turn (now (phases.Take m count)) (phases.Acquire m)) (failed (now (phases.Take m count)) (phases.Acquire m) tt) k.count)
    turns_tells _ _ (moves.takes_not_fat m r e) k = subst (λ (b : Bool). Tallied 0 (at_phase (phases.TakeFat m r)) (failed_turn (now (phases.TakeFat m r)) (phases.TakeFat m r)) (runs_of (act_if b acts.Enter)) (takes_of (act_if b acts.Enter)) None) (sym e)
        (no_act (phases.TakeFat m r) (failed_turn (now (phases.TakeFat m r)) (phases.TakeFat m r)) (failed (now (phases.TakeFat m r)) (phases.TakeFat m r) tt) k.count)
    turns_tells phase next l k = quietly phase (failed_turn (now phase) next) tt (failed (now phase) next tt) k.count

    waits_calm : (m : ℕ) (kept : Kept) (next : Phase) → WaitsFrom m kept next → IsCalm next
    waits_calm m _ _ (moves.grows_first count) = tt
    waits_calm m _ _ (moves.waits_fat r) = tt

    asks_calm : (m : ℕ) (kept : Kept) (next : Phase) → Asks m kept next → IsCalm next
    asks_calm m _ _ (moves.looks_who r) = tt
    asks_calm m _ _ (moves.clears_all r) = tt

    -- behind a monitor
    left : (phase : Phase) (y : Thread) → CountsNone phase → y.phase ≡ phase → Calm (now phase) y → (o : Option Onward) → s.counts.instructions + begun_by phase (top_of c.program s.frames) ≡ n → Tells phase (goes_on_if y o)
    left phase y k same h o e =
        let g = goes_if y o (subst IsCalm (sym same) (none_is_calm phase k)) in
        quietly phase (goes_on_if y o) k (record { instructions = g.instructions ∙ h.instructions; sections = g.sections ∙ h.sections; prints = g.prints ∙ h.prints; phase = g.phase }) e

    -- it is in no attempt
    none_in : (m : ℕ) (phase : Phase) (a : Attempt) → claim (now phase) m ≡ Tries a → ⊥
    none_in m phase a e = let bad : None ≡ Some a = tried_attempt m (held_at s.held m) None a e in cc

    move_tells : (phase : Phase) (k : Move c (now phase) got phase) → Knows phase → Tells phase (becomes c (now phase) got phase k)
    move_tells phase (moves.stays l) k = stays_tells phase l k
    move_tells phase (moves.goes o l) k = goes_tells phase o l k
    move_tells phase (moves.fails_in a e d l) k = absurd (let bad : None ≡ Some a = e in cc)
    move_tells phase (moves.leads next l) k = leads_tells phase next l k
    move_tells phase (moves.turns next l) k = turns_tells phase next l k
    move_tells _ (moves.makes at word size found same e) k = one_more at (Makes word size) found same [] refl tt refl k.status k.count _ (record { instructions = refl; sections = refl; prints = refl; phase = tt })
    move_tells _ (moves.prints at v found same e) k =
        let d = did_one [] k.status tt in
        let runs : runs_of (acts.Do ∷ []) ≡ 1 = d.0 in
        let takes : takes_of (acts.Do ∷ []) ≡ 0 = d.1 in
        let one = begins at found k.count in
        let y : Thread = goes_on (printed (now phases.Run) got v) (Running (went_on c.program at 0)) in
        let h = goes (printed (now phases.Run) got v) (Running (went_on c.program at 0)) in
        let i : y.counts.instructions ≡ n = h.instructions in
        let sections : y.counts.elided + y.counts.locked ≡ s.counts.elided + s.counts.locked = h.sections in
        let extra = no_extra y.attempt y.phase h.phase in
        runs_as at (Prints v) found same (acts.Do ∷ []) (Some (record { ticket = got; value = int_of v })) (ap (λ (b : Bool). act_if b acts.Do) e) (ap (λ (b : Bool). if b then Some (record { ticket = got; value = int_of v }) else None) e) y
        (record { prints = h.prints; instructions = omega (arith, i, extra, runs, one); sections = omega (arith, sections, takes) })
    move_tells _ (moves.asks_to_wait at m h next found same e l) k = one_more at (Waits m) found same [] refl tt refl k.status k.count _ (record { instructions = refl; sections = refl; prints = refl; phase = waits_calm m h.kept next l })
    move_tells _ (moves.asks at m h next found y e l) k = notes_one m at found y k.status k.count _ (record { instructions = refl; sections = refl; prints = refl; phase = asks_calm m h.kept next l })
    move_tells _ (moves.enters_again m number h e) k = again m number h e k.status k.count
    move_tells _ (moves.enters_inside m number a e) k = absurd (none_in m (phases.Enter m number) a e)
    move_tells _ (moves.begins_to_try m number noted f below e y l r free) k =
        let g = ran (record (now (phases.Enter m number)) { attempt = Some (begun_attempt m noted number f below) }) in
        looks_on m number _ free k.count (record { instructions = refl; sections = refl; prints = refl; phase = g.phase })
    move_tells phase (moves.takes_lock m kept l) k = takes_one m kept phase l k.status k.takes k.count k.run
    move_tells phase (moves.gives_up m a l) k =
        left phase (record (now phase) { held = without_held m s.held }) (gives_up_in CountsNone (now phase) m a phase l tt tt) refl (record { instructions = refl; sections = refl; prints = refl; phase = none_is_calm phase (gives_up_in CountsNone (now phase) m a phase l tt tt) }) _ k.count
    move_tells _ (moves.leaves_outer m a h e d) k = left (phases.Leave m a) (record (now (phases.Leave m a)) { held = with_held (shallower h) s.held }) tt refl (record { instructions = refl; sections = refl; prints = refl; phase = tt }) _ k.count
    move_tells _ (moves.leaves_inside m a b inner e l) k = absurd (none_in m (phases.Leave m a) b e)
    move_tells _ (moves.finishes_try m a b e l y) k = absurd (none_in m (phases.Leave m a) b e)
    move_tells _ (moves.fattens_lock m r (towards.Leave a) h e) k = quietly (phases.FatIn m r (towards.Leave a)) _ tt (record { instructions = refl; sections = refl; prints = refl; phase = tt }) k.count
    move_tells _ (moves.fattens_lock m r towards.Wait h e) k = quietly (phases.FatIn m r towards.Wait) _ tt (record { instructions = refl; sections = refl; prints = refl; phase = tt }) k.count
    move_tells _ (moves.gives_up_to_wait m r h e) k = quietly (phases.WaitOut m r) _ tt (record { instructions = refl; sections = refl; prints = refl; phase = tt }) k.count
    move_tells _ (moves.retakes_lock m r depth e) k =
        let g = ran (record (now (phases.Retake m r depth)) { held = with_held (record { monitor = m; kept = keeps.Fat r; depth = depth }) s.held }) in
        quietly (phases.Retake m r depth) _ tt (record { instructions = refl; sections = refl; prints = refl; phase = g.phase }) k.count
    move_tells _ (moves.starts number roots e) k = left phases.Start (record (now phases.Start) { roots = roots }) tt refl (record { instructions = refl; sections = refl; prints = refl; phase = tt }) _ k.count

  pub tallied_at : (phase : Phase) → StatusFits bit (at_phase phase) phase x.status → x.frames ≡ frames_shown phase s.frames → IsAllowedAt c.program phase s.frames → TakesNew phase s.held
      → plain_run c.program q (steps_of t (acts_of c (at_phase phase) phase got)) ≡ Some after
      → Tallied (extra_of None phase) (at_phase phase) (moved c (at_phase phase) phase got) (runs_of (acts_of c (at_phase phase) phase got)) (takes_of (acts_of c (at_phase phase) phase got)) (new_print c.program (at_phase phase) phase got)
  tallied_at phase status frames allowed takes run = counted_move (Tells phase) c (at_phase phase) phase got
      (λ n e k. move_tells n phase k (record { status = status; frames = frames; allowed = allowed; takes = takes; run = run; count = e }))
