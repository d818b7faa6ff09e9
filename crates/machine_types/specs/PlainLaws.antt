-- Laws of the steps of the plain machine.
use Rattle.std.specs.Prelude.{◌≡◌, ◌≢◌, ◌⊎◌, ℕ, suc, ◌+◌, Bool, true, false, List, [], ◌∷◌, Option}
use Rattle.std.specs.Prelude.{Some, None, slice_get}
use Rattle.jvm_types.specs.declared.outcome.End.TheVariants as ends
use Rattle.jvm_types.specs.declared.outcome.Thrown.{Thrown}
use Rattle.jvm_types.specs.declared.outcome.Thrown.TheVariants.{StackOverflowError}
use Rattle.jvm_types.specs.declared.program.MethodInfo.{MethodInfo}
use Rattle.jvm_types.specs.declared.program.Program.{Program}
use Rattle.jvm_types.specs.declared.program.Row.{Row}
use Rattle.jvm_types.specs.Members.{is_synchronized}
use Rattle.machine_types.specs.Agreement.{depth_for}
use Rattle.machine_types.specs.Frames.{Top, top_of, entry_frame, has_room, handler_at, caught}
use Rattle.machine_types.specs.Frames.{monitor_of}
use Rattle.machine_types.specs.Onward.{Onward, after, root_arguments}
use Rattle.machine_types.specs.declared.phase.After.TheVariants as afters
use Rattle.machine_types.specs.Parts.{done_roots}
use Rattle.machine_types.specs.ReadyObjects.{class_of}
use Rattle.machine_types.specs.PlainState.{Plain, PlainThread, Status, holding_at, plain_goes_on}
use Rattle.machine_types.specs.PlainState.{over}
use Rattle.machine_types.specs.PlainState as plain
use Rattle.machine_types.specs.PlainSteps.{plain_step}
use Rattle.machine_types.specs.Threads.{Frame}
use Rattle.machine_types.specs.declared.phase.After.{After}
use Rattle.machine_types.specs.declared.plain.Act.{Act}
use Rattle.machine_types.specs.declared.plain.Act.TheVariants as acts
use Rattle.machine_types.specs.declared.plain.PlainStep.{PlainStep}

abbrev pub step : (t : ℕ) → Act → PlainStep
step t act = record { thread = t; act = act }

-- ---- an act is a step in no status but those that it is for

abbrev pub is_for : Act → Status → Bool
is_for acts.Begin plain.Ready = true
is_for acts.Begin (plain.Ended ends.Returned) = true
is_for acts.Do plain.Run = true
is_for acts.Do (plain.Throw x class) = true
is_for acts.Enter (plain.Enter m) = true
is_for acts.Exit (plain.Leave m a) = true
is_for acts.Wait (plain.Wait m) = true
is_for (acts.Notify one) (plain.Notify m) = true
is_for acts.NotifyAll (plain.NotifyAll m) = true
is_for acts.Retake (plain.Woken m depth) = true
is_for act status = false

abbrev pub NoOtherStep : Type 0
NoOtherStep =
    (p : Program) (q : Plain) (t : ℕ) (x : PlainThread) (act : Act) → slice_get q.threads t ≡ Some x
    → is_for act x.status ≡ false → plain_step p q (step t act) ≡ None

-- ---- a step of a thread x of number t, from q to r

pub record Steps (p : Program) (q r : Plain) (t : ℕ) (x : PlainThread) (act : Act) : Type 0 where
  pub thread : slice_get q.threads t ≡ Some x
  pub to : plain_step p q (step t act) ≡ Some r

-- ---- monitors exclude: a thread enters or takes back a monitor only where no other one holds it

-- how deep a thread holds a monitor
abbrev pub depth_in : Plain → (t m : ℕ) → Option ℕ
depth_in q t m = depth_for t (holding_at q.holdings m)

abbrev pub EntersAlone : Type 0
EntersAlone =
    (p : Program) (q r : Plain) (t u m : ℕ) (x : PlainThread) → Steps p q r t x acts.Enter
    → x.status ≡ plain.Enter m → u ≢ t → depth_in q u m ≡ None

abbrev pub RetakesAlone : Type 0
RetakesAlone =
    (p : Program) (q r : Plain) (t u m depth : ℕ) (x : PlainThread) → Steps p q r t x acts.Retake
    → x.status ≡ plain.Woken m depth → depth_in q u m ≡ None

-- ---- what a step does to the depth at which its thread holds the monitor

-- one entry more
abbrev pub one_deeper : Option ℕ → ℕ
one_deeper None = 1
one_deeper (Some depth) = depth + 1

abbrev pub EntersDeeper : Type 0
EntersDeeper =
    (p : Program) (q r : Plain) (t m : ℕ) (x : PlainThread) → Steps p q r t x acts.Enter
    → x.status ≡ plain.Enter m → depth_in r t m ≡ Some (one_deeper (depth_in q t m))

-- one entry less, where that is not the last one
abbrev pub ExitsShallower : Type 0
ExitsShallower =
    (p : Program) (q r : Plain) (t m depth : ℕ) (a : After) (x : PlainThread)
    → Steps p q r t x acts.Exit → x.status ≡ plain.Leave m a
    → depth_in q t m ≡ Some (suc (suc depth)) → depth_in r t m ≡ Some (suc depth)

-- the last one leaves it to nobody
abbrev pub LastExitFrees : Type 0
LastExitFrees =
    (p : Program) (q r : Plain) (t m : ℕ) (a : After) (x : PlainThread) → Steps p q r t x acts.Exit
    → x.status ≡ plain.Leave m a → depth_in q t m ≡ Some 1 → (u : ℕ) → depth_in r u m ≡ None

-- and the thread goes on as it was to do behind the exit
abbrev pub ExitGoesOn : Type 0
ExitGoesOn =
    (p : Program) (q r : Plain) (t m : ℕ) (a : After) (x : PlainThread) → Steps p q r t x acts.Exit
    → x.status ≡ plain.Leave m a
    → (o : Onward) × (after p x.frames a ≡ Some o)
    × (slice_get r.threads t ≡ Some (plain_goes_on x o))

-- the depth that a wait gives up is the one that is taken back, and no thread holds the monitor
-- afterwards
abbrev pub WaitGivesUp : Type 0
WaitGivesUp =
    (p : Program) (q r : Plain) (t m : ℕ) (x : PlainThread) → Steps p q r t x acts.Wait
    → x.status ≡ plain.Wait m
    → (depth : ℕ) × (depth_in q t m ≡ Some depth)
    × (slice_get r.threads t ≡ Some (record x { status = plain.Waiting m depth }))
    × ((u : ℕ) → depth_in r u m ≡ None)

abbrev pub RetakeGivesBack : Type 0
RetakeGivesBack =
    (p : Program) (q r : Plain) (t m depth : ℕ) (x : PlainThread) → Steps p q r t x acts.Retake
    → x.status ≡ plain.Woken m depth → depth_in r t m ≡ Some depth

-- ---- notification

-- it wakes nobody only where nobody waits
abbrev pub NobodyWaits : Type 0
NobodyWaits =
    (p : Program) (q r : Plain) (t u m depth : ℕ) (x y : PlainThread)
    → Steps p q r t x (acts.Notify None) → x.status ≡ plain.Notify m
    → slice_get q.threads u ≡ Some y → y.status ≡ plain.Waiting m depth → ⊥

-- the thread that it wakes waited on the monitor, and comes out of its wait set with its depth
abbrev pub NotifyWakes : Type 0
NotifyWakes =
    (p : Program) (q r : Plain) (t u m : ℕ) (x : PlainThread)
    → Steps p q r t x (acts.Notify (Some u)) → x.status ≡ plain.Notify m
    → (y : PlainThread) × (depth : ℕ) × (slice_get q.threads u ≡ Some y)
    × (y.status ≡ plain.Waiting m depth)
    × (slice_get r.threads u ≡ Some (record y { status = plain.Woken m depth }))

-- each thread that waits on the monitor comes out of its wait set with its depth, and every other
-- one stays as it is
abbrev pub AllAreWoken : Type 0
AllAreWoken =
    (p : Program) (q r : Plain) (t u m depth : ℕ) (x y : PlainThread)
    → Steps p q r t x acts.NotifyAll → x.status ≡ plain.NotifyAll m
    → slice_get q.threads u ≡ Some y → y.status ≡ plain.Waiting m depth
    → slice_get r.threads u ≡ Some (record y { status = plain.Woken m depth })

abbrev pub NoOtherIsWoken : Type 0
NoOtherIsWoken =
    (p : Program) (q r : Plain) (t u m : ℕ) (x y : PlainThread) → Steps p q r t x acts.NotifyAll
    → x.status ≡ plain.NotifyAll m → u ≢ t → slice_get q.threads u ≡ Some y
    → ((depth : ℕ) → y.status ≢ plain.Waiting m depth) → slice_get r.threads u ≡ Some y

-- ---- Begin

-- the first root that is left is taken, and its frame made where there is room
pub record TakesRoot (p : Program) (r : Plain) (t : ℕ) (x : PlainThread) (roots : List ℕ)
    : Type 0 where
  pub number : ℕ
  pub rest : List ℕ
  pub roots_are : roots ≡ number ∷ rest
  pub method : MethodInfo
  pub is : slice_get p.methods number ≡ Some method
  pub begins : has_room p [] method ≡ true
      → slice_get r.threads t
      ≡ Some (record x {
        frames = entry_frame number method (root_arguments t method) ∷ [];
        status = plain.Run;
        roots = rest;
      })
  pub overflows : has_room p [] method ≡ false
      → slice_get r.threads t
      ≡ Some (over (record x { roots = rest }) (ends.Uncaught StackOverflowError))

abbrev pub BeginTakesRoot : Type 0
BeginTakesRoot =
    (p : Program) (q r : Plain) (t : ℕ) (x : PlainThread) → Steps p q r t x acts.Begin
    → x.status ≡ plain.Ready → TakesRoot p r t x x.roots

-- `done` begins in thread 0, of whose parts `init` alone has ended, and that returned
pub record BeginsDone (p : Program) (r : Plain) (t : ℕ) (x : PlainThread) : Type 0 where
  pub first : t ≡ 0
  pub returned : x.ended ≡ ends.Returned ∷ []
  pub takes : TakesRoot p r t x (done_roots p)

abbrev pub DoneBegins : Type 0
DoneBegins =
    (p : Program) (q r : Plain) (t : ℕ) (x : PlainThread) → Steps p q r t x acts.Begin
    → x.status ≡ plain.Ended ends.Returned → BeginsDone p r t x

-- a part begins when it is due: that of a worker behind `init`, and `done` behind `init` and the
-- workers
pub record InitHasReturned (q : Plain) : Type 0 where
  pub first : PlainThread
  pub is : slice_get q.threads 0 ≡ Some first
  pub returned : slice_get first.ended 0 ≡ Some ends.Returned

abbrev pub WorkersBeginBehindInit : Type 0
WorkersBeginBehindInit =
    (p : Program) (q r : Plain) (t : ℕ) (x : PlainThread) → Steps p q r (suc t) x acts.Begin
    → InitHasReturned q

-- it returned, or an exception ended it
abbrev pub IsFinishedStatus : Status → Type 0
IsFinishedStatus status =
    (status ≡ plain.Ended ends.Returned)
    ⊎ ((class : Thrown) × (status ≡ plain.Ended (ends.Uncaught class)))

abbrev pub DoneBeginsLast : Type 0
DoneBeginsLast =
    (p : Program) (q r : Plain) (t u : ℕ) (x y : PlainThread) → Steps p q r t x acts.Begin
    → x.status ≡ plain.Ended ends.Returned → slice_get q.threads (suc u) ≡ Some y
    → IsFinishedStatus y.status

-- ---- Do

-- an instruction, and what an exception does to a frame, change no other thread and no monitor
pub record IsOwnStep (q r : Plain) (t : ℕ) : Type 0 where
  pub others : (u : ℕ) → u ≢ t → slice_get r.threads u ≡ slice_get q.threads u
  pub holdings : r.holdings ≡ q.holdings

abbrev pub DoIsOwn : Type 0
DoIsOwn =
    (p : Program) (q r : Plain) (t : ℕ) (x : PlainThread) → Steps p q r t x acts.Do
    → IsOwnStep q r t

-- every act but an instruction writes no place, makes no object and prints nothing
pub record KeepsMemory (q r : Plain) : Type 0 where
  pub objects : r.objects ≡ q.objects
  pub statics : r.statics ≡ q.statics
  pub next : r.next ≡ q.next
  pub prints : r.prints ≡ q.prints

abbrev pub InstructionsChangeMemory : Type 0
InstructionsChangeMemory =
    (p : Program) (q r : Plain) (t : ℕ) (x : PlainThread) (act : Act) → Steps p q r t x act
    → ((act ≡ acts.Do) × (x.status ≡ plain.Run) → ⊥) → KeepsMemory q r

-- An exception that comes to a frame goes to the handler of the first row that catches it. Where
-- none does, the frame leaves its monitor first if its method is synchronized; then it is gone, and
-- the exception comes to its caller, or ends the part.
pub record ExceptionGoes (p : Program) (r : Plain) (t e : ℕ) (class : Thrown) (x : PlainThread)
    (at : Top) (handler : Option Row) : Type 0 where
  pub handled : (row : Row) → handler ≡ Some row
      → slice_get r.threads t ≡ Some (record x { frames = caught row e at; status = plain.Run })
  pub leaves : handler ≡ None → is_synchronized at.method.flags ≡ true
      → slice_get r.threads t
      ≡ Some (record x
      { status = plain.Leave (monitor_of p at.method at.frame) (afters.Unwind e class) })
  pub pops : handler ≡ None → is_synchronized at.method.flags ≡ false
      → (f : Frame) (below : List Frame) → at.below ≡ f ∷ below
      → slice_get r.threads t ≡ Some (record x { frames = f ∷ below; status = plain.Throw e class })
  pub uncaught : handler ≡ None → is_synchronized at.method.flags ≡ false → at.below ≡ []
      → slice_get r.threads t ≡ Some (over x (ends.Uncaught class))

abbrev pub ExceptionsGo : Type 0
ExceptionsGo =
    (p : Program) (q r : Plain) (t e : ℕ) (class : Thrown) (x : PlainThread) (at : Top)
    → Steps p q r t x acts.Do → x.status ≡ plain.Throw e class → top_of p x.frames ≡ Some at
    → ExceptionGoes p r t e class x at (handler_at (class_of class) at)
