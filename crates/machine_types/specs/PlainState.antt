-- The state of the plain machine: threads, objects and ordinary monitors (JVMS 2.5, 2.6, 2.11.10),
-- with no words, counts or attempts; and the state that it starts in.
use Rattle.std.specs.Prelude.{ℕ, ℤ, zero, ◌+◌, ◌==◌, Bool, false, not, List, [], ◌∷◌, ◌++◌, filter}
use Rattle.std.specs.Prelude.{map, Option, Some, None, slice_set, if◌then◌else◌}
use Rattle.std.specs.List.{range_with_len}
use Rattle.std.specs.Option.{option_or}
use Rattle.jvm_types.specs.ProgramInvariant.{words_of}
use Rattle.jvm_types.specs.declared.outcome.End.{End}
use Rattle.jvm_types.specs.declared.outcome.End.TheVariants as ends
use Rattle.jvm_types.specs.declared.outcome.Thrown.{Thrown}
use Rattle.jvm_types.specs.declared.program.Program.{Program}
use Rattle.machine_types.specs.Onward.{Onward, After}
use Rattle.machine_types.specs.Onward as onward
use Rattle.machine_types.specs.PlainMemory.{Object, StaticValue, object_value, object_write}
use Rattle.machine_types.specs.PlainMemory.{static_value, static_write, start_objects}
use Rattle.machine_types.specs.PlainMemory.{start_statics}
use Rattle.machine_types.specs.Parts.{init_roots, run_roots}
use Rattle.machine_types.specs.Threads.{Frame}

pub data Status : Type 0 where
  -- its next root may begin, when its part is due
  Ready : Status
  Run : Status
  Throw : (x : ℕ) (class : Thrown) → Status
  Enter : (m : ℕ) → Status
  -- it leaves m, and then goes on as a says
  Leave : (m : ℕ) (a : After) → Status
  Wait : (m : ℕ) → Status
  Notify : (m : ℕ) → Status
  NotifyAll : (m : ℕ) → Status
  -- in the wait set of m, and out of it again, with the depth at which m was held
  Waiting : (m depth : ℕ) → Status
  Woken : (m depth : ℕ) → Status
  Ended : (e : End) → Status

-- a monitor that is held
pub record Holding : Type 0 where
  pub monitor : ℕ
  pub holder : ℕ
  pub depth : ℕ

pub record PlainThread : Type 0 where
  pub frames : List Frame
  pub status : Status
  -- the methods that its part has still to run
  pub roots : List ℕ
  -- the ends of its parts so far
  pub ended : List End

pub record Printed : Type 0 where
  pub thread : ℕ
  pub value : ℤ

pub record Plain : Type 0 where
  pub objects : List Object
  pub statics : List StaticValue
  -- the number for the next reference
  pub next : ℕ
  pub holdings : List Holding
  pub threads : List PlainThread
  pub prints : List Printed

-- ---- the start

abbrev pub ready_thread : (roots : List ℕ) → PlainThread
ready_thread roots = record { frames = []; status = Ready; roots = roots; ended = [] }

-- `init` is due from the start; where it has no roots it has returned
abbrev pub first_thread : (roots : List ℕ) → PlainThread
first_thread [] =
    record { frames = []; status = Ended ends.Returned; roots = []; ended = ends.Returned ∷ [] }
first_thread (number ∷ roots) = ready_thread (number ∷ roots)

abbrev pub plain_start_thread : Program → (t : ℕ) → PlainThread
plain_start_thread p zero = first_thread (init_roots p)
plain_start_thread p t = ready_thread (run_roots p)

abbrev pub plain_start : Program → Plain
plain_start p = record {
  objects = start_objects p;
  statics = start_statics p;
  next = words_of p;
  holdings = [];
  threads = map (plain_start_thread p) (range_with_len 0 (p.workers + 1));
  prints = [];
}

-- ---- places

-- None: nothing stands there
abbrev pub value_at : Plain → (x : ℕ) → Option ℕ
value_at q x = option_or (object_value q.objects x) (static_value q.statics x)

abbrev pub written : Plain → (x v : ℕ) → Plain
written q x v =
    record q { objects = object_write q.objects x v; statics = static_write q.statics x v }

-- ---- monitors

abbrev pub holding_at : List Holding → (m : ℕ) → Option Holding
holding_at [] m = None
holding_at (h ∷ hs) m = if h.monitor == m then Some h else holding_at hs m

abbrev pub with_holding : Holding → List Holding → List Holding
with_holding e [] = e ∷ []
with_holding e (h ∷ hs) = if h.monitor == e.monitor then e ∷ hs else h ∷ with_holding e hs

abbrev pub without_holding : (m : ℕ) → List Holding → List Holding
without_holding m hs = filter (λ h. not (h.monitor == m)) hs

abbrev pub is_holder : (t : ℕ) → Option Holding → Bool
is_holder t None = false
is_holder t (Some h) = h.holder == t

abbrev pub held_by : Plain → (m t depth : ℕ) → Plain
held_by q m t depth =
    record q
    { holdings = with_holding (record { monitor = m; holder = t; depth = depth }) q.holdings }

abbrev pub let_go : Plain → (m : ℕ) → Plain
let_go q m = record q { holdings = without_holding m q.holdings }

-- ---- how a thread goes on

abbrev pub with_thread : Plain → (t : ℕ) → PlainThread → Plain
with_thread q t x = record q { threads = slice_set q.threads t x }

abbrev pub with_status : PlainThread → Status → PlainThread
with_status x status = record x { status = status }

-- its part has ended
abbrev pub over : PlainThread → End → PlainThread
over x e = record x { frames = []; status = Ended e; ended = x.ended ++ e ∷ [] }

abbrev pub plain_root_over : PlainThread → (roots : List ℕ) → PlainThread
plain_root_over x [] = over x ends.Returned
plain_root_over x (number ∷ roots) = record x { frames = []; status = Ready }

abbrev pub plain_goes_on : PlainThread → Onward → PlainThread
plain_goes_on x (onward.Running frames) = record x { frames = frames; status = Run }
plain_goes_on x (onward.Throwing r class frames) =
    record x { frames = frames; status = Throw r class }
plain_goes_on x (onward.Entering m frames) = record x { frames = frames; status = Enter m }
plain_goes_on x (onward.Leaving m a frames) = record x { frames = frames; status = Leave m a }
plain_goes_on x onward.RootReturned = plain_root_over x x.roots
plain_goes_on x (onward.Uncaught class) = over x (ends.Uncaught class)
