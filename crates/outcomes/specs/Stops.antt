-- Which threads of the plain machine have begun and not ended, where nothing moves, and what keeps
-- each of them.
use Rattle.std.specs.Prelude.{ℕ, ◌+◌, List, [], ◌∷◌, ◌++◌, Option, Some, None, option_and_then}
use Rattle.std.specs.Prelude.{option_map, slice_get}
use Rattle.std.specs.Option.{option_to_list}
use Rattle.machine_types.specs.PlainState as plain
use Rattle.machine_types.specs.PlainState.{Holding, Plain, PlainThread, Status, holding_at}
use Rattle.machine_types.specs.Threads.{Frame}
use Rattle.outcomes.specs.declared.stopping.Stop.{Stop}
use Rattle.outcomes.specs.declared.stopping.Stop.TheVariants.{Enters, Stands, TakesBack}
use Rattle.outcomes.specs.declared.stopping.Stop.TheVariants.{Waits}
use Rattle.outcomes.specs.declared.stopping.Stopped.{Stopped}

-- what keeps a thread; None: it has not begun, or it has ended
abbrev pub stop_of : Status → Option Stop
stop_of plain.Ready = None
stop_of (plain.Ended e) = None
stop_of (plain.Waiting m depth) = Some (Waits m)
stop_of (plain.Woken m depth) = Some (TakesBack m)
stop_of (plain.Enter m) = Some (Enters m)
stop_of status = Some Stands

-- the monitor that it asks for
abbrev pub asked_of : Stop → Option ℕ
asked_of (TakesBack m) = Some m
asked_of (Enters m) = Some m
asked_of stop = None

-- the thread that holds it; None: it is free, or none is asked for
abbrev pub holder_of : List Holding → Option ℕ → Option ℕ
holder_of holdings None = None
holder_of holdings (Some m) = option_map (λ h. h.holder) (holding_at holdings m)

-- the method and the pc at which its top frame stands
abbrev pub top_method : List Frame → ℕ
top_method [] = 0
top_method (f ∷ frames) = f.method

abbrev pub top_pc : List Frame → ℕ
top_pc [] = 0
top_pc (f ∷ frames) = f.pc

abbrev pub stopped_by : List Holding → (t : ℕ) → PlainThread → Stop → Stopped
stopped_by holdings t x stop = record {
  thread = t;
  method = top_method x.frames;
  pc = top_pc x.frames;
  stop = stop;
  holder = holder_of holdings (asked_of stop);
}

-- in the order of their numbers, from t on
abbrev pub stopped_from : List Holding → (t : ℕ) → List PlainThread → List Stopped
stopped_from holdings t [] = []
stopped_from holdings t (x ∷ threads) =
    option_to_list (option_map (stopped_by holdings t x) (stop_of x.status))
    ++ stopped_from holdings (t + 1) threads

abbrev pub stopped_threads : Plain → List Stopped
stopped_threads q = stopped_from q.holdings 0 q.threads

-- the thread of that number, where it is there and has begun and not ended
abbrev pub stopped_thread : Plain → (t : ℕ) → Option Stopped
stopped_thread q t =
    option_and_then (λ x. option_map (stopped_by q.holdings t x) (stop_of x.status))
    (slice_get q.threads t)
