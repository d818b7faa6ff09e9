-- How far a run is in its order, as the code keeps it: by a place in the order.
use Rattle.std.specs.Prelude.{◌≡◌, ◌+◌, ℕ, true, List, drop, Option, Some, None}
use Rattle.machine_types.specs.Core.{Core, Of, NextPart, lives}
use Rattle.machine_types.specs.Schedules.{Stage, First, Ordered, Rounds, Last, Turn}
use Rattle.run_trace.specs.declared.turns.Progress.{Progress}
use Rattle.run_trace.specs.declared.turns.Progress.TheVariants as progresses
use Rattle.run_trace.specs.declared.turns.Next.{Next}
use Rattle.run_trace.specs.declared.turns.Next.TheVariants as nexts

abbrev pub stage_of : (order : List ℕ) → Progress → Stage
stage_of order progresses.Init = First order
stage_of order (progresses.Order i) = Ordered (drop i order)
stage_of order (progresses.Round from) = Rounds from
stage_of order progresses.Done = Last

-- what comes next, and how far the run is behind it
abbrev pub turn_of_next : (order : List ℕ) → Next → Option Turn
turn_of_next order (nexts.Event t progress) =
    Some (record { happening = Of t; stage = stage_of order progress })
turn_of_next order (nexts.Part progress) =
    Some (record { happening = NextPart; stage = stage_of order progress })
turn_of_next order nexts.Over = None

-- how many parts may begin from there on
abbrev pub parts_ahead : Progress → ℕ
parts_ahead progresses.Init = 2
parts_ahead (progresses.Order i) = 1
parts_ahead (progresses.Round from) = 1
parts_ahead progresses.Done = 0

abbrev pub next_ahead : Next → ℕ
next_ahead (nexts.Event t progress) = parts_ahead progress
next_ahead (nexts.Part progress) = parts_ahead progress + 1
next_ahead nexts.Over = 0

-- an event is one of a live thread
abbrev pub IsMayBe : Core → Next → Type 0
IsMayBe s (nexts.Event t progress) = lives s t ≡ true
IsMayBe s next = Unit {0}

abbrev pub IsNoEvent : Next → Type 0
IsNoEvent (nexts.Event t progress) = ⊥
IsNoEvent next = Unit {0}
