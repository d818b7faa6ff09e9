-- When a run of the running machine comes to what a state of the plain machine shows.
use Rattle.std.specs.Prelude.{◌≡◌, ℕ, Bool, true, false, List, Contains, Some, slice_get}
use Rattle.jvm_types.specs.declared.outcome.End.{End}
use Rattle.jvm_types.specs.declared.outcome.End.TheVariants.{Prints, Records, Steps}
use Rattle.jvm_types.specs.declared.outcome.Outcome.{Outcome}
use Rattle.jvm_types.specs.declared.outcome.ThreadReport.{ThreadReport}
use Rattle.jvm_types.specs.declared.program.Program.{Program}
use Rattle.checked_program.specs.MarkedProgram.{MarkedProgram}
use Rattle.machine_types.specs.Faithful.{EndsFit, PrintsFit}
use Rattle.machine_types.specs.PlainState.{Plain, Printed}
use Rattle.machine_types.specs.declared.config.Config.{Config}
use Rattle.replay_runner.specs.Replays.{IsReplayed}

-- the numbers that were printed, in order, and how each part ended
pub record ComesTo (p : Program) (q : Plain) (o : Outcome) : Type 0 where
  pub prints : PrintsFit o q
  pub ends : EndsFit p o q

-- a limit ended it that is not that of failed turns, by which a thread that waits for ever ends
abbrev pub is_cut_off : End → Bool
is_cut_off Steps = true
is_cut_off Records = true
is_cut_off Prints = true
is_cut_off e = false

-- no such limit ended a part
pub record HasNoOtherLimit (o : Outcome) : Type 0 where
  pub threads : (t : ℕ) (r : ThreadReport) → slice_get o.threads t ≡ Some r
      → is_cut_off r.end ≡ false
  pub done : is_cut_off o.done ≡ false

-- an order of the workers' events leads a run by these settings to an outcome that shows the state,
-- and that no limit brought about but that of failed turns
pub record LeadsTo (c : MarkedProgram) (cfg : Config) (q : Plain) (order : List ℕ) (o : Outcome)
    : Type 0 where
  pub replayed : IsReplayed c cfg order o
  pub comes : ComesTo c.program q o
  pub free : HasNoOtherLimit o

-- the report of its thread has the print, with its place among all prints
abbrev pub IsReported : Outcome → (i : ℕ) → Printed → Type 0
IsReported o i x =
    (r : ThreadReport) × (slice_get o.threads x.thread ≡ Some r)
    × Contains r.prints (record { ticket = i; value = x.value })
