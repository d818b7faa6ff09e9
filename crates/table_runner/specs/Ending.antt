-- What the threads of hands come to.
use Rattle.std.specs.Prelude.{◌≡◌, List, [], ◌∷◌, Option, Some, None}
use Rattle.jvm_types.specs.declared.outcome.Outcome.{Outcome}
use Rattle.jvm_types.specs.declared.outcome.ThreadReport.{ThreadReport}
use Rattle.machine_types.specs.Core.{Happening, core, outcome, report_of}
use Rattle.machine_types.specs.Threads.{Thread}
use Rattle.table_rule.specs.Views.{View, HasThreads}
use Rattle.table_runner.specs.Handed.{Handed}

abbrev pub reported_first : Option Thread → List ThreadReport → List ThreadReport
reported_first None reports = reports
reported_first (Some x) reports = report_of x ∷ reports

-- the reports of the threads that are there, in order
abbrev pub reported : View → List ThreadReport
reported [] = []
reported (o ∷ v) = reported_first o (reported v)

-- the outcome of a state that a run reaches, whose threads are those that the hands hold
abbrev pub IsOutcome : Handed → Outcome → Type 0
IsOutcome h o =
    (hs : List Happening) × HasThreads h.threads (core h.program h.cfg hs).threads
    × (o ≡ outcome (core h.program h.cfg hs))
