-- What is answered where marks, a run or outcomes are told.
use Rattle.std.specs.Prelude.{◌≡◌, ◌⊎◌, ℕ, Bool, List, Option, Some, None, Result, Ok, Err}
use Rattle.checked_program.specs.MarkedProgram.{MarkedProgram}
use Rattle.host_io.specs.declared.shelf.NamedFile.{NamedFile}
use Rattle.jvm_types.specs.declared.outcome.Outcome.{Outcome}
use Rattle.place_names.specs.declared.names.Names.{Names}
use Rattle.mark_reasons.specs.MarksTold.{AreMarksWritten}
use Rattle.mark_reasons.specs.declared.telling.MarksError.{MarksError}
use Rattle.mark_reasons.specs.declared.telling.MarksError.TheVariants as errors
use Rattle.outcome_texts.specs.Telling.{AreOutcomesWritten}
use Rattle.outcome_texts.specs.declared.telling.OutcomesError.{OutcomesError}
use Rattle.outcome_texts.specs.declared.telling.OutcomesError.TheVariants as outcomes_errors
use Rattle.outcome_texts.specs.declared.telling.Verdict.{Verdict}
use Rattle.outcome_texts.specs.declared.telling.Verdict.TheVariants as verdicts
use Rattle.run_trace.specs.Traces.{IsTraced}
use Rattle.run_trace.specs.declared.traces.TraceError.{TraceError}
use Rattle.run_trace.specs.declared.traces.TraceError.TheVariants.{Memory, Failed}
use Rattle.program_answers.specs.Delivery.{IsDelivered}
use Rattle.program_answers.specs.Finish.{finish_of, finish_status}
use Rattle.program_answers.specs.declared.answer.Due.{Due}
use Rattle.solero_explain.specs.Answer.{IsExpected, IsExplainDue, RunsFiles, explain_usage}
use Rattle.solero_explain.specs.Command.{Question}
use Rattle.solero_explain.specs.declared.request.What.{What}
use Rattle.solero_explain.specs.declared.request.What.TheVariants as whats

-- where there is no memory, a front of it may have been written
abbrev pub status_of_trace : Result Outcome TraceError → ℕ
status_of_trace (Ok o) = finish_status (finish_of o)
status_of_trace (Err Failed) = 5
status_of_trace (Err Memory) = 6

-- the marks, likewise
abbrev pub status_of_marks : {A : Type 0} → Result A MarksError → ℕ
status_of_marks (Ok done) = 0
status_of_marks (Err errors.Failed) = 5
status_of_marks (Err errors.Memory) = 6

-- outcomes: 10 where something was found that no run is to do; else 12 where an outcome is not
-- expected; else 0 where all orders were tried, and 11 where they were not
abbrev pub status_of_verdict : Verdict → ℕ
status_of_verdict verdicts.NoOther = 0
status_of_verdict verdicts.Found = 10
status_of_verdict verdicts.Unexpected = 12
status_of_verdict verdicts.Unknown = 11

abbrev pub status_of_outcomes : Result Verdict OutcomesError → ℕ
status_of_outcomes (Ok verdict) = status_of_verdict verdict
status_of_outcomes (Err outcomes_errors.Failed) = 5
status_of_outcomes (Err outcomes_errors.Memory) = 6

-- what is asked for is told of a program, as far as it is, and this is answered
abbrev pub IsProgramTold : What → Question → MarkedProgram → Names
    → (expected told now : Option (List ℕ)) → (before after status : ℕ) → Type 0
IsProgramTold whats.Refusal asked checked names expected told now before after status = ⊥
IsProgramTold whats.Marks asked checked names expected told now before after status =
    (came : Result (Unit {0}) MarksError)
    × AreMarksWritten asked.form checked names.sources told now before after came
    × (status ≡ status_of_marks came)
IsProgramTold whats.Run asked checked names expected told now before after status =
    (came : Result Outcome TraceError)
    × IsTraced checked asked.cfg asked.order names asked.begin asked.part told now before after came
    × (status ≡ status_of_trace came)
IsProgramTold whats.Outcomes asked checked names expected told now before after status =
    (came : Result Verdict OutcomesError)
    × AreOutcomesWritten asked.form checked asked.cfg names.sources asked.forbidden expected
    told now before after came
    × (status ≡ status_of_outcomes came)

pub record Traces (files : Option (List NamedFile)) (asked : Question) (told now : Option (List ℕ))
    (before after status : ℕ) : Type 0 where
  pub checked : MarkedProgram
  pub names : Names
  pub runs : RunsFiles files asked checked names
  pub expected : Option (List ℕ)
  pub is_expected : IsExpected files asked.expect expected
  pub is_told : IsProgramTold asked.what asked checked names expected told now before after status

-- the words ask for marks, a run or outcomes, and the shelf's count of faults goes from before to
-- after
abbrev pub IsTraceAnswer : Option Question → Option (List NamedFile) → (before after : ℕ)
    → (told now : Option (List ℕ)) → (from to status : ℕ) → Type 0
IsTraceAnswer None files before after told now from to status = ⊥
IsTraceAnswer (Some asked) files before after told now from to status =
    (after ≡ before) × Traces files asked told now from to status

-- what is due is delivered, or the marks, the run or the outcomes are told
abbrev pub IsAnswered : Option Question → Option (List NamedFile) → Option (List ℕ → Bool)
    → (before after : ℕ) → (told now : Option (List ℕ)) → (from to status : ℕ) → Type 0
IsAnswered asked files unreadable before after told now from to status =
    ((due : Due) × IsExplainDue asked files unreadable before after due
    × IsDelivered explain_usage told now from to due status)
    ⊎ IsTraceAnswer asked files before after told now from to status
