-- What is answered where marks, a run or outcomes are told.
use Rattle.std.proofs.Common.{◌≡◌, ◌≢◌, ℕ, ◌<◌, ◌≤◌, Bool, List, Option, Some, None, Result, Ok, Err, inr, refl, sym, subst, ◌∙◌, arith}
use Rattle.jvm_types.specs.declared.outcome.Outcome.{Outcome}
use Rattle.checked_program.specs.MarkedProgram.{MarkedProgram}
use Rattle.machine_types.specs.declared.config.Config.{Config}
use Rattle.tellings.specs.declared.facts.Fact.{Fact}
use Rattle.class_runner.proofs.LoadedOnce.{accepted}
use Rattle.host_io.{specs.{Faults.CountsFault, declared.shelf.NamedFile.NamedFile}, proofs.SoFar.none_long}
use Rattle.source_lines.specs.declared.sources.Sources.{Sources}
use Rattle.place_names.specs.declared.names.Names.{Names}
use Rattle.run_trace.specs.{Traces.IsTraced, declared.{events.Part.Part, traces.TraceError.{TraceError, TheVariants.{Memory, Failed}}}}
use Rattle.program_answers.specs.{Finish.{finish_of, finish_status}, declared.finish.Finish.{Finish, TheVariants.{Returned, Uncaught, Limited}}}
use Rattle.json_lines.specs.declared.form.Form.{Form}
use Rattle.mark_reasons.specs.{MarksTold.AreMarksWritten, declared.telling.MarksError.MarksError}
use Rattle.mark_reasons.specs.declared.telling.MarksError.TheVariants as errors
use Rattle.solero_explain.specs.{Answer.{AreUnrefused, IsToldAtLength, RunsFiles}, Command.Question, Parts.IsWork, Requests.question_by}
use Rattle.outcome_texts.specs.{Telling.AreOutcomesWritten, declared.{findings.Forbidden.Forbidden, telling.{OutcomesError.OutcomesError, Verdict.Verdict}}}
use Rattle.outcome_texts.specs.declared.telling.OutcomesError.TheVariants as outcomes_errors
use Rattle.outcome_texts.specs.declared.telling.Verdict.TheVariants as verdicts
use Rattle.solero_explain.specs.{Tracing.{IsAnswered, IsProgramTold, status_of_marks, status_of_outcomes, status_of_trace}, declared.request.{Request.Request, What.What}}
use Rattle.solero_explain.specs.declared.request.What.TheVariants as whats
use Rattle.solero_explain.specs.declared.program.Work.TheVariants as works

-- ---- statuses

-- the status of a run is 0, 1 or 7
record IsRunStatus (n : ℕ) : Type 0 where
  few : n ≤ 7
  two : n ≢ 2
  three : n ≢ 3
  four : n ≢ 4
  five : n ≢ 5

run_status : (finish : Finish) → IsRunStatus (finish_status finish)
run_status Returned = record { few = omega arith; two = λ e. omega (arith, e); three = λ e. omega (arith, e); four = λ e. omega (arith, e); five = λ e. omega (arith, e) }
run_status Uncaught = record { few = omega arith; two = λ e. omega (arith, e); three = λ e. omega (arith, e); four = λ e. omega (arith, e); five = λ e. omega (arith, e) }
run_status Limited = record { few = omega arith; two = λ e. omega (arith, e); three = λ e. omega (arith, e); four = λ e. omega (arith, e); five = λ e. omega (arith, e) }

trace_few : (came : Result Outcome TraceError) → status_of_trace came ≤ 7
trace_few (Ok o) = (run_status (finish_of o)).few
trace_few (Err Failed) = omega arith
trace_few (Err Memory) = omega arith

trace_two : (came : Result Outcome TraceError) → status_of_trace came ≢ 2
trace_two (Ok o) e = (run_status (finish_of o)).two e
trace_two (Err Failed) e = omega (arith, e)
trace_two (Err Memory) e = omega (arith, e)

trace_three : (came : Result Outcome TraceError) → status_of_trace came ≢ 3
trace_three (Ok o) e = (run_status (finish_of o)).three e
trace_three (Err Failed) e = omega (arith, e)
trace_three (Err Memory) e = omega (arith, e)

trace_four : (came : Result Outcome TraceError) → status_of_trace came ≢ 4
trace_four (Ok o) e = (run_status (finish_of o)).four e
trace_four (Err Failed) e = omega (arith, e)
trace_four (Err Memory) e = omega (arith, e)

-- ---- what is told at length, and its status

record IsToldStatus (n : ℕ) : Type 0 where
  few : n ≤ 12
  two : n ≢ 2
  three : n ≢ 3
  four : n ≢ 4

seven_is_few : (n : ℕ) → n ≤ 7 → n ≤ 12
seven_is_few n low = omega (arith, low)

marks_status : {A : Type 0} (came : Result A MarksError) → IsToldStatus (status_of_marks came)
marks_status (Ok done) = record { few = omega arith; two = λ e. omega (arith, e); three = λ e. omega (arith, e); four = λ e. omega (arith, e) }
marks_status (Err errors.Failed) = record { few = omega arith; two = λ e. omega (arith, e); three = λ e. omega (arith, e); four = λ e. omega (arith, e) }
marks_status (Err errors.Memory) = record { few = omega arith; two = λ e. omega (arith, e); three = λ e. omega (arith, e); four = λ e. omega (arith, e) }

trace_status : (came : Result Outcome TraceError) → IsToldStatus (status_of_trace came)
trace_status came = record { few = seven_is_few (status_of_trace came) (trace_few came); two = trace_two came; three = trace_three came; four = trace_four came }

outcomes_status : (came : Result Verdict OutcomesError) → IsToldStatus (status_of_outcomes came)
outcomes_status (Ok verdicts.NoOther) = record { few = omega arith; two = λ e. omega (arith, e); three = λ e. omega (arith, e); four = λ e. omega (arith, e) }
outcomes_status (Ok verdicts.Found) = record { few = omega arith; two = λ e. omega (arith, e); three = λ e. omega (arith, e); four = λ e. omega (arith, e) }
outcomes_status (Ok verdicts.Unexpected) = record { few = omega arith; two = λ e. omega (arith, e); three = λ e. omega (arith, e); four = λ e. omega (arith, e) }
outcomes_status (Ok verdicts.Unknown) = record { few = omega arith; two = λ e. omega (arith, e); three = λ e. omega (arith, e); four = λ e. omega (arith, e) }
outcomes_status (Err outcomes_errors.Failed) = record { few = omega arith; two = λ e. omega (arith, e); three = λ e. omega (arith, e); four = λ e. omega (arith, e) }
outcomes_status (Err outcomes_errors.Memory) = record { few = omega arith; two = λ e. omega (arith, e); three = λ e. omega (arith, e); four = λ e. omega (arith, e) }

told_status : (what : What) (asked : Question) (c : MarkedProgram) (names : Names) (file : Option (List ℕ)) (told now : Option (List ℕ)) (from to status : ℕ) → IsProgramTold what asked c names file told now from to status → IsToldStatus status
told_status whats.Refusal asked c names file told now from to status h = absurd h
told_status whats.Marks asked c names file told now from to status (came, written, is) = subst IsToldStatus (sym is) (marks_status came)
told_status whats.Run asked c names file told now from to status (came, traced, is) = subst IsToldStatus (sym is) (trace_status came)
told_status whats.Outcomes asked c names file told now from to status (came, written, is) = subst IsToldStatus (sym is) (outcomes_status came)

-- ---- the clauses, where marks, a run or outcomes are told

pub run_answered : (asked : Option Question) (files : Option (List NamedFile)) (unreadable : Option (List ℕ → Bool)) (before after : ℕ) (r : Request) (c : MarkedProgram) (names : Names) (file : Option (List ℕ)) (told now : Option (List ℕ)) (from to status : ℕ)
    → IsWork asked files unreadable before after (works.Run r c names file) → IsProgramTold r.what (question_by r) c names file told now from to status → IsAnswered asked files unreadable before after told now from to status
run_answered None files unreadable before after r c names file told now from to status work run = absurd work
run_answered (Some asked) files unreadable before after r c names file told now from to status work run =
    inr (work.1, record { checked = c; names = names; runs = work.2; expected = file; is_expected = work.3; is_told = subst (λ (q : Question). IsProgramTold q.what q c names file told now from to status) (sym work.0) run })

pub run_few : (what : What) (asked : Question) (c : MarkedProgram) (names : Names) (file : Option (List ℕ)) (told now : Option (List ℕ)) (from to status : ℕ) → IsProgramTold what asked c names file told now from to status → status ≤ 12
run_few what asked c names file told now from to status h = (told_status what asked c names file told now from to status h).few

pub run_not_two : (what : What) (asked : Question) (c : MarkedProgram) (names : Names) (file : Option (List ℕ)) (told now : Option (List ℕ)) (from to status : ℕ) → IsProgramTold what asked c names file told now from to status → status ≢ 2
run_not_two what asked c names file told now from to status h = (told_status what asked c names file told now from to status h).two

pub run_not_three : (what : What) (asked : Question) (c : MarkedProgram) (names : Names) (file : Option (List ℕ)) (told now : Option (List ℕ)) (from to status : ℕ) → IsProgramTold what asked c names file told now from to status → status ≢ 3
run_not_three what asked c names file told now from to status h = (told_status what asked c names file told now from to status h).three

pub run_not_four : (what : What) (asked : Question) (c : MarkedProgram) (names : Names) (file : Option (List ℕ)) (told now : Option (List ℕ)) (from to status : ℕ) → IsProgramTold what asked c names file told now from to status → status ≢ 4
run_not_four what asked c names file told now from to status h = (told_status what asked c names file told now from to status h).four

pub run_at_length : (asked : Option Question) (files : Option (List NamedFile)) (unreadable : Option (List ℕ → Bool)) (before after : ℕ) (r : Request) (c : MarkedProgram) (names : Names) (file : Option (List ℕ)) → IsWork asked files unreadable before after (works.Run r c names file) → IsToldAtLength r.what
run_at_length None files unreadable before after r c names file work = absurd work
run_at_length (Some asked) files unreadable before after r c names file work = subst (λ (q : Question). IsToldAtLength q.what) work.0 work.2.run.what

pub run_is_read : (asked : Option Question) (files : Option (List NamedFile)) (unreadable : Option (List ℕ → Bool)) (before after : ℕ) (r : Request) (c : MarkedProgram) (names : Names) (file : Option (List ℕ)) → IsWork asked files unreadable before after (works.Run r c names file) → asked ≡ None → ⊥
run_is_read None files unreadable before after r c names file work none = work
run_is_read (Some asked) files unreadable before after r c names file work none = cc

pub run_is_calm : (asked : Option Question) (files : Option (List NamedFile)) (unreadable : Option (List ℕ → Bool)) (before after : ℕ) (r : Request) (c : MarkedProgram) (names : Names) (file : Option (List ℕ)) → IsWork asked files unreadable before after (works.Run r c names file) → before < after → ⊥
run_is_calm None files unreadable before after r c names file work rose = work
run_is_calm (Some asked) files unreadable before after r c names file work rose = omega (arith, work.1, rose)

-- a run is that of accepted files
pub run_accepted : (asked : Question) (files : List NamedFile) (c : MarkedProgram) (names : Names) → RunsFiles (Some files) asked c names → AreUnrefused files asked
run_accepted asked files c names t =
    let short = none_long 0 t.contents t.short in
    let taken = accepted t.contents asked.heap asked.threads c t.run.loaded in
    (rw t.are at short, rw t.are at taken)

five_is_not_six : (n : ℕ) → n ≡ 5 → n ≡ 6 → ⊥
five_is_not_six n five six = omega (arith, five, six)

by_came_failed : (c : MarkedProgram) (cfg : Config) (order : List ℕ) (names : Names) (begin : List Fact) (part : Part) (told now : Option (List ℕ)) (from to : ℕ) (came : Result Outcome TraceError) → IsTraced c cfg order names begin part told now from to came → status_of_trace came ≡ 5 → CountsFault from to
by_came_failed c cfg order names begin part told now from to (Ok o) traced five = absurd ((run_status (finish_of o)).five five)
by_came_failed c cfg order names begin part told now from to (Err Failed) traced five = traced.0
by_came_failed c cfg order names begin part told now from to (Err Memory) traced five = absurd (five_is_not_six 6 five refl)

marks_failed : (form : Form) (c : MarkedProgram) (sources : Sources) (told now : Option (List ℕ)) (from to : ℕ) (came : Result (Unit {0}) MarksError) → AreMarksWritten form c sources told now from to came → status_of_marks came ≡ 5 → CountsFault from to
marks_failed form c sources told now from to (Ok done) written five = absurd (omega (arith, five))
marks_failed form c sources told now from to (Err errors.Failed) written five = written.0
marks_failed form c sources told now from to (Err errors.Memory) written five = absurd (omega (arith, five))

outcomes_failed : (form : Form) (c : MarkedProgram) (cfg : Config) (sources : Sources) (forbidden : List Forbidden) (file : Option (List ℕ)) (told now : Option (List ℕ)) (from to : ℕ) (came : Result Verdict OutcomesError) → AreOutcomesWritten form c cfg sources forbidden file told now from to came → status_of_outcomes came ≡ 5 → CountsFault from to
outcomes_failed form c cfg sources forbidden file told now from to (Ok verdicts.NoOther) written five = absurd (omega (arith, five))
outcomes_failed form c cfg sources forbidden file told now from to (Ok verdicts.Found) written five = absurd (omega (arith, five))
outcomes_failed form c cfg sources forbidden file told now from to (Ok verdicts.Unexpected) written five = absurd (omega (arith, five))
outcomes_failed form c cfg sources forbidden file told now from to (Ok verdicts.Unknown) written five = absurd (omega (arith, five))
outcomes_failed form c cfg sources forbidden file told now from to (Err outcomes_errors.Failed) written five = written.0
outcomes_failed form c cfg sources forbidden file told now from to (Err outcomes_errors.Memory) written five = absurd (omega (arith, five))

pub run_sink_failed : (what : What) (asked : Question) (c : MarkedProgram) (names : Names) (file : Option (List ℕ)) (told now : Option (List ℕ)) (from to status : ℕ) → IsProgramTold what asked c names file told now from to status → status ≡ 5 → CountsFault from to
run_sink_failed whats.Refusal asked c names file told now from to status h five = absurd h
run_sink_failed whats.Marks asked c names file told now from to status (came, written, is) five = marks_failed asked.form c names.sources told now from to came written (sym is ∙ five)
run_sink_failed whats.Run asked c names file told now from to status (came, traced, is) five = by_came_failed c asked.cfg asked.order names asked.begin asked.part told now from to came traced (sym is ∙ five)
run_sink_failed whats.Outcomes asked c names file told now from to status (came, written, is) five = outcomes_failed asked.form c asked.cfg names.sources asked.forbidden file told now from to came written (sym is ∙ five)

by_came_fault : (c : MarkedProgram) (cfg : Config) (order : List ℕ) (names : Names) (begin : List Fact) (part : Part) (told now : Option (List ℕ)) (from to : ℕ) (came : Result Outcome TraceError) → IsTraced c cfg order names begin part told now from to came → from < to → status_of_trace came ≡ 5
by_came_fault c cfg order names begin part told now from to (Ok o) traced rose = omega (arith, traced.calm, rose)
by_came_fault c cfg order names begin part told now from to (Err Failed) traced rose = refl
by_came_fault c cfg order names begin part told now from to (Err Memory) traced rose = omega (arith, traced.0, rose)

marks_fault : (form : Form) (c : MarkedProgram) (sources : Sources) (told now : Option (List ℕ)) (from to : ℕ) (came : Result (Unit {0}) MarksError) → AreMarksWritten form c sources told now from to came → from < to → status_of_marks came ≡ 5
marks_fault form c sources told now from to (Ok done) written rose = omega (arith, written.0, rose)
marks_fault form c sources told now from to (Err errors.Failed) written rose = refl
marks_fault form c sources told now from to (Err errors.Memory) written rose = omega (arith, written.0, rose)

outcomes_fault : (form : Form) (c : MarkedProgram) (cfg : Config) (sources : Sources) (forbidden : List Forbidden) (file : Option (List ℕ)) (told now : Option (List ℕ)) (from to : ℕ) (came : Result Verdict OutcomesError) → AreOutcomesWritten form c cfg sources forbidden file told now from to came → from < to → status_of_outcomes came ≡ 5
outcomes_fault form c cfg sources forbidden file told now from to (Ok verdict) written rose = omega (arith, written.0, rose)
outcomes_fault form c cfg sources forbidden file told now from to (Err outcomes_errors.Failed) written rose = refl
outcomes_fault form c cfg sources forbidden file told now from to (Err outcomes_errors.Memory) written rose = omega (arith, written.0, rose)

pub run_sink_fault : (what : What) (asked : Question) (c : MarkedProgram) (names : Names) (file : Option (List ℕ)) (told now : Option (List ℕ)) (from to status : ℕ) → IsProgramTold what asked c names file told now from to status → from < to → status ≡ 5
run_sink_fault whats.Refusal asked c names file told now from to status h rose = absurd h
run_sink_fault whats.Marks asked c names file told now from to status (came, written, is) rose = is ∙ marks_fault asked.form c names.sources told now from to came written rose
run_sink_fault whats.Run asked c names file told now from to status (came, traced, is) rose = is ∙ by_came_fault c asked.cfg asked.order names asked.begin asked.part told now from to came traced rose
run_sink_fault whats.Outcomes asked c names file told now from to status (came, written, is) rose = is ∙ outcomes_fault asked.form c asked.cfg names.sources asked.forbidden file told now from to came written rose
