-- What no run is to do, and where it was found.
use Rattle.std.specs.Prelude.{ℕ, Bool, true, false, ◌||◌, List, Option, Some, None, is_some}
use Rattle.std.specs.List.{list_any, position_from}
use Rattle.std.specs.Ordering.{int_eq}
use Rattle.jvm_types.specs.declared.program.Program.{Program}
use Rattle.machine_types.specs.PlainState.{Plain}
use Rattle.machine_types.specs.PlainSteps.{first_end, plain_done_end}
use Rattle.jvm_types.specs.declared.outcome.End.{End}
use Rattle.jvm_types.specs.declared.outcome.End.TheVariants.{Uncaught}
use Rattle.outcomes.specs.declared.all_outcomes.Outcomes.{Outcomes}
use Rattle.outcomes.specs.declared.printing.Printing.{Printing}
use Rattle.outcome_texts.specs.OutcomeFacts.{all_threads, is_stuck}
use Rattle.outcome_texts.specs.declared.findings.Finding.{Finding}
use Rattle.outcome_texts.specs.declared.findings.Finding.TheVariants.{InOutcome, InNone, Nowhere}
use Rattle.outcome_texts.specs.declared.findings.Finding.TheVariants.{UncaughtInNone}
use Rattle.outcome_texts.specs.declared.findings.Forbidden.{Forbidden}
use Rattle.outcome_texts.specs.declared.findings.Forbidden.TheVariants as forbidden

abbrev pub has_uncaught : Option End → Bool
has_uncaught (Some (Uncaught x)) = true
has_uncaught end = false

-- a state shows it
abbrev pub shows : Program → Forbidden → Plain → Bool
shows p (forbidden.Print value) q = list_any (λ x. int_eq x.value value) q.prints
shows p forbidden.Stuck q = is_stuck q
shows p forbidden.Uncaught q =
    list_any (λ t. has_uncaught (first_end q t)) all_threads || has_uncaught (plain_done_end p q)

-- a number of the printed ones is it
abbrev pub is_printed : Forbidden → Printing → Bool
is_printed (forbidden.Print value) x = int_eq x.value value
is_printed what x = false

abbrev pub found_among : Option ℕ → Finding
found_among None = Nowhere
found_among (Some i) = InNone i

abbrev pub uncaught_if : (is_there : Bool) → Finding
uncaught_if true = UncaughtInNone
uncaught_if false = Nowhere

abbrev pub finding_in : Option ℕ → Outcomes → Forbidden → Finding
finding_in (Some number) o what = InOutcome number
finding_in None o forbidden.Uncaught = uncaught_if (is_some o.uncaught)
finding_in None o what = found_among (position_from (is_printed what) 0 o.printed)

-- In the first outcome that shows it, by its number. Else in the first printed number that is it,
-- by its place among these, or where an exception that nothing caught ended a part of a run that
-- may never come to an end.
abbrev pub finding : Program → Outcomes → Forbidden → Finding
finding p o what =
    finding_in (position_from (λ x. shows p what x.at.plain.state) 1 o.listed) o what

abbrev pub is_found : Finding → Bool
is_found Nowhere = false
is_found f = true
