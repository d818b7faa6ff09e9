-- How a run finished: at a limit, by an exception, or neither.
use Rattle.std.specs.Prelude.{ℕ, Bool, true, false, ◌||◌, if◌then◌else◌}
use Rattle.std.specs.List.{list_any}
use Rattle.jvm_types.specs.declared.outcome.End.{End}
use Rattle.jvm_types.specs.declared.outcome.End.TheVariants as ends
use Rattle.jvm_types.specs.declared.outcome.Outcome.{Outcome}
use Rattle.program_answers.specs.declared.finish.Finish.{Finish}
use Rattle.program_answers.specs.declared.finish.Finish.TheVariants.{Returned, Uncaught, Limited}

abbrev pub is_limit : End → Bool
is_limit ends.Steps = true
is_limit ends.Turns = true
is_limit ends.Records = true
is_limit ends.Prints = true
is_limit end = false

abbrev pub is_uncaught : End → Bool
is_uncaught (ends.Uncaught x) = true
is_uncaught end = false

-- some part of a run has such an end
abbrev pub some_end : (End → Bool) → Outcome → Bool
some_end test o = list_any (λ t. test t.end) o.threads || test o.done

-- a limit goes before an exception
abbrev pub finish_of : Outcome → Finish
finish_of o =
    if some_end is_limit o then Limited else if some_end is_uncaught o then Uncaught else Returned

abbrev pub finish_status : Finish → ℕ
finish_status Returned = 0
finish_status Uncaught = 1
finish_status Limited = 7
