-- What a program owes: a text, and a status with it.
use Rattle.std.specs.Prelude.{ℕ, List, codes}
use Rattle.run_texts.specs.Report.{line}
use Rattle.program_answers.specs.Finish.{finish_status}
use Rattle.program_answers.specs.declared.answer.Due.{Due}
use Rattle.program_answers.specs.declared.answer.Due.TheVariants.{Report, Output, Usage, Refusal}
use Rattle.program_answers.specs.declared.answer.Due.TheVariants.{CannotRead, OutOfMemory}

abbrev pub status_of : Due → ℕ
status_of (Report finish text) = finish_status finish
status_of (Output text) = 0
status_of Usage = 2
status_of (Refusal text) = 3
status_of (CannotRead text) = 4
status_of OutOfMemory = 6

-- the text, in a program of this line of use
abbrev pub due_text : (usage : List ℕ) → Due → List ℕ
due_text usage (Report finish text) = text
due_text usage (Output text) = text
due_text usage Usage = usage
due_text usage (Refusal text) = text
due_text usage (CannotRead text) = text
due_text usage OutOfMemory = line (codes "out of memory")
