-- What is answered in full: where nothing outside fails, files that all rules let pass are answered
-- by what the mode makes of them, and others by the line of their refusal, written whole; or by the
-- line of want of memory.
use Rattle.std.specs.Prelude.{◌≡◌, ℕ, ◌-◌, ◌<◌, ◌^◌, List, ◌++◌, Option, Some}
use Rattle.std.specs.Option.{option_map}
use Rattle.program_answers.specs.Answers.{due_text, status_of}
use Rattle.solero.specs.Answer.{IsMadeOf, RefusesFiles, usage_line}
use Rattle.command_words.specs.Command.{Asked}
use Rattle.host_io.specs.declared.shelf.NamedFile.{NamedFile}
use Rattle.program_answers.specs.declared.answer.Due.{Due}
use Rattle.program_answers.specs.declared.answer.Due.TheVariants.{Refusal, OutOfMemory}

-- a count of faults stands still below its end, so no fault came
abbrev pub IsCalm : (before after : ℕ) → Type 0
IsCalm before after = (after ≡ before) × (before < 2 ^ 64 - 1)

-- a report or marks, as the mode has it, or want of memory
abbrev pub IsOwed : Asked → List NamedFile → Due → Type 0
IsOwed asked files OutOfMemory = Unit {0}
IsOwed asked files due = IsMadeOf (Some files) asked due

-- the line of the rule and the place that refuse the files, or want of memory
abbrev pub IsOwedRefusal : Asked → List NamedFile → Due → Type 0
IsOwedRefusal asked files (Refusal text) = RefusesFiles (Some files) asked text
IsOwedRefusal asked files OutOfMemory = Unit {0}
IsOwedRefusal asked files due = ⊥

-- The text of what is owed was written whole to a sink that told some bytes, and tells the bytes
-- now; and its status is answered.
pub record AnswersWhole (Owed : Due → Type 0) (told now : Option (List ℕ)) (status : ℕ)
    : Type 0 where
  pub due : Due
  pub owed : Owed due
  pub written : now ≡ option_map (λ t. t ++ due_text usage_line due) told
  pub answered : status ≡ status_of due
