-- What the parts of the work find due.
use Rattle.std.specs.Prelude.{◌≡◌, ◌≤◌, ℕ, Bool, true, List, [], Option, Some, None}
use Rattle.std.specs.Prelude.{IfSome, Result, Ok, Err}
use Rattle.checked_program.specs.MarkedProgram.{MarkedProgram}
use Rattle.host_io.specs.Faults.{CountsFault}
use Rattle.host_io.specs.declared.shelf.NamedFile.{NamedFile}
use Rattle.solero_explain.specs.Requests.{question_by}
use Rattle.solero_explain.specs.declared.program.Found.{Found}
use Rattle.solero_explain.specs.declared.program.Found.TheVariants as founds
use Rattle.solero_explain.specs.declared.program.Work.{Work}
use Rattle.solero_explain.specs.declared.program.Work.TheVariants as works
use Rattle.host_io.specs.declared.shelf.ShelfError.{ShelfError}
use Rattle.host_io.specs.declared.shelf.ShelfError.TheVariants.{Memory, Failed, TooLong}
use Rattle.jvm_types.specs.LinkFaults.{in_file}
use Rattle.jvm_types.specs.declared.limits.TheConstants.{MOST_FILE_BYTES}
use Rattle.jvm_types.specs.declared.refusal.CRule.TheVariants.{C10}
use Rattle.jvm_types.specs.declared.refusal.Place.{Place}
use Rattle.jvm_types.specs.declared.refusal.Rule.{Rule}
use Rattle.jvm_types.specs.declared.refusal.Rule.TheVariants as rules
use Rattle.refusal_places.specs.Explained.{Explains}
use Rattle.program_answers.specs.Unread.{IsUnreadLine}
use Rattle.run_texts.specs.Unread.{unread_line}
use Rattle.program_answers.specs.declared.answer.Due.{Due}
use Rattle.program_answers.specs.declared.answer.Due.TheVariants.{CannotRead, Output, Refusal}
use Rattle.program_answers.specs.declared.answer.Due.TheVariants.{OutOfMemory}
use Rattle.solero_explain.specs.Answer.{ExplainsRefusal, IsExpected, IsExplainDue, IsRunOf}
use Rattle.solero_explain.specs.Answer.{RunsFiles}
use Rattle.solero_explain.specs.Answer.{TellsProgram}
use Rattle.solero_explain.specs.Command.{Question}

-- a refusal that is explained, with the contents of the files that were read, or want of memory
abbrev pub IsRefusalExplained : Question → Rule → Place → (contents : List (List ℕ)) → Due → Type 0
IsRefusalExplained asked rule place contents (Refusal text) =
    Explains asked.form rule place asked.files contents text
IsRefusalExplained asked rule place contents OutOfMemory = Unit {0}
IsRefusalExplained asked rule place contents due = ⊥

-- what is due where the file of this number is not read
abbrev pub IsUnreadExplained : Question → ℕ → ShelfError → Due → Type 0
IsUnreadExplained asked file TooLong due =
    IsRefusalExplained asked (rules.C C10) (in_file file MOST_FILE_BYTES) [] due
IsUnreadExplained asked file Failed due = IsUnreadLine file due
IsUnreadExplained asked file Memory due = due ≡ OutOfMemory

-- what is due to the contents of the files, none of which is too long
abbrev pub IsDueToFiles : Question → List (List ℕ) → Due → Type 0
IsDueToFiles asked contents (Output text) = TellsProgram asked contents text
IsDueToFiles asked contents (Refusal text) = ExplainsRefusal asked contents text
IsDueToFiles asked contents OutOfMemory = Unit {0}
IsDueToFiles asked contents due = ⊥

-- a text that is told, or want of memory
abbrev pub IsDueOf : {E : Type 0} → Result (List ℕ) E → Due → Type 0
IsDueOf (Ok text) due = due ≡ Output text
IsDueOf (Err e) due = due ≡ OutOfMemory

-- what is found in the contents of the files, none of which is too long
abbrev pub IsFoundIn : Question → List (List ℕ) → Found → Type 0
IsFoundIn asked contents (founds.Due due) = IsDueToFiles asked contents due
IsFoundIn asked contents (founds.Program checked names) = IsRunOf asked contents checked names

-- what is found in the files that are asked for
abbrev pub IsFoundInFiles : Option (List NamedFile) → Option (List ℕ → Bool) → Question
    → (before after : ℕ) → Found → Type 0
IsFoundInFiles files unreadable asked before after (founds.Due due) =
    IsExplainDue (Some asked) files unreadable before after due
IsFoundInFiles files unreadable asked before after (founds.Program checked names) =
    (after ≡ before) × RunsFiles files asked checked names

-- what is due where the file of expected outcomes, which is asked for by that name, is not read
abbrev pub IsDueToExpected : Option (List ℕ → Bool) → (name : Option (List ℕ)) → (number : ℕ)
    → (before after : ℕ) → Due → Type 0
IsDueToExpected unreadable None number before after due = ⊥
IsDueToExpected unreadable (Some name) number before after (CannotRead text) =
    CountsFault before after × IfSome unreadable (λ test. test name ≡ true)
    × (text ≡ unread_line number)
IsDueToExpected unreadable (Some name) number before after OutOfMemory = before ≤ after
IsDueToExpected unreadable (Some name) number before after due = ⊥

-- what is to be done for the words
abbrev pub IsWork : Option Question → Option (List NamedFile) → Option (List ℕ → Bool)
    → (before after : ℕ) → Work → Type 0
IsWork asked files unreadable before after (works.Due due) =
    IsExplainDue asked files unreadable before after due
IsWork None files unreadable before after (works.Run request checked names expected) = ⊥
IsWork (Some asked) files unreadable before after (works.Run request checked names expected) =
    (asked ≡ question_by request) × (after ≡ before) × RunsFiles files asked checked names
    × IsExpected files asked.expect expected
