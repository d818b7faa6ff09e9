-- What the parts of the work find due.
use Rattle.std.specs.Prelude.{◌≡◌, ℕ, List}
use Rattle.jvm_types.specs.LinkFaults.{in_file}
use Rattle.jvm_types.specs.declared.refusal.Rule.TheVariants as rules
use Rattle.jvm_types.specs.declared.refusal.CRule.TheVariants.{C10}
use Rattle.class_runner.specs.declared.loading.FileError.{FileError}
use Rattle.class_runner.specs.declared.loading.FileError.TheVariants as errors
use Rattle.run_texts.specs.Refusal.{refusal_text}
use Rattle.command_words.specs.Command.{Asked}
use Rattle.program_answers.specs.Unread.{IsUnreadLine}
use Rattle.solero.specs.Answer.{IsLoadRefused, IsMadeIn, IsRefusedIn, IsRefusedText, Refuses}
use Rattle.jvm_types.specs.declared.limits.TheConstants.{MOST_FILE_BYTES}
use Rattle.host_io.specs.declared.shelf.ShelfError.{ShelfError}
use Rattle.host_io.specs.declared.shelf.ShelfError.TheVariants.{Memory, Failed, TooLong}
use Rattle.command_words.specs.declared.request.Mode.{Mode}
use Rattle.program_answers.specs.declared.answer.Due.{Due}
use Rattle.program_answers.specs.declared.answer.Due.TheVariants.{Refusal, OutOfMemory}

-- the line of a refusal, or want of memory
abbrev pub IsRefusalLine : List ℕ → Due → Type 0
IsRefusalLine refusal (Refusal text) = text ≡ refusal
IsRefusalLine refusal OutOfMemory = Unit {0}
IsRefusalLine refusal due = ⊥

-- what is due where the file of this number is not read
abbrev pub IsUnreadDue : ℕ → ShelfError → Due → Type 0
IsUnreadDue file TooLong due =
    IsRefusalLine (refusal_text (rules.C C10) (in_file file MOST_FILE_BYTES)) due
IsUnreadDue file Failed due = IsUnreadLine file due
IsUnreadDue file Memory due = due ≡ OutOfMemory

-- what is due to the contents of the files, none of which is too long
abbrev pub IsContentsDue : Asked → List (List ℕ) → Due → Type 0
IsContentsDue asked contents (Refusal text) = Refuses asked contents text
IsContentsDue asked contents OutOfMemory = Unit {0}
IsContentsDue asked contents due = IsMadeIn asked.mode asked contents due

-- nothing is made of the files: memory ran out, or a rule refuses them in the mode
abbrev pub IsNotMadeIn : Mode → Asked → List (List ℕ) → FileError → Type 0
IsNotMadeIn mode asked contents errors.Memory = Unit {0}
IsNotMadeIn mode asked contents (errors.Refused rule place) =
    IsRefusedIn mode asked contents rule place

-- nothing is made of a load: memory ran out, or a rule refuses its class
abbrev pub IsLoadNotMade : Asked → FileError → Type 0
IsLoadNotMade asked errors.Memory = Unit {0}
IsLoadNotMade asked (errors.Refused rule place) = IsLoadRefused asked rule place

-- no class is assembled: memory ran out, or a rule refuses the text
abbrev pub IsNotAssembled : List (List ℕ) → FileError → Type 0
IsNotAssembled files errors.Memory = Unit {0}
IsNotAssembled files (errors.Refused rule place) = IsRefusedText files rule place
