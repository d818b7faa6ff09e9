-- What is owed to files that were read, and where one was not.
use Rattle.std.proofs.Common.{◌≡◌, ℕ, Bool, List, Option, Some, None, refl, arith}
use Rattle.jvm_types.specs.{LinkFaults.in_file, declared.{limits.TheConstants.MOST_FILE_BYTES, refusal.{CRule.TheVariants.C10, Place.Place, Rule.Rule}}}
use Rattle.checked_program.specs.MarkedProgram.{MarkedProgram}
use Rattle.run_texts.specs.Refusal.{refusal_text}
use Rattle.host_io.specs.{Reading.{IsUnread, first_long}, declared.shelf.{NamedFile.NamedFile, ShelfError.{ShelfError, TheVariants.{Memory, Failed, TooLong}}}}
use Rattle.command_words.specs.{Command.Asked, declared.request.{Mode.Mode, Task.{Task, TheVariants.{Replay, Run, Record, Mark}}}}
use Rattle.program_answers.{specs.declared.answer.Due.{Due, TheVariants.{Report, Output, Usage, Refusal, CannotRead, OutOfMemory}}, proofs.Faults.at_least}
use Rattle.solero.specs.{Answer.{IsDue, IsMadeBy, IsMadeIn, IsRefusedIn, Refuses}, Parts.{IsRefusalLine, IsContentsDue, IsUnreadDue}}
use Rattle.jvm_types.specs.declared.refusal.Rule.TheVariants as rules
use Rattle.command_words.specs.declared.request.Mode.TheVariants as modes

-- no task makes a refusal, and no mode
task_made_no_refusal : (task : Task) (asked : Asked) (checked : MarkedProgram) (text : List ℕ) → IsMadeBy task asked checked (Refusal text) → ⊥
task_made_no_refusal Replay asked checked text made = made
task_made_no_refusal Run asked checked text made = made
task_made_no_refusal Record asked checked text made = made
task_made_no_refusal Mark asked checked text made = made

made_no_refusal : (mode : Mode) (asked : Asked) (contents : List (List ℕ)) (text : List ℕ) → IsMadeIn mode asked contents (Refusal text) → ⊥
made_no_refusal (modes.Program task) asked contents text made = task_made_no_refusal task asked made.checked text made.made
made_no_refusal modes.List asked contents text made = made
made_no_refusal modes.Assemble asked contents text made = made
made_no_refusal modes.Load asked contents text made = made
made_no_refusal modes.Cell asked contents text made = made

-- what the mode makes of files, none of which is too long, is due to them
pub made_run : (asked : Asked) (contents : List (List ℕ)) (due : Due) → IsMadeIn asked.mode asked contents due → IsContentsDue asked contents due
made_run asked contents (Refusal text) made = absurd (made_no_refusal asked.mode asked contents text made)
made_run asked contents OutOfMemory made = tt
made_run asked contents (Report finish text) made = made
made_run asked contents (Output text) made = made
made_run asked contents Usage made = made
made_run asked contents (CannotRead text) made = made

-- the line of what refuses files, none of which is too long, is due to them
pub refused_run : (asked : Asked) (contents : List (List ℕ)) (rule : Rule) (place : Place) (due : Due) → first_long 0 contents ≡ None → IsRefusedIn asked.mode asked contents rule place → IsRefusalLine (refusal_text rule place) due → IsContentsDue asked contents due
refused_run asked contents rule place (Refusal text) short refused line = record { rule = rule; place = place; refused = rw short refused; is_line = line }
refused_run asked contents rule place OutOfMemory short refused line = tt
refused_run asked contents rule place due short refused line = absurd line

-- ---- a file that was not read

-- the line of a file that is too long refuses contents of which it is the first
long_refused : (asked : Asked) (contents : List (List ℕ)) (file : ℕ) (text : List ℕ) → first_long 0 contents ≡ Some file → text ≡ refusal_text (rules.C C10) (in_file file MOST_FILE_BYTES) → Refuses asked contents text
long_refused asked contents file text long line = record {
  rule = rules.C C10;
  place = in_file file MOST_FILE_BYTES;
  refused = rw long (refl, refl);
  is_line = line;
}

-- what is due where a file was not read is due to the names
pub unread_due : (files : Option (List NamedFile)) (unreadable : Option (List ℕ → Bool)) (asked : Asked) (before after file : ℕ) (error : ShelfError) (due : Due) → IsUnread files unreadable asked.files before after file error → IsUnreadDue file error due → IsDue (Some asked) files unreadable before after due
unread_due files unreadable asked before after file TooLong (Refusal text) unread line = (unread.0, record { contents = unread.1.contents; are = unread.1.are; many = unread.1.many; refuses = long_refused asked unread.1.contents file text unread.1.first line })
unread_due files unreadable asked before after file Failed (CannotRead text) unread line = (unread.0, record { file = file; unread = unread.1; is_line = line })
unread_due files unreadable asked before after file TooLong OutOfMemory unread line = omega arith
unread_due files unreadable asked before after file Failed OutOfMemory unread line = at_least before after unread.0
unread_due files unreadable asked before after file Memory OutOfMemory unread line = unread
unread_due files unreadable asked before after file Memory due unread line = absurd cc
unread_due files unreadable asked before after file error due unread line = absurd line
