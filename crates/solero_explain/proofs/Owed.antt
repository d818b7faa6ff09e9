-- What is owed to files that were read, and where one was not.
use Rattle.std.proofs.Common.{◌≡◌, ℕ, Bool, List, Option, Some, None, inl, refl, arith, []}
use Rattle.jvm_types.specs.{LinkFaults.in_file, declared.{limits.TheConstants.MOST_FILE_BYTES, refusal.{CRule.TheVariants.C10, Place.Place, Rule.Rule}}}
use Rattle.refusal_places.specs.Explained.{Explains}
use Rattle.class_runner.specs.Loading.{IsRefusedBy}
use Rattle.host_io.specs.{Reading.{IsUnread, first_long}, declared.shelf.{NamedFile.NamedFile, ShelfError.{ShelfError, TheVariants.{Memory, Failed, TooLong}}}}
use Rattle.program_answers.{specs.declared.answer.Due.{Due, TheVariants.{Refusal, CannotRead, OutOfMemory}}, proofs.Faults.at_least}
use Rattle.solero_explain.specs.{Answer.{ExplainsRefusal, IsExplainDue}, Command.Question, Parts.{IsDueToFiles, IsRefusalExplained, IsUnreadExplained}}
use Rattle.jvm_types.specs.declared.refusal.Rule.TheVariants as rules

-- what refuses files, none of which is too long, is due to them when it is explained
pub refused_files : (asked : Question) (contents : List (List ℕ)) (rule : Rule) (place : Place) (due : Due) → first_long 0 contents ≡ None → IsRefusedBy contents asked.heap asked.threads rule place → IsRefusalExplained asked rule place contents due → IsDueToFiles asked contents due
refused_files asked contents rule place (Refusal text) short refused explained = record { rule = rule; place = place; refused = rw short refused; explained = rw short explained }
refused_files asked contents rule place OutOfMemory short refused explained = tt
refused_files asked contents rule place due short refused explained = absurd explained

-- a file that is too long refuses contents of which it is the first
long_refused : (asked : Question) (contents : List (List ℕ)) (file : ℕ) (text : List ℕ) → first_long 0 contents ≡ Some file
    → Explains asked.form (rules.C C10) (in_file file MOST_FILE_BYTES) asked.files [] text → ExplainsRefusal asked contents text
long_refused asked contents file text long explained = record {
  rule = rules.C C10;
  place = in_file file MOST_FILE_BYTES;
  refused = rw long (refl, refl);
  explained = rw long explained;
}

-- what is due where a file was not read is due to the names
pub unread_due : (files : Option (List NamedFile)) (unreadable : Option (List ℕ → Bool)) (asked : Question) (before after file : ℕ) (error : ShelfError) (due : Due) → IsUnread files unreadable asked.files before after file error → IsUnreadExplained asked file error due → IsExplainDue (Some asked) files unreadable before after due
unread_due files unreadable asked before after file TooLong (Refusal text) unread explained = (unread.0, record { contents = unread.1.contents; are = unread.1.are; many = unread.1.many; explains = long_refused asked unread.1.contents file text unread.1.first explained })
unread_due files unreadable asked before after file Failed (CannotRead text) unread line = (unread.0, inl (record { file = file; unread = unread.1; is_line = line }))
unread_due files unreadable asked before after file TooLong OutOfMemory unread line = omega arith
unread_due files unreadable asked before after file Failed OutOfMemory unread line = at_least before after unread.0
unread_due files unreadable asked before after file Memory OutOfMemory unread line = unread
unread_due files unreadable asked before after file Memory due unread line = absurd cc
unread_due files unreadable asked before after file error due unread line = absurd line
