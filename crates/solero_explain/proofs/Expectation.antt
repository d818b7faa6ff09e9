-- What is due where the file of expected outcomes is not read.
use Rattle.std.proofs.Common.{◌≡◌, ℕ, Bool, true, false, List, Option, Some, None, Err, inr, refl}
use Rattle.std.specs.Prelude.{IfSome, length}
use Rattle.host_io.specs.{Faults.CountsFault, Shelf.FailsBy, declared.shelf.{NamedFile.NamedFile, ShelfError.TheVariants.Failed}}
use Rattle.program_answers.{specs.{Unread.IsUnreadLine, declared.answer.Due.{Due, TheVariants.{CannotRead, OutOfMemory}}}, proofs.Faults.at_least}
use Rattle.solero_explain.specs.{Answer.IsExplainDue, Command.Question, Parts.IsDueToExpected}

-- a shelf that tells that it can read a file does not fail there
fails_true : (A : Type 0) (b : Bool) → FailsBy {A = A} b (Err Failed) → b ≡ true
fails_true A true f = refl
fails_true A false f = absurd f

fails_where_told : (A : Type 0) (unreadable : Option (List ℕ → Bool)) (name : List ℕ) → IfSome unreadable (λ test. FailsBy {A = A} (test name) (Err Failed)) → IfSome unreadable (λ test. test name ≡ true)
fails_where_told A None name f = tt
fails_where_told A (Some test) name f = fails_true A (test name) f

pub unread_expected : (A : Type 0) (unreadable : Option (List ℕ → Bool)) (name : List ℕ) (number before after : ℕ) (due : Due) → CountsFault before after → IfSome unreadable (λ test. FailsBy {A = A} (test name) (Err Failed)) → IsUnreadLine number due → IsDueToExpected unreadable (Some name) number before after due
unread_expected A unreadable name number before after (CannotRead text) counts fails line = (counts, fails_where_told A unreadable name fails, line)
unread_expected A unreadable name number before after OutOfMemory counts fails line = at_least before after counts
unread_expected A unreadable name number before after due counts fails line = absurd line

due_by : (files : Option (List NamedFile)) (unreadable : Option (List ℕ → Bool)) (asked : Question) (before after : ℕ) (name : Option (List ℕ)) (due : Due) → asked.expect ≡ name → IsDueToExpected unreadable name (length asked.files) before after due → IsExplainDue (Some asked) files unreadable before after due
due_by files unreadable asked before after None due e d = absurd d
due_by files unreadable asked before after (Some name) (CannotRead text) e d = (d.0, inr (name, e, d.1, d.2))
due_by files unreadable asked before after (Some name) OutOfMemory e d = d
due_by files unreadable asked before after (Some name) due e d = absurd d

pub expected_due : (files : Option (List NamedFile)) (unreadable : Option (List ℕ → Bool)) (asked : Question) (before after : ℕ) (due : Due) → IsDueToExpected unreadable asked.expect (length asked.files) before after due → IsExplainDue (Some asked) files unreadable before after due
expected_due files unreadable asked before after due d = due_by files unreadable asked before after asked.expect due refl d
