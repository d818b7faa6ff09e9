-- Reading and writing undo each other.
use Rattle.std.proofs.Common.{◌≡◌, ◌⊎◌, inl, inr, ℕ, List, Result, Ok, Err, refl, sym, ap, ◌∙◌}
use Rattle.jvm_types.{specs.{ClassGrammar.Spells, declared.class_file.ClassFile.ClassFile}, proofs.{ClassLawProofs.spelled_if_read, ClassReads.read_again, CountLaws.classes_fit}}
use Rattle.class_writer.specs.{Laws.{ReadsWhatWasWritten, WritesWhatWasRead}, Writing.Answers, declared.error.WriteError.{WriteError, TheVariants.{Memory, TooLarge, NoSpelling}}}

pub reads_back : ReadsWhatWasWritten
reads_back bytes c spells = read_again bytes c spells

writes_spelled : (bytes : List ℕ) (c : ClassFile) (answer : Result (List ℕ) WriteError) → Spells bytes c → Answers c answer → (answer ≡ Ok bytes) ⊎ (answer ≡ Err Memory)
writes_spelled bytes c (Ok written) is spells = inl (ap (λ (x : List ℕ). Ok x) (spells.spelled ∙ sym is.spelled))
writes_spelled bytes c (Err Memory) is free = inr refl
writes_spelled bytes c (Err TooLarge) is large = absurd (large (classes_fit c is.is))
writes_spelled bytes c (Err NoSpelling) is none = absurd (none.1 bytes is)

pub writes_back : WritesWhatWasRead
writes_back bytes c answer fits e answers = writes_spelled bytes c answer (spelled_if_read bytes c fits e) answers
