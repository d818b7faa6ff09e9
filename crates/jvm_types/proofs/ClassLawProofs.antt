-- The laws of the class grammar.
use Rattle.std.proofs.{Common.{◌≡◌, ℕ, ◌≤◌, List, length, None, Result, Ok, Err, sym, ap, ◌∙◌}, lemmas.Result.{IfOk-at_ok, IfErr-at_err}}
use Rattle.jvm_types.specs.{ClassGrammar.Spells, ClassLaws.{HasAtMostOneSpelling, SpellsAtMostOneClass, IsSpelledOrFaulty, ReadsWhatIsSpelled, FaultsLieInside}}
use Rattle.jvm_types.{specs.{ReadingClass.{read_class, fault_of, class_fault}, ReadingSteps.Fault, declared.class_file.ClassFile.ClassFile}, proofs.ClassReads.{read_takes, read_again}}
use Rattle.jvm_types.proofs.{FaultPlaces.read_near, StepLaws.{IsBytes, Finds}}

pub one_spelling : HasAtMostOneSpelling
one_spelling a b c p q = p.spelled ∙ sym q.spelled

pub one_class : SpellsAtMostOneClass
one_class bytes c d p q = let e = sym (read_again bytes c p) ∙ read_again bytes d q in cc

read_from_none : {A : Type 0} (n : ℕ) (r : Result A Fault) (P : A → Type 0) → Finds r P → fault_of n r ≡ None → (x : A) × P x
read_from_none n (Ok x) P given e = (x, given.ok)
read_from_none n (Err f) P given e = absurd cc

pub spelled_or_faulty : IsSpelledOrFaulty
unfolding class_fault
spelled_or_faulty bytes fits = (
  λ none. read_from_none (length bytes) (read_class bytes) (Spells bytes) (read_takes bytes fits) none,
  λ spelled. ap (fault_of (length bytes)) (read_again bytes spelled.0 spelled.1),
)

pub faults_inside : FaultsLieInside
faults_inside bytes f fits e = IfErr-at_err (λ g. g.left ≤ length bytes) e (read_near bytes fits).place

-- for a reader that gives what reading gives: it gives the class that is spelled, and that class alone
pub spelled_if_read : (bytes : List ℕ) (c : ClassFile) → IsBytes bytes → read_class bytes ≡ Ok c → Spells bytes c
spelled_if_read bytes c fits e = IfOk-at_ok (Spells bytes) e (read_takes bytes fits).ok

pub reads_what_is_spelled : ReadsWhatIsSpelled
reads_what_is_spelled bytes c fits = (spelled_if_read bytes c fits, read_again bytes c)
