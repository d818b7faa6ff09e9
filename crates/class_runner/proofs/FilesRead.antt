-- Reading goes over the files in order.
use Rattle.std.{proofs.Common.{◌≡◌, ℕ, ◌+◌, ◌<◌, ◌≤◌, List, [], ◌∷◌, ◌++◌, length, get_or, drop, Option, None, refl, sym, subst, ap, ◌∙◌, append_assoc, append-nil}, specs.List.AllZip}
use Rattle.std.{specs.Option.{option_map, option_or}, proofs.lemmas.List.{drop_more, drop_all}}
use Rattle.jvm_types.specs.{ClassGrammar.Spells, ReadingClass.class_fault, declared.{class_file.ClassFile.ClassFile, refusal.{CRule.CRule, Place.Place, Rule.{Rule, TheVariants.{C, K, L, V, S, A}}}}}
use Rattle.class_runner.specs.{Loading.read_fault, Stages.{file_fault, IsClassUnread, AreReadSoFar}, declared.loading.FileError.{FileError, TheVariants.{Memory, Refused}}}

pub begins : (files : List (List ℕ)) → AreReadSoFar files 0 []
begins files = record { whole = λ rest h. h; fault = refl }

pub ends : (files : List (List ℕ)) (i : ℕ) (classes : List ClassFile) → length files ≤ i → AreReadSoFar files i classes → AllZip Spells files classes
ends files i classes past so_far =
    let none : drop i files ≡ [] = drop_all i files past in
    subst (AllZip Spells files) (append-nil classes) (so_far.whole [] (rw none tt))

-- the file of this number, and those behind it
faulted : (files : List (List ℕ)) (i : ℕ) (bytes : List ℕ) → i < length files → bytes ≡ get_or files i bytes → read_fault i (drop i files) ≡ option_or (file_fault i bytes) (read_fault (i + 1) (drop (i + 1) files))
faulted files i bytes within is = ap (read_fault i) (drop_more files i bytes within) ∙ ap (λ (b : List ℕ). option_or (file_fault i b) (read_fault (i + 1) (drop (i + 1) files))) (sym is)

passes : (o : Option (CRule × ℕ)) (f : CRule × ℕ → Rule × Place) (other : Option (Rule × Place)) → o ≡ None → option_or (option_map f o) other ≡ other
passes o f other e = rw e refl

pub goes_on : (files : List (List ℕ)) (i : ℕ) (classes : List ClassFile) (bytes : List ℕ) (c : ClassFile) → i < length files → bytes ≡ get_or files i bytes → Spells bytes c → class_fault bytes ≡ None
    → AreReadSoFar files i classes → AreReadSoFar files (i + 1) (classes ++ c ∷ [])
goes_on files i classes bytes c within is spelled faultless so_far = record {
  whole = λ rest h. rw append_assoc (so_far.whole (c ∷ rest) (rw (drop_more files i bytes within) (subst (λ (b : List ℕ). Spells b c) is spelled, h)));
  fault = sym (faulted files i bytes within is ∙ passes (class_fault bytes) _ (read_fault (i + 1) (drop (i + 1) files)) faultless) ∙ so_far.fault;
}

found_first : (o other : Option (Rule × Place)) (e : FileError) → IsClassUnread o e → IsClassUnread (option_or o other) e
found_first o other Memory h = tt
found_first o other (Refused (C rule) place) h = rw h refl
found_first o other (Refused (K rule) place) h = h
found_first o other (Refused (L rule) place) h = h
found_first o other (Refused (V rule) place) h = h
found_first o other (Refused (S rule) place) h = h
found_first o other (Refused (A rule) place) h = h

pub stops : (files : List (List ℕ)) (i : ℕ) (classes : List ClassFile) (bytes : List ℕ) (e : FileError) → i < length files → bytes ≡ get_or files i bytes → IsClassUnread (file_fault i bytes) e
    → AreReadSoFar files i classes → IsClassUnread (read_fault 0 files) e
stops files i classes bytes e within is unread so_far =
    subst (λ (o : Option (Rule × Place)). IsClassUnread o e) (sym (faulted files i bytes within is) ∙ so_far.fault) (found_first (file_fault i bytes) (read_fault (i + 1) (drop (i + 1) files)) e unread)
