-- The names of the files so far.
use Rattle.std.{proofs.Common.{◌≡◌, ◌<◌, ◌≤◌, ℕ, zero, suc, ◌+◌, List, [], ◌∷◌, ◌++◌, length, drop, refl, sym, ap, subst, ◌∙◌, append_assoc, arith, slice_index_or}, specs.List.AllZip}
use Rattle.std.proofs.lemmas.List.{append-nil, drop_all}
use Rattle.jvm_types.specs.{ClassGrammar.Spells, declared.class_file.ClassFile.ClassFile}
use Rattle.field_names.specs.FieldNames.{field_names_in, all_field_names}

-- the names of the files before a number, where those of the others complete them
abbrev pub AreNamed : (files : List (List ℕ)) → (i : ℕ) → (names : List (List ℕ)) → Type 0
AreNamed files i names = (classes : List ClassFile) → AllZip Spells files classes → (rest : List ClassFile) × AllZip Spells (drop i files) rest × (names ++ all_field_names rest ≡ all_field_names classes)

drop_next : (xs : List (List ℕ)) (i : ℕ) (x : List ℕ) → i < length xs → slice_index_or xs i x ≡ x → drop i xs ≡ x ∷ drop (i + 1) xs
drop_next xs i x h e = let next : suc i ≡ i + 1 = omega arith in by_item xs i h e ∙ ap (λ (k : ℕ). x ∷ drop k xs) next
  where
    by_item : (xs : List (List ℕ)) (i : ℕ) → i < length xs → slice_index_or xs i x ≡ x → drop i xs ≡ x ∷ drop (suc i) xs
    by_item [] i h e = absurd (omega (arith, h))
    by_item (y ∷ ys) zero h e = ap (λ (z : List ℕ). z ∷ ys) e
    by_item (y ∷ ys) (suc i) h e = by_item ys i (omega (arith, h)) e

pub one_more : (files names more : List (List ℕ)) (i : ℕ) (file : List ℕ) → i < length files → slice_index_or files i file ≡ file → ((c : ClassFile) → Spells file c → more ≡ names ++ field_names_in c) → AreNamed files i names → AreNamed files (i + 1) more
one_more files names more i file h e add so classes all = let left = so classes all in by_rest left.0 (subst (λ (fs : List (List ℕ)). AllZip Spells fs left.0) (drop_next files i file h e) left.1) left.2
  where
    by_rest : (rest : List ClassFile) → AllZip Spells (file ∷ drop (i + 1) files) rest → names ++ all_field_names rest ≡ all_field_names classes → (after : List ClassFile) × AllZip Spells (drop (i + 1) files) after × (more ++ all_field_names after ≡ all_field_names classes)
    by_rest [] a is = absurd a
    by_rest (c ∷ cs) a is = (cs, a.1, ap (λ (ns : List (List ℕ)). ns ++ all_field_names cs) (add c a.0) ∙ append_assoc names (field_names_in c) (all_field_names cs) ∙ is)

pub all_named : (files names : List (List ℕ)) (i : ℕ) → length files ≤ i → AreNamed files i names → (classes : List ClassFile) → AllZip Spells files classes → names ≡ all_field_names classes
all_named files names i h so classes all = let left = so classes all in by_rest left.0 (subst (λ (fs : List (List ℕ)). AllZip Spells fs left.0) (drop_all i files h) left.1) left.2
  where
    by_rest : (rest : List ClassFile) → AllZip Spells [] rest → names ++ all_field_names rest ≡ all_field_names classes → names ≡ all_field_names classes
    by_rest [] a is = sym (append-nil names) ∙ is
    by_rest (c ∷ cs) a is = absurd a
