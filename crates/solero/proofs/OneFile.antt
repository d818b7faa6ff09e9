-- One file, and the one class that is read of it.
use Rattle.std.{proofs.Common.{◌≡◌, ℕ, ◌<◌, ◌≤◌, Bool, true, false, if◌then◌else◌, List, [], ◌∷◌, length, get_or, Option, Some, None, refl, sym, subst, ap, ◌∙◌, arith, nat_lt}, specs.List.AllZip}
use Rattle.std.proofs.lemmas.{Bool.ltb-false, Slice.Zip.AllZip-long}
use Rattle.jvm_types.specs.{ClassGrammar.{IsClass, Spells}, declared.{class_file.ClassFile.ClassFile, limits.TheConstants.MOST_FILE_BYTES}}
use Rattle.host_io.specs.Reading.{first_long}

pub some_class : (files : List (List ℕ)) (classes items : List ClassFile) → length files ≡ 1 → AllZip Spells files classes → items ≡ classes → 0 < length items
some_class files classes items one read same = omega (arith, one, AllZip-long Spells files classes read, ap length same)

-- it is the first of those that are read
pub one_class : (files : List (List ℕ)) (classes items : List ClassFile) (class : ClassFile) → length files ≡ 1 → AllZip Spells files classes → items ≡ classes → class ≡ get_or items 0 class → AllZip Spells files (class ∷ []) × IsClass class
one_class [] classes items class one read same is = absurd (omega (arith, one))
one_class (bytes ∷ other ∷ files) classes items class one read same is = absurd (omega (arith, one))
one_class (bytes ∷ []) [] items class one read same is = absurd read
one_class (bytes ∷ []) (c ∷ d ∷ classes) items class one read same is = absurd read.1
one_class (bytes ∷ []) (c ∷ []) items class one read same is =
    let e : class ≡ c = is ∙ ap (λ (xs : List ClassFile). get_or xs 0 class) same in
    subst (λ (x : ClassFile). AllZip Spells (bytes ∷ []) (x ∷ []) × IsClass x) (sym e) (read, read.0.is)

-- it is the first item
pub one_file : (files items : List (List ℕ)) (file : List ℕ) → length files ≡ 1 → items ≡ files → file ≡ get_or items 0 file → files ≡ file ∷ []
one_file [] items file one same is = absurd (omega (arith, one))
one_file (x ∷ y ∷ files) items file one same is = absurd (omega (arith, one))
one_file (x ∷ []) items file one same is =
    let e : file ≡ x = is ∙ ap (λ (xs : List (List ℕ)). get_or xs 0 file) same in
    ap (λ (y : List ℕ). y ∷ []) (sym e)

abbrev only_if : Bool → Option ℕ
only_if b = if b then Some 0 else None

-- it is not too long
pub short_file : (file : List ℕ) → first_long 0 (file ∷ []) ≡ None → length file ≤ MOST_FILE_BYTES
short_file file none = by_test (nat_lt MOST_FILE_BYTES (length file)) refl none
  where
    by_test : (b : Bool) → nat_lt MOST_FILE_BYTES (length file) ≡ b → only_if b ≡ None → length file ≤ MOST_FILE_BYTES
    by_test true e none = absurd cc
    by_test false e none = ltb-false MOST_FILE_BYTES (length file) e
