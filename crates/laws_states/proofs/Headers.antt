-- Headers: of an object that is there, and of one that is made.
use Rattle.std.proofs.Common.{◌≡◌, ℕ, zero, suc, ◌+◌, ◌-◌, ◌<◌, ◌≤◌, Bool, true, false, not, ◌&&◌, List, [], ◌∷◌, length, Some, None, refl, ap, sym, subst, ◌∙◌, arith, ◌==◌, nat_lt, replicate, option_map, slice_get, if◌then◌else◌, IsSome}
use Rattle.std.{specs.List.range_with_len, proofs.lemmas.{Bool.Decides.nat_tests, List.{length-replicate, FromFn.get_or-range_with_len}, Option.{get_or_from_slice_get, slice_get-map, slice_get_within}}}
use Rattle.jvm_types.specs.{ClassNames.{is_class, is_throwable}, Members.is_static, ProgramInvariant.{IsProgram, IsClassOf, instances_among}, declared.class_numbers.TheConstants.INT_ARRAY_CLASS}
use Rattle.jvm_types.specs.declared.{fixed_words.TheConstants.OBJECT_HEAD_WORDS, limits.TheConstants.MOST_FILES, outcome.Thrown.Thrown, program.{FieldInfo.FieldInfo, MethodInfo.MethodInfo}}
use Rattle.jvm_types.specs.declared.{program.Program.Program, typing.VType.{VType, TheVariants.{Ref, New}}}
use Rattle.checked_program.proofs.FewFields.{counts_few}
use Rattle.machine_types.specs.{FoundWords.IsHeader, NewObjects.size_by, PlainMemory.{Object, header_of, new_object}, ReadyObjects.{class_of, thrown_of, throwables}}
use Rattle.machine_types.specs.Words.{header, header_class, header_length, object_size, array_size}
use Rattle.laws_threads.specs.Allowed.{MadeAs}

-- ---- a class and a length

pub class_is : (class count : ℕ) → class < 65536 → header_class (header class count) ≡ class
class_is class count h = omega (arith, h)

pub length_is : (class count : ℕ) → class < 65536 → header_length (header class count) ≡ count
length_is class count h = omega (arith, h)

-- ---- an object that is there

pub array_length : (o : Object) → o.class ≡ INT_ARRAY_CLASS → header_length (header_of o) ≡ length o.values
array_length o e = let array : (o.class == INT_ARRAY_CLASS) ≡ true = grind (arith, nat_tests, e) in rw array (length_is o.class (length o.values) (omega (arith, e)))

pub class_small : (o : Object) → o.class < 65536 → header_class (header_of o) ≡ o.class
class_small o h = class_is o.class (if o.class == INT_ARRAY_CLASS then length o.values else 0) h

-- ---- throwables

numbered : (k : ℕ) (class : Thrown) → slice_get throwables k ≡ Some class → class_of class ≡ 4 + k
numbered k class e = sym (get_or_from_slice_get (range_with_len 4 12) k (class_of class) 0 (slice_get-map class_of throwables k ∙ ap (option_map class_of) e))
    ∙ get_or-range_with_len 4 12 k 0 (slice_get_within throwables k class e)

pub thrown_is : (d : ℕ) (class : Thrown) → thrown_of d ≡ Some class → class_of class ≡ d
thrown_is d class e = (elim (nat_lt d 4) as (λ (b : Bool). nat_lt d 4 ≡ b → (if b then None else slice_get throwables (d - 4)) ≡ Some class → class_of class ≡ d)
    [ true ↦ λ t e. absurd (cc) | false ↦ λ t e. let from : 4 ≤ d = grind (arith, nat_tests, t) in omega (arith, numbered (d - 4) class e, from) ]) refl e

got_some : {X : Type 0} (xs : List X) (i : ℕ) → i < length xs → IsSome (slice_get xs i)
got_some [] i h = absurd (omega (arith, h))
got_some (x ∷ xs) zero h = refl
got_some (x ∷ xs) (suc i) h = got_some xs i (omega (arith, h))

pub throwable_small : (d : ℕ) → is_throwable d ≡ true → (4 ≤ d) × (d < 16)
throwable_small d e = (grind (arith, nat_tests, e), grind (arith, nat_tests, e))

pub thrown_some : (d : ℕ) → is_throwable d ≡ true → IsSome (thrown_of d)
thrown_some d e = (elim (nat_lt d 4) as (λ (b : Bool). nat_lt d 4 ≡ b → IsSome (if b then None else slice_get throwables (d - 4)))
    [ true ↦ λ t. absurd (let from = (throwable_small d e).0 in grind (arith, nat_tests, t, from)) | false ↦ λ t. got_some throwables (d - 4) (omega (arith, (throwable_small d e).1)) ]) refl

-- ---- an object that is made

module _ (p : Program) (is_program : IsProgram p) where
  pub class_below : (class : ℕ) → IsClassOf p class → class < 65536
  class_below class h = of_test (length p.names) class is_program.files h
    where
      of_test : (files class : ℕ) → files ≤ MOST_FILES → is_class files class ≡ true → class < 65536
      of_test files class few e = let below : class < 17 + files = grind (arith, nat_tests, e) in omega (arith, below, few)

  no_field : (i : ℕ) (f : FieldInfo) → slice_get p.fields i ≡ Some f → (f.class == INT_ARRAY_CLASS) && not (is_static f.flags) ≡ true → ⊥
  no_field i f e passes = absurd (omega (arith, (is_program.fields i f e).class.0, same f.class (not (is_static f.flags)) passes))
    where
      same : (n : ℕ) (b : Bool) → (n == INT_ARRAY_CLASS) && b ≡ true → n ≡ INT_ARRAY_CLASS
      same n b e = grind (arith, nat_tests, e)

  -- an object of a class, also if it were that of arrays
  size_of_class : (class : ℕ) → class < 65536 → size_by p (header class 0) ≡ object_size p class
  size_of_class class h = by_test (header_class (header class 0) == INT_ARRAY_CLASS) refl
    where
      is : header_class (header class 0) ≡ class
      is = class_is class 0 h

      by_test : (b : Bool) → (header_class (header class 0) == INT_ARRAY_CLASS) ≡ b → (if b then array_size (header_length (header class 0)) else object_size p (header_class (header class 0))) ≡ object_size p class
      by_test true t =
          let none : instances_among class p.fields ≡ instances_among INT_ARRAY_CLASS p.fields = ap (λ n. instances_among n p.fields) (sym is ∙ (grind (arith, nat_tests, t))) in
          omega (arith, length_is class 0 h, none, (counts_few (λ f. (f.class == INT_ARRAY_CLASS) && not (is_static f.flags)) 0 p.fields (λ i f e passes. absurd (no_field i f e passes))))
      by_test false t = ap (object_size p) is

  size_of_array : (count : ℕ) → size_by p (header INT_ARRAY_CLASS count) ≡ array_size count
  size_of_array count =
      let array : (header_class (header INT_ARRAY_CLASS count) == INT_ARRAY_CLASS) ≡ true = grind (arith, nat_tests, class_is INT_ARRAY_CLASS count (omega arith)) in
      rw array (ap array_size (length_is INT_ARRAY_CLASS count (omega arith)))

  pub class_header : (class : ℕ) → IsClassOf p class → IsHeader p (header class 0)
  class_header class h =
      let none = length_is class 0 (class_below class h) in
      record { class = λ other. subst (IsClassOf p) (sym (class_is class 0 (class_below class h))) h; unsized = λ other. none; fits = omega (arith, none) }

  array_header : (count : ℕ) → count ≤ p.heap → IsHeader p (header INT_ARRAY_CLASS count)
  array_header count h =
      let is = class_is INT_ARRAY_CLASS count (omega arith) in
      record {
        class = λ other. subst (IsClassOf p) (sym is) (grind (arith, nat_tests));
        unsized = λ other. absurd (other is);
        fits = omega (arith, h, length_is INT_ARRAY_CLASS count (omega arith));
      }

  pub made_header : (m : MethodInfo) (type : VType) (word size : ℕ) → MadeAs p m type word size → IsHeader p word × (size_by p word ≡ size)
  made_header m (New pc) word size k =
      (subst (IsHeader p) (sym k.3) (class_header k.0 k.2), ap (size_by p) k.3 ∙ (size_of_class k.0 (class_below k.0 k.2) ∙ sym k.4))
  made_header m (Ref class) word size k =
      (subst (IsHeader p) (sym k.3) (array_header k.1 k.2), ap (size_by p) k.3 ∙ (size_of_array k.1 ∙ sym k.4))
  made_header m type word size k = absurd (assumption)

  -- the header of the object that is there then
  pub new_header : (a word : ℕ) → IsHeader p word → header_of (new_object a word (size_by p word)) ≡ word
  new_header a word k = by_test (header_class word == INT_ARRAY_CLASS) refl
    where
      by_test : (b : Bool) → (header_class word == INT_ARRAY_CLASS) ≡ b
          → header (header_class word) (if b then length {A = ℕ} (replicate ((if b then array_size (header_length word) else object_size p (header_class word)) - OBJECT_HEAD_WORDS) 0) else 0) ≡ word
      by_test true t = omega (arith, length-replicate {A = ℕ} (array_size (header_length word) - OBJECT_HEAD_WORDS) 0)
      by_test false t = omega (arith, k.unsized (λ e. absurd (grind (arith, nat_tests, e, t))))
