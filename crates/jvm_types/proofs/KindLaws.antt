-- Every class number that a name has, and every type that a descriptor names, is one of the program.
use Rattle.std.proofs.Common.{◌≡◌, ℕ, suc, ◌+◌, ◌<◌, ◌≤◌, Bool, true, false, cond, List, [], ◌∷◌, length, Option, Some, None, IfSome, refl, subst, arith, ◌==◌, bytes_eq, codes}
use Rattle.std.{specs.{List.{AllByRecursion, position_from}, Option.{option_or, option_map, option_and_then}}, proofs.lemmas.Bool.{cond_both, Decides.nat_tests}}
use Rattle.jvm_types.specs.ClassNames.{numbered_names, class_number, is_class}
use Rattle.jvm_types.specs.Descriptors.{Types, Reading, followed, array_of, class_kind, types_from, read_from, only_kind, field_kind, Signature, result_kind, signature_returned, method_signature}
use Rattle.jvm_types.specs.{ProgramInvariant.IsKindOf, declared.program.{Kind.Kind, Program.Program}}
use Rattle.jvm_types.specs.declared.program.Kind.TheVariants as kinds

-- ---- class numbers

place_at : {X : Type 0} (from : ℕ) (xs : List X) (n : ℕ) (b : Bool) (rest : Option ℕ) → (rest ≡ Some n → (from + 1 ≤ n) × (n < from + 1 + length xs)) → cond b (Some from) rest ≡ Some n → (from ≤ n) × (n < from + suc (length xs))
place_at from xs n true rest h e = let is : from ≡ n = cc in (omega (arith, is), omega (arith, is))
place_at from xs n false rest h e = let in_rest = h e in (omega (arith, in_rest), omega (arith, in_rest))

-- a place that is found is one of the list
pub place_in : {X : Type 0} (test : X → Bool) (from : ℕ) (xs : List X) (n : ℕ) → position_from test from xs ≡ Some n → (from ≤ n) × (n < from + length xs)
place_in test from [] n e = absurd cc
place_in test from (x ∷ xs) n e = place_at from xs n (test x) (position_from test (from + 1) xs) (place_in test (from + 1) xs n) e

built_in : (files class : ℕ) → (1 ≤ class) × (class < 16) → is_class files class ≡ true
built_in files class h = grind (arith, nat_tests)

of_file : (files class : ℕ) → (17 ≤ class) × (class < 17 + files) → is_class files class ≡ true
of_file files class h = grind (arith, nat_tests)

numbered_at : (files class : ℕ) (here there : Option ℕ) → (here ≡ Some class → (1 ≤ class) × (class < 16)) → (there ≡ Some class → (17 ≤ class) × (class < 17 + files)) → option_or here there ≡ Some class → is_class files class ≡ true
numbered_at files class (Some n) there h k e = built_in files class (h e)
numbered_at files class None there h k e = of_file files class (k e)

-- a class that has a number is one of the program's
pub numbered : (names : List (List ℕ)) (text : List ℕ) (class : ℕ) → class_number names text ≡ Some class → is_class (length names) class ≡ true
numbered names text class e = numbered_at (length names) class (position_from (bytes_eq text) 1 numbered_names) (position_from (bytes_eq text) 17 names)
    (place_in (bytes_eq text) 1 numbered_names class) (place_in (bytes_eq text) 17 names class) e

-- ---- types

module _ (p : Program) where
  abbrev Kinds : Option Types → Type 0
  Kinds o = (t : Types) → o ≡ Some t → AllByRecursion (IsKindOf p) t.kinds

  ref_kind : (o : Option ℕ) → ((class : ℕ) → o ≡ Some class → is_class (length p.names) class ≡ true) → IfSome (option_map kinds.Ref o) (IsKindOf p)
  ref_kind None h = tt
  ref_kind (Some class) h = h class refl

  class_kind_in : (text : List ℕ) → IfSome (class_kind p.names text) (IsKindOf p)
  class_kind_in text = cond_both (bytes_eq text (codes "[I")) None (option_map kinds.Ref (class_number p.names text)) (λ o. IfSome o (IsKindOf p)) (λ e. tt)
      (λ e. ref_kind (class_number p.names text) (numbered p.names text))

  followed_in : (kind : Option Kind) (after : Option Types) → IfSome kind (IsKindOf p) → Kinds after → Kinds (followed kind after)
  followed_in (Some kind) (Some after) k h t e = subst (λ (u : Types). AllByRecursion (IsKindOf p) u.kinds) (some_is e) (k, h after refl)
    where
      some_is : {u v : Types} → Some u ≡ Some v → u ≡ v
      some_is e = cc
  followed_in (Some kind) None k h t e = absurd cc
  followed_in None after k h t e = absurd cc

  array_in : (ks : List Kind) (rest : List ℕ) → AllByRecursion (IsKindOf p) ks → Kinds (array_of ks rest)
  array_in (kinds.Int ∷ ks) rest h t e = subst (λ (u : Types). AllByRecursion (IsKindOf p) u.kinds) (some_is e) (built_in (length p.names) 2 (omega arith, omega arith), h.1)
    where
      some_is : {u v : Types} → Some u ≡ Some v → u ≡ v
      some_is e = cc
  array_in ks rest h t e = absurd cc

  arrays_in : (o : Option Types) → Kinds o → Kinds (option_and_then (λ t. array_of t.kinds t.rest) o)
  arrays_in None h t e = absurd cc
  arrays_in (Some u) h t e = array_in u.kinds u.rest (h u refl) t e

  none_in : (rest : List ℕ) → Kinds (Some (record { kinds = []; rest = rest }))
  none_in rest t e = subst (λ (u : Types). AllByRecursion (IsKindOf p) u.kinds) (some_is e) tt
    where
      some_is : {u v : Types} → Some u ≡ Some v → u ≡ v
      some_is e = cc

  record Known (r : Reading) : Type 0 where
    types : Kinds r.types
    behind : Kinds r.behind

  types_in : (byte : ℕ) (bytes : List ℕ) (after : Reading) → Known after → Kinds (types_from p.names byte bytes after)
  types_in byte bytes after h =
      cond_both (byte == 73) _ _ Kinds (λ e. followed_in (Some kinds.Int) after.types tt h.types)
      (λ e. cond_both (byte == 90) _ _ Kinds (λ e. followed_in (Some kinds.Bool) after.types tt h.types)
      (λ e. cond_both (byte == 91) _ _ Kinds (λ e. arrays_in after.types h.types)
      (λ e. cond_both (byte == 76) _ _ Kinds (λ e. followed_in (class_kind p.names after.name) after.behind (class_kind_in after.name) h.behind)
      (λ e. none_in (byte ∷ bytes)))))

  known : (bytes : List ℕ) → Known (read_from p.names bytes)
  known [] = record { types = none_in []; behind = λ t e. absurd cc }
  known (byte ∷ bytes) = record {
    types = types_in byte bytes (read_from p.names bytes) (known bytes);
    behind = cond_both (byte == 59) _ _ Kinds (λ e. (known bytes).types) (λ e. (known bytes).behind);
  }

  only_in : (ks : List Kind) (rest : List ℕ) → AllByRecursion (IsKindOf p) ks → IfSome (only_kind ks rest) (IsKindOf p)
  only_in (k ∷ []) [] h = h.0
  only_in ks rest h = tt

  one_in : (o : Option Types) → Kinds o → IfSome (option_and_then (λ t. only_kind t.kinds t.rest) o) (IsKindOf p)
  one_in None h = tt
  one_in (Some t) h = only_in t.kinds t.rest (h t refl)

  -- the type of a field
  pub field_kind_in : (text : List ℕ) → IfSome (field_kind p.names text) (IsKindOf p)
  field_kind_in text = one_in (read_from p.names text).types (known text).types

  -- ---- what a method takes and returns

  result_in : (text : List ℕ) → (kind : Option Kind) → result_kind p.names text ≡ Some kind → IfSome kind (IsKindOf p)
  result_in text kind = cond_both (bytes_eq text (codes "V")) (Some None) (option_map (λ k. Some k) (field_kind p.names text)) (λ o. o ≡ Some kind → IfSome kind (IsKindOf p))
      (λ b e. subst (λ (k : Option Kind). IfSome k (IsKindOf p)) (some_is e) tt) (λ b. mapped (field_kind p.names text) (field_kind_in text))
    where
      some_is : {j k : Option Kind} → Some j ≡ Some k → j ≡ k
      some_is e = cc

      mapped : (o : Option Kind) → IfSome o (IsKindOf p) → option_map (λ k. Some k) o ≡ Some kind → IfSome kind (IsKindOf p)
      mapped None h e = absurd cc
      mapped (Some k) h e = subst (λ (j : Option Kind). IfSome j (IsKindOf p)) (some_is e) h

  pub record KnownSignature (s : Signature) : Type 0 where
    pub args : AllByRecursion (IsKindOf p) s.args
    pub result : IfSome s.result (IsKindOf p)

  abbrev Signatures : Option Signature → Type 0
  Signatures o = (s : Signature) → o ≡ Some s → KnownSignature s

  some_signature : {r s : Signature} → Some r ≡ Some s → r ≡ s
  some_signature e = cc

  made : (args : List Kind) (o : Option (Option Kind)) → AllByRecursion (IsKindOf p) args → ((kind : Option Kind) → o ≡ Some kind → IfSome kind (IsKindOf p)) → Signatures (option_map (λ kind. record { args = args; result = kind }) o)
  made args None a h s e = absurd cc
  made args (Some kind) a h s e = subst KnownSignature (some_signature e) (record { args = a; result = h kind refl })

  returned_in : (args : List Kind) (rest : List ℕ) → AllByRecursion (IsKindOf p) args → Signatures (signature_returned p.names args rest)
  returned_in args [] a s e = absurd cc
  returned_in args (byte ∷ bytes) a s e = cond_both (byte == 41) _ None Signatures (λ b. made args (result_kind p.names bytes) a (result_in bytes)) (λ b s e. absurd cc) s e

  behind_types : (o : Option Types) → Kinds o → Signatures (option_and_then (λ t. signature_returned p.names t.kinds t.rest) o)
  behind_types None h s e = absurd cc
  behind_types (Some t) h s e = returned_in t.kinds t.rest (h t refl) s e

  -- the types of a method
  pub signature_in : (text : List ℕ) → Signatures (method_signature p.names text)
  signature_in [] s e = absurd cc
  signature_in (byte ∷ bytes) s e = cond_both (byte == 40) _ None Signatures (λ b. behind_types (read_from p.names bytes).types (known bytes).types) (λ b s e. absurd cc) s e
