-- What descriptors say, by the texts of types (JVMS 4.3.2, 4.3.3).
use Rattle.std.specs.Prelude.{◌≡◌, ◌⊎◌, ◌↔◌, ℕ, ◌==◌, false, List, [], ◌∷◌, ◌++◌, Option, Some}
use Rattle.std.specs.Prelude.{None, codes}
use Rattle.std.specs.List.{list_any}
use Rattle.jvm_types.specs.declared.class_numbers.TheConstants.{INT_ARRAY_CLASS}
use Rattle.jvm_types.specs.Descriptors.{class_kind, field_kind, Signature, method_signature}
use Rattle.jvm_types.specs.declared.program.Kind.{Kind}
use Rattle.jvm_types.specs.declared.program.Kind.TheVariants as kinds

-- the text of a class: `L`, its name, in which there is no `;`, and `;`
pub record SpellsClass (names : List (List ℕ)) (class : ℕ) (text : List ℕ) : Type 0 where
  pub name : List ℕ
  pub is : text ≡ 76 ∷ (name ++ 59 ∷ [])
  pub known : class_kind names name ≡ Some (kinds.Ref class)
  pub plain : list_any (λ b. b == 59) name ≡ false

-- the text of a type, in a program whose classes have these names
abbrev pub SpellsKind : List (List ℕ) → Kind → List ℕ → Type 0
SpellsKind names kinds.Int text = text ≡ codes "I"
SpellsKind names kinds.Bool text = text ≡ codes "Z"
SpellsKind names (kinds.Ref class) text =
    ((class ≡ INT_ARRAY_CLASS) × (text ≡ codes "[I")) ⊎ SpellsClass names class text

-- the texts of types one after another
abbrev pub SpellsKinds : List (List ℕ) → List Kind → List ℕ → Type 0
SpellsKinds names [] text = text ≡ []
SpellsKinds names (kind ∷ kinds) text =
    (front : List ℕ) × (rest : List ℕ) × (text ≡ front ++ rest) × SpellsKind names kind front
    × SpellsKinds names kinds rest

-- a return descriptor
abbrev pub SpellsResult : List (List ℕ) → Option Kind → List ℕ → Type 0
SpellsResult names None text = text ≡ codes "V"
SpellsResult names (Some kind) text = SpellsKind names kind text

-- a method descriptor: `(`, the types of the arguments, `)`, and what is returned
pub record SpellsSignature (names : List (List ℕ)) (s : Signature) (text : List ℕ) : Type 0 where
  pub args : List ℕ
  pub result : List ℕ
  pub is : text ≡ 40 ∷ (args ++ 41 ∷ result)
  pub spelled_args : SpellsKinds names s.args args
  pub spelled_result : SpellsResult names s.result result

-- a field descriptor names a type exactly where it is its text
abbrev pub FieldsAreSpelled : Type 0
FieldsAreSpelled =
    (names : List (List ℕ)) (text : List ℕ) (kind : Kind)
    → (field_kind names text ≡ Some kind) ↔ SpellsKind names kind text

-- a method descriptor has a meaning exactly where it is its text
abbrev pub MethodsAreSpelled : Type 0
MethodsAreSpelled =
    (names : List (List ℕ)) (text : List ℕ) (s : Signature)
    → (method_signature names text ≡ Some s) ↔ SpellsSignature names s text
