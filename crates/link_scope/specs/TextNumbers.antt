-- Texts by numbers: equal texts have one number, and what a text means is known by its number.
use Rattle.std.specs.Prelude.{◌≡◌, ℕ, bytes_eq, List, [], map, Option, Some, is_some, IsSomeAnd}
use Rattle.std.specs.Prelude.{slice_get}
use Rattle.std.specs.Map.{lookup}
use Rattle.jvm_types.specs.ClassNames.{class_number, named_class}
use Rattle.jvm_types.specs.Descriptors.{field_kind, method_signature}
use Rattle.link_scope.specs.declared.texts.Meaning.{Meaning}
use denote.Ref.{Bor}

-- the number of a text, where it has one
abbrev pub number_of : List (List ℕ × ℕ) → List ℕ → Option ℕ
number_of numbers text = lookup (bytes_eq text) numbers

-- a text has this number
abbrev pub IsNumbered : List (List ℕ × ℕ) → List ℕ → ℕ → Type 0
IsNumbered numbers text n = number_of numbers text ≡ Some n

-- no two texts have one number
abbrev pub AreApart : List (List ℕ × ℕ) → Type 0
AreApart numbers =
    (text other : List ℕ) (n : ℕ) → IsNumbered numbers text n → IsNumbered numbers other n
    → text ≡ other

-- each text keeps its number
abbrev pub Keeps : List (List ℕ × ℕ) → List (List ℕ × ℕ) → Type 0
Keeps old new = (text : List ℕ) (n : ℕ) → IsNumbered old text n → IsNumbered new text n

-- what a text names as a class, and says as a descriptor, among classes of these names
pub record IsMeaning (names : List (List ℕ)) (text : List ℕ) (m : Meaning) : Type 0 where
  pub class : m.class ≡ class_number names text
  pub named : m.named ≡ named_class names text
  pub kind : m.kind ≡ field_kind names text
  pub is_method : m.is_method ≡ is_some (method_signature names text)

-- numbered texts, by the names of the classes that they may name
pub record Numbered : Type 0 where
  pub names : List (List ℕ)
  pub numbers : List (List ℕ × ℕ)
  pub count : ℕ

-- the numbers of texts behind references
abbrev pub by_bytes : List (Bor (List ℕ) × ℕ) → List (List ℕ × ℕ)
by_bytes entries = map {B = List ℕ × ℕ} (λ (e : Bor (List ℕ) × ℕ). (e.0.now, e.1)) entries

-- the empty text has the number 0, no two texts have one number, and each text's meaning stands at
-- its number
pub record AreTexts (names : List (List ℕ)) (numbers : List (List ℕ × ℕ)) (meanings : List Meaning)
    : Type 0 where
  pub empty : IsNumbered numbers [] 0
  pub apart : AreApart numbers
  pub meant : (text : List ℕ) (n : ℕ) → IsNumbered numbers text n
      → IsSomeAnd (slice_get meanings n) (IsMeaning names text)
