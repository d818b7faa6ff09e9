-- The signature of a method as its descriptor says it, and the parts of descriptors.
use Rattle.std.specs.Prelude.{◌≡◌, ℕ, ◌<◌, ◌==◌, Bool, true, false, List, [], ◌∷◌, ◌++◌, length}
use Rattle.std.specs.Prelude.{Option, Some, None}
use Rattle.std.specs.Option.{option_and_then}
use Rattle.std.specs.List.{list_any}
use Rattle.jvm_types.specs.Descriptors.{Types, followed, read_from, signature_returned}
use Rattle.jvm_types.specs.Descriptors.{Signature as Meaning}
use Rattle.descriptors.specs.declared.reading.Signature.{Signature}
use Rattle.descriptors.specs.declared.reading.Front.{Front}
use Rattle.descriptors.specs.declared.reading.Cut.{Cut}
use Rattle.descriptors.specs.declared.reading.Args.{Args}

-- what a signature says
abbrev pub meaning : Signature → Meaning
meaning s = record { args = s.args; result = s.result }

-- a text up to its first `;`, and behind it
abbrev pub IsCut : List ℕ → Option Cut → Type 0
IsCut text None = list_any (λ b. b == 59) text ≡ false
IsCut text (Some c) =
    (text ≡ c.name.now ++ 59 ∷ c.rest.now) × (list_any (λ b. b == 59) c.name.now ≡ false)

-- a text begins with this type, or with none
abbrev pub IsFront : List (List ℕ) → List ℕ → Option Front → Type 0
IsFront names text None = (t : Types) → (read_from names text).types ≡ Some t → t.kinds ≡ []
IsFront names text (Some f) =
    ((read_from names text).types ≡ followed (Some f.kind) (read_from names f.rest.now).types)
    × (length f.rest.now < length text)

-- the types of arguments end at a `)`, or where the text ends
abbrev pub ends_args : List ℕ → Bool
ends_args [] = true
ends_args (byte ∷ bytes) = byte == 41

-- the types of arguments, and what stands behind them; or there is no signature with these
-- arguments
abbrev pub IsArgs : List (List ℕ) → List ℕ → Option Args → Type 0
IsArgs names text None =
    option_and_then (λ t. signature_returned names t.kinds t.rest) (read_from names text).types
    ≡ None
IsArgs names text (Some a) =
    (read_from names text).types ≡ Some (record { kinds = a.kinds; rest = a.rest.now })
