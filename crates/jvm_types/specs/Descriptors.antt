-- Descriptors (JVMS 4.3.2, 4.3.3). The types of this machine are I, Z, `[I`, and references to the
-- classes that have a number; the standard has further base types and arrays of every type. A
-- descriptor of anything else has no meaning here.
use Rattle.std.specs.Prelude.{ℕ, bytes_eq, ◌==◌, List, [], ◌∷◌, Option, Some, None, codes}
use Rattle.std.specs.Prelude.{if◌then◌else◌}
use Rattle.std.specs.Option.{option_map, option_and_then}
use Rattle.jvm_types.specs.ClassNames.{class_number}
use Rattle.jvm_types.specs.declared.class_numbers.TheConstants.{INT_ARRAY_CLASS}
use Rattle.jvm_types.specs.declared.program.Kind.{Kind}
use Rattle.jvm_types.specs.declared.program.Kind.TheVariants as kinds

-- types one after another, and what stands behind them, from the first byte on that begins no type
pub record Types : Type 0 where
  pub kinds : List Kind
  pub rest : List ℕ

-- a type, where there is one, in front of those that follow it, where they are well formed
abbrev pub followed : Option Kind → Option Types → Option Types
followed (Some kind) (Some after) = Some (record { kinds = kind ∷ after.kinds; rest = after.rest })
followed kind after = None

-- the array of the first of some types: of int alone there are arrays
abbrev pub array_of : List Kind → List ℕ → Option Types
array_of (kinds.Int ∷ after) rest =
    Some (record { kinds = kinds.Ref INT_ARRAY_CLASS ∷ after; rest = rest })
array_of kinds rest = None

-- the type `L` name `;`: a class that has a number, and not the array class, whose type is `[I`
abbrev pub class_kind : List (List ℕ) → List ℕ → Option Kind
class_kind names text =
    if bytes_eq text (codes "[I") then None else option_map kinds.Ref (class_number names text)

-- The bytes of a descriptor from some place on, read in both ways: as types, and as what is left of
-- the name of a class up to the next `;`, with what stands behind that. None where a type that
-- begins
-- with `[` or `L` is cut or is none of this machine's; any other byte begins no type and is left in
-- `rest`.
pub record Reading : Type 0 where
  pub types : Option Types
  pub name : List ℕ
  pub behind : Option Types

-- the types from a byte on: `I`, `Z`, `[` and an element type, `L` and the name of a class up to
-- `;`
abbrev pub types_from : List (List ℕ) → ℕ → List ℕ → Reading → Option Types
types_from names byte bytes after =
    if byte == 73 then followed (Some kinds.Int) after.types
    else if byte == 90 then followed (Some kinds.Bool) after.types
    else if byte == 91 then option_and_then (λ t. array_of t.kinds t.rest) after.types
    else if byte == 76 then followed (class_kind names after.name) after.behind
    else Some (record { kinds = []; rest = byte ∷ bytes })

abbrev pub read_byte : List (List ℕ) → ℕ → List ℕ → Reading → Reading
read_byte names byte bytes after = record {
  types = types_from names byte bytes after;
  name = if byte == 59 then [] else byte ∷ after.name;
  behind = if byte == 59 then after.types else after.behind;
}

abbrev pub read_from : List (List ℕ) → List ℕ → Reading
read_from names [] =
    record { types = Some (record { kinds = []; rest = [] }); name = []; behind = None }
read_from names (byte ∷ bytes) = read_byte names byte bytes (read_from names bytes)

-- one type and nothing else
abbrev pub only_kind : List Kind → List ℕ → Option Kind
only_kind (kind ∷ []) [] = Some kind
only_kind kinds rest = None

-- the type that a field descriptor names (JVMS 4.3.2), in a program whose classes have these names
abbrev pub field_kind : List (List ℕ) → List ℕ → Option Kind
field_kind names text = option_and_then (λ t. only_kind t.kinds t.rest) (read_from names text).types

-- the types of a method's arguments, without its receiver, and that of its result; None stands for
-- V
pub record Signature : Type 0 where
  pub args : List Kind
  pub result : Option Kind

-- a return descriptor: V, or a type
abbrev pub result_kind : List (List ℕ) → List ℕ → Option (Option Kind)
result_kind names text =
    if bytes_eq text (codes "V") then Some None
    else option_map (λ kind. Some kind) (field_kind names text)

-- behind the arguments there is `)`, and a return descriptor
abbrev pub signature_returned : List (List ℕ) → List Kind → List ℕ → Option Signature
signature_returned names args [] = None
signature_returned names args (byte ∷ bytes) =
    if byte == 41
    then option_map (λ kind. record { args = args; result = kind }) (result_kind names bytes)
    else None

-- what a method descriptor says (JVMS 4.3.3): `(`, the types of the arguments, `)`, and what it
-- returns
abbrev pub method_signature : List (List ℕ) → List ℕ → Option Signature
method_signature names [] = None
method_signature names (byte ∷ bytes) =
    if byte == 40
    then option_and_then (λ t. signature_returned names t.kinds t.rest)
    (read_from names bytes).types else None
