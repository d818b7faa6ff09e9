-- Which lines may stand behind which.
use Rattle.std.specs.Prelude.{ℕ, nat_lt, Bool, true, false, if◌then◌else◌, List, [], ◌∷◌, Option}
use Rattle.std.specs.Prelude.{Some, None}
use Rattle.asm_text.specs.declared.items.MemberKind.{MemberKind}
use Rattle.asm_text.specs.declared.items.MemberKind.TheVariants as kinds
use Rattle.asm_text.specs.declared.items.Item.{Item}
use Rattle.asm_text.specs.declared.items.Item.TheVariants.{FileHead, Entry, Interface, MemberHead}
use Rattle.asm_text.specs.declared.items.Item.TheVariants.{Attribute, InitialValue, CodeHead}
use Rattle.asm_text.specs.declared.items.Item.TheVariants.{CodeBytes, Instruction, Row, End}
use Rattle.asm_text.specs.declared.places.ClassPart.{ClassPart}
use Rattle.asm_text.specs.declared.places.ClassPart.TheVariants as parts
use Rattle.asm_text.specs.declared.places.CodePart.{CodePart}
use Rattle.asm_text.specs.declared.places.CodePart.TheVariants as code_parts
use Rattle.asm_text.specs.declared.places.ListingPlace.{ListingPlace}
use Rattle.asm_text.specs.declared.places.ListingPlace.TheVariants.{Start, Class, Member, Code}

-- the order of the parts of a class
abbrev pub class_rank : ClassPart → ℕ
class_rank parts.Constants = 0
class_rank parts.Interfaces = 1
class_rank parts.Fields = 2
class_rank parts.Methods = 3
class_rank parts.Attributes = 4

abbrev pub code_rank : CodePart → ℕ
code_rank code_parts.Start = 0
code_rank code_parts.Instructions = 1
code_rank code_parts.Rows = 2
code_rank code_parts.Attributes = 3

abbrev pub part_of : MemberKind → ClassPart
part_of kinds.Field = parts.Fields
part_of kinds.Method = parts.Methods

-- a line of one part may stand in this part, behind which the listing is at a place
abbrev pub in_class : ClassPart → ClassPart → ListingPlace → Option ListingPlace
in_class own part next = if nat_lt (class_rank own) (class_rank part) then None else Some next

abbrev pub in_code : CodePart → CodePart → ListingPlace → Option ListingPlace
in_code own part next = if nat_lt (code_rank own) (code_rank part) then None else Some next

-- the place behind a line; None: no such line has a form at the place before
abbrev pub place_after : ListingPlace → Item → Option ListingPlace
place_after Start (FileHead minor major flags class super) = Some (Class parts.Constants)
place_after (Class part) (Entry c) = in_class parts.Constants part (Class parts.Constants)
place_after (Class part) (Interface class) = in_class parts.Interfaces part (Class parts.Interfaces)
place_after (Class part) (MemberHead kind flags name descriptor) =
    in_class (part_of kind) part (Member kind)
place_after (Class part) (Attribute a) = in_class parts.Attributes part (Class parts.Attributes)
place_after (Member kind) (Attribute a) = Some (Member kind)
place_after (Member kind) (InitialValue name constant) = Some (Member kind)
place_after (Member kind) (CodeHead name stack locals) = Some (Code kind code_parts.Start)
place_after (Member kind) End = Some (Class (part_of kind))
place_after (Code kind part) (CodeBytes bytes) =
    in_code code_parts.Start part (Code kind code_parts.Rows)
place_after (Code kind part) (Instruction opcode operands) =
    in_code code_parts.Instructions part (Code kind code_parts.Instructions)
place_after (Code kind part) (Row h) = in_code code_parts.Rows part (Code kind code_parts.Rows)
place_after (Code kind part) (Attribute a) =
    in_code code_parts.Attributes part (Code kind code_parts.Attributes)
place_after (Code kind part) End = Some (Member kind)
place_after place item = None

-- the place behind lines that follow one another
abbrev pub behind_next : Option ListingPlace → (ListingPlace → Option ListingPlace)
    → Option ListingPlace
behind_next None more = None
behind_next (Some place) more = more place

abbrev pub place_behind : ListingPlace → List Item → Option ListingPlace
place_behind place [] = Some place
place_behind place (item ∷ items) =
    behind_next (place_after place item) (λ next. place_behind next items)

-- a text may end here
abbrev pub is_end : ListingPlace → Bool
is_end (Class part) = true
is_end place = false
