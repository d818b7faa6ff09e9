-- What assembling a text answers.
use Rattle.std.specs.Prelude.{◌≡◌, ℕ, ◌+◌, true, false, List, [], ◌++◌, length, Some, None, Result}
use Rattle.std.specs.Prelude.{Ok, Err}
use Rattle.std.specs.List.{AllByRecursion}
use Rattle.jvm_types.specs.declared.class_file.ClassFile.{ClassFile}
use Rattle.jvm_types.specs.declared.refusal.ARule.TheVariants.{A1, A2}
use Rattle.asm_text.specs.Lines.{line_text}
use Rattle.asm_text.specs.ClassLines.{Lists}
use Rattle.asm_text.specs.Items.{item_line, items_text, ItemFits}
use Rattle.asm_text.specs.Places.{place_after, place_behind, is_end}
use Rattle.asm_text.specs.declared.items.Item.{Item}
use Rattle.asm_text.specs.declared.places.ListingPlace.{ListingPlace}
use Rattle.asm_text.specs.declared.places.ListingPlace.TheVariants.{Start}
use Rattle.assembler.specs.declared.asm_error.AsmError.{AsmError}
use Rattle.assembler.specs.declared.asm_error.AsmError.TheVariants.{Memory, Refused}

-- the text begins with these lines, each of which has a form at its place; what is behind them, and
-- at which place
pub record HasFirstLines (text : List ℕ) (items : List Item) (place : ListingPlace) (rest : List ℕ)
    : Type 0 where
  pub parts : text ≡ items_text items ++ rest
  pub fit : AllByRecursion ItemFits items
  pub follow : place_behind Start items ≡ Some place

-- no line at the front has a form at the place, or there is none and more lines have to come
pub record IsUnformed (place : ListingPlace) (rest : List ℕ) : Type 0 where
  pub front : (item : Item) (more : List ℕ) → ItemFits item
      → rest ≡ line_text (item_line item) ++ more → place_after place item ≡ None
  pub early : rest ≡ [] → is_end place ≡ false

-- the number of the first line without a form at its place, or of the line that is wanted behind
-- the last one
pub record IsFirstUnformed (text : List ℕ) (number : ℕ) : Type 0 where
  pub items : List Item
  pub place : ListingPlace
  pub rest : List ℕ
  pub begins : HasFirstLines text items place rest
  pub unformed : IsUnformed place rest
  pub counted : number ≡ length items + 1

-- each line has a form at its place, and the text may end behind the last one
pub record IsFormed (text : List ℕ) : Type 0 where
  pub items : List Item
  pub place : ListingPlace
  pub begins : HasFirstLines text items place []
  pub ended : is_end place ≡ true

abbrev pub ListsNone : List ℕ → Type 0
ListsNone text = (c : ClassFile) → Lists text c → ⊥

-- the class that the text lists; want of memory, which is free; A1 at the first line without a
-- form; or A2, where all lines have their forms and the text lists no class
abbrev pub Assembles : List ℕ → Result ClassFile AsmError → Type 0
Assembles text (Ok c) = Lists text c
Assembles text (Err Memory) = Unit {0}
Assembles text (Err (Refused A1 at)) = IsFirstUnformed text at
Assembles text (Err (Refused A2 at)) = (at ≡ 0) × IsFormed text × ListsNone text

-- ---- laws

-- no text lists two classes
abbrev pub ListsAtMostOneClass : Type 0
ListsAtMostOneClass = (text : List ℕ) (c d : ClassFile) → Lists text c → Lists text d → c ≡ d

-- no class has two listings
abbrev pub HasAtMostOneListing : Type 0
HasAtMostOneListing =
    (text other : List ℕ) (c : ClassFile) → Lists text c → Lists other c → text ≡ other

-- each line of a listing has a form at its place
abbrev pub ListingsAreFormed : Type 0
ListingsAreFormed =
    (text : List ℕ) (c : ClassFile) (number : ℕ) → Lists text c → IsFirstUnformed text number → ⊥
