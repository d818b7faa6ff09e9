-- What reading the lines of a text answers.
use Rattle.std.specs.Prelude.{◌≡◌, ℕ, ◌+◌, ◌≤◌, Bool, true, false, List, [], ◌∷◌, length, Option}
use Rattle.std.specs.Prelude.{Some, None, Result, Ok, Err, IfOk}
use Rattle.class_writer.specs.declared.error.WriteError.{WriteError}
use Rattle.class_writer.specs.declared.error.WriteError.TheVariants as write_errors
use Rattle.jvm_types.specs.declared.refusal.ARule.TheVariants.{A1, A2}
use Rattle.asm_text.specs.Lines.{line_text}
use Rattle.asm_text.specs.Items.{item_line, ItemFits}
use Rattle.asm_text.specs.Places.{place_after, is_end}
use Rattle.asm_text.specs.Drafting.{line_added, drafted, new_draft}
use Rattle.assembler.specs.Assembling.{HasFirstLines, IsFirstUnformed}
use Rattle.asm_text.specs.declared.items.Item.{Item}
use Rattle.asm_text.specs.declared.places.ListingPlace.{ListingPlace}
use Rattle.asm_text.specs.declared.places.ListingPlace.TheVariants.{Start}
use Rattle.asm_text.specs.declared.drafts.Draft.{Draft}
use Rattle.assembler.specs.declared.asm_error.AsmError.{AsmError}
use Rattle.assembler.specs.declared.asm_error.AsmError.TheVariants.{Memory, Refused}

-- a line that has a form at its place, and what it makes of the draft
pub record IsLine (place : ListingPlace) (line : List ℕ) (old new : Draft) (next : ListingPlace)
    : Type 0 where
  pub item : Item
  pub fits : ItemFits item
  pub says : line ≡ line_text (item_line item)
  pub follows : place_after place item ≡ Some next
  pub makes : new ≡ line_added place old item

-- the place behind a line, or that it has no form at its place
abbrev pub IsNextPlace : ListingPlace → List ℕ → Draft → Draft → Option ListingPlace → Type 0
IsNextPlace place line old new (Some next) = IsLine place line old new next
IsNextPlace place line old new None =
    (item : Item) → ItemFits item → line ≡ line_text (item_line item)
    → place_after place item ≡ None

-- a text may end at the place, and nothing is left
abbrev pub is_whole : List ℕ → ListingPlace → Bool
is_whole [] place = is_end place
is_whole (b ∷ rest) place = false

-- the lines so far
pub record AreDrafted (text : List ℕ) (place : ListingPlace) (draft : Draft) (number : ℕ)
    (rest : List ℕ) : Type 0 where
  pub items : List Item
  pub begins : HasFirstLines text items place rest
  pub makes : draft ≡ drafted Start new_draft items
  pub counted : number ≡ length items + 1
  pub short : number + length rest ≤ length text + 1

pub record IsWholeDraft (text : List ℕ) (draft : Draft) : Type 0 where
  pub items : List Item
  pub place : ListingPlace
  pub begins : HasFirstLines text items place []
  pub ended : is_end place ≡ true
  pub makes : draft ≡ drafted Start new_draft items

abbrev pub IsDrafted : List ℕ → Result Draft AsmError → Type 0
IsDrafted text (Ok draft) = IsWholeDraft text draft
IsDrafted text (Err Memory) = Unit {0}
IsDrafted text (Err (Refused A1 at)) = IsFirstUnformed text at
IsDrafted text (Err (Refused A2 at)) = ⊥

-- ---- writing a class

-- whether a class was written; want of memory is no answer
abbrev pub IsVerdict : {E : Type 0} → Result (List ℕ) WriteError → Result Bool E → Type 0
IsVerdict (Ok bytes) r = IfOk r (λ is. is ≡ true)
IsVerdict (Err write_errors.Memory) r = IfOk r (λ is. ⊥)
IsVerdict (Err error) r = IfOk r (λ is. is ≡ false)
