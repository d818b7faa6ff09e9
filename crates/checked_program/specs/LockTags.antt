-- Lock tags, frames of them, and their order. Two places with the same tag, other than none, hold
-- the same value.
use Rattle.std.specs.Prelude.{◌≡◌, ℕ, ◌-◌, Bool, true, false, ◌&&◌, ◌==◌, if◌then◌else◌, List, []}
use Rattle.std.specs.Prelude.{◌∷◌, ◌++◌, length, map, replicate}
use Rattle.jvm_types.specs.Members.{is_static}
use Rattle.jvm_types.specs.declared.program.MethodInfo.{MethodInfo}
use Rattle.checked_program.specs.declared.tag.Tag.{Tag}
use Rattle.checked_program.specs.declared.tag.Tag.TheVariants.{Untagged, This, At}

-- ---- tags

abbrev pub is_this : Tag → Bool
is_this This = true
is_this t = false

abbrev pub same_tag : Tag → Tag → Bool
same_tag Untagged Untagged = true
same_tag This This = true
same_tag (At pc) (At at) = pc == at
same_tag t u = false

abbrev pub same_tags : List Tag → List Tag → Bool
same_tags [] [] = true
same_tags (t ∷ ts) (u ∷ us) = same_tag t u && same_tags ts us
same_tags ts us = false

-- where two edges meet a place keeps a tag that both bring
abbrev pub meet_tags : List Tag → List Tag → List Tag
meet_tags (t ∷ ts) (u ∷ us) = (if same_tag t u then t else Untagged) ∷ meet_tags ts us
meet_tags ts us = []

-- the tag of the `dup` at a pc is taken from every place
abbrev pub without : ℕ → List Tag → List Tag
without pc ts = map (λ t. if same_tag t (At pc) then Untagged else t) ts

-- places of which the first have these tags, and the others up to a count none
abbrev pub filled_tags : ℕ → List Tag → List Tag
filled_tags n ts = ts ++ replicate (n - length ts) Untagged

-- ---- frames

-- the tags before an instruction, with the top of the stack and the innermost held tag first
pub record TagShape : Type 0 where
  pub stack : List Tag
  pub locals : List Tag
  -- of the monitors that the method has entered and not left; that of a synchronized method is not
  -- among them
  pub held : List Tag

-- at the start of a method `this` is in local 0 of an instance method
abbrev pub entry_tags : MethodInfo → TagShape
entry_tags m =
    record {
      stack = [];
      locals =
          if is_static m.flags then replicate m.max_locals Untagged
          else This ∷ replicate (m.max_locals - 1) Untagged;
      held = [];
    }

-- ---- the order

-- a tag may be lost along an edge, and never changes
abbrev pub IsTagBelow : Tag → Tag → Type 0
IsTagBelow t Untagged = Unit {0}
IsTagBelow t This = t ≡ This
IsTagBelow t (At pc) = t ≡ At pc

-- place by place, as far as there are places in the second
abbrev pub AreTagsBelow : List Tag → List Tag → Type 0
AreTagsBelow ts [] = Unit {0}
AreTagsBelow [] (u ∷ us) = ⊥
AreTagsBelow (t ∷ ts) (u ∷ us) = IsTagBelow t u × AreTagsBelow ts us

pub record IsShapeBelow (f g : TagShape) : Type 0 where
  pub stack : AreTagsBelow f.stack g.stack
  pub locals : AreTagsBelow f.locals g.locals
  pub held : f.held ≡ g.held
