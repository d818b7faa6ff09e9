-- The orders of classes, of types and of frames.
use Rattle.std.specs.Prelude.{◌≡◌, Bool, true, length}
use Rattle.jvm_types.specs.ClassTree.{is_subclass, common_ancestor}
use Rattle.jvm_types.specs.Types.{TypeFrame, is_below, meet, frame_below, meet_frames}

-- a test is an order
pub record IsOrder {A : Type 0} (below : A → A → Bool) : Type 0 where
  pub reflexive : (a : A) → below a a ≡ true
  pub transitive : (a b c : A) → below a b ≡ true → below b c ≡ true → below a c ≡ true
  pub antisymmetric : (a b : A) → below a b ≡ true → below b a ≡ true → a ≡ b

-- what two are joined to is the least that both are below
pub record IsLeastAbove {A : Type 0} (below : A → A → Bool) (joined : A → A → A) : Type 0 where
  pub first : (a b : A) → below a (joined a b) ≡ true
  pub second : (a b : A) → below b (joined a b) ≡ true
  pub least : (a b c : A) → below a c ≡ true → below b c ≡ true → below (joined a b) c ≡ true

-- a class is below itself and its ancestors
abbrev pub ClassesAreOrdered : Type 0
ClassesAreOrdered = IsOrder is_subclass

abbrev pub CommonAncestorIsLeast : Type 0
CommonAncestorIsLeast = IsLeastAbove is_subclass common_ancestor

abbrev pub TypesAreOrdered : Type 0
TypesAreOrdered = IsOrder is_below

abbrev pub MeetIsLeast : Type 0
MeetIsLeast = IsLeastAbove is_below meet

-- frames, place by place
abbrev pub FramesAreOrdered : Type 0
FramesAreOrdered = IsOrder frame_below

-- where two frames have as many values on their stacks and as many locals
abbrev pub FramesMeet : Type 0
FramesMeet =
    (f g : TypeFrame) → length f.stack ≡ length g.stack → length f.locals ≡ length g.locals
    → (frame_below f (meet_frames f g) ≡ true) × (frame_below g (meet_frames f g) ≡ true)
    × ((h : TypeFrame) → frame_below f h ≡ true → frame_below g h ≡ true
    → frame_below (meet_frames f g) h ≡ true)
