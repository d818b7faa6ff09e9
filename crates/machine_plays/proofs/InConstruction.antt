-- Construction, for a thread that is written out: in an `<init>` of a frozen class, which a `new` in the frame below waits for.
use Rattle.std.proofs.{Common.{◌≡◌, ◌≢◌, ℕ, zero, suc, Bool, true, false, List, [], ◌∷◌, Some, None, refl, sym, ap, subst, ◌∙◌, arith, map, slice_get, ◌==◌, if◌then◌else◌}, lemmas.Bool.eqb-true}
use Rattle.lists.proofs.ListLaws.{same_some}
use Rattle.jvm_types.specs.{Types.TypeFrame, declared.{class_numbers.TheConstants.INT_ARRAY_CLASS, program.FieldInfo.FieldInfo, typing.{Typing.Typing, VType.{VType, TheVariants.{This, New}}}}}
use Rattle.checked_program.{specs.MarkedProgram.MarkedProgram, proofs.TriedPrograms.{pair, tags_of}}
use Rattle.machine_types.specs.{Construction.{Runs, Owning, IsNoStored, IsArraySlot, FramesKeep}, OwnedPlaces.nowhere, Standing.Standing, Threads.{Frame, Attempt}}
use Rattle.machine_types.specs.Worlds.{Made, Begun, Builder, builder, World, IsViewOf, finished}
use Rattle.machine_plays.proofs.{InSections.tags_by, Standings.standing}
use Rattle.jvm_types.specs.declared.program.Kind.TheVariants as kinds

abbrev in_init : TypeFrame
in_init = record { stack = This ∷ []; locals = This ∷ []; ready = false }

abbrev behind_new : TypeFrame
behind_new = record { stack = New 0 ∷ New 0 ∷ []; locals = []; ready = true }

abbrev typings : List Typing
typings = record { frames = None ∷ Some in_init ∷ [] } ∷ record { frames = [] } ∷ record { frames = [] } ∷ record { frames = None ∷ None ∷ Some behind_new ∷ [] } ∷ []

abbrev c : MarkedProgram
c = record { program = pair; typings = typings; tags = map tags_by (tags_of pair); marks = [] }

-- `this` on the stack, to call the `<init>` of Object on
abbrev init_frame : Frame
init_frame = record { method = 0; pc = 1; receiver = 3000; locals = 3000 ∷ []; stack = 3000 ∷ [] }

-- one of two copies of the new object is taken by the call
abbrev new_frame : Frame
new_frame = record { method = 3; pc = 4; receiver = 0; locals = []; stack = 3000 ∷ [] }

abbrev init_stands : Standing c init_frame
init_stands = standing c init_frame 1 refl refl refl refl refl refl refl refl

abbrev new_stands : Standing c new_frame
new_stands = standing c new_frame 2 refl refl refl refl refl refl refl refl

abbrev is_17 : ℕ → Bool
is_17 class = class == 17

-- the object is begun, by the frame above one other
abbrev begun : World
begun v = if v == 3000 then Some (builder 1 1 Begun) else None

-- its class has no array
no_array : (fi : ℕ) (field : FieldInfo) → slice_get pair.fields fi ≡ Some field → field.kind ≡ kinds.Ref INT_ARRAY_CLASS → ⊥
no_array zero field is array = let bad : kinds.Int ≡ kinds.Ref INT_ARRAY_CLASS = ap (λ (f : FieldInfo). f.kind) (same_some is) ∙ array in cc
no_array (suc zero) field is array = let bad : kinds.Int ≡ kinds.Ref INT_ARRAY_CLASS = ap (λ (f : FieldInfo). f.kind) (same_some is) ∙ array in cc
no_array (suc (suc zero)) field is array = let bad : kinds.Ref 17 ≡ kinds.Ref INT_ARRAY_CLASS = ap (λ (f : FieldInfo). f.kind) (same_some is) ∙ array in let other : 17 ≡ INT_ARRAY_CLASS = cc in omega (arith, other)
no_array (suc (suc (suc fi))) field is array = cc

abbrev own : Owning
own = record { owned = λ fi. false; stores = nowhere }

no_slot : (f : Frame) (number place v : ℕ) (type : VType) → IsNoStored nowhere type v → IsArraySlot c nowhere f number place type v
no_slot f number place v type none = record { owned = λ k word is. absurd (no_array k.fi k.owned.field k.owned.is k.owned.array); other = λ never. none }

keeps_begun : FramesKeep c is_17 own begun 4000 1 Runs (init_frame ∷ new_frame ∷ [])
keeps_begun = (
  record { stands = init_stands; receiver = refl; stack = (refl, tt); locals = (refl, tt); arrays = (no_slot init_frame 1 0 3000 This refl, tt); no_arrays = (refl, tt) },
  (record { begun = Some (New 0, 17); keeps = record { stands = new_stands; receiver = (omega arith, refl); stack = (refl, tt); locals = tt; arrays = (no_slot new_frame 2 1 3000 (New 0) refl, tt); no_arrays = tt }; calls = refl; begun_is = refl }, tt),
)

-- before the call it is made
abbrev before : Frame
before = record new_frame { stack = 3000 ∷ 3000 ∷ [] }

abbrev before_stands : Standing c before
before_stands = standing c before 2 refl refl refl refl refl refl refl refl

abbrev made : World
made v = if v == 3000 then Some (builder 1 0 (Made 0)) else None

keeps_made : FramesKeep c is_17 own made 4000 1 Runs (before ∷ [])
keeps_made = (record { stands = before_stands; receiver = (omega arith, refl); stack = (refl, (refl, tt)); locals = tt; arrays = (no_slot before 2 0 3000 (New 0) refl, (no_slot before 2 1 3000 (New 0) refl, tt)); no_arrays = tt }, tt)

-- ---- an attempt may finish an object that its thread builds, which all others see as it was

finishes_own : (w : World) (t a : ℕ) (builder : Builder) (attempt : Attempt) → w a ≡ Some builder → builder.thread ≡ t → IsViewOf (finished w a) w t (Some attempt)
finishes_own w t a builder attempt is own = record {
  same = λ none v. absurd (has_attempt none);
  others = λ v other. unchanged v other (v == a) refl;
  own = λ v b d e k h. still v b d e k (v == a) refl h;
}
  where
    has_attempt : Some attempt ≡ None → ⊥
    has_attempt none = cc

    unchanged : (v : ℕ) → ((b : Builder) → w v ≡ Some b → b.thread ≢ t) → (test : Bool) → (v == a) ≡ test → (if test then None else w v) ≡ w v
    unchanged v other true e = absurd (other builder (ap w (eqb-true v a e) ∙ is) own)
    unchanged v other false e = refl

    still : (v : ℕ) (b d : Builder) → w v ≡ Some b → b.thread ≡ t → (test : Bool) → (v == a) ≡ test → (if test then None else w v) ≡ Some d → d.thread ≡ t
    still v b d e k true g h = cc
    still v b d e k false g h = let s : Some b ≡ Some d = sym e ∙ h in let i : b ≡ d = cc in subst (λ (x : Builder). x.thread ≡ t) i k
