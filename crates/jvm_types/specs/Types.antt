-- The types of verification by inference, their order, and frames of them (JVMS 4.10.2.2). The
-- types of one place: int, null, references to a class, `this` and what `new` made before they are
-- initialised, and none. There is no long, float, double and returnAddress.
use Rattle.std.specs.Prelude.{ℕ, ◌-◌, Bool, true, false, not, ◌&&◌, ◌||◌, ◌==◌, if◌then◌else◌, List}
use Rattle.std.specs.Prelude.{[], ◌∷◌, ◌++◌, length, map, replicate}
use Rattle.jvm_types.specs.Members.{is_static}
use Rattle.jvm_types.specs.ClassTree.{is_subclass, common_ancestor}
use Rattle.jvm_types.specs.CodeTable.{type_of, is_init}
use Rattle.jvm_types.specs.declared.typing.VType.{VType}
use Rattle.jvm_types.specs.declared.typing.VType.TheVariants.{Int, Null, Ref, This, New, Top}
use Rattle.jvm_types.specs.declared.program.MethodInfo.{MethodInfo}

-- ---- the order of types

-- null is below every class, and a class below its ancestors; no type of an uninitialised object is
-- below another; all are below Top
abbrev pub is_below : VType → VType → Bool
is_below t Top = true
is_below Int Int = true
is_below Null Null = true
is_below Null (Ref class) = true
is_below (Ref class) (Ref other) = is_subclass class other
is_below This This = true
is_below (New pc) (New at) = pc == at
is_below t u = false

abbrev pub if_same_place : Bool → VType → VType
if_same_place true t = t
if_same_place false t = Top

-- the least type that two are below
abbrev pub meet : VType → VType → VType
meet Int Int = Int
meet Null Null = Null
meet Null (Ref class) = Ref class
meet (Ref class) Null = Ref class
meet (Ref class) (Ref other) = Ref (common_ancestor class other)
meet This This = This
meet (New pc) (New at) = if_same_place (pc == at) (New pc)
meet t u = Top

abbrev pub same_type : VType → VType → Bool
same_type Int Int = true
same_type Null Null = true
same_type (Ref class) (Ref other) = class == other
same_type This This = true
same_type (New pc) (New at) = pc == at
same_type Top Top = true
same_type t u = false

-- made, and no `<init>` called on it
abbrev pub is_uninitialised : VType → Bool
is_uninitialised This = true
is_uninitialised (New pc) = true
is_uninitialised t = false

-- uninitialised by a `new`
abbrev pub is_new : VType → Bool
is_new (New pc) = true
is_new t = false

-- ---- frames

-- the types before an instruction, with the top of the stack first; in an `<init>` it also says
-- whether `this` is initialised
pub record TypeFrame : Type 0 where
  pub stack : List VType
  pub locals : List VType
  pub ready : Bool

-- whether r holds place by place, and there are as many
abbrev pub all_pairs : (VType → VType → Bool) → List VType → List VType → Bool
all_pairs r [] [] = true
all_pairs r (t ∷ ts) (u ∷ us) = r t u && all_pairs r ts us
all_pairs r ts us = false

abbrev pub meets : List VType → List VType → List VType
meets (t ∷ ts) (u ∷ us) = meet t u ∷ meets ts us
meets ts us = []

-- one frame is below another: place by place, and `this` is initialised where the other says so
abbrev pub frame_below : TypeFrame → TypeFrame → Bool
frame_below f g =
    all_pairs is_below f.stack g.stack && all_pairs is_below f.locals g.locals
    && (f.ready || not g.ready)

abbrev pub same_ready : Bool → Bool → Bool
same_ready true other = other
same_ready false other = not other

abbrev pub same_frame : TypeFrame → TypeFrame → Bool
same_frame f g =
    all_pairs same_type f.stack g.stack && all_pairs same_type f.locals g.locals
    && same_ready f.ready g.ready

-- the frame where two edges meet, whose stacks are of one depth: `this` is initialised where both
-- say so
abbrev pub meet_frames : TypeFrame → TypeFrame → TypeFrame
meet_frames f g =
    record {
      stack = meets f.stack g.stack;
      locals = meets f.locals g.locals;
      ready = f.ready && g.ready;
    }

-- ---- the start of a method

-- of this length, with nothing known of the places that are added
abbrev pub filled : ℕ → List VType → List VType
filled n ts = ts ++ replicate (n - length ts) Top

-- `this` in local 0 of an instance method
abbrev pub receiver_types : MethodInfo → List VType
receiver_types m = if is_static m.flags then [] else (if is_init m then This else Ref m.class) ∷ []

-- the frame at pc 0; it has more locals than max_locals where the arguments do not fit
abbrev pub entry_type_frame : MethodInfo → TypeFrame
entry_type_frame m =
    record {
      stack = [];
      locals = filled m.max_locals (receiver_types m ++ map type_of m.args);
      ready = not (is_init m);
    }
