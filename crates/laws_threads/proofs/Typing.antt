-- The frame after an instruction has the types that verification gives it: generic in the row.
use Rattle.std.{proofs.Common.{◌≡◌, ℕ, length, drop, inl, inr, Bool, true, false, not, List, [], ◌∷◌, Option, Some, None, refl, sym, subst, if◌then◌else◌}, specs.List.{AllZip, AllByRecursion}}
use Rattle.std.proofs.lemmas.Bool.{or_parts}
use Rattle.lists.proofs.TestLaws.{is_true}
use Rattle.jvm_types.specs.{Types.{TypeFrame, is_uninitialised, same_type}, declared.{code.Insn.Insn, op_row.{OpRow.OpRow, Want.{Want, TheVariants.ToStart}}, program.MethodInfo.MethodInfo}}
use Rattle.jvm_types.specs.Verifying.{suits, some_taken, some_read, new_class, is_class_of, takes_too_many, mistypes, started, initialised, after_start, frame_after, FrameFits}
use Rattle.jvm_types.{specs.declared.typing.VType.{VType, TheVariants.{Ref, This, New}}, proofs.TypeOrder.subclass_self}
use Rattle.laws_programs.proofs.MonoTypes.{same_object}
use Rattle.machine_types.specs.{Frames.frame_on, Threads.Frame, Typed.{Classes, Holds}}
use Rattle.laws_threads.{specs.Allowed.{TakenHold, HasRowTypes, OneOf}, proofs.{Tests.either_way, Values.{same_class, ValuesHold, taken_hold, rest_holds, stack_holds, locals_hold}}}

-- what holds of each edge
pub all_at : (P : ℕ → Type 0) (tos : List ℕ) (to : ℕ) → AllByRecursion P tos → OneOf tos to → P to
all_at P (x ∷ xs) to all (inl e) = subst P (sym e) all.0
all_at P (x ∷ xs) to all (inr h) = all_at P xs to all.1 h
all_at P [] to all h = absurd h

module _ (m : MethodInfo) (is : Classes) where
  -- ---- the object that an `<init>` is called on

  abbrev pub StartHolds : Option (VType × ℕ) → Type 0
  StartHolds None = Unit {0}
  StartHolds (Some object) = (is_uninitialised object.0 ≡ true) × ((v : ℕ) → Holds m is object.0 v → is object.1 v)

  abbrev pub Suit : List Want → List VType → Type 0
  Suit wants ts = some_taken (λ want t. not (suits m want t)) wants ts ≡ false

  later : (want : Want) (t : VType) (wants : List Want) (ts : List VType) → Suit (want ∷ wants) (t ∷ ts) → Suit wants ts
  later want t wants ts h = (or_parts (not (suits m want t)) (some_taken (λ want t. not (suits m want t)) wants ts) h).1

  pub start_holds : (wants : List Want) (ts : List VType) → Suit wants ts → StartHolds (started m.class wants ts)
  start_holds [] ts h = tt
  start_holds (ToStart class ∷ wants) (This ∷ ts) h = (refl, λ v k. k)
  start_holds (ToStart class ∷ wants) (New pc ∷ ts) h = (
    refl,
    λ v k. subst (λ (c : ℕ). is c v) (sym (same_class (new_class m.code m.targets pc) k.0 class k.1 (is_true (is_class_of (new_class m.code m.targets pc) class)
        (or_parts (not (is_class_of (new_class m.code m.targets pc) class)) (some_taken (λ want t. not (suits m want t)) wants ts) h).0))) k.2,
  )
  start_holds (ToStart class ∷ wants) (t ∷ ts) h = absurd (cc)
  start_holds (want ∷ wants) (t ∷ ts) h = start_holds wants ts (later want t wants ts h)
  start_holds (ToStart class ∷ wants) [] h = tt
  start_holds (want ∷ wants) [] h = tt

  one_started : (o : VType) (class : ℕ) (t : VType) (v : ℕ) → is_uninitialised o ≡ true → ((v : ℕ) → Holds m is o v → is class v) → Holds m is t v
      → Holds m is (if same_type o t then Ref class else t) v
  one_started o class t v u h k = either_way (λ (b : Bool). same_type o t ≡ b → Holds m is (if b then Ref class else t) v) (same_type o t)
      (λ e. inr (class, h v (subst (λ (x : VType). Holds m is x v) (sym (same_object o t u e)) k), subclass_self class))
      (λ e. k) refl

  all_started : (o : VType) (class : ℕ) (ts : List VType) (s : List ℕ) → is_uninitialised o ≡ true → ((v : ℕ) → Holds m is o v → is class v) → AllZip (Holds m is) ts s
      → AllZip (Holds m is) (initialised o class ts) s
  all_started o class [] [] u h k = k
  all_started o class (t ∷ ts) (v ∷ s) u h k = (one_started o class t v u h k.0, all_started o class ts s u h k.1)
  all_started o class ts s u h k = absurd (assumption)

  pub started_frame : (o : Option (VType × ℕ)) (g : TypeFrame) (f : Frame) → StartHolds o → ValuesHold m is g f → ValuesHold m is (after_start o g) f
  started_frame None g f h k = k
  started_frame (Some object) g f h k = record {
    stack = all_started object.0 object.1 g.stack f.stack h.0 h.1 k.stack;
    locals = all_started object.0 object.1 g.locals f.locals h.0 h.1 k.locals;
    receiver = k.receiver;
  }

  -- ---- a frame after its instruction

  -- the operands of a row that suits the frame are what it takes
  pub operands : (r : OpRow) (g : TypeFrame) (f : Frame) → takes_too_many r g ≡ false → mistypes m r g ≡ false → ValuesHold m is g f → TakenHold m is r.takes f.stack
  operands r g f tall types k = taken_hold m is r.takes g.stack f.stack tall
      (or_parts (some_taken (λ want t. not (suits m want t)) r.takes g.stack) (some_read (λ want t. not (suits m want t)) r.reads g.locals) types).0 k.stack

  pub values_after : (r : OpRow) (g : TypeFrame) (f : Frame) (to made : ℕ) → mistypes m r g ≡ false → ValuesHold m is g f → HasRowTypes m is r made
      → ValuesHold m is (frame_after m r g) (frame_on r to made f)
  values_after r g f to made types k h = started_frame (started m.class r.takes g.stack) _ (frame_on r to made f)
      (start_holds r.takes g.stack (or_parts (some_taken (λ want t. not (suits m want t)) r.takes g.stack) (some_read (λ want t. not (suits m want t)) r.reads g.locals) types).0)
      (record {
        stack = stack_holds m is r.gives g.stack g.locals f.stack f.locals made (drop (length r.takes) g.stack) (drop (length r.takes) f.stack) k.stack k.locals h.0 (rest_holds m is (length r.takes) g.stack f.stack k.stack);
        locals = locals_hold m is r.writes g.stack g.locals f.stack f.locals made k.stack k.locals h.1;
        receiver = k.receiver;
      })

  pub edge_at : (code : List Insn) (frames : List (Option TypeFrame)) (g : TypeFrame) (tos : List ℕ) (to : ℕ) → AllByRecursion (FrameFits code frames g) tos → OneOf tos to → FrameFits code frames g to
  edge_at code frames g tos to all one = all_at (FrameFits code frames g) tos to all one
