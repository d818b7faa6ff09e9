-- How a thread goes on keeps what construction says of its frames and of what it carries.
use Rattle.std.proofs.Common.{◌≡◌, ◌≢◌, ℕ, ◌<◌, Bool, true, false, List, [], ◌∷◌, length, Option, Some, None, refl, sym, ap, ◌∙◌, subst, arith, slice_get, option_map, if◌then◌else◌}
use Rattle.lists.proofs.{ListLaws.{all_weaker, same_some}, TestLaws.first_true}
use Rattle.jvm_types.specs.{ClassNames.file_of_class, CodeTable.{can_throw, row}, Members.{MethodSite, is_static, is_synchronized}, ProgramInvariant.{words_of, site_in}, Verifying.{edges, is_return}}
use Rattle.jvm_types.specs.declared.{code.Op.{Op, TheVariants.Invokevirtual}, op_row.{Given.{Given, TheVariants.Fresh as Anew}, OpRow.OpRow}, outcome.Thrown.Thrown, program.FieldInfo.FieldInfo}
use Rattle.jvm_types.specs.declared.{program.{MethodInfo.MethodInfo, Program.Program, Row.Row, Target.{Target, TheVariants.{Field, Method}}}, typing.VType.VType}
use Rattle.laws_programs.specs.TargetLaws.{HasRow}
use Rattle.checked_program.specs.{Marks.called_method, declared.tag.Tag.TheVariants.Untagged}
use Rattle.machine_types.specs.Construction.{puts_owned, builds, makes_frozen, SlotByType, Runs, Throws as Loose, IsFresh, ReceiverIs, SlotOf, turn_by, AfterKeeps}
use Rattle.machine_types.specs.Frames.{Top, effect_at, frame_on, went, went_on, waiting, has_room, entry_frame, arguments_of, monitor_of, given_back, given, returned, handler_of, handler_at}
use Rattle.machine_types.specs.Onward.{Onward, Running, Throwing, Entering, Leaving, RootReturned, Uncaught, threw, entered, called, back, unwound, handed, dispatched, after, done}
use Rattle.machine_types.specs.{OwnedPlaces.{IsFieldWord, IsStoredAt, IsStoredNowhere}, ReadyObjects.{ready, class_of, thrown_of, out_object}, Standing.{Standing, row_at}, Structure.{TopIs, AfterShows, operands_after}, Threads.Frame, Typed.Classes}
use Rattle.machine_types.specs.{Words.{header_class, header_length, class_object}, Worlds.{Begun, Builder, builder, World, IsFinished, IsOwnOrFinished, GoesOn}, declared.effect.{Effect.Effect, Variable.Variable}}
use Rattle.machine_types.specs.declared.effect.Effect.TheVariants.{Goes, Throws, Reads, Writes, Measures, Raises, Prints, Calls, Returns, Enters, Leaves}
use Rattle.machine_types.{specs.declared.phase.After.{After, TheVariants.{Next, Return, Unwind}}, proofs.ClassObjects.class_object_below}
use Rattle.laws_threads.{specs.Allowed.{OneOf, IsNamedField, IsByMachine, Allowed}, proofs.{Landing.{stand_top, rules_at}, Standings.top_here, Tests.either_way, TopEffects.number_in}}
use Rattle.laws_objects.proofs.{ArrayFrames.{takes_clean, goes_plain}, ArrayMoves.{WriteClean, row_clean, ReadsField, IsMadeWell}}
use Rattle.laws_objects.proofs.Buildings.{Building, LawfulBuilding, in_world, FrameIn, BelowIn, FramesIn, first_finished, null, inside}
use Rattle.laws_objects.proofs.{BuiltEffects.{KindOld, TypeOld, GivenOld, RowOld, Built, effect_built}, CalledFrames.below_moved, Calling.{CallKeeps, calls_it}}
use Rattle.laws_objects.proofs.{EffectOps.{FitsOp, IsUsual, is_putfield, effect_fits, names_a_field, stores_none, get_writes}, KeptFrames.{KeepsUnder, below_kept}, Moves.{RowMakes, Steps, stays, steps_map, goes}}
use Rattle.laws_objects.proofs.{Operands.{is_getfield, no_read, no_getfield, takes_old}, PutPlaces.is_newarray, ReturnedFrames.{result_old, result_clean, resumes}, Slots.{IsMade, made_slot}}
use Rattle.laws_objects.proofs.{ThrowingFrames.{frames_throw, frames_unwound, handled}, Views.finished_on, WorldChanges.finished_known}
use Rattle.jvm_types.specs.declared.outcome.Thrown.TheVariants as thrown
use Rattle.jvm_types.specs.declared.typing.VType.TheVariants as types

-- ---- what is kept

module _ (building : Building) where
  open building use {w, next, t}

  abbrev pub OnwardKeeps : Onward → Type 0
  OnwardKeeps (Running fs) = FramesIn building Runs fs
  OnwardKeeps (Throwing x class fs) = IsFinished w next x × FramesIn building Loose fs
  OnwardKeeps (Entering m fs) = IsOwnOrFinished w next t m × FramesIn building Runs fs
  OnwardKeeps (Leaving m a fs) = IsOwnOrFinished w next t m × AfterKeeps w next a × FramesIn building (turn_by (operands_after a)) fs
  OnwardKeeps RootReturned = Unit {0}
  OnwardKeeps (Uncaught class) = Unit {0}

module _ (building : Building) where
  open building use {w, next, t}

  abbrev pub IfKeeps : Option Onward → Type 0
  IfKeeps None = Unit {0}
  IfKeeps (Some o) = Steps w next t (λ z. OnwardKeeps (in_world building z) o)

pub ready_first : (p : Program) (x : Thrown) → IsByMachine x → ready x < words_of p
ready_first p thrown.ArithmeticException own = omega arith
ready_first p x own = first_of (assumption, omega arith)

module _ (lawful : LawfulBuilding) where
  open lawful use {building, c, marked, frozen, owning, w, next, t, is_world, fine}

  pub receiver_known : (h : ℕ) (own : Bool) (v : ℕ) → ReceiverIs w next t h own v → IsOwnOrFinished w next t v
  receiver_known h true v e = (inside lawful v (builder t h Begun) e, λ b g. (let same : builder t h Begun ≡ b = cc in ap (λ (x : Builder). x.thread) (sym same)))
  receiver_known h false v o = finished_known w next t v o

  -- the monitor of a synchronized method: that of its receiver, or of its class
  class_finished : (number : ℕ) (m : MethodInfo) → slice_get c.program.methods number ≡ Some m → IsFinished w next (class_object c.program (file_of_class m.class))
  class_finished number m there =
      let class = (marked.checked.program.methods number m there).class in
      first_finished w (words_of c.program) next (class_object c.program (file_of_class m.class)) is_world (class_object_below c.program (file_of_class m.class) (omega (arith, class.0, class.1)))

  monitor_known : (h number : ℕ) (own : Bool) (m : MethodInfo) (f : Frame) → slice_get c.program.methods number ≡ Some m → ReceiverIs w next t h own f.receiver → IsOwnOrFinished w next t (monitor_of c.program m f)
  monitor_known h number own m f there e = either_way (λ (b : Bool). IsOwnOrFinished w next t (if b then class_object c.program (file_of_class m.class) else f.receiver)) (is_static m.flags)
      (finished_known w next t (class_object c.program (file_of_class m.class)) (class_finished number m there)) (receiver_known h own f.receiver e)

  -- ---- exceptions

  pub ends_above : (x : ℕ) (class : Thrown) (f : Frame) (fs : List Frame) → IsFinished w next x → BelowIn building f fs → OnwardKeeps building (unwound x class fs)
  ends_above x class f [] old b = tt
  ends_above x class f (g ∷ gs) old b = (old, frames_unwound building f (g ∷ gs) b)

  hands : (x : ℕ) (class : Thrown) (f : Frame) (fs : List Frame) (k : FrameIn building (length fs) Loose f) → BelowIn building f fs → IsFinished w next x → IsStoredNowhere owning.stores x → can_throw k.stands.insn.op ≡ true
      → (o : Option Row) → handler_of f.pc (class_of class) k.stands.method.rows ≡ o → OnwardKeeps building (handed c.program x class (top_here c f fs k.stands) o)
  hands x class f fs k b old clean throws (Some r) e = (handled building (length fs) (null lawful) f k x (class_of class) r throws old clean e, below_moved building f r.handler (x ∷ []) f.locals fs b)
  hands x class f fs k b old clean throws None e =
      either_way (λ (s : Bool). OnwardKeeps building (if s then Leaving (monitor_of c.program k.stands.method f) (Unwind x class) (f ∷ fs) else unwound x class fs)) (is_synchronized k.stands.method.flags)
      (monitor_known (length fs) f.method (builds frozen k.stands.method) k.stands.method f k.stands.at.in_program k.receiver, old, (k, b)) (ends_above x class f fs old b)

  -- two places of a frame are one
  pub same_op : (f : Frame) (k h : Standing c f) → k.insn.op ≡ h.insn.op
  same_op f k h =
      let same : top_here c f [] k ≡ top_here c f [] h = same_some (sym (stand_top c marked f [] k) ∙ stand_top c marked f [] h) in
      ap (λ (at : Top). at.insn.op) same

  pub dispatches : (x : ℕ) (class : Thrown) (fs : List Frame) → IsFinished w next x → IsStoredNowhere owning.stores x → FramesIn building Loose fs → TopIs c can_throw fs → IfKeeps building (dispatched c.program x class fs)
  dispatches x class [] old clean k top = absurd top
  dispatches x class (f ∷ fs) old clean k top =
      subst (λ o. IfKeeps building (option_map (λ at. handed c.program x class at (handler_at (class_of class) at)) o)) (sym (stand_top c marked f fs k.0.stands))
      (stays w next t (λ z. OnwardKeeps (in_world building z) (handed c.program x class (top_here c f fs k.0.stands) (handler_of f.pc (class_of class) k.0.stands.method.rows)))
      (hands x class f fs k.0 k.1 old clean (ap can_throw (same_op f k.0.stands top.0) ∙ top.1) (handler_of f.pc (class_of class) k.0.stands.method.rows) refl))

  -- ---- returns

  pub goes_below : (f : Frame) (fs : List Frame) (k : FrameIn building (length fs) Runs f) → BelowIn building f fs → is_return k.stands.insn.op ≡ true
      → Steps w next t (λ z. OnwardKeeps (in_world building z) (back (returned c.program (top_here c f fs k.stands))))
  goes_below f [] k b r = stays w next t (λ z. OnwardKeeps (in_world building z) RootReturned) tt
  goes_below f (g ∷ gs) k b r =
      let result : List ℕ = given_back k.stands.insn.op f.stack in
      subst (λ o. Steps w next t (λ z. OnwardKeeps (in_world building z) (back (given result o)))) (sym (stand_top c marked g gs b.0.keeps.stands))
      (resumes lawful (record {
        number = f.method;
        receiver = f.receiver;
        called = k.stands.method;
        there = k.stands.at.in_program;
        g = g;
        gs = gs;
        wait = b.0;
        below = b.1;
        stands = k.receiver;
        result = result;
        old_result = result_old building (length (g ∷ gs)) (null lawful) f k r;
        clean_result = result_clean building (length (g ∷ gs)) (null lawful) f k r;
      }))

  -- ---- when a monitor was left

  pub goes_after_it : (m : ℕ) (a : After) (fs : List Frame) → AfterKeeps w next a → FramesIn building (turn_by (operands_after a)) fs → AfterShows c m a fs → IfKeeps building (after c.program fs a)
  goes_after_it m Next fs old k s = stays w next t (λ z. OnwardKeeps (in_world building z) (Running fs)) k
  goes_after_it m Return [] old k s = tt
  goes_after_it m Return (f ∷ fs) old k s =
      subst (λ o. IfKeeps building (option_map (λ at. back (returned c.program at)) o)) (sym (stand_top c marked f fs k.0.stands)) (goes_below f fs k.0 k.1 (ap is_return (same_op f k.0.stands s.0) ∙ s.2))
  goes_after_it m (Unwind x class) [] old k s = stays w next t (λ z. OnwardKeeps (in_world building z) (Uncaught class)) tt
  goes_after_it m (Unwind x class) (f ∷ fs) old k s = stays w next t (λ z. OnwardKeeps (in_world building z) (unwound x class fs)) (ends_above x class f fs old k.1)

  -- ---- one instruction

  -- the word that an instruction finds in a field is one that it may hold
  abbrev pub FoundOld : Classes → Target → Effect → (got : ℕ) → Type 0
  FoundOld is target (Reads v) got = (f : FieldInfo) → IsNamedField c.program is target v f → KindOld (IsFinished w next) f.kind got
  FoundOld is target e got = Unit {0}

  -- an array of the owned field that it reads, or one that was stored nowhere
  abbrev pub FoundStored : Classes → (f : Frame) (k : Standing c f) → Effect → (got : ℕ) → Type 0
  FoundStored is f k (Reads v) got =
      (field : FieldInfo) → IsNamedField c.program is k.target v field
      → ((fi : ℕ) → ReadsField c marked owning.stores f k fi → (word : ℕ) → IsFieldWord c fi f.receiver word → IsStoredAt owning.stores word got)
      × (((fi : ℕ) → ReadsField c marked owning.stores f k fi → ⊥) → KindOld (IsStoredNowhere owning.stores) field.kind got)
  FoundStored is f k e got = Unit {0}

  module _ (f : Frame) (fs : List Frame) (k : FrameIn building (length fs) Runs f) (b : BelowIn building f fs) where
    abbrev pub at : Top
    at = top_here c f fs k.stands

    abbrev pub r : OpRow
    r = row_at c f k.stands

    given_made : (made : ℕ) (x : Given) → GivenOld (IsFinished w next) made x → IsMade (SlotOf frozen w next t (length fs) Runs k.stands.method f.receiver) made x
    given_made made (Anew type) h = of_type type h
      where
        slot : (type : VType) → type ≢ types.This → SlotByType (IsFinished w next) (IsFresh w t (length fs) Runs) (makes_frozen frozen k.stands.method) type made → SlotOf frozen w next t (length fs) Runs k.stands.method f.receiver type Untagged made
        slot type n s = made_slot (IsFinished w next) (null lawful) (IsFresh w t (length fs) Runs) (builds frozen k.stands.method) (makes_frozen frozen k.stands.method) f.receiver (builds frozen k.stands.method) type made n s

        of_type : (type : VType) → TypeOld (IsFinished w next) type made → SlotOf frozen w next t (length fs) Runs k.stands.method f.receiver type Untagged made
        of_type types.Null h = slot types.Null (λ e. cc) h
        of_type (types.Ref class) h = slot (types.Ref class) (λ e. cc) h
        of_type types.Int h = slot types.Int (λ e. cc) tt
        of_type types.Top h = slot types.Top (λ e. cc) tt
        of_type type h = absurd h
    given_made made x h = tt

    row_made : (made : ℕ) → RowOld (IsFinished w next) r made → RowMakes (IsFinished w next) (null lawful) (IsFresh w t (length fs) Runs) (builds frozen k.stands.method) (makes_frozen frozen k.stands.method) f.receiver r made
    row_made made h = (all_weaker (GivenOld (IsFinished w next) made) (IsMade (SlotOf frozen w next t (length fs) Runs k.stands.method f.receiver) made) (given_made made) r.gives h.0, write r.writes h.1)
      where
        write : (o : Option (ℕ × Given)) → Rattle.laws_objects.proofs.BuiltEffects.WriteOld (IsFinished w next) made o → Rattle.laws_objects.proofs.Slots.IsWriteMade (SlotOf frozen w next t (length fs) Runs k.stands.method f.receiver) made o
        write None h = tt
        write (Some x) h = given_made made x.1 h

    -- what is made, as arrays that were stored have it
    abbrev pub MadeWell : ℕ → Type 0
    MadeWell made = IsMadeWell c marked owning.stores f k.stands made

    pub well_by : (made : ℕ) → is_getfield k.stands.insn.op ≡ false → RowOld (IsStoredNowhere owning.stores) r made → MadeWell made
    well_by made op clean = record { read = λ fi reads word is. absurd (no_read fi k.stands.insn.op k.stands.target op reads.1); other = λ none. row_clean owning.stores r made fine.null clean; written = (row_clean owning.stores r made fine.null clean).1 }

    pub runs_on : (to made : ℕ) → OneOf (edges k.stands.insn) to → puts_owned owning.owned k.stands.insn.op k.stands.target ≡ false → is_newarray k.stands.insn.op ≡ false → RowOld (IsFinished w next) r made → MadeWell made
        → Steps w next t (λ z. FramesIn (in_world building z) Runs (went c.program at to made))
    runs_on to made edge plain op old well =
        steps_map w next t (λ z. FrameIn (in_world building z) (length fs) Runs (frame_on r to made f) × KeepsUnder w z t (length fs)) (λ z. FramesIn (in_world building z) Runs (went c.program at to made))
        (λ z g p. (p.0, below_moved (in_world building z) f to (frame_on r to made f).stack (frame_on r to made f).locals fs (below_kept building z next (finished_on w z next next t g) f fs p.1 b)))
        (goes building (length fs) (null lawful) (inside lawful) f k to made edge plain (goes_plain building (length fs) f k to made (number_in (edges k.stands.insn) to edge) well op) (row_made made old))

    pub throws_it : (x : Thrown) → IsByMachine x → OnwardKeeps building (threw x at)
    throws_it x own = (first_finished w (words_of c.program) next (ready x) is_world (ready_first c.program x own), frames_throw building Runs (f ∷ fs) (k, b))

    names : is_getfield k.stands.insn.op ≡ true → (number : ℕ) × (k.stands.target ≡ Field number)
    names e = names_a_field c.program (site_in k.stands.method) k.stands.insn.pc k.stands.target k.stands.insn.op r (rules_at c marked f k.stands).has_row (first_true (is_getfield k.stands.insn.op) (is_putfield k.stands.insn.op) e)

    pub built_here : puts_owned owning.owned k.stands.insn.op k.stands.target ≡ false → Built (IsFinished w next) c.program k.stands.target r (effect_at c.program at)
    built_here plain = effect_built (IsFinished w next) (first_finished w (words_of c.program) next out_object is_world (omega arith)) c.program k.stands.method k.stands.insn.pc k.stands.insn.next k.stands.target k.stands.insn.op f.locals f.stack
        names
        (λ any. takes_old building (length fs) f k (null lawful) (no_getfield k.stands.insn.op any) plain)

    pub built_clean : Built (IsStoredNowhere owning.stores) c.program k.stands.target r (effect_at c.program at)
    built_clean = effect_built (IsStoredNowhere owning.stores) fine.out c.program k.stands.method k.stands.insn.pc k.stands.insn.next k.stands.target k.stands.insn.op f.locals f.stack
        names
        (takes_clean building (length fs) f k)

    pub fits_op : FitsOp (effect_at c.program at) k.stands.insn.op
    fits_op = effect_fits c.program k.stands.insn.next k.stands.target k.stands.insn.op f.locals f.stack (names_a_field c.program (site_in k.stands.method) k.stands.insn.pc k.stands.target k.stands.insn.op r (rules_at c marked f k.stands).has_row)

    -- the usual instruction
    pub runs_usual : (to made : ℕ) → OneOf (edges k.stands.insn) to → IsUsual k.stands.insn.op → RowOld (IsFinished w next) r made → RowOld (IsStoredNowhere owning.stores) r made → Steps w next t (λ z. FramesIn (in_world building z) Runs (went c.program at to made))
    runs_usual to made edge usual old clean = runs_on to made edge (stores_none owning.owned k.stands.insn.op k.stands.target usual.1) usual.2 old (well_by made usual.0 clean)

    known_on : (m : ℕ) (z : World) → GoesOn w z next next t 0 → IsFinished w next m → IsOwnOrFinished z next t m
    known_on m z g old = finished_known z next t m (finished_on w z next next t g m old)

    -- a call
    calls_keep : (number : ℕ) (m : MethodInfo) → slice_get c.program.methods number ≡ Some m → called_method k.stands.insn.op k.stands.target ≡ Some number → Steps w next t (λ z. OnwardKeeps (in_world building z) (called c.program at number m))
    calls_keep number m there calls = either_way (λ (room : Bool). Steps w next t (λ z. OnwardKeeps (in_world building z) (if room then entered c.program m (entry_frame number m (arguments_of c.program at)) (waiting c.program at) else threw thrown.StackOverflowError at)))
        (has_room c.program (f ∷ fs) m) (by_flag (is_synchronized m.flags)) (stays w next t (λ z. OnwardKeeps (in_world building z) (threw thrown.StackOverflowError at)) (throws_it thrown.StackOverflowError tt))
      where
        entry : Frame
        entry = entry_frame number m (arguments_of c.program at)

        by_flag : (s : Bool) → Steps w next t (λ z. OnwardKeeps (in_world building z) (if s then Entering (monitor_of c.program m entry) (entry ∷ waiting c.program at) else Running (entry ∷ waiting c.program at)))
        by_flag true = steps_map w next t (CallKeeps lawful f fs k b number m there calls (arguments_of c.program at)) (λ z. OnwardKeeps (in_world building z) (Entering (monitor_of c.program m entry) (entry ∷ waiting c.program at)))
            (λ z g p. (
              either_way (λ (b : Bool). IsOwnOrFinished z next t (if b then class_object c.program (file_of_class m.class) else entry.receiver)) (is_static m.flags)
                  (known_on (class_object c.program (file_of_class m.class)) z g (class_finished number m there)) p.1,
              p.0,
            )) (calls_it lawful f fs k b number m there calls)
        by_flag false = steps_map w next t (CallKeeps lawful f fs k b number m there calls (arguments_of c.program at)) (λ z. OnwardKeeps (in_world building z) (Running (entry_frame number m (arguments_of c.program at) ∷ waiting c.program at)))
            (λ z g p. p.0) (calls_it lawful f fs k b number m there calls)

    call_named : (site : MethodSite) (pc number : ℕ) (op : Op) (target : Target) (row : OpRow) → HasRow c.program site pc target op row → target ≡ Method number → called_method op target ≡ Some number
    call_named site pc number op target row h e = subst (λ (x : Target). called_method op x ≡ Some number) (sym e) (by_op op (subst (λ (x : Target). HasRow c.program site pc x op row) e h))
      where
        by_op : (op : Op) → HasRow c.program site pc (Method number) op row → called_method op (Method number) ≡ Some number
        by_op (Invokevirtual i) h = refl
        by_op op h = first_of (cc, search h)

    raises_it : (x got : ℕ) (o : Option Thrown) → IsFinished w next x → IfKeeps building (option_map (λ class. Throwing x class (f ∷ fs)) o)
    raises_it x got None old = tt
    raises_it x got (Some class) old = stays w next t (λ z. OnwardKeeps (in_world building z) (Throwing x class (f ∷ fs))) (old, frames_throw building Runs (f ∷ fs) (k, b))

    abbrev AllowedAs : Classes → Effect → Type 0
    AllowedAs is e = Allowed c.program k.stands.method is k.stands.insn k.stands.target (row_at c f k.stands) f.stack e

    abbrev CleanAs : Effect → Type 0
    CleanAs e = Built (IsStoredNowhere owning.stores) c.program k.stands.target r e

    -- what is read
    read_well : (v : Variable) (got : ℕ) (is : Classes) (a : AllowedAs is (Reads v)) → CleanAs (Reads v) → FoundStored is f k.stands (Reads v) got → MadeWell got
    read_well v got is a clean found =
        let field = a.2 in
        let it = found a.1 a.2 in
        record { read = it.0; other = λ none. row_clean owning.stores r got fine.null (clean field.number a.1 field.named field.there got (it.1 none)); written = by_op (is_getfield k.stands.insn.op) refl it.1 }
      where
        by_op : (b : Bool) → is_getfield k.stands.insn.op ≡ b → (((fi : ℕ) → ReadsField c marked owning.stores f k.stands fi → ⊥) → KindOld (IsStoredNowhere owning.stores) a.1.kind got)
            → WriteClean owning.stores got r.writes
        by_op true e h = subst (WriteClean owning.stores got) (sym (get_writes c.program k.stands.method k.stands.insn.pc k.stands.target k.stands.insn.op e)) tt
        by_op false e h = (row_clean owning.stores r got fine.null (clean a.2.number a.1 a.2.named a.2.there got (h (λ fi reads. no_read fi k.stands.insn.op k.stands.target e reads.1)))).1

    -- of an instruction that does not store a new array in an owned field
    pub does_it : (is : Classes) (e : Effect) (got : ℕ) → puts_owned owning.owned k.stands.insn.op k.stands.target ≡ false → AllowedAs is e → Built (IsFinished w next) c.program k.stands.target r e → CleanAs e → FitsOp e k.stands.insn.op
        → FoundOld is k.stands.target e got → FoundStored is f k.stands e got → IfKeeps building (done c.program at e got)
    does_it is (Goes to made) got plain a built clean fits found stored = runs_usual to made a.0 fits built clean
    does_it is (Throws x) got plain a built clean fits found stored = stays w next t (λ z. OnwardKeeps (in_world building z) (threw x at)) (throws_it x a.1)
    does_it is (Reads v) got plain a built clean fits found stored =
        let field = a.2 in
        runs_on k.stands.insn.next got a.0 plain fits.1 (built field.number a.1 field.named field.there got (found a.1 a.2)) (read_well v got is a clean stored)
    does_it is (Writes v word) got plain a built clean fits found stored = runs_on k.stands.insn.next 0 a.0 plain fits.1 built.1 (well_by 0 fits.0 clean.1)
    does_it is (Measures x) got plain a built clean fits found stored = runs_usual k.stands.insn.next (header_length got) a.0 fits (built (header_length got)) (clean (header_length got))
    does_it is (Raises x) got plain a built clean fits found stored = raises_it x got (thrown_of (header_class got)) built
    does_it is (Prints n) got plain a built clean fits found stored = runs_usual k.stands.insn.next 0 a.0 fits built clean
    does_it is (Calls number) got plain a built clean fits found stored = subst (λ o. IfKeeps building (option_map (called c.program at number) o)) (sym a.2)
        (calls_keep number a.0 a.2 (call_named (site_in k.stands.method) k.stands.insn.pc number k.stands.insn.op k.stands.target r (rules_at c marked f k.stands).has_row a.1))
    does_it is Returns got plain a built clean fits found stored =
        either_way (λ (s : Bool). Steps w next t (λ z. OnwardKeeps (in_world building z) (if s then Leaving (monitor_of c.program k.stands.method f) Return (f ∷ fs) else back (returned c.program at)))) (is_synchronized k.stands.method.flags)
        (stays w next t (λ z. OnwardKeeps (in_world building z) (Leaving (monitor_of c.program k.stands.method f) Return (f ∷ fs)))
        (monitor_known (length fs) f.method (builds frozen k.stands.method) k.stands.method f k.stands.at.in_program k.receiver, tt, (k, b))) (goes_below f fs k b a)
    does_it is (Enters m) got plain a built clean fits found stored = steps_map w next t (λ z. FramesIn (in_world building z) Runs (went_on c.program at 0)) (λ z. OnwardKeeps (in_world building z) (Entering m (went_on c.program at 0)))
        (λ z g p. (known_on m z g built.0, p)) (runs_usual k.stands.insn.next 0 a.0 fits built.1 clean.1)
    does_it is (Leaves m) got plain a built clean fits found stored = steps_map w next t (λ z. FramesIn (in_world building z) Runs (went_on c.program at 0)) (λ z. OnwardKeeps (in_world building z) (Leaving m Next (went_on c.program at 0)))
        (λ z g p. (known_on m z g built.0, tt, p)) (runs_usual k.stands.insn.next 0 a.0 fits built.1 clean.1)
    does_it is e got plain a built clean fits found stored = tt
