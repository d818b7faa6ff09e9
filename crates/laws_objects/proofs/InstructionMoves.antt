-- The event that begins an instruction keeps what construction says of its thread.
use Rattle.std.proofs.Common.{◌≡◌, ℕ, ◌+◌, ◌<◌, inl, inr, Bool, true, false, List, [], ◌∷◌, length, Option, Some, None, refl, sym, ap, ◌∙◌, subst, arith, ◌==◌, if◌then◌else◌}
use Rattle.std.proofs.lemmas.Bool.{cases_Bool}
use Rattle.lists.proofs.ListLaws.{same_some}
use Rattle.jvm_types.specs.{ProgramInvariant.words_of, Verifying.edges, declared.{code.Op.{Op, TheVariants.Putfield}, outcome.Thrown.Thrown, program.{FieldInfo.FieldInfo, Kind.Kind, Target.Target}}}
use Rattle.checked_program.specs.{MarkedProgram.{MarkedProgram, IsMarked}, OwnedArrays.IsOwnedArrayField}
use Rattle.machine_types.specs.{Construction.{puts_owned, Runs}, Effects.{effect, puts, kept, variable_of}, Elision.put_back, Frames.{Top, top_of, effect_at, went_on, making}, Going.goes_on}
use Rattle.machine_types.specs.{Instructions.printed, Onward.{Onward, Running, threw, done}, OwnedPlaces.{Stores, with_stored, IsStoredNowhere}, Standing.{row_at, tags_of}, Structure.{Stands, AttemptStandsIn}, Threads.{Frame, Attempt, Thread}}
use Rattle.machine_types.specs.{Typed.Classes, Words.variable_word, Worlds.{Header, Unstored, builder, World, IsFinished, IsOwnOrFinished, IsWorld, with_builder, GoesOn}, declared.effect.{Effect.Effect, Variable.Variable}}
use Rattle.machine_types.specs.declared.{effect.Effect.TheVariants.{Throws, Reads, Writes, Indexes, Makes, Prints, Waits, Notifies, NotifiesAll, Stuck}, lock.Kept.Kept, phase.Phase.Phase}
use Rattle.laws_threads.{specs.{Allowed.{Allowed, OneOf, IsByMachine}, EntryFrames.KeepsEntry, InsideEffects.MayDo, StructureLaws.{StaysStructured, counted_by}}, proofs.EntryKept.steps_kept}
use Rattle.laws_threads.proofs.{Inside.inside_may, Landing.stand_top, Standings.top_here, ThreadMove.{Refuses, IsNotify, Asks, WaitsFrom, counting}, TopEffects.made_size}
use Rattle.laws_objects.proofs.{Buildings.{Moving, in_world, in_later, with_stores, FrameIn, BelowIn, FramesIn, MadeIn, sees}, BuiltEffects.{Built, RowOld}, CountedPhases.PhaseFits}
use Rattle.laws_objects.proofs.{EffectOps.{FitsOp, IsUsual, is_putfield, stores_none}, Moves.{Steps, stays}, NewFrames.makes_it}
use Rattle.laws_objects.proofs.{Onwards.{OnwardKeeps, IfKeeps, FoundOld, FoundStored, throws_it, runs_usual, does_it, built_here, built_clean, fits_op}, Operands.is_getfield}
use Rattle.laws_objects.proofs.StoredArrays.{PutsOwned, stores_it, is_new, unstored, later_finished}
use Rattle.laws_objects.proofs.{ThreadMoves.{Moved, AreKnown, AttemptFrom, from_same, now_world, held_known, in_none, runs_to, onward_moves, moved_more, moved_more_to}, Views.finished_on}
use Rattle.laws_objects.proofs.WorldChanges.{none_from, finished_known, goes_given, world_given, lost_given}
use Rattle.jvm_types.specs.declared.outcome.Thrown.TheVariants as thrown
use Rattle.jvm_types.specs.declared.program.Target.TheVariants as targets
use Rattle.machine_types.specs.declared.phase.Phase.TheVariants as phases
use Rattle.machine_types.specs.declared.phase.Toward.TheVariants as towards
use Rattle.laws_threads.proofs.ThreadMove as moves

-- an effect that no attempt has
abbrev pub IsOutside : Effect → Type 0
IsOutside (Writes v word) = Unit {0}
IsOutside (Indexes a i (Some v)) = Unit {0}
IsOutside (Makes word size) = Unit {0}
IsOutside (Prints n) = Unit {0}
IsOutside (Waits m) = Unit {0}
IsOutside (Notifies m) = Unit {0}
IsOutside (NotifiesAll m) = Unit {0}
IsOutside e = ⊥

may_not : (c : MarkedProgram) (m : ℕ) (at : Top) (e : Effect) → IsOutside e → MayDo c m at e → ⊥
may_not c m at (Indexes a i (Some v)) o k = k
may_not c m at e o k = assumption

pub none_outside : (c : MarkedProgram) (marked : IsMarked c) (x : Thread) (at : Top) → Stands c phases.Run x.frames x.held x.attempt → AttemptStandsIn c phases.Run x.frames x.held x.attempt → top_of c.program x.frames ≡ Some at → IsOutside (effect_at c.program at) → x.attempt ≡ None
none_outside c marked x at stands inside top out = none_from x.attempt (λ a e. may_not c a.monitor at (effect_at c.program at) out
    (inside_may c x.frames x.held a at marked (subst (AttemptStandsIn c phases.Run x.frames x.held) e inside) (subst (Stands c phases.Run x.frames x.held) e stands) top))

-- what the event of a new object finds and leaves
abbrev pub Gets : (next more : ℕ) → Effect → (got : ℕ) → Type 0
Gets next more (Makes word size) got = (got ≡ next) × (more ≡ next + size)
Gets next more e got = Unit {0}

module _ (moving : Moving) (is : Classes) where
  open moving use {design, building, c, marked, owning, owns, w, next, t, is_world, more, was, x, k, grows, stood}

  pub now_is : IsWorld k.now (words_of c.program) next
  now_is = now_world building was x k is_world

  held : AreKnown w next t x.held
  held = held_known building was x k is_world

  abbrev pub Goal : Thread → Type 0
  Goal y = Moved building k.now more (counted_by was y.phase) y

  -- ---- what is known of the frame at the top, and of the word that its instruction finds

  pub record KnownTop (got : ℕ) : Type 0 where
    pub frame : Frame
    pub below : List Frame
    pub there : x.frames ≡ frame ∷ below
    pub keeps : FrameIn (in_world building k.now) (length below) Runs frame
    pub waits : BelowIn (in_world building k.now) frame below
    pub allowed : Allowed c.program keeps.stands.method is keeps.stands.insn keeps.stands.target (row_at c frame keeps.stands) frame.stack (effect_at c.program (top_here c frame below keeps.stands))
    pub found : FoundOld (sees moving) is keeps.stands.target (effect_at c.program (top_here c frame below keeps.stands)) got
    pub stored : FoundStored (sees moving) is frame keeps.stands (effect_at c.program (top_here c frame below keeps.stands)) got
    pub gets : Gets next more (effect_at c.program (top_here c frame below keeps.stands)) got

  abbrev pub known_top : (got : ℕ) → KnownTop got → Top
  known_top got a = top_here c a.frame a.below a.keeps.stands

  pub top_is : (got : ℕ) (a : KnownTop got) → top_of c.program x.frames ≡ Some (known_top got a)
  top_is got a = ap (top_of c.program) a.there ∙ stand_top c marked a.frame a.below a.keeps.stands

  -- what holds there holds of the frame at the top
  pub by_top : (P : Top → Type 0) (got : ℕ) → ((a : KnownTop got) → P (known_top got a)) → KnownTop got → (at : Top) → top_of c.program x.frames ≡ Some at → P at
  by_top P got h a at found = subst P (same_some (sym (top_is got a) ∙ found)) (h a)

  module _ (is_run : was ≡ phases.Run) (n got : ℕ) (a : KnownTop got) where
    abbrev s : Thread
    s = counting n x

    abbrev at : Top
    at = top_here c a.frame a.below a.keeps.stands

    abbrev AllowedAs : Effect → Type 0
    AllowedAs e = Allowed c.program a.keeps.stands.method is a.keeps.stands.insn a.keeps.stands.target (row_at c a.frame a.keeps.stands) a.frame.stack e

    abbrev BuiltAs : Effect → Type 0
    BuiltAs e = Built (IsFinished k.now next) c.program a.keeps.stands.target (row_at c a.frame a.keeps.stands) e

    allowed_as : (e : Effect) → effect_at c.program at ≡ e → AllowedAs e
    allowed_as e same = subst AllowedAs same a.allowed

    built_as : (e : Effect) → effect_at c.program at ≡ e → puts_owned owning.owned a.keeps.stands.insn.op a.keeps.stands.target ≡ false → BuiltAs e
    built_as e same plain = subst BuiltAs same (built_here (sees moving) a.frame a.below a.keeps a.waits plain)

    abbrev CleanAs : Effect → Type 0
    CleanAs e = Built (IsStoredNowhere owning.stores) c.program a.keeps.stands.target (row_at c a.frame a.keeps.stands) e

    clean_as : (e : Effect) → effect_at c.program at ≡ e → CleanAs e
    clean_as e same = subst CleanAs same (built_clean (sees moving) a.frame a.below a.keeps a.waits)

    fits_as : (e : Effect) → effect_at c.program at ≡ e → FitsOp e a.keeps.stands.insn.op
    fits_as e same = subst (λ (e : Effect). FitsOp e a.keeps.stands.insn.op) same (fits_op (sees moving) a.frame a.below a.keeps a.waits)

    none_as : (e : Effect) → effect_at c.program at ≡ e → IsOutside e → x.attempt ≡ None
    none_as e same out = none_outside c marked x at (subst (λ (phase : Phase). Stands c phase x.frames x.held x.attempt) is_run stood.stands) (subst (λ (phase : Phase). AttemptStandsIn c phase x.frames x.held x.attempt) is_run stood.attempt) (top_is got a) (subst IsOutside (sym same) out)

    -- ---- it goes on, within the structure that it has

    onward : (y : Thread) (o : Onward) → y.attempt ≡ x.attempt → y.held ≡ x.held → StaysStructured c was (goes_on y o) → ((a : Attempt) → x.attempt ≡ Some a → KeepsEntry a x.frames o) → Steps k.now next t (λ z. OnwardKeeps (in_world building z) o) → Goal (goes_on y o)
    onward y o attempt hs stands keeps step = moved_more building k.now more (counted_by was (goes_on y o).phase) (goes_on y o) is_world grows
        (onward_moves building was x k is_world y o stood stands (subst (AreKnown w next t) (sym hs) held) (subst (AttemptFrom x.attempt) (sym attempt) (from_same x.attempt)) keeps step)

    outside_keeps : (o : Onward) → x.attempt ≡ None → (a : Attempt) → x.attempt ≡ Some a → KeepsEntry a x.frames o
    outside_keeps o none a some = absurd (let bad : None ≡ Some a = sym none ∙ some in cc)

    -- ---- a new array is stored in an owned field

    pub record StoresNewArray (v : Variable) (put : ℕ) (y : Thread) : Type 0 where
      pub same : effect_at c.program at ≡ Writes v put
      pub puts : PutsOwned design a.frame a.keeps.stands
      pub open puts use *
      pub value : put ≡ array
      pub outside : x.attempt ≡ None
      pub built : k.now array ≡ Some (builder t (length a.below) Unstored)
      pub unstored : owning.stores array ≡ None
      pub moves : Moved (with_stores building (with_stored owning.stores array (variable_word v))) k.now more (counted_by was y.phase) y
      pub finished : moves.later array ≡ None

    -- a `putfield` of an owned field
    put_names : (op : Op) (target : Target) → puts_owned owning.owned op target ≡ true → (index fi : ℕ) × (op ≡ Putfield index) × (target ≡ targets.Field fi) × (owning.owned fi ≡ true)
    put_names (Putfield index) (targets.Field fi) e = (index, fi, refl, refl, e)
    put_names op target e = absurd (let bad : false ≡ true = e in cc)

    -- what it stores is on the top
    put_stack : (index fi : ℕ) (v : Variable) (put : ℕ) → a.keeps.stands.insn.op ≡ Putfield index → a.keeps.stands.target ≡ targets.Field fi → owning.owned fi ≡ true → effect_at c.program at ≡ Writes v put → (array : ℕ) × (rest : List ℕ) × (a.frame.stack ≡ array ∷ rest) × (put ≡ array)
    put_stack index fi v put op target owned same = by_stack a.frame.stack refl (sym moved ∙ same)
      where
        own : IsOwnedArrayField c.program (tags_of c) fi
        own = owns.those fi owned

        moved : effect_at c.program at ≡ puts (Some own.field) a.frame.stack
        moved = (λ i. effect c.program a.keeps.stands.insn.next (target i) (op i) a.frame.locals a.frame.stack) ∙ ap (λ (o : Option FieldInfo). puts o a.frame.stack) own.is

        by_stack : (vs : List ℕ) → a.frame.stack ≡ vs → puts (Some own.field) vs ≡ Writes v put → (array : ℕ) × (rest : List ℕ) × (a.frame.stack ≡ array ∷ rest) × (put ≡ array)
        by_stack [] e h = absurd (cc)
        by_stack (array ∷ []) e h = absurd (cc)
        by_stack (array ∷ b ∷ rest) e h =
            let same : put ≡ array = (elim (b == 0) as (λ (z : Bool). (if z then Throws thrown.NullPointerException else Writes (variable_of own.field b) (kept own.field.kind array)) ≡ Writes v put → put ≡ array)
            [ true ↦ λ h. absurd (cc) | false ↦ λ h. (let same : kept own.field.kind array ≡ put = cc in sym same ∙ ap (λ (kind : Kind). kept kind array) own.array) ]) h in
            (array, b ∷ rest, e, same)

    pub stores_as : (v : Variable) (put : ℕ) → effect_at c.program at ≡ Writes v put → puts_owned owning.owned a.keeps.stands.insn.op a.keeps.stands.target ≡ true → StoresNewArray v put (goes_on s (Running (went_on c.program at 0)))
    stores_as v put same puts =
        let names = put_names a.keeps.stands.insn.op a.keeps.stands.target puts in
        let stack = put_stack names.0 names.1 v put names.2 names.3 names.4 same in
        let none : x.attempt ≡ None = none_as (Writes v put) same tt in
        let here : PutsOwned design a.frame a.keeps.stands = record { fi = names.1; index = names.0; op_is = names.2; target_is = names.3; owned = names.4; array = stack.0; rest = stack.1; stack_is = stack.2; edge = (allowed_as (Writes v put) same).0 } in
        let it = stores_it (sees moving) a.frame a.below a.keeps a.waits here (variable_word v) in
        let after : Stores = with_stored owning.stores stack.0 (variable_word v) in
        let y : Thread = goes_on s (Running (went_on c.program at 0)) in
        let moved = moved_more_to (with_stores building after) k.now more (counted_by was y.phase) y it.later is_world grows (runs_to building was x k is_world after s (went_on c.program at 0) it none held) in
        record {
          same = same;
          puts = here;
          value = stack.3;
          outside = none;
          built = is_new (sees moving) a.frame a.below a.keeps a.waits here (variable_word v);
          unstored = unstored (sees moving) a.frame a.below a.keeps a.waits here (variable_word v);
          moves = moved.moves;
          finished = (λ i. moved.is_later i stack.0) ∙ later_finished (sees moving) a.frame a.below a.keeps a.waits here (variable_word v);
        }

    -- of an instruction that stores no new array in an owned field
    pub does_as : ((v : Variable) (put : ℕ) → effect_at c.program at ≡ Writes v put → puts_owned owning.owned a.keeps.stands.insn.op a.keeps.stands.target ≡ false) → (e : Effect) (o : Onward) → effect_at c.program at ≡ e → done c.program at e got ≡ Some o → StaysStructured c was (goes_on s o) → Goal (goes_on s o)
    does_as stores_none_here e o same d stands = elim (cases_Bool (puts_owned owning.owned a.keeps.stands.insn.op a.keeps.stands.target)) [
      | inl puts ↦ by_effect e same d puts (fits_as e same)
      | inr plain ↦ onward s o refl refl stands (λ b some. steps_kept c.program x.frames b at e got o (top_is got a) d)
          (subst (IfKeeps (in_world building k.now)) d
          (does_it (sees moving) a.frame a.below a.keeps a.waits is e got plain (allowed_as e same) (built_as e same plain) (clean_as e same) (fits_as e same)
          (subst (λ (e : Effect). FoundOld (sees moving) is a.keeps.stands.target e got) same a.found) (subst (λ (e : Effect). FoundStored (sees moving) is a.frame a.keeps.stands e got) same a.stored)))
    ]
      where
        never : (e : Effect) → FitsOp e a.keeps.stands.insn.op → puts_owned owning.owned a.keeps.stands.insn.op a.keeps.stands.target ≡ true → is_putfield a.keeps.stands.insn.op ≡ false → ⊥
        never e f puts usual = (let bad : true ≡ false = sym puts ∙ stores_none owning.owned a.keeps.stands.insn.op a.keeps.stands.target usual in cc)

        by_effect : (e : Effect) → effect_at c.program at ≡ e → done c.program at e got ≡ Some o → puts_owned owning.owned a.keeps.stands.insn.op a.keeps.stands.target ≡ true → FitsOp e a.keeps.stands.insn.op → Goal (goes_on s o)
        by_effect (Writes v put) same d puts fits = absurd (let bad : true ≡ false = sym puts ∙ stores_none_here v put same in cc)
        by_effect (Throws class) same d puts fits =
            onward s o refl refl stands (λ b some. steps_kept c.program x.frames b at (Throws class) got o (top_is got a) d)
            (subst (IfKeeps (in_world building k.now)) d (stays k.now next t (λ z. OnwardKeeps (in_world building z) (threw class at)) (throws_it (sees moving) a.frame a.below a.keeps a.waits class (allowed_as (Throws class) same).1)))
        by_effect Stuck same d puts fits = absurd (cc)
        by_effect (Reads v) same d puts fits = absurd (never (Reads v) fits puts fits.0)
        by_effect e same d puts fits = absurd (never e fits puts fits.1)

    by_machine : (class : Thrown) → Refuses c.program got at class → IsByMachine class
    by_machine _ (moves.past_end array index stored same t) = tt
    by_machine class why = tt

    pub refuses_as : (class : Thrown) → Refuses c.program got at class → StaysStructured c was (goes_on s (threw class at)) → Goal (goes_on s (threw class at))
    refuses_as class why stands =
        onward s (threw class at) refl refl stands (λ b some low high. ap (put_back b) (sym a.there))
        (stays k.now next t (λ z. OnwardKeeps (in_world building z) (threw class at)) (throws_it (sees moving) a.frame a.below a.keeps a.waits class (by_machine class why)))

    -- the frames with the instruction done
    abbrev Next : World → Type 0
    Next z = FramesIn (in_world building z) Runs (went_on c.program at 0)

    usual_plain : IsUsual a.keeps.stands.insn.op → puts_owned owning.owned a.keeps.stands.insn.op a.keeps.stands.target ≡ false
    usual_plain usual = stores_none owning.owned a.keeps.stands.insn.op a.keeps.stands.target usual.1

    next_step : IsUsual a.keeps.stands.insn.op → OneOf (edges a.keeps.stands.insn) a.keeps.stands.insn.next → RowOld (IsFinished k.now next) (row_at c a.frame a.keeps.stands) 0 → RowOld (IsStoredNowhere owning.stores) (row_at c a.frame a.keeps.stands) 0 → Steps k.now next t Next
    next_step usual edge old clean = runs_usual (sees moving) a.frame a.below a.keeps a.waits a.keeps.stands.insn.next 0 edge usual old clean

    pub prints_as : (v : ℕ) → effect_at c.program at ≡ Prints v → StaysStructured c was (goes_on (printed s got v) (Running (went_on c.program at 0))) → Goal (goes_on (printed s got v) (Running (went_on c.program at 0)))
    prints_as v same stands = onward (printed s got v) (Running (went_on c.program at 0)) refl refl stands (outside_keeps (Running (went_on c.program at 0)) (none_as (Prints v) same tt))
        (next_step (fits_as (Prints v) same) (allowed_as (Prints v) same).0 (built_as (Prints v) same (usual_plain (fits_as (Prints v) same))) (clean_as (Prints v) same))

    -- ---- a new object

    pub makes_as : (word size : ℕ) → effect_at c.program at ≡ Makes word size → Goal (record s { frames = making c.program at; phase = phases.Made got word })
    makes_as word size same =
        subst (λ (v : ℕ). Goal (record s { frames = making c.program at; phase = phases.Made v word })) (sym gets.0)
        (in_none building was x k is_world owning.stores more (phases.Made next word) (record s { frames = making c.program at; phase = phases.Made next word }) (none_as (Makes word size) same tt) held
        (record {
          later = with_builder k.now next (builder t (length a.below) Header);
          goes = goes_given k.now next more t next (builder t (length a.below) Header) grows refl (λ o. (let l = o.0 in omega (arith, l))) (λ j h. absurd (let l = (now_is.inside next j h).1 in omega (arith, l)));
          world = λ z. world_given k.now (words_of c.program) next more next (builder t (length a.below) Header) z grows z.room longer;
          lost = lost_given k.now next (builder t (length a.below) Header) (λ b h. absurd (let l = (now_is.inside next b h).1 in omega (arith, l)));
          fits = (subst (λ (h : ℕ). MadeIn (in_later building (with_builder k.now next (builder t (length a.below) Header)) more) next h (making c.program at)) (omega arith) keeps_it, tt);
        })).moves
      where
        al : AllowedAs (Makes word size)
        al = allowed_as (Makes word size) same

        gets : (got ≡ next) × (more ≡ next + size)
        gets = subst (λ (e : Effect). Gets next more e got) same a.gets

        longer : next < more
        longer = let sizes = made_size c marked a.keeps.stands.method al.1 word size al.4 in omega (arith, gets.1, sizes.0)

        keeps_it : MadeIn (in_later building (with_builder k.now next (builder t (length a.below) Header)) more) next (length a.below) (making c.program at)
        keeps_it =
            let fits : (is_getfield a.keeps.stands.insn.op ≡ false) × (is_putfield a.keeps.stands.insn.op ≡ false) = fits_as (Makes word size) same in
            makes_it (sees moving) more longer a.frame a.below a.keeps a.waits al.1 word size al.0 al.2 al.3 al.4 (built_as (Makes word size) same (stores_none owning.owned a.keeps.stands.insn.op a.keeps.stands.target fits.1)) fits

    -- ---- to a phase of a monitor, with the instruction done

    to_phase : (y : Thread) (now : Phase) → x.attempt ≡ None → y.attempt ≡ x.attempt → y.held ≡ x.held → y.frames ≡ went_on c.program at 0 → ((z : World) → GoesOn k.now z next next t 0 → Next z → PhaseFits (in_world building z) (went_on c.program at 0) now) → Steps k.now next t Next → Moved building k.now more now y
    to_phase y now none attempt hs frames is_fit step =
        moved_more building k.now more now y is_world grows
        (in_none building was x k is_world owning.stores next now y (attempt ∙ none) (subst (AreKnown w next t) (sym hs) held)
        (record { later = step.later; goes = step.goes; world = step.world (words_of c.program); lost = step.lost; fits = subst (λ (gs : List Frame). PhaseFits (in_world building step.later) gs now) (sym frames) (is_fit step.later step.goes step.keeps) })).moves

    known : (m : ℕ) → IsFinished k.now next m → (z : World) → GoesOn k.now z next next t 0 → IsOwnOrFinished z next t m
    known m old z g = finished_known z next t m (finished_on k.now z next next t g m old)

    pub waits_as : (m : ℕ) (kept : Kept) (now : Phase) → effect_at c.program at ≡ Waits m → WaitsFrom m kept now → Goal (record s { frames = went_on c.program at 0; phase = now; turns = 0 })
    waits_as m kept now same asked = by_kept kept now asked
      where
        b : BuiltAs (Waits m)
        b = built_as (Waits m) same (usual_plain (fits_as (Waits m) same))

        step : Steps k.now next t Next
        step = next_step (fits_as (Waits m) same) (allowed_as (Waits m) same).0 b.1 (clean_as (Waits m) same).1

        by_kept : (kept : Kept) (now : Phase) → WaitsFrom m kept now → Goal (record s { frames = went_on c.program at 0; phase = now; turns = 0 })
        by_kept _ _ (moves.grows_first count) = to_phase (record s { frames = went_on c.program at 0; phase = phases.Grow m towards.Wait; turns = 0 }) (phases.Grow m towards.Wait) (none_as (Waits m) same tt) refl refl refl (λ z g p. (p, (known m b.0 z g, tt))) step
        by_kept _ _ (moves.waits_fat r) = to_phase (record s { frames = went_on c.program at 0; phase = phases.WaitBit m r; turns = 0 }) (phases.WaitBit m r) (none_as (Waits m) same tt) refl refl refl (λ z g p. (p, known m b.0 z g)) step

    -- a notification
    notify : (m : ℕ) → IsNotify c.program at m → (x.attempt ≡ None) × IsFinished k.now next m × Steps k.now next t Next
    notify m (moves.of_one same) = let b = built_as (Notifies m) same (usual_plain (fits_as (Notifies m) same)) in (none_as (Notifies m) same tt, b.0, next_step (fits_as (Notifies m) same) (allowed_as (Notifies m) same).0 b.1 (clean_as (Notifies m) same).1)
    notify m (moves.of_all same) = let b = built_as (NotifiesAll m) same (usual_plain (fits_as (NotifiesAll m) same)) in (none_as (NotifiesAll m) same tt, b.0, next_step (fits_as (NotifiesAll m) same) (allowed_as (NotifiesAll m) same).0 b.1 (clean_as (NotifiesAll m) same).1)

    pub asks_as : (m : ℕ) (kept : Kept) (now : Phase) → IsNotify c.program at m → Asks m kept now → Goal (record s { frames = went_on c.program at 0; phase = now })
    asks_as m _ _ y (moves.looks_who r) = let q = notify m y in to_phase (record s { frames = went_on c.program at 0; phase = phases.NotifyLook m r }) (phases.NotifyLook m r) q.0 refl refl refl (λ z g p. (p, known m q.1 z g)) q.2
    asks_as m _ _ y (moves.clears_all r) = let q = notify m y in to_phase (record s { frames = went_on c.program at 0; phase = phases.NotifyAll m r }) (phases.NotifyAll m r) q.0 refl refl refl (λ z g p. (p, known m q.1 z g)) q.2

    pub nobody_as : (m : ℕ) → IsNotify c.program at m → StaysStructured c was (goes_on s (Running (went_on c.program at 0))) → Goal (goes_on s (Running (went_on c.program at 0)))
    nobody_as m y stands = let q = notify m y in onward s (Running (went_on c.program at 0)) refl refl stands (outside_keeps (Running (went_on c.program at 0)) q.0) q.2
