-- Each event of a thread keeps what construction says of it.
use Rattle.std.proofs.Common.{inl, inr, ◌≡◌, ℕ, ◌+◌, Bool, true, false, List, [], ◌∷◌, length, Option, Some, refl, sym, ap, ◌∙◌, subst, arith, drop, ◌==◌, slice_get, slice_index, if◌then◌else◌, IsTrue}
use Rattle.std.{specs.List.{AllZip, AllByRecursion}, proofs.lemmas.Bool.{cases_Bool, eqb-true, eq-eqb, false_from_ne_true}}
use Rattle.lists.proofs.ListLaws.{same_some}
use Rattle.jvm_types.specs.{Members.is_static, Numbers.has_number, ProgramInvariant.site_in, Types.TypeFrame, declared.code.Op.{Op, TheVariants.{Getfield, Getstatic, Putstatic}}}
use Rattle.jvm_types.specs.declared.{fixed_words.TheConstants.NEXT_FREE_WORD, outcome.Thrown.Thrown, program.{FieldInfo.FieldInfo, Kind.{Kind, TheVariants.Ref}, MethodInfo.MethodInfo, Target.Target}}
use Rattle.laws_programs.{specs.TargetLaws.HasRow}
use Rattle.checked_program.specs.{Colours.is_read_of, MarkedProgram.{MarkedProgram, IsMarked}, OwnedArrays.GetsOnThis, SectionLaws.HasThis}
use Rattle.machine_types.specs.{Accesses.{found_by, words_after}, Bounds.{IsRooted, part_roots}, Construction.{puts_owned, Runs, KindKeeps, PlaceStores, PlacesKeep}}
use Rattle.machine_types.specs.{Core.Core, Effects.{effect, gets, variable_of}, Events.{element_made, moved}, Frames.{Top, top_of, effect_at, went_on, making}, Going.goes_on, HeldMonitors.held_at}
use Rattle.machine_types.specs.{Instructions.{effect_wants, run_wants, printed}, Onward.{Onward, Running, threw, done}, OwnedPlaces.{IsFieldWord, IsStoredAt, IsStoredNowhere}, PlainMemory.Object, Standing.{Standing, Whole, row_at}}
use Rattle.machine_types.specs.{Structure.{IsAs, Stands}, Threads.{Frame, Thread}, Typed.{Classes, Holds, FrameHolds, FramesHold, HasClass}}
use Rattle.machine_types.specs.{Words.{value_word, variable_word}, Worlds.{World, IsFinished}, declared.effect.{Effect.{Effect, TheVariants.{Throws, Reads, Writes, Makes, Prints, Waits}}, Variable.Variable}}
use Rattle.machine_types.specs.declared.{effect.Variable.TheVariants.{Instance, Static}, phase.Phase.Phase}
use Rattle.laws_threads.{specs.{Allowed.{IsNamedField, Allowed}, StructureLaws.{StaysStructured, counted_by}}, proofs.{FramePlaces.one_standing_law, Landing.{stand_top, rules_at}, Standings.top_here}}
use Rattle.laws_threads.proofs.{Inside.{stack_this, top_shows}, ThreadMove.{GoesBy, Refuses, IsNotify, Move, becomes, counting, any_move, tried_attempt}, TopEffects.allowed_here}
use Rattle.laws_states.{specs.HeapFacts.HeapFacts, proofs.{Accesses.out_there, Lists.set_here, Movers.heap_state}}
use Rattle.laws_objects.proofs.{ArrayMoves.ReadsField, Buildings.{Moving, in_world, FrameIn, BelowIn, FramesIn, sees}, BuiltEffects.KindOld, EffectOps.{FitsOp, is_putfield}}
use Rattle.laws_objects.proofs.InstructionMoves.{Gets, KnownTop, known_top, by_top, does_as, refuses_as, nobody_as, prints_as, makes_as, waits_as, asks_as}
use Rattle.laws_objects.proofs.MonitorMoves.{fits, stays_as, fails_as, throws_as, element_as, made_as, notified_as, leads_as, turned_as, again_as, inside_as, begins_as, takes_as, gives_up_as, outer_as, inner_as, elided_as, fattens_as, waits_as as waits_in, retakes_as}
use Rattle.laws_objects.proofs.{Onwards.{FoundOld, FoundStored, fits_op}, PlaceWriters.{holder_of, instance_word, static_word}, RootMoves.starts_as, ThreadMoves.Moved, WorldChanges.none_some}
use Rattle.jvm_types.specs.declared.outcome.Thrown.TheVariants as outcomes
use Rattle.jvm_types.specs.declared.program.Target.TheVariants as targets
use Rattle.machine_types.specs.declared.phase.Phase.TheVariants as phases
use Rattle.laws_threads.proofs.ThreadMove as moves

-- ---- all moves

module _ (moving : Moving) (rooted : IsRooted moving.c.program moving.x) (got : ℕ) where
  open moving use {building, c, owning, more, was, x, k, stood}

  -- the top frame stores no new array in an owned field
  abbrev pub StoresNone : Classes → Type 0
  StoresNone is =
      x.phase ≡ phases.Run → (a : KnownTop moving is got) (v : Variable) (put : ℕ) → effect_at c.program (top_here c a.frame a.below a.keeps.stands) ≡ Writes v put
      → puts_owned owning.owned a.keeps.stands.insn.op a.keeps.stands.target ≡ false

  abbrev Keeps : Thread → Type 0
  Keeps y = Moved building k.now more (counted_by was y.phase) y

  module _ (is : Classes) (none : StoresNone is) (thrown : (v : ℕ) (class : Thrown) → x.phase ≡ phases.Throw v class → IsStoredNowhere owning.stores v) (n : ℕ) (known : x.phase ≡ phases.Run → was ≡ phases.Run → (at : Top) → top_of c.program x.frames ≡ Some at → KnownTop moving is got) where
    abbrev s : Thread
    s = counting n x

    -- at an instruction
    at_top : (P : Top → Type 0) → x.phase ≡ phases.Run → was ≡ phases.Run → ((a : KnownTop moving is got) → P (known_top moving is got a)) → (at : Top) → top_of c.program x.frames ≡ Some at → P at
    at_top P here e h at found = by_top moving is P got h (known here e at found) at found

    goes_keep : (phase : Phase) (o : Onward) → GoesBy c.program s got phase o → x.phase ≡ phase → IsAs phase was → StaysStructured c was (goes_on s o) → Keeps (goes_on s o)
    goes_keep _ o (moves.by_effect at f _ found same silent d) here e stands =
        at_top (λ at. effect_at c.program at ≡ f → done c.program at f got ≡ Some o → StaysStructured c was (goes_on s o) → Keeps (goes_on s o)) here e (λ a. does_as moving is e n got a (none here a) f o) at found same d stands
    goes_keep _ _ (moves.by_machine at class found why) here e stands =
        at_top (λ at. Refuses c.program got at class → StaysStructured c was (goes_on s (threw class at)) → Keeps (goes_on s (threw class at))) here e (λ a. refuses_as moving is e n got a class) at found why stands
    goes_keep _ _ (moves.by_nobody at m count h found y there l) here e stands =
        at_top (λ at. IsNotify c.program at m → StaysStructured c was (goes_on s (Running (went_on c.program at 0))) → Keeps (goes_on s (Running (went_on c.program at 0)))) here e (λ a. nobody_as moving is e n got a m) at found y stands
    goes_keep _ _ (moves.by_element word stored at found) here e stands = element_as moving n got word stored (element_made stored got) at found e stands
    goes_keep _ _ (moves.by_object a word) here e stands = made_as moving n got a word e stands
    goes_keep _ _ (moves.by_handler v class at found) here e stands = throws_as moving n got v class at (thrown v class here) found e stands
    goes_keep _ _ (moves.by_none m r f) here e stands = notified_as moving n got (phases.NotifyLook m r) e (λ fit. (fit.0, tt))
    goes_keep _ _ (moves.by_one m r u) here e stands = notified_as moving n got (phases.NotifyOne m r u) e (λ fit. (fit.0, tt))
    goes_keep _ _ (moves.by_all m r) here e stands = notified_as moving n got (phases.NotifyAll m r) e (λ fit. (fit.0, tt))

    move_keeps : (phase : Phase) (m : Move c s got phase) → x.phase ≡ phase → IsAs phase was → StaysStructured c was (becomes c s got phase m) → Keeps (becomes c s got phase m)
    move_keeps phase (moves.stays l) here e stands = stays_as moving n got
    move_keeps phase (moves.goes o l) here e stands = goes_keep phase o l here e stands
    move_keeps phase (moves.fails_in a f d l) here e stands = fails_as moving n got a f
    move_keeps phase (moves.leads now l) here e stands = leads_as moving n got phase now l e
    move_keeps phase (moves.turns now l) here e stands = turned_as moving n got phase now l e
    move_keeps _ (moves.makes at word size found f l) here e stands =
        at_top (λ at. effect_at c.program at ≡ Makes word size → Keeps (record s { frames = making c.program at; phase = phases.Made got word })) here e (λ a. makes_as moving is e n got a word size) at found f
    move_keeps _ (moves.prints at v found f l) here e stands =
        at_top (λ at. effect_at c.program at ≡ Prints v → StaysStructured c was (goes_on (printed s got v) (Running (went_on c.program at 0))) → Keeps (goes_on (printed s got v) (Running (went_on c.program at 0)))) here e (λ a. prints_as moving is e n got a v) at found f stands
    move_keeps _ (moves.asks_to_wait at m h now found f l q) here e stands =
        at_top (λ at. effect_at c.program at ≡ Waits m → Keeps (record s { frames = went_on c.program at 0; phase = now; turns = 0 })) here e (λ a same. waits_as moving is e n got a m h.kept now same q) at found f
    move_keeps _ (moves.asks at m h now found y l q) here e stands =
        at_top (λ at. IsNotify c.program at m → Keeps (record s { frames = went_on c.program at 0; phase = now })) here e (λ a y. asks_as moving is e n got a m h.kept now y q) at found y
    move_keeps _ (moves.enters_again m tried h f) here e stands = again_as moving n got m tried h f e
    move_keeps _ (moves.enters_inside m tried a f) here e stands = inside_as moving n got m tried a (tried_attempt m (held_at x.held m) x.attempt a f) e
    move_keeps _ (moves.begins_to_try m tried noted f below there may l fits free) here e stands = begins_as moving n got m tried noted f below there free e
    move_keeps phase (moves.takes_lock m kept l) here e stands = takes_as moving n got m kept phase l e
    move_keeps phase (moves.gives_up m a l) here e stands = gives_up_as moving n got m a phase l e stands
    move_keeps _ (moves.leaves_outer m a h f l) here e stands = outer_as moving n got m a e h f stands
    move_keeps _ (moves.leaves_inside m a b inner f l) here e stands = inner_as moving n got m a e b inner (tried_attempt m (held_at x.held m) x.attempt b f) stands
    move_keeps _ (moves.finishes_try m a b f l y) here e stands = elided_as moving n got m a e b (tried_attempt m (held_at x.held m) x.attempt b f) stands
    move_keeps _ (moves.fattens_lock m r toward h f) here e stands = fattens_as moving n got m r toward h f e
    move_keeps _ (moves.gives_up_to_wait m r h f) here e stands = waits_in moving n got m r h e
    move_keeps _ (moves.retakes_lock m r depth f) here e stands = retakes_as moving n got m r depth e
    move_keeps _ (moves.starts number roots f) here e stands = starts_as moving n roots number (subst (AllByRecursion (λ (number : ℕ). IsTrue (has_number (part_roots c.program x.number x.part) number))) f rooted.roots) e stands

  -- where the frame at the top is known if an instruction begins
  pub moves_keep : (is : Classes) → StoresNone is → ((v : ℕ) (class : Thrown) → x.phase ≡ phases.Throw v class → IsStoredNowhere owning.stores v) → (x.phase ≡ phases.Run → was ≡ phases.Run → (at : Top) → top_of c.program x.frames ≡ Some at → KnownTop moving is got) → StaysStructured c was (moved c x x.phase got) → Keeps (moved c x x.phase got)
  moves_keep is none thrown known = any_move (λ (y : Thread). StaysStructured c was y → Keeps y) c x x.phase got (λ n m. move_keeps is none thrown n known x.phase m refl stood.is_as)

-- ---- the frame at the top

-- as the frame stands in another proof of its place
pub restands : (c : MarkedProgram) → IsMarked c → (is : Classes) (f : Frame) (h : FrameHolds c is 0 f) (k : Standing c f) → (l : FrameHolds c is 0 f) × (l.stands ≡ k)
restands c marked is f h k =
    let same = one_standing_law c f h.stands k marked in (
      record {
        stands = k;
        stack = subst (λ (m : MethodInfo). AllZip (Holds m is) (drop 0 k.types.stack) f.stack) same.method (subst (λ (u : TypeFrame). AllZip (Holds h.stands.method is) (drop 0 u.stack) f.stack) same.types h.stack);
        locals = subst (λ (m : MethodInfo). AllZip (Holds m is) k.types.locals f.locals) same.method (subst (λ (u : TypeFrame). AllZip (Holds h.stands.method is) u.locals f.locals) same.types h.locals);
        receiver = λ e. subst (λ (m : MethodInfo). is m.class f.receiver) same.method (h.receiver (ap (λ (m : MethodInfo). is_static m.flags) same.method ∙ e));
      },
      refl,
    )

-- a field is as the world that the thread sees has it
pub kind_map : (Old : ℕ → Type 0) (w : World) (next : ℕ) → ((v : ℕ) → IsFinished w next v → Old v) → (kind : Kind) (v : ℕ) → KindKeeps w next kind v → KindOld Old kind v
kind_map Old w next f (Ref class) v k = f v k
kind_map Old w next f kind v k = tt

module _ (moving : Moving) (objects : List Object) (s : Core) (facts : HeapFacts moving.c objects s) (next_is : slice_index s.words NEXT_FREE_WORD ≡ moving.next) (places : PlacesKeep moving.c moving.owning moving.w moving.next objects s.words) where
  open moving use {building, c, marked, owning, owns, w, next, t, more, was, x, k, stood}

  field_found : (target : Target) (v : Variable) (f : FieldInfo) → IsNamedField c.program (HasClass objects) target v f → KindOld (IsFinished k.now next) f.kind (slice_index s.words (variable_word v))
  field_found target v f at = kind_map (IsFinished k.now next) w next (λ v o. (o.0, k.now_is.others v (λ b e. absurd (none_some (w v) b o.1 e)) ∙ o.1)) f.kind (slice_index s.words (variable_word v))
      (elim (cases_Bool (is_static f.flags)) [
        | inl e ↦ subst (λ (n : ℕ). KindKeeps w next f.kind (slice_index s.words n)) (sym (static_word c objects target v f at e)) (places.statics at.number f at.there e)
        | inr e ↦
            let holder = holder_of (heap_state c marked objects s facts) at.number f at.reference at.there e (at.holder e) in
            subst (λ (n : ℕ). KindKeeps w next f.kind (slice_index s.words n)) (sym (instance_word c objects target v f at e))
            (subst (λ (a : ℕ). KindKeeps w next f.kind (slice_index s.words (value_word a f.index))) holder.is (places.fields holder.object at.number f holder.known at.there e holder.of_class))
      ])

  module _ (here : x.phase ≡ phases.Run) (is_run : was ≡ phases.Run) where
    module _ (f : Frame) (fs : List Frame) (there : x.frames ≡ f ∷ fs) (kf : FrameIn (in_world building k.now) (length fs) Runs f) (b : BelowIn (in_world building k.now) f fs) (h : FrameHolds c (HasClass objects) 0 f) where
      abbrev at : Top
      at = top_here c f fs kf.stands

      pub allowed : Allowed c.program kf.stands.method (HasClass objects) kf.stands.insn kf.stands.target (row_at c f kf.stands) f.stack (effect_at c.program at)
      unfolding restands
      allowed = allowed_here c marked (HasClass objects) (out_there c marked objects s facts) f (restands c marked (HasClass objects) f h kf.stands).0

      found : (e : Effect) → FoundOld (sees moving) (HasClass objects) kf.stands.target e (found_by s.words (effect_wants x f.pc e))
      found (Reads v) = λ g named. field_found kf.stands.target v g named
      found e = tt

      -- the tags of `this` on the stack
      on_this : HasThis f.receiver kf.stands.tags.stack f.stack
      on_this =
          let stands : Stands c phases.Run (f ∷ fs) x.held x.attempt = subst (λ (fs : List Frame). Stands c phases.Run fs x.held x.attempt) there (subst (λ (p : Phase). Stands c p x.frames x.held x.attempt) is_run stood.stands) in
          let shows = top_shows c marked Whole f fs stands.shown stands.show in
          stack_this c marked f kf.stands shows.0 shows.1

      abbrev Reads_it : ℕ → Type 0
      Reads_it n = ReadsField c marked owning.stores f kf.stands n

      place_kind : (kind : Kind) (word v : ℕ) → PlaceStores owning.stores word false kind v → KindOld (IsStoredNowhere owning.stores) kind v
      place_kind (Ref class) word v h = h
      place_kind kind word v h = tt

      module _ (v : Variable) (same : effect_at c.program at ≡ Reads v) (field : FieldInfo) (named : IsNamedField c.program (HasClass objects) kf.stands.target v field) where
        -- where the field is one of an object
        at_place : is_static field.flags ≡ false → PlaceStores owning.stores (value_word named.reference field.index) (owning.owned named.number) field.kind (slice_index s.words (value_word named.reference field.index))
        at_place static =
            let holder = holder_of (heap_state c marked objects s facts) named.number field named.reference named.there static (named.holder static) in
            subst (λ (a : ℕ). PlaceStores owning.stores (value_word a field.index) (owning.owned named.number) field.kind (slice_index s.words (value_word a field.index))) holder.is
            (places.arrays holder.object named.number field holder.known named.there static holder.of_class)

        -- the reference is the one on the stack
        on_stack : (op : Op) (stack : List ℕ) (n : ℕ) (i : ℕ) → op ≡ Getfield i → kf.stands.insn.op ≡ op → f.stack ≡ stack → is_static field.flags ≡ false → slice_index f.stack 0 ≡ named.reference
        on_stack op stack n i is here_op there_stack static = by_stack stack there_stack (sym moved ∙ same)
          where
            moved : effect_at c.program at ≡ gets (Some field) stack
            moved = (λ j. effect c.program kf.stands.insn.next (named.named j) (here_op j) f.locals (there_stack j)) ∙ (ap (λ (o : Op). effect c.program kf.stands.insn.next (targets.Field named.number) o f.locals stack) is ∙ ap (λ (o : Option FieldInfo). gets o stack) named.there)

            by_stack : (vs : List ℕ) → f.stack ≡ vs → gets (Some field) vs ≡ Reads v → slice_index f.stack 0 ≡ named.reference
            by_stack [] e h = absurd (cc)
            by_stack (a ∷ vs) e h = ap (λ (l : List ℕ). slice_index l 0) e ∙ (elim (a == 0) as (λ (z : Bool). (if z then Throws outcomes.NullPointerException else Reads (variable_of field a)) ≡ Reads v → a ≡ named.reference) [
              | true ↦ λ h. absurd (cc)
              | false ↦ λ h.
                  let one : variable_of field a ≡ v = cc in
                  let of_flag : (r : ℕ) → variable_of field r ≡ Instance r field.index = λ r. ap (λ (t : Bool). if t then Static field.index else Instance r field.index) static in
                  let both : Instance a field.index ≡ Instance named.reference field.index = sym (of_flag a) ∙ (one ∙ (named.variable ∙ of_flag named.reference)) in
                  cc
            ]) h

        reads_own_array : (n : ℕ) → Reads_it n → (word : ℕ) → IsFieldWord c n f.receiver word → IsStoredAt owning.stores word (slice_index s.words (variable_word v))
        reads_own_array n reads word is = by_op kf.stands.insn.op refl kf.stands.target refl reads.1
          where
            by_op : (op : Op) → kf.stands.insn.op ≡ op → (target : Target) → kf.stands.target ≡ target → is_read_of n op target ≡ true → IsStoredAt owning.stores word (slice_index s.words (variable_word v))
            by_op (Getfield i) e (targets.Field other) g h =
                let both : targets.Field named.number ≡ targets.Field other = sym named.named ∙ g in
                let one_number : named.number ≡ other = cc in
                let same_number : named.number ≡ n = one_number ∙ eqb-true other n h in
                let owned : owning.owned named.number ≡ true = ap owning.owned same_number ∙ owns.all n reads.0 in
                let one : field ≡ reads.0.field = same_some (sym named.there ∙ (ap (slice_get c.program.fields) same_number ∙ reads.0.is)) in
                let two : field ≡ is.field = same_some (sym named.there ∙ (ap (slice_get c.program.fields) same_number ∙ is.is)) in
                let static : is_static field.flags ≡ false = ap (λ (x : FieldInfo). is_static x.flags) one ∙ reads.0.instance in
                let gets_this : GetsOnThis n (Getfield i) (targets.Field other) kf.stands.tags = subst (λ (t : Target). GetsOnThis n (Getfield i) t kf.stands.tags) g (subst (λ (o : Op). GetsOnThis n o kf.stands.target kf.stands.tags) e (reads.0.read f.method kf.stands.number kf.stands.method kf.stands.insn kf.stands.target kf.stands.tags kf.stands.at)) in
                let this : slice_index f.stack 0 ≡ f.receiver = on_this 0 (gets_this (eqb-true other n h)) in
                let reference : named.reference ≡ f.receiver = sym (on_stack (Getfield i) f.stack n i refl e refl static) ∙ this in
                let place : value_word named.reference field.index ≡ word = (λ j. value_word (reference j) ((two j).index)) ∙ sym is.place in
                subst (λ (x : ℕ). IsStoredAt owning.stores word (slice_index s.words x)) (sym (instance_word c objects kf.stands.target v field named static))
                (subst (λ (x : ℕ). IsStoredAt owning.stores x (slice_index s.words (value_word named.reference field.index))) place
                (subst (λ (b : Bool). PlaceStores owning.stores (value_word named.reference field.index) b field.kind (slice_index s.words (value_word named.reference field.index))) owned (at_place static)))
            by_op op e target g h = absurd (let bad : false ≡ true = h in cc)

        reads_none : ((n : ℕ) → Reads_it n → ⊥) → KindOld (IsStoredNowhere owning.stores) field.kind (slice_index s.words (variable_word v))
        reads_none none = by_flag (is_static field.flags) refl
          where
            by_flag : (b : Bool) → is_static field.flags ≡ b → KindOld (IsStoredNowhere owning.stores) field.kind (slice_index s.words (variable_word v))
            by_flag true e = subst (λ (x : ℕ). KindOld (IsStoredNowhere owning.stores) field.kind (slice_index s.words x)) (sym (static_word c objects kf.stands.target v field named e)) (place_kind field.kind field.index (slice_index s.words field.index) (places.static_arrays named.number field named.there e))
            by_flag false e =
                subst (λ (x : ℕ). KindOld (IsStoredNowhere owning.stores) field.kind (slice_index s.words x)) (sym (instance_word c objects kf.stands.target v field named e))
                (place_kind field.kind (value_word named.reference field.index) (slice_index s.words (value_word named.reference field.index))
                (subst (λ (b : Bool). PlaceStores owning.stores (value_word named.reference field.index) b field.kind (slice_index s.words (value_word named.reference field.index))) (false_from_ne_true (owning.owned named.number) (λ h. none named.number (owns.those named.number h, reads))) (at_place e)))
              where
                -- an instance field is read by a `getfield`
                is_get : (op : Op) → HasRow c.program (site_in kf.stands.method) kf.stands.insn.pc (targets.Field named.number) op (row_at c f kf.stands) → is_putfield op ≡ false → is_read_of named.number op (targets.Field named.number) ≡ true
                is_get (Getfield i) h p = eq-eqb named.number named.number refl
                is_get (Getstatic i) h p = absurd (let same : h.field ≡ field = same_some (sym h.there ∙ named.there) in let bad : true ≡ false = sym h.sort ∙ (ap (λ (x : FieldInfo). is_static x.flags) same ∙ e) in cc)
                is_get (Putstatic i) h p = absurd (let same : h.field ≡ field = same_some (sym h.there ∙ named.there) in let bad : true ≡ false = sym h.sort ∙ (ap (λ (x : FieldInfo). is_static x.flags) same ∙ e) in cc)
                is_get op h p = absurd (first_of (assumption, cc))

                reads : is_read_of named.number kf.stands.insn.op kf.stands.target ≡ true
                reads =
                    let fits : FitsOp (Reads v) kf.stands.insn.op = subst (λ (e : Effect). FitsOp e kf.stands.insn.op) same (fits_op (sees moving) f fs kf b) in
                    let rows : HasRow c.program (site_in kf.stands.method) kf.stands.insn.pc (targets.Field named.number) kf.stands.insn.op (row_at c f kf.stands) = subst (λ (u : Target). HasRow c.program (site_in kf.stands.method) kf.stands.insn.pc u kf.stands.insn.op (row_at c f kf.stands)) named.named (rules_at c marked f kf.stands).has_row in
                    subst (λ (u : Target). is_read_of named.number kf.stands.insn.op u ≡ true) (sym named.named) (is_get kf.stands.insn.op rows fits.0)

      found_stored : (e : Effect) → effect_at c.program at ≡ e → FoundStored (sees moving) (HasClass objects) f kf.stands e (found_by s.words (effect_wants x f.pc e))
      found_stored (Reads v) same = λ field named. (reads_own_array v same field named, reads_none v same field named)
      found_stored e same = tt

      known_here : more ≡ slice_index (words_after s.words (run_wants c.program x (Some at))) NEXT_FREE_WORD → KnownTop moving (HasClass objects) (found_by s.words (run_wants c.program x (Some at)))
      known_here is = record { frame = f; below = fs; there = there; keeps = kf; waits = b; allowed = allowed; found = found (effect_at c.program at); stored = found_stored (effect_at c.program at) refl; gets = gets (effect_at c.program at) is }
        where
          gets : (e : Effect) → more ≡ slice_index (words_after s.words (effect_wants x f.pc e)) NEXT_FREE_WORD → Gets next more e (found_by s.words (effect_wants x f.pc e))
          gets (Makes word size) is = (next_is, is ∙ (set_here s.words NEXT_FREE_WORD (slice_index s.words NEXT_FREE_WORD + size) (omega (arith, facts.unused.many, marked.checked.program.heap_from)) ∙ ap (λ (n : ℕ). n + size) next_is))
          gets e is = tt

    abbrev KnownAt : Option Top → Type 0
    KnownAt o = more ≡ slice_index (words_after s.words (run_wants c.program x o)) NEXT_FREE_WORD → KnownTop moving (HasClass objects) (found_by s.words (run_wants c.program x o))

    by_frames : (fs : List Frame) → x.frames ≡ fs → FramesIn (in_world building k.now) Runs fs → FramesHold c (HasClass objects) fs → (at : Top) → top_of c.program fs ≡ Some at → KnownAt (top_of c.program fs)
    by_frames [] there kept h at found = absurd (cc)
    by_frames (f ∷ fs) there kept h at found = subst KnownAt (sym (stand_top c marked f fs kept.0.stands)) (known_here f fs there kept.0 kept.1 h.0)

    pub run_known : FramesHold c (HasClass objects) x.frames → (at : Top) → top_of c.program x.frames ≡ Some at → KnownAt (top_of c.program x.frames)
    run_known h at found = by_frames x.frames refl (fits moving phases.Run is_run).0 h at found
