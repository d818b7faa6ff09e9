-- An event leaves a world in that construction stands again.
use Rattle.std.proofs.Common.{◌≡◌, ◌≢◌, ℕ, ◌+◌, ◌≤◌, ◌⊎◌, inl, inr, Bool, true, false, List, [], ◌∷◌, length, Option, Some, None, refl, sym, ap, ◌∙◌, subst, arith, ◌==◌, Contains, slice_get, slice_set, slice_index, if◌then◌else◌}
use Rattle.std.proofs.lemmas.Bool.{cases_Bool, eqb-true, eqb-false, eq-eqb}
use Rattle.lists.proofs.ListLaws.{same_some}
use Rattle.jvm_types.specs.{Members.is_static, ProgramInvariant.{words_of, site_in}, declared.{class_numbers.TheConstants.{INT_ARRAY_CLASS, PRINT_STREAM_CLASS}, code.Op.Op, fixed_words.TheConstants.NEXT_FREE_WORD, outcome.Thrown.Thrown, program.{FieldInfo.FieldInfo, Kind.Kind, Target.Target}}}
use Rattle.laws_programs.{specs.TargetLaws.HasRow, proofs.ClassTreeLaws.leaves_alone}
use Rattle.checked_program.specs.OwnedArrays.{IsOwnedArrayField}
use Rattle.machine_types.specs.{Accesses.{found_by, words_after}, Construction.{Owning, puts_owned, Runs, ThreadKeeps, KindKeeps, PlaceStores, PlacesKeep, Construction}, Core.event_of, Events.{wanted, moved}}
use Rattle.machine_types.specs.{FoundWords.content_at, Frames.{Top, top_of, effect_at, went_on}, Going.goes_on, Instructions.{run_wants, begun, instructed, ran}, Lawful.IsLawful, Monitors.claim, Onward.Running, OwnedPlaces.{Stores, with_stored, IsStoredNowhere}}
use Rattle.machine_types.specs.{PlainMemory.Object, ReadyObjects.{class_of, out_object}, Standing.{Standing, row_at, tags_of}, StartLaws.StartLiesApart, Structure.{IsStructured, IsAs, Stands, AttemptStandsIn}, Threads.{Frame, Thread}}
use Rattle.machine_types.specs.{Typed.{IsNullOr, KindHolds, FrameHolds, FramesHold, PhaseHolds, HasClass}, Words.{value_word, variable_word}, Worlds.{Lost, Unstored, Builder, builder, World, IsFinished, IsWorld, GoesOn}, declared.{effect.Effect.Effect, phase.Phase.Phase}}
use Rattle.machine_types.specs.declared.effect.{Effect.TheVariants.Writes, Variable.{Variable}}
use Rattle.laws_threads.{specs.{Allowed.{Allowed, IsNamedField}, StateLaws.{counted_of, counted_phase_at}, StructureLaws.{StructureIsKept, counted_by}}, proofs.{Landing.{stand_top, rules_at}, Standings.top_here, ThreadMove.counting}}
use Rattle.laws_states.{specs.{HeapFacts.{objects_by, objects_of}, Sites.ReachesIf}, proofs.{Accesses.{element_site, out_there}, Assembled.got_set, Lists.contained_got, NewHeader.behind_new, Places.same_object}}
use Rattle.laws_states.proofs.{Movers.{HeapMover, heap_mover, heap_state}, Phases.{IsOldPhase, old_fits, events_reach}, WordSteps.words_go_on}
use Rattle.laws_objects.{specs.ConstructionLaws.EventsKeepConstruction, proofs.ArraySlots.StoresFine}
use Rattle.laws_objects.proofs.{Buildings.{Building, Moving, in_world, with_stores, FrameIn, BelowIn, FramesIn, ThreadIn, Constructed, BuiltState, building_in, sees}, BuiltEffects.{KindOld, Built}}
use Rattle.laws_objects.proofs.{EffectOps.FitsOp, FrameChanges.IsUnwound, InstructionMoves.{IsOutside, none_outside, KnownTop, StoresNewArray, stores_as}, LostObjects.{SeenByAll, LostIn}}
use Rattle.laws_objects.proofs.{MonitorMoves.fits, Onwards.{built_here, built_clean, fits_op}, Operands.is_getfield, PhaseMoves.{moves_keep, allowed, run_known}}
use Rattle.laws_objects.proofs.{Places.{PlaceChange, leave_plain, same_words, plain, element, old_kind, IsLeft, WritesFine, effect_places, made_places}, PlaceWriters.instance_word}
use Rattle.laws_objects.proofs.{RestoredFrames.{NewArray, kept_there, stored_on, at_on, nowhere_on, thread_on, thread_sees}, ThreadMoves.Moved, UnreturnedInits.away_frames}
use Rattle.laws_objects.proofs.{Views.{other_keeps, other_lost}, WorldChanges.{none_from, none_some, goes_same}}
use Rattle.jvm_types.specs.declared.code.Op.TheVariants as ops
use Rattle.jvm_types.specs.declared.outcome.Thrown.TheVariants as outcomes
use Rattle.jvm_types.specs.declared.program.Kind.TheVariants as kinds
use Rattle.jvm_types.specs.declared.program.Target.TheVariants as targets
use Rattle.machine_types.specs.declared.phase.Phase.TheVariants as phases

module _ (lies : StartLiesApart) (structure : StructureIsKept) (state : BuiltState) (t : ℕ) where
  open state use {constructed, c, marked, frozen, owning, w, was, objects, s, con, facts}

  -- construction behind the event
  abbrev pub BuiltBehind : Option Thread → (stores : Stores) → World → Type 0
  BuiltBehind o stores later = Construction c frozen (record owning { stores = stores }) later (counted_phase_at was t (event_of c s t o).threads) (objects_of c.program o objects) (event_of c s t o)

  abbrev pub built_behind : (o : Option Thread) (stores : Stores) (later : World) → BuiltBehind o stores later → Constructed
  built_behind o stores later built = record { c = c; frozen = frozen; owning = record owning { stores = stores }; w = later; was = counted_phase_at was t (event_of c s t o).threads; objects = objects_of c.program o objects; s = event_of c s t o; con = built }

  -- what is there behind the event; what was lost is lost
  pub record BuildsFor (o : Option Thread) : Type 0 where
    pub later : World
    pub goes_on : GoesOn w later (slice_index s.words NEXT_FREE_WORD) (slice_index (event_of c s t o).words NEXT_FREE_WORD) t 0
    pub stores : Stores
    pub kept : (v word : ℕ) → owning.stores v ≡ Some word → stores v ≡ Some word
    pub keeps : BuiltBehind o stores later
    pub lost : (v : ℕ) (b : Builder) → LostIn constructed v b → LostIn (built_behind o stores later keeps) v b

  -- a thread behind it
  pub record Kept (own : Owning) (IsLost : ℕ → Builder → Type 0) (later : World) (more u : ℕ) (phase : Phase) (y : Thread) : Type 0 where
    pub keeps : ThreadKeeps c frozen own later more u phase y
    pub lost : (v : ℕ) (b : Builder) → IsLost v b → keeps.now v ≡ Some b

  -- ---- there is no such thread

  no_thread : slice_get s.threads t ≡ None → BuildsFor None
  no_thread e = record {
    later = w;
    goes_on = goes_same w (slice_index s.words NEXT_FREE_WORD) (slice_index s.words NEXT_FREE_WORD) t (omega arith);
    stores = owning.stores;
    kept = λ v word e. e;
    keeps = record { frozen_are = con.frozen_are; owned_are = con.owned_are; world = con.world; each = λ u y f. (by_number u y f (u == t) refl).keeps; places = con.places };
    lost = λ v b l. record { item = l.item; is = l.is; seen = λ u y f. (by_number u y f (u == t) refl).lost v b l.seen };
  }
    where
      by_number : (u : ℕ) (y : Thread) → slice_get s.threads u ≡ Some y → (b : Bool) → (u == t) ≡ b → Kept owning (SeenByAll constructed) w (slice_index s.words NEXT_FREE_WORD) u (if b then counted_of (was t) (slice_get s.threads t) else was u) y
      by_number u y f true g = absurd (none_some (slice_get s.threads t) y e (ap (slice_get s.threads) (sym (eqb-true u t g)) ∙ f))
      by_number u y f false g = record { keeps = con.each u y f; lost = λ v b all. all u y f }

  -- ---- one thread moves

  module _ (x : Thread) (there : slice_get s.threads t ≡ Some x) where
    abbrev next : ℕ
    next = slice_index s.words NEXT_FREE_WORD

    abbrev after : List ℕ
    after = words_after s.words (wanted c x x.phase)

    abbrev more : ℕ
    more = slice_index (words_after s.words (wanted c x x.phase)) NEXT_FREE_WORD

    abbrev got : ℕ
    got = found_by s.words (wanted c x x.phase)

    abbrev now : Thread
    now = moved c x x.phase got

    lawful : IsLawful c x
    lawful = facts.threads.lawful t x there

    abbrev mover : HeapMover
    mover = heap_mover c marked objects s facts.heap t x there lawful

    pub stood : IsStructured c (was t) x
    stood = facts.structure t x there

    abbrev keeps : ThreadIn (building_in state t) (was t) x
    keeps = con.each t x there

    pub grows : next ≤ more
    grows = by_word x.phase refl
      where
        by_word : (phase : Phase) → x.phase ≡ phase → next ≤ more
        by_word (phases.Made a word) e = subst (λ (p : Phase). next ≤ slice_index (words_after s.words (wanted c x p)) NEXT_FREE_WORD) (sym e) (behind_new lies (record { mover = mover; a = a; word = word; made = e })).free
        by_word phase e = (words_go_on lies mover.state (content_at c x x.phase) (wanted c x x.phase) (old_fits mover (subst IsOldPhase (sym e) tt))).free

    holds : (phase : Phase) → x.phase ≡ phase → PhaseHolds c (HasClass objects) phase x.frames
    holds phase e = subst (λ (p : Phase). PhaseHolds c (HasClass objects) p x.frames) e (facts.heap.typed.threads t x there).phase

    -- ---- what was never stored in an owned field

    -- an object of another class than that of arrays
    stored_class : (v d : ℕ) → HasClass objects d v → d ≢ INT_ARRAY_CLASS → owning.stores v ≡ None
    stored_class v d k n = none_from (owning.stores v) (λ place e.
        let a = con.places.stored v place e in
        let one : a.0 ≡ k.0 = same_object c.program objects next facts.heap.apart a.0 k.0 a.1 k.1 (a.2 ∙ sym k.2) in
        n (sym k.3 ∙ (ap (λ (o : Object). o.class) (sym one) ∙ a.3)))

    pub fine : StoresFine owning.stores next
    fine = record {
      null = none_from (owning.stores 0) (λ place e. (let a = con.places.stored 0 place e in let from = facts.heap.apart.begin a.1.0 a.0 (contained_got objects a.0 a.1) in omega (arith, from, a.2)));
      out = stored_class out_object PRINT_STREAM_CLASS (out_there c marked objects s facts.heap) (λ e. omega (arith, e));
      fresh = λ v l. none_from (owning.stores v) (λ place e. (let a = con.places.stored v place e in let to = facts.heap.apart.below a.1.0 a.0 (contained_got objects a.0 a.1) in omega (arith, to, a.2, l)));
    }

    abbrev moving : Moving
    moving = record {
      lawful = record { building = building_in state t; is_world = con.world; fine = fine };
      more = slice_index (words_after s.words (wanted c x x.phase)) NEXT_FREE_WORD;
      was = was t;
      x = x;
      k = con.each t x there;
      grows = grows;
      stood = stood;
    }

    -- the world as it sees it
    abbrev seen : Building
    seen = in_world (building_in state t) keeps.now

    thrown : (v : ℕ) (class : Thrown) → x.phase ≡ phases.Throw v class → owning.stores v ≡ None
    thrown v class e = stored_class v (class_of class) (holds (phases.Throw v class) e).0 (no_array class)
      where
        no_array : (class : Thrown) → class_of class ≢ INT_ARRAY_CLASS
        no_array outcomes.Throwable e = omega (arith, e)
        no_array class e = omega (arith, e)

    -- ---- by a move that stores no new array

    -- the word that an instruction finds
    known : x.phase ≡ phases.Run → was t ≡ phases.Run → (at : Top) → top_of c.program x.frames ≡ Some at → KnownTop moving (HasClass objects) got
    known here e at found =
        let got_is : got ≡ found_by s.words (wanted c x phases.Run) = ap (λ (p : Phase). found_by s.words (wanted c x p)) here in
        subst (KnownTop moving (HasClass objects)) (sym got_is)
        (run_known moving objects s facts.heap refl con.places here e (holds phases.Run here) at found
        (ap (λ (p : Phase). slice_index (words_after s.words (wanted c x p)) NEXT_FREE_WORD) here))

    -- the top frame stores none
    abbrev StoresNothing : Type 0
    StoresNothing = x.phase ≡ phases.Run → (f : Frame) (fs : List Frame) → x.frames ≡ f ∷ fs → (k : Standing c f) (v : Variable) (n : ℕ) → effect_at c.program (top_here c f fs k) ≡ Writes v n → puts_owned owning.owned k.insn.op k.target ≡ false

    usual : StoresNothing → Moved (building_in state t) keeps.now more (counted_by (was t) now.phase) now
    usual none = moves_keep moving lawful.rooted got (HasClass objects)
        (λ here a v n e. none here a.frame a.below a.there a.keeps.stands v n e) thrown known (structure c (was t) x got marked stood lawful.typed lawful.rooted)

    reaches : (phase : Phase) → x.phase ≡ phase → ReachesIf c.program objects s (content_at c x phase) (wanted c x phase)
    reaches phase e = subst (λ (p : Phase). ReachesIf c.program objects s (content_at c x p) (wanted c x p)) e (events_reach c objects s t x marked facts.heap there lawful)

    -- ---- places

    abbrev change : (behind : Stores) (later : World) → GoesOn w later next more t 0 → ((word : ℕ) (owned : Bool) (kind : Kind) (v : ℕ) → KindKeeps w next kind v → PlaceStores owning.stores word owned kind v → PlaceStores behind word owned kind v)
        → ((v word : ℕ) → behind v ≡ Some word → (o : Object) × (Contains objects o) × (o.reference ≡ v) × (o.class ≡ INT_ARRAY_CLASS)) → PlaceChange
    change behind later goes on arrays_are = record { lies = lies; heap = heap_state c marked objects s facts.heap; own = owning; after = behind; w = w; later = later; more = more; t = t; goes = goes; places = con.places; on = on; arrays_are = arrays_are }

    module _ (behind : Stores) (later : World) (goes : GoesOn w later next more t 0) (later_is : IsWorld later (words_of c.program) more) (null : behind 0 ≡ None)
        (on : (word : ℕ) (owned : Bool) (kind : Kind) (v : ℕ) → KindKeeps w next kind v → PlaceStores owning.stores word owned kind v → PlaceStores behind word owned kind v)
        (arrays_are : (v word : ℕ) → behind v ≡ Some word → (o : Object) × (Contains objects o) × (o.reference ≡ v) × (o.class ≡ INT_ARRAY_CLASS)) where
      abbrev Places : List Object → List ℕ → Type 0
      Places objects words = PlacesKeep c (record owning { stores = behind }) later more objects words

      -- of a field that is written, what is said of its place
      abbrev pub WritesAt : Frame → List Frame → Type 0
      WritesAt f fs = (kept : FrameIn seen (length fs) Runs f) → BelowIn seen f fs → FrameHolds c (HasClass objects) 0 f → x.frames ≡ f ∷ fs → x.phase ≡ phases.Run → was t ≡ phases.Run
          → WritesFine (change behind later goes on arrays_are) kept.stands.target (effect_at c.program (top_here c f fs kept.stands))

      module _ (writes : (f : Frame) (fs : List Frame) → WritesAt f fs) where
        run_places : x.phase ≡ phases.Run → was t ≡ phases.Run → Places objects (words_after s.words (run_wants c.program x (top_of c.program x.frames)))
        run_places here e = by_frames x.frames refl (fits moving phases.Run e).0 (holds phases.Run here)
          where
            by_frames : (fs : List Frame) → x.frames ≡ fs → FramesIn seen Runs fs → FramesHold c (HasClass objects) fs → Places objects (words_after s.words (run_wants c.program x (top_of c.program fs)))
            by_frames [] f kept h = same_words (change behind later goes on arrays_are)
            by_frames (f ∷ fs) q kept h =
                let k = kept.0.stands in
                let at : Top = top_here c f fs k in
                subst (λ (o : Option Top). Places objects (words_after s.words (run_wants c.program x o))) (sym (stand_top c marked f fs k))
                (effect_places (change behind later goes on arrays_are) x k.method k.insn k.target (row_at c f k) f.stack f.pc (effect_at c.program at)
                (allowed moving objects s facts.heap refl con.places here e f fs q kept.0 kept.1 h.0)
                (writes f fs kept.0 kept.1 h.0 q here e))

        pub places : PlacesKeep c (record owning { stores = behind }) later more (objects_by c.program x.phase objects) after
        places = by_word x.phase refl stood.is_as
          where
            by_word : (phase : Phase) → x.phase ≡ phase → IsAs phase (was t) → PlacesKeep c (record owning { stores = behind }) later more (objects_by c.program phase objects) (words_after s.words (wanted c x phase))
            by_word phases.Run here e = run_places here e
            by_word (phases.Element word put) here e =
                let h = holds (phases.Element word put) here in
                let k = subst (λ (p : Phase). Stands c p x.frames x.held x.attempt) e stood.stands in
                element (change behind later goes on arrays_are) word put (element_site mover.state word put x.frames h.0 h.1 (facts.heap.typed.elements t x word put there here) k.phase_shows)
            by_word (phases.Made a word) here e = made_places (change behind later goes on arrays_are) x a word null later_is there here
            by_word (phases.Leave m a) here e = plain (change behind later goes on arrays_are) (content_at c x (phases.Leave m a)) (leave_plain (claim x m)) (wanted c x (phases.Leave m a)) (reaches (phases.Leave m a) here)
            by_word phase here e = plain (change behind later goes on arrays_are) (content_at c x phase) tt (wanted c x phase) (reaches phase here)

    -- ---- by any move of the thread

    -- stored: what was stored then; another thread has what it had
    module _ (stored : Stores) (kept_on : (v word : ℕ) → owning.stores v ≡ Some word → stored v ≡ Some word) (moves : Moved (with_stores (building_in state t) stored) keeps.now more (counted_by (was t) now.phase) now)
        (others : (u : ℕ) (y : Thread) → u ≢ t → (f : slice_get s.threads u ≡ Some y) → (j : ThreadIn (with_stores (building_in state u) stored) (was u) y) × (j.now ≡ (con.each u y f).now))
        (places_are : PlacesKeep c (record owning { stores = stored }) moves.later more (objects_by c.program x.phase objects) after) where
      abbrev pub own_behind : Owning
      own_behind = record owning { stores = stored }

      abbrev own_building : (u : ℕ) → Building
      own_building u = with_stores (building_in state u) stored

      -- ---- all threads

      -- an object that one builder had before and that is lost behind the event, for this thread; the others didn't build it, or saw it lost
      pub record IsLost (v : ℕ) (b : Builder) : Type 0 where
        pub item : b.item ≡ Lost
        pub before : Builder
        pub was_so : w v ≡ Some before
        pub behind : moves.later v ≡ Some b
        pub own_view : moves.keeps.now v ≡ Some b
        pub other_views : (u : ℕ) (y : Thread) (f : slice_get s.threads u ≡ Some y) → u ≢ t → (before.thread ≢ u) ⊎ ((con.each u y f).now v ≡ Some b)

      own : Kept own_behind IsLost moves.later more t (counted_by (was t) now.phase) now
      own = record { keeps = moves.keeps; lost = λ v b l. l.own_view }

      other : (u : ℕ) (y : Thread) → u ≢ t → slice_get s.threads u ≡ Some y → Kept own_behind IsLost moves.later more u (was u) y
      other u y apart f = record {
        keeps = other_keeps (own_building u) moves.later more t moves.goes apart (was u) y con.world (others u y apart f).0;
        lost = λ v b l. other_lost (own_building u) moves.later more t moves.goes apart (was u) y con.world (others u y apart f).0 v b l.before l.was_so l.behind
            (elim (l.other_views u y f apart) [ inl n ↦ inl n | inr e ↦ inr ((λ i. (others u y apart f).1 i v) ∙ e) ]);
      }

      pub by_number : (u : ℕ) (y : Thread) → slice_get (slice_set s.threads t now) u ≡ Some y → (b : Bool) → (u == t) ≡ b
          → Kept own_behind IsLost moves.later more u (if b then counted_of (was t) (slice_get (slice_set s.threads t now) t) else was u) y
      by_number u y f b g = by_place (got_set s.threads t u now y f) b g
        where
          by_place : ((u ≡ t) × (y ≡ now)) ⊎ ((u ≢ t) × (slice_get s.threads u ≡ Some y)) → (b : Bool) → (u == t) ≡ b → Kept own_behind IsLost moves.later more u (if b then counted_of (was t) (slice_get (slice_set s.threads t now) t) else was u) y
          by_place (inl k) true g =
              let at : slice_get (slice_set s.threads t now) t ≡ Some y = ap (slice_get (slice_set s.threads t now)) (sym k.0) ∙ f in
              subst (λ (o : Option Thread). Kept own_behind IsLost moves.later more u (counted_of (was t) o) y) (sym at)
              (subst (λ (z : Thread). Kept own_behind IsLost moves.later more u (counted_by (was t) z.phase) z) (sym k.1) (subst (λ (v : ℕ). Kept own_behind IsLost moves.later more v (counted_by (was t) now.phase) now) (sym k.0) own))
          by_place (inl k) false g = absurd (eqb-false u t g k.0)
          by_place (inr k) true g = absurd (k.0 (eqb-true u t g))
          by_place (inr k) false g = other u y k.0 k.1

      abbrev pub built : BuiltBehind (Some x) stored moves.later
      built = record { frozen_are = con.frozen_are; owned_are = con.owned_are; world = moves.world con.world; each = λ u y f. (by_number u y f (u == t) refl).keeps; places = places_are }

      pub loses : (v : ℕ) (b : Builder) → IsLost v b → LostIn (built_behind (Some x) stored moves.later built) v b
      loses v b l = record { item = l.item; is = l.behind; seen = λ u y f. (by_number u y f (u == t) refl).lost v b l }

      pub one_thread : BuildsFor (Some x)
      one_thread = record {
        later = moves.later;
        goes_on = moves.goes;
        stores = stored;
        kept = kept_on;
        keeps = built;
        lost = λ v b l.
            let on = moves.lost v b l.item l.is (l.seen t x there) in
            loses v b (record { item = l.item; before = b; was_so = l.is; behind = on.0; own_view = on.1; other_views = λ u y f apart. inr (l.seen u y f) });
      }

    -- ---- it stores no new array

    same_places : (word : ℕ) (owned : Bool) (kind : Kind) (v : ℕ) → KindKeeps w next kind v → PlaceStores owning.stores word owned kind v → PlaceStores owning.stores word owned kind v
    same_places word owned kind v k p = p

    -- a field that is written has what is finished, and was stored nowhere
    plain_writes : StoresNothing → (m : Moved (building_in state t) keeps.now more (counted_by (was t) now.phase) now) → (f : Frame) (fs : List Frame) → WritesAt owning.stores m.later m.goes (m.world con.world) fine.null same_places con.places.stored f fs
    plain_writes none m f fs kept b h q here e = by_effect (effect_at c.program at) refl
      where
        at : Top
        at = top_here c f fs kept.stands

        old_kinds : x.attempt ≡ None → (kind : Kind) (n : ℕ) → KindOld (IsFinished keeps.now next) kind n → KindOld (IsFinished w next) kind n
        old_kinds outside (kinds.Ref class) n o = (o.0, sym (keeps.now_is.same outside n) ∙ o.1)
        old_kinds outside kind n o = tt

        place_kind : (kind : Kind) (word n : ℕ) → KindOld (IsStoredNowhere owning.stores) kind n → PlaceStores owning.stores word false kind n
        place_kind (kinds.Ref class) word n o = o
        place_kind kind word n o = tt

        -- an instance field is written by a `putfield`
        is_put : (number : ℕ) (g : FieldInfo) → slice_get c.program.fields number ≡ Some g → is_static g.flags ≡ false → (op : Op) → HasRow c.program (site_in kept.stands.method) kept.stands.insn.pc (targets.Field number) op (row_at c f kept.stands) → is_getfield op ≡ false
            → puts_owned owning.owned op (targets.Field number) ≡ owning.owned number
        is_put number g named static (ops.Putfield i) rows get = refl
        is_put number g named static (ops.Getstatic i) rows get = absurd (let same : rows.field ≡ g = same_some (sym rows.there ∙ named) in let bad : true ≡ false = sym rows.sort ∙ (ap (λ (y : FieldInfo). is_static y.flags) same ∙ static) in cc)
        is_put number g named static (ops.Putstatic i) rows get = absurd (let same : rows.field ≡ g = same_some (sym rows.there ∙ named) in let bad : true ≡ false = sym rows.sort ∙ (ap (λ (y : FieldInfo). is_static y.flags) same ∙ static) in cc)
        is_put number g named static op rows get = absurd (first_of (assumption, cc))

        writes_it : (v : Variable) (n : ℕ) → effect_at c.program at ≡ Writes v n → IsLeft (change owning.stores m.later m.goes same_places con.places.stored) kept.stands.target v n
        writes_it v n same field named =
            let plain = none here f fs q kept.stands v n same in
            let outside : x.attempt ≡ None = none_outside c marked x at (subst (λ (p : Phase). Stands c p x.frames x.held x.attempt) e stood.stands) (subst (λ (p : Phase). AttemptStandsIn c p x.frames x.held x.attempt) e stood.attempt) (ap (top_of c.program) q ∙ stand_top c marked f fs kept.stands) (subst IsOutside (sym same) tt) in
            let old : Built (IsFinished keeps.now next) c.program kept.stands.target (row_at c f kept.stands) (Writes v n) = subst (Built (IsFinished keeps.now next) c.program kept.stands.target (row_at c f kept.stands)) same (built_here (sees moving) f fs kept b plain) in
            let clean : Built (IsStoredNowhere owning.stores) c.program kept.stands.target (row_at c f kept.stands) (Writes v n) = subst (Built (IsStoredNowhere owning.stores) c.program kept.stands.target (row_at c f kept.stands)) same (built_clean (sees moving) f fs kept b) in
            let fits : FitsOp (Writes v n) kept.stands.insn.op = subst (λ (d : Effect). FitsOp d kept.stands.insn.op) same (fits_op (sees moving) f fs kept b) in
            let nowhere = clean.0 named.number field named.named named.there in (
              old_kind (change owning.stores m.later m.goes same_places con.places.stored) field.kind n (old_kinds outside field.kind n (old.0 named.number field named.named named.there)),
              λ static.
                  (let rows : HasRow c.program (site_in kept.stands.method) kept.stands.insn.pc (targets.Field named.number) kept.stands.insn.op (row_at c f kept.stands) = subst (λ (u : Target). HasRow c.program (site_in kept.stands.method) kept.stands.insn.pc u kept.stands.insn.op (row_at c f kept.stands)) named.named (rules_at c marked f kept.stands).has_row in
                  let unowned : owning.owned named.number ≡ false = sym (is_put named.number field named.there static kept.stands.insn.op rows fits.0) ∙ (ap (puts_owned owning.owned kept.stands.insn.op) (sym named.named) ∙ plain) in
                  subst (λ (d : Bool). PlaceStores owning.stores (value_word named.reference field.index) d field.kind n) (sym unowned) (place_kind field.kind (value_word named.reference field.index) n nowhere)),
              λ static. place_kind field.kind field.index n nowhere,
            )

        by_effect : (d : Effect) → effect_at c.program at ≡ d → WritesFine (change owning.stores m.later m.goes same_places con.places.stored) kept.stands.target d
        by_effect (Writes v n) same = writes_it v n same
        by_effect d same = tt

    pub usual_places : StoresNothing → (m : Moved (building_in state t) keeps.now more (counted_by (was t) now.phase) now) → PlacesKeep c owning m.later more (objects_by c.program x.phase objects) after
    usual_places none m = places owning.stores m.later m.goes (m.world con.world) fine.null same_places con.places.stored (plain_writes none m)

    module _ (none : StoresNothing) (m : Moved (building_in state t) keeps.now more (counted_by (was t) now.phase) now) where
      abbrev pub usual_built : BuiltBehind (Some x) owning.stores m.later
      usual_built = built owning.stores (λ v word e. e) m (λ u y apart f. (con.each u y f, refl)) (usual_places none m)

      pub usual_loses : (v : ℕ) (b : Builder) → IsLost owning.stores (λ v word e. e) m (λ u y apart f. (con.each u y f, refl)) (usual_places none m) v b
          → LostIn (built_behind (Some x) owning.stores m.later usual_built) v b
      usual_loses = loses owning.stores (λ v word e. e) m (λ u y apart f. (con.each u y f, refl)) (usual_places none m)

    pub usual_thread : StoresNothing → BuildsFor (Some x)
    usual_thread none = one_thread owning.stores (λ v word e. e) (usual none) (λ u y apart f. (con.each u y f, refl)) (usual_places none (usual none))

    -- an event that an exception leaves a frame by stores none
    pub unwound_stores : IsUnwound (was t) x now → StoresNothing
    unwound_stores u here f fs q k v n same =
        let y_is : goes_on (counting (x.counts.instructions + 1) x) (Running (went_on c.program (top_here c f fs k) 0)) ≡ now = sym (ap (λ (p : Phase). moved c x p got) here ∙ (ap (λ (o : Option Top). ran c.program x o got) (ap (top_of c.program) q ∙ stand_top c marked f fs k) ∙ ap (λ (d : Effect). instructed c.program (begun x) (top_here c f fs k) d got) same)) in
        let fewer : now.frames ≡ u.below = ap (λ (z : Thread). z.frames) u.is ∙ away_frames u.from u.thrown u.class u.below in
        let as_many : length (went_on c.program (top_here c f fs k) 0) ≡ length u.below = ap (λ (z : Thread). length z.frames) y_is ∙ ap length fewer in
        let one_more : length (f ∷ fs) ≡ length (u.frame ∷ u.below) = ap length (sym q ∙ u.frames) in
        absurd (omega (arith, as_many, one_more))

    -- ---- it stores one

    module _ (here : x.phase ≡ phases.Run) (e : was t ≡ phases.Run) (a : KnownTop moving (HasClass objects) got) (v : Variable) (put : ℕ)
        (same : effect_at c.program (top_here c a.frame a.below a.keeps.stands) ≡ Writes v put) (puts : puts_owned owning.owned a.keeps.stands.insn.op a.keeps.stands.target ≡ true) where
      abbrev at : Top
      at = top_here c a.frame a.below a.keeps.stands

      abbrev y : Thread
      y = goes_on (counting (x.counts.instructions + 1) x) (Running (went_on c.program (top_here c a.frame a.below a.keeps.stands) 0))

      now_is : y ≡ now
      now_is = sym (ap (λ (p : Phase). moved c x p got) here ∙ (ap (λ (o : Option Top). ran c.program x o got) (ap (top_of c.program) a.there ∙ stand_top c marked a.frame a.below a.keeps.stands) ∙ ap (λ (d : Effect). instructed c.program (begun x) at d got) same))

      it : StoresNewArray moving (HasClass objects) e (x.counts.instructions + 1) got a v put now
      it = subst (StoresNewArray moving (HasClass objects) e (x.counts.instructions + 1) got a v put) now_is
          (stores_as moving (HasClass objects) e (x.counts.instructions + 1) got a v put same puts)

      is_new : w it.array ≡ Some (builder t (length a.below) Unstored)
      is_new = sym (keeps.now_is.same it.outside it.array) ∙ it.built

      zero_apart : 0 ≢ it.array
      zero_apart s = (let i = con.world.inside it.array (builder t (length a.below) Unstored) is_new in let l = i.0 in omega (arith, l, s))

      abbrev new : NewArray owning.stores
      new = record { array = it.array; word = variable_word v; unstored = it.unstored; zero_apart = zero_apart; k = builder t (length a.below) Unstored; is_new = refl }

      abbrev behind : Stores
      behind = with_stored owning.stores it.array (variable_word v)

      on : (word : ℕ) (owned : Bool) (kind : Kind) (n : ℕ) → KindKeeps w next kind n → PlaceStores owning.stores word owned kind n → PlaceStores behind word owned kind n
      on word true kind n k p = at_on owning.stores new word n p
      on word false (kinds.Ref class) n k p = nowhere_on owning.stores new n (λ s. none_some (w it.array) (builder t (length a.below) Unstored) (subst (λ (y : ℕ). w y ≡ None) s k.1) is_new) p
      on word false kind n k p = tt

      -- ---- the field

      array_field : IsOwnedArrayField c.program (tags_of c) it.fi
      array_field = con.owned_are.those it.fi it.owned

      allowed_it : Allowed c.program a.keeps.stands.method (HasClass objects) a.keeps.stands.insn a.keeps.stands.target (row_at c a.frame a.keeps.stands) a.frame.stack (Writes v put)
      allowed_it = subst (Allowed c.program a.keeps.stands.method (HasClass objects) a.keeps.stands.insn a.keeps.stands.target (row_at c a.frame a.keeps.stands) a.frame.stack) same a.allowed

      number_is : (field : FieldInfo) (named : IsNamedField c.program (HasClass objects) a.keeps.stands.target v field) → named.number ≡ it.fi
      number_is field named = (let both : targets.Field named.number ≡ targets.Field it.fi = sym named.named ∙ it.target_is in cc)

      field_is : (field : FieldInfo) (named : IsNamedField c.program (HasClass objects) a.keeps.stands.target v field) → field ≡ array_field.field
      field_is field named = same_some (sym named.there ∙ (ap (slice_get c.program.fields) (number_is field named) ∙ array_field.is))

      kind_is : (field : FieldInfo) (named : IsNamedField c.program (HasClass objects) a.keeps.stands.target v field) → field.kind ≡ kinds.Ref INT_ARRAY_CLASS
      kind_is field named = ap (λ (y : FieldInfo). y.kind) (field_is field named) ∙ array_field.array

      -- what is stored is an array
      arrays_are : (n word : ℕ) → behind n ≡ Some word → (o : Object) × (Contains objects o) × (o.reference ≡ n) × (o.class ≡ INT_ARRAY_CLASS)
      arrays_are n word h =
          let held : IsNullOr (HasClass objects) INT_ARRAY_CLASS put = subst (λ (kind : Kind). KindHolds (HasClass objects) kind put) (kind_is allowed_it.1 allowed_it.2) allowed_it.3 in
          elim (cases_Bool (n == it.array)) [
            | inl q ↦ elim held [
              | inl z ↦ absurd (zero_apart (sym z ∙ it.value))
              | inr k ↦ (k.1.0, k.1.1, k.1.2 ∙ (it.value ∙ sym (eqb-true n it.array q)), k.1.3 ∙ leaves_alone k.0 INT_ARRAY_CLASS refl k.2)
            ]
            | inr q ↦ con.places.stored n word (rw q at h)
          ]

      null_behind : behind 0 ≡ None
      null_behind = kept_there owning.stores new 0 zero_apart ∙ fine.null

      left : IsLeft (change behind it.moves.later it.moves.goes on arrays_are) a.keeps.stands.target v put
      left field named = (
        subst (λ (kind : Kind). KindKeeps it.moves.later more kind put) (sym (kind_is field named))
            ((let i = con.world.inside it.array (builder t (length a.below) Unstored) is_new in let l = i.1 in omega (arith, l, grows, it.value)), ap it.moves.later it.value ∙ it.finished),
        λ static.
            subst (λ (d : Bool). PlaceStores behind (value_word named.reference field.index) d field.kind put) (sym (ap owning.owned (number_is field named) ∙ it.owned))
            (inr (ap behind it.value ∙ rw (eq-eqb it.array it.array refl) refl ∙ ap (λ (n : ℕ). Some n) (instance_word c objects a.keeps.stands.target v field named static))),
        λ static. absurd (let bad : true ≡ false = sym static ∙ (ap (λ (y : FieldInfo). is_static y.flags) (field_is field named) ∙ array_field.instance) in cc),
      )

      writes : (f : Frame) (fs : List Frame) → WritesAt behind it.moves.later it.moves.goes (it.moves.world con.world) null_behind on arrays_are f fs
      writes f fs kept b h q here_too e_too =
          let one : top_here c a.frame a.below a.keeps.stands ≡ top_here c f fs kept.stands = same_some (sym (ap (top_of c.program) a.there ∙ stand_top c marked a.frame a.below a.keeps.stands) ∙ (ap (top_of c.program) q ∙ stand_top c marked f fs kept.stands)) in
          subst (λ (o : Top). WritesFine (change behind it.moves.later it.moves.goes on arrays_are) o.target (effect_at c.program o)) one
          (subst (WritesFine (change behind it.moves.later it.moves.goes on arrays_are) a.keeps.stands.target) (sym same) left)

      pub storing_thread : BuildsFor (Some x)
      storing_thread =
          one_thread behind (stored_on owning.stores new) it.moves
          (λ u y apart f. (
            thread_on (building_in state u) new is_new (λ s. apart (sym s)) (was u) y (con.each u y f),
            thread_sees (building_in state u) new is_new (λ s. apart (sym s)) (was u) y (con.each u y f),
          ))
          (places behind it.moves.later it.moves.goes (it.moves.world con.world) null_behind on arrays_are writes)

    -- ---- by what its top frame does

    module _ (here : x.phase ≡ phases.Run) (e : was t ≡ phases.Run) (a : KnownTop moving (HasClass objects) got) where
      one_top : (f : Frame) (fs : List Frame) → x.frames ≡ f ∷ fs → (k : Standing c f) → top_here c f fs k ≡ top_here c a.frame a.below a.keeps.stands
      one_top f fs q k = same_some (sym (ap (top_of c.program) q ∙ stand_top c marked f fs k) ∙ (ap (top_of c.program) a.there ∙ stand_top c marked a.frame a.below a.keeps.stands))

      by_effect : (d : Effect) → effect_at c.program (top_here c a.frame a.below a.keeps.stands) ≡ d → puts_owned owning.owned a.keeps.stands.insn.op a.keeps.stands.target ≡ true → BuildsFor (Some x)
      by_effect (Writes v put) same puts = storing_thread here e a v put same puts
      by_effect d same puts = usual_thread (λ run f fs q k v put other. absurd (let bad : d ≡ Writes v put = sym same ∙ (ap (effect_at c.program) (sym (one_top f fs q k)) ∙ other) in cc))

      by_puts : BuildsFor (Some x)
      by_puts = elim (cases_Bool (puts_owned owning.owned a.keeps.stands.insn.op a.keeps.stands.target)) [
        | inl puts ↦ by_effect (effect_at c.program (top_here c a.frame a.below a.keeps.stands)) refl puts
        | inr plain ↦ usual_thread (λ run f fs q k v put same. ap (λ (o : Top). puts_owned owning.owned o.insn.op o.target) (one_top f fs q k) ∙ plain)
      ]

    by_frames : x.phase ≡ phases.Run → was t ≡ phases.Run → (fs : List Frame) → x.frames ≡ fs → FramesIn seen Runs fs → BuildsFor (Some x)
    by_frames here e [] q kept = usual_thread (λ run f fs same. absurd (let bad : [] ≡ f ∷ fs = sym q ∙ same in cc))
    by_frames here e (f ∷ fs) q kept = by_puts here e (known here e (top_here c f fs kept.0.stands) (ap (top_of c.program) q ∙ stand_top c marked f fs kept.0.stands))

    pub of_thread : BuildsFor (Some x)
    of_thread = by_phase x.phase refl stood.is_as
      where
        by_phase : (phase : Phase) → x.phase ≡ phase → IsAs phase (was t) → BuildsFor (Some x)
        by_phase phases.Run here e = by_frames here e x.frames refl (fits moving phases.Run e).0
        by_phase phase here e = usual_thread (λ run. absurd (let bad : phase ≡ phases.Run = sym here ∙ run in cc))

  pub builds_for : BuildsFor (slice_get s.threads t)
  builds_for = (elim (slice_get s.threads t) as (λ (o : Option Thread). slice_get s.threads t ≡ o → BuildsFor o) [ None ↦ λ e. no_thread e | Some x ↦ λ e. of_thread x e ]) refl

pub events_keep : StartLiesApart → StructureIsKept → EventsKeepConstruction
events_keep lies structure c cfg objects was s t frozen owning w marked width facts con =
    let state : BuiltState = record { constructed = record { c = c; frozen = frozen; owning = owning; w = w; was = was; objects = objects; s = s; con = con }; cfg = cfg; marked = marked; facts = facts } in
    let b = builds_for lies structure state t in
    record { later = b.later; goes_on = b.goes_on; stores = b.stores; kept = b.kept; keeps = b.keeps }
