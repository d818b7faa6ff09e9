-- Every state that a run reaches is as construction says, and an object that is lost in one is so in all that follow.
use Rattle.std.proofs.Common.{◌≡◌, ℕ, inl, inr, Bool, true, List, [], ◌∷◌, ◌++◌, length, Option, Some, None, refl, sym, ap, ◌∙◌, subst, ◌==◌, if◌then◌else◌, slice_get, slice_index}
use Rattle.std.proofs.lemmas.Bool.{cases_Bool, eq-eqb, eqb-true}
use Rattle.jvm_types.specs.declared.fixed_words.TheConstants.{NEXT_FREE_WORD}
use Rattle.checked_program.specs.{FrozenPlaces.IsFrozenClass, MarkedProgram.{MarkedProgram, IsMarked}}
use Rattle.machine_types.specs.{Accesses.{found_by, words_after}, Construction.{Owning, AreFrozen, Construction}}
use Rattle.machine_types.specs.{Core.{Core, Happening, Of, NextPart, start, event, event_of, next, all_happened, core}, Events.{wanted, moved}, MarkLaws.{HasFrozenTest, HasOwnedTest}}
use Rattle.machine_types.specs.{OwnedPlaces.nowhere, PlainMemory.{Object, start_objects}, Settings.AreSettings, Standing.tags_of, StartLaws.{StartLiesApart, phase_at_start}, Threads.Thread}
use Rattle.machine_types.specs.{Worlds.{Begun, Builder, builder, World}, declared.{config.Config.Config, phase.Phase.Phase}}
use Rattle.laws_threads.{specs.{PartLaws.{NextKeepsStructure, counted_next}, StateLaws.{counted_phase_at, counted_after}, StructureLaws.StructureIsKept}, proofs.Tests.either_way}
use Rattle.laws_states.specs.{ChangeLaws.{EventsLeaveOthers, all_objects, run_objects}, HeapFacts.{objects_of, objects_after}, RunFacts.HaveWidth, StateFacts.StateFacts}
use Rattle.laws_states.{specs.StateLaws.{ProgramsKeepThreads, StartHasState, EventsKeepState, NextKeepsState}, proofs.GrowingRuns.all_append}
use Rattle.laws_objects.{specs.{ConstructionLaws.{no_builders, StartHasConstruction}, UnfinishedObjects.{IsInitOn, NobodyHas}}, proofs.Buildings.{ThreadIn, BuiltState, building_in}}
use Rattle.laws_objects.proofs.{Events.{BuildsFor, builds_for, unwound_stores, usual_built, usual_loses, grows}, FrameChanges.IsUnwound, LosingInits.{losing_here, leaves_lost}, LostObjects.LostIn}
use Rattle.laws_objects.proofs.{PartBegins.next_builds, Unused.{uses_not, places_have_not}, WorldChanges.lost}

-- ---- a test that tells a frozen class

pub record TellsClass (c : MarkedProgram) (class : ℕ) : Type 0 where
  pub frozen : ℕ → Bool
  pub are : AreFrozen c frozen
  pub tells : frozen class ≡ true

pub tells_class : HasFrozenTest → (c : MarkedProgram) → IsMarked c → (class : ℕ) → IsFrozenClass c.program (tags_of c) class → TellsClass c class
tells_class tests c marked class is = let test = tests c marked.marks in record {
  frozen = λ d. if d == class then true else test.0 d;
  are = record {
    those = λ d e. elim (cases_Bool (d == class)) [ inl s ↦ subst (IsFrozenClass c.program (tags_of c)) (sym (eqb-true d class s)) is | inr s ↦ test.1.those d (rw s at e) ];
    with_frozen = λ fi k. either_way (λ (b : Bool). (if b then true else test.0 k.field.class) ≡ true) (k.field.class == class) refl (test.1.with_frozen fi k);
    with_guarded = λ fi k. either_way (λ (b : Bool). (if b then true else test.0 k.field.class) ≡ true) (k.field.class == class) refl (test.1.with_guarded fi k);
  };
  tells = ap (λ (b : Bool). if b then true else test.0 class) (eq-eqb class class refl);
}

-- ---- the laws of events that all of it follows from

pub record AreBuiltLaws : Type 0 where
  pub lies : StartLiesApart
  pub structure : StructureIsKept
  pub next_structure : NextKeepsStructure
  pub parts : ProgramsKeepThreads
  pub start_state : StartHasState
  pub events_state : EventsKeepState
  pub next_state : NextKeepsState
  pub start_built : StartHasConstruction
  pub others : EventsLeaveOthers
  pub frozen_test : HasFrozenTest
  pub owned_test : HasOwnedTest

-- ---- a state of a run, with what is lost in it

pub record BuiltThere (c : MarkedProgram) (cfg : Config) (frozen : ℕ → Bool) (objects : List Object) (was : ℕ → Phase) (s : Core) : Type 0 where
  pub facts : StateFacts c cfg objects was s
  pub owning : Owning
  pub world : World
  pub built : Construction c frozen owning world was objects s

pub record LostThere (c : MarkedProgram) (cfg : Config) (frozen : ℕ → Bool) (v : ℕ) (objects : List Object) (was : ℕ → Phase) (s : Core) : Type 0 where
  pub there : BuiltThere c cfg frozen objects was s
  pub builder : Builder
  pub lost : LostIn (record { c = c; frozen = frozen; owning = there.owning; w = there.world; was = was; objects = objects; s = s; con = there.built }) v builder

-- whichever phases count
pub record BuiltIn (c : MarkedProgram) (cfg : Config) (frozen : ℕ → Bool) (objects : List Object) (s : Core) : Type 0 where
  pub was : ℕ → Phase
  pub there : BuiltThere c cfg frozen objects was s

-- the run of a program whose frozen classes the test tells
pub record Run : Type 0 where
  pub laws : AreBuiltLaws
  pub c : MarkedProgram
  pub cfg : Config
  pub frozen : ℕ → Bool
  pub are : AreFrozen c frozen
  pub marked : IsMarked c
  pub width : HaveWidth cfg
  pub settings : AreSettings cfg

module _ (run : Run) where
  open run use {laws, c, cfg, frozen, are, marked, width, settings}

  abbrev pub state_of : (objects : List Object) (was : ℕ → Phase) (s : Core) → BuiltThere c cfg frozen objects was s → BuiltState
  state_of objects was s k = record {
    constructed = record { c = c; frozen = frozen; owning = k.owning; w = k.world; was = was; objects = objects; s = s; con = k.built };
    cfg = cfg;
    marked = marked;
    facts = k.facts;
  }

  pub start_there : BuiltThere c cfg frozen (start_objects c.program) (phase_at_start c cfg) (start c cfg)
  start_there =
      let test = laws.owned_test c marked.marks in
      record {
        facts = laws.start_state c cfg marked (laws.parts c cfg marked settings);
        owning = record { owned = test.0; stores = nowhere };
        world = no_builders;
        built = laws.start_built c cfg frozen test.0 marked are test.1;
      }

  module _ (objects : List Object) (was : ℕ → Phase) (s : Core) (k : BuiltThere c cfg frozen objects was s) where
    abbrev builds : (t : ℕ) → BuildsFor laws.lies laws.structure (state_of objects was s k) t (slice_get s.threads t)
    builds t = builds_for laws.lies laws.structure (state_of objects was s k) t

    pub event_there : (t : ℕ) → BuiltThere c cfg frozen (objects_after c.program s t objects) (counted_after c was s t) (event c s t)
    event_there t = record { facts = laws.events_state c cfg objects was s t marked width k.facts; owning = record k.owning { stores = (builds t).stores }; world = (builds t).later; built = (builds t).keeps }

    pub next_there : BuiltThere c cfg frozen objects (counted_next c was s) (next c s)
    next_there = record { facts = laws.next_state c cfg objects was s marked (laws.parts c cfg marked settings) k.facts; owning = k.owning; world = k.world; built = (next_builds laws.next_structure (state_of objects was s k)).keeps }

  -- ---- what is lost stays so

  pub event_lost : (objects : List Object) (was : ℕ → Phase) (s : Core) (v t : ℕ) → LostThere c cfg frozen v objects was s → LostThere c cfg frozen v (objects_after c.program s t objects) (counted_after c was s t) (event c s t)
  unfolding event_there
  event_lost objects was s v t k = record { there = event_there objects was s k.there t; builder = k.builder; lost = (builds objects was s k.there t).lost v k.builder k.lost }

  pub next_lost : (objects : List Object) (was : ℕ → Phase) (s : Core) (v : ℕ) → LostThere c cfg frozen v objects was s → LostThere c cfg frozen v objects (counted_next c was s) (next c s)
  unfolding next_there
  next_lost objects was s v k = record { there = next_there objects was s k.there; builder = k.builder; lost = (next_builds laws.next_structure (state_of objects was s k.there)).lost v k.builder k.lost }

  pub nobody_has : (objects : List Object) (was : ℕ → Phase) (s : Core) (v : ℕ) → LostThere c cfg frozen v objects was s → NobodyHas c v objects s
  nobody_has objects was s v k = record {
    places = places_have_not c k.there.owning k.there.world (slice_index s.words NEXT_FREE_WORD) v objects s.words k.builder k.lost.is k.there.built.places;
    threads = λ u x here. (let keeps = k.there.built.each u x here in uses_not (building_in (state_of objects was s k.there) u) v (was u) x keeps k.there.built.world (k.there.facts.structure u x here).is_as
        (record { built = k.builder; is = k.lost.seen u x here; other = λ h y n s. n (sym (ap (λ (i : Builder). i.item) s) ∙ k.lost.item) }));
  }

  -- whatever happens
  pub all_lost : (hs : List Happening) (objects : List Object) (was : ℕ → Phase) (s : Core) (v : ℕ) → LostThere c cfg frozen v objects was s → NobodyHas c v (all_objects c s objects hs) (all_happened c s hs)
  all_lost [] objects was s v k = nobody_has objects was s v k
  all_lost (Of t ∷ hs) objects was s v k = all_lost hs (objects_after c.program s t objects) (counted_after c was s t) (event c s t) v (event_lost objects was s v t k)
  all_lost (NextPart ∷ hs) objects was s v k = all_lost hs objects (counted_next c was s) (next c s) v (next_lost objects was s v k)

  pub all_there : (hs : List Happening) (objects : List Object) (was : ℕ → Phase) (s : Core) → BuiltThere c cfg frozen objects was s → BuiltIn c cfg frozen (all_objects c s objects hs) (all_happened c s hs)
  all_there [] objects was s k = record { was = was; there = k }
  all_there (Of t ∷ hs) objects was s k = all_there hs (objects_after c.program s t objects) (counted_after c was s t) (event c s t) (event_there objects was s k t)
  all_there (NextPart ∷ hs) objects was s k = all_there hs objects (counted_next c was s) (next c s) (next_there objects was s k)

  pub reached : (hs : List Happening) → BuiltIn c cfg frozen (run_objects c cfg hs) (core c cfg hs)
  unfolding core
  reached hs = all_there hs (start_objects c.program) (phase_at_start c cfg) (start c cfg) start_there

  -- ---- an exception leaves the `<init>` of a frozen class

  module _ (objects : List Object) (was : ℕ → Phase) (s : Core) (k : BuiltThere c cfg frozen objects was s) (t v : ℕ) (x : Thread) (here : slice_get s.threads t ≡ Some x) where
    abbrev state : BuiltState
    state = state_of objects was s k

    abbrev found : ℕ
    found = found_by s.words (wanted c x x.phase)

    facts_so : StateFacts c cfg (objects_of c.program (Some x) objects) (counted_phase_at was t (event_of c s t (Some x)).threads) (event_of c s t (Some x))
    facts_so = subst (λ (o : Option Thread). StateFacts c cfg (objects_of c.program o objects) (counted_phase_at was t (event_of c s t o).threads) (event_of c s t o)) here (laws.events_state c cfg objects was s t marked width k.facts)

    pub lost_behind : (u : IsUnwound (was t) x (moved c x x.phase found)) → (moved c x x.phase found).attempt ≡ None → (i : IsInitOn c v u.frame) → frozen i.method.class ≡ true → k.world v ≡ Some (builder t (length u.below) Begun)
        → LostThere c cfg frozen v (objects_after c.program s t objects) (counted_after c was s t) (event c s t)
    lost_behind u none i young is =
        let keeps : ThreadIn (building_in state t) (was t) x = k.built.each t x here in
        let b : Builder = builder t (length u.below) Begun in
        let to = leaves_lost (building_in state t) (was t) x keeps k.built.world (slice_index (words_after s.words (wanted c x x.phase)) NEXT_FREE_WORD) v (moved c x x.phase found) (grows laws.lies laws.structure state t x here) u none i young in
        let plain = unwound_stores laws.lies laws.structure state t x here u in
        let behind : to.moves.later v ≡ Some (lost (builder t (length u.below) Begun)) = ap (λ (z : World). z v) to.is_later ∙ losing_here keeps.now v (builder t (length u.below) Begun) in
        let view : to.moves.keeps.now v ≡ Some (lost (builder t (length u.below) Begun)) = ap (λ (z : World). z v) to.is_now ∙ losing_here keeps.now v (builder t (length u.below) Begun) in
        subst (λ (o : Option Thread). LostThere c cfg frozen v (objects_of c.program o objects) (counted_phase_at was t (event_of c s t o).threads) (event_of c s t o)) (sym here) (record {
          there = record { facts = facts_so; owning = k.owning; world = to.moves.later; built = usual_built laws.lies laws.structure state t x here plain to.moves };
          builder = lost (builder t (length u.below) Begun);
          lost = usual_loses laws.lies laws.structure state t x here plain to.moves v (lost (builder t (length u.below) Begun)) (record {
            item = refl;
            before = builder t (length u.below) Begun;
            was_so = is;
            behind = behind;
            own_view = view;
            other_views = λ w y f apart. inl (λ e. apart (sym e));
          });
        })

-- ---- one run behind another

objects_append : (c : MarkedProgram) (s : Core) (objects : List Object) (hs es : List Happening) → all_objects c s objects (hs ++ es) ≡ all_objects c (all_happened c s hs) (all_objects c s objects hs) es
objects_append c s objects [] es = refl
objects_append c s objects (Of t ∷ hs) es = objects_append c (event c s t) (objects_after c.program s t objects) hs es
objects_append c s objects (NextPart ∷ hs) es = objects_append c (next c s) objects hs es

pub core_more : (c : MarkedProgram) (cfg : Config) (hs es : List Happening) → core c cfg (hs ++ es) ≡ all_happened c (core c cfg hs) es
unfolding core
core_more c cfg hs es = all_append c (start c cfg) hs es

pub objects_more : (c : MarkedProgram) (cfg : Config) (hs es : List Happening) → run_objects c cfg (hs ++ es) ≡ all_objects c (core c cfg hs) (run_objects c cfg hs) es
unfolding core
objects_more c cfg hs es = objects_append c (start c cfg) (start_objects c.program) hs es
