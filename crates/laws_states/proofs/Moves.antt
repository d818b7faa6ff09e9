-- A thread that has moved holds values of the types of verification, by the objects that are there then.
use Rattle.std.proofs.Common.{◌≡◌, ℕ, ◌<◌, List, [], length, Some, refl, arith, Contains, slice_get}
use Rattle.jvm_types.specs.declared.{class_numbers.TheConstants.{PRINT_STREAM_CLASS, CLASS_ITSELF}, outcome.Thrown.Thrown}
use Rattle.checked_program.specs.MarkedProgram.{MarkedProgram, IsMarked}
use Rattle.machine_types.specs.{Accesses.found_by, Events.{wanted, moved}, Lawful.IsLawful, ObjectsApart.LieApart, PlainMemory.{Object, start_objects, start_statics}}
use Rattle.machine_types.specs.{ReadyObjects.{ready, class_of, out_object}, Threads.Thread, Typed.{Classes, HasClass, PhaseHolds, ThreadHolds}, Words.class_object}
use Rattle.machine_types.{specs.declared.phase.Phase.Phase, proofs.ClassObjects.class_objects_stand}
use Rattle.laws_threads.{specs.{Allowed.IsByMachine, StructureLaws.{StructureIsKept, counted_by}}, proofs.KeptPhases.{NeedsShown, PhaseFinds, StartTyped, moved_typed}}
use Rattle.laws_threads.proofs.{KeptTypes.{based_in, needs_shown}, MonitorMoves.contains_got, Onwards.HasObjects, Roots.starts_typed, ThreadTypes.{IsBasedIn, Rests, TypedBy}}
use Rattle.laws_states.proofs.{Accesses.{out_there, element_site}, Found.{run_finds, element_found}, Lists.contained_got, Movers.{HeapState, HeapMover}, Phases.{IsOldPhase, asked}}
use Rattle.jvm_types.specs.declared.outcome.Thrown.TheVariants as thrown
use Rattle.machine_types.specs.declared.phase.Phase.TheVariants as phases

-- ---- the objects that are there from the start

module _ (state : HeapState) where
  open state use {c, marked, objects, s, facts}

  ready_at : (x : Thrown) (i : ℕ) → slice_get (start_objects c.program) i ≡ Some (record { reference = ready x; class = class_of x; values = [] }) → HasClass objects (class_of x) (ready x)
  ready_at x i e = facts.started (record { reference = ready x; class = class_of x; values = [] }) (contains_got (start_objects c.program) i (record { reference = ready x; class = class_of x; values = [] }) e)

  ready_there : (x : Thrown) → IsByMachine x → HasClass objects (class_of x) (ready x)
  ready_there thrown.ArithmeticException own = ready_at thrown.ArithmeticException 0 refl
  ready_there thrown.NullPointerException own = ready_at thrown.NullPointerException 1 refl
  ready_there thrown.ArrayIndexOutOfBoundsException own = ready_at thrown.ArrayIndexOutOfBoundsException 2 refl
  ready_there thrown.NegativeArraySizeException own = ready_at thrown.NegativeArraySizeException 3 refl
  ready_there thrown.IllegalMonitorStateException own = ready_at thrown.IllegalMonitorStateException 4 refl
  ready_there thrown.OutOfMemoryError own = ready_at thrown.OutOfMemoryError 5 refl
  ready_there thrown.StackOverflowError own = ready_at thrown.StackOverflowError 6 refl
  ready_there x own = absurd own

  class_there : (file : ℕ) → file < length c.program.names → HasClass objects CLASS_ITSELF (class_object c.program file)
  class_there file few =
      facts.started (record { reference = class_object c.program file; class = CLASS_ITSELF; values = [] }) (class_objects_stand c.program file marked.checked.program few)

  pub has_objects : (later : List Object) (next : ℕ) → ((o : Object) → Contains objects o → Contains later o) → LieApart c.program later (start_statics c.program) next → HasObjects c.program (HasClass later)
  has_objects later next up apart = record {
    out = lifted PRINT_STREAM_CLASS out_object (out_there c marked objects s facts);
    ready = λ x own. lifted (class_of x) (ready x) (ready_there x own);
    classes = λ file few. lifted CLASS_ITSELF (class_object c.program file) (class_there file few);
    inside = λ class v k. omega (arith, apart.inside k.1.0 k.0 (contained_got later k.0 k.1), k.2);
  }
    where
      lifted : (class v : ℕ) → HasClass objects class v → HasClass later class v
      lifted class v k = (k.0, up k.0 k.1, k.2, k.3)

-- ---- what an event finds, but where it stores a header

module _ (mover : HeapMover) where
  open mover use {x, state, state.{c, objects, s}}

  pub old_finds : (phase : Phase) → x.phase ≡ phase → IsOldPhase phase → PhaseHolds c (HasClass objects) phase x.frames → PhaseFinds c (HasClass objects) phase x.frames (found_by s.words (wanted c x phase))
  old_finds phases.Run e old h = run_finds state x x.frames h
  old_finds (phases.Element word stored) e old h =
      let k = asked mover (phases.Element word stored) e in
      element_found state word stored (element_site state word stored x.frames h.0 h.1 k.0 k.1)
  old_finds (phases.Made a word) e old h = absurd old
  old_finds phase e old h = tt

-- ---- the thread

module _ (keeps : StructureIsKept) (c : MarkedProgram) (marked : IsMarked c) (is : Classes) (has : HasObjects c.program is) (x : Thread) (lawful : IsLawful c x) (values : ThreadHolds c is x) where
  stays : TypedBy c is x
  stays = record { values = values; new = lawful.typed.new; receivers = lawful.typed.receivers; entry = lawful.typed.entry }

  rests : Rests c is x
  rests = record { attempt = values.attempt; inside = lawful.typed.receivers; entry = lawful.typed.entry }

  based : IsBasedIn x.frames x.attempt
  based = based_in c lawful.was x.frames x.held x.attempt lawful.structured.attempt

  starts : (phase : Phase) → NeedsShown c phase x.frames → StartTyped c is x phase
  starts phases.Start shows = λ new. starts_typed c marked is x x.roots shows (omega (arith, lawful.bounded.number, marked.checked.program.workers)) lawful.rooted.roots stays rests based new
  starts phase shows = tt

  pub moved_values : (got : ℕ) → PhaseFinds c is x.phase x.frames got → ThreadHolds c is (moved c x x.phase got)
  moved_values got finds =
      let after = keeps c lawful.was x got marked lawful.structured lawful.typed lawful.rooted in
      let new = based_in c (counted_by lawful.was (moved c x x.phase got).phase) (moved c x x.phase got).frames (moved c x x.phase got).held (moved c x x.phase got).attempt after.attempt in
      let shows = needs_shown c lawful.was x.phase x.frames x.held x.attempt lawful.structured.is_as lawful.structured.stands in
      (moved_typed c marked is has x stays rests based x.phase got (starts x.phase shows) values.phase shows finds new).values
