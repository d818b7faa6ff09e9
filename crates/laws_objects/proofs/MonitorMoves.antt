-- The moves of a thread, but those of an instruction and of a root, keep what construction says of it.
use Rattle.std.proofs.Common.{◌≡◌, ℕ, ◌+◌, ◌-◌, inl, inr, Bool, true, false, List, [], ◌∷◌, ◌++◌, length, Option, Some, None, refl, sym, ap, ◌∙◌, subst, arith, ◌==◌, nat_lt, option_map, if◌then◌else◌}
use Rattle.std.proofs.lemmas.Bool.{cases_Bool, eqb-true, eqb-false}
use Rattle.jvm_types.specs.{CodeTable.{row, branches_to, falls_through}, declared.{code.Op.Op, outcome.End.End, program.{MethodInfo.MethodInfo, Program.Program, Target.Target}}}
use Rattle.machine_types.specs.{Construction.{Runs, made_world}, Elision.{fails, elided}, Frames.{went_on, top_of, pushed, Top, handler_at}}
use Rattle.machine_types.specs.{Going.{with_phase, runs, failed_turn, goes_on, goes_on_if, goes_after}, HeldMonitors.{held_at, with_held, without_held, deeper, shallower}, Ints.low}
use Rattle.machine_types.specs.{Monitors.{HasNot, claim, takes, lets_go, fattens, goes_to_wait, retakes, lowest_of}, Onward.{Onward, Running, after, handed}, OwnedPlaces.IsStoredNowhere}
use Rattle.machine_types.specs.{ReadyObjects.class_of, Structure.{Stands, AttemptStandsIn, IsPhaseInside, IsLimitAt, TopIs, AfterShows, is_element_op, IsAs}, Threads.{Frame, Attempt, Thread}}
use Rattle.machine_types.specs.{Words.value_word, Worlds.{Item, Header, Builder, builder, IsFinished, IsOwnOrFinished, with_builder, finished}, declared.effect.Effect.TheVariants.Goes}
use Rattle.machine_types.specs.declared.{lock.{Held.Held, Kept.{Kept, TheVariants.Fat}}, phase.{After.After, Phase.Phase, Toward.{Toward, TheVariants.{Leave, Wait}}}}
use Rattle.laws_threads.{specs.{Allowed.OneOf, EntryFrames.KeepsEntry, StructureLaws.{StaysStructured, counted_by, turned_from}}, proofs.{EntryKept.{steps_kept, throws_kept, leaves_kept}, Landing.stand_top}}
use Rattle.laws_threads.proofs.{MonitorEntries.none_tried, ThreadMove.{Looks, LeadsTo, TurnsTo, Takes, GivesUp, begun_attempt, counting, takes_in, gives_up_in}, Turns.outside as none_outside}
use Rattle.laws_objects.proofs.{Buildings.{LawfulBuilding, Moving, in_world, FramesIn, MadeIn, sees}, BuiltEffects.RowOld, CountedPhases.{PhaseFits, counted_fits}, EffectOps.IsUsual, Moves.Steps}
use Rattle.laws_objects.proofs.Onwards.{OnwardKeeps, IfKeeps, runs_usual, dispatches, goes_after_it, same_op}
use Rattle.laws_objects.proofs.ThreadMoves.{Moved, AreKnown, AttemptFrom, deeper_from, EntryKept, from_same, entry_same, held_known, moved_on, failed, begun, onward_moves, moved_more, known_at, known_with, known_without}
use Rattle.laws_objects.proofs.WorldChanges.{none_some, goes_same, goes_given, goes_finished, world_given, world_finished, lost_given, lost_finished, lost_same, not_lost}
use Rattle.jvm_types.specs.declared.code.Op.TheVariants as ops
use Rattle.jvm_types.specs.declared.outcome.End.TheVariants as ends
use Rattle.jvm_types.specs.declared.outcome.Thrown as outcomes
use Rattle.machine_types.specs.declared.phase.Phase.TheVariants as phases
use Rattle.laws_threads.proofs.ThreadMove as moves

-- ---- an element

element_fits : (stored : Option ℕ) (op : Op) → is_element_op stored op ≡ true → ((next : ℕ) → OneOf (branches_to op ++ (if falls_through op then next ∷ [] else [])) next) × IsUsual op
    × ((Old : ℕ → Type 0) (p : Program) (m : MethodInfo) (pc : ℕ) (target : Target) (made : ℕ) → RowOld Old (row p m pc target op) made)
element_fits None ops.Iaload e = (λ next. inl refl, (refl, refl, refl), λ Old p m pc target made. ((tt, tt), tt))
element_fits (Some v) ops.Iastore e = (λ next. inl refl, (refl, refl, refl), λ Old p m pc target made. (tt, tt))
element_fits stored op e = absurd (let bad : false ≡ true = e in cc)

module _ (lawful : LawfulBuilding) where
  open lawful use {building, c, marked, owning, w, next, t}

  element_if : (stored : Option ℕ) (value : ℕ) (fs : List Frame) → FramesIn building Runs fs → TopIs c (is_element_op stored) fs → IfKeeps building (option_map (λ at. Running (went_on c.program at value)) (top_of c.program fs))
  element_if stored value [] k top = absurd top
  element_if stored value (f ∷ fs) k top =
      let op : is_element_op stored k.0.stands.insn.op ≡ true = ap (is_element_op stored) (same_op lawful f k.0.stands top.0) ∙ top.1 in
      let fit = element_fits stored k.0.stands.insn.op op in
      subst (λ o. IfKeeps building (option_map (λ at. Running (went_on c.program at value)) o)) (sym (stand_top c marked f fs k.0.stands))
      (runs_usual lawful f fs k.0 k.1 k.0.stands.insn.next value (fit.0 k.0.stands.insn.next) fit.1
      (fit.2 (IsFinished w next) c.program k.0.stands.method k.0.stands.insn.pc k.0.stands.target value) (fit.2 (IsStoredNowhere owning.stores) c.program k.0.stands.method k.0.stands.insn.pc k.0.stands.target value))

  -- ---- a new object

  made_if : (a : ℕ) (fs : List Frame) → MadeIn building a (length fs - 1) fs → Steps w next t (λ z. OnwardKeeps (in_world building z) (Running (pushed a fs)))
  made_if a fs k =
      let h : ℕ = length fs - 1 in
      (elim k.item as (λ (o : Option Item). FramesIn (in_world building (made_world w a t (length fs - 1) o)) Runs (pushed a fs) → Steps w next t (λ z. OnwardKeeps (in_world building z) (Running (pushed a fs)))) [
        | Some y ↦ λ keep. record {
          later = with_builder w a (builder t h y);
          goes = goes_given w next next t a (builder t h y) (omega arith) refl (λ o. none_some (w a) (builder t h Header) o.1 k.now) (λ j e. (let same : builder t h Header ≡ j = cc in ap (λ (x : Builder). x.thread) (sym same)));
          world = λ first is. (let i = is.inside a (builder t h Header) k.now in world_given w first next next a (builder t h y) is (omega arith) i.0 i.1);
          lost = lost_given w a (builder t h y) (λ b e. not_lost (w a) (builder t h Header) b (λ z. cc) k.now e);
          keeps = keep;
        }
        | None ↦ λ keep. record {
          later = finished w a;
          goes = goes_finished w next next t a (omega arith) (λ j e. (let same : builder t h Header ≡ j = cc in ap (λ (x : Builder). x.thread) (sym same)));
          world = λ first is. world_finished w first next next a is (omega arith);
          lost = lost_finished w a (λ b e. not_lost (w a) (builder t h Header) b (λ z. cc) k.now e);
          keeps = keep;
        }
      ]) k.keep

-- ---- phases

module _ (moving : Moving) where
  open moving use {building, c, owning, w, next, t, is_world, more, was, x, k, grows, stood}

  abbrev pub Goal : Thread → Type 0
  Goal y = Moved building k.now more (counted_by was y.phase) y

  abbrev Fits : Phase → Type 0
  Fits phase = PhaseFits (in_world building k.now) x.frames phase

  pub fits : (phase : Phase) → was ≡ phase → Fits phase
  fits phase e = subst (PhaseFits (in_world building k.now) x.frames) e (k.frames, k.phase)

  at_phase : (phase : Phase) → was ≡ phase → Stands c phase x.frames x.held x.attempt
  at_phase phase e = subst (λ (p : Phase). Stands c p x.frames x.held x.attempt) e stood.stands

  within : (phase : Phase) → was ≡ phase → AttemptStandsIn c phase x.frames x.held x.attempt
  within phase e = subst (λ (p : Phase). AttemptStandsIn c p x.frames x.held x.attempt) e stood.attempt

  pub none_in : (phase : Phase) → ((m : ℕ) → IsPhaseInside m phase → ⊥) → was ≡ phase → x.attempt ≡ None
  none_in phase never e = none_outside c phase x.frames x.held x.attempt never (within phase e)

  pub held : AreKnown w next t x.held
  held = held_known building was x k is_world

  -- what is a thread's own or finished as it sees the world is so in the world
  back : (v : ℕ) → IsOwnOrFinished k.now next t v → IsOwnOrFinished w next t v
  back v o = (
    o.0,
    λ b e. elim (cases_Bool (b.thread == t)) [
      | inl s ↦ eqb-true b.thread t s
      | inr s ↦ o.1 b (k.now_is.others v (λ d f. (let same : b ≡ d = cc in λ q. eqb-false b.thread t s (ap (λ (x : Builder). x.thread) same ∙ q))) ∙ e)
    ],
  )

  also : (y : Thread) → Moved building k.now next (counted_by was y.phase) y → Goal y
  also y m = moved_more building k.now more (counted_by was y.phase) y is_world grows m

  -- the phase changes, and what it holds
  to : (now : Phase) (y : Thread) → y.frames ≡ x.frames → AttemptFrom x.attempt y.attempt → AreKnown w next t y.held → Fits now → Moved building k.now more now y
  to now y frames from hs fit =
      moved_more building k.now more now y is_world grows
      (moved_on building was x k is_world now y hs from (subst (λ (fs : List Frame). EntryKept x.attempt y.attempt x.frames fs) (sym frames) (entry_same x.attempt y.attempt x.frames))
      (record { later = k.now; goes = goes_same k.now next next t (omega arith); world = λ z. z; lost = lost_same k.now; fits = subst (λ (fs : List Frame). PhaseFits (in_world building k.now) fs now) (sym frames) fit }))

  pub still : (s : Thread) → s.phase ≡ x.phase → s.frames ≡ x.frames → AttemptFrom x.attempt s.attempt → AreKnown w next t s.held → Goal s
  still s phase frames from hs = subst (λ (p : Phase). Moved building k.now more (counted_by was p) s) (sym phase) (to (counted_by was x.phase) s frames from hs (counted_fits (in_world building k.now) x.frames was x.phase stood.is_as (k.frames, k.phase)))

  runs_as : (s : Thread) → s.frames ≡ x.frames → AttemptFrom x.attempt s.attempt → AreKnown w next t s.held → Fits phases.Run → Goal (runs s)
  runs_as s frames from hs fit = elim (nat_lt s.counts.instructions s.cfg.steps) as (λ (left : Bool). Goal (with_phase s (if left then phases.Run else phases.Ending ends.Steps)))
      [ true ↦ to phases.Run (with_phase s phases.Run) frames from hs fit | false ↦ to phases.Run (with_phase s (phases.Ending ends.Steps)) frames from hs fit ]

  -- the phase in that turns are counted
  turned : (phase : Phase) → was ≡ phase → Fits (turned_from phase) → Fits (turned_from was)
  turned phase e fit = subst (λ (p : Phase). Fits (turned_from p)) (sym e) fit

  -- ---- it goes on

  pub goes_if : (s : Thread) (o : Option Onward) → s.phase ≡ x.phase → s.frames ≡ x.frames → AttemptFrom x.attempt s.attempt → AreKnown w next t s.held → StaysStructured c was (goes_on_if s o)
      → ((a : Attempt) (onward : Onward) → x.attempt ≡ Some a → o ≡ Some onward → KeepsEntry a x.frames onward) → IfKeeps (in_world building k.now) o → Goal (goes_on_if s o)
  goes_if s None phase frames from hs stands entry keeps = still s phase frames from hs
  goes_if s (Some onward) phase frames from hs stands entry keeps = also (goes_on s onward) (onward_moves building was x k is_world s onward stood stands hs from (λ a e. entry a onward e refl) keeps)

  pub never : (o : Option Onward) → x.attempt ≡ None → (a : Attempt) (onward : Onward) → x.attempt ≡ Some a → o ≡ Some onward → KeepsEntry a x.frames onward
  never o none a onward some e = absurd (none_some x.attempt a none some)

  -- ---- all moves but those of an instruction and of a root, whatever it has counted

  module _ (n got : ℕ) where
    abbrev s : Thread
    s = counting n x

    pub stays_as : Goal s
    stays_as = still s refl refl (from_same x.attempt) held

    pub fails_as : (a : Attempt) → x.attempt ≡ Some a → Goal (fails s a)
    fails_as a e = also (fails s a) (failed building was x k is_world a (fails s a) e refl refl refl)

    -- its phase alone
    changed : (now : Phase) → Fits now → Moved building k.now more now (with_phase s now)
    changed now fit = to now (with_phase s now) refl (from_same x.attempt) held fit

    turns_as : (phase : Phase) → Fits (counted_by was phase) → Fits (turned_from was) → Goal (failed_turn s phase)
    turns_as phase fit turned = elim (nat_lt (x.turns + 1) x.cfg.turns) as (λ (left : Bool). Goal (record s { turns = x.turns + 1; phase = if left then phase else phases.Ending ends.Turns })) [
      | true ↦ to (counted_by was phase) (record s { turns = x.turns + 1; phase = phase }) refl (from_same x.attempt) held fit
      | false ↦ to (turned_from was) (record s { turns = x.turns + 1; phase = phases.Ending ends.Turns }) refl (from_same x.attempt) held turned
    ]

    -- ---- what is thrown, an element and a new object

    pub throws_as : (v : ℕ) (class : outcomes.Thrown) (at : Top) → IsStoredNowhere owning.stores v → top_of c.program x.frames ≡ Some at → was ≡ phases.Throw v class → StaysStructured c was (goes_on s (handed c.program v class at (handler_at (class_of class) at))) → Goal (goes_on s (handed c.program v class at (handler_at (class_of class) at)))
    throws_as v class at clean top e stands =
        goes_if s (Some (handed c.program v class at (handler_at (class_of class) at))) refl refl (from_same x.attempt) held stands
        (λ a onward some f. throws_kept c.program x.frames a v class onward (ap (option_map (λ at. handed c.program v class at (handler_at (class_of class) at))) top ∙ f))
        (subst (λ o. IfKeeps (in_world building k.now) (option_map (λ at. handed c.program v class at (handler_at (class_of class) at)) o)) top
        (dispatches (sees moving) v class x.frames (fits (phases.Throw v class) e).1 clean (fits (phases.Throw v class) e).0 (at_phase (phases.Throw v class) e).phase_shows))

    pub element_as : (word : ℕ) (stored : Option ℕ) (value : ℕ) (at : Top) → top_of c.program x.frames ≡ Some at → was ≡ phases.Element word stored → StaysStructured c was (goes_on s (Running (went_on c.program at value))) → Goal (goes_on s (Running (went_on c.program at value)))
    element_as word stored value at top e stands =
        goes_if s (Some (Running (went_on c.program at value))) refl refl (from_same x.attempt) held stands (λ a onward some f. steps_kept c.program x.frames a at (Goes at.insn.next value) 0 onward top f)
        (subst (λ o. IfKeeps (in_world building k.now) (option_map (λ at. Running (went_on c.program at value)) o)) top
        (element_if (sees moving) stored value x.frames (fits (phases.Element word stored) e).0 (at_phase (phases.Element word stored) e).phase_shows))

    pub made_as : (a word : ℕ) → was ≡ phases.Made a word → StaysStructured c was (goes_on s (Running (pushed a x.frames))) → Goal (goes_on s (Running (pushed a x.frames)))
    made_as a word e stands = goes_if s (Some (Running (pushed a x.frames))) refl refl (from_same x.attempt) held stands (never (Some (Running (pushed a x.frames))) (none_in (phases.Made a word) (λ m q. q) e))
        (made_if (sees moving) a x.frames (fits (phases.Made a word) e).0)

    pub notified_as : (phase : Phase) → was ≡ phase → (Fits phase → Fits phases.Run) → Goal (runs s)
    notified_as phase e fit = runs_as s refl (from_same x.attempt) held (fit (fits phase e))

    -- ---- to another phase

    looks_fit : (m : ℕ) (phase : Phase) → Looks s m phase → IsAs phase was → Fits (phases.Acquire m) × Fits (turned_from was)
    looks_fit m _ (moves.entering tried free) e = let fit = fits (phases.Enter m tried) e in (fit, turned (phases.Enter m tried) e fit)
    looks_fit m _ moves.acquiring e = let fit = fits (phases.Acquire m) e in (fit, turned (phases.Acquire m) e fit)

    ending_as : (e : End) → IsLimitAt e (phases.Ending e) was → Goal (with_phase s (phases.Ended e))
    ending_as ends.Steps l = to was (with_phase s (phases.Ended ends.Steps)) refl (from_same x.attempt) held (k.frames, k.phase)
    ending_as ends.Prints l = to was (with_phase s (phases.Ended ends.Prints)) refl (from_same x.attempt) held (k.frames, k.phase)
    ending_as ends.Turns l = to was (with_phase s (phases.Ended ends.Turns)) refl (from_same x.attempt) held (k.frames, k.phase)
    ending_as ends.Records l = to was (with_phase s (phases.Ended ends.Records)) refl (from_same x.attempt) held (k.frames, k.phase)
    ending_as e l = changed (phases.Ended e) (fits (phases.Ending e) l)

    pub leads_as : (phase now : Phase) → LeadsTo c.program s got phase now → IsAs phase was → Goal (with_phase s now)
    leads_as _ _ (moves.to_acquire m tried free) e = changed (phases.Acquire m) (fits (phases.Enter m tried) e)
    leads_as phase _ (moves.to_take m count look f) e = changed (phases.Take m count) (looks_fit m phase look e).0
    leads_as phase _ (moves.to_take_fat m r look f) e = changed (phases.TakeFat m r) (looks_fit m phase look e).0
    leads_as _ _ (moves.from_flag m u) e = changed (phases.Acquire m) (fits (phases.Flag m u) e)
    leads_as _ _ (moves.to_grow m count a h f last l) e = changed (phases.Grow m (Leave a)) (fits (phases.Leave m a) e)
    leads_as _ _ (moves.to_own m toward f) e = changed (phases.Own m got toward) (fits (phases.Grow m toward) e)
    leads_as _ _ (moves.to_flat_out m a f) e = changed (phases.FlatOut m a) (fits (phases.Grow m (Leave a)) e)
    leads_as _ _ (moves.to_no_record m f) e = to was (with_phase s (phases.Ending ends.Records)) refl (from_same x.attempt) held (k.frames, k.phase)
    leads_as _ _ (moves.to_fat_in m r toward) e = changed (phases.FatIn m r toward) (fits (phases.Own m r toward) e)
    leads_as _ _ (moves.to_wait_out m r) e = changed (phases.WaitOut m r) (fits (phases.WaitBit m r) e)
    leads_as _ _ (moves.to_retake m r depth f) e = changed (phases.Retake m r depth) (fits (phases.WaitLook m r depth) e)
    leads_as _ _ (moves.to_notify_one m r f) e = changed (phases.NotifyOne m r (lowest_of got)) (fits (phases.NotifyLook m r) e)
    leads_as _ _ (moves.to_end reason) e = ending_as reason e
    leads_as _ _ (moves.to_element at array index stored top f l) e = changed (phases.Element (value_word array (low index)) stored) ((fits phases.Run e).0, tt)
    leads_as _ _ (moves.to_no_print at v top l f) e = to phases.Run (with_phase s (phases.Ending ends.Prints)) refl (from_same x.attempt) held (fits phases.Run e)

    pub turned_as : (phase now : Phase) → TurnsTo s got phase now → IsAs phase was → Goal (failed_turn s now)
    turned_as phase _ (moves.looks_again m look) e = let fit = looks_fit m phase look e in turns_as (phases.Acquire m) fit.0 fit.1
    turned_as phase _ (moves.flags m u look f) e = let fit = looks_fit m phase look e in turns_as (phases.Flag m u) fit.0 fit.1
    turned_as _ _ (moves.takes_not m count f) e = let fit : Fits (phases.Acquire m) = fits (phases.Take m count) e in turns_as (phases.Acquire m) fit (turned (phases.Take m count) e fit)
    turned_as _ _ (moves.takes_not_fat m r f) e = let fit = fits (phases.TakeFat m r) e in turns_as (phases.TakeFat m r) fit (turned (phases.TakeFat m r) e fit)
    turned_as _ _ (moves.waits_on m r depth f) e = let fit = fits (phases.WaitLook m r depth) e in turns_as (phases.WaitLook m r depth) fit (turned (phases.WaitLook m r depth) e fit)
    turned_as _ _ (moves.retakes_not m r depth f) e = let fit = fits (phases.Retake m r depth) e in turns_as (phases.Retake m r depth) fit (turned (phases.Retake m r depth) e fit)

    -- ---- entry

    pub again_as : (m tried : ℕ) (h : Held) → held_at x.held m ≡ Some h → was ≡ phases.Enter m tried → Goal (runs (record s { held = with_held (deeper h) s.held }))
    again_as m tried h l e = runs_as (record s { held = with_held (deeper h) s.held }) refl (from_same x.attempt) (known_with w next t (deeper h) x.held (known_at w next t m x.held h held l) held) ((fits (phases.Enter m tried) e).0, tt)

    pub inside_as : (m tried : ℕ) (a : Attempt) → x.attempt ≡ Some a → was ≡ phases.Enter m tried → Goal (runs (record s { attempt = Some (record a { inner = a.inner + 1 }) }))
    inside_as m tried a q e = runs_as (record s { attempt = Some (record a { inner = a.inner + 1 }) }) refl (deeper_from x.attempt a (a.inner + 1) q) held ((fits (phases.Enter m tried) e).0, tt)

    pub begins_as : (m tried noted : ℕ) (f : Frame) (below : List Frame) → x.frames ≡ f ∷ below → claim x m ≡ HasNot → was ≡ phases.Enter m tried → Goal (runs (record s { attempt = Some (begun_attempt m noted tried f below) }))
    begins_as m tried noted f below there free e = elim (nat_lt n x.cfg.steps) as (λ (left : Bool). Goal (record s { attempt = Some a; phase = if left then phases.Run else phases.Ending ends.Steps }))
        [ true ↦ begin (record s { attempt = Some a; phase = phases.Run }) refl refl refl | false ↦ begin (record s { attempt = Some a; phase = phases.Ending ends.Steps }) refl refl refl ]
      where
        a : Attempt
        a = begun_attempt m noted tried f below

        none : x.attempt ≡ None
        none = none_tried c m tried x.frames x.held (held_at x.held m) x.attempt free (within (phases.Enter m tried) e)

        begin : (y : Thread) → y.frames ≡ x.frames → y.held ≡ x.held → y.attempt ≡ Some a → Moved building k.now more phases.Run y
        begin y frames hs attempt = moved_more building k.now more phases.Run y is_world grows (begun building was x k is_world m tried a f below y e none there frames hs attempt refl refl refl)

    pub takes_as : (m : ℕ) (kept : Kept) (phase : Phase) → Takes got m phase kept → IsAs phase was → Goal (takes s m kept)
    takes_as m kept phase took e =
        let h : Held = record { monitor = m; kept = kept; depth = 1 } in
        let fit : Fits (phases.Acquire m) = takes_in (λ (phase : Phase). IsAs phase was → Fits (phases.Acquire m)) got m phase kept took (λ count e. fits (phases.Take m count) e) (λ r e. fits (phases.TakeFat m r) e) e in
        runs_as (record s { held = with_held h s.held; counts = record s.counts { locked = s.counts.locked + 1 } }) refl (from_same x.attempt) (known_with w next t h x.held (back m fit.1) held) (fit.0, tt)

    -- ---- exit

    module _ (m : ℕ) (a : After) (fit : Fits (phases.Leave m a)) (shows : AfterShows c m a x.frames) where
      behind : (y : Thread) → y.phase ≡ x.phase → y.frames ≡ x.frames → AttemptFrom x.attempt y.attempt → AreKnown w next t y.held → StaysStructured c was (goes_on_if y (after c.program x.frames a)) → Goal (goes_on_if y (after c.program x.frames a))
      behind y phase frames from hs stands =
          goes_if y (after c.program x.frames a) phase frames from hs stands (λ b onward some f. leaves_kept c.program x.frames b a onward f)
          (goes_after_it (sees moving) m a x.frames fit.1.1 fit.0 shows)

    pub gives_up_as : (m : ℕ) (a : After) (phase : Phase) → GivesUp s m a phase → IsAs phase was → StaysStructured c was (lets_go c.program s m a) → Goal (lets_go c.program s m a)
    gives_up_as m a phase up e stands =
        let left : Fits (phases.Leave m a) × AfterShows c m a x.frames = gives_up_in (λ (phase : Phase). IsAs phase was → Fits (phases.Leave m a) × AfterShows c m a x.frames) s m a phase up
        (λ e. (fits (phases.Leave m a) e, (at_phase (phases.Leave m a) e).phase_shows)) (λ e. (fits (phases.FlatOut m a) e, (at_phase (phases.FlatOut m a) e).phase_shows.toward_shows)) e in
        behind m a left.0 left.1 (record s { held = without_held m s.held }) refl refl (from_same x.attempt) (known_without w next t m x.held held) stands

    module _ (m : ℕ) (a : After) (e : was ≡ phases.Leave m a) where
      left : (y : Thread) → y.phase ≡ x.phase → y.frames ≡ x.frames → AttemptFrom x.attempt y.attempt → AreKnown w next t y.held → StaysStructured c was (goes_on_if y (after c.program x.frames a)) → Goal (goes_on_if y (after c.program x.frames a))
      left y = behind m a (fits (phases.Leave m a) e) (at_phase (phases.Leave m a) e).phase_shows y

      pub outer_as : (h : Held) → held_at x.held m ≡ Some h → StaysStructured c was (goes_after c.program (record s { held = with_held (shallower h) s.held }) a) → Goal (goes_after c.program (record s { held = with_held (shallower h) s.held }) a)
      outer_as h f stands = left (record s { held = with_held (shallower h) s.held }) refl refl (from_same x.attempt) (known_with w next t (shallower h) x.held (known_at w next t m x.held h held f) held) stands

      pub inner_as : (b : Attempt) (inner : ℕ) → x.attempt ≡ Some b → StaysStructured c was (goes_after c.program (record s { attempt = Some (record b { inner = inner }) }) a) → Goal (goes_after c.program (record s { attempt = Some (record b { inner = inner }) }) a)
      inner_as b inner q stands = left (record s { attempt = Some (record b { inner = inner }) }) refl refl (deeper_from x.attempt b inner q) held stands

      pub elided_as : (b : Attempt) → x.attempt ≡ Some b → StaysStructured c was (goes_after c.program (elided s) a) → Goal (goes_after c.program (elided s) a)
      elided_as b q stands = left (elided s) refl refl (subst (λ (o : Option Attempt). AttemptFrom o None) (sym q) tt) held stands

    -- ---- inflation and waiting

    pub fattens_as : (m r : ℕ) (toward : Toward) (h : Held) → held_at x.held m ≡ Some h → was ≡ phases.FatIn m r toward → Goal (fattens s m r toward (Some h))
    fattens_as m r toward h f e =
        let own : IsOwnOrFinished w next t h.monitor = known_at w next t m x.held h held f in
        (elim toward as (λ (toward : Toward). Fits (phases.FatIn m r toward) → Goal (fattens s m r toward (Some h))) [
          | Leave a ↦ λ fit. to (phases.Leave m a) (fattens s m r (Leave a) (Some h)) refl (from_same x.attempt) (known_with w next t (record h { kept = Fat r }) x.held own held) fit
          | Wait ↦ λ fit. to (phases.WaitBit m r) (fattens s m r Wait (Some h)) refl (from_same x.attempt) (known_with w next t (record h { kept = Fat r }) x.held own held) (fit.0, fit.1.0)
        ]) (fits (phases.FatIn m r toward) e)

    pub waits_as : (m r : ℕ) (h : Held) → was ≡ phases.WaitOut m r → Goal (goes_to_wait s m r (Some h))
    waits_as m r h e = to (phases.WaitLook m r h.depth) (goes_to_wait s m r (Some h)) refl (from_same x.attempt) (known_without w next t m x.held held) (fits (phases.WaitOut m r) e)

    pub retakes_as : (m r depth : ℕ) → was ≡ phases.Retake m r depth → Goal (retakes s m r depth)
    retakes_as m r depth e =
        let fit = fits (phases.Retake m r depth) e in
        let h : Held = record { monitor = m; kept = Fat r; depth = depth } in
        runs_as (record s { held = with_held h s.held }) refl (from_same x.attempt) (known_with w next t h x.held (back m fit.1) held) (fit.0, tt)
