-- Each event keeps the types of all that its thread holds: each move does.
use Rattle.std.proofs.Common.{◌≡◌, ℕ, suc, ◌+◌, ◌-◌, ◌<◌, ◌^◌, inl, inr, true, false, List, [], ◌∷◌, length, Option, Some, None, refl, ap, sym, subst, ◌∙◌, arith, drop, option_map}
use Rattle.std.proofs.lemmas.Bool.Decides.{nat_tests}
use Rattle.jvm_types.specs.{CodeTable.{can_throw, row}, Verifying.edges, declared.{code.Op.Op, outcome.{Counts.Counts, Thrown.Thrown}, program.{MethodInfo.MethodInfo, Program.Program, Target.Target}}}
use Rattle.checked_program.specs.MarkedProgram.{MarkedProgram, IsMarked}
use Rattle.machine_types.specs.{Events.{thread_started, element_made, moved}, Frames.{Top, top_of, effect_at, went_on, pushed, handler_at, making}, Going.{runs, goes_after}}
use Rattle.machine_types.specs.{HeldMonitors.{held_at, with_held, without_held, deeper, shallower}, Instructions.printed, Lawful.NewFits, Monitors.grown}
use Rattle.machine_types.specs.{Onward.{Running, after, dispatched, Onward, handed}, ReadyObjects.class_of, Structure.{TopIs, is_element_op, AfterShows}, Threads.{Frame, Attempt, Thread}}
use Rattle.machine_types.specs.{Typed.{Classes, FramesHold, FramesThrown, IsException, AfterHolds, TowardHolds, AttemptHolds, PhaseHolds, IsObject, with_object}, Words.header_class}
use Rattle.machine_types.specs.declared.{effect.Effect.TheVariants.{Prints, Waits}, lock.{Held.Held, Kept.Kept}, phase.{After.After, Phase.Phase, Toward.Toward}}
use Rattle.laws_threads.{specs.Allowed.{OneOf, HasRowTypes}, proofs.{Doing.runs_on, KeptRun.{does_at, refuses_at, goes_at, notifies_at, finds_element, makes_at}, Landing.stand_top}}
use Rattle.laws_threads.proofs.{Lifts.frames_up, Onwards.{Keeps, keeps_all, keeps_top, HasObjects, FoundHolds, AreInside, Onwards, IfOnwards, same_op, dispatches, goes_after_it}}
use Rattle.laws_threads.proofs.ThreadMove.{Looks, GoesBy, LeadsTo, TurnsTo, Asks, WaitsFrom, Move, becomes, begun_attempt, mover, by_move, of_mover, takes_in, gives_up_in, tried_attempt}
use Rattle.laws_threads.proofs.ThreadTypes.{IsBasedIn, EntryInside, Rests, TypedBy, runs_typed, turn_typed, goes_typed, goes_if_typed, fails_typed, carries}
use Rattle.jvm_types.specs.declared.code.Op.TheVariants as ops
use Rattle.machine_types.specs.declared.lock.Kept.TheVariants as keeps
use Rattle.machine_types.specs.declared.phase.Phase.TheVariants as phases
use Rattle.machine_types.specs.declared.phase.Toward.TheVariants as towards
use Rattle.laws_threads.proofs.ThreadMove as moves

-- ---- what a phase asks

-- of what the frames show
abbrev pub NeedsShown : MarkedProgram → Phase → List Frame → Type 0
NeedsShown c phases.Start fs = fs ≡ []
NeedsShown c (phases.Element word stored) fs = TopIs c (is_element_op stored) fs
NeedsShown c (phases.Throw x class) fs = TopIs c can_throw fs
NeedsShown c (phases.Leave m a) fs = AfterShows c m a fs
NeedsShown c (phases.FlatOut m a) fs = AfterShows c m a fs
NeedsShown c phase fs = Unit {0}

-- of the word that its event finds; the header of a new object is stored with the event
abbrev pub PhaseFinds : MarkedProgram → Classes → Phase → List Frame → (got : ℕ) → Type 0
PhaseFinds c is phases.Run fs got = (at : Top) → top_of c.program fs ≡ Some at → FoundHolds c.program is at.target (effect_at c.program at) got
PhaseFinds c is (phases.Element word stored) fs got = got < 2 ^ 32
PhaseFinds c is (phases.Made a word) fs got = is (header_class word) a
PhaseFinds c is phase fs got = Unit {0}

-- a root that begins
abbrev pub StartTyped : MarkedProgram → Classes → Thread → Phase → Type 0
StartTyped c is s phases.Start = IsBasedIn (thread_started c.program s s.roots).frames (thread_started c.program s s.roots).attempt → TypedBy c is (thread_started c.program s s.roots)
StartTyped c is s phase = Unit {0}

-- ---- an element

element_row : (p : Program) (m : MethodInfo) (is : Classes) (pc next : ℕ) (target : Target) (op : Op) (stored : Option ℕ) (got : ℕ) → is_element_op stored op ≡ true → got < 2 ^ 32
    → OneOf (edges (record { pc = pc; next = next; op = op })) next × HasRowTypes m is (row p m pc target op) (element_made stored got)
element_row p m is pc next target ops.Iaload None got e h = (inl refl, ((h, tt), tt))
element_row p m is pc next target ops.Iastore (Some v) got e h = (inl refl, (tt, tt))
element_row p m is pc next target op None got e h = absurd (let bad : false ≡ true = e in cc)
element_row p m is pc next target op (Some v) got e h = absurd (let bad : false ≡ true = e in cc)

-- ---- what a move needs of the thread that makes it

pub record IsTypedIn (c : MarkedProgram) (is : Classes) (s : Thread) (got : ℕ) (was : Phase) : Type 0 where
  pub stays : TypedBy c is s
  pub rests : Rests c is s
  pub based : IsBasedIn s.frames s.attempt
  pub holds : PhaseHolds c is was s.frames
  pub shows : NeedsShown c was s.frames
  pub finds : PhaseFinds c is was s.frames got

module _ (c : MarkedProgram) (marked : IsMarked c) (is : Classes) (has : HasObjects c.program is) where
  -- ---- how it goes on

  element_kept : (word : ℕ) (stored : Option ℕ) (fs : List Frame) (got : ℕ) → FramesHold c is fs → TopIs c (is_element_op stored) fs → got < 2 ^ 32
      → IfOnwards c is fs (option_map (λ at. Running (went_on c.program at (element_made stored got))) (top_of c.program fs))
  element_kept word stored [] got h top small = tt
  element_kept word stored (f ∷ fs) got h top small =
      let k = h.0.stands in
      let op : is_element_op stored k.insn.op ≡ true = ap (is_element_op stored) (same_op c marked is f k top.0) ∙ top.1 in
      let gives = element_row c.program k.method is k.insn.pc k.insn.next k.target k.insn.op stored got op small in
      subst (λ o. IfOnwards c is (f ∷ fs) (option_map (λ at. Running (went_on c.program at (element_made stored got))) o)) (sym (stand_top c marked f fs k))
      (runs_on c marked is has f fs h.0 h.1 k.insn.next (element_made stored got) gives.0 gives.1)

  made_kept : (a word : ℕ) (fs : List Frame) → is (header_class word) a → FramesHold c (with_object is (header_class word) a) (pushed a fs) → Onwards c is fs (Running (pushed a fs))
  made_kept a word fs object h = record { holds = frames_up (with_object is (header_class word) a) is up c (pushed a fs) h; keeps = keeps fs; inside = inside fs }
    where
      up : (class v : ℕ) → with_object is (header_class word) a class v → is class v
      up class v (inl k) = k
      up class v (inr k) = subst (λ x. is x v) (sym k.0) (subst (is (header_class word)) (sym k.1) object)

      keeps : (fs : List Frame) → Keeps fs (pushed a fs)
      keeps [] = keeps_all []
      keeps (f ∷ fs) = keeps_top f (record f { stack = a ∷ f.stack }) fs

      inside : (fs : List Frame) → AreInside c.program fs → AreInside c.program (pushed a fs)
      inside [] all = all
      inside (f ∷ fs) all = all

  thrown_kept : (x : ℕ) (class : Thrown) (fs : List Frame) → IsException is x class → FramesThrown c is fs → TopIs c can_throw fs → IfOnwards c is fs (dispatched c.program x class fs)
  thrown_kept x class [] k h top = tt
  thrown_kept x class (f ∷ fs) k h top = dispatches c marked is x class f fs k h.0 h.1 top

  module _ (s : Thread) (got : ℕ) where
    goes_holds : (was : Phase) (o : Onward) → GoesBy c.program s got was o → IsTypedIn c is s got was → Onwards c is s.frames o
    goes_holds _ o (moves.by_effect at e _ found same silent d) t = does_at c marked is has e got o s.frames at t.holds found same (t.finds at found) d
    goes_holds _ _ (moves.by_machine at class found k) t = refuses_at c marked is has class got s.frames at t.holds found k
    goes_holds _ _ (moves.by_nobody at m count h found y there l) t = notifies_at c marked is has m s.frames at t.holds found y
    goes_holds _ o (moves.by_element word stored at found) t = subst (λ w. IfOnwards c is s.frames (option_map (λ at. Running (went_on c.program at (element_made stored got))) w)) found (element_kept word stored s.frames got t.holds.1 t.shows t.finds)
    goes_holds _ _ (moves.by_object a word) t = made_kept a word s.frames t.finds t.holds
    goes_holds _ o (moves.by_handler x class at found) t = subst (λ w. IfOnwards c is s.frames (option_map (λ at. handed c.program x class at (handler_at (class_of class) at)) w)) found (thrown_kept x class s.frames t.holds.0 t.holds.1 t.shows)
    goes_holds _ _ k t = record { holds = t.holds; keeps = keeps_all s.frames; inside = λ all. all }

    -- ---- to another phase

    abbrev Holds : Phase → Type 0
    Holds now = PhaseHolds c is now s.frames × NewFits now c.program.heap

    looks_holds : (m : ℕ) (was : Phase) → Looks s m was → PhaseHolds c is was s.frames → IsObject is m × FramesHold c is s.frames
    looks_holds m _ (moves.entering tried free) h = h
    looks_holds m _ moves.acquiring h = h

    leads_holds : (was now : Phase) → LeadsTo c.program s got was now → PhaseHolds c is was s.frames → Holds now
    leads_holds was _ (moves.to_take m count k e) h = (looks_holds m was k h, tt)
    leads_holds was _ (moves.to_take_fat m r k e) h = (looks_holds m was k h, tt)
    leads_holds _ _ (moves.to_element at array index stored found same e) h = ((finds_element c marked is has array index stored s.frames at h found same, h), tt)
    leads_holds _ _ k h = (h, tt)

    turns_holds : (was now : Phase) → TurnsTo s got was now → PhaseHolds c is was s.frames → Holds now × FramesHold c is s.frames
    turns_holds was _ (moves.looks_again m k) h = let l = looks_holds m was k h in ((l, tt), l.1)
    turns_holds was _ (moves.flags m u k e) h = let l = looks_holds m was k h in ((l, tt), l.1)
    turns_holds _ _ (moves.takes_not m count e) h = ((h, tt), h.1)
    turns_holds _ _ (moves.takes_not_fat m r e) h = ((h, tt), h.1)
    turns_holds _ _ k h = ((h, tt), h)

    -- behind an instruction that waits or notifies
    module _ (fs : List Frame) (h : FramesHold c is fs) where
      waits_holds : (m : ℕ) (kept : Kept) (now : Phase) → WaitsFrom m kept now → PhaseHolds c is now fs × NewFits now c.program.heap
      waits_holds m _ _ (moves.grows_first count) = (h, tt)
      waits_holds m _ _ (moves.waits_fat r) = (h, tt)

      asks_holds : (m : ℕ) (kept : Kept) (now : Phase) → Asks m kept now → PhaseHolds c is now fs × NewFits now c.program.heap
      asks_holds m _ _ (moves.looks_who r) = (h, tt)
      asks_holds m _ _ (moves.clears_all r) = (h, tt)

    grown_holds : (m r : ℕ) (toward : Toward) → TowardHolds c is toward s.frames → Holds (grown m r toward)
    grown_holds m r (towards.Leave a) h = (h, tt)
    grown_holds m r towards.Wait h = (h, tt)

  module _ (s : Thread) (got : ℕ) (was : Phase) (t : IsTypedIn c is s got was) where
    -- another list of held monitors, other counts
    runs_held : (held : List Held) (counts : Counts) → FramesHold c is s.frames → TypedBy c is (runs (record s { held = held; counts = counts }))
    runs_held held counts h = runs_typed c is (record s { held = held; counts = counts }) h (record { attempt = t.rests.attempt; inside = t.rests.inside; entry = t.rests.entry })

    -- behind a monitor
    leaves_typed : (m : ℕ) (a : After) → AfterHolds c is a s.frames → AfterShows c m a s.frames → (held : List Held) (attempt : Option Attempt) (counts : Counts)
        → AttemptHolds c is s.frames attempt → EntryInside c.program attempt → IsBasedIn s.frames attempt
        → IsBasedIn (goes_after c.program (record s { held = held; attempt = attempt; counts = counts }) a).frames (goes_after c.program (record s { held = held; attempt = attempt; counts = counts }) a).attempt
        → TypedBy c is (goes_after c.program (record s { held = held; attempt = attempt; counts = counts }) a)
    leaves_typed m a holds shows held attempt counts inside entry based new =
        goes_if_typed c is (record s { held = held; attempt = attempt; counts = counts }) (after c.program s.frames a)
        (record { values = record { phase = t.stays.values.phase; attempt = inside }; new = t.stays.new; receivers = t.stays.receivers; entry = entry })
        (goes_after_it c marked is m a s.frames holds shows) (record { attempt = inside; inside = t.rests.inside; entry = entry }) based new

    left_typed : (m : ℕ) (a : After) → AfterHolds c is a s.frames → AfterShows c m a s.frames → (held : List Held) → IsBasedIn (goes_after c.program (record s { held = held }) a).frames (goes_after c.program (record s { held = held }) a).attempt
        → TypedBy c is (goes_after c.program (record s { held = held }) a)
    left_typed m a holds shows held new = leaves_typed m a holds shows held s.attempt s.counts t.rests.attempt t.rests.entry t.based new

    -- the attempt, as deep or less deep
    attempt_holds : (o : Attempt) → s.attempt ≡ Some o → AttemptHolds c is s.frames (Some o) × EntryInside c.program (Some o)
    attempt_holds o e = (subst (AttemptHolds c is s.frames) e t.rests.attempt, subst (EntryInside c.program) e t.rests.entry)

    -- behind an instruction, to a phase
    steps_typed : (fs : List Frame) (now : Phase) (turns : ℕ) → Onwards c is s.frames (Running fs) → PhaseHolds c is now fs × NewFits now c.program.heap → IsBasedIn fs s.attempt → TypedBy c is (record s { frames = fs; phase = now; turns = turns })
    steps_typed fs now turns k h new = record { values = record { phase = h.0; attempt = carries c is s.attempt s.frames fs k.keeps t.based new t.rests.attempt }; new = h.1; receivers = k.inside t.rests.inside; entry = t.rests.entry }

  -- ---- all moves

  module _ (s : Thread) (got : ℕ) where
    move_typed : (was : Phase) (k : Move c s got was) → IsTypedIn c is s got was → StartTyped c is s was → IsBasedIn (becomes c s got was k).frames (becomes c s got was k).attempt
        → TypedBy c is (becomes c s got was k)
    move_typed was (moves.stays k) t start new = t.stays
    move_typed was (moves.goes o k) t start new = goes_typed c is s o (goes_holds s got was o k t) t.rests t.based new
    move_typed was (moves.fails_in x e d k) t start new = fails_typed c is s x e t.rests
    move_typed was (moves.leads now k) t start new = let h = leads_holds s got was now k t.holds in
        record { values = record { phase = h.0; attempt = t.rests.attempt }; new = h.1; receivers = t.rests.inside; entry = t.rests.entry }
    move_typed was (moves.turns now k) t start new = let h = turns_holds s got was now k t.holds in turn_typed c is s now h.0.0 h.0.1 h.1 t.rests
    move_typed _ (moves.makes at word size found e fits) t start new =
        let k = makes_at c marked is has got word size s.frames at t.holds found e in
        record {
          values = record { phase = k.holds; attempt = carries c is s.attempt s.frames (making c.program at) k.keeps t.based new t.rests.attempt };
          new = grind (arith, nat_tests, k.least, fits);
          receivers = k.inside t.rests.inside;
          entry = t.rests.entry;
        }
    move_typed _ (moves.prints at n found e y) t start new =
        goes_typed c is (printed s got n) (Running (went_on c.program at 0)) (goes_at c marked is has (Prints n) (λ f h a. (a.0, a.2)) s.frames at t.holds found e) (record { attempt = t.rests.attempt; inside = t.rests.inside; entry = t.rests.entry }) t.based new
    move_typed _ (moves.asks_to_wait at m h now found e l k) t start new = let on = goes_at c marked is has (Waits m) (λ f h a. (a.0, a.2)) s.frames at t.holds found e in
        steps_typed s got phases.Run t (went_on c.program at 0) now 0 on (waits_holds s got (went_on c.program at 0) on.holds m h.kept now k) new
    move_typed _ (moves.asks at m h now found y l k) t start new = let on = notifies_at c marked is has m s.frames at t.holds found y in
        steps_typed s got phases.Run t (went_on c.program at 0) now s.turns on (asks_holds s got (went_on c.program at 0) on.holds m h.kept now k) new
    move_typed was (moves.enters_again m tried h l) t start new = runs_held s got was t (with_held (deeper h) s.held) s.counts t.holds.1
    move_typed was (moves.enters_inside m tried x k) t start new = let h = attempt_holds s got was t x (tried_attempt m (held_at s.held m) s.attempt x k) in
        runs_typed c is (record s { attempt = Some (record x { inner = x.inner + 1 }) }) t.holds.1 (record { attempt = h.0; inside = t.rests.inside; entry = h.1 })
    move_typed _ (moves.begins_to_try m tried noted f below e y l x free) t start new =
        let own : FramesHold c is (f ∷ below) = subst (FramesHold c is) e t.holds.1 in
        let one : suc (length below) - length below ≡ 1 = omega arith in
        runs_typed c is (record s { attempt = Some (begun_attempt m noted tried f below) }) t.holds.1
        (record {
          attempt = (t.holds.0, subst (λ fs. FramesHold c is (f ∷ drop (length fs - length below) fs)) (sym e) (subst (λ n. FramesHold c is (f ∷ drop n (f ∷ below))) (sym one) own));
          inside = t.rests.inside;
          entry = (subst (AreInside c.program) e t.rests.inside).0;
        })
    move_typed was (moves.takes_lock m kept k) t start new =
        runs_held s got was t (with_held (record { monitor = m; kept = kept; depth = 1 }) s.held) (record s.counts { locked = s.counts.locked + 1 })
        (takes_in (λ phase. PhaseHolds c is phase s.frames → FramesHold c is s.frames) got m was kept k (λ count h. h.1) (λ r h. h.1) t.holds)
    move_typed was (moves.gives_up m a k) t start new =
        let h = gives_up_in (λ phase. PhaseHolds c is phase s.frames → NeedsShown c phase s.frames → AfterHolds c is a s.frames × AfterShows c m a s.frames) s m a was k (λ h shows. (h, shows)) (λ h shows. (h, shows)) t.holds t.shows in
        left_typed s got was t m a h.0 h.1 (without_held m s.held) new
    move_typed was (moves.leaves_outer m a h l e) t start new = left_typed s got was t m a t.holds t.shows (with_held (shallower h) s.held) new
    move_typed was (moves.leaves_inside m a x inner k e) t start new = let there = tried_attempt m (held_at s.held m) s.attempt x k in let h = attempt_holds s got was t x there in
        leaves_typed s got was t m a t.holds t.shows s.held (Some (record x { inner = inner })) s.counts h.0 h.1 (subst (IsBasedIn s.frames) there t.based) new
    move_typed was (moves.finishes_try m a x k e y) t start new = leaves_typed s got was t m a t.holds t.shows s.held None (record s.counts { elided = s.counts.elided + 1 }) tt tt tt new
    move_typed _ (moves.fattens_lock m r toward h l) t start new = let k = grown_holds s got m r toward t.holds in
        record { values = record { phase = k.0; attempt = t.rests.attempt }; new = k.1; receivers = t.rests.inside; entry = t.rests.entry }
    move_typed _ (moves.gives_up_to_wait m r h l) t start new = record { values = record { phase = t.holds; attempt = t.rests.attempt }; new = tt; receivers = t.rests.inside; entry = t.rests.entry }
    move_typed was (moves.retakes_lock m r depth e) t start new = runs_held s got was t (with_held (record { monitor = m; kept = keeps.Fat r; depth = depth }) s.held) s.counts t.holds
    move_typed _ (moves.starts number roots e) t start new = subst (λ rs. IsBasedIn (thread_started c.program s rs).frames (thread_started c.program s rs).attempt → TypedBy c is (thread_started c.program s rs)) e start new

  -- an instruction is counted before it does anything
  start_counted : (p : Program) (phase : Phase) (s : Thread) → StartTyped c is s phase → StartTyped c is (mover p phase s) phase
  start_counted p phases.Run s start = tt
  start_counted p phase s start = start

  pub moved_typed : (s : Thread) → TypedBy c is s → Rests c is s → IsBasedIn s.frames s.attempt → (phase : Phase) (got : ℕ) → StartTyped c is s phase → PhaseHolds c is phase s.frames → NeedsShown c phase s.frames → PhaseFinds c is phase s.frames got
      → IsBasedIn (moved c s phase got).frames (moved c s phase got).attempt → TypedBy c is (moved c s phase got)
  moved_typed s stays rests based phase got start holds shows finds = by_move (λ y. IsBasedIn y.frames y.attempt → TypedBy c is y) c s phase got (λ k. move_typed (mover c.program phase s) got phase k counted (start_counted c.program phase s start))
    where
      counted : IsTypedIn c is (mover c.program phase s) got phase
      counted = of_mover (λ y. IsTypedIn c is y got phase) c.program phase s (record { stays = stays; rests = rests; based = based; holds = holds; shows = shows; finds = finds })
          (record {
            stays = record { values = record { phase = stays.values.phase; attempt = stays.values.attempt }; new = stays.new; receivers = stays.receivers; entry = stays.entry };
            rests = record { attempt = rests.attempt; inside = rests.inside; entry = rests.entry };
            based = based;
            holds = holds;
            shows = shows;
            finds = finds;
          })
