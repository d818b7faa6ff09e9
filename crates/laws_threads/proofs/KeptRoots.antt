-- An event leaves a thread roots of its part, and a frame wherever one is needed.
use Rattle.std.proofs.Common.{◌≡◌, ℕ, zero, suc, ◌+◌, ◌<◌, Bool, true, List, [], ◌∷◌, drop, length, Option, Some, None, refl, sym, ap, subst, arith, codes, option_map, slice_get, IfSome, IsTrue}
use Rattle.std.{specs.List.AllByRecursion, proofs.lemmas.Option.slice_get_within}
use Rattle.jvm_types.specs.{Members.{is_synchronized, is_class_init_name}, Numbers.has_number, declared.outcome.{Counts.Counts, Thrown.{Thrown, TheVariants.StackOverflowError}}}
use Rattle.jvm_types.specs.declared.program.{MethodInfo.MethodInfo, Program.Program, Row.Row}
use Rattle.checked_program.specs.MarkedProgram.{MarkedProgram}
use Rattle.machine_types.specs.{Bounds.{part_roots, FramesFit, IsRooted}, Events.thread_started, Going.{with_phase, runs, goes_on, goes_on_if, goes_after}, Instructions.printed, Monitors.grown}
use Rattle.machine_types.specs.{Frames.{Top, top_of, frames_of, went_on, has_room, waiting, entry_frame, arguments_of, monitor_of, returned, handler_at}, Parts.{numbers_of, entries_named, init_roots}}
use Rattle.machine_types.specs.{HeldMonitors.{with_held, without_held, shallower}, ReadyObjects.{class_of, thrown_of}, Structure.HasFrame, Threads.{Frame, Attempt, Thread}, Words.header_class}
use Rattle.machine_types.specs.Onward.{Onward, Running, Throwing, Entering, Leaving, RootReturned, Uncaught, threw, done, entered, called, rooted, root_arguments, back, unwound, handed, after}
use Rattle.machine_types.specs.declared.{effect.Effect.{Effect, TheVariants.{Raises, Calls, Returns}}, lock.{Held.Held, Kept.Kept}, phase.{After.After, Phase.Phase}}
use Rattle.laws_threads.{specs.RootLaws.RootsAreKept, proofs.{GoingOn.pushed_frame, Roots.{numbered, numbers_in}, ThreadMove.{looks_in, takes_in, if_either, if_mapped, GoesBy, LeadsTo, TurnsTo}}}
use Rattle.laws_threads.proofs.ThreadMove.{GivesUp, Asks, WaitsFrom, Move, becomes, mover, by_move, of_mover, runs_to, over_to, turns_to}
use Rattle.machine_types.specs.declared.phase.After.TheVariants as afters
use Rattle.machine_types.specs.declared.phase.Phase.TheVariants as phases
use Rattle.machine_types.specs.declared.phase.Toward.TheVariants as towards
use Rattle.laws_threads.proofs.ThreadMove as moves

abbrev AreRoots : Program → (number part : ℕ) → List ℕ → Type 0
AreRoots p number part roots = AllByRecursion (λ root. IsTrue (has_number (part_roots p number part) root)) roots

-- what goes on needs no frame, or has one
abbrev OnwardFits : Onward → Type 0
OnwardFits (Running fs) = HasFrame fs
OnwardFits (Throwing x class fs) = HasFrame fs
OnwardFits (Entering m fs) = HasFrame fs
OnwardFits (Leaving m a fs) = HasFrame fs
OnwardFits o = Unit {0}

abbrev IsNoStart : Phase → Type 0
IsNoStart phases.Start = ⊥
IsNoStart phase = Unit {0}

framed : (phase : Phase) (fs : List Frame) (roots : List ℕ) → IsNoStart phase → HasFrame fs → FramesFit phase fs roots
framed phase [] roots n h = absurd h
framed phases.Start (f ∷ fs) roots n h = absurd n
framed phase (f ∷ fs) roots n h = tt

module _ (p : Program) where
  -- a thread with a frame, whatever its phase
  record Stays (s : Thread) : Type 0 where
    roots : AreRoots p s.number s.part s.roots
    frame : HasFrame s.frames

  in_phase : (s : Thread) (phase : Phase) → IsNoStart phase → Stays s → IsRooted p (with_phase s phase)
  in_phase s phase n k = record { roots = k.roots; frames = framed phase s.frames s.roots n k.frame }

  running : (s : Thread) → Stays s → IsRooted p (runs s)
  running s k = in_phase s (runs s).phase (runs_to IsNoStart s tt tt) k

  over : (s : Thread) → AreRoots p s.number s.part s.roots → IsRooted p (goes_on s RootReturned)
  over s r = record { roots = r; frames = over_to (λ (phase : Phase). FramesFit phase [] s.roots) s.roots (λ e. tt) (λ number rest e. subst (FramesFit phases.Start []) (sym e) refl) }

  goes : (s : Thread) (o : Onward) → AreRoots p s.number s.part s.roots → OnwardFits o → IsRooted p (goes_on s o)
  goes s (Running fs) r f = running (record s { frames = fs }) (record { roots = r; frame = f })
  goes s (Throwing x class fs) r f = in_phase (record s { frames = fs }) (phases.Throw x class) tt (record { roots = r; frame = f })
  goes s (Entering m fs) r f = in_phase (record s { frames = fs; turns = 0 }) (phases.Enter m 0) tt (record { roots = r; frame = f })
  goes s (Leaving m a fs) r f = in_phase (record s { frames = fs }) (phases.Leave m a) tt (record { roots = r; frame = f })
  goes s RootReturned r f = over s r
  goes s (Uncaught class) r f = record { roots = r; frames = tt }

  goes_if : (s : Thread) (o : Option Onward) → IsRooted p s → IfSome o OnwardFits → IsRooted p (goes_on_if s o)
  goes_if s None k f = k
  goes_if s (Some o) k f = goes s o k.roots f

  -- ---- how an instruction, a call, a return or an exception goes on

  calls : (at : Top) (number : ℕ) (m : MethodInfo) → OnwardFits (called p at number m)
  calls at number m = if_either OnwardFits (has_room p (frames_of at) m) (entered p m (entry_frame number m (arguments_of p at)) (waiting p at)) (threw StackOverflowError at)
      (if_either OnwardFits (is_synchronized m.flags) (Entering (monitor_of p m (entry_frame number m (arguments_of p at))) (entry_frame number m (arguments_of p at) ∷ waiting p at)) (Running (entry_frame number m (arguments_of p at) ∷ waiting p at)) tt tt)
      tt

  goes_back : (fs : List Frame) → OnwardFits (back fs)
  goes_back [] = tt
  goes_back (f ∷ fs) = tt

  goes_out : (x : ℕ) (class : Thrown) (fs : List Frame) → OnwardFits (unwound x class fs)
  goes_out x class [] = tt
  goes_out x class (f ∷ fs) = tt

  hands : (x : ℕ) (class : Thrown) (at : Top) (row : Option Row) → OnwardFits (handed p x class at row)
  hands x class at (Some r) = tt
  hands x class at None = if_either OnwardFits (is_synchronized at.method.flags) (Leaving (monitor_of p at.method at.frame) (afters.Unwind x class) (frames_of at)) (unwound x class at.below) tt (goes_out x class at.below)

  goes_behind : (fs : List Frame) (a : After) → HasFrame fs → IfSome (after p fs a) OnwardFits
  goes_behind fs afters.Next h = h
  goes_behind fs afters.Return h = if_mapped OnwardFits (top_of p fs) (λ at. back (returned p at)) (λ at. goes_back (returned p at))
  goes_behind fs (afters.Unwind x class) h = goes_out x class (drop 1 fs)

  does : (at : Top) (e : Effect) (got : ℕ) → IfSome (done p at e got) OnwardFits
  does at (Raises x) got = if_mapped OnwardFits (thrown_of (header_class got)) (λ class. Throwing x class (frames_of at)) (λ class. tt)
  does at (Calls number) got = if_mapped OnwardFits (slice_get p.methods number) (called p at number) (λ m. calls at number m)
  does at Returns got = if_either OnwardFits (is_synchronized at.method.flags) (Leaving (monitor_of p at.method at.frame) afters.Return (frames_of at)) (back (returned p at)) tt (goes_back (returned p at))
  does at e got = tt

-- ---- the next root

-- the number of a method that passes a test is one of the program
numbers_within : (test : MethodInfo → Bool) (ms : List MethodInfo) (k : ℕ) → has_number (numbers_of test 0 ms) k ≡ true → k < length ms
numbers_within test ms k e = let x = numbered test ms 0 k e in omega (arith, x.number, slice_get_within ms x.at x.method x.there)

inits_within : (p : Program) (k : ℕ) → has_number (init_roots p) k ≡ true → k < length p.methods
inits_within p k e = numbers_in (numbers_of (λ m. is_class_init_name m.name) 0 p.methods) (entries_named p (codes "init") (codes "()V")) k e (numbers_within _ p.methods k) (numbers_within _ p.methods k)

-- a root of a part is the number of a method
pub roots_within : (p : Program) (number part k : ℕ) → has_number (part_roots p number part) k ≡ true → k < length p.methods
roots_within p zero zero k e = inits_within p k e
roots_within p zero (suc zero) k e = inits_within p k e
roots_within p zero (suc (suc part)) k e = numbers_within _ p.methods k e
roots_within p (suc number) part k e = numbers_within _ p.methods k e

pub there : (ms : List MethodInfo) (k : ℕ) → k < length ms → (m : MethodInfo) × (slice_get ms k ≡ Some m)
there [] k h = absurd (omega arith)
there (m ∷ ms) zero h = (m, refl)
there (m ∷ ms) (suc k) h = there ms k (omega arith)

begun_root : (p : Program) (s : Thread) (roots : List ℕ) → AreRoots p s.number s.part roots → FramesFit phases.Start s.frames roots → IsRooted p (thread_started p s roots)
begun_root p s [] r f = absurd f
begun_root p s (root ∷ roots) r f =
    let found = there p.methods root (roots_within p s.number s.part root r.0) in
    let now : Thread = record s { roots = roots } in
    subst (λ (o : Option MethodInfo). IsRooted p (goes_on_if now (option_map (rooted p s.number root) o))) (sym found.1)
    (goes p now (rooted p s.number root found.0) r.1 (if_either OnwardFits (has_room p [] found.0) (Running (entry_frame root found.0 (root_arguments s.number found.0) ∷ [])) (Uncaught StackOverflowError) tt tt))

-- ---- all moves

-- a phase whose thread has a frame
abbrev HasFrames : Phase → Type 0
HasFrames phases.Idle = ⊥
HasFrames phases.Start = ⊥
HasFrames (phases.Ending e) = ⊥
HasFrames (phases.Ended e) = ⊥
HasFrames phase = Unit {0}

frame_in : (phase : Phase) (fs : List Frame) (roots : List ℕ) → HasFrames phase → FramesFit phase fs roots → HasFrame fs
frame_in phases.Idle fs roots n f = absurd n
frame_in phase (x ∷ fs) roots n f = tt
frame_in phase [] roots n f = absurd (assumption)

waits_framed : (m : ℕ) (kept : Kept) (now : Phase) → WaitsFrom m kept now → (fs : List Frame) (roots : List ℕ) → HasFrame fs → FramesFit now fs roots
waits_framed m _ _ (moves.grows_first count) fs roots h = framed (phases.Grow m towards.Wait) fs roots tt h
waits_framed m _ _ (moves.waits_fat r) fs roots h = framed (phases.WaitBit m r) fs roots tt h

asked_framed : (m : ℕ) (kept : Kept) (now : Phase) → Asks m kept now → (fs : List Frame) (roots : List ℕ) → HasFrame fs → FramesFit now fs roots
asked_framed m _ _ (moves.looks_who r) fs roots h = framed (phases.NotifyLook m r) fs roots tt h
asked_framed m _ _ (moves.clears_all r) fs roots h = framed (phases.NotifyAll m r) fs roots tt h

module _ (c : MarkedProgram) (s : Thread) (got : ℕ) (h : IsRooted c.program s) where
  leads_framed : (was now : Phase) → LeadsTo c.program s got was now → FramesFit was s.frames s.roots → FramesFit now s.frames s.roots
  leads_framed _ _ (moves.to_end e) f = tt
  leads_framed _ _ (moves.to_no_record m t) f = tt
  leads_framed _ _ (moves.to_no_print at v e l t) f = tt
  leads_framed was _ (moves.to_take m count k e) f = framed (phases.Take m count) s.frames s.roots tt (frame_in was s.frames s.roots (looks_in HasFrames m was k (λ tried. tt) tt) f)
  leads_framed was _ (moves.to_take_fat m r k e) f = framed (phases.TakeFat m r) s.frames s.roots tt (frame_in was s.frames s.roots (looks_in HasFrames m was k (λ tried. tt) tt) f)
  leads_framed was now k f = f

  turns_framed : (was now : Phase) → TurnsTo s got was now → FramesFit was s.frames s.roots → FramesFit now s.frames s.roots
  turns_framed was _ (moves.looks_again m k) f = framed (phases.Acquire m) s.frames s.roots tt (frame_in was s.frames s.roots (looks_in HasFrames m was k (λ tried. tt) tt) f)
  turns_framed was _ (moves.flags m u k e) f = framed (phases.Flag m u) s.frames s.roots tt (frame_in was s.frames s.roots (looks_in HasFrames m was k (λ tried. tt) tt) f)
  turns_framed was now k f = f

  goes_framed : (was : Phase) (o : Onward) → GoesBy c.program s got was o → FramesFit was s.frames s.roots → OnwardFits o
  goes_framed _ o (moves.by_effect at e _ found is silent d) f = subst (λ (w : Option Onward). IfSome w OnwardFits) d (does c.program at e got)
  goes_framed _ _ (moves.by_object a word) f = pushed_frame a s.frames (frame_in (phases.Made a word) s.frames s.roots tt f)
  goes_framed _ _ (moves.by_handler x class at found) f = hands c.program x class at (handler_at (class_of class) at)
  goes_framed was _ k f = let there = frame_in was s.frames s.roots tt f in assumption

  runs_framed : (was : Phase) → HasFrames was → FramesFit was s.frames s.roots → FramesFit (runs s).phase s.frames s.roots
  runs_framed was n f = runs_to (λ (phase : Phase). FramesFit phase s.frames s.roots) s (framed phases.Run s.frames s.roots tt (frame_in was s.frames s.roots n f)) tt

  left_framed : (held : List Held) (attempt : Option Attempt) (counts : Counts) (a : After) → HasFrame s.frames → IsRooted c.program (goes_after c.program (record s { held = held; attempt = attempt; counts = counts }) a)
  left_framed held attempt counts a f = goes_if c.program (record s { held = held; attempt = attempt; counts = counts }) (after c.program s.frames a) (record { roots = h.roots; frames = h.frames }) (goes_behind c.program s.frames a f)

  gives_up_framed : (m : ℕ) (a : After) (was : Phase) → GivesUp s m a was → FramesFit was s.frames s.roots → HasFrame s.frames
  gives_up_framed m a _ (moves.on_leave e l t) f = frame_in (phases.Leave m a) s.frames s.roots tt f
  gives_up_framed m a _ moves.flat_out f = frame_in (phases.FlatOut m a) s.frames s.roots tt f

  moved_framed : (was : Phase) (k : Move c s got was) → FramesFit was s.frames s.roots → IsRooted c.program (becomes c s got was k)
  moved_framed was (moves.stays k) f = h
  moved_framed was (moves.goes o k) f = goes c.program s o h.roots (goes_framed was o k f)
  moved_framed was (moves.fails_in t e d k) f = record { roots = h.roots; frames = tt }
  moved_framed was (moves.leads now k) f = record { roots = h.roots; frames = leads_framed was now k f }
  moved_framed was (moves.turns now k) f = record { roots = h.roots; frames = turns_to (λ (phase : Phase). FramesFit phase s.frames s.roots) s now (turns_framed was now k f) tt }
  moved_framed _ (moves.makes at word size e l t) f = record { roots = h.roots; frames = tt }
  moved_framed _ (moves.prints at n e l t) f = goes c.program (printed s got n) (Running (went_on c.program at 0)) h.roots tt
  moved_framed _ (moves.asks_to_wait at m e now found is l k) f = record { roots = h.roots; frames = waits_framed m e.kept now k (went_on c.program at 0) s.roots tt }
  moved_framed _ (moves.asks at m e now found y l k) f = record { roots = h.roots; frames = asked_framed m e.kept now k (went_on c.program at 0) s.roots tt }
  moved_framed was (moves.takes_lock m kept k) f = record { roots = h.roots; frames = runs_framed was (takes_in HasFrames got m was kept k (λ count. tt) (λ r. tt)) f }
  moved_framed was (moves.gives_up m a k) f = left_framed (without_held m s.held) s.attempt s.counts a (gives_up_framed m a was k f)
  moved_framed _ (moves.leaves_outer m a e l t) f = left_framed (with_held (shallower e) s.held) s.attempt s.counts a (frame_in (phases.Leave m a) s.frames s.roots tt f)
  moved_framed _ (moves.leaves_inside m a t inner k e) f = left_framed s.held (Some (record t { inner = inner })) s.counts a (frame_in (phases.Leave m a) s.frames s.roots tt f)
  moved_framed _ (moves.finishes_try m a t k e y) f = left_framed s.held None (record s.counts { elided = s.counts.elided + 1 }) a (frame_in (phases.Leave m a) s.frames s.roots tt f)
  moved_framed _ (moves.fattens_lock m r toward e l) f = record {
    roots = h.roots;
    frames = framed (grown m r toward) s.frames s.roots
        (elim toward as (λ to. IsNoStart (grown m r to)) [ towards.Leave a ↦ tt | towards.Wait ↦ tt ]) (frame_in (phases.FatIn m r toward) s.frames s.roots tt f);
  }
  moved_framed _ (moves.gives_up_to_wait m r e l) f = record { roots = h.roots; frames = framed (phases.WaitLook m r e.depth) s.frames s.roots tt (frame_in (phases.WaitOut m r) s.frames s.roots tt f) }
  moved_framed _ (moves.starts number roots e) f = subst (IsRooted c.program) (ap (thread_started c.program s) e) (begun_root c.program s s.roots h.roots f)
  moved_framed was k f = record { roots = h.roots; frames = runs_framed was tt f }

pub roots_kept : RootsAreKept
roots_kept c s got h = by_move (IsRooted c.program) c s s.phase got
    (λ k. moved_framed c _ got (of_mover (IsRooted c.program) c.program s.phase s h (record { roots = h.roots; frames = h.frames })) s.phase k (of_mover (λ y. FramesFit s.phase y.frames y.roots) c.program s.phase s h.frames h.frames))
