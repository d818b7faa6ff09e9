-- What the next event of a lawful thread takes is there, phase by phase.
use Rattle.std.proofs.Common.{⊎_elim, ◌≡◌, ℕ, ◌<◌, ◌≤◌, true, List, [], ◌∷◌, length, Option, Some, None, refl, ap, subst, ◌∙◌, arith, get_or, IsSome, IsTrue, slice_get, option_map}
use Rattle.std.{specs.List.AllByRecursion, proofs.lemmas.Option.slice_get_cases}
use Rattle.jvm_types.specs.{Numbers.has_number, Verifying.is_return, declared.program.{MethodInfo.MethodInfo, Program.Program}}
use Rattle.checked_program.specs.MarkedProgram.{MarkedProgram, IsMarked}
use Rattle.machine_types.specs.{Bounds.{FramesFit, part_roots}, Core.is_live, FoundWords.{WordFits, effect_content}, Frames.{Top, top_of, effect_at, handler_at}, HeldMonitors.held_at}
use Rattle.machine_types.specs.{Lawful.{IsLawful, within}, Onward.handed, ReadyObjects.class_of, Structure.{HasFrame, IsFlat, IsFat, AfterShows, Stands, IsAs}, Threads.{Frame, Thread}}
use Rattle.machine_types.specs.{Typed.{AfterHolds, FramesHold, PhaseHolds}, declared.effect.Effect.{Effect, TheVariants.{Raises, Calls, Returns}}}
use Rattle.machine_types.specs.declared.{lock.Held.Held, phase.{After.{After, TheVariants.{Next, Return, Unwind}}, Phase.Phase}}
use Rattle.laws_threads.{specs.TopFrames.{BelowFits, IsAllowed}, proofs.{Callers.returns_fit, KeptRoots.roots_within, Landing.stand_top, Onwards.same_op, Standings.top_here}}
use Rattle.laws_threads.proofs.{TopEffects.effects_allowed, TopStand.{thrown_stand, made_stand}}
use Rattle.laws_states.{specs.RunSafety.{HasCaller, GoesOnBy, HasInstruction, HasAfter, HasRoot, HasEvent}, proofs.HeldOrTried.leaves_claimed}
use Rattle.machine_types.specs.declared.phase.Phase.TheVariants as phases

-- ---- what is there

there : {A : Type 0} (o : Option A) (x : A) → o ≡ Some x → IsSome o
there o x e = rw e refl

mapped : {A B : Type 0} (f : A → B) (o : Option A) → IsSome o → IsSome (option_map f o)
mapped f None some = absurd (cc)
mapped f (Some x) some = refl

flat_there : (o : Option Held) → IsFlat o → IsSome o
flat_there None flat = absurd flat
flat_there (Some h) flat = refl

fat_there : (r : ℕ) (o : Option Held) → IsFat r o → IsSome o
fat_there r None fat = absurd fat
fat_there r (Some h) fat = refl

has_frame : (phase : Phase) (fs : List Frame) (roots : List ℕ) → (FramesFit phase [] roots → ⊥) → FramesFit phase fs roots → HasFrame fs
has_frame phase [] roots none fit = absurd (none fit)
has_frame phase (f ∷ fs) roots none fit = tt

some_frames : (fs : List Frame) → HasFrame fs → 0 < length fs
some_frames [] has = absurd has
some_frames (f ∷ fs) has = omega arith

-- ---- the next root

has_root : (p : Program) (number part : ℕ) (fs : List Frame) (roots : List ℕ) → FramesFit phases.Start fs roots → AllByRecursion (λ k. IsTrue (has_number (part_roots p number part) k)) roots → HasRoot p roots
has_root p number part fs [] fit all = absurd fit
has_root p number part fs (k ∷ roots) fit all = ⊎_elim
    (λ (is : (m : MethodInfo) × (k < length p.methods) × (slice_get p.methods k ≡ Some m) × (get_or p.methods k m ≡ m)). there (slice_get p.methods k) is.0 is.2)
    (λ (past : (length p.methods ≤ k) × (slice_get p.methods k ≡ None)). absurd (omega (arith, past.0, roots_within p number part k all.0))) (slice_get_cases p.methods k).1

-- ---- an instruction

has_caller : (p : Program) (below : List Frame) (given : List ℕ) → BelowFits p below given → HasCaller p below
has_caller p [] given fits = tt
has_caller p (f ∷ fs) given fits = there _ _ fits.stands.found

goes_on_by : (p : Program) (at : Top) (e : Effect) (got : ℕ) → IsAllowed p at e → (is_return at.insn.op ≡ true → HasCaller p at.below) → WordFits p (effect_content p at.target e) got → GoesOnBy p at e got
goes_on_by p at (Raises x) got allowed caller fits = mapped _ _ fits.1
goes_on_by p at (Calls number) got allowed caller fits = mapped _ _ (there _ _ allowed.there)
goes_on_by p at Returns got allowed caller fits = caller allowed
goes_on_by p at e got allowed caller fits = first_of (assumption, cc, grind arith)

module _ (c : MarkedProgram) (marked : IsMarked c) where
  has_instruction : (fs : List Frame) → FramesHold c (within c.program) fs → HasFrame fs → HasInstruction c.program fs
  has_instruction [] hold has = absurd has
  has_instruction (f ∷ fs) hold has =
      let at = top_here c f fs hold.0.stands in
      let found = stand_top c marked f fs hold.0.stands in
      let allowed = effects_allowed c (f ∷ fs) at marked hold found in
      record { at = at; found = found; allowed = allowed; goes_on = λ got fits. goes_on_by c.program at (effect_at c.program at) got allowed (λ r. has_caller c.program fs _ (returns_fit c (f ∷ fs) at marked hold found r)) fits }

  has_top : (fs : List Frame) → FramesHold c (within c.program) fs → HasFrame fs → IsSome (top_of c.program fs)
  has_top fs hold has = let k = has_instruction fs hold has in there _ _ k.found

  -- ---- behind a monitor

  has_after : (m : ℕ) (a : After) (fs : List Frame) → AfterHolds c (within c.program) a fs → AfterShows c m a fs → HasAfter c.program a fs
  has_after m Next fs hold shows = refl
  has_after m Return [] hold shows = absurd shows
  has_after m Return (f ∷ fs) hold shows =
      let at = top_here c f fs hold.0.stands in
      let found = stand_top c marked f fs hold.0.stands in
      (at, found, has_caller c.program fs _ (returns_fit c (f ∷ fs) at marked hold found (ap is_return (same_op c marked (within c.program) f hold.0.stands shows.0) ∙ shows.2)))
  has_after m (Unwind x class) [] hold shows = absurd shows
  has_after m (Unwind x class) (f ∷ fs) hold shows = let k = thrown_stand c (f ∷ fs) marked hold.1 (some_frames (f ∷ fs) tt) in there _ _ k.1.found

  -- ---- all phases

  module _ (x : Thread) (was : Phase) (stands : Stands c was x.frames x.held x.attempt) where
    standing : (phase : Phase) → was ≡ phase → Stands c phase x.frames x.held x.attempt
    standing phase e = subst (λ (z : Phase). Stands c z x.frames x.held x.attempt) e stands

    abbrev Rooted : Type 0
    Rooted = AllByRecursion (λ k. IsTrue (has_number (part_roots c.program x.number x.part) k)) x.roots

    in_phase : (phase : Phase) → is_live phase ≡ true → IsAs phase was → PhaseHolds c (within c.program) phase x.frames → FramesFit phase x.frames x.roots → Rooted → HasEvent c x phase
    in_phase phases.Idle live is holds fit roots = absurd (cc)
    in_phase (phases.Ended e) live is holds fit roots = absurd (cc)
    in_phase phases.Start live is holds fit roots = has_root c.program x.number x.part x.frames x.roots fit roots
    in_phase phases.Run live is holds fit roots = has_instruction x.frames holds (has_frame phases.Run x.frames x.roots (λ h. h) fit)
    in_phase (phases.Element word stored) live is holds fit roots = has_top x.frames holds.1 (has_frame (phases.Element word stored) x.frames x.roots (λ h. h) fit)
    in_phase (phases.Made a word) live is holds fit roots =
        there _ _ (made_stand c x.frames a word marked holds (some_frames x.frames (has_frame (phases.Made a word) x.frames x.roots (λ h. h) fit))).stands.found
    in_phase (phases.Throw r class) live is holds fit roots =
        let k = thrown_stand c x.frames marked holds.1 (some_frames x.frames (has_frame (phases.Throw r class) x.frames x.roots (λ h. h) fit)) in
        mapped (λ at. handed c.program r class at (handler_at (class_of class) at)) (top_of c.program x.frames) (there _ _ k.1.found)
    in_phase (phases.Enter m tried) live is holds fit roots = has_top x.frames holds.1 (has_frame (phases.Enter m tried) x.frames x.roots (λ h. h) fit)
    in_phase (phases.Leave m a) live is holds fit roots =
        let k = standing (phases.Leave m a) is in
        (leaves_claimed (within c.program) c m a x.frames x.held x.attempt marked k holds, has_after m a x.frames holds k.phase_shows)
    in_phase (phases.FlatOut m a) live is holds fit roots =
        let k = standing (phases.FlatOut m a) is in
        (k.phase_shows.flat, has_after m a x.frames holds k.phase_shows.toward_shows)
    in_phase (phases.FatIn m r toward) live is holds fit roots = let k = standing (phases.FatIn m r toward) is in flat_there (held_at x.held m) k.phase_shows.flat
    in_phase (phases.WaitOut m r) live is holds fit roots = let k = standing (phases.WaitOut m r) is in fat_there r (held_at x.held m) k.phase_shows.1
    in_phase phase live is holds fit roots = tt

pub has_event : (c : MarkedProgram) (x : Thread) → IsMarked c → IsLawful c x → is_live x.phase ≡ true → HasEvent c x x.phase
has_event c x marked l live = in_phase c marked x l.was l.structured.stands x.phase live l.structured.is_as l.typed.values.phase l.rooted.frames l.rooted.roots
