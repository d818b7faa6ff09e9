-- An instruction leaves its thread the settings and the roots, no more turns, and one frame more at most.
use Rattle.std.proofs.Common.{◌≡◌, ℕ, suc, ◌+◌, ◌-◌, ◌≤◌, nat_lt, nat_le, Bool, true, false, List, [], ◌∷◌, drop, length, Option, Some, None, refl, ap, arith, option_map, slice_get, if◌then◌else◌}
use Rattle.std.proofs.lemmas.List.{length-drop}
use Rattle.jvm_types.specs.{Members.is_synchronized, declared.outcome.Thrown.{Thrown, TheVariants.{ArrayIndexOutOfBoundsException, OutOfMemoryError, IllegalMonitorStateException, StackOverflowError}}}
use Rattle.jvm_types.specs.declared.program.{MethodInfo.MethodInfo, Program.Program}
use Rattle.machine_types.specs.Elision.{is_checked, is_same, fails, if_same, put_back}
use Rattle.machine_types.specs.Frames.{Top, top_of, frames_of, effect_at, given, given_back, has_room, entry_frame, arguments_of, monitor_of, returned, waiting, went, went_on}
use Rattle.machine_types.specs.{Going.{goes_on, goes_on_if}, HeldMonitors.held_at, Instructions.{begun, has_print_left, if_held, waits, notifies, did, instructed, ran}, Ints.low}
use Rattle.machine_types.specs.{Onward.{Onward, Running, Throwing, Entering, Leaving, RootReturned, threw, entered, called, back}, ReadyObjects.thrown_of, Threads.{Attempt, Frame, Thread}}
use Rattle.machine_types.specs.{Words.{header_class, header_length}, declared.effect.Effect.Effect}
use Rattle.machine_types.specs.declared.effect.Effect.TheVariants.{Goes, Throws, Reads, Writes, Indexes, Measures, Raises, Makes, Prints, Calls, Returns, Enters, Leaves, Waits, Notifies, NotifiesAll, Stuck}
use Rattle.machine_types.{specs.declared.{lock.{Held.Held, Kept.Kept}, phase.{After.TheVariants.{Next, Return}, Phase.Phase}}, proofs.PlainPartLaws.frames_are}
use Rattle.laws_threads.{specs.EntryFrames.frames_in, proofs.ThreadMove.if_either}
use Rattle.machine_types.specs.declared.lock.Kept.TheVariants as keeps
use Rattle.machine_types.specs.declared.phase.Phase.TheVariants as phases

-- ---- a return and a failure leave no more frames

pub given_fewer : (p : Program) (result : List ℕ) (below : List Frame) (o : Option Top) → top_of p below ≡ o → length (given result o) ≤ length below
given_fewer p result below None e = omega arith
given_fewer p result below (Some at) e = let same : suc (length at.below) ≡ length below = ap length (frames_are p below at e) in omega (arith, same)

pub returned_fewer : (p : Program) (at : Top) → length (returned p at) ≤ length at.below
returned_fewer p at = given_fewer p (given_back at.insn.op at.frame.stack) at.below (top_of p at.below) refl

put_back_few : (a : Attempt) (frames : List Frame) → length (put_back a frames) ≤ suc (length frames)
put_back_few a frames = let few : length (drop (length frames - a.base) frames) ≡ length frames - (length frames - a.base) = length-drop (length frames - a.base) frames in omega (arith, few)

-- ---- how a thread goes on

module _ (s : Thread) where
  pub record Follows (y : Thread) : Type 0 where
    pub cfg : y.cfg ≡ s.cfg
    pub instructions : y.counts.instructions ≡ s.counts.instructions
    pub roots : y.roots ≡ s.roots
    pub turns : y.turns ≤ s.turns
    pub frames : length y.frames ≤ suc (length s.frames)

  stays : Follows s
  stays = record { cfg = refl; instructions = refl; roots = refl; turns = omega arith; frames = omega arith }

  goes : (o : Onward) → length (frames_in o) ≤ suc (length s.frames) → Follows (goes_on s o)
  goes (Entering m frames) h = record { cfg = refl; instructions = refl; roots = refl; turns = omega arith; frames = h }
  goes o h = record { cfg = refl; instructions = refl; roots = refl; turns = omega arith; frames = h }

  -- ---- an instruction

  module _ (p : Program) (at : Top) (same : suc (length at.below) ≡ length s.frames) where
    one : suc (length at.below) ≤ suc (length s.frames)
    one = omega (arith, same)

    two : suc (suc (length at.below)) ≤ suc (length s.frames)
    two = omega (arith, same)

    raises : (o : Option Thrown) (x : ℕ) → Follows (goes_on_if s (option_map (λ class. Throwing x class (frames_of at)) o))
    raises None x = stays
    raises (Some class) x = goes (Throwing x class (frames_of at)) one

    goes_in : (number : ℕ) (m : MethodInfo) (b : Bool) (f : Frame) → Follows (goes_on s (if b then Entering (monitor_of p m f) (f ∷ waiting p at) else Running (f ∷ waiting p at)))
    goes_in number m true f = goes (Entering (monitor_of p m f) (f ∷ waiting p at)) two
    goes_in number m false f = goes (Running (f ∷ waiting p at)) two

    calls : (number : ℕ) (m : MethodInfo) (b : Bool) → Follows (goes_on s (if b then entered p m (entry_frame number m (arguments_of p at)) (waiting p at) else threw StackOverflowError at))
    calls number m true = goes_in number m (is_synchronized m.flags) (entry_frame number m (arguments_of p at))
    calls number m false = goes (threw StackOverflowError at) one

    calls_if : (number : ℕ) (o : Option MethodInfo) → Follows (goes_on_if s (option_map (called p at number) o))
    calls_if number None = stays
    calls_if number (Some m) = calls number m (has_room p (frames_of at) m)

    comes_back : (frames : List Frame) → length frames ≤ length at.below → Follows (goes_on s (back frames))
    comes_back [] few = goes RootReturned (omega arith)
    comes_back (f ∷ below) few = goes (Running (f ∷ below)) (omega (arith, few, same))

    gives_back : (b : Bool) → Follows (goes_on s (if b then Leaving (monitor_of p at.method at.frame) Return (frames_of at) else back (returned p at)))
    gives_back true = goes (Leaving (monitor_of p at.method at.frame) Return (frames_of at)) one
    gives_back false = comes_back (returned p at) (returned_fewer p at)

    if_holds : (h : Option Held) (more : Kept → Thread) → ((k : Kept) → Follows (more k)) → Follows (if_held s at h more)
    if_holds None more k = goes (threw IllegalMonitorStateException at) one
    if_holds (Some h) more k = k h.kept

    waited : (m : ℕ) (k : Kept) → Follows (waits (record s { frames = went_on p at 0 }) m k)
    waited m (keeps.Flat c) = record { cfg = refl; instructions = refl; roots = refl; turns = omega arith; frames = one }
    waited m (keeps.Fat r) = record { cfg = refl; instructions = refl; roots = refl; turns = omega arith; frames = one }

    notified : (phase : ℕ → Phase) (k : Kept) → Follows (notifies (record s { frames = went_on p at 0 }) phase k)
    notified phase (keeps.Flat c) = record { cfg = refl; instructions = refl; roots = refl; turns = omega arith; frames = one }
    notified phase (keeps.Fat r) = record { cfg = refl; instructions = refl; roots = refl; turns = omega arith; frames = one }

    does : (e : Effect) (got : ℕ) → Follows (did p s at e got)
    does (Indexes array index stored) got = if_either Follows (nat_lt (low index) (header_length got)) _ _ (record { cfg = refl; instructions = refl; roots = refl; turns = omega arith; frames = omega arith }) (goes (threw ArrayIndexOutOfBoundsException at) one)
    does (Makes word size) got = if_either Follows (nat_le (got + size) p.heap) _ _ (record { cfg = refl; instructions = refl; roots = refl; turns = omega arith; frames = one }) (goes (threw OutOfMemoryError at) one)
    does (Prints n) got = if_either Follows (has_print_left s) _ _ (record { cfg = refl; instructions = refl; roots = refl; turns = omega arith; frames = one }) (record { cfg = refl; instructions = refl; roots = refl; turns = omega arith; frames = omega arith })
    does (Waits m) got = if_holds (held_at s.held m) (waits (record s { frames = went_on p at 0 }) m) (waited m)
    does (Notifies m) got = if_holds (held_at s.held m) (notifies (record s { frames = went_on p at 0 }) (phases.NotifyLook m)) (notified (phases.NotifyLook m))
    does (NotifiesAll m) got = if_holds (held_at s.held m) (notifies (record s { frames = went_on p at 0 }) (phases.NotifyAll m)) (notified (phases.NotifyAll m))
    does (Goes to made) got = goes (Running (went p at to made)) one
    does (Throws x) got = goes (threw x at) one
    does (Reads v) got = goes (Running (went_on p at got)) one
    does (Writes v word) got = goes (Running (went_on p at 0)) one
    does (Measures array) got = goes (Running (went_on p at (header_length got))) one
    does (Raises x) got = raises (thrown_of (header_class got)) x
    does (Calls number) got = calls_if number (slice_get p.methods number)
    does Returns got = gives_back (is_synchronized at.method.flags)
    does (Enters m) got = goes (Entering m (went_on p at 0)) one
    does (Leaves m) got = goes (Leaving m Next (went_on p at 0)) one
    does Stuck got = stays

    looks_first : (a : Option Attempt) (got : ℕ) (y : Thread) → Follows y → Follows (if_same s a got y)
    looks_first None got y h = h
    looks_first (Some a) got y h = if_either Follows (is_same a got) y (fails s a) h (record { cfg = refl; instructions = refl; roots = refl; turns = omega arith; frames = put_back_few a s.frames })

    instruction : (e : Effect) (got : ℕ) → Follows (instructed p s at e got)
    instruction e got = if_either Follows (is_checked at.frame.pc e) _ _ (looks_first s.attempt got _ (does e got)) (does e got)

-- the thread counts it first
pub runs_follow : (p : Program) (x : Thread) (at : Top) (got : ℕ) → top_of p x.frames ≡ Some at → Follows (begun x) (ran p x (Some at) got)
runs_follow p x at got found = instruction (begun x) p at (ap length (frames_are p x.frames at found)) (effect_at p at) got
