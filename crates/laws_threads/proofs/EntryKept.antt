-- The frames of an attempt's entry stay as frames come and go above them.
use Rattle.std.proofs.Common.{◌≡◌, ℕ, ◌<◌, Bool, true, false, List, [], ◌∷◌, ◌++◌, length, Option, Some, None, refl, sym, ap, ◌∙◌, subst, arith, slice_get, option_map, if◌then◌else◌}
use Rattle.lists.proofs.ListLaws.{same_some}
use Rattle.jvm_types.specs.{Members.is_synchronized, declared.{outcome.Thrown.{Thrown, TheVariants.StackOverflowError}, program.{MethodInfo.MethodInfo, Program.Program, Row.Row}}}
use Rattle.machine_types.specs.{Elision.put_back, Onward.{Onward, Running, Throwing, Entering, Leaving, threw, entered, called, back, returns, unwound, handed, done}, Threads.{Frame, Attempt}}
use Rattle.machine_types.specs.Frames.{Top, top_of, frames_of, went, went_on, waiting, taken_from, has_room, entry_frame, arguments_of, monitor_of, given_back, given, returned, handler_at}
use Rattle.machine_types.{specs.{ReadyObjects.{class_of, thrown_of}, Words.{header_class, header_length}, declared.effect.Effect.Effect}, proofs.PlainPartLaws.frames_are}
use Rattle.machine_types.specs.declared.effect.Effect.TheVariants.{Goes, Throws, Reads, Writes, Measures, Raises, Prints, Calls, Returns, Enters, Leaves}
use Rattle.laws_threads.{specs.EntryFrames.{frames_in, KeepsEntry, StepsKeepEntry, ThrowsKeepEntry, LeavesKeepEntry}, proofs.{AttemptMoves.put_back_top, FramesInside.put_back_over, Inside.base_below}}
use Rattle.machine_types.specs.declared.phase.After.TheVariants as afters

-- ---- frames come and go

module _ (p : Program) (a : Attempt) where
  -- another frame in place of the top one
  in_place : (f g : Frame) (below : List Frame) → a.base < length (f ∷ below) → put_back a (g ∷ below) ≡ put_back a (f ∷ below)
  in_place f g below l = put_back_top a f g below (base_below a f below l)

  -- another above it
  above : (f b g : Frame) (below : List Frame) → a.base < length (f ∷ below) → put_back a (g ∷ b ∷ below) ≡ put_back a (f ∷ below)
  above f b g below l = put_back_over a g (b ∷ below) (omega (arith, l)) ∙ in_place f b below l

  -- the frames below it alone
  without : (f : Frame) (below : List Frame) → a.base < length below → put_back a below ≡ put_back a (f ∷ below)
  without f below l = sym (put_back_over a f below (omega (arith, l)))

  given_to : (f : Frame) (below : List Frame) (result : List ℕ) (o : Option Top) → top_of p below ≡ o → KeepsEntry a (f ∷ below) (back (given result o))
  given_to f below result None e l m = absurd (omega (arith, m))
  given_to f below result (Some at) e l m =
      let there : below ≡ frames_of at = sym (frames_are p below at e) in
      let more : a.base < length (frames_of at) = m in
      in_place at.frame (record at.frame { pc = at.insn.next; stack = result ++ at.frame.stack }) at.below more ∙ ap (put_back a) (sym there) ∙ without f below (subst (λ fs. a.base < length fs) (sym there) more)

  unwound_to : (f : Frame) (below : List Frame) (x : ℕ) (class : Thrown) → KeepsEntry a (f ∷ below) (unwound x class below)
  unwound_to f [] x class l m = absurd (omega (arith, m))
  unwound_to f (b ∷ more) x class l m = without f (b ∷ more) m

  -- ---- by what the top frame does

  module _ (at : Top) where
    abbrev Keeps : Onward → Type 0
    Keeps o = KeepsEntry a (frames_of at) o

    in_same : (o : Onward) → frames_in o ≡ frames_of at → Keeps o
    in_same o e l m = ap (put_back a) e

    entered_keeps : (m : MethodInfo) (g : Frame) (b : Bool) → Keeps (if b then Entering (monitor_of p m g) (g ∷ waiting p at) else Running (g ∷ waiting p at))
    entered_keeps m g true l n = above at.frame (taken_from p at) g at.below l
    entered_keeps m g false l n = above at.frame (taken_from p at) g at.below l

    called_keeps : (number : ℕ) (m : MethodInfo) (b : Bool) → Keeps (if b then entered p m (entry_frame number m (arguments_of p at)) (waiting p at) else threw StackOverflowError at)
    called_keeps number m true = entered_keeps m (entry_frame number m (arguments_of p at)) (is_synchronized m.flags)
    called_keeps number m false = in_same (threw StackOverflowError at) refl

    returned_keeps : (b : Bool) → Keeps (if b then Leaving (monitor_of p at.method at.frame) afters.Return (frames_of at) else back (returned p at))
    returned_keeps true = in_same (Leaving (monitor_of p at.method at.frame) afters.Return (frames_of at)) refl
    returned_keeps false = given_to at.frame at.below (given_back at.insn.op at.frame.stack) (top_of p at.below) refl

    went_keeps : (to made : ℕ) → Keeps (Running (went p at to made))
    went_keeps to made l m = in_place at.frame _ at.below l

    is : (o onward : Onward) → Keeps o → Some o ≡ Some onward → Keeps onward
    is o onward h e = subst Keeps (same_some e) h

    raises : (o : Option Thrown) (x : ℕ) (onward : Onward) → option_map (λ class. Throwing x class (frames_of at)) o ≡ Some onward → Keeps onward
    raises None x onward e = absurd (cc)
    raises (Some class) x onward e = is (Throwing x class (frames_of at)) onward (in_same (Throwing x class (frames_of at)) refl) e

    calls : (number : ℕ) (o : Option MethodInfo) (onward : Onward) → option_map (called p at number) o ≡ Some onward → Keeps onward
    calls number None onward e = absurd (cc)
    calls number (Some m) onward e = is (called p at number m) onward (called_keeps number m (has_room p (frames_of at) m)) e

    steps : (e : Effect) (got : ℕ) (onward : Onward) → done p at e got ≡ Some onward → Keeps onward
    steps (Goes to made) got onward e = is (Running (went p at to made)) onward (went_keeps to made) e
    steps (Throws x) got onward e = is (threw x at) onward (in_same (threw x at) refl) e
    steps (Reads v) got onward e = is (Running (went_on p at got)) onward (went_keeps at.insn.next got) e
    steps (Writes v word) got onward e = is (Running (went_on p at 0)) onward (went_keeps at.insn.next 0) e
    steps (Measures array) got onward e = is (Running (went_on p at (header_length got))) onward (went_keeps at.insn.next (header_length got)) e
    steps (Raises x) got onward e = raises (thrown_of (header_class got)) x onward e
    steps (Prints n) got onward e = is (Running (went_on p at 0)) onward (went_keeps at.insn.next 0) e
    steps (Calls number) got onward e = calls number (slice_get p.methods number) onward e
    steps Returns got onward e = is (returns p at) onward (returned_keeps (is_synchronized at.method.flags)) e
    steps (Enters n) got onward e = is (Entering n (went_on p at 0)) onward (went_keeps at.insn.next 0) e
    steps (Leaves n) got onward e = is (Leaving n afters.Next (went_on p at 0)) onward (went_keeps at.insn.next 0) e
    steps w got onward e = absurd (cc)

    -- an exception
    not_caught : (x : ℕ) (class : Thrown) (b : Bool) → Keeps (if b then Leaving (monitor_of p at.method at.frame) (afters.Unwind x class) (frames_of at) else unwound x class at.below)
    not_caught x class true = in_same (Leaving (monitor_of p at.method at.frame) (afters.Unwind x class) (frames_of at)) refl
    not_caught x class false = unwound_to at.frame at.below x class

    thrown : (x : ℕ) (class : Thrown) (o : Option Row) → Keeps (handed p x class at o)
    thrown x class (Some r) = λ l m. in_place at.frame _ at.below l
    thrown x class None = not_caught x class (is_synchronized at.method.flags)

  -- ---- by frames

  of_top : (fs : List Frame) (at : Top) (onward : Onward) → top_of p fs ≡ Some at → KeepsEntry a (frames_of at) onward → KeepsEntry a fs onward
  of_top fs at onward e h = subst (λ gs. KeepsEntry a gs onward) (frames_are p fs at e) h

  mapped : (fs : List Frame) (go : Top → Onward) → ((at : Top) → KeepsEntry a (frames_of at) (go at)) → (o : Option Top) → top_of p fs ≡ o → (onward : Onward) → option_map go o ≡ Some onward → KeepsEntry a fs onward
  mapped fs go keeps None t onward e = absurd (cc)
  mapped fs go keeps (Some at) t onward e = of_top fs at onward t (is at (go at) onward (keeps at) e)

pub steps_kept : StepsKeepEntry
steps_kept p fs a at e got onward t d = of_top p a fs at onward t (steps p a at e got onward d)

pub throws_kept : ThrowsKeepEntry
throws_kept p fs a x class onward e = mapped p a fs (λ at. handed p x class at (handler_at (class_of class) at)) (λ at. thrown p a at x class (handler_at (class_of class) at)) (top_of p fs) refl onward e

pub leaves_kept : LeavesKeepEntry
leaves_kept p fs a afters.Next onward e = λ l m. ap (λ (o : Onward). put_back a (frames_in o)) (sym (same_some e))
leaves_kept p fs a afters.Return onward e = mapped p a fs (λ at. back (returned p at)) (λ at. given_to p a at.frame at.below (given_back at.insn.op at.frame.stack) (top_of p at.below) refl) (top_of p fs) refl onward e
leaves_kept p [] a (afters.Unwind x class) onward e = λ l m. absurd (omega (arith, l))
leaves_kept p (f ∷ below) a (afters.Unwind x class) onward e = subst (KeepsEntry a (f ∷ below)) (same_some e) (unwound_to p a f below x class)
