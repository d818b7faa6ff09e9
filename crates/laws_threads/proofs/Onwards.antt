-- How a thread goes on keeps the types of its frames, and what lies below the section of an attempt.
use Rattle.std.proofs.Common.{◌≡◌, ℕ, suc, ◌-◌, ◌<◌, ◌^◌, inl, inr, true, List, [], ◌∷◌, ◌++◌, length, Option, Some, None, refl, ap, sym, subst, ◌∙◌, arith, drop, option_map}
use Rattle.std.specs.List.{AllByRecursion}
use Rattle.lists.proofs.ListLaws.{same_some}
use Rattle.jvm_types.specs.{ClassTree.is_subclass, CodeTable.can_throw, Members.is_synchronized, Verifying.is_return, declared.{outcome.Thrown.Thrown, program.{FieldInfo.FieldInfo, Program.Program}}}
use Rattle.jvm_types.specs.declared.{class_numbers.TheConstants.{CLASS_ITSELF, PRINT_STREAM_CLASS, THROWABLE_CLASS}, program.{Row.Row, Target.Target}}
use Rattle.laws_programs.proofs.RuleUses.{returns_suit_all}
use Rattle.checked_program.specs.MarkedProgram.{MarkedProgram, IsMarked}
use Rattle.machine_types.specs.{Frames.{Top, top_of, monitor_of, given_back, given, returned, handler_of, handler_at}, ReadyObjects.{ready, class_of, thrown_of, out_object}, Standing.Standing}
use Rattle.machine_types.specs.{Onward.{Onward, Running, Throwing, Entering, Leaving, RootReturned, Uncaught, returns, back, unwound, handed, dispatched, after}, Structure.{TopIs, AfterShows}}
use Rattle.machine_types.specs.{Threads.Frame, Typed.{Classes, KindHolds, FrameHolds, WaitHolds, HoldBelow, FramesHold, ThrownHolds, FramesThrown, IsException, AfterHolds, IsObject}}
use Rattle.machine_types.specs.{Words.{class_object, header_class, header_length}, declared.{effect.Effect.{Effect, TheVariants.{Reads, Measures, Raises}}, phase.After.After}}
use Rattle.machine_types.specs.declared.phase.After.TheVariants.{Next, Return, Unwind}
use Rattle.laws_threads.{specs.Allowed.{IsNamedField, IsByMachine}, proofs.{Callers.row_of_call, Landing.{stand_top, rules_at}, Standings.top_here, ThreadMove.if_either, TypedMoves.{given_holds, resumes, catches}}}
use Rattle.jvm_types.specs.declared.outcome.Thrown.TheVariants as thrown

-- ---- what lies below a section

-- of two lists of frames with more than so many frames, the lowest so many are the same
abbrev pub Keeps : (fs after : List Frame) → Type 0
Keeps fs after = (base : ℕ) → base < length fs → base < length after → drop (length after - base) after ≡ drop (length fs - base) fs

pub keeps_all : (fs : List Frame) → Keeps fs fs
keeps_all fs base a b = refl

pub keeps_none : (fs : List Frame) → Keeps fs []
keeps_none fs base a b = absurd (omega (arith, b))

one_less : (n base : ℕ) → base < suc n → suc n - base ≡ suc (n - base)
one_less n base h = omega (arith, h)

two_less : (n base : ℕ) → base < suc n → suc (suc n) - base ≡ suc (suc (n - base))
two_less n base h = omega (arith, h)

pub keeps_top : (f g : Frame) (fs : List Frame) → Keeps (f ∷ fs) (g ∷ fs)
keeps_top f g fs base a b = ap (λ n. drop n (g ∷ fs)) (one_less (length fs) base b) ∙ sym (ap (λ n. drop n (f ∷ fs)) (one_less (length fs) base a))

pub keeps_push : (f g h : Frame) (fs : List Frame) → Keeps (f ∷ fs) (g ∷ h ∷ fs)
keeps_push f g h fs base a b = ap (λ n. drop n (g ∷ h ∷ fs)) (two_less (length fs) base a) ∙ sym (ap (λ n. drop n (f ∷ fs)) (one_less (length fs) base a))

pub keeps_pop : (f g h : Frame) (fs : List Frame) → Keeps (f ∷ g ∷ fs) (h ∷ fs)
keeps_pop f g h fs base a b = ap (λ n. drop n (h ∷ fs)) (one_less (length fs) base b) ∙ sym (ap (λ n. drop n (f ∷ g ∷ fs)) (two_less (length fs) base b))

-- ---- what there has to be

-- what is there from the start on, and that each object lies in the heap
pub record HasObjects (p : Program) (is : Classes) : Type 0 where
  pub out : is PRINT_STREAM_CLASS out_object
  pub ready : (x : Thrown) → IsByMachine x → is (class_of x) (ready x)
  pub classes : (file : ℕ) → file < length p.names → is CLASS_ITSELF (class_object p file)
  pub inside : (class v : ℕ) → is class v → v < p.heap

-- the word that an instruction finds is one of what it reads
abbrev pub FoundHolds : Program → Classes → Target → Effect → (got : ℕ) → Type 0
FoundHolds p is target (Reads v) got = (f : FieldInfo) → IsNamedField p is target v f → KindHolds is f.kind got
FoundHolds p is target (Measures a) got = header_length got < 2 ^ 32
FoundHolds p is target (Raises x) got = (class : Thrown) → thrown_of (header_class got) ≡ Some class → is (class_of class) x
FoundHolds p is target e got = Unit {0}

-- ---- how it goes on

abbrev pub OnwardHolds : MarkedProgram → Classes → Onward → Type 0
OnwardHolds c is (Running fs) = FramesHold c is fs
OnwardHolds c is (Throwing x class fs) = IsException is x class × FramesThrown c is fs
OnwardHolds c is (Entering m fs) = IsObject is m × FramesHold c is fs
OnwardHolds c is (Leaving m a fs) = AfterHolds c is a fs
OnwardHolds c is RootReturned = Unit {0}
OnwardHolds c is (Uncaught class) = Unit {0}

abbrev pub frames_then : Onward → List Frame
frames_then (Running fs) = fs
frames_then (Throwing x class fs) = fs
frames_then (Entering m fs) = fs
frames_then (Leaving m a fs) = fs
frames_then RootReturned = []
frames_then (Uncaught class) = []

abbrev pub AreInside : Program → List Frame → Type 0
AreInside p fs = AllByRecursion (λ (f : Frame). f.receiver < p.heap) fs

pub record Onwards (c : MarkedProgram) (is : Classes) (fs : List Frame) (o : Onward) : Type 0 where
  pub holds : OnwardHolds c is o
  pub keeps : Keeps fs (frames_then o)
  pub inside : AreInside c.program fs → AreInside c.program (frames_then o)

abbrev pub IfOnwards : MarkedProgram → Classes → List Frame → Option Onward → Type 0
IfOnwards c is fs None = Unit {0}
IfOnwards c is fs (Some o) = Onwards c is fs o

-- ---- exceptions

pub below_throwable : (x : Thrown) → is_subclass (class_of x) THROWABLE_CLASS ≡ true
unfolding is_subclass
below_throwable thrown.Throwable = refl
below_throwable x = refl

module _ (c : MarkedProgram) (marked : IsMarked c) (is : Classes) where
  pub ends_above : (x : ℕ) (class : Thrown) (f : Frame) (fs : List Frame) → IsException is x class → HoldBelow c is f.method fs → Onwards c is (f ∷ fs) (unwound x class fs)
  ends_above x class f [] k b = record { holds = tt; keeps = keeps_none (f ∷ []); inside = λ all. tt }
  ends_above x class f (g ∷ gs) k b = record { holds = (k, (inr (f.method, b.0), b.1)); keeps = keeps_pop f g g gs; inside = λ all. all.1 }

  -- two places of a frame are one
  pub same_op : (f : Frame) (k h : Standing c f) → k.insn.op ≡ h.insn.op
  same_op f k h =
      let same : top_here c f [] k ≡ top_here c f [] h = same_some (sym (stand_top c marked f [] k) ∙ stand_top c marked f [] h) in
      ap (λ (at : Top). at.insn.op) same

  module _ (x : ℕ) (class : Thrown) (f : Frame) (fs : List Frame) (k : IsException is x class) (thrown : ThrownHolds c is f) (b : HoldBelow c is f.method fs) where
    hands : (count : ℕ) (h : FrameHolds c is count f) → can_throw h.stands.insn.op ≡ true → (o : Option Row) → handler_of f.pc (class_of class) h.stands.method.rows ≡ o → Onwards c is (f ∷ fs) (handed c.program x class (top_here c f fs h.stands) o)
    hands count h throws (Some r) e = record {
      holds = (catches c marked is f count h x (class_of class) r throws k (below_throwable class) e, b);
      keeps = keeps_top f (record f { pc = r.handler; stack = x ∷ [] }) fs;
      inside = λ all. all;
    }
    hands count h throws None e = if_either (Onwards c is (f ∷ fs)) (is_synchronized h.stands.method.flags) (Leaving (monitor_of c.program h.stands.method f) (Unwind x class) (f ∷ fs)) (unwound x class fs)
        (record { holds = (k, (thrown, b)); keeps = keeps_all (f ∷ fs); inside = λ all. all }) (ends_above x class f fs k b)

    dispatches_at : (count : ℕ) (h : FrameHolds c is count f) → can_throw h.stands.insn.op ≡ true → IfOnwards c is (f ∷ fs) (dispatched c.program x class (f ∷ fs))
    dispatches_at count h throws =
        subst (λ o. IfOnwards c is (f ∷ fs) (option_map (λ at. handed c.program x class at (handler_at (class_of class) at)) o)) (sym (stand_top c marked f fs h.stands))
        (hands count h throws (handler_of f.pc (class_of class) h.stands.method.rows) refl)

  pub dispatches : (x : ℕ) (class : Thrown) (f : Frame) (fs : List Frame) → IsException is x class → ThrownHolds c is f → HoldBelow c is f.method fs → TopIs c can_throw (f ∷ fs) → IfOnwards c is (f ∷ fs) (dispatched c.program x class (f ∷ fs))
  dispatches x class f fs k (inl h) b top = dispatches_at x class f fs k (inl h) b 0 h (ap can_throw (same_op f h.stands top.0) ∙ top.1)
  dispatches x class f fs k (inr w) b top = dispatches_at x class f fs k (inr w) b w.1.count w.1.holds (ap can_throw (same_op f w.1.holds.stands top.0) ∙ top.1)

  -- ---- returns

  module _ (f : Frame) (fs : List Frame) (h : FrameHolds c is 0 f) where
    goes_back : (g : Frame) (gs : List Frame) → is_return h.stands.insn.op ≡ true → WaitHolds c is f.method g → HoldBelow c is g.method gs
        → Onwards c is (f ∷ g ∷ gs) (back (given (given_back h.stands.insn.op f.stack) (top_of c.program (g ∷ gs))))
    goes_back g gs r w b =
        let k = w.holds.stands in
        let result = given_back h.stands.insn.op f.stack in
        let rules = rules_at c marked f h.stands in
        let well = returns_suit_all c.program h.stands.method h.stands.insn h.stands.target h.stands.types rules.rules rules.sound.after in
        let typed = given_holds h.stands.method k.method is h.stands.insn.op h.stands.types.stack f.stack r well h.stack in
        let call = row_of_call c marked g k f.method h.stands.method w.calls h.stands.at.in_program in
        subst (λ o. Onwards c is (f ∷ g ∷ gs) (back (given result o))) (sym (stand_top c marked g gs k))
        (record {
          holds = (resumes c marked is g f.method h.stands.method result w call typed, b);
          keeps = keeps_pop f g (record g { pc = k.insn.next; stack = result ++ g.stack }) gs;
          inside = λ all. all.1;
        })

    pub goes_below : is_return h.stands.insn.op ≡ true → HoldBelow c is f.method fs → Onwards c is (f ∷ fs) (back (returned c.program (top_here c f fs h.stands)))
    goes_below r b = by_below fs b
      where
        by_below : (fs : List Frame) → HoldBelow c is f.method fs → Onwards c is (f ∷ fs) (back (given (given_back h.stands.insn.op f.stack) (top_of c.program fs)))
        by_below [] b = record { holds = tt; keeps = keeps_none (f ∷ []); inside = λ all. tt }
        by_below (g ∷ gs) b = goes_back g gs r b.0 b.1

    pub goes_out : is_return h.stands.insn.op ≡ true → HoldBelow c is f.method fs → Onwards c is (f ∷ fs) (returns c.program (top_here c f fs h.stands))
    goes_out r b = if_either (Onwards c is (f ∷ fs)) (is_synchronized h.stands.method.flags) (Leaving (monitor_of c.program h.stands.method f) Return (f ∷ fs)) (back (returned c.program (top_here c f fs h.stands)))
        (record { holds = (h, b); keeps = keeps_all (f ∷ fs); inside = λ all. all }) (goes_below r b)

  -- ---- when a monitor was left

  pub goes_after_it : (m : ℕ) (a : After) (fs : List Frame) → AfterHolds c is a fs → AfterShows c m a fs → IfOnwards c is fs (after c.program fs a)
  goes_after_it m Next fs h s = record { holds = h; keeps = keeps_all fs; inside = λ all. all }
  goes_after_it m Return [] h s = tt
  goes_after_it m Return (f ∷ fs) h s =
      subst (λ o. IfOnwards c is (f ∷ fs) (option_map (λ at. back (returned c.program at)) o)) (sym (stand_top c marked f fs h.0.stands))
      (goes_below f fs h.0 (ap is_return (same_op f h.0.stands s.0) ∙ s.2) h.1)
  goes_after_it m (Unwind x class) [] h s = record { holds = tt; keeps = keeps_none []; inside = λ all. tt }
  goes_after_it m (Unwind x class) (f ∷ fs) h s = ends_above x class f fs h.0 h.1.1
