-- What holds of values where some objects are there holds where more are.
use Rattle.std.{proofs.Common.{ℕ, inl, inr, List, [], ◌∷◌, drop}, specs.List.AllZip}
use Rattle.jvm_types.specs.declared.{program.MethodInfo.MethodInfo, typing.VType.{VType, TheVariants.{Ref, This, New}}}
use Rattle.checked_program.specs.MarkedProgram.{MarkedProgram}
use Rattle.machine_types.specs.{Threads.Frame, Typed.{Classes, IsNullOr, Holds, FrameHolds, WaitHolds, HoldBelow, FramesHold}}

module _ (is more : Classes) (up : (class v : ℕ) → is class v → more class v) where
  null_or_up : (class v : ℕ) → IsNullOr is class v → IsNullOr more class v
  null_or_up class v (inl e) = inl e
  null_or_up class v (inr k) = inr (k.0, up k.0 v k.1, k.2)

  pub holds_up : (m : MethodInfo) (t : VType) (v : ℕ) → Holds m is t v → Holds m more t v
  holds_up m (Ref class) v h = null_or_up class v h
  holds_up m This v h = up m.class v h
  holds_up m (New pc) v h = (h.0, h.1, up h.0 v h.2)
  holds_up m t v h = h

  pub zip_up : (m : MethodInfo) (ts : List VType) (vs : List ℕ) → AllZip (Holds m is) ts vs → AllZip (Holds m more) ts vs
  zip_up m [] [] h = h
  zip_up m (t ∷ ts) (v ∷ vs) h = (holds_up m t v h.0, zip_up m ts vs h.1)
  zip_up m ts vs h = absurd (assumption)

  module _ (c : MarkedProgram) where
    abbrev pub frame_up : (count : ℕ) (f : Frame) → FrameHolds c is count f → FrameHolds c more count f
    frame_up count f h = record {
      stands = h.stands;
      stack = zip_up h.stands.method (drop count h.stands.types.stack) f.stack h.stack;
      locals = zip_up h.stands.method h.stands.types.locals f.locals h.locals;
      receiver = λ e. up h.stands.method.class f.receiver (h.receiver e);
    }

    wait_up : (callee : ℕ) (f : Frame) → WaitHolds c is callee f → WaitHolds c more callee f
    wait_up callee f w = record { count = w.count; holds = frame_up w.count f w.holds; calls = w.calls; taken = w.taken }

    pub below_up : (callee : ℕ) (fs : List Frame) → HoldBelow c is callee fs → HoldBelow c more callee fs
    below_up callee [] b = b
    below_up callee (f ∷ fs) b = (wait_up callee f b.0, below_up f.method fs b.1)

    pub frames_up : (fs : List Frame) → FramesHold c is fs → FramesHold c more fs
    frames_up [] h = h
    frames_up (f ∷ fs) h = (frame_up 0 f h.0, below_up f.method fs h.1)
