-- What a lawful thread gives the phases that follow an instruction.
use Rattle.std.proofs.Common.{◌≡◌, ◌<◌, ℕ, List, [], ◌∷◌, length, Option, Some, None, refl, sym, ◌∙◌, subst, arith, IsSome}
use Rattle.lists.proofs.ListLaws.{same_some}
use Rattle.jvm_types.specs.declared.{outcome.Thrown.Thrown, program.Row.Row}
use Rattle.checked_program.specs.MarkedProgram.{MarkedProgram, IsMarked}
use Rattle.machine_types.specs.{Bounds.FramesFit, Frames.{Top, handler_at, top_of}, Lawful.{IsLawful, within}, Threads.{Frame, Thread}, Typed.{FramesHold, FramesThrown, PhaseHolds}}
use Rattle.machine_types.specs.declared.phase.Phase.{Phase, TheVariants.{Element, Made, Throw}}
use Rattle.laws_threads.{specs.TopFrames.StandsAt, proofs.{Callers.handlers_fit, TopStand.{made_stand, thrown_stand}}}
use Rattle.frames.specs.FrameLists.{top, max_stack}
use Rattle.instr_steps.specs.Places.{IsTopAt, CurrentInsn, at_place}

some_frame_in : (phase : Phase) (frames : List Frame) (roots : List ℕ) → (FramesFit phase [] roots → ⊥) → FramesFit phase frames roots → 0 < length frames
some_frame_in phase [] roots none fit = absurd (none fit)
some_frame_in phase (f ∷ fs) roots none fit = omega arith

-- ---- an element

pub record HasElement (c : MarkedProgram) (s : Thread) : Type 0 where
  pub some : 0 < length s.frames
  pub hold : FramesHold c (within c.program) s.frames

pub in_element : (c : MarkedProgram) (s : Thread) (word : ℕ) (stored : Option ℕ) → IsLawful c s → s.phase ≡ Element word stored → HasElement c s
in_element c s word stored l phase = record {
  some = some_frame_in (Element word stored) s.frames s.roots (λ h. h) (subst (λ (ph : Phase). FramesFit ph s.frames s.roots) phase l.rooted.frames);
  hold = (subst (λ (ph : Phase). PhaseHolds c (within c.program) ph s.frames) phase l.typed.values.phase).1;
}

-- ---- a new object

made_room : (c : MarkedProgram) (s : Thread) (a word : ℕ) → IsMarked c → IsLawful c s → s.phase ≡ Made a word → length (top s.frames).stack < max_stack c.program (top s.frames).method
made_room c s a word marked l phase =
    let some = some_frame_in (Made a word) s.frames s.roots (λ h. h) (subst (λ (ph : Phase). FramesFit ph s.frames s.roots) phase l.rooted.frames) in
    let awaits = made_stand c s.frames a word marked (subst (λ (ph : Phase). PhaseHolds c (within c.program) ph s.frames) phase l.typed.values.phase) some in
    rw (awaits.stands.are, awaits.stands.method) awaits.room

pub room_for_object : (c : MarkedProgram) (s : Thread) (a word : ℕ) → IsMarked c → IsLawful c s → c ≡ s.program → s.phase ≡ Made a word
    → length (top s.frames).stack < max_stack s.program.program (top s.frames).method
room_for_object c s a word marked l same phase = subst (λ (d : MarkedProgram). length (top s.frames).stack < max_stack d.program (top s.frames).method) same (made_room c s a word marked l phase)

-- ---- an exception

pub record HasThrown (c : MarkedProgram) (s : Thread) : Type 0 where
  pub some : 0 < length s.frames
  pub thrown : FramesThrown c (within c.program) s.frames
  pub found : IsSome (top_of c.program s.frames)

pub in_throw : (c : MarkedProgram) (s : Thread) (x : ℕ) (class : Thrown) → IsMarked c → IsLawful c s → s.phase ≡ Throw x class → HasThrown c s
in_throw c s x class marked l phase =
    let some = some_frame_in (Throw x class) s.frames s.roots (λ h. h) (subst (λ (ph : Phase). FramesFit ph s.frames s.roots) phase l.rooted.frames) in
    let thrown = (subst (λ (ph : Phase). PhaseHolds c (within c.program) ph s.frames) phase l.typed.values.phase).1 in
    record { some = some; thrown = thrown; found = rw (thrown_stand c s.frames marked thrown some).1.found refl }

pub thrown_at : (c : MarkedProgram) (frames : List Frame) (place : CurrentInsn) → IsMarked c → FramesThrown c (within c.program) frames → 0 < length frames
    → top_of c.program frames ≡ Some (at_place frames place) → IsTopAt c.program frames place
thrown_at c frames place marked thrown some found =
    let stands = thrown_stand c frames marked thrown some in
    subst (λ (at : Top). StandsAt c.program frames at) (same_some (sym stands.1.found ∙ found)) stands.1

pub handler_room : (c : MarkedProgram) (frames : List Frame) (place : CurrentInsn) (class : ℕ) → IsMarked c → FramesThrown c (within c.program) frames → top_of c.program frames ≡ Some (at_place frames place)
    → IsSome (handler_at class (at_place frames place)) → 0 < place.method.max_stack
handler_room c frames place class marked thrown found catches = by_row (handler_at class (at_place frames place)) refl catches
  where
    by_row : (o : Option Row) → handler_at class (at_place frames place) ≡ o → IsSome o → 0 < place.method.max_stack
    by_row None e some = absurd (cc)
    by_row (Some r) e some = (handlers_fit c frames (at_place frames place) class r marked thrown found e).room
