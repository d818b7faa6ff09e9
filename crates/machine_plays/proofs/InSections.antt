-- The facts on one thread, for threads that are written out: inside a block that a synchronized method calls, with the lock and
-- in an attempt.
use Rattle.std.{proofs.Common.{◌≡◌, ◌+◌, Bool, true, false, List, [], ◌∷◌, Option, Some, None, refl, inl, inr, arith, map, ◌==◌, if◌then◌else◌}, specs.{Option.option_map, Prelude.unwrap_or}}
use Rattle.jvm_types.specs.{ClassTree.is_subclass, Types.TypeFrame, declared.typing.{Typing.Typing, VType.TheVariants.{Ref, Top}}}
use Rattle.checked_program.specs.{LockTags.TagShape, MarkedProgram.MarkedProgram, Marks.HasMark, OwnedArrays.AreUses, SectionLaws.Part, declared.section.{Mode.TheVariants.OnThis, Uses.Uses}}
use Rattle.checked_program.{specs.declared.tag.Tags.Tags, proofs.TriedPrograms.{many, tags_of}}
use Rattle.machine_types.specs.{Standing.{Standing, tags_of as tags_of_all}, Structure.{Stands, AttemptStands, section_of}, Threads.{Frame, Attempt}, Typed.{Classes, IsNullOr, FramesHold}}
use Rattle.machine_types.specs.declared.lock.Held.{Held}
use Rattle.machine_plays.proofs.Standings.{standing}
use Rattle.machine_types.specs.declared.lock.Kept.TheVariants as keeps
use Rattle.machine_types.specs.declared.phase.Phase.TheVariants as phases

-- ---- the program with its tags and, where they are needed, its types

abbrev pub tags_by : List (Option TagShape) → Tags
tags_by frames = record { frames = frames }

abbrev untyped : Typing
untyped = record { frames = [] }

abbrev types : TypeFrame → Option TypeFrame
types f = Some f

abbrev in_sum : TypeFrame
in_sum = record { stack = []; locals = Ref 17 ∷ Ref 17 ∷ Top ∷ []; ready = true }

abbrev at_call : TypeFrame
at_call = record { stack = Ref 17 ∷ []; locals = Ref 17 ∷ []; ready = true }

abbrev at_entry : TypeFrame
at_entry = record { stack = []; locals = Ref 17 ∷ []; ready = true }

abbrev typings : List Typing
typings = untyped ∷ untyped ∷ record { frames = None ∷ None ∷ None ∷ None ∷ Some in_sum ∷ [] } ∷ untyped ∷ untyped ∷ untyped ∷ untyped ∷ untyped ∷ untyped ∷ untyped ∷ untyped ∷ untyped
    ∷ record { frames = Some at_entry ∷ Some at_call ∷ [] } ∷ untyped ∷ []

abbrev pub marked : MarkedProgram
marked = record { program = many; typings = typings; tags = map tags_by (tags_of many); marks = [] }

abbrev held_twice : Held
held_twice = record { monitor = 3000; kept = keeps.Flat 0; depth = 2 }

-- ---- the frames of `sum` in its block, and of `twice` that calls it

abbrev pub sum_frame : Frame
sum_frame = record { method = 2; pc = 4; receiver = 3000; locals = 3000 ∷ 3000 ∷ 0 ∷ []; stack = [] }

abbrev pub twice_frame : Frame
twice_frame = record { method = 12; pc = 1; receiver = 3000; locals = 3000 ∷ []; stack = [] }

abbrev entry_frame : Frame
entry_frame = record { method = 12; pc = 0; receiver = 3000; locals = 3000 ∷ []; stack = [] }

abbrev sum_stands : Standing marked sum_frame
sum_stands = standing marked sum_frame 4 refl refl refl refl refl refl refl refl

abbrev twice_stands : Standing marked twice_frame
twice_stands = standing marked twice_frame 1 refl refl refl refl refl refl refl refl

abbrev entry_stands : Standing marked entry_frame
entry_stands = standing marked entry_frame 0 refl refl refl refl refl refl refl refl

-- ---- with the lock: `twice` holds its monitor, and `sum` has entered it once more

twice_entries : (b : Bool) → (if b then 1 else 0) + ((if b then 1 else 0) + 0) + 0 ≡ unwrap_or (option_map (λ h. h.depth) (if b then Some held_twice else None)) 0 + 0 + 0
twice_entries true = refl
twice_entries false = refl

abbrev stands_locked : Stands marked phases.Run (sum_frame ∷ twice_frame ∷ []) (held_twice ∷ []) None
stands_locked = record {
  shown = 3000 ∷ 3000 ∷ [];
  show = (
    3000 ∷ [],
    3000 ∷ [],
    refl,
    record { stands = sum_stands; made = record { stack = tt; locals = (tt, (tt, (tt, tt))); held = (tt, tt) }; choice = λ pc. 0; locals = (refl, (refl, (tt, tt))); stack = tt; shown_are = refl },
    (3000 ∷ [], [], refl, record { count = 1; shows = record { stands = twice_stands; made = record { stack = (tt, tt); locals = (tt, tt); held = tt }; choice = λ pc. 0; locals = (refl, tt); stack = tt; shown_are = refl }; calls = refl; taken = refl }, refl),
  );
  depths = λ m. twice_entries (3000 == m);
  once = (refl, omega arith, tt);
  phase_shows = tt;
}

-- ---- in an attempt of `twice`, with its entry, and the one of `sum` inside

abbrev pub attempt : Attempt
attempt = record { monitor = 3000; noted = 0; base = 0; number = 1; inner = 1; entry = entry_frame }

tried_entries : (b : Bool) → (if b then 1 else 0) + ((if b then 1 else 0) + 0) + 0 ≡ 0 + (if b then 2 else 0) + 0
tried_entries true = refl
tried_entries false = refl

stands_trying : Stands marked phases.Run (sum_frame ∷ twice_frame ∷ []) [] (Some attempt)
stands_trying = record { shown = stands_locked.shown; show = stands_locked.show; depths = λ m. tried_entries (3000 == m); once = tt; phase_shows = tt }

one_entry : (b : Bool) → (if b then 1 else 0) + 0 + 0 ≡ 0 + 0 + (if b then 1 else 0)
one_entry true = refl
one_entry false = refl

stands_again : Stands marked (phases.Enter 3000 1) (entry_frame ∷ []) [] None
stands_again = record {
  shown = 3000 ∷ [];
  show = (3000 ∷ [], [], refl, record { stands = entry_stands; made = record { stack = tt; locals = (tt, tt); held = tt }; choice = λ pc. 0; locals = (refl, tt); stack = tt; shown_are = refl }, refl);
  depths = λ m. one_entry (3000 == m);
  once = tt;
  phase_shows = record { outer = []; innermost = refl; enters = (entry_stands, inl (refl, refl, refl)) };
}

-- with the mark of `twice`, which is computed where marks are
attempt_stands : (uses : Uses) → AreUses marked.program (tags_of_all marked) uses → HasMark marked.program (tags_of_all marked) uses (section_of attempt) 0 → AttemptStands marked phases.Run (sum_frame ∷ twice_frame ∷ []) [] attempt
attempt_stands uses are is = record {
  inside = tt;
  not_held = refl;
  based = omega arith;
  goes_back = stands_again;
  monitor = refl;
  uses = uses;
  are_uses = are;
  marked = is;
  frames = inr (
    sum_part ∷ twice_part ∷ [],
    OnThis,
    ((sum_stands, refl), ((twice_stands, refl), tt)),
    (
      OnThis,
      record { method = refl; receiver = refl; own = record { m = _; insn = _; target = _; f = _; at = twice_stands.at }; mode_is = refl },
      record { m = _; insn = _; target = _; f = _; at = twice_stands.at; called = refl; mode_is = refl },
      λ e. refl,
    ),
  );
}
  where
    sum_part : Part
    sum_part = record { method = 2; at = 4; receiver = 3000 }

    twice_part : Part
    twice_part = record { method = 12; at = 1; receiver = 3000 }

-- ---- types, where the object is of the class

abbrev one_object : Classes
one_object class v = (class ≡ 17) × (v ≡ 3000)

is_the_object : IsNullOr one_object 17 3000
unfolding is_subclass
is_the_object = inr (17, (refl, refl), refl)

frames_hold : FramesHold marked one_object (sum_frame ∷ twice_frame ∷ [])
frames_hold = (
  record { stands = sum_stands; stack = tt; locals = (is_the_object, (is_the_object, (tt, tt))); receiver = λ e. (refl, refl) },
  (record { count = 1; holds = record { stands = twice_stands; stack = tt; locals = (is_the_object, tt); receiver = λ e. (refl, refl) }; calls = refl; taken = refl }, tt),
)
