-- What is seen of a thread before its event, and behind it.
use Rattle.std.specs.Prelude.{ℕ, List, [], ◌∷◌, Option, Some, None, slice_get}
use Rattle.std.specs.Option.{option_map}
use Rattle.jvm_types.specs.declared.program.Program.{Program}
use Rattle.machine_types.specs.declared.access.Access.{Access}
use Rattle.machine_types.specs.declared.phase.Phase.{Phase}
use Rattle.machine_types.specs.declared.phase.Phase.TheVariants as phases
use Rattle.machine_types.specs.declared.effect.Effect.{Effect}
use Rattle.machine_types.specs.Frames.{top_of}
use Rattle.machine_types.specs.Threads.{Frame, Thread, head_of}
use Rattle.event_texts.specs.Doings.{doing_at}
use Rattle.event_texts.specs.SharedWords.{shared_word_of}
use Rattle.event_texts.specs.declared.doing.Doing.{Doing}
use Rattle.event_texts.specs.declared.sights.Spot.{Spot}
use Rattle.event_texts.specs.declared.sights.Before.{Before}
use Rattle.event_texts.specs.declared.sights.After.{After}

abbrev pub spot_of : List Frame → Option Spot
spot_of [] = None
spot_of (f ∷ below) = Some (record { method = f.method; pc = f.pc })

-- where an event is told, by where the frame stands and where the thread made its last instruction:
-- an instruction, and an exception that comes out of one, where the frame stands; the begin of a
-- method of the part nowhere; and any other event at the instruction to which it belongs
abbrev pub own_spot : Phase → (top last : Option Spot) → Option Spot
own_spot phases.Start top last = None
own_spot phases.Run top last = top
own_spot (phases.Throw x class) top last = top
own_spot phase top last = last

-- the value on top of the stack of the top frame
abbrev pub value_at_top : List Frame → Option ℕ
value_at_top [] = None
value_at_top (f ∷ below) = slice_get f.stack 0

-- what its instruction does, where the event is one
abbrev pub effect_of : Phase → Option Doing → Option Effect
effect_of phases.Run doing = option_map (λ d. d.effect) doing
effect_of phase doing = None

abbrev pub next_doing_of : Program → Thread → Option Doing
next_doing_of p s = option_map (doing_at p) (top_of p s.frames)

abbrev pub before_of : Program → Thread → (last : Option Spot) → Option Access → (found : ℕ)
    → Before
before_of p s last access found = record {
  thread = s.number;
  attempt = option_map head_of s.attempt;
  spot = own_spot s.phase (spot_of s.frames) last;
  frame_spot = spot_of s.frames;
  phase = s.phase;
  access = access;
  effect = effect_of s.phase (next_doing_of p s);
  word = shared_word_of s (next_doing_of p s) s.phase;
  found = found;
  counts = s.counts;
}

abbrev pub after_event : Thread → (left : ℕ) → After
after_event s left = record {
  attempt = option_map head_of s.attempt;
  spot = spot_of s.frames;
  top = value_at_top s.frames;
  phase = s.phase;
  counts = s.counts;
  left = left;
}
