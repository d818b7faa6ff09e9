-- What an event of a thread in no attempt begins with: a reached state, the plain state that it stands
-- beside, and the thread.
use Rattle.std.proofs.Common.{◌≡◌, ℕ, List, Some, None, slice_get}
use Rattle.checked_program.specs.MarkedProgram.{MarkedProgram, IsMarked}
use Rattle.machine_types.specs.{Core.Core, PlainMemory.Object, PlainState.Plain, Threads.Thread, declared.{config.Config.Config, phase.Phase.Phase}}
use Rattle.laws_states.specs.StateFacts.{StateFacts}
use Rattle.laws_simulation.specs.{StandsBeside.StandsBeside, StepsBeside.{StepsBeside, StepsWhere}}

-- a reached state, and the plain one
pub record States : Type 0 where
  pub c : MarkedProgram
  pub cfg : Config
  pub objects : List Object
  pub was : ℕ → Phase
  pub s : Core
  pub q : Plain
  pub marked : IsMarked c
  pub facts : StateFacts c cfg objects was s
  pub beside : StandsBeside c.program objects s q

-- with thread t, which is x
pub record Member : Type 0 where
  pub states : States
  pub open states use *
  pub t : ℕ
  pub x : Thread
  pub here : slice_get s.threads t ≡ Some x

-- in no attempt
pub record Turn : Type 0 where
  pub member : Member
  pub open member use *
  pub outside : x.attempt ≡ None

abbrev pub StepsOf : Turn → Type 0
StepsOf turn = StepsBeside turn.c turn.objects turn.s turn.t turn.x turn.q

-- a law of events is one of turns
pub by_turn : (Holds : MarkedProgram → Thread → Type 0)
    → ((turn : Turn) → Holds turn.c turn.x → StepsOf turn) → StepsWhere Holds
by_turn Holds steps c cfg objects was s t x q marked width facts beside here outside holds = steps (record {
  member = record { states = record { c = c; cfg = cfg; objects = objects; was = was; s = s; q = q; marked = marked; facts = facts; beside = beside }; t = t; x = x; here = here };
  outside = outside;
}) holds
