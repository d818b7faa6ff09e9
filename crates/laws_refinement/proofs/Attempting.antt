-- What the laws of attempts begin with: a thread of a reached state, its event, and the attempt that it is in.
use Rattle.std.proofs.Common.{◌≡◌, ℕ, Bool, List, Option, Some, subst, slice_get}
use Rattle.checked_program.specs.MarkedProgram.{MarkedProgram}
use Rattle.machine_types.specs.{Attempts.Stays, Construction.{Owning, PhaseKeepsFrames}, Core.Core, PlainMemory.Object, Structure.{AttemptStands, AttemptStandsIn, IsPhaseInside, Stands}, Threads.{Attempt, Thread}}
use Rattle.machine_types.specs.{Typed.{HasClass, PhaseHolds}, Worlds.World, declared.{config.Config.Config, phase.Phase.Phase}}
use Rattle.laws_threads.proofs.{Inside.inside_may, Steps.elements_inside}
use Rattle.laws_objects.proofs.Buildings.{BuiltState}
use Rattle.laws_refinement.{specs.ElidedSteps.{EventStands, next_free}, proofs.Inside.{Inside, is_inside}}

-- a thread of a reached state
pub record Mover : Type 0 where
  pub state : BuiltState
  pub open state use *
  pub t : ℕ
  pub x : Thread
  pub here : slice_get s.threads t ≡ Some x

-- its event, with what holds behind it
pub record Event : Type 0 where
  pub mover : Mover
  pub open mover use *
  pub own_after : Owning
  pub later : World
  pub turns : EventStands c cfg objects was frozen owning own_after w later s t x

abbrev pub event_at : (c : MarkedProgram) (cfg : Config) (objects : List Object) (was : ℕ → Phase) (frozen : ℕ → Bool) (own own_after : Owning) (w later : World) (s : Core) (t : ℕ) (x : Thread)
    → EventStands c cfg objects was frozen own own_after w later s t x → Event
event_at c cfg objects was frozen own own_after w later s t x turns = record {
  mover = record {
    state = record {
      constructed = record { c = c; frozen = frozen; owning = own; w = w; was = was; objects = objects; s = s; con = turns.built };
      cfg = cfg;
      marked = turns.marked;
      facts = turns.facts;
    };
    t = t;
    x = x;
    here = turns.thread;
  };
  own_after = own_after;
  later = later;
  turns = turns;
}

-- in an attempt
pub record Trying : Type 0 where
  pub mover : Mover
  pub open mover use *
  pub a : Attempt
  pub tries : x.attempt ≡ Some a

module _ (trying : Trying) where
  open trying use {c, frozen, owning, objects, was, w, s, con, facts, t, x, here, a, tries}

  -- the places that stay
  abbrev pub StaysNow : (n : ℕ) → Type 0
  StaysNow n = Stays c owning.stores objects w (next_free s) t a.monitor n

  -- what is known of it, by the phase that counts

  pub attempt_as : (phase : Phase) → was t ≡ phase → AttemptStands c phase x.frames x.held a
  attempt_as phase e = subst (λ (o : Option Attempt). AttemptStandsIn c phase x.frames x.held o) tries (subst (λ (q : Phase). AttemptStandsIn c q x.frames x.held x.attempt) e (facts.structure t x here).attempt)

  pub stands_as : (phase : Phase) → was t ≡ phase → Stands c phase x.frames x.held (Some a)
  stands_as phase e = subst (λ (o : Option Attempt). Stands c phase x.frames x.held o) tries (subst (λ (q : Phase). Stands c q x.frames x.held x.attempt) e (facts.structure t x here).stands)

  pub inside_as : (phase : Phase) → was t ≡ phase → IsPhaseInside a.monitor phase
  inside_as phase e = (attempt_as phase e).inside

  pub frames_as : (phase : Phase) → was t ≡ phase → PhaseKeepsFrames c frozen owning (con.each t x here).now (next_free s) t phase x.frames
  frames_as phase e = subst (λ (q : Phase). PhaseKeepsFrames c frozen owning (con.each t x here).now (next_free s) t q x.frames) e (con.each t x here).frames

  -- and by its phase
  pub holds_as : (phase : Phase) → x.phase ≡ phase → PhaseHolds c (HasClass objects) phase x.frames
  holds_as phase e = subst (λ (q : Phase). PhaseHolds c (HasClass objects) q x.frames) e (facts.heap.typed.threads t x here).phase

  pub inside_of : Inside c x a
  inside_of = is_inside inside_may elements_inside c trying.marked x a tries (was t) (facts.structure t x here)
