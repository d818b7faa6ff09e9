-- What the laws of objects begin with: a program with its frozen classes and owned fields, the world of unfinished objects,
-- and a thread that moves in it.
use Rattle.std.proofs.Common.{◌≡◌, ℕ, ◌<◌, ◌≤◌, Bool, List, Option, Some, arith, slice_index}
use Rattle.jvm_types.specs.{ProgramInvariant.words_of, declared.fixed_words.TheConstants.NEXT_FREE_WORD}
use Rattle.checked_program.specs.MarkedProgram.{MarkedProgram, IsMarked}
use Rattle.machine_types.specs.Construction.{Owning, AreFrozen, AreOwned, BuilderTurn, FrameKeeps, WaitKeeps, KeepBelow, FramesKeep, MadeKeeps, PhaseKeepsFrames, AttemptKeeps, AttemptKeepsIn, ThreadKeeps, Construction}
use Rattle.machine_types.specs.{Core.Core, OwnedPlaces.Stores, PlainMemory.Object, Structure.IsStructured, Threads.{Attempt, Frame, Thread}, Worlds.{Builder, World, IsFinished, IsWorld}, declared.{config.Config.Config, phase.Phase.Phase}}
use Rattle.laws_states.specs.StateFacts.{StateFacts}
use Rattle.laws_objects.proofs.{ArraySlots.StoresFine, WorldChanges.none_from}

-- a marked program, its frozen classes, and its owned fields with what was stored in them
pub record Design : Type 0 where
  pub c : MarkedProgram
  pub marked : IsMarked c
  pub frozen : ℕ → Bool
  pub are : AreFrozen c frozen
  pub owning : Owning
  pub owns : AreOwned c owning.owned

-- the world of its unfinished objects, the next free word, and a thread
pub record Building : Type 0 where
  pub design : Design
  pub open design use *
  pub w : World
  pub next : ℕ
  pub t : ℕ

abbrev pub in_world : Building → World → Building
in_world b z = record b { w = z }

-- more words are taken then
abbrev pub in_later : Building → World → (more : ℕ) → Building
in_later b z more = record b { w = z; next = more }

-- other arrays were stored then
abbrev pub with_stores : Building → Stores → Building
with_stores b stores = record b { design = record b.design { owning = record b.design.owning { stores = stores } } }

-- ---- what stands in it

module _ (building : Building) where
  open building use {c, frozen, owning, w, next, t}

  abbrev pub FrameIn : (height : ℕ) → BuilderTurn → Frame → Type 0
  FrameIn = FrameKeeps c frozen owning w next t

  abbrev pub WaitIn : (height callee receiver : ℕ) → Frame → Type 0
  WaitIn = WaitKeeps c frozen owning w next t

  abbrev pub BelowIn : Frame → List Frame → Type 0
  BelowIn = KeepBelow c frozen owning w next t

  abbrev pub FramesIn : BuilderTurn → List Frame → Type 0
  FramesIn = FramesKeep c frozen owning w next t

  abbrev pub MadeIn : (a height : ℕ) → List Frame → Type 0
  MadeIn = MadeKeeps c frozen owning w next t

  abbrev pub PhaseIn : Phase → List Frame → Type 0
  PhaseIn = PhaseKeepsFrames c frozen owning w next t

  abbrev pub AttemptIn : List Frame → Attempt → Type 0
  AttemptIn = AttemptKeeps c frozen owning w next t

  abbrev pub TriesIn : List Frame → Option Attempt → Type 0
  TriesIn = AttemptKeepsIn c frozen owning w next t

  abbrev pub ThreadIn : (was : Phase) → Thread → Type 0
  ThreadIn = ThreadKeeps c frozen owning w next t

-- ---- where its world is one, and what was stored is what was there

pub record LawfulBuilding : Type 0 where
  pub building : Building
  pub open building use *
  pub is_world : IsWorld w (words_of c.program) next
  pub fine : StoresFine owning.stores next

-- what is there from the start is finished
pub first_finished : (w : World) (first next v : ℕ) → IsWorld w first next → v < first → IsFinished w next v
first_finished w first next v is l = ((let r = is.room in omega (arith, r, l)), none_from (w v) (λ b e. (let i = (is.inside v b e).0 in omega (arith, i, l))))

module _ (lawful : LawfulBuilding) where
  open lawful use {c, w, next, is_world}

  pub null : IsFinished w next 0
  null = first_finished w (words_of c.program) next 0 is_world (omega arith)

  pub inside : (v : ℕ) (b : Builder) → w v ≡ Some b → v < next
  inside v b e = (is_world.inside v b e).1

-- ---- the thread, as an event finds it that takes words up to more

pub record Moving : Type 0 where
  pub lawful : LawfulBuilding
  pub open lawful use *
  pub more : ℕ
  pub was : Phase
  pub x : Thread
  pub k : ThreadKeeps c frozen owning w next t was x
  pub grows : next ≤ more
  pub stood : IsStructured c was x

-- the world as the thread sees it
abbrev pub sees : Moving → LawfulBuilding
sees moving = record { building = in_world moving.lawful.building moving.k.now; is_world = moving.k.now_world moving.is_world; fine = moving.lawful.fine }

-- ---- a state that is as construction says

pub record Constructed : Type 0 where
  pub c : MarkedProgram
  pub frozen : ℕ → Bool
  pub owning : Owning
  pub w : World
  pub was : ℕ → Phase
  pub objects : List Object
  pub s : Core
  pub con : Construction c frozen owning w was objects s

-- a reached one
pub record BuiltState : Type 0 where
  pub constructed : Constructed
  pub open constructed use *
  pub cfg : Config
  pub marked : IsMarked c
  pub facts : StateFacts c cfg objects was s

abbrev pub building_in : BuiltState → (t : ℕ) → Building
building_in state t = record {
  design = record { c = state.c; marked = state.marked; frozen = state.frozen; are = state.con.frozen_are; owning = state.owning; owns = state.con.owned_are };
  w = state.w;
  next = slice_index state.s.words NEXT_FREE_WORD;
  t = t;
}
