-- From most phases a thread comes to one in which nothing is asked of waiting bits.
use Rattle.std.proofs.Common.{ℕ, Option, Some, option_map, slice_get}
use Rattle.jvm_types.specs.declared.{program.Program.Program}
use Rattle.checked_program.specs.MarkedProgram.{MarkedProgram}
use Rattle.machine_types.specs.{Elision.elided, Events.moved, Frames.went_on, Going.{runs, goes_on_if}, HeldMonitors.{with_held, without_held, shallower}, Instructions.printed}
use Rattle.machine_types.specs.{Onward.{Onward, Running, rooted, after}, Threads.Thread, declared.{lock.Kept.Kept, phase.Phase.Phase}}
use Rattle.laws_threads.specs.StructureLaws.{counted_by}
use Rattle.laws_threads.proofs.ThreadMove.{LeadsTo, TurnsTo, Asks, WaitsFrom, Move, becomes, by_move, of_mover, runs_to, turns_to, IsOnward, onward_if_to}
use Rattle.laws_states.proofs.CountedPhases.{turned_keeps, counted_either}
use Rattle.machine_types.specs.declared.phase.Phase.TheVariants as phases
use Rattle.machine_types.specs.declared.phase.Toward.TheVariants as towards
use Rattle.laws_threads.proofs.ThreadMove as moves

-- nothing is asked of waiting bits
abbrev pub IsCalm : Phase → Type 0
IsCalm (phases.WaitOut m r) = ⊥
IsCalm (phases.NotifyOne m r u) = ⊥
IsCalm phase = Unit {0}

pub counted_calm : (was now : Phase) → IsCalm was → IsCalm now → IsCalm (counted_by was now)
counted_calm was now old k = counted_either IsCalm tt was now old (turned_keeps IsCalm (λ m. tt) was old) k

-- ---- all moves but those that set a bit, or look for one to clear

abbrev pub GoesCalm : Phase → Type 0
GoesCalm (phases.WaitBit m r) = ⊥
GoesCalm (phases.WaitOut m r) = ⊥
GoesCalm (phases.NotifyLook m r) = ⊥
GoesCalm phase = Unit {0}

onward_calm : (phase : Phase) → IsOnward phase → IsCalm phase
onward_calm (phases.WaitOut m r) n = n
onward_calm phase n = assumption

-- also where something was asked of them before
pub runs_counted : (was : Phase) (s : Thread) → IsCalm (counted_by was (runs s).phase)
runs_counted was s = runs_to (λ (phase : Phase). IsCalm (counted_by was phase)) s tt tt

goes_calm : (s : Thread) (o : Option Onward) → IsCalm s.phase → IsCalm (goes_on_if s o).phase
goes_calm = onward_if_to IsCalm onward_calm

leads_calm : (p : Program) (s : Thread) (got : ℕ) (was now : Phase) → LeadsTo p s got was now → GoesCalm was → IsCalm now
leads_calm p s got _ _ (moves.to_wait_out m r) n = n
leads_calm p s got was now k n = assumption

turns_calm : (s : Thread) (got : ℕ) (was now : Phase) → TurnsTo s got was now → IsCalm now
turns_calm s got was _ (moves.looks_again m k) = tt
turns_calm s got was now k = tt

-- where a wait and a notification begin
pub waits_in : (P : Phase → Type 0) (m : ℕ) (kept : Kept) (now : Phase) → WaitsFrom m kept now → P (phases.Grow m towards.Wait) → ((r : ℕ) → P (phases.WaitBit m r)) → P now
waits_in P m _ _ (moves.grows_first count) h k = h
waits_in P m _ _ (moves.waits_fat r) h k = k r

pub asks_in : (P : Phase → Type 0) (m : ℕ) (kept : Kept) (now : Phase) → Asks m kept now → ((r : ℕ) → P (phases.NotifyLook m r)) → ((r : ℕ) → P (phases.NotifyAll m r)) → P now
asks_in P m _ _ (moves.looks_who r) h k = h r
asks_in P m _ _ (moves.clears_all r) h k = k r

calm_moved : (c : MarkedProgram) (s : Thread) (got : ℕ) (was : Phase) (k : Move c s got was) → GoesCalm was → IsCalm s.phase → IsCalm (becomes c s got was k).phase
calm_moved c s got was (moves.stays k) n h = h
calm_moved c s got was (moves.goes o k) n h = goes_calm s (Some o) h
calm_moved c s got was (moves.leads now k) n h = leads_calm c.program s got was now k n
calm_moved c s got was (moves.turns now k) n h = turns_to IsCalm s now (turns_calm s got was now k) tt
calm_moved c s got _ (moves.prints at i e l t) n h = goes_calm (printed s got i) (Some (Running (went_on c.program at 0))) h
calm_moved c s got _ (moves.asks_to_wait at m e now f l t k) n h = waits_in IsCalm m e.kept now k tt (λ r. tt)
calm_moved c s got _ (moves.asks at m e now f y l k) n h = asks_in IsCalm m e.kept now k (λ r. tt) (λ r. tt)
calm_moved c s got _ (moves.enters_again m tried e l) n h = runs_to IsCalm s tt tt
calm_moved c s got _ (moves.enters_inside m tried t k) n h = runs_to IsCalm s tt tt
calm_moved c s got _ (moves.begins_to_try m tried noted f below e y l t free) n h = runs_to IsCalm s tt tt
calm_moved c s got was (moves.takes_lock m kept k) n h = runs_to IsCalm s tt tt
calm_moved c s got was (moves.gives_up m a k) n h = goes_calm (record s { held = without_held m s.held }) (after c.program s.frames a) h
calm_moved c s got _ (moves.leaves_outer m a e l t) n h = goes_calm (record s { held = with_held (shallower e) s.held }) (after c.program s.frames a) h
calm_moved c s got _ (moves.leaves_inside m a t inner k e) n h = goes_calm (record s { attempt = Some (record t { inner = inner }) }) (after c.program s.frames a) h
calm_moved c s got _ (moves.finishes_try m a t k e y) n h = goes_calm (elided s) (after c.program s.frames a) h
calm_moved c s got _ (moves.fattens_lock m r (towards.Leave a) e l) n h = tt
calm_moved c s got _ (moves.retakes_lock m r depth e) n h = runs_to IsCalm s tt tt
calm_moved c s got _ (moves.starts number roots e) n h = goes_calm (record s { roots = roots }) (option_map (rooted c.program s.number number) (slice_get c.program.methods number)) h
calm_moved c s got _ k n h = tt

pub moved_calm : (c : MarkedProgram) (s : Thread) (phase : Phase) (got : ℕ) → GoesCalm phase → IsCalm s.phase → IsCalm (moved c s phase got).phase
moved_calm c s phase got n h = by_move (λ (y : Thread). IsCalm y.phase) c s phase got (λ k. calm_moved c _ got phase k n (of_mover (λ (y : Thread). IsCalm y.phase) c.program phase s h h))
