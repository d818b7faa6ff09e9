-- Along the list of events that an order stands for what holds of its stage is kept, up to the end of the run.
use Rattle.std.proofs.Common.{◌≡◌, ℕ, suc, false, List, [], ◌∷◌, Option, Some, None, refl, sym, ap, subst, slice_get}
use Rattle.checked_program.specs.MarkedProgram.{MarkedProgram}
use Rattle.machine_types.specs.{Core.{Core, Happening, all_happened, core, happened, is_live_thread, start}, Faithful.IsOver, Schedules.{IsSchedule, Stage, First}, Threads.Thread}
use Rattle.machine_types.{specs.declared.config.Config.Config, proofs.AtStart.is_start_thread}
use Rattle.laws_threads.specs.GivenThread.{GivenIsKept}
use Rattle.laws_refinement.{specs.ScheduleOver.SchedulesEndOver, proofs.{StageFits.{IsAlone, StageFits, TurnFits}, TurnsKeep.turn_fits}}

-- ---- the start

module _ (c : MarkedProgram) (cfg : Config) where
  is_idle : (u : ℕ) (o : Option Thread) → slice_get (start c cfg).threads (suc u) ≡ o → is_live_thread o ≡ false
  is_idle u None e = refl
  is_idle u (Some x) e = ap (λ (y : Thread). is_live_thread (Some y)) (sym (is_start_thread c cfg (suc u) x e))

  start_fits : IsAlone (λ n. n ≡ 0) (start c cfg)
  start_fits = record { part = λ x e. ap (λ (y : Thread). y.part) (sym (is_start_thread c cfg 0 x e)); workers = λ u. is_idle u (slice_get (start c cfg).threads (suc u)) refl }

-- ---- the list

ends_over : GivenIsKept → (c : MarkedProgram) (stage : Stage) (s : Core) (hs : List Happening) → StageFits stage s → IsSchedule c stage s hs → IsOver (all_happened c s hs)
ends_over given c stage s [] h none = subst (TurnFits c s) none (turn_fits given c s stage h)
ends_over given c stage s (k ∷ hs) h turns = ends_over given c turns.0 (happened c s k) hs (subst (TurnFits c s) turns.1 (turn_fits given c s stage h)) turns.2

pub schedules_end_over : GivenIsKept → SchedulesEndOver
unfolding core
schedules_end_over given c cfg order hs turns = ends_over given c (First order) (start c cfg) hs (start_fits c cfg) turns
