-- An event inside an attempt wants a load or no word at all, or rests where a limit has ended its thread.
use Rattle.std.proofs.Common.{ℕ, zero, suc, Bool, true, false, cond, Option, Some, None, refl, sym, subst}
use Rattle.checked_program.specs.MarkedProgram.{MarkedProgram}
use Rattle.machine_types.specs.{Elision.{looks, is_checked}, Events.{element_wants, wanted}, Frames.{Top, effect_at}, Instructions.{effect_wants, run_wants}, Monitors.{Claim, enter_wants, leave_wants, finish_wants}}
use Rattle.machine_types.specs.{Threads.{Attempt, Thread}, declared.{access.Access.Access, effect.Effect.{Effect, TheVariants.{Goes, Prints, Calls}}, phase.Phase.Phase}}
use Rattle.laws_threads.specs.InsideEffects.{MayDo}
use Rattle.laws_refinement.{specs.Entries.{IsLook, OnlyLooks}, proofs.Inside.KnownInside}
use Rattle.machine_types.specs.declared.phase.Phase.TheVariants as phases

attempt_look : (o : Option Attempt) → IsLook (looks o)
attempt_look None = tt
attempt_look (Some a) = tt

module _ (c : MarkedProgram) (x : Thread) (a : Attempt) where
  effect_look : (pc : ℕ) (at : Top) (e : Effect) → MayDo c a.monitor at e → IsLook (effect_wants x pc e)
  effect_look pc at (Goes to made) may = (elim (is_checked pc (Goes to made)) as (λ (b : Bool). (access : Option Access) → IsLook access → IsLook (cond b access None))
      [ true ↦ λ access k. k | false ↦ λ access k. tt ]) (looks x.attempt) (attempt_look x.attempt)
  effect_look pc at (Calls number) may = attempt_look x.attempt
  effect_look pc at (Prints n) may = absurd may
  effect_look pc at e may = assumption

  pub only_looks : (phase : Phase) → KnownInside c x a phase → OnlyLooks phase (wanted c x phase)
  only_looks phases.Run k = subst (λ (o : Option Top). IsLook (run_wants c.program x o)) (sym k.found) (effect_look k.at.frame.pc k.at (effect_at c.program k.at) k.may)
  only_looks (phases.Element word stored) k = subst (λ (o : Option ℕ). IsLook (Some (element_wants word o))) (sym k.read) tt
  only_looks (phases.Throw r class) k = attempt_look x.attempt
  only_looks (phases.Enter n tried) k = subst (λ (claim : Claim). IsLook (enter_wants n claim)) (sym k) tt
  only_looks (phases.Leave n b) k = subst (λ (claim : Claim). IsLook (leave_wants x n claim)) (sym k) (elim a.inner as (λ (inner : ℕ). IsLook (finish_wants n inner)) [ zero ↦ tt | suc inner ↦ tt ])
  only_looks (phases.Ending e) k = (refl, k)
  only_looks (phases.Ended e) k = tt
  only_looks phase k = absurd k
