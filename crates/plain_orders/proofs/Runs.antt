-- Every run of the running machine is covered.
use Rattle.std.proofs.Common.{◌≡◌, List, [], ◌∷◌, Option, Some, None, refl, sym, ap, ◌∙◌, option_and_then, ◌++◌}
use Rattle.std.specs.Prelude.{Contains}
use Rattle.jvm_types.specs.declared.program.Program.{Program}
use Rattle.checked_program.specs.MarkedProgram.{MarkedProgram}
use Rattle.machine_types.specs.PlainState.{Plain, plain_start}
use Rattle.machine_types.specs.PlainSteps.{plain_step, plain_run}
use Rattle.machine_types.specs.declared.plain.PlainStep.{PlainStep}
use Rattle.laws_refinement.specs.FaithfulRuns.{RunsAreFaithful}
use Rattle.machine_types.specs.History.{shadow}
use Rattle.plain_orders.specs.CoveredRuns.{RunsAreCovered, AreAllStates}
use Rattle.plain_orders.specs.LocalSteps.{is_local}
use Rattle.plain_orders.specs.Orders.{all_steps, HasNoStep}
use Rattle.plain_orders.proofs.Covered.{each_run_is_seen, each_rest_is_seen}
use Rattle.plain_orders.proofs.Swaps.{are_local}

pub same_run : (p : Program) (q : Plain) (steps : List PlainStep) → all_steps (plain_step p) q steps ≡ plain_run p q steps
same_run p q [] = refl
same_run p q (step ∷ steps) = by_step (plain_step p q step) (λ r. same_run p r steps)
  where
    by_step : (o : Option Plain) → ((r : Plain) → all_steps (plain_step p) r steps ≡ plain_run p r steps)
        → option_and_then (λ r. all_steps (plain_step p) r steps) o ≡ option_and_then (λ r. plain_run p r steps) o
    by_step None f = refl
    by_step (Some r) f = f r

pub runs_are_covered : RunsAreFaithful → RunsAreCovered
runs_are_covered faithful c cfg hs seen marked width settings covers =
    let r = (faithful c cfg hs marked width settings).plain hs [] (sym (empty hs)) in
    let run : all_steps (plain_step c.program) (plain_start c.program) (shadow c cfg hs) ≡ Some r.state =
    same_run c.program (plain_start c.program) (shadow c cfg hs) ∙ r.run in (
      r,
      record {
        later = each_run_is_seen (λ (a : PlainStep). a.thread) (plain_step c.program) (is_local c.program) (are_local c.program)
            (plain_start c.program) (Contains seen) covers r.state (shadow c cfg hs) run;
        rests = λ rest. each_rest_is_seen (λ (a : PlainStep). a.thread) (plain_step c.program) (is_local c.program) (are_local c.program)
            (plain_start c.program) (Contains seen) covers r.state (shadow c cfg hs) run rest;
      },
    )
  where
    empty : {A : Type 0} (xs : List A) → xs ++ [] ≡ xs
    empty [] = refl
    empty (x ∷ xs) = ap (λ l. x ∷ l) (empty xs)

pub state_is_seen : (c : MarkedProgram) (seen : List Plain) → AreAllStates c seen → (steps : List PlainStep) (q : Plain)
    → all_steps (plain_step c.program) (plain_start c.program) steps ≡ Some q → HasNoStep (plain_step c.program) q → Contains seen q
state_is_seen c seen covers steps q run rest =
    each_rest_is_seen (λ (a : PlainStep). a.thread) (plain_step c.program) (is_local c.program) (are_local c.program)
    (plain_start c.program) (Contains seen) covers q steps run rest
