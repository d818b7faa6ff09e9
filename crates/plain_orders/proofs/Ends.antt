-- The prints and ends of a run that is over, and of which no limit ended a part, are those of a state of the list.
use Rattle.std.proofs.Common.{◌≡◌, Some, ◌∙◌}
use Rattle.machine_types.specs.Core.{core}
use Rattle.machine_types.specs.History.{shadow}
use Rattle.machine_types.specs.PlainState.{plain_start}
use Rattle.machine_types.specs.PlainSteps.{plain_step}
use Rattle.laws_refinement.specs.FaithfulRuns.{RunsAreFaithful}
use Rattle.laws_refinement.specs.RunsStand.{RunsStand}
use Rattle.plain_orders.specs.EndedRuns.{EndsAreCovered}
use Rattle.plain_orders.specs.Orders.{all_steps, HasNoStep}
use Rattle.plain_orders.proofs.{EndedAlone.alone_by_report, AtRest.over_runs_rest, Runs.{same_run, state_is_seen}}

pub ends_are_covered : RunsAreFaithful → RunsStand → EndsAreCovered
ends_are_covered faithful stands c cfg hs seen marked width settings covers over limit =
    let st = stands c cfg hs marked width settings in
    let alone = alone_by_report c.program (core c cfg hs) st.facts.parts limit in
    let rest : HasNoStep (plain_step c.program) st.state = over_runs_rest c cfg st.objects st.was _ st.state st.facts st.beside over alone in
    let run : all_steps (plain_step c.program) (plain_start c.program) (shadow c cfg hs) ≡ Some st.state =
    same_run c.program (plain_start c.program) (shadow c cfg hs) ∙ st.run in (
      st.state,
      state_is_seen c seen covers (shadow c cfg hs) st.state run rest,
      rest,
      st.prints,
      (faithful c cfg hs marked width settings).ends (record { state = st.state; run = st.run; agrees = st.beside.agrees; prints = st.prints }) over,
    )
