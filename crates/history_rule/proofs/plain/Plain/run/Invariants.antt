use Rattle.std.proofs.Common.{◌≡◌, take, drop}
use Rattle.machine_types.specs.PlainSteps.{plain_run}
use Rattle.history_rule.specs.Steps.{IsPlayedOn}
use Rattle.history_rule.proofs.plain.Plain.run.Given as goal

abbrev pub invariant-loop-step : goal.invariant-loop-step
invariant-loop-step l = record {
  behind : IsPlayedOn l.fn.self (take l.step-index l.steps) l.step-index l.self;
  left : plain_run l.p.program l.self.state (drop l.step-index l.steps) ≡ plain_run l.p.program l.fn.self.state l.steps;
}
