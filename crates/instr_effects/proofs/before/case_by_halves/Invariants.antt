use Rattle.std.proofs.Common.{◌≡◌, length}
use Rattle.machine_types.specs.Effects.{case_target}
use Rattle.instr_effects.specs.SwitchKeys.{AreKeys}
use Rattle.instr_effects.proofs.before.case_by_halves.Given as goal

abbrev pub invariant-loop-rest : goal.invariant-loop-rest
invariant-loop-rest l = AreKeys l.rest × (case_target l.otherwise l.rest l.n ≡ case_target l.otherwise l.cases l.n)

abbrev pub decreases-loop-rest : goal.decreases-loop-rest
decreases-loop-rest l = length l.rest
