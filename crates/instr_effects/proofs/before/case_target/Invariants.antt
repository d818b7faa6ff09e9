use Rattle.std.proofs.Common.{◌≡◌, drop}
use Rattle.machine_types.specs.Effects.{case_target}
use Rattle.instr_effects.proofs.before.case_target.Given as goal

abbrev pub invariant-loop-pair : goal.invariant-loop-pair
invariant-loop-pair l = case_target l.otherwise (drop l.pair-index l.cases) l.n ≡ case_target l.otherwise l.cases l.n
