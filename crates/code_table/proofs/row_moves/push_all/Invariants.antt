use Rattle.std.proofs.Common.{◌≡◌, ◌++◌, map, drop}
use Rattle.jvm_types.specs.CodeTable.{value_of}
use Rattle.code_table.proofs.row_moves.push_all.Given as goal

abbrev pub invariant-loop-i : goal.invariant-loop-i
invariant-loop-i g l = l.pushed ≡ map (λ left. value_of (g.M.Making.none l.making) (g.M.Making.made l.making) l.stack l.locals left) (drop l.i l.gives) ++ l.fn.pushed
