use Rattle.std.proofs.Common.{◌≡◌, ◌∷◌, ◌++◌, map, drop}
use Rattle.code_table.proofs.ways.lookup_ways.Given as goal

abbrev pub invariant-loop-case : goal.invariant-loop-case
invariant-loop-case l = l.ways.items ++ map (λ c. c.target) (drop l.case-index l.cases) ≡ l.otherwise ∷ map (λ c. c.target) l.cases
