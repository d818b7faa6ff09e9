use Rattle.std.proofs.Common.{List, drop, ◌++◌}
use Rattle.handler_rows.specs.{Hulls.AreHulls, declared.hull.Hull.Hull}
use Rattle.handler_rows.proofs.hull.hulls_of.Given as goal

abbrev pub invariant-loop-k : goal.invariant-loop-k
invariant-loop-k l = (later : List Hull) → AreHulls (drop l.k l.rows) later → AreHulls l.rows (l.hulls.items ++ later)
