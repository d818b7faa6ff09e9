use Rattle.std.proofs.Common.{◌≡◌, ◌++◌, List, length}
use Rattle.std.specs.List.{AllByRecursion}
use Rattle.plain_search.specs.declared.row.Row.{Row}
use Rattle.plain_search.specs.Rows.{AreStatesIn, IsLonger, IsSearchRow}
use Rattle.plain_search.proofs.rows.add_all.Given as goal

abbrev pub invariant-loop-row : goal.invariant-loop-row
invariant-loop-row l = record {
  there : (moved : List Row) × (l.fn.more.items ≡ l.left.items ++ moved) × AreStatesIn l.rows.items moved;
  own : AllByRecursion (IsSearchRow l.p) l.left.items;
  longer : IsLonger (IsSearchRow l.p) l.fn.rows.items l.rows.items;
}

abbrev pub decreases-loop-row : goal.decreases-loop-row
decreases-loop-row l = length l.left.items
