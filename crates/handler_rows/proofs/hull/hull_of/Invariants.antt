use Rattle.std.{proofs.Common.{◌≡◌, take, length}, specs.List.AllByRecursion}
use Rattle.handler_rows.specs.Hulls.{IsWithin}
use Rattle.handler_rows.proofs.hull.hull_of.Given as goal

abbrev pub invariant-loop-row : goal.invariant-loop-row
invariant-loop-row l = record {
  count : l.hull.count ≡ length l.rows;
  all : AllByRecursion (IsWithin l.hull) (take l.row-index l.rows);
}
