use Rattle.std.{proofs.Common.{◌≡◌, ◌++◌, take}, specs.List.{AllByRecursion, flat_map}}
use Rattle.class_writer.proofs.list_writing.write_items.Given as goal

abbrev pub invariant-loop-item : goal.invariant-loop-item
invariant-loop-item g l = AllByRecursion g.T.Part.known (take l.item-index l.item-items) × (l.out ≡ l.fn.out ++ flat_map g.T.Part.spelling (take l.item-index l.item-items))
