use Rattle.std.proofs.Common.{◌≡◌, ◌++◌, drop}
use Rattle.machine_types.specs.Parts.{numbers_of}
use Rattle.frames.specs.RootLists.{is_root}
use Rattle.frames.proofs.roots.add_roots.Given as goal

abbrev pub invariant-loop-i : goal.invariant-loop-i
invariant-loop-i l = l.numbers ++ numbers_of (is_root l.root) l.i (drop l.i l.methods) ≡ l.fn.numbers ++ numbers_of (is_root l.root) 0 l.methods
