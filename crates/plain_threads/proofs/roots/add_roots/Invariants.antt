use Rattle.std.proofs.Common.{◌≡◌, ◌++◌, drop}
use Rattle.machine_types.specs.Parts.{numbers_of}
use Rattle.plain_threads.specs.Roots.{is_plain_root}
use Rattle.plain_threads.proofs.roots.add_roots.Given as goal

abbrev pub invariant-loop-i : goal.invariant-loop-i
invariant-loop-i l = l.numbers ≡ numbers_of (is_plain_root l.root) l.i (drop l.i l.methods) ++ l.fn.numbers
