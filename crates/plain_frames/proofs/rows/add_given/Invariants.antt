use Rattle.std.proofs.Common.{◌≡◌, ◌++◌, drop, map}
use Rattle.jvm_types.specs.CodeTable.{value_of}
use Rattle.plain_frames.proofs.rows.add_given.Given as goal

abbrev pub invariant-loop-given : goal.invariant-loop-given
invariant-loop-given l = l.after ++ map (value_of 0 (λ type. l.made) l.stack l.locals) (drop l.given-index l.gives) ≡ l.fn.after ++ map (value_of 0 (λ type. l.made) l.stack l.locals) l.gives
