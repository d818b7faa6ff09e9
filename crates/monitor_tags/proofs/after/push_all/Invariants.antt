use Rattle.std.proofs.Common.{◌≡◌, ◌++◌, map, drop}
use Rattle.jvm_types.specs.CodeTable.{value_of}
use Rattle.checked_program.specs.declared.tag.Tag.TheVariants.{Untagged}
use Rattle.monitor_tags.proofs.after.push_all.Given as goal

abbrev pub invariant-loop-i : goal.invariant-loop-i
invariant-loop-i l = l.stack ≡ map (λ left. value_of Untagged (λ type. Untagged) l.f.stack l.f.locals left) (drop l.i l.gives) ++ l.fn.stack
