use Rattle.std.proofs.Common.{◌≡◌, ◌++◌, map, drop}
use Rattle.jvm_types.specs.CodeTable.{type_of}
use Rattle.code_verifier.proofs.entry.push_arguments.Given as goal

abbrev pub invariant-loop-kind : goal.invariant-loop-kind
invariant-loop-kind l = l.types ++ map type_of (drop l.kind-index l.args) ≡ l.fn.types ++ map type_of l.args
