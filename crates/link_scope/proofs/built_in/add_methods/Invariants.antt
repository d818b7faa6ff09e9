use Rattle.std.{proofs.Common.{◌++◌, ◌-◌, map}, specs.List.range_with_len}
use Rattle.jvm_types.specs.Members.{init_of}
use Rattle.link_scope.specs.{BuiltIn.first_methods, MemberTables.Adds}
use Rattle.link_scope.proofs.built_in.add_methods.Given as goal

abbrev pub invariant-loop-class : goal.invariant-loop-class
invariant-loop-class l = Adds l.texts.numbers l.fn.table l.table (first_methods ++ map init_of (range_with_len 4 (l.class - 4)))
