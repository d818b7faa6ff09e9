use Rattle.std.{proofs.Common.{◌≡◌, map, take, drop}, specs.List.AllByRecursion}
use Rattle.jvm_types.specs.{ClassGrammar.IsHandler, LinkFaults.{first_fault, row_fault}, Linked.{scope_of, resolved_row}}
use Rattle.linker.specs.Linking.{method_of}
use Rattle.linker.proofs.methods.resolve_rows.Given as goal

abbrev pub invariant-loop-handler : goal.invariant-loop-handler
invariant-loop-handler l = record {
  made : l.rows ≡ map (resolved_row (scope_of l.file.files) l.file.class.constants) (take l.handler-index l.handlers);
  left : first_fault (map (row_fault (scope_of l.file.files) (method_of l.file l.number l.method)) (drop l.handler-index l.handlers))
      ≡ first_fault (map (row_fault (scope_of l.file.files) (method_of l.file l.number l.method)) l.handlers);
  known : AllByRecursion (IsHandler l.file.class.constants) (drop l.handler-index l.handlers);
}
