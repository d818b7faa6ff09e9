use Rattle.std.{proofs.Common.{◌≡◌, ◌+◌, ◌++◌, length, drop}, specs.List.{zip, sum_by}}
use Rattle.jvm_types.specs.{Linked.{scope_of, linked_methods}, Members.declared_from}
use Rattle.linker.specs.Linking.{use_faults, copied_bytes}
use Rattle.linker.proofs.methods.link_class.Given as goal

abbrev pub invariant-loop-number : goal.invariant-loop-number
invariant-loop-number l = record {
  left : use_faults (scope_of l.file.files) (declared_from l.file.number l.file.class.constants l.number (drop l.number l.members)) l.code
      ≡ use_faults (scope_of l.file.files) (declared_from l.file.number l.file.class.constants 0 l.file.class.methods) l.fn.code;
  made : l.methods ++ linked_methods (scope_of l.file.files) (zip (declared_from l.file.number l.file.class.constants l.number (drop l.number l.members)) l.code)
      ≡ l.fn.methods ++ linked_methods (scope_of l.file.files) (zip (declared_from l.file.number l.file.class.constants 0 l.file.class.methods) l.fn.code);
  rest : drop (length (declared_from l.file.number l.file.class.constants l.number (drop l.number l.members))) l.code
      ≡ drop (length (declared_from l.file.number l.file.class.constants 0 l.file.class.methods)) l.fn.code;
  copied : sum_by copied_bytes l.methods + l.budget.left ≡ sum_by copied_bytes l.fn.methods + l.fn.budget.left;
}
