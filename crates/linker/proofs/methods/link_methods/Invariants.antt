use Rattle.std.{proofs.Common.{◌≡◌, ◌+◌, ◌++◌, length, drop}, specs.List.{zip, sum_by}}
use Rattle.jvm_types.specs.{LinkFaults.use_pass, Linked.{scope_of, linked_methods, coded_methods}, Members.declared_by}
use Rattle.linker.specs.Linking.{use_faults, copied_bytes}
use Rattle.linker.proofs.methods.link_methods.Given as goal

abbrev pub invariant-loop-number : goal.invariant-loop-number
invariant-loop-number l = record {
  left : use_faults (scope_of l.scope) (declared_by (λ c. c.methods) l.number (drop l.number l.scope)) l.left ≡ use_pass l.scope l.fn.code;
  made : l.methods ++ linked_methods (scope_of l.scope) (zip (declared_by (λ c. c.methods) l.number (drop l.number l.scope)) l.left)
      ≡ linked_methods (scope_of l.scope) (coded_methods l.scope l.fn.code);
  copied : sum_by copied_bytes l.methods + l.budget.left ≡ 134217728;
}
