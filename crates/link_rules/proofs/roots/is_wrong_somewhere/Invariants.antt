use Rattle.std.{proofs.Common.{◌≡◌, drop}, specs.List.list_any}
use Rattle.jvm_types.specs.{LinkFaults.is_wrong_method, Members.{declared_by, declared_methods}}
use Rattle.link_rules.proofs.roots.is_wrong_somewhere.Given as goal

abbrev pub invariant-loop-number : goal.invariant-loop-number
invariant-loop-number l = list_any is_wrong_method (declared_by (λ c. c.methods) l.number (drop l.number l.scope)) ≡ list_any is_wrong_method (declared_methods l.scope)
