use Rattle.std.{proofs.Common.{◌≡◌, drop}, specs.List.list_any}
use Rattle.jvm_types.specs.{LinkFaults.is_wrong_method, Members.declared_from}
use Rattle.link_rules.proofs.roots.has_wrong_method.Given as goal

abbrev pub invariant-loop-method : goal.invariant-loop-method
invariant-loop-method l =
    list_any is_wrong_method (declared_from l.file.number l.file.class.constants l.method-index (drop l.method-index l.method-items))
    ≡ list_any is_wrong_method (declared_from l.file.number l.file.class.constants 0 l.file.class.methods)
