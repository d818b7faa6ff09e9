use Rattle.std.{proofs.Common.{◌≡◌, drop}, specs.List.list_any}
use Rattle.jvm_types.specs.{LinkFaults.is_run_method, Members.declared_from}
use Rattle.link_rules.proofs.roots.declares_run.Given as goal

abbrev pub invariant-loop-method : goal.invariant-loop-method
invariant-loop-method l =
    list_any is_run_method (declared_from 0 l.class.constants l.method-index (drop l.method-index l.class.methods))
    ≡ list_any is_run_method (declared_from 0 l.class.constants 0 l.class.methods)
