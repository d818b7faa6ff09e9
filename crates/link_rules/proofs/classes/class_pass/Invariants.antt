use Rattle.std.proofs.Common.{◌≡◌, drop}
use Rattle.jvm_types.specs.{ClassNames.class_names, LinkFaults.{first_from, class_link_fault, class_pass}}
use Rattle.link_rules.proofs.classes.class_pass.Given as goal

abbrev pub invariant-loop-number : goal.invariant-loop-number
invariant-loop-number l = first_from (class_link_fault (class_names l.scope)) l.number (drop l.number l.scope) ≡ class_pass l.scope
