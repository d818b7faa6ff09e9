use Rattle.std.proofs.Common.{◌≡◌, drop}
use Rattle.jvm_types.specs.{ClassNames.class_names, LinkFaults.{first_from, members_fault, member_pass}}
use Rattle.link_rules.proofs.members.member_pass.Given as goal

abbrev pub invariant-loop-number : goal.invariant-loop-number
invariant-loop-number l = first_from (members_fault (class_names l.scope)) l.number (drop l.number l.scope) ≡ member_pass l.scope
