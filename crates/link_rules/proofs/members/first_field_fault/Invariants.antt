use Rattle.std.proofs.Common.{◌≡◌, drop}
use Rattle.jvm_types.specs.{ClassNames.class_names, LinkFaults.{first_from, field_fault}}
use Rattle.link_rules.proofs.members.first_field_fault.Given as goal

abbrev pub invariant-loop-number : goal.invariant-loop-number
invariant-loop-number l = first_from (field_fault (class_names l.file.files) l.file.number l.file.class) l.number (drop l.number l.fields)
    ≡ first_from (field_fault (class_names l.file.files) l.file.number l.file.class) 0 l.fields
