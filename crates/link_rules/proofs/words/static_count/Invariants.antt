use Rattle.std.proofs.Common.{◌≡◌, ◌+◌, ◌≤◌, drop}
use Rattle.jvm_types.specs.Layout.{static_count}
use Rattle.link_rules.proofs.words.static_count.Given as goal

abbrev pub invariant-loop-field : goal.invariant-loop-field
invariant-loop-field l = record {
  rest : l.count + static_count (drop l.field-index l.fields) ≡ static_count l.fields;
  few : l.count ≤ l.field-index;
}
