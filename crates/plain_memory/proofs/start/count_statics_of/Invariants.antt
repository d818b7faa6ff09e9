use Rattle.std.proofs.Common.{◌≡◌, ◌≤◌, ◌+◌, drop, length}
use Rattle.jvm_types.specs.ProgramInvariant.{statics_among}
use Rattle.machine_types.specs.StartWords.{statics_of}
use Rattle.plain_memory.proofs.start.count_statics_of.Given as goal

abbrev pub invariant-loop-field : goal.invariant-loop-field
invariant-loop-field l = record {
  count : l.count + length (statics_of (drop l.field-index l.fields) l.class) ≡ length (statics_of l.fields l.class);
  few : l.count + statics_among (drop l.field-index l.fields) ≤ statics_among l.fields;
}
