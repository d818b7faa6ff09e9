use Rattle.std.proofs.Common.{◌≡◌, ◌+◌, drop}
use Rattle.jvm_types.specs.ProgramInvariant.{statics_among}
use Rattle.plain_memory.proofs.start.count_statics.Given as goal

abbrev pub invariant-loop-field : goal.invariant-loop-field
invariant-loop-field l = l.count + statics_among (drop l.field-index l.fields) ≡ statics_among l.fields
