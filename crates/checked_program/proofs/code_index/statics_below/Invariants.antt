use Rattle.std.proofs.Common.{◌≡◌, ◌+◌, drop}
use Rattle.checked_program.specs.CodeIndex.{statics_below}
use Rattle.checked_program.proofs.code_index.statics_below.Given as goal

abbrev pub invariant-loop-field : goal.invariant-loop-field
invariant-loop-field l = l.count + statics_below l.class (drop l.field-index l.fields) ≡ statics_below l.class l.fields
