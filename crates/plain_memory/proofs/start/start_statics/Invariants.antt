use Rattle.std.proofs.Common.{◌≡◌, ◌++◌, drop, map, filter}
use Rattle.jvm_types.specs.Members.{is_static}
use Rattle.machine_types.proofs.PlacesAtStart.{value_of}
use Rattle.plain_memory.proofs.start.start_statics.Given as goal

abbrev pub invariant-loop-field : goal.invariant-loop-field
invariant-loop-field l = l.statics.items ++ map value_of (filter (λ f. is_static f.flags) (drop l.field-index l.fields)) ≡ map value_of (filter (λ f. is_static f.flags) l.fields)
