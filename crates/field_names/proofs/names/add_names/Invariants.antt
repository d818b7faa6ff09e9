use Rattle.std.proofs.Common.{◌≡◌, ◌++◌, drop, map}
use Rattle.jvm_types.specs.ClassNames.{text_at}
use Rattle.field_names.proofs.names.add_names.Given as goal

abbrev pub invariant-loop-field : goal.invariant-loop-field
invariant-loop-field l = l.names ++ map (λ m. text_at l.constants m.name) (drop l.field-index l.fields) ≡ l.fn.names ++ map (λ m. text_at l.constants m.name) l.fields
