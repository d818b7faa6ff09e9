use Rattle.std.proofs.Common.{◌≡◌, ◌+◌, ◌≤◌, ◌++◌, drop}
use Rattle.jvm_types.specs.{ClassNames.class_names, Layout.{fields_of, static_count}}
use Rattle.linker.proofs.layout.lay_out_class.Given as goal

abbrev pub invariant-loop-field : goal.invariant-loop-field
invariant-loop-field l = record {
  fields : l.fields ++ fields_of (class_names l.file.files) l.file.number l.file.class.constants l.free.place l.free.word (drop l.field-index l.members)
      ≡ l.fn.fields ++ fields_of (class_names l.file.files) l.file.number l.file.class.constants 0 l.word l.file.class.fields;
  words : l.free.word + static_count (drop l.field-index l.members) ≡ l.word + static_count l.file.class.fields;
  place : l.free.place ≤ l.field-index;
  word : l.free.word ≤ l.word + l.field-index;
}
