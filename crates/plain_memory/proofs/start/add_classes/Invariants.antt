use Rattle.std.{proofs.Common.{◌≡◌, ◌≤◌, ◌+◌, ◌-◌, ◌*◌, ◌++◌}, specs.List.range_with_len}
use Rattle.jvm_types.specs.declared.{class_numbers.TheConstants.FIRST_FILE_CLASS, fixed_words.TheConstants.FIRST_CLASS_WORD, limits.TheConstants.MOST_HEAP}
use Rattle.machine_types.specs.PlainMemory.{class_objects}
use Rattle.plain_memory.proofs.start.add_classes.Given as goal

abbrev pub invariant-loop-file : goal.invariant-loop-file
invariant-loop-file l = record {
  objects : l.objects.items ++ class_objects l.fields l.reference (range_with_len (FIRST_FILE_CLASS + l.file) (l.count - l.file)) ≡ l.fn.objects.items ++ class_objects l.fields FIRST_CLASS_WORD (range_with_len FIRST_FILE_CLASS l.count);
  fits : l.reference ≤ FIRST_CLASS_WORD + l.file * (2 + MOST_HEAP);
}
