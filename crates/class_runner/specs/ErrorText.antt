-- Why files were not loaded, in words.
use Rattle.std.specs.Prelude.{ℕ, List, codes}
use Rattle.run_texts.specs.Refusal.{refusal_words}
use Rattle.class_runner.specs.declared.loading.FileError.{FileError}
use Rattle.class_runner.specs.declared.loading.FileError.TheVariants as errors

abbrev pub error_text : FileError → List ℕ
error_text errors.Memory = codes "out of memory"
error_text (errors.Refused rule place) = refusal_words rule place
