-- Objects whose header is not stored yet lie apart from all others, and their words are 0 (JVMS
-- 6.5, `new`: fields begin with their default values).
use Rattle.std.specs.Prelude.{◌≡◌, ◌≢◌, ◌⊎◌, ℕ, ◌+◌, ◌<◌, ◌≤◌, ◌==◌, List, Contains, Some}
use Rattle.std.specs.Prelude.{slice_get, slice_index, if◌then◌else◌}
use Rattle.jvm_types.specs.declared.class_numbers.TheConstants.{INT_ARRAY_CLASS}
use Rattle.jvm_types.specs.ProgramInvariant.{words_of}
use Rattle.jvm_types.specs.declared.program.Program.{Program}
use Rattle.machine_types.specs.Core.{Core}
use Rattle.machine_types.specs.PlainMemory.{Object, object_end}
use Rattle.machine_types.specs.Threads.{Thread}
use Rattle.machine_types.specs.Words.{header_class, header_length, object_size, array_size}
use Rattle.jvm_types.specs.declared.fixed_words.TheConstants.{NEXT_FREE_WORD}
use Rattle.machine_types.specs.declared.phase.Phase.TheVariants as phases

abbrev pub size_by : Program → (word : ℕ) → ℕ
size_by p word =
    if header_class word == INT_ARRAY_CLASS then array_size (header_length word)
    else object_size p (header_class word)

pub record IsNewObject (p : Program) (objects : List Object) (s : Core) (a size : ℕ) : Type 0 where
  -- behind the words that are there from the start
  pub begins : words_of p ≤ a
  pub below : a + size ≤ slice_index s.words NEXT_FREE_WORD
  pub inside : a + size ≤ p.heap
  pub beside : (o : Object) → Contains objects o → (object_end o ≤ a) ⊎ (a + size ≤ o.reference)
  pub empty : (x : ℕ) → a ≤ x → x < a + size → slice_index s.words x ≡ 0

pub record NewObjects (p : Program) (objects : List Object) (s : Core) : Type 0 where
  pub each : (t : ℕ) (x : Thread) (a word : ℕ) → slice_get s.threads t ≡ Some x
      → x.phase ≡ phases.Made a word → IsNewObject p objects s a (size_by p word)
  pub apart : (t u : ℕ) (x y : Thread) (a b word other : ℕ) → slice_get s.threads t ≡ Some x
      → slice_get s.threads u ≡ Some y → t ≢ u → x.phase ≡ phases.Made a word
      → y.phase ≡ phases.Made b other → (a + size_by p word ≤ b) ⊎ (b + size_by p other ≤ a)
