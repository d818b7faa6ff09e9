-- The words from the next free one on are 0, so that a new object has the values that it begins
-- with (JVMS 2.3, 2.4, 6.5 `new`).
use Rattle.std.specs.Prelude.{◌≡◌, ◌<◌, ◌≤◌, ℕ, length, slice_index}
use Rattle.jvm_types.specs.declared.program.Program.{Program}
use Rattle.machine_types.specs.Core.{Core}
use Rattle.jvm_types.specs.declared.fixed_words.TheConstants.{NEXT_FREE_WORD}

pub record AreUnused (p : Program) (s : Core) : Type 0 where
  pub many : length s.words ≡ p.heap
  pub empty : (x : ℕ) → slice_index s.words NEXT_FREE_WORD ≤ x → x < p.heap
      → slice_index s.words x ≡ 0
