-- Words that fit whatever the event of a thread in a phase may read them as. A run over words of a
-- test's own looks at each word that it finds, since no law speaks of such words.
use Rattle.std.specs.Prelude.{ℕ, nat_le, Bool, true, false, ◌&&◌}
use Rattle.machine_types.specs.LockWords.{is_lock_word}
use Rattle.machine_types.specs.declared.access.Access.{Access}
use Rattle.machine_types.specs.declared.access.Access.TheVariants.{Add}
use Rattle.machine_types.specs.declared.phase.Phase.{Phase}
use Rattle.machine_types.specs.declared.phase.Phase.TheVariants as phases

-- a lock word that could also be the owner of a record
abbrev pub is_small_lock : (word : ℕ) → Bool
is_small_lock word = is_lock_word word && nat_le word 9

-- instructions only where they add to a word: they make an object, or print
abbrev pub is_sure : Phase → Access → (word : ℕ) → Bool
is_sure phases.Run (Add i n) word = true
is_sure (phases.Made a header) access word = true
is_sure (phases.Enter m tried) access word = is_small_lock word
is_sure (phases.Acquire m) access word = is_small_lock word
is_sure (phases.Take m count) access word = is_small_lock word
is_sure (phases.Leave m a) access word = is_small_lock word
is_sure (phases.Grow m toward) access word = true
is_sure (phases.FlatOut m a) access word = is_small_lock word
is_sure (phases.Ending e) access word = true
is_sure phase access word = false
