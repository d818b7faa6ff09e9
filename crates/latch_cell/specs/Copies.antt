-- The words of a latch cell: the lock word, the count of the last write that is done, and two
-- copies of the values, the first for even counts, the second for odd ones. Few values stand side
-- by side with the count; before each copy of more there are unused words, so that a processor that
-- writes one copy takes neither the count nor the other copy from those that read.
use Rattle.std.specs.Prelude.{ℕ, ◌+◌, ◌*◌, ◌%◌, ◌==◌, nat_lt, List, take, drop, slice_index}
use Rattle.std.specs.Prelude.{if◌then◌else◌}

-- the word of the count
abbrev pub latch_count : (words : List ℕ) → ℕ
latch_count words = slice_index words 1

-- how many words before each copy of so many values are unused
unfoldable pub copy_gap : (len : ℕ) → ℕ
copy_gap len = if nat_lt len 4 then 0 else 15

-- how many words a cell of so many values has
abbrev pub latch_words : (len : ℕ) → ℕ
latch_words len = 2 + 2 * copy_gap len + 2 * len

-- the first word of the copy for a count, of so many values
abbrev pub copy_start : (len count : ℕ) → ℕ
copy_start len count = if count % 2 == 0 then 2 + copy_gap len else 2 + 2 * copy_gap len + len

-- the copy for a count
abbrev pub copy_of : (len : ℕ) (words : List ℕ) (count : ℕ) → List ℕ
copy_of len words count = take len (drop (copy_start len count) words)
