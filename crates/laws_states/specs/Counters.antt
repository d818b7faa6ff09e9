-- How far the words that are counted up have come: the next free word, the next ticket and the next
-- monitor record. What the threads have done bounds each of them, so that no sum passes what a word
-- holds.
use Rattle.std.specs.Prelude.{◌≤◌, ℕ, ◌+◌, ◌*◌, List, slice_index}
use Rattle.std.specs.List.{sum_by}
use Rattle.jvm_types.specs.ProgramInvariant.{words_of}
use Rattle.jvm_types.specs.declared.fixed_words.TheConstants.{OBJECT_HEAD_WORDS, NEXT_FREE_WORD}
use Rattle.jvm_types.specs.declared.fixed_words.TheConstants.{NEXT_TICKET_WORD, NEXT_RECORD_WORD}
use Rattle.jvm_types.specs.declared.limits.TheConstants.{MOST_HEAP}
use Rattle.jvm_types.specs.declared.outcome.End.TheVariants as ends
use Rattle.jvm_types.specs.declared.program.Program.{Program}
use Rattle.machine_types.specs.Bounds.{flat_held}
use Rattle.machine_types.specs.Core.{Core}
use Rattle.machine_types.specs.Threads.{Thread}
use Rattle.machine_types.specs.declared.phase.Phase.{Phase}
use Rattle.machine_types.specs.declared.phase.Phase.TheVariants as phases

-- no object has more words
abbrev pub most_size : ℕ
most_size = MOST_HEAP + OBJECT_HEAD_WORDS

-- each instruction makes one object at most, and prints once
abbrev pub instructions_of : List Thread → ℕ
instructions_of threads = sum_by (λ x. x.counts.instructions) threads

-- ---- a thread draws one record at most for each lock that it has taken

abbrev pub flat_of : List Thread → ℕ
flat_of threads = sum_by (λ x. flat_held x.held) threads

-- a record was drawn for a lock that is still held flat
abbrev pub drawn_for_flat : Phase → ℕ
drawn_for_flat (phases.FlatOut m a) = 1
drawn_for_flat (phases.Own m r toward) = 1
drawn_for_flat (phases.FatIn m r toward) = 1
drawn_for_flat (phases.Ending ends.Records) = 1
drawn_for_flat (phases.Ended ends.Records) = 1
drawn_for_flat phase = 0

abbrev pub taken_of : List Thread → ℕ
taken_of threads = sum_by (λ x. x.counts.locked + drawn_for_flat x.phase) threads

-- ---- all three

pub record CountersFit (p : Program) (s : Core) : Type 0 where
  pub free : slice_index s.words NEXT_FREE_WORD ≤ words_of p + most_size * instructions_of s.threads
  pub tickets : slice_index s.words NEXT_TICKET_WORD ≤ instructions_of s.threads
  pub records : slice_index s.words NEXT_RECORD_WORD + flat_of s.threads ≤ taken_of s.threads
