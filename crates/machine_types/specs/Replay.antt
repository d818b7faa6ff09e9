-- What a thread does in an attempt, as acts of that thread alone over a memory that nobody changes,
-- where some places may not be there.
use Rattle.std.specs.Prelude.{ℕ, suc, ◌+◌, ◌-◌, ◌==◌, nat_lt, List, [], ◌∷◌, Option, Some, None}
use Rattle.std.specs.Prelude.{option_map, option_and_then, if◌then◌else◌}
use Rattle.jvm_types.specs.declared.outcome.End.{End}
use Rattle.jvm_types.specs.declared.program.Program.{Program}
use Rattle.machine_types.specs.Effects.{read_by}
use Rattle.machine_types.specs.declared.effect.Effect.{Effect}
use Rattle.machine_types.specs.declared.effect.Effect.TheVariants.{Writes, Indexes, Prints}
use Rattle.machine_types.specs.Elision.{put_back}
use Rattle.machine_types.specs.Frames.{Top, top_of, effect_at, went_on}
use Rattle.machine_types.specs.Ints.{low}
use Rattle.machine_types.specs.Onward.{Onward, Running, Entering, Leaving, threw, after, dispatched}
use Rattle.machine_types.specs.Onward.{done}
use Rattle.machine_types.specs.Words.{header_length, value_word}
use Rattle.jvm_types.specs.declared.outcome.Thrown.TheVariants.{ArrayIndexOutOfBoundsException}
use Rattle.machine_types.specs.declared.phase.After.{After}
use Rattle.machine_types.specs.PlainInstructions.{got_by}
use Rattle.machine_types.specs.PlainState.{PlainThread, Status, Run, Throw, Enter, Leave}
use Rattle.machine_types.specs.PlainState.{with_status, plain_goes_on}
use Rattle.machine_types.specs.Threads.{Attempt, Thread}
use Rattle.machine_types.specs.declared.phase.Phase.{Phase}
use Rattle.machine_types.specs.declared.phase.Phase.TheVariants as phases
use Rattle.machine_types.specs.declared.plain.Act.{Act}
use Rattle.machine_types.specs.declared.plain.Act.TheVariants as acts

-- the thread, how often it has entered the monitor, and the instructions that it has begun
pub record Alone : Type 0 where
  pub thread : PlainThread
  pub depth : ℕ
  pub begun : ℕ

-- ---- one act; None: it is none of a section on the monitor m, which writes and prints nothing and
-- enters no other monitor

abbrev pub only_on : (m : ℕ) → Onward → Option Onward
only_on m (Entering n frames) = if n == m then Some (Entering n frames) else None
only_on m (Leaving n a frames) = if n == m then Some (Leaving n a frames) else None
only_on m onward = Some onward

-- an element is read when the header has told how many there are
abbrev pub element_read : Program → (memory : ℕ → Option ℕ) → Top → (array index count : ℕ)
    → Option Onward
element_read p memory at array index count =
    if nat_lt index count
    then option_map (λ value. Running (went_on p at value)) (memory (value_word array index))
    else Some (threw ArrayIndexOutOfBoundsException at)

abbrev pub reads_only : Program → (memory : ℕ → Option ℕ) → Top → Effect → (got : ℕ) → Option Onward
reads_only p memory at (Writes v word) got = None
reads_only p memory at (Prints n) got = None
reads_only p memory at (Indexes array index None) got =
    element_read p memory at array (low index) (header_length got)
reads_only p memory at e got = done p at e got

abbrev pub goes : Alone → Option Onward → Option Alone
goes x onward = option_map (λ o. record x { thread = plain_goes_on x.thread o }) onward

abbrev pub instructs : Program → (m : ℕ) → (memory : ℕ → Option ℕ) → Alone → Option Top
    → Option Alone
instructs p m memory x None = None
instructs p m memory x (Some at) =
    goes (record x { begun = x.begun + 1 }) (option_and_then
    (λ got. option_and_then (only_on m) (reads_only p memory at (effect_at p at) got))
    (got_by memory (read_by (effect_at p at))))

abbrev pub enters : Alone → Alone
enters x = record x { thread = with_status x.thread Run; depth = x.depth + 1 }

-- the section's own entry is not left by what is due
abbrev pub leaves : Program → Alone → After → (depth : ℕ) → Option Alone
leaves p x a (suc (suc depth)) = goes (record x { depth = suc depth }) (after p x.thread.frames a)
leaves p x a depth = None

abbrev pub replay_act : Program → (m : ℕ) → (memory : ℕ → Option ℕ) → Alone → Act → Status
    → Option Alone
replay_act p m memory x acts.Do Run = instructs p m memory x (top_of p x.thread.frames)
replay_act p m memory x acts.Do (Throw r class) =
    goes x (option_and_then (only_on m) (dispatched p r class x.thread.frames))
replay_act p m memory x acts.Enter (Enter n) = if n == m then Some (enters x) else None
replay_act p m memory x acts.Exit (Leave n a) = if n == m then leaves p x a x.depth else None
replay_act p m memory x act status = None

abbrev pub replayed : Program → (m : ℕ) → (memory : ℕ → Option ℕ) → List Act → Alone → Option Alone
replayed p m memory [] x = Some x
replayed p m memory (act ∷ due) x =
    option_and_then (replayed p m memory due) (replay_act p m memory x act x.thread.status)

-- ---- from where, to where

-- the status by the phase that counts
abbrev pub status_inside : Phase → Status
status_inside (phases.Throw x class) = Throw x class
status_inside (phases.Enter m tried) = Enter m
status_inside (phases.Leave m a) = Leave m a
status_inside phase = Run

-- the instructions that were begun and done: the one whose element is still to be read is not due
-- yet
abbrev pub begun_and_done : Phase → (begun : ℕ) → ℕ
begun_and_done (phases.Element word stored) begun = begun - 1
begun_and_done phase begun = begun

-- the section has been entered, and nothing done yet
abbrev pub at_entry : Thread → Attempt → (ended : List End) → Alone
at_entry s a ended =
    record {
      thread =
          record { frames = put_back a s.frames; status = Run; roots = s.roots; ended = ended };
      depth = 1;
      begun = 0;
    }

abbrev pub at_present : Thread → Attempt → (was : Phase) → (begun : ℕ) → (ended : List End) → Alone
at_present s a was begun ended =
    record {
      thread =
          record { frames = s.frames; status = status_inside was; roots = s.roots; ended = ended };
      depth = suc a.inner;
      begun = begun_and_done was begun;
    }
