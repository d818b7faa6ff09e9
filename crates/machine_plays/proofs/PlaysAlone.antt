-- Runs of one thread: prints, objects, sections that are elided or not, and the last count of a lock word.
use Rattle.std.proofs.Common.{refl}
use Rattle.jvm_types.specs.ClassTree.{is_subclass}
use Rattle.machine_plays.proofs.Playing.{Plays}
use Rattle.machine_plays.specs.WorkedRuns as runs

pub one_prints : Plays runs.one_prints
unfolding is_subclass
one_prints = refl

pub unlocked_prints : Plays runs.unlocked_prints
unfolding is_subclass
unlocked_prints = refl

pub alone_elides : Plays runs.alone_elides
unfolding is_subclass
alone_elides = refl

pub alone_locks : Plays runs.alone_locks
unfolding is_subclass
alone_locks = refl

pub alone_ends_at_one : Plays runs.alone_ends_at_one
unfolding is_subclass
alone_ends_at_one = refl

pub alone_ends_at_two : Plays runs.alone_ends_at_two
unfolding is_subclass
alone_ends_at_two = refl

pub twice_elides : Plays runs.twice_elides
unfolding is_subclass
twice_elides = refl

pub all_parts_run : Plays runs.all_parts_run
unfolding is_subclass
all_parts_run = refl

pub low_bit_is_kept : Plays runs.low_bit_is_kept
unfolding is_subclass
low_bit_is_kept = refl
