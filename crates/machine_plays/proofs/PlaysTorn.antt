-- Runs in which a section without its lock sees one field set and the other not.
use Rattle.std.proofs.Common.{refl}
use Rattle.jvm_types.specs.ClassTree.{is_subclass}
use Rattle.machine_plays.proofs.Playing.{Plays}
use Rattle.machine_plays.specs.WorkedRuns as runs

pub torn_tries_again : Plays runs.torn_tries_again
unfolding is_subclass
torn_tries_again = refl

pub torn_twice_locks : Plays runs.torn_twice_locks
unfolding is_subclass
torn_twice_locks = refl

pub torn_divides : Plays runs.torn_divides
unfolding is_subclass
torn_divides = refl

pub torn_counts : Plays runs.torn_counts
unfolding is_subclass
torn_counts = refl

pub locked_is_not_torn : Plays runs.locked_is_not_torn
unfolding is_subclass
locked_is_not_torn = refl
