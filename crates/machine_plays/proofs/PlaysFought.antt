-- Runs in which a thread fails so many turns that it flags the lock, and the holder makes it fat, or finds no record.
use Rattle.std.proofs.Common.{refl}
use Rattle.jvm_types.specs.ClassTree.{is_subclass}
use Rattle.machine_plays.proofs.Playing.{Plays}
use Rattle.machine_plays.specs.WorkedRuns as runs

pub fought_grows : Plays runs.fought_grows
unfolding is_subclass
fought_grows = refl

pub fought_grows_locked : Plays runs.fought_grows_locked
unfolding is_subclass
fought_grows_locked = refl

pub fought_stays_flat : Plays runs.fought_stays_flat
unfolding is_subclass
fought_stays_flat = refl

pub fought_stays_flat_at_one : Plays runs.fought_stays_flat_at_one
unfolding is_subclass
fought_stays_flat_at_one = refl

pub fought_grows_slowly : Plays runs.fought_grows_slowly
unfolding is_subclass
fought_grows_slowly = refl
