-- Runs in which threads wait and are notified.
use Rattle.std.proofs.Common.{refl}
use Rattle.jvm_types.specs.ClassTree.{is_subclass}
use Rattle.machine_plays.proofs.Playing.{Plays}
use Rattle.machine_plays.specs.WorkedRuns as runs

pub waiters_wake : Plays runs.waiters_wake
unfolding is_subclass
waiters_wake = refl

pub deep_waiters_wake : Plays runs.deep_waiters_wake
unfolding is_subclass
deep_waiters_wake = refl

pub no_record_to_wait : Plays runs.no_record_to_wait
unfolding is_subclass
no_record_to_wait = refl

pub last_record_to_wait : Plays runs.last_record_to_wait
unfolding is_subclass
last_record_to_wait = refl

pub nobody_left_to_notify : Plays runs.nobody_left_to_notify
unfolding is_subclass
nobody_left_to_notify = refl

pub flat_notifications : Plays runs.flat_notifications
unfolding is_subclass
flat_notifications = refl

pub turns_begin_anew : Plays runs.turns_begin_anew
unfolding is_subclass
turns_begin_anew = refl
