-- Runs with static synchronized methods, which are sections on their class.
use Rattle.std.proofs.Common.{refl}
use Rattle.jvm_types.specs.ClassTree.{is_subclass}
use Rattle.machine_plays.proofs.Playing.{Plays}
use Rattle.machine_plays.specs.WorkedRuns as runs

pub class_is_elided : Plays runs.class_is_elided
unfolding is_subclass
class_is_elided = refl

pub class_is_locked : Plays runs.class_is_locked
unfolding is_subclass
class_is_locked = refl

pub class_is_torn : Plays runs.class_is_torn
unfolding is_subclass
class_is_torn = refl

pub class_is_left_elided : Plays runs.class_is_left_elided
unfolding is_subclass
class_is_left_elided = refl

pub class_is_left_locked : Plays runs.class_is_left_locked
unfolding is_subclass
class_is_left_locked = refl
