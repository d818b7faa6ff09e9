-- Runs that meet a limit of instructions, failed turns or prints, or just do not.
use Rattle.std.proofs.Common.{refl}
use Rattle.jvm_types.specs.ClassTree.{is_subclass}
use Rattle.machine_plays.proofs.Playing.{Plays}
use Rattle.machine_plays.specs.WorkedRuns as runs

pub five_steps : Plays runs.five_steps
unfolding is_subclass
five_steps = refl

pub six_steps : Plays runs.six_steps
unfolding is_subclass
six_steps = refl

pub steps_in_attempt : Plays runs.steps_in_attempt
unfolding is_subclass
steps_in_attempt = refl

pub steps_after_attempt : Plays runs.steps_after_attempt
unfolding is_subclass
steps_after_attempt = refl

pub steps_enough : Plays runs.steps_enough
unfolding is_subclass
steps_enough = refl

pub one_turn : Plays runs.one_turn
unfolding is_subclass
one_turn = refl

pub one_print : Plays runs.one_print
unfolding is_subclass
one_print = refl

pub spinning_ends : Plays runs.spinning_ends
unfolding is_subclass
spinning_ends = refl
