-- Runs with exceptions, caught and not.
use Rattle.std.proofs.Common.{refl}
use Rattle.jvm_types.specs.ClassTree.{is_subclass}
use Rattle.machine_plays.proofs.Playing.{Plays}
use Rattle.machine_plays.specs.WorkedRuns as runs

pub division_throws : Plays runs.division_throws
unfolding is_subclass
division_throws = refl

pub section_throws : Plays runs.section_throws
unfolding is_subclass
section_throws = refl

pub elements_throw : Plays runs.elements_throw
unfolding is_subclass
elements_throw = refl

pub calls_overflow : Plays runs.calls_overflow
unfolding is_subclass
calls_overflow = refl

pub root_overflows : Plays runs.root_overflows
unfolding is_subclass
root_overflows = refl

pub null_throws : Plays runs.null_throws
unfolding is_subclass
null_throws = refl

pub second_row_catches : Plays runs.second_row_catches
unfolding is_subclass
second_row_catches = refl

pub section_is_left_elided : Plays runs.section_is_left_elided
unfolding is_subclass
section_is_left_elided = refl

pub section_is_left_locked : Plays runs.section_is_left_locked
unfolding is_subclass
section_is_left_locked = refl
