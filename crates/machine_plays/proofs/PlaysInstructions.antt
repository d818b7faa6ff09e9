-- Runs that go through the instructions: ints, stack moves, branches, switches and new arrays.
use Rattle.std.proofs.Common.{refl}
use Rattle.jvm_types.specs.ClassTree.{is_subclass}
use Rattle.machine_plays.proofs.Playing.{Plays}
use Rattle.machine_plays.specs.WorkedInstructions as instructions
use Rattle.machine_plays.specs.WorkedRuns as runs

pub ints_compute : Plays instructions.ints_compute
unfolding is_subclass
ints_compute = refl

pub moves_go : Plays instructions.moves_go
unfolding is_subclass
moves_go = refl

pub array_fits : Plays runs.array_fits
unfolding is_subclass
array_fits = refl

pub array_is_too_long : Plays runs.array_is_too_long
unfolding is_subclass
array_is_too_long = refl

pub array_is_empty : Plays runs.array_is_empty
unfolding is_subclass
array_is_empty = refl

pub array_is_negative : Plays runs.array_is_negative
unfolding is_subclass
array_is_negative = refl

pub array_is_beyond : Plays runs.array_is_beyond
unfolding is_subclass
array_is_beyond = refl
