-- How a thread goes on, as this crate answers it: by what changes of its frames.
use Rattle.std.specs.Prelude.{List, [], ◌∷◌, drop, Option, Some, None, slice_set}
use Rattle.jvm_types.specs.declared.outcome.Thrown.TheVariants.{StackOverflowError}
use Rattle.machine_types.specs.Threads.{Frame}
use Rattle.machine_types.specs.Onward as onward
use Rattle.machine_types.specs.declared.phase.After.{After}
use Rattle.machine_types.specs.declared.phase.After.TheVariants as afters
use Rattle.plain_frames.specs.declared.onward.Change.{Change}
use Rattle.plain_frames.specs.declared.onward.Change.TheVariants.{Same, Top, Call, Below, Back}
use Rattle.plain_frames.specs.declared.onward.Onward.{Onward}
use Rattle.plain_frames.specs.declared.onward.Onward.TheVariants as goes
use Rattle.plain_frames.specs.declared.onward.Then.{Then}
use Rattle.plain_frames.specs.declared.onward.Then.TheVariants as thens

abbrev pub changed : Change → List Frame → List Frame
changed Same frames = frames
changed (Top f) frames = slice_set frames 0 f
changed (Call caller f) frames = f ∷ slice_set frames 0 caller
changed Below frames = drop 1 frames
changed (Back f) frames = slice_set (drop 1 frames) 0 f

abbrev pub after_of : Then → After
after_of thens.Next = afters.Next
after_of thens.Return = afters.Return
after_of (thens.Unwind x class) = afters.Unwind x class

abbrev pub onward_of : List Frame → Onward → onward.Onward
onward_of frames (goes.Running c) = onward.Running (changed c frames)
onward_of frames (goes.Throwing x class c) = onward.Throwing x class (changed c frames)
onward_of frames (goes.Entering m c) = onward.Entering m (changed c frames)
onward_of frames (goes.Leaving m then c) = onward.Leaving m (after_of then) (changed c frames)
onward_of frames goes.RootReturned = onward.RootReturned
onward_of frames (goes.Uncaught class) = onward.Uncaught class

-- a root begins in its frame, where that has room
abbrev pub root_begun : Option Frame → onward.Onward
root_begun None = onward.Uncaught StackOverflowError
root_begun (Some f) = onward.Running (f ∷ [])
