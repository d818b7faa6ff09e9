-- What an instruction does, as this crate plans it before anything changes.
use Rattle.std.specs.Prelude.{ℕ, List, [], ◌∷◌, ◌++◌, Option, Some, None, slice_set}
use Rattle.jvm_types.specs.declared.outcome.Thrown.TheVariants.{OutOfMemoryError}
use Rattle.machine_types.specs.PlainMemory.{new_object}
use Rattle.machine_types.specs.PlainState.{Plain, PlainThread, Run, Throw, plain_goes_on}
use Rattle.machine_types.specs.PlainState.{with_thread, written}
use Rattle.machine_types.specs.ReadyObjects.{ready}
use Rattle.machine_types.specs.Threads.{Frame}
use Rattle.plain_frames.specs.Changes.{onward_of}
use Rattle.plain_threads.specs.Statuses.{plain_status_of}
use Rattle.history_rule.specs.declared.deed.Deed.{Deed}
use Rattle.history_rule.specs.declared.deed.Deed.TheVariants.{Stuck, Goes, Writes, Makes, Passes}
use Rattle.history_rule.specs.declared.deed.Deed.TheVariants.{Prints, Asks}

-- the state when it is done by a thread that has these frames; None: no step
abbrev pub deed_done : Plain → (t : ℕ) → PlainThread → List Frame → Deed → Option Plain
deed_done q t x frames Stuck = None
deed_done q t x frames (Goes o) = Some (with_thread q t (plain_goes_on x (onward_of frames o)))
deed_done q t x frames (Writes place value f) =
    Some (with_thread (written q place value) t
    (record x { frames = slice_set frames 0 f; status = Run }))
deed_done q t x frames (Makes header size next f) =
    Some (with_thread
    (record q { objects = q.objects ++ new_object q.next header size ∷ []; next = next }) t
    (record x { frames = slice_set frames 0 f; status = Run }))
deed_done q t x frames (Passes next) =
    Some (with_thread (record q { next = next }) t
    (record x { frames = frames; status = Throw (ready OutOfMemoryError) OutOfMemoryError }))
deed_done q t x frames (Prints value f) =
    Some (with_thread (record q { prints = q.prints ++ record { thread = t; value = value } ∷ [] })
    t (record x { frames = slice_set frames 0 f; status = Run }))
deed_done q t x frames (Asks status f) =
    Some (with_thread q t
    (record x { frames = slice_set frames 0 f; status = plain_status_of status }))
