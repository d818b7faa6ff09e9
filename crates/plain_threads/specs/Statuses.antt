-- What a thread is about, as this crate keeps it.
use Rattle.machine_types.specs.PlainState as plain
use Rattle.plain_frames.specs.Changes.{after_of}
use Rattle.plain_threads.specs.declared.status.Status.{Status}
use Rattle.plain_threads.specs.declared.status.Status.TheVariants.{Ready, Run, Throw, Enter, Leave}
use Rattle.plain_threads.specs.declared.status.Status.TheVariants.{Wait, Notify, NotifyAll, Waiting}
use Rattle.plain_threads.specs.declared.status.Status.TheVariants.{Woken, Ended}

abbrev pub plain_status_of : Status → plain.Status
plain_status_of Ready = plain.Ready
plain_status_of Run = plain.Run
plain_status_of (Throw x class) = plain.Throw x class
plain_status_of (Enter m) = plain.Enter m
plain_status_of (Leave m then) = plain.Leave m (after_of then)
plain_status_of (Wait m) = plain.Wait m
plain_status_of (Notify m) = plain.Notify m
plain_status_of (NotifyAll m) = plain.NotifyAll m
plain_status_of (Waiting m depth) = plain.Waiting m depth
plain_status_of (Woken m depth) = plain.Woken m depth
plain_status_of (Ended e) = plain.Ended e
