use Rattle.std.proofs.Common.{length}
use Rattle.event_texts.proofs.waiting.+write_threads.Given as goal

abbrev pub decreases-write_threads : goal.decreases-write_threads
decreases-write_threads l = length l.threads.now
