use Rattle.std.proofs.Common.{length}
use Rattle.event_texts.proofs.waiting.+add_waiting.Given as goal

abbrev pub decreases-add_waiting : goal.decreases-add_waiting
decreases-add_waiting l = length l.among.now
