use Rattle.std.proofs.Common.{◌≡◌, drop}
use Rattle.event_texts.specs.EntryFacts.{mark_among}
use Rattle.event_texts.proofs.entries.mark_among.Given as goal

abbrev pub invariant-loop-s : goal.invariant-loop-s
invariant-loop-s l = mark_among (drop l.s-index l.marks) l.method l.spot ≡ mark_among l.marks l.method l.spot
