use Rattle.std.proofs.Common.{false, subst}
use Rattle.table_runner.{specs.Sharing.IsNextPart, proofs.Stages.over_now}
use Rattle.table_runner.proofs.running.run_done.Goals as goal

pub returns-else-next-clause-ended : goal.returns-else-next-clause-ended
returns-else-next-clause-ended c =
    let h = c.args.hands.now in
    let next : IsNextPart h c.next.new.self false = subst (IsNextPart h c.next.new.self) c.if-next.false c.next.ensures.next in
    over_now h c.next.new.self next (c.next.ensures.still c.if-next.false) c.requires.waiting.0.first c.requires.waiting.1
