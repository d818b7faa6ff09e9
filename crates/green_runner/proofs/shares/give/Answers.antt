use Rattle.std.proofs.Common.{subst, arith, ◌%◌, ◌<◌, mod-lt}
use Rattle.table_runner.specs.{Handed.Handed, Sharing.AreJoined}
use Rattle.green_runner.proofs.SharedOut.{any_joined}
use Rattle.green_runner.proofs.shares.give.Goals as goal

pub returns-else-count-workers-clause-held : goal.returns-else-count-workers-clause-held
returns-else-count-workers-clause-held c = λ t.
    any_joined t c.args.shares.now.items (c.args.number % c.len-count.result) c.index_mut.result.now c.args.one c.join.new.self
    (subst (λ n. c.args.number % c.len-count.result < n) (omega (arith, c.len-count.ensures, c.args.shares.now.ok)) (mod-lt c.args.number {m = c.len-count.result} (omega (arith, c.requires.some, c.if-count-workers.false))))
    (subst (λ (h : Handed). AreJoined h c.args.one c.join.new.self) c.index_mut.ensures.value c.join.ensures)
