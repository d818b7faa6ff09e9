use Rattle.std.proofs.Common.{◌+◌, List, sym, ap, subst, arith, length, drop}
use Rattle.table_rule.specs.Views.{held_in}
use Rattle.table_runner.specs.Handed.{Handed}
use Rattle.green_runner.{specs.Shares.{AreShared, AreTogether}, proofs.SharedOut.{all_together, shared_still, together_first}}
use Rattle.green_runner.proofs.shares.run_apart.Goals as goal

pub take_in-requires-clause-together : goal.take_in-requires-clause-together
take_in-requires-clause-together g c =
    let n = c.args.p.now.program.workers in
    let table = c.args.table.now in
    let hands = c.share_out-shares.new.hands in
    let before : List Handed = c.as_mut_slice.result.now in
    let now : List Handed = c.run_each.new.shares in
    let kept : AreShared (n + 1) before = subst (AreShared (n + 1)) (sym c.as_mut_slice.ensures.value) c.share_out-shares.ensures.shared in
    let still : AreShared (n + 1) now = shared_still (n + 1) before now c.run_each.ensures.count c.run_each.ensures.same kept in
    let together : AreTogether n hands now = together_first table.table_id table.program table.cfg n (held_in c.args.hands.now.threads 0) hands now c.share_out-shares.ensures.rest still in
    all_together n hands now (drop (length now) c.share_out-shares.result.items) c.share_out-shares.result.len
    (omega (arith, c.share_out-shares.result.ok.0, c.run_each.ensures.count, ap length c.as_mut_slice.ensures.value)) together
