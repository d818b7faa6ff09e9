use Rattle.std.proofs.Common.{◌≡◌, ◌+◌, ◌-◌, ◌≤◌, ◌∷◌, [], ◌++◌, length, length-append, ap, subst, ◌∙◌, arith}
use Rattle.cell_runner.{specs.HandsOfCell.{HasGathered, IsShareLeft}, proofs.Gathering.{front_worked, last_worked, one_more, one_more_left}}
use Rattle.cell_runner.proofs.workers.run_workers.Goals as goal

pub loop-hand-preserved : goal.loop-hand-preserved
loop-hand-preserved g c =
    let table = c.args.table.now.shared.table_id in
    let key = c.args.table.now.shared.key in
    let before = c.loop-hand.hands.items in
    let rest = c.pop.new.self.items in
    let hand = c.in-Some.hand in
    let is : before ≡ rest ++ hand ∷ [] = c.in-Some.ensures.items in
    let long : length before ≡ length rest + 1 = ap length is ∙ length-append rest (hand ∷ []) in
    let few : length rest + 1 ≤ c.args.workers = omega (arith, long, c.loop-hand.invariant.3) in
    let worked = last_worked table key c.args.rounds c.args.turns before rest hand is c.loop-hand.invariant.2 in (
      one_more table key c.args.rounds c.args.turns c.args.workers (length rest) c.loop-hand.all hand c.join-all.result few c.join-all.ensures (subst (λ n. HasGathered table key (c.args.workers - n) c.args.rounds c.args.turns c.loop-hand.all) long c.loop-hand.invariant.0) worked,
      one_more_left (length rest) c.loop-hand.all hand c.join-all.result c.join-all.ensures (subst (λ n. IsShareLeft n c.loop-hand.all) long c.loop-hand.invariant.1) worked.share,
      front_worked table key c.args.rounds c.args.turns before rest hand is c.loop-hand.invariant.2,
      omega (arith, few),
    )
