use Rattle.std.{proofs.Common.{◌+◌, sym, subst, ◌∙◌}, specs.List.range_with_len}
use Rattle.table_runner.proofs.SameHands.{of_still}
use Rattle.green_runner.proofs.Passes.{MidPass, pass_on, turns_same}
use Rattle.green_runner.proofs.passing.pass.Goals as goal

pub give_turn-live-requires-clause-table : goal.give_turn-live-requires-clause-table
give_turn-live-requires-clause-table c =
    of_still c.args.table.now.table_id c.args.table.now.program c.args.table.now.cfg c.args.hands.now c.loop-t.hands
    (turns_same c.args.turn (range_with_len 0 c.loop-t.t) c.args.hands.now c.loop-t.hands c.loop-t.invariant.turns) c.requires.table

pub give_turn-live-requires-clause-program : goal.give_turn-live-requires-clause-program
give_turn-live-requires-clause-program c =
    c.requires.program ∙ sym (turns_same c.args.turn (range_with_len 0 c.loop-t.t) c.args.hands.now c.loop-t.hands c.loop-t.invariant.turns).program

pub loop-t-preserved : goal.loop-t-preserved
loop-t-preserved c =
    let turn = c.give_turn-live.ensures in
    subst (λ b. MidPass c.args.hands.now c.args.turn (c.loop-t.t + 1) b c.give_turn-live.new.hands) (sym c.either-some.ensures)
    (pass_on c.args.hands.now c.loop-t.hands c.give_turn-live.new.hands c.args.turn c.loop-t.t c.loop-t.some c.give_turn-live.result c.loop-t.invariant
    (record { live_is = turn.live; still = turn.still; turn_is = turn.turn }))
