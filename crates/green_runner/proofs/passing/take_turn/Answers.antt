use Rattle.std.proofs.Common.{◌≡◌, suc, ◌+◌, sym, subst, ◌∙◌, arith}
use Rattle.table_runner.proofs.SameHands.{of_still}
use Rattle.green_runner.{specs.Passes.MakeEvents, proofs.Passes.{made_same, one_more}}
use Rattle.green_runner.proofs.passing.take_turn.Goals as goal

pub event-requires-clause-table : goal.event-requires-clause-table
event-requires-clause-table c =
    of_still c.args.table.now.table_id c.args.table.now.program c.args.table.now.cfg c.args.hands.now c.loop-made.hands
    (made_same c.args.t c.loop-made.made c.args.hands.now c.loop-made.hands c.loop-made.invariant) c.requires.table

pub event-requires-clause-program : goal.event-requires-clause-program
event-requires-clause-program c =
    c.requires.program ∙ sym (made_same c.args.t c.loop-made.made c.args.hands.now c.loop-made.hands c.loop-made.invariant).program

pub event-requires-clause-held : goal.event-requires-clause-held
event-requires-clause-held c =
    (made_same c.args.t c.loop-made.made c.args.hands.now c.loop-made.hands c.loop-made.invariant).numbers c.args.t ∙ c.requires.held

pub loop-made-preserved : goal.loop-made-preserved
loop-made-preserved c =
    let next : suc c.loop-made.made ≡ c.loop-made.made + 1 = omega arith in
    subst (λ n. MakeEvents c.args.t n c.args.hands.now c.event.new.self) next
    (one_more c.args.t c.loop-made.made c.args.hands.now c.loop-made.hands c.event.new.self c.loop-made.invariant
    (sym c.event.ensures.live ∙ c.if-not-event.false) (c.event.ensures.event c.if-not-event.false))
