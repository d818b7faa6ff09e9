use Rattle.std.proofs.Common.{◌≡◌, Some, sym, ap, ◌∙◌, arith}
use Rattle.machine_types.specs.PlainState.{Plain, holding_at}
use Rattle.history_rule.proofs.SmallSteps.{room_held}
use Rattle.history_rule.proofs.plain_state.PlainState.enter.Goals as goal

pub overflow_add-depth : goal.overflow_add-depth
overflow_add-depth c =
    let there : holding_at c.args.self.now.holdings c.args.m ≡ Some c.in-Some.h = ap (λ (q : Plain). holding_at q.holdings c.args.m) (sym c.self.view_is) ∙ sym c.at.ensures ∙ c.in-Some.is in
    omega (arith, room_held c.args.self.now c.args.m c.in-Some.h c.requires.room there, c.depth.ensures)
