use Rattle.std.proofs.Common.{ap, subst}
use Rattle.solero_cell.{specs.{Calls.Seated, Histories.AreOfOne, declared.views.View.View}, proofs.Going.of_one}
use Rattle.latch_cell.proofs.seat.LatchSeat.join.Goals as goal

pub returns-then-self-latest-clause-one : goal.returns-then-self-latest-clause-one
returns-then-self-latest-clause-one c =
    let v = c.self.inside.seat.me.0 in
    let w = c.other.inside.seat.me.0 in
    subst (λ (x : View). AreOfOne x c.args.other.view) (ap (λ (k : Seated). k.view) c.self.view_is)
    (subst (λ (x : View). AreOfOne v x) (ap (λ (k : Seated). k.view) c.other.view_is) (of_one v w c.glue.new.seat.me.0 c.compare.new.seat.me.0 c.glue.ensures.seat.2 c.compare.ensures.tells))

pub returns-else-self-latest-clause-one : goal.returns-else-self-latest-clause-one
returns-else-self-latest-clause-one c =
    let v = c.self.inside.seat.me.0 in
    let w = c.other.inside.seat.me.0 in
    subst (λ (x : View). AreOfOne x c.args.other.view) (ap (λ (k : Seated). k.view) c.self.view_is)
    (subst (λ (x : View). AreOfOne v x) (ap (λ (k : Seated). k.view) c.other.view_is) (of_one v w c.glue.new.seat.me.0 c.compare.new.seat.me.0 c.glue.ensures.seat.2 c.compare.ensures.tells))
