use Rattle.std.proofs.{Common.{◌≡◌, map, not, subst, ◌==◌}, lemmas.Result.IfOk-weaker}
use Rattle.graph_closure.{specs.{LeastSet.IsSpread, Walks.AreRecurring}, proofs.WalkLaws.cycles_shown}
use Rattle.graph_closure.proofs.walks.recurring.Goals as goal

pub returns : goal.returns
returns c = IfOk-weaker c.with_need.result (λ v. v.items ≡ map (λ n. not (n == 0)) c.as_slice.result.now) (λ v. AreRecurring c.args.from.now c.args.to.now c.args.nodes v.items)
    (λ v f. cycles_shown c.args.from.now c.args.to.now c.args.nodes c.in_ok-need.need.len c.in_ok-need.need.items c.spread.new.need c.as_slice.result.now v.items c.requires.graph c.in_ok-need.ensures c.in_ok-need.need.ok.0
    (subst (λ l. IsSpread c.args.from.now c.args.to.now l c.spread.new.need) c.as_mut_slice.ensures.value c.in_ok-spread.ensures) c.as_slice.ensures.value f)
    c.with_need.ensures
