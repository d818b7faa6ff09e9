use Rattle.std.proofs.Common.{◌≡◌, ℕ, ◌∙◌, Option, Some, false, sym, ap, below_more}
use Rattle.mark_reasons.specs.Searches.{node_call, turns}
use Rattle.mark_reasons.proofs.recursion.first_turn.Goals as goal

pub loop-i-preserved : goal.loop-i-preserved
loop-i-preserved c = below_more (λ (j : ℕ). turns c.args.recurs.now (node_call c.args.p.now (Some c.args.m.now) (Some c.args.t.now) c.args.mode j) ≡ false) c.loop-i.i c.loop-i.invariant
    (sym (c.turns.ensures ∙ ap (λ (o : Option ℕ). turns c.args.recurs.now o) c.call_at.ensures) ∙ c.if-turns.false)
