use Rattle.std.proofs.Common.{◌≡◌, ℕ, ◌∙◌, Option, false, sym, ap, below_more}
use Rattle.mark_reasons.specs.Searches.{own_call, turns}
use Rattle.mark_reasons.proofs.explain.first_own_turn.Goals as goal

pub loop-i-preserved : goal.loop-i-preserved
loop-i-preserved c = below_more (λ (j : ℕ). turns c.args.recurs.now (own_call c.args.p.now c.args.mode c.args.m.now c.args.t.now.frames c.args.own.now j) ≡ false) c.loop-i.i c.loop-i.invariant
    (sym (c.turns.ensures ∙ ap (λ (o : Option ℕ). turns c.args.recurs.now o) c.own_call.ensures) ∙ c.if-turns.false)
