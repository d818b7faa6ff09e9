use Rattle.std.proofs.Common.{◌≡◌, ◌∙◌, ap, length, List, sym, arith}
use Rattle.machine_types.specs.PlainState.{PlainThread}
use Rattle.machine_types.specs.PlainSteps.{first_end}
use Rattle.outcomes.proofs.Found.{below_next}
use Rattle.outcomes.proofs.Threads.{ends_of_all}
use Rattle.outcomes.proofs.sameness.have_same_ends.Goals as goal

-- src/sameness.rt:29:5
pub loop-t-preserved : goal.loop-t-preserved
loop-t-preserved c = below_next (λ u. first_end c.args.q.now.state u ≡ first_end c.args.z.now.state u) c.loop-t.t c.loop-t.invariant (sym c.end_at.ensures ∙ c.is_same_end.ensures c.if-not-is_same_end.false ∙ c.end_at-in-loop-t.ensures)

-- src/sameness.rt:21:1
pub returns : goal.returns
returns c = λ yes. ends_of_all c.args.q.now.state c.args.z.now.state c.len-many.result
    (c.len-many.ensures ∙ ap (λ (xs : List PlainThread). length xs) c.threads.ensures)
    (c.if-many-len.false ∙ c.len.ensures ∙ ap (λ (xs : List PlainThread). length xs) c.threads-2.ensures)
    (λ u l. c.loop-t.invariant u (let m = c.loop-t-test.false in omega (arith, l, m)))
