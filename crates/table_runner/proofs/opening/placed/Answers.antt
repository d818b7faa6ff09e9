use Rattle.std.proofs.Common.{sym, subst, ◌∙◌, Some, slice_set}
use Rattle.table_runner.proofs.StartHands.{ArePlaced, next_placed}
use Rattle.table_runner.proofs.opening.placed.Goals as goal

pub loop-thread-preserved-in-Some : goal.loop-thread-preserved-in-Some
loop-thread-preserved-in-Some c =
    let left = c.pop.new.self.items in
    subst (λ n. ArePlaced c.args.threads.items left (slice_set c.loop-thread.places n (Some c.in-Some.thread))) (sym (c.len.ensures ∙ c.pop.new.self.ok.0))
    (next_placed c.args.threads.items c.loop-thread.threads.items left c.in-Some.thread c.loop-thread.places c.loop-thread.invariant c.in-Some.ensures.items)

pub loop-thread-preserved : goal.loop-thread-preserved
loop-thread-preserved c =
    let left = c.pop.new.self.items in
    subst (λ n. ArePlaced c.args.threads.items left (slice_set c.loop-thread.places n (Some c.in-Some.thread))) (sym (c.len.ensures ∙ c.pop.new.self.ok.0))
    (next_placed c.args.threads.items c.loop-thread.threads.items left c.in-Some.thread c.loop-thread.places c.loop-thread.invariant c.in-Some.ensures.items)
