use Rattle.std.proofs.{Common.{◌≡◌, true, sym, ap, ◌∙◌, length}, lemmas.Result.IfOk-weaker}
use Rattle.checked_program.specs.{LockTags.{same_tags, meet_tags, IsShapeBelow}, Tagging.tags_at_handler}
use Rattle.monitor_tags.proofs.RowsRest.{below_handler}
use Rattle.monitor_tags.proofs.resting.is_below.Goals as goal

pub returns : goal.returns
returns c = IfOk-weaker c.locals_stay.result (λ stay. stay ≡ true → same_tags c.locals.result.now (meet_tags c.locals.result.now c.locals-2.result.now) ≡ true) (λ below. below ≡ true → IsShapeBelow c.args.f.now (tags_at_handler c.args.other.now))
    (λ stay h e. below_handler c.args.f.now c.args.other.now (λ z. c.if-len-eq0.false (c.len.ensures ∙ ap length c.stack.ensures ∙ z)) (rw (← c.held.ensures, ← c.held-2.ensures) (sym c.if-not-same_stacks.ensures))
    (rw (← c.locals.ensures, ← c.locals-2.ensures) (h e))) c.locals_stay.ensures
