use Rattle.history_rule.proofs.plain_state.PlainState.act.Goals as goal

pub returns-in-Enter : goal.returns-in-Enter
returns-in-Enter c = λ x e. rw c.in-Enter.is (c.enter_step.ensures c.args.p.now.program x e)

pub returns-in-Wait : goal.returns-in-Wait
returns-in-Wait c = λ x e. rw c.in-Wait.is (c.wait_step.ensures c.args.p.now.program x e)

pub returns-in-Notify : goal.returns-in-Notify
returns-in-Notify c = λ x e. rw c.in-Notify.is (c.notify_step.ensures c.args.p.now.program x e)

pub returns-in-NotifyAll : goal.returns-in-NotifyAll
returns-in-NotifyAll c = λ x e. rw c.in-NotifyAll.is (c.notify_all_step.ensures c.args.p.now.program x e)

pub returns-in-Retake : goal.returns-in-Retake
returns-in-Retake c = λ x e. rw c.in-Retake.is (c.retake_step.ensures c.args.p.now.program x e)
