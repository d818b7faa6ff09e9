use Rattle.std.proofs.Common.{sym, ◌∙◌}
use Rattle.run_trace.proofs.events.before_at.Goals as goal

pub want-access-requires-clause-program : goal.want-access-requires-clause-program
want-access-requires-clause-program c = c.requires ∙ sym (c.thread.ensures.runs.state.facts.threads.own c.args.t c.in-Some.s.now (sym c.in-Some.ensures.thread)).program
