use Rattle.replay_runner.proofs.ManyEvents.{reached, is_lawful, of_program, stays_thread}
use Rattle.replay_runner.proofs.running.go.Goals as goal

pub event-requires-clause-word : goal.event-requires-clause-word
event-requires-clause-word c = (reached c.requires.0 c.args.p.now c.requires.1 c.args.s.now c.args.words.now c.requires.2 c.states_have_facts.ensures c.reached_fits.ensures).inside

pub event-requires-clause-sum : goal.event-requires-clause-sum
event-requires-clause-sum c = (reached c.requires.0 c.args.p.now c.requires.1 c.args.s.now c.args.words.now c.requires.2 c.states_have_facts.ensures c.reached_fits.ensures).sum

pub event-requires-clause-fits : goal.event-requires-clause-fits
event-requires-clause-fits c = (reached c.requires.0 c.args.p.now c.requires.1 c.args.s.now c.args.words.now c.requires.2 c.states_have_facts.ensures c.reached_fits.ensures).found

pub event-requires-clause-lawful : goal.event-requires-clause-lawful
event-requires-clause-lawful c = is_lawful c.requires.0 c.args.p.now c.requires.1 c.args.s.now c.args.words.now c.requires.2

pub event-requires-clause-program : goal.event-requires-clause-program
event-requires-clause-program c = of_program c.requires.0 c.args.p.now c.requires.1 c.args.s.now c.args.words.now c.requires.2

pub returns : goal.returns
returns c = λ m t h. stays_thread m c.args.p.now t c.args.s.now c.event.new.s c.args.words.now c.event.new.words h c.events_keep_state.ensures c.event.ensures.state c.event.ensures.words
