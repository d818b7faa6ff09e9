use Rattle.std.proofs.Common.{suc}
use Rattle.replay_runner.{specs.Running.run_on, proofs.{ManyEvents.of_program, RunAhead.{ahead, fine_of, leaves_less}}}
use Rattle.replay_runner.proofs.running.go_far.Goals as goal

pub run_ahead-ahead-requires-clause-program : goal.run_ahead-ahead-requires-clause-program
run_ahead-ahead-requires-clause-program c =
    let h = c.requires.thread in
    of_program h.0 c.args.p.now h.1 c.args.s.now c.args.words.now h.2

pub run_ahead-ahead-requires-clause-fine : goal.run_ahead-ahead-requires-clause-fine
run_ahead-ahead-requires-clause-fine c =
    let h = c.requires.thread in
    fine_of h.0 c.args.p.now h.1 c.args.s.now c.args.words.now h.2 c.events_keep_state.ensures c.states_have_facts.ensures c.reached_fits.ensures

pub go-requires : goal.go-requires
go-requires c =
    let h = c.requires.thread in
    let k = c.run_ahead-ahead.result.told in (
      run_on h.0 h.1 k,
      h.1,
      ahead h.0 c.args.p.now h.1 k c.args.s.now c.run_ahead-ahead.new.s c.args.words.now c.run_ahead-ahead.new.words h.2 c.events_keep_state.ensures c.run_ahead-ahead.ensures,
    )

pub returns-clause-on : goal.returns-clause-on
returns-clause-on c = λ m t h.
    let k = c.run_ahead-ahead.result.told in
    let here = ahead m c.args.p.now t k c.args.s.now c.run_ahead-ahead.new.s c.args.words.now c.run_ahead-ahead.new.words h c.events_keep_state.ensures c.run_ahead-ahead.ensures in
    (suc k, c.go.ensures (run_on m t k) t here)

pub returns-clause-less : goal.returns-clause-less
returns-clause-less c =
    let h = c.requires.thread in
    let k = c.run_ahead-ahead.result.told in
    let here = ahead h.0 c.args.p.now h.1 k c.args.s.now c.run_ahead-ahead.new.s c.args.words.now c.run_ahead-ahead.new.words h.2 c.events_keep_state.ensures c.run_ahead-ahead.ensures in
    leaves_less c.events_lessen_work.ensures c.events_keep_state.ensures c.states_have_facts.ensures c.reached_fits.ensures h.0 c.args.p.now h.1 k c.args.s.now c.go.new.s c.args.words.now c.go.new.words
    h.2 (c.go.ensures (run_on h.0 h.1 k) h.1 here) c.requires.live
