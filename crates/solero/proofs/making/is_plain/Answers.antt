use Rattle.solero.proofs.RunPrints.{prints_stand}
use Rattle.solero.proofs.making.is_plain.Goals as goal

pub returns-clause-plain : goal.returns-clause-plain
returns-clause-plain c = λ hs. c.runs_are_faithful.ensures c.args.checked.now c.args.cfg.now hs c.program-program.ensures.marked c.have_width.ensures c.requires

pub returns-clause-over : goal.returns-clause-over
returns-clause-over c = λ order hs schedule. c.schedules_end_over.ensures c.args.checked.now c.args.cfg.now order hs schedule

pub returns-clause-prints : goal.returns-clause-prints
returns-clause-prints c = λ hs run. prints_stand _ run.state run.prints
