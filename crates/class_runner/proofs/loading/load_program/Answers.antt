use Rattle.class_runner.proofs.LoadedOnce.{if_other, if_refused}
use Rattle.class_runner.proofs.loading.load_program.Goals as goal

pub returns-clause-only : goal.returns-clause-only
returns-clause-only c = λ other loaded. if_other c.args.files.now c.args.heap c.args.workers other c.load_files.result (rw c.as_slice.ensures at c.load_files.ensures.ok) loaded

pub returns-clause-accepted : goal.returns-clause-accepted
returns-clause-accepted c = λ accepted. if_refused c.args.files.now c.args.heap c.args.workers c.load_files.result (rw c.as_slice.ensures at c.load_files.ensures.refused) accepted
