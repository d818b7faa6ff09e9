use Rattle.code_visits.proofs.TypeVisits.{has_typing}
use Rattle.code_verifier.proofs.OneAnswer.{refused_so}
use Rattle.code_verifier.proofs.verifying.verify_method.Goals as goal

pub returns-in-Ok-clause-ok : goal.returns-in-Ok-clause-ok
returns-in-Ok-clause-ok c = has_typing c.args.p.now c.args.m.now c.in-Ok.frames c.in-Ok.ensures.ok

pub returns-in-Err-clause-refused : goal.returns-in-Err-clause-refused
returns-in-Err-clause-refused c = rw c.error_of.ensures (refused_so c.args.p.now c.args.m.now c.in-Err.stop c.in-Err.ensures.refused)
