use Rattle.instr_steps.proofs.RootsThere.{first_there}
use Rattle.instr_steps.proofs.phases.begin_root.Goals as goal

pub begin_first-requires-clause-there : goal.begin_first-requires-clause-there
begin_first-requires-clause-there c = first_there c.args.p.now.program c.args.s.now.number c.args.s.now.part c.args.s.now.roots c.requires.lawful.rooted.roots
