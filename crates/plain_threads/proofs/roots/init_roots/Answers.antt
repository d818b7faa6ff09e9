use Rattle.plain_threads.proofs.RootLaws.{few}
use Rattle.plain_threads.proofs.roots.init_roots.Goals as goal

pub add_roots-requires : goal.add_roots-requires
add_roots-requires c = rw c.program.ensures.program (few c.args.p.now.program c.program.ensures.marked.checked.program)

pub add_roots-requires-2 : goal.add_roots-requires-2
add_roots-requires-2 c = rw c.program.ensures.program (few c.args.p.now.program c.program.ensures.marked.checked.program)
