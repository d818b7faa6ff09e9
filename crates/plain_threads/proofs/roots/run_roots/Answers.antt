use Rattle.plain_threads.proofs.RootLaws.{few}
use Rattle.plain_threads.proofs.roots.run_roots.Goals as goal

pub add_roots-requires : goal.add_roots-requires
add_roots-requires c = rw c.program.ensures.program (few c.args.p.now.program c.program.ensures.marked.checked.program)
