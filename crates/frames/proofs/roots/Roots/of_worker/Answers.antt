use Rattle.std.proofs.Common.{length, ap, arith}
use Rattle.frames.{specs.{RootLists.is_root, declared.roots.Root.TheVariants.Run}, proofs.RootLaws.few_added}
use Rattle.frames.proofs.roots.Roots.of_worker.Goals as goal

pub split-requires-clause-few : goal.split-requires-clause-few
split-requires-clause-few c =
    omega (arith, ap length c.new-numbers.ensures, few_added (is_root Run) c.new-numbers.result c.add_roots.new.numbers c.args.p.now.methods c.in_ok-add_roots.ensures, c.requires.few)
