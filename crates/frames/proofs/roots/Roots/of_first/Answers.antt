use Rattle.std.proofs.Common.{length, ap, arith}
use Rattle.frames.{specs.{RootLists.is_root, declared.roots.Root.TheVariants.{ClassInit, Init, Done}}, proofs.RootLaws.few_added}
use Rattle.frames.proofs.roots.Roots.of_first.Goals as goal

pub split-requires-clause-few : goal.split-requires-clause-few
split-requires-clause-few c =
    let ms = c.args.p.now.methods in
    omega (
      arith,
      ap length c.new-numbers.ensures,
      few_added (is_root ClassInit) c.new-numbers.result c.add_roots.new.numbers ms c.in_ok-add_roots.ensures,
      few_added (is_root Init) c.add_roots.new.numbers c.add_roots-2.new.numbers ms c.in_ok-add_roots-2.ensures,
      few_added (is_root Done) c.add_roots-2.new.numbers c.add_roots-3.new.numbers ms c.in_ok-add_roots-3.ensures,
      c.requires,
    )
