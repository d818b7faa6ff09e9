use Rattle.std.proofs.Common.{length, ap, ◌∙◌, arith}
use Rattle.load_classes.proofs.LoadMethods.{factors_length}
use Rattle.load_classes.proofs.methods.load_methods.Goals as goal

pub push_adders-requires : goal.push_adders-requires
push_adders-requires c =
    let e = ap length (c.as_slice.ensures.value ∙ c.in_ok-factors.ensures) ∙ factors_length c.args.seed c.args.size in
    omega (arith, e, c.requires)
