use Rattle.code_verifier.proofs.SameFrames.{unlike}
use Rattle.code_verifier.proofs.type_lists.same_types.Goals as goal

pub returns-then-types-others : goal.returns-then-types-others
returns-then-types-others c = unlike c.args.types.now c.args.others.now c.if-types-others.true
