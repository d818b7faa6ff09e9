use Rattle.std.proofs.Common.{sym, ◌∙◌}
use Rattle.code_verifier.proofs.{RowsRest.same_first, SameFrames.one_answer}
use Rattle.code_verifier.proofs.resting.has_same_locals.Goals as goal

pub returns : goal.returns
returns c = λ e. (
  same_first c.args.f.now c.args.other.now c.first_locals.result.now c.first_locals-2.result.now c.requires c.first_locals.ensures c.first_locals-2.ensures (sym c.same_types.ensures ∙ e),
  sym c.is_ready.ensures ∙ one_answer c.is_ready.result c.is_ready-2.result c.if-is_ready.false ∙ c.is_ready-2.ensures,
)
