use Rattle.std.{proofs.Common.sym, proofs.lemmas.Result.IfOk-weaker}
use Rattle.laws_programs.proofs.CodeOrder.{methods_laid_out}
use Rattle.mark_reasons.proofs.ArrayCauseLaws.{misuse_there, untagged_there}
use Rattle.mark_reasons.proofs.array_causes.misuse_in.Goals as goal

pub misuse_of-requires : goal.misuse_of-requires
misuse_of-requires c = methods_laid_out c.args.p.now c.args.method c.in-Some.m.now c.requires (sym c.in-Some.ensures.value)

pub returns-in-Some-get : goal.returns-in-Some-get
returns-in-Some-get c = IfOk-weaker c.misuse_of.result _ _ (λ found h. misuse_there c.args.p.now c.args.tags.now c.args.class c.args.field c.args.method c.in-Some.m.now (sym c.in-Some.ensures.value) c.in-Some-get.t.now found (sym c.in-Some-get.ensures.value) h) c.misuse_of.ensures

pub returns-in-None-get : goal.returns-in-None-get
returns-in-None-get c = untagged_there c.args.p.now c.args.tags.now c.args.class c.args.field c.args.method c.in-Some.m.now (sym c.in-Some.ensures.value) (sym c.in-None-get.ensures.value)
