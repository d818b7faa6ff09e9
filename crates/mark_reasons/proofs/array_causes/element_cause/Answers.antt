use Rattle.laws_programs.proofs.CodeOrder.{methods_laid_out}
use Rattle.mark_reasons.proofs.ArrayCauseLaws.{is_array, is_owned_read}
use Rattle.mark_reasons.proofs.array_causes.element_cause.Goals as goal

pub read_from-requires : goal.read_from-requires
read_from-requires c = methods_laid_out c.args.p.now c.args.site.method c.args.m.now c.requires.program c.requires.there

pub array_cause-requires-clause-arrays : goal.array_cause-requires-clause-arrays
array_cause-requires-clause-arrays c = λ fi is. is_array c.args.p.now c.args.m.now c.args.site.at fi c.in_ok-from-in-OnThis.from is c.in_ok-from-in-OnThis.ensures

pub array_cause-requires-clause-loose : goal.array_cause-requires-clause-loose
array_cause-requires-clause-loose c = λ fi is own. c.requires.loose c.in-OnThis.is (is_owned_read c.args.p.now c.args.m.now c.args.site.at fi c.in_ok-from-in-OnThis.from is c.in_ok-from-in-OnThis.ensures c.args.tags.now c.args.site.method c.requires.program c.requires.tagged c.requires.there own)
