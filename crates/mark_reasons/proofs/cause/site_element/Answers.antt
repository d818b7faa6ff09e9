use Rattle.checked_program.specs.TaggedCode.{tagged_by}
use Rattle.mark_reasons.{specs.Reasons.callee_of, proofs.ArrayCauseLaws.reads_no_owned}
use Rattle.mark_reasons.proofs.cause.site_element.Goals as goal

pub element_cause-requires-clause-loose : goal.element_cause-requires-clause-loose
element_cause-requires-clause-loose c = λ on r. reads_no_owned c.args.p.now (tagged_by c.args.tags.now) c.args.uses.now (callee_of c.args.site) c.args.site.at c.requires.uses c.requires.breaks c.requires.read on r
