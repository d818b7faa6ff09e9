use Rattle.std.proofs.{Common.{Some, ap, ◌∙◌}, lemmas.Result.IfOk-weaker}
use Rattle.checked_program.specs.TaggedCode.{tagged_by}
use Rattle.mark_reasons.{specs.{Reasons.callee_of, declared.cause.ReadPlace.ReadPlace}, proofs.CauseLaws.{element_cause, field_cause, field_there, static_breaks, static_cause, static_there}}
use Rattle.mark_reasons.proofs.cause.place_cause.Goals as goal

pub returns-in-Element-clause-cause : goal.returns-in-Element-clause-cause
returns-in-Element-clause-cause c = IfOk-weaker c.site_element.result _ _ (λ cause h. element_cause c.args.p.now (tagged_by c.args.tags.now) c.args.uses.now (callee_of c.args.site) c.args.site.at c.requires.breaks (c.requires.read ∙ ap (λ (x : ReadPlace). Some x) c.in-Element.is) cause h) c.site_element.ensures.cause

pub static_cause-requires-clause-there : goal.static_cause-requires-clause-there
static_cause-requires-clause-there c = static_there c.args.p.now (tagged_by c.args.tags.now) c.args.uses.now (callee_of c.args.site) c.args.site.at c.requires.breaks c.in-Static.field (c.requires.read ∙ ap (λ (x : ReadPlace). Some x) c.in-Static.is) c.requires.program

pub static_cause-requires-clause-breaks : goal.static_cause-requires-clause-breaks
static_cause-requires-clause-breaks c = static_breaks c.args.p.now (tagged_by c.args.tags.now) c.args.uses.now (callee_of c.args.site) c.args.site.at c.requires.breaks c.in-Static.field (c.requires.read ∙ ap (λ (x : ReadPlace). Some x) c.in-Static.is)

pub returns-in-Static-clause-cause : goal.returns-in-Static-clause-cause
returns-in-Static-clause-cause c = IfOk-weaker c.static_cause.result _ _ (λ cause h. static_cause c.args.p.now (tagged_by c.args.tags.now) c.args.uses.now (callee_of c.args.site) c.args.site.at c.requires.breaks c.in-Static.field (c.requires.read ∙ ap (λ (x : ReadPlace). Some x) c.in-Static.is) cause h) c.static_cause.ensures.cause

pub field_cause-requires-clause-there : goal.field_cause-requires-clause-there
field_cause-requires-clause-there c = field_there c.args.p.now (tagged_by c.args.tags.now) c.args.uses.now (callee_of c.args.site) c.args.site.at c.requires.breaks c.in-Field.field (c.requires.read ∙ ap (λ (x : ReadPlace). Some x) c.in-Field.is) c.requires.program

pub returns-in-Field-clause-cause : goal.returns-in-Field-clause-cause
returns-in-Field-clause-cause c = IfOk-weaker c.field_cause.result _ _ (λ cause h. field_cause c.args.p.now (tagged_by c.args.tags.now) c.args.uses.now (callee_of c.args.site) c.args.site.at c.requires.breaks c.in-Field.field (c.requires.read ∙ ap (λ (x : ReadPlace). Some x) c.in-Field.is) cause h) c.field_cause.ensures.cause
