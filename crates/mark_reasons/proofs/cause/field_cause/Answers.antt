use Rattle.std.proofs.{Common.{sym, ◌∙◌}, lemmas.Result.IfOk-weaker}
use Rattle.checked_program.specs.TaggedCode.{tagged_by}
use Rattle.mark_reasons.proofs.CauseLaws.{bars_keep, frozen_not, guarded_keeps, open_is}
use Rattle.mark_reasons.proofs.cause.field_cause.Goals as goal

pub open_once-requires-clause-changes : goal.open_once-requires-clause-changes
open_once-requires-clause-changes c = (open_is c.args.p.now (tagged_by c.args.tags.now) c.args.uses.now c.requires.uses c.args.field c.requires.there (sym c.use_of.ensures ∙ c.in-Open.is)).0

pub open_once-requires-clause-loose : goal.open_once-requires-clause-loose
open_once-requires-clause-loose c = (open_is c.args.p.now (tagged_by c.args.tags.now) c.args.uses.now c.requires.uses c.args.field c.requires.there (sym c.use_of.ensures ∙ c.in-Open.is)).1

pub returns-in-Guarded-clause-cause : goal.returns-in-Guarded-clause-cause
returns-in-Guarded-clause-cause c = guarded_keeps c.args.p.now (tagged_by c.args.tags.now) c.args.uses.now c.requires.uses c.args.field c.requires.there (sym c.use_of.ensures ∙ c.in-Guarded.is)

pub returns-in-Frozen-clause-cause : goal.returns-in-Frozen-clause-cause
returns-in-Frozen-clause-cause c = λ own five. absurd (frozen_not c.args.p.now (tagged_by c.args.tags.now) c.args.uses.now c.requires.uses c.args.field c.requires.there (sym c.use_of.ensures ∙ c.in-Frozen.is) own five)

pub returns-in-Open-clause-cause : goal.returns-in-Open-clause-cause
returns-in-Open-clause-cause c = IfOk-weaker c.open_once.result _ _ (λ cause b own five. bars_keep c.args.p.now (tagged_by c.args.tags.now) c.args.field own cause b) c.open_once.ensures.cause
