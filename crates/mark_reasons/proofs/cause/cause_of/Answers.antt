use Rattle.std.proofs.Common.{sym, ◌∙◌}
use Rattle.checked_program.specs.TaggedCode.{tagged_by}
use Rattle.mark_reasons.{specs.Reasons.callee_of, proofs.CauseLaws.some_place}
use Rattle.mark_reasons.proofs.cause.cause_of.Goals as goal

pub place_cause-requires-clause-read : goal.place_cause-requires-clause-read
place_cause-requires-clause-read c = sym c.site_place.ensures ∙ c.in-Some.is

pub unreachable-requires : goal.unreachable-requires
unreachable-requires c = some_place c.args.p.now (tagged_by c.args.tags.now) c.args.uses.now (callee_of c.args.site) c.args.site.at c.requires.breaks (sym c.site_place.ensures ∙ c.in-None.is)
