use Rattle.std.proofs.Common.{Option, sym, subst, ◌∙◌}
use Rattle.checked_program.specs.TaggedCode.{tagged_by}
use Rattle.mark_reasons.{specs.{Causes.IsWriteFound, declared.cause.Cause.Cause}, proofs.CauseLaws.{some_write, write_bars}}
use Rattle.mark_reasons.proofs.cause.loose_cause.Goals as goal

pub returns-in-Some : goal.returns-in-Some
returns-in-Some c = write_bars c.args.p.now (tagged_by c.args.tags.now) c.args.field c.args.info.now c.requires.there c.in-Some.write c.requires.mutable
    (sym c.is_private.ensures ∙ c.if-is_private.true)
    (subst (λ (o : Option Cause). IsWriteFound c.args.p.now (tagged_by c.args.tags.now) c.args.field o) c.in-Some.is c.first_write.ensures)

pub unreachable-requires : goal.unreachable-requires
unreachable-requires c = some_write c.args.p.now (tagged_by c.args.tags.now) c.args.field c.args.info.now c.requires.there c.requires.loose c.requires.mutable
    (sym c.is_private.ensures ∙ c.if-is_private.true)
    (subst (λ (o : Option Cause). IsWriteFound c.args.p.now (tagged_by c.args.tags.now) c.args.field o) c.in-None.is c.first_write.ensures)

pub returns-else-is_private : goal.returns-else-is_private
returns-else-is_private c = (c.args.info.now, c.requires.there, (c.requires.mutable, sym c.is_private.ensures ∙ c.if-is_private.false))
