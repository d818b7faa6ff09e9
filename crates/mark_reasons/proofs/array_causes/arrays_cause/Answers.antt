use Rattle.std.proofs.Common.{ℕ, Option, subst}
use Rattle.checked_program.specs.TaggedCode.{tagged_by}
use Rattle.frozen_classes.specs.FrozenClasses.{IsFirstOut}
use Rattle.mark_reasons.{specs.{ArrayCauses.IsMisuseFound, declared.cause.Cause.Cause}, proofs.{ArrayCauseLaws.never_misused, BackLaws.none_left}}
use Rattle.mark_reasons.proofs.array_causes.arrays_cause.Goals as goal

pub unreachable-requires : goal.unreachable-requires
unreachable-requires c = c.requires.loose (never_misused c.args.p.now c.args.tags.now c.requires.program c.requires.tagged c.args.field c.args.info.now c.requires.there c.requires.array
    (subst (λ (o : Option ℕ). IsFirstOut c.args.p.now (tagged_by c.args.tags.now) c.args.info.now.class o) (none_left c.in_ok-init.field-0 c.in_default.not-Some) c.in_ok-init.ensures)
    (subst (λ (o : Option Cause). IsMisuseFound c.args.p.now (tagged_by c.args.tags.now) c.args.info.now.class c.args.field o) c.in-None.is c.in_ok-misused.ensures))
