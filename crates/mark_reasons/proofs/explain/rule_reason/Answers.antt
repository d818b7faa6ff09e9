use Rattle.std.proofs.Common.{List, Bool, Option, subst}
use Rattle.laws_programs.proofs.CodeOrder.{methods_laid_out}
use Rattle.checked_program.specs.TaggedCode.{tagged_by}
use Rattle.mark_reasons.{specs.{OwnFlags.OwnOrElsewhere, Reasons.marked_section}, proofs.MarkParts.not_off}
use Rattle.mark_reasons.proofs.explain.rule_reason.Goals as goal

pub own_flags-requires-clause-laid : goal.own_flags-requires-clause-laid
own_flags-requires-clause-laid c = methods_laid_out c.args.p.now c.args.mark.method c.args.m.now c.requires.program c.requires.there

pub unreachable-requires : goal.unreachable-requires
unreachable-requires c = not_off c.args.p.now (tagged_by c.args.tags.now) c.args.uses.now (marked_section c.args.mark) c.args.mark.mark c.requires.some c.requires.low c.requires.marked
    (subst (λ (o : Option (List Bool)). OwnOrElsewhere c.args.p.now (tagged_by c.args.tags.now) c.args.mark.method c.args.mark.spot o) c.in_default.is c.in_ok-own.ensures)
