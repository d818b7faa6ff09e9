use Rattle.std.proofs.Common.{Bool, sym, subst}
use Rattle.checked_program.specs.{TaggedCode.tagged_by, declared.section.Spot.{Spot, TheVariants.Block}}
use Rattle.mark_reasons.{specs.ReachedSpots.TellsReached, proofs.ReachedLaws.tells_reached}
use Rattle.mark_reasons.proofs.reached.is_spot_reached.Goals as goal

pub returns-in-Block : goal.returns-in-Block
returns-in-Block c = subst (λ (s : Spot). TellsReached c.args.p.now (tagged_by c.args.tags.now) c.args.method s c.is_some.result) (sym c.in-Block.is)
    (subst (λ (b : Bool). TellsReached c.args.p.now (tagged_by c.args.tags.now) c.args.method (Block c.in-Block.pc) b) (sym c.is_some.ensures)
    (tells_reached c.args.p.now c.args.tags.now c.requires.program c.args.method c.in-Block.pc c.begin_in.result c.begin_in.ensures))
