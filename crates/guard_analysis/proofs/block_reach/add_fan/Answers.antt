use Rattle.std.proofs.Common.{sym, arith}
use Rattle.code_visits.proofs.BroughtLaws.{place_inside}
use Rattle.guard_analysis.proofs.block_reach.add_fan.Goals as goal

pub add-requires : goal.add-requires
add-requires c = omega (arith, place_inside c.args.m.now.code c.args.pc c.in-Some.k (sym c.in-Some.ensures), c.requires)
