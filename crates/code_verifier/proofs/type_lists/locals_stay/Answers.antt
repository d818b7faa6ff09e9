use Rattle.code_verifier.proofs.StayLaws.{stay_stop, stay_on}
use Rattle.code_verifier.proofs.type_lists.locals_stay.Goals as goal

pub returns-then-not-type_stays : goal.returns-then-not-type_stays
returns-then-not-type_stays c = stay_stop c.args.types.now c.args.other.now.locals c.loop-i.i c.type_in.result c.type_of_local.result _ c.type_in.ensures c.type_of_local.ensures c.if-not-type_stays.ensures c.loop-i.invariant

pub loop-i-preserved : goal.loop-i-preserved
loop-i-preserved c = stay_on c.args.types.now c.args.other.now.locals c.loop-i.i c.type_in.result c.type_of_local.result _ c.type_in.ensures c.type_of_local.ensures c.if-not-type_stays.ensures c.loop-i.invariant
