use Rattle.std.proofs.Common.{arith}
use Rattle.class_reader.proofs.PlacesInside.{value_has_place}
use Rattle.class_reader.proofs.attributes.read_value_attr.Goals as goal

pub moved-requires : goal.moved-requires
moved-requires c = value_has_place c.args.pool.now c.args.body.now c.args.behind c.in-Err.stop (λ i. omega (arith, c.type_inv.body i)) c.requires c.in-Err.ensures
