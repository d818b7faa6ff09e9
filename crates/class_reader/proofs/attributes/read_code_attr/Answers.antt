use Rattle.std.proofs.Common.{arith}
use Rattle.class_reader.proofs.PlacesInside.{code_has_place}
use Rattle.class_reader.proofs.attributes.read_code_attr.Goals as goal

pub moved-requires : goal.moved-requires
moved-requires c = code_has_place c.args.pool.now c.args.name c.args.body.now c.args.behind c.in-Err.stop (λ i. omega (arith, c.type_inv.body i)) c.requires c.in-Err.ensures
