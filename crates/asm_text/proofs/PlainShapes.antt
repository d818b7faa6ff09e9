-- The shape of an opcode that makes an instruction without operands.
use Rattle.std.proofs.Common.{◌≡◌, Option, Some, None, refl}
use Rattle.std.specs.Option.{option_map}
use Rattle.jvm_types.specs.{CodeTable.{Form, Plain, plain_op}, declared.code.Op.Op}
use Rattle.asm_text.specs.Operands.{shape_of}
use Rattle.asm_text.specs.declared.shapes.Shape.TheVariants as shapes

pub plain_shape : (o : Option Form) (op : Op) → plain_op o ≡ Some op → option_map shape_of o ≡ Some shapes.Plain
plain_shape None op h = absurd (cc)
plain_shape (Some (Plain made)) op h = refl
plain_shape (Some form) op h = absurd (cc)
