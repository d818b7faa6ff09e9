-- An opcode without operands is decoded as the instruction that its form makes.
use Rattle.std.proofs.{Common.{◌≡◌, ℕ, List, [], Option, Some, None, Ok, refl, sym}, lemmas.Option.same_Some}
use Rattle.jvm_types.specs.{CodeTable.{Form, Plain, plain_op}, declared.code.Op.Op}
use Rattle.code_decode.specs.Decoding.{IsDecodeStep}

pub plain_step : (pc : ℕ) (o : Option Form) (op : Op) (rest : List ℕ) → plain_op o ≡ Some op → IsDecodeStep pc o rest (Ok (record { op = op; size = 0; targets = [] }))
plain_step pc None op rest h = absurd (cc)
plain_step pc (Some (Plain made)) op rest h = (refl, sym (same_Some _ _ h))
plain_step pc (Some form) op rest h = absurd (cc)
