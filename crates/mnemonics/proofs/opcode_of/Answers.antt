use Rattle.std.proofs.{Common.{◌≡◌, true, bytes_eq, Some, sym, ap, ◌∙◌, arith}, lemmas.Slice.Eq.bytes_eq-Decides}
use Rattle.mnemonics.{specs.Mnemonics.mnemonic, proofs.OpcodeLaws.{opcode_back, no_opcode}}
use Rattle.mnemonics.proofs.opcode_of.Goals as goal

pub returns-then-is_same : goal.returns-then-is_same
returns-then-is_same c =
    let e : bytes_eq c.as_bytes.result.now c.args.name.now ≡ true = cc in
    let k = (bytes_eq-Decides c.as_bytes.result.now c.args.name.now).0 e in
    let m : mnemonic c.loop-number.number ≡ Some c.args.name.now = sym c.in-Some.ensures ∙ ap Some (sym c.as_bytes.ensures.value ∙ k) in
    sym (opcode_back c.loop-number.number c.args.name.now m)

pub returns : goal.returns
returns c = sym (no_opcode c.args.name.now (λ k l. c.loop-number.invariant k (omega arith)))
