use Rattle.std.proofs.Common.{sym, ◌∙◌}
use Rattle.jvm_types.specs.CodeTable.{form_of}
use Rattle.asm_text.proofs.PlainShapes.{plain_shape}
use Rattle.asm_text.proofs.shapes.shape_at.Goals.{in-Some, in-None}
use Rattle.asm_text.proofs.shapes.shape_at.Goals as goal

pub returns : goal.returns
returns c =
    elim c.match-plain.branch [
      | in-Some w ↦ w.result-is ∙ sym (plain_shape (form_of c.args.opcode) w.in-Some.field-0 (sym c.plain.ensures ∙ w.in-Some.is))
      | in-None w ↦ w.result-is ∙ w.shape_with_operands.ensures
    ]
