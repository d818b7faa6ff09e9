use Rattle.std.proofs.Common.{List, ℕ, ◌++◌, ap, ◌∙◌}
use Rattle.jvm_types.specs.Spelling.{code_body}
use Rattle.class_writer.proofs.PartProofs.{code_writes}
use Rattle.class_writer.proofs.parts.write_code.Goals as goal

pub returns : goal.returns
returns c =
    let body = c.in_ok-write_code_body.ensures in
    code_writes c.args.code.now c.write_code_body.new.out c.args.out.now c.write_u2.new.out c.write_run.new.out c.write_run.result body.0 (body.1 ∙ ap (λ (x : List ℕ). x ++ code_body c.args.code.now) c.new-body.ensures)
    c.in_ok-write_u2.ensures c.write_run.ensures
