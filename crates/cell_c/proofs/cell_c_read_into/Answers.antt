use Rattle.std.proofs.Common.{subst}
use Rattle.cell_c.specs.declared.holder.Holder.{Holder}
use Rattle.cell_c.specs.Answers.{IsHolderRead}
use Rattle.cell_c.specs.Reads.{IsAnyReadInto}
use Rattle.cell_c.proofs.ForC.{read_for_c}
use Rattle.cell_c.proofs.cell_c_read_into.Goals as goal

pub returns : goal.returns
returns c = read_for_c c.in-Some.ensures.taken c.of.ensures (subst (λ (h : Holder). IsHolderRead IsAnyReadInto h c.args.out.now c.args.count.now c.read_into-answer.result c.read_into-answer.new.holder c.read_into-answer.new.out c.read_into-answer.new.count) c.deref_mut.ensures.value c.read_into-answer.ensures)
