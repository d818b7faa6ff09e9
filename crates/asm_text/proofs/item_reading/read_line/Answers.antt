use Rattle.std.proofs.Common.{sym, ◌∙◌}
use Rattle.asm_text.proofs.LineLaws.{read_some, read_none}
use Rattle.asm_text.proofs.item_reading.read_line.Goals as goal

pub returns-then-branch : goal.returns-then-branch
returns-then-branch c = read_some c.args.line.now c.args.whole.now c.in_ok-item.item c.in_ok-item.ensures (sym c.in_ok-is_said.ensures ∙ c.if-branch.true)

pub returns-else-branch : goal.returns-else-branch
returns-else-branch c = read_none c.args.line.now c.args.whole.now c.in_ok-item.item c.in_ok-item.ensures c.requires (sym c.in_ok-is_said.ensures ∙ c.if-branch.false)
