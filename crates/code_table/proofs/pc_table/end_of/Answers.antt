use Rattle.std.proofs.Common.{sym}
use Rattle.code_table.proofs.PcLaws.{last_greatest}
use Rattle.code_table.proofs.pc_table.end_of.Goals as goal

pub returns-in-Some : goal.returns-in-Some
returns-in-Some c = last_greatest c.args.code.now c.in-Some.insn.now c.requires (sym c.in-Some.ensures.value)
