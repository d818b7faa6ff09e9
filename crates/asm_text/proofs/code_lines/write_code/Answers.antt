use Rattle.asm_text.proofs.ListedCode.{bytes_text}
use Rattle.asm_text.proofs.code_lines.write_code.Goals as goal

pub returns-in-None : goal.returns-in-None
returns-in-None c = rw (bytes_text c.args.code.now (rw c.in-None.is at c.in_ok-insns.ensures)) (rw c.as_slice-in-None.ensures at c.write_bytes.ensures)
