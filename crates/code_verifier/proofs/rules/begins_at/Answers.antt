use Rattle.code_table.proofs.PcLaws.{place_some}
use Rattle.code_verifier.proofs.rules.begins_at.Goals as goal

pub returns : goal.returns
returns c = rw (c.is_some.ensures, c.find.ensures) (place_some c.args.m.now.code c.args.pc)
