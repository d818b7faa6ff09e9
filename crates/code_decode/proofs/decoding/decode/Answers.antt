use Rattle.code_decode.proofs.Deciding.{only_by, spelled_by}
use Rattle.code_decode.proofs.decoding.decode.Goals as goal

pub returns-clause-only : goal.returns-clause-only
returns-clause-only c = only_by c.args.code.now c.args.rows.now c.decode_slice.result (rw (c.as_slice.ensures, c.as_slice-2.ensures) at c.decode_slice.ensures.code)

pub returns-clause-spelled : goal.returns-clause-spelled
returns-clause-spelled c = spelled_by c.args.code.now c.args.rows.now c.decode_slice.result (rw (c.as_slice.ensures, c.as_slice-2.ensures) at c.decode_slice.ensures.is)
