use Rattle.std.proofs.Common.{◌≡◌, ◌-◌, get_or, rules}
use Rattle.asm_text.proofs.WordLaws.{read_more}
use Rattle.asm_text.proofs.words.unsigned.Goals as goal

pub loop-digit-preserved : goal.loop-digit-preserved
loop-digit-preserved c =
    let digit : c.from.result ≡ get_or c.args.word.now c.loop-digit.digit-index 0 - 48 = first_of (cc, search rules) in
    read_more c.loop-digit.number _ c.args.word.now c.loop-digit.digit-index c.from.result c.loop-digit-test.true digit c.loop-digit.invariant
