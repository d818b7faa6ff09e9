use Rattle.std.proofs.Common.{rules}
use Rattle.jvm_types.{specs.ReadingPool.text_wanted, proofs.LoopLaws.{text_more, text_stops, text_done}}
use Rattle.class_reader.proofs.pool_entries.check_text.Goals as goal

pub returns-then-not-is_utf8_byte : goal.returns-then-not-is_utf8_byte
returns-then-not-is_utf8_byte c = text_stops c.args.text.now c.args.behind c.loop-i.i (text_wanted c.args.text.now c.args.behind) c.loop-i-test.true (search rules) c.loop-i.invariant

pub loop-i-preserved : goal.loop-i-preserved
loop-i-preserved c = text_more c.args.text.now c.args.behind c.loop-i.i (text_wanted c.args.text.now c.args.behind) c.loop-i-test.true (search rules) c.loop-i.invariant

pub returns : goal.returns
returns c = text_done c.args.text.now c.args.behind c.loop-i.i (text_wanted c.args.text.now c.args.behind) c.loop-i-test.false c.loop-i.invariant
