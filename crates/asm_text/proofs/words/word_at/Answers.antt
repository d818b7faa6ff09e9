use Rattle.asm_text.{specs.Words.words, proofs.WordLaws.none_there}
use Rattle.asm_text.proofs.words.word_at.Goals as goal

pub returns-in-None : goal.returns-in-None
returns-in-None c = none_there (words c.args.line.now) c.args.number c.in-None.ensures
