use Rattle.event_texts.proofs.word_facts.add_word.Goals as goal

pub returns-in-Waiting : goal.returns-in-Waiting
returns-in-Waiting c = rw c.in-Waiting.is c.add_record-in-Waiting.ensures
