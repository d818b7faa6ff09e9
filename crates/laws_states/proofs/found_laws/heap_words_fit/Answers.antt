use Rattle.laws_states.proofs.Found.{heap_fits}
use Rattle.laws_states.proofs.found_laws.heap_words_fit.Goals as goal

pub returns : goal.returns
returns c = heap_fits
