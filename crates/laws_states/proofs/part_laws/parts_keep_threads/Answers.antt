use Rattle.laws_states.proofs.{NextThreads.next_threads_are, StartThreads.start_threads}
use Rattle.laws_states.proofs.part_laws.parts_keep_threads.Goals as goal

pub returns : goal.returns
returns c = λ p cfg marked set. record { begin = start_threads p cfg set; go_on = next_threads_are p cfg }
