use Rattle.std.{proofs.Common.{◌≡◌, ◌++◌, drop}, specs.List.flat_map}
use Rattle.machine_types.specs.PlainSteps.{first_end}
use Rattle.outcome_texts.specs.OutcomeFacts.{part_end_facts, ended_part}
use Rattle.outcome_texts.proofs.ends.add_thread_ends.Given as goal

abbrev pub invariant-loop-t : goal.invariant-loop-t
invariant-loop-t l =
    l.facts ++ flat_map (λ t. part_end_facts (ended_part t) (first_end l.q.state t)) (drop l.t-index l.threads)
    ≡ l.fn.facts ++ flat_map (λ t. part_end_facts (ended_part t) (first_end l.q.state t)) l.threads
