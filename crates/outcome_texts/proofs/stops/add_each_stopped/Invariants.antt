use Rattle.std.{proofs.Common.{◌≡◌, ◌++◌, drop}, specs.List.flat_map}
use Rattle.outcomes.specs.Stops.{stopped_thread}
use Rattle.outcome_texts.specs.OutcomeFacts.{stopped_facts}
use Rattle.outcome_texts.proofs.stops.add_each_stopped.Given as goal

abbrev pub invariant-loop-t : goal.invariant-loop-t
invariant-loop-t l =
    l.facts ++ flat_map (λ t. stopped_facts l.p.program l.sources (stopped_thread l.q.state t)) (drop l.t-index l.threads)
    ≡ l.fn.facts ++ flat_map (λ t. stopped_facts l.p.program l.sources (stopped_thread l.q.state t)) l.threads
