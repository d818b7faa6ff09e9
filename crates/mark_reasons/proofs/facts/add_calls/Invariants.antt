use Rattle.std.{proofs.Common.{◌≡◌, ◌++◌, drop}, specs.List.flat_map}
use Rattle.mark_reasons.specs.ReasonFacts.{call_facts}
use Rattle.mark_reasons.proofs.facts.add_calls.Given as goal

abbrev pub invariant-loop-site : goal.invariant-loop-site
invariant-loop-site l = l.facts ++ flat_map (call_facts l.p l.sources) (drop l.site-index l.way) ≡ l.fn.facts ++ flat_map (call_facts l.p l.sources) l.way
