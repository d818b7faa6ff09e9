use Rattle.std.{proofs.Common.{◌≡◌, ◌++◌, drop}, specs.List.flat_map}
use Rattle.tellings.specs.Forms.{words_told}
use Rattle.tellings.proofs.forms.write_facts.Given as goal

abbrev pub invariant-loop-fact : goal.invariant-loop-fact
invariant-loop-fact l = l.out.items ++ flat_map words_told (drop l.fact-index l.facts) ≡ l.fn.out.items ++ flat_map words_told l.facts
