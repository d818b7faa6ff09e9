use Rattle.std.{proofs.Common.{◌≡◌, ◌||◌, ◌++◌, drop}, specs.List.{flat_map, list_any}}
use Rattle.outcome_texts.specs.{AllFacts.forbidden_text, Findings.{finding, is_found}}
use Rattle.outcome_texts.proofs.found_texts.write_all_forbidden.Given as goal

abbrev pub invariant-loop-what : goal.invariant-loop-what
invariant-loop-what l = record {
  text : l.out.items ++ flat_map (forbidden_text l.form l.p.program l.o) (drop l.what-index l.forbidden)
      ≡ l.fn.out.items ++ flat_map (forbidden_text l.form l.p.program l.o) l.forbidden;
  found : (l.found || list_any (λ f. is_found (finding l.p.program l.o f)) (drop l.what-index l.forbidden))
      ≡ list_any (λ f. is_found (finding l.p.program l.o f)) l.forbidden;
}
