use Rattle.std.{proofs.Common.{◌≡◌, ◌++◌, ◌∷◌, [], drop}, specs.List.flat_map}
use Rattle.outcomes.specs.declared.printing.Printing.{Printing}
use Rattle.tellings.specs.declared.{facts.Fact.TheVariants.{Closes, Item, Value}, keys.Key.TheVariants.PrintAlone}
use Rattle.outcome_texts.proofs.all.add_values.Given as goal

abbrev pub invariant-loop-x : goal.invariant-loop-x
invariant-loop-x l =
    l.facts ++ flat_map (λ (x : Printing). Item ∷ Value PrintAlone x.value ∷ Closes ∷ []) (drop l.x-index l.printed)
    ≡ l.fn.facts ++ flat_map (λ (x : Printing). Item ∷ Value PrintAlone x.value ∷ Closes ∷ []) l.printed
