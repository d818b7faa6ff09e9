-- Sections of a program, fact by fact: where one begins in its method, and its mark.
use Rattle.std.specs.Prelude.{ℕ, List, [], ◌∷◌, ◌++◌, codes}
use Rattle.std.specs.Fmt.{decimal}
use Rattle.checked_program.specs.declared.section.Spot.{Spot}
use Rattle.checked_program.specs.declared.section.Spot.TheVariants.{Method, Block}
use Rattle.tellings.specs.declared.facts.Fact.{Fact}
use Rattle.tellings.specs.declared.facts.Fact.TheVariants.{Text, Count}
use Rattle.tellings.specs.declared.keys.Key.TheVariants as keys

abbrev pub section_spot_facts : Spot → List Fact
section_spot_facts Method = Text keys.Spot (codes "method") ∷ []
section_spot_facts (Block pc) = Text keys.Spot (codes "block") ∷ Count keys.SpotPc pc ∷ []

-- a mark, or a rule
abbrev pub mark_name : ℕ → List ℕ
mark_name n = codes "M" ++ decimal n
