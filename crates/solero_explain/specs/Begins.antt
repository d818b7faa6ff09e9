-- What a run was asked by, which a trace in objects begins with: the words behind the name of the
-- program, the names of the files, and the order and the commit where they are given.
use Rattle.std.specs.Prelude.{List, [], ◌∷◌, ◌++◌, codes, drop, Option, Some, None}
use Rattle.clap.specs.Walk.{Row, Text, first_of}
use Rattle.tellings.specs.declared.facts.Fact.{Fact}
use Rattle.tellings.specs.declared.facts.Fact.TheVariants as facts
use Rattle.tellings.specs.declared.keys.Key.{Key}
use Rattle.tellings.specs.declared.keys.Key.TheVariants as keys

abbrev pub given_facts : Key → Option Text → List Fact
given_facts key None = []
given_facts key (Some text) = facts.Text key text ∷ []

abbrev pub begin_facts : (words files : List Text) → (order commit : Option Text) → List Fact
begin_facts words files order commit =
    (facts.Texts keys.RunWords (drop 1 words) ∷ facts.Texts keys.Files files ∷ [])
    ++ given_facts keys.Order order ++ given_facts keys.Commit commit

-- the commit is told, and nothing else is done with it
abbrev pub begin_of : (words files : List Text) → List Row → List Fact
begin_of words files rows =
    begin_facts words files (first_of (codes "order") rows) (first_of (codes "commit") rows)
