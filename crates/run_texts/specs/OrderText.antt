-- The line of a recorded order: the numbers of its workers one behind the other, or a dash where
-- there are none.
use Rattle.std.specs.Prelude.{ℕ, List, [], ◌∷◌, ◌++◌, codes}
use Rattle.std.specs.List.{flat_map}
use Rattle.std.specs.Fmt.{decimal}
use Rattle.run_texts.specs.Report.{line}

abbrev pub order_words : List ℕ → List ℕ
order_words [] = codes "-"
order_words (t ∷ ts) = flat_map decimal (t ∷ ts)

abbrev pub order_line : List ℕ → List ℕ
order_line order = line (codes "order " ++ order_words order)
