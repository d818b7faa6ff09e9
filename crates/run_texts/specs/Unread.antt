-- The line of a file that can't be read, by its number.
use Rattle.std.specs.Prelude.{ℕ, List, ◌++◌, codes}
use Rattle.std.specs.Fmt.{decimal}
use Rattle.run_texts.specs.Report.{line}

abbrev pub unread_line : ℕ → List ℕ
unread_line file = line (codes "cannot read file " ++ decimal file)
