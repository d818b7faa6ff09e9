-- The report of a run of a cell: what was asked for, then its writes, its whole reads, and the
-- workers that stopped.
use Rattle.std.specs.Prelude.{ℕ, List, ◌++◌, codes}
use Rattle.std.specs.Fmt.{decimal}
use Rattle.run_texts.specs.Report.{line}
use Rattle.run_texts.specs.declared.cells.CellCounts.{CellCounts}

abbrev pub cell_text : CellCounts → List ℕ
cell_text c =
    line (codes "cell threads " ++ decimal c.threads ++ codes " size " ++ decimal c.size)
    ++ line (codes "writes " ++ decimal c.writes) ++ line (codes "reads " ++ decimal c.reads)
    ++ line (codes "stopped " ++ decimal c.stopped)
