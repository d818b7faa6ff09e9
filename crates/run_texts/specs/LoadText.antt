-- The summary of a load: what was asked for, and then the report of its run without the counts.
use Rattle.std.specs.Prelude.{ℕ, List, ◌++◌, codes}
use Rattle.std.specs.Fmt.{decimal}
use Rattle.jvm_types.specs.declared.outcome.Outcome.{Outcome}
use Rattle.run_texts.specs.Report.{end_lines, line, print_lines}

abbrev pub load_line : (size seed : ℕ) → List ℕ
load_line size seed = line (codes "load size " ++ decimal size ++ codes " seed " ++ decimal seed)

abbrev pub summary_text : (size seed : ℕ) → Outcome → List ℕ
summary_text size seed o =
    load_line size seed ++ print_lines o.threads ++ end_lines o.threads o.done
