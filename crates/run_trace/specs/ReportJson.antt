-- The report of a run as objects of JSON, each on a line: of each thread its prints in its order,
-- how it ended and what it counted; and how `done` ended.
use Rattle.std.specs.Prelude.{ℕ, ◌+◌, List, [], ◌∷◌, ◌++◌, codes}
use Rattle.std.specs.List.{flat_map}
use Rattle.json_lines.specs.declared.form.Form.{Form}
use Rattle.json_lines.specs.declared.form.Form.TheVariants.{Lines, Json}
use Rattle.jvm_types.specs.declared.outcome.Counts.{Counts}
use Rattle.jvm_types.specs.declared.outcome.End.{End}
use Rattle.jvm_types.specs.declared.outcome.Outcome.{Outcome}
use Rattle.jvm_types.specs.declared.outcome.Print.{Print}
use Rattle.jvm_types.specs.declared.outcome.ThreadReport.{ThreadReport}
use Rattle.run_texts.specs.Report.{end_text, report_text}
use Rattle.tellings.specs.Forms.{object_of}
use Rattle.tellings.specs.declared.facts.Fact.{Fact}
use Rattle.tellings.specs.declared.facts.Fact.TheVariants.{Count, Text, Value}
use Rattle.tellings.specs.declared.keys.Key.TheVariants as keys

-- its ticket is its place among the prints of all threads
abbrev pub print_facts : (thread : ℕ) → Print → List Fact
print_facts thread p =
    Count keys.Thread thread ∷ Count keys.Ticket p.ticket ∷ Value keys.Printed p.value ∷ []

abbrev pub count_facts : Counts → List Fact
count_facts c =
    Count keys.Instructions c.instructions ∷ Count keys.Elided c.elided
    ∷ Count keys.Failed c.failed ∷ Count keys.Locked c.locked ∷ Count keys.Inflated c.inflated ∷ []

abbrev pub its_end : End → Fact
its_end end = Text keys.ItsEnd (end_text end)

abbrev pub thread_report_facts : (thread : ℕ) → ThreadReport → List Fact
thread_report_facts thread t =
    (Count keys.Thread thread ∷ its_end t.end ∷ []) ++ count_facts t.counts

abbrev pub print_object : (thread : ℕ) → Print → List ℕ
print_object thread p = object_of (codes "print") (print_facts thread p)

abbrev pub thread_objects : (thread : ℕ) → List ThreadReport → List ℕ
thread_objects thread [] = []
thread_objects thread (t ∷ ts) =
    flat_map (print_object thread) t.prints ++ object_of (codes "thread") (thread_report_facts thread t)
    ++ thread_objects (thread + 1) ts

abbrev pub report_objects : Outcome → List ℕ
report_objects o =
    thread_objects 0 o.threads ++ object_of (codes "done") (its_end o.done ∷ [])

-- in the form that is asked for
abbrev pub report_in : Form → Outcome → List ℕ
report_in Lines o = report_text o
report_in Json o = report_objects o
