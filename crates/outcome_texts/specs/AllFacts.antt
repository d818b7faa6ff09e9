-- What is told of all outcomes together, and of what no run is to do.
use Rattle.std.specs.Prelude.{ℕ, ◌+◌, ◌==◌, Bool, true, false, ◌&&◌, List, [], ◌∷◌, ◌++◌, codes}
use Rattle.std.specs.Prelude.{if◌then◌else◌, length, Option, Some, None, slice_get}
use Rattle.std.specs.List.{flat_map}
use Rattle.std.specs.Fmt.{signed_decimal}
use Rattle.json_lines.specs.declared.form.Form.{Form}
use Rattle.jvm_types.specs.declared.program.Program.{Program}
use Rattle.outcomes.specs.declared.listing.Listed.{Listed}
use Rattle.outcomes.specs.declared.all_outcomes.Outcomes.{Outcomes}
use Rattle.outcomes.specs.declared.printing.Printing.{Printing}
use Rattle.outcomes.specs.declared.reached.Reached.{Reached}
use Rattle.source_lines.specs.declared.sources.Sources.{Sources}
use Rattle.tellings.specs.Forms.{told_in}
use Rattle.tellings.specs.declared.facts.Fact.{Fact}
use Rattle.tellings.specs.declared.facts.Fact.TheVariants.{Words, Text, Count, Value, Lists}
use Rattle.tellings.specs.declared.facts.Fact.TheVariants.{Item, Closes, Ends}
use Rattle.tellings.specs.declared.keys.Key.TheVariants as keys
use Rattle.outcome_texts.specs.Expected.{expectation_text}
use Rattle.outcome_texts.specs.OutcomeFacts.{dash_if_none, ends_facts, is_stuck, outcome_texts}
use Rattle.outcome_texts.specs.StepFacts.{steps_facts}
use Rattle.outcome_texts.specs.Findings.{finding}
use Rattle.outcome_texts.specs.declared.findings.Finding.{Finding}
use Rattle.outcome_texts.specs.declared.findings.Finding.TheVariants.{InOutcome, InNone, Nowhere}
use Rattle.outcome_texts.specs.declared.findings.Finding.TheVariants.{UncaughtInNone}
use Rattle.outcome_texts.specs.declared.findings.Forbidden.{Forbidden}
use Rattle.outcome_texts.specs.declared.findings.Forbidden.TheVariants as forbidden

-- ---- how many there are, and whether all orders were tried

-- one thing, or some
abbrev pub things : (one : List ℕ) → ℕ → List ℕ
things one n = one ++ (if n == 1 then [] else codes "s")

unfoldable pub tried_words : (is_whole : Bool) → List ℕ
tried_words true = codes ", and no other"
tried_words false = codes ", and not all orders were tried"

unfoldable pub tried_name : (is_whole : Bool) → List ℕ
tried_name true = codes "all"
tried_name false = codes "not all"

abbrev pub tried_facts : (is_whole : Bool) → List Fact
tried_facts is_whole =
    Words (tried_words is_whole) ∷ Text keys.AreTried (tried_name is_whole) ∷ []

abbrev pub stuck_count : List Listed → ℕ
stuck_count [] = 0
stuck_count (x ∷ listed) = (if is_stuck x.at.plain.state then 1 else 0) + stuck_count listed

abbrev pub outcome_count_facts : Outcomes → List Fact
outcome_count_facts o =
    Count keys.OutcomeCount (length o.listed)
    ∷ Words (things (codes " outcome") (length o.listed) ++ codes " of ")
    ∷ Count keys.StateCount o.states ∷ Words (things (codes " state") o.states)
    ∷ Count keys.StuckCount (stuck_count o.listed) ∷ tried_facts o.is_whole

-- ---- the printed numbers, in the order of the list

abbrev pub printed_facts : List Printing → List Fact
printed_facts printed =
    Lists keys.AllPrinted ∷ dash_if_none printed
    ++ flat_map (λ x. Item ∷ Value keys.PrintAlone x.value ∷ Closes ∷ []) printed ++ Ends ∷ []

-- ---- that no thread waits for ever, where all orders were tried and none was found

unfoldable pub never_facts : List Fact
never_facts = Words (codes "in no run do all that have not ended wait for ever") ∷ []

unfoldable pub never_name : List ℕ
never_name = codes "never_stuck"

abbrev pub never_text_if : Form → (is_never : Bool) → List ℕ
never_text_if form true = told_in form never_name never_facts
never_text_if form false = []

abbrev pub never_text : Form → Outcomes → List ℕ
never_text form o = never_text_if form (o.is_whole && stuck_count o.listed == 0)

-- ---- that no run ends, where all orders were tried and no state was found that has no step

unfoldable pub endless_facts : List Fact
endless_facts = Words (codes "no run ends: in each some thread can always go on") ∷ []

unfoldable pub endless_name : List ℕ
endless_name = codes "endless"

abbrev pub endless_text_if : Form → (is_endless : Bool) → List ℕ
endless_text_if form true = told_in form endless_name endless_facts
endless_text_if form false = []

abbrev pub endless_text : Form → Outcomes → List ℕ
endless_text form o = endless_text_if form (o.is_whole && length o.listed == 0)

-- ---- what no run is to do, where it was found

abbrev pub forbidden_word : Forbidden → List ℕ
forbidden_word (forbidden.Print value) = codes "print:" ++ signed_decimal value
forbidden_word forbidden.Stuck = codes "stuck"
forbidden_word forbidden.Uncaught = codes "uncaught"

abbrev pub printing_steps : Option Printing → List Fact
printing_steps None = []
printing_steps (Some x) = steps_facts x.at.steps

-- how the parts ended so far, and the steps that lead there
abbrev pub uncaught_facts : Program → Option Reached → List Fact
uncaught_facts p None = []
uncaught_facts p (Some at) = ends_facts p at.plain.state ++ steps_facts at.steps

abbrev pub finding_facts : Program → Outcomes → Finding → List Fact
finding_facts p o (InOutcome number) = Count keys.InOutcome number ∷ []
finding_facts p o (InNone i) =
    Words (codes ", in no outcome") ∷ printing_steps (slice_get o.printed i)
finding_facts p o UncaughtInNone =
    Words (codes ", in no outcome") ∷ uncaught_facts p o.uncaught
finding_facts p o Nowhere = []

unfoldable pub finding_name : List ℕ
finding_name = codes "forbidden"

abbrev pub finding_text : Form → Program → Outcomes → Forbidden → Finding → List ℕ
finding_text form p o what Nowhere = []
finding_text form p o what found =
    told_in form finding_name
    (Text keys.Forbidden (forbidden_word what) ∷ finding_facts p o found)

abbrev pub forbidden_text : Form → Program → Outcomes → Forbidden → List ℕ
forbidden_text form p o what = finding_text form p o what (finding p o what)

-- ---- all of it

abbrev pub all_text : Form → Outcomes → List ℕ
all_text form o =
    told_in form (codes "all") (outcome_count_facts o)
    ++ told_in form (codes "printed") (printed_facts o.printed)
    ++ never_text form o
    ++ endless_text form o

-- by a file of expected outcomes, if one is given
abbrev pub judged_text : Form → Program → Outcomes → List Forbidden → (file : Option (List ℕ))
    → List ℕ
judged_text form p o forbidden file =
    flat_map (forbidden_text form p o) forbidden ++ expectation_text form p o file

abbrev pub outcomes_text : Form → Program → Sources → Outcomes → List Forbidden
    → (file : Option (List ℕ)) → List ℕ
outcomes_text form p sources o forbidden file =
    outcome_texts form p sources 1 o.listed ++ all_text form o
    ++ judged_text form p o forbidden file
