-- What is told of an outcome: what was printed, how parts ended that did not return, an order that
-- comes to it or steps that lead there, and which threads stopped, where, and what keeps them.
use Rattle.std.specs.Prelude.{ℕ, ◌+◌, ◌-◌, ◌==◌, Bool, List, [], ◌∷◌, ◌++◌, codes, if◌then◌else◌}
use Rattle.std.specs.Prelude.{Option, Some, None, is_some}
use Rattle.std.specs.List.{flat_map, list_any}
use Rattle.event_texts.specs.MonitorFacts.{on_monitor}
use Rattle.json_lines.specs.declared.form.Form.{Form}
use Rattle.jvm_types.specs.declared.outcome.End.{End}
use Rattle.jvm_types.specs.declared.outcome.End.TheVariants.{Returned}
use Rattle.jvm_types.specs.declared.program.Program.{Program}
use Rattle.machine_types.specs.PlainState.{Plain, Printed}
use Rattle.machine_types.specs.PlainSteps.{first_end, plain_done_end}
use Rattle.machine_types.specs.declared.plain.PlainStep.{PlainStep}
use Rattle.outcomes.specs.Stops.{stopped_thread}
use Rattle.outcomes.specs.declared.listing.Listed.{Listed}
use Rattle.outcomes.specs.declared.ordering.Ordered.{Ordered}
use Rattle.outcomes.specs.declared.stopping.Stop.{Stop}
use Rattle.outcomes.specs.declared.stopping.Stop.TheVariants.{Enters, Stands, TakesBack}
use Rattle.outcomes.specs.declared.stopping.Stop.TheVariants.{Waits}
use Rattle.outcomes.specs.declared.stopping.Stopped.{Stopped}
use Rattle.place_names.specs.PlaceFacts.{place_facts}
use Rattle.run_texts.specs.Report.{end_text}
use Rattle.source_lines.specs.declared.sources.Sources.{Sources}
use Rattle.tellings.specs.Forms.{told_in}
use Rattle.tellings.specs.declared.facts.Fact.{Fact}
use Rattle.tellings.specs.declared.facts.Fact.TheVariants.{Words, Text, Count, Value, Lists}
use Rattle.tellings.specs.declared.facts.Fact.TheVariants.{Item, Closes, Ends}
use Rattle.tellings.specs.declared.keys.Key.TheVariants as keys
use Rattle.outcome_texts.specs.OrderTexts.{order_text}
use Rattle.outcome_texts.specs.StepFacts.{steps_facts}

-- thread 0 and the workers, of which a program has 8 at most
abbrev pub all_threads : List ℕ
all_threads = 0 ∷ 1 ∷ 2 ∷ 3 ∷ 4 ∷ 5 ∷ 6 ∷ 7 ∷ 8 ∷ []

-- ---- prints, in order: each with its worker before it, and that of thread 0 alone

abbrev pub plain_print_facts : Printed → List Fact
plain_print_facts x =
    if x.thread == 0 then Item ∷ Count keys.PrintThreadUnsaid 0 ∷ Value keys.PrintAlone x.value
    ∷ Closes ∷ []
    else Item ∷ Count keys.PrintThread x.thread ∷ Value keys.PrintBehind x.value ∷ Closes ∷ []

-- a dash where there are none
abbrev pub dash_if_none : {A : Type 0} → List A → List Fact
dash_if_none [] = Words (codes " -") ∷ []
dash_if_none (x ∷ xs) = []

abbrev pub prints_facts : List Printed → List Fact
prints_facts prints =
    Lists keys.AllPrints ∷ dash_if_none prints ++ flat_map plain_print_facts prints ++ Ends ∷ []

-- ---- ends, of the parts that ended and did not return

abbrev pub part_end_facts : (part : Fact) → Option End → List Fact
part_end_facts part None = []
part_end_facts part (Some Returned) = []
part_end_facts part (Some end) = Item ∷ part ∷ Text keys.PartEnd (end_text end) ∷ Closes ∷ []

abbrev pub ended_part : (thread : ℕ) → Fact
ended_part thread =
    if thread == 0 then Text keys.EndPart (codes "init") else Count keys.EndThread thread

abbrev pub ends_facts : Program → Plain → List Fact
ends_facts p q =
    Lists keys.PartEnds ∷ flat_map (λ t. part_end_facts (ended_part t) (first_end q t)) all_threads
    ++ part_end_facts (Text keys.EndPart (codes "done")) (plain_done_end p q) ++ Ends ∷ []

-- ---- an order

abbrev pub order_facts : Option Ordered → List Fact
order_facts None = Words (codes ", no order of this machine found") ∷ []
order_facts (Some ordered) = Text keys.Order (order_text ordered.order) ∷ []

-- the steps that lead there, where no order is told
abbrev pub steps_if_none : Option Ordered → Option (List PlainStep) → List Fact
steps_if_none (Some ordered) steps = []
steps_if_none None steps = steps_facts steps

-- ---- threads that stopped

abbrev pub plain_stop_facts : Program → Stop → List Fact
plain_stop_facts p (Enters m) = on_monitor keys.Does (codes "enters") p m
plain_stop_facts p (TakesBack m) = on_monitor keys.Does (codes "takes back") p m
plain_stop_facts p (Waits m) = on_monitor keys.Does (codes "waits for") p m
plain_stop_facts p Stands = Text keys.Does (codes "stands") ∷ []

-- Where the instruction is that stops it: a thread that waits stands behind its call of `wait`, an
-- invokevirtual, which has three bytes, and one that enters a block behind the monitorenter, which
-- has one. One that enters by a call stands at 0, where the method begins.
abbrev pub stop_spot : Stop → (pc : ℕ) → ℕ
stop_spot (Enters m) pc = pc - 1
stop_spot (Waits m) pc = pc - 3
stop_spot (TakesBack m) pc = pc - 3
stop_spot stop pc = pc

abbrev pub keeper_facts : Option ℕ → List Fact
keeper_facts None = []
keeper_facts (Some t) = Count keys.HeldBy t ∷ []

abbrev pub stopped_facts : Program → Sources → Option Stopped → List Fact
stopped_facts p sources None = []
stopped_facts p sources (Some s) =
    Words (codes "\n ") ∷ Item ∷ Count keys.Thread s.thread
    ∷ place_facts p sources s.method (stop_spot s.stop s.pc) ++ plain_stop_facts p s.stop
    ++ keeper_facts s.holder ++ Closes ∷ []

-- some thread has begun and not ended
abbrev pub is_stuck : Plain → Bool
is_stuck q = list_any (λ t. is_some (stopped_thread q t)) all_threads

abbrev pub all_stopped_facts : Program → Sources → Plain → List Fact
all_stopped_facts p sources q =
    if is_stuck q then Lists keys.Stopped
    ∷ flat_map (λ t. stopped_facts p sources (stopped_thread q t)) all_threads ++ Ends ∷ []
    else []

-- ---- an outcome, by its number

unfoldable pub outcome_kind : Plain → List ℕ
outcome_kind q = if is_stuck q then codes "stuck" else codes "outcome"

abbrev pub outcome_facts : Program → Sources → (number : ℕ) → Listed → List Fact
outcome_facts p sources number x =
    Words (outcome_kind x.at.plain.state) ∷ Words (codes " ") ∷ Count keys.Number number
    ∷ prints_facts x.at.plain.state.prints ++ ends_facts p x.at.plain.state
    ++ order_facts x.ordered ++ all_stopped_facts p sources x.at.plain.state
    ++ steps_if_none x.ordered x.at.steps

abbrev pub outcome_text : Form → Program → Sources → (number : ℕ) → Listed → List ℕ
outcome_text form p sources number x =
    told_in form (outcome_kind x.at.plain.state) (outcome_facts p sources number x)

-- from a number on
abbrev pub outcome_texts : Form → Program → Sources → (number : ℕ) → List Listed → List ℕ
outcome_texts form p sources number [] = []
outcome_texts form p sources number (x ∷ listed) =
    outcome_text form p sources number x
    ++ outcome_texts form p sources (number + 1) listed
