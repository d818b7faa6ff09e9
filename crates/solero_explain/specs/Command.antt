-- What the words of `solero_explain` mean: those of a run, which `solero` has too, with what is to
-- be explained, and in which form.
use Rattle.std.specs.Prelude.{ℕ, Bool, List, [], ◌∷◌, length, codes, bytes_eq, Option, Some, None}
use Rattle.std.specs.Prelude.{if◌then◌else◌}
use Rattle.clap.specs.Walk.{Row, Text, first_of}
use Rattle.clap.specs.Simple.{App, new_rule, with_rule}
use Rattle.clap.specs.declared.builder.action.ArgAction.TheVariants.{SetTrue}
use Rattle.jvm_types.specs.declared.limits.TheConstants.{MOST_LIMIT}
use Rattle.run_trace.specs.declared.events.Part.{Part}
use Rattle.machine_types.specs.declared.config.Config.{Config}
use Rattle.command_words.specs.RunValues.{are_few, heap_of, order_of, settings_of, threads_of}
use Rattle.command_words.specs.Values.{◌>>=◌, number_or, on_or_off}
use Rattle.command_words.specs.Words.{command_of, found_in_words, gives_any, names_of}
use Rattle.json_lines.specs.declared.form.Form.{Form}
use Rattle.json_lines.specs.declared.form.Form.TheVariants.{Lines, Json}
use Rattle.tellings.specs.declared.facts.Fact.{Fact}
use Rattle.outcome_texts.specs.declared.telling.TheConstants.{MOST_STATES}
use Rattle.outcome_texts.specs.declared.findings.Forbidden.{Forbidden}
use Rattle.solero_explain.specs.Begins.{begin_of}
use Rattle.solero_explain.specs.Forbids.{forbidden_or_none}
use Rattle.solero_explain.specs.declared.request.What.{What}
use Rattle.solero_explain.specs.declared.command.TheConstants.{USUAL_OUTCOME_TURNS, USUAL_STATES}
use Rattle.solero_explain.specs.declared.request.What.TheVariants.{Refusal, Marks, Run, Outcomes}

-- ---- what clap finds

-- a flag, `--name`, which has no value
abbrev pub with_flag : App → Text → App
with_flag a name = with_rule a (record (new_rule name) { long = Some name; action = Some SetTrue })

abbrev pub explain_app : App
explain_app = with_flag (command_of (codes "solero_explain")
    (codes "what" ∷ codes "threads" ∷ codes "order" ∷ codes "steps" ∷ codes "turns" ∷ codes "heap"
    ∷ codes "prints" ∷ codes "elide" ∷ codes "range" ∷ codes "from" ∷ codes "events"
    ∷ codes "fold" ∷ codes "commit" ∷ codes "states" ∷ codes "forbid" ∷ codes "expect" ∷ []))
    (codes "json")

-- ---- values

-- what is to be explained has no usual value
abbrev pub what_of : Option Text → Option What
what_of None = None
what_of (Some text) =
    if bytes_eq text (codes "refusal") then Some Refusal else if bytes_eq text (codes "marks")
    then Some Marks else if bytes_eq text (codes "run") then Some Run
    else if bytes_eq text (codes "outcomes") then Some Outcomes else None

-- an order, a part of the lines, whether turns are folded and a commit are read with a run alone,
-- and a bound of states, what no run is to do and a file of expected outcomes with outcomes alone
abbrev pub not_read_with : What → List Text
not_read_with Run = codes "states" ∷ codes "forbid" ∷ codes "expect" ∷ []
not_read_with Outcomes =
    codes "order" ∷ codes "from" ∷ codes "events" ∷ codes "fold" ∷ codes "commit" ∷ []
not_read_with what =
    codes "order" ∷ codes "from" ∷ codes "events" ∷ codes "fold" ∷ codes "commit" ∷ codes "states"
    ∷ codes "forbid" ∷ codes "expect" ∷ []

-- where outcomes are asked for and no turns, a thread that waits for ever ends soon
abbrev pub settings_for : What → (turns : Option Text) → Config → Config
settings_for Outcomes None cfg = record cfg { turns = USUAL_OUTCOME_TURNS }
settings_for what turns cfg = cfg

-- the lines of a run from a number on, so many at most, with failed turns folded or not, in that
-- form
abbrev pub part_asked : (from events : ℕ) → (folds : Bool) → Form → Part
part_asked from events folds form =
    record { from = from; count = events; folds = folds; form = form }

-- clap says of a flag whether it is given
abbrev pub form_asked : Option Text → Form
form_asked None = Lines
form_asked (Some text) = if bytes_eq text (codes "true") then Json else Lines

abbrev pub files_of : List Text → Option (List Text)
files_of names = if are_few (length names) then Some names else None

-- ---- the whole

-- what the words ask for
pub record Question : Type 0 where
  pub what : What
  pub form : Form
  pub files : List Text
  pub threads : ℕ
  pub heap : ℕ
  pub cfg : Config
  pub order : List ℕ
  pub begin : List Fact
  pub part : Part
  pub states : ℕ
  pub forbidden : List Forbidden
  pub expect : Option Text

unfoldable pub question : (words : List Text) → List Row → Option Question
question words rows = do
  what ← what_of (first_of (codes "what") rows)
  files ← files_of (names_of rows)
  threads ← threads_of rows
  heap ← heap_of rows
  cfg ← settings_of rows
  order ← order_of rows
  from ← number_or 1 1 MOST_LIMIT (first_of (codes "from") rows)
  events ← number_or MOST_LIMIT 1 MOST_LIMIT (first_of (codes "events") rows)
  folds ← on_or_off (first_of (codes "fold") rows)
  states ← number_or USUAL_STATES 1 MOST_STATES (first_of (codes "states") rows)
  forbidden ← forbidden_or_none (first_of (codes "forbid") rows)
  if gives_any rows (not_read_with what) then None
      else Some (record {
        what = what;
        form = form_asked (first_of (codes "json") rows);
        files = files;
        threads = threads;
        heap = heap;
        cfg = settings_for what (first_of (codes "turns") rows) cfg;
        order = order;
        begin = begin_of words files rows;
        part = part_asked from events folds (form_asked (first_of (codes "json") rows));
        states = states;
        forbidden = forbidden;
        expect = first_of (codes "expect") rows;
      })

-- what the words ask for; None where they are not read
unfoldable pub explain_command : List Text → Option Question
explain_command words = found_in_words explain_app words >>= question words
