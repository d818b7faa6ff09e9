-- What the program owes to its words and files: a text, and a status with it.
use Rattle.std.specs.Prelude.{◌≡◌, ℕ, ◌+◌, ◌<◌, ◌≤◌, nat_lt, Bool, List, [], ◌∷◌, ◌++◌, length, map}
use Rattle.std.specs.Prelude.{take, codes, Option, Some, None, IfSome, Err, if◌then◌else◌}
use Rattle.std.specs.Fmt.{decimal, signed_decimal}
use Rattle.std.specs.List.{AllByRecursion, AllZip, flat_map, position_from}
use Rattle.assembler.specs.Assembling.{Assembles, ListsNone}
use Rattle.asm_text.specs.ClassLines.{Lists}
use Rattle.assembler.specs.declared.asm_error.AsmError.TheVariants.{Refused}
use Rattle.cell_runner.specs.CellRuns.{IsCellRun}
use Rattle.cell_runner.specs.declared.report.CellReport.{CellReport}
use Rattle.checked_program.specs.MarkedProgram.{MarkedProgram}
use Rattle.jvm_types.specs.ClassGrammar.{Spells}
use Rattle.jvm_types.specs.LinkFaults.{in_file}
use Rattle.jvm_types.specs.declared.class_file.ClassFile.{ClassFile}
use Rattle.jvm_types.specs.declared.limits.TheConstants.{MOST_FILE_BYTES}
use Rattle.jvm_types.specs.declared.outcome.Outcome.{Outcome}
use Rattle.jvm_types.specs.declared.refusal.Rule.TheVariants as rules
use Rattle.jvm_types.specs.declared.refusal.CRule.TheVariants.{C10}
use Rattle.jvm_types.specs.declared.refusal.Rule.{Rule}
use Rattle.jvm_types.specs.declared.refusal.Place.{Place}
use Rattle.machine_types.specs.Core.{Happening, core, outcome}
use Rattle.machine_types.specs.Faithful.{IsFaithful, IsOver, IsPlainRun}
use Rattle.machine_types.specs.PlainState.{Printed}
use Rattle.machine_types.specs.Schedules.{IsScheduleOf}
use Rattle.load_classes.specs.LoadClass.{load_class}
use Rattle.record_run.specs.Recordings.{IsRecorded}
use Rattle.run_texts.specs.CellText.{cell_text}
use Rattle.run_texts.specs.LoadText.{summary_text}
use Rattle.run_texts.specs.OrderText.{order_line}
use Rattle.run_texts.specs.Report.{counts_lines, end_lines, line, report_text}
use Rattle.run_texts.specs.Refusal.{refusal_text}
use Rattle.run_texts.specs.MarksText.{marks_text}
use Rattle.class_runner.specs.Loading.{IsAccepted, IsLoaded, IsRefusedBy, read_fault}
use Rattle.command_words.specs.Command.{Asked}
use Rattle.host_io.specs.Faults.{CountsFault}
use Rattle.host_io.specs.Reading.{contents_of, first_long}
use Rattle.host_io.specs.declared.shelf.NamedFile.{NamedFile}
use Rattle.program_answers.specs.Delivery.{IsDelivered}
use Rattle.program_answers.specs.Finish.{finish_of}
use Rattle.program_answers.specs.Unread.{SaysUnread}
use Rattle.program_answers.specs.declared.finish.Finish.{Finish}
use Rattle.program_answers.specs.declared.finish.Finish.TheVariants.{Returned, Limited}
use Rattle.command_words.specs.declared.request.Mode.{Mode}
use Rattle.command_words.specs.declared.request.Mode.TheVariants as modes
use Rattle.command_words.specs.declared.request.Task.{Task}
use Rattle.command_words.specs.declared.request.Task.TheVariants.{Replay, Run, Record, Mark}
use Rattle.program_answers.specs.declared.answer.Due.{Due}
use Rattle.program_answers.specs.declared.answer.Due.TheVariants.{Report, Output, Usage, Refusal}
use Rattle.program_answers.specs.declared.answer.Due.TheVariants.{CannotRead, OutOfMemory}

-- the line of use
abbrev pub usage_line : List ℕ
usage_line = line (codes "usage: solero [options] FILE...")

-- the text due is written, and its status answered; or the sink failed, and 5 is answered
abbrev pub Delivers : Option (List ℕ) → Option (List ℕ) → ℕ → ℕ → Due → ℕ → Type 0
Delivers = IsDelivered usage_line

-- ---- what is made of a program

-- the prints of a plain run, each on a line, in its order
abbrev pub plain_print_lines : List Printed → List ℕ
plain_print_lines prints = flat_map (λ x. line (signed_decimal x.value)) prints

-- the text of these prints, behind which stand how each part of a run ended and what its threads
-- counted
abbrev pub text_with_prints : List Printed → Outcome → List ℕ
text_with_prints prints o =
    plain_print_lines prints ++ end_lines o.threads o.done ++ counts_lines 0 o.threads

-- the text reports what a program comes to over these happenings, and how it finished
pub record ReportsOver (asked : Asked) (checked : MarkedProgram) (happenings : List Happening)
    (finish : Finish) (text : List ℕ) : Type 0 where
  -- the run stands for one of the plain machine with ordinary monitors, event by event
  pub plain : IsFaithful checked asked.cfg happenings
  -- and it is over: no thread is live, and no part may begin
  pub over : IsOver (core checked asked.cfg happenings)
  pub report : text ≡ report_text (outcome (core checked asked.cfg happenings))
  -- its print lines are the prints of that plain run, in its order
  pub prints : (run : IsPlainRun checked asked.cfg happenings)
      → text ≡ text_with_prints run.state.prints (outcome (core checked asked.cfg happenings))
  pub finished : finish ≡ finish_of (outcome (core checked asked.cfg happenings))

-- the same over exactly the schedule of the order that is asked for
pub record ReportsReplay (asked : Asked) (checked : MarkedProgram) (finish : Finish) (text : List ℕ)
    : Type 0 where
  pub happenings : List Happening
  pub schedule : IsScheduleOf checked asked.cfg asked.order happenings
  pub run : ReportsOver asked checked happenings finish text

-- the same over some happenings: in which order the threads came, nobody kept
pub record ReportsRun (asked : Asked) (checked : MarkedProgram) (finish : Finish) (text : List ℕ)
    : Type 0 where
  pub happenings : List Happening
  pub run : ReportsOver asked checked happenings finish text

-- The same over the schedule of the order in which the workers' events came, the line of which
-- stands behind the report. A replay by this order comes to the same.
pub record ReportsRecord (asked : Asked) (checked : MarkedProgram) (finish : Finish) (text : List ℕ)
    : Type 0 where
  pub order : List ℕ
  pub happenings : List Happening
  pub schedule : IsScheduleOf checked asked.cfg order happenings
  -- it has at most as many events as are asked for, each of a worker that was live as its turn came
  pub recorded : IsRecorded checked asked.cfg asked.events order
      (outcome (core checked asked.cfg happenings))
  pub report : List ℕ
  pub run : ReportsOver asked checked happenings finish report
  pub with_order : text ≡ report ++ order_line order

-- what a task makes of a program: the report of a replay, of a run or of a record, or its marks
abbrev pub IsMadeBy : Task → Asked → MarkedProgram → Due → Type 0
IsMadeBy Replay asked checked (Report finish text) = ReportsReplay asked checked finish text
IsMadeBy Run asked checked (Report finish text) = ReportsRun asked checked finish text
IsMadeBy Record asked checked (Report finish text) = ReportsRecord asked checked finish text
IsMadeBy Mark asked checked (Output text) = text ≡ marks_text checked.program checked.marks
IsMadeBy task asked checked due = ⊥

-- what the task makes of the program that the files are loaded to
pub record IsMadeOfProgram (task : Task) (asked : Asked) (contents : List (List ℕ)) (due : Due)
    : Type 0 where
  pub checked : MarkedProgram
  pub loaded : IsLoaded contents asked.heap asked.threads checked
  pub made : IsMadeBy task asked checked due

-- ---- a class as text

-- the text lists the class that the one file spells
pub record IsListed (files : List (List ℕ)) (text : List ℕ) : Type 0 where
  pub class : ClassFile
  pub spelled : AllZip Spells files (class ∷ [])
  pub listed : Lists text class

-- the bytes spell the class that the text of the one file lists
pub record IsAssembled (files : List (List ℕ)) (bytes : List ℕ) : Type 0 where
  pub class : ClassFile
  pub listed : AllZip Lists files (class ∷ [])
  pub spelled : Spells bytes class

-- a rule of assembling refuses the text of the one file, at a line or at 0, and the text lists no
-- class
abbrev pub IsRefusedText : List (List ℕ) → Rule → Place → Type 0
IsRefusedText (text ∷ []) (rules.A rule) place =
    Assembles text (Err (Refused rule place.at)) × ListsNone text × (place ≡ in_file 0 place.at)
IsRefusedText files rule place = ⊥

-- ---- a load

-- the class that is made from the size and the number that are asked for
unfoldable pub class_of_load : Asked → ClassFile
class_of_load asked = load_class asked.size asked.seed

-- the one file spells it
abbrev pub IsFileOfLoad : Asked → List (List ℕ) → Type 0
IsFileOfLoad asked files = AllZip Spells files (class_of_load asked ∷ [])

-- the text sums up what a program comes to over some happenings: what was asked for, and then the
-- report of this run without its counts
pub record SumsUp (asked : Asked) (checked : MarkedProgram) (finish : Finish) (text : List ℕ)
    : Type 0 where
  pub happenings : List Happening
  pub report : List ℕ
  pub run : ReportsOver asked checked happenings finish report
  pub summed : text
      ≡ summary_text asked.size asked.seed (outcome (core checked asked.cfg happenings))

-- the same of the program that the file of the load is loaded to
pub record IsLoadSummary (asked : Asked) (finish : Finish) (text : List ℕ) : Type 0 where
  pub files : List (List ℕ)
  pub made : IsFileOfLoad asked files
  pub checked : MarkedProgram
  pub loaded : IsLoaded files asked.heap asked.threads checked
  pub sums : SumsUp asked checked finish text

-- all rules let the file of the load pass
abbrev pub IsLoadAccepted : Asked → Type 0
IsLoadAccepted asked =
    (files : List (List ℕ)) × IsFileOfLoad asked files × IsAccepted files asked.heap asked.threads

-- a rule refuses it, at a place
abbrev pub IsLoadRefused : Asked → Rule → Place → Type 0
IsLoadRefused asked rule place =
    (files : List (List ℕ)) × IsFileOfLoad asked files
    × IsRefusedBy files asked.heap asked.threads rule place

-- ---- a cell

-- a worker stops at the limit of failed turns
abbrev pub cell_finish : (stopped : ℕ) → Finish
cell_finish stopped = if nat_lt 0 stopped then Limited else Returned

-- the text reports a run of a cell with the workers, rounds and limit of failed turns that are
-- asked for, and how it finished
pub record IsCellReport (asked : Asked) (finish : Finish) (text : List ℕ) : Type 0 where
  pub came : CellReport
  pub run : IsCellRun asked.threads asked.size asked.cfg.turns came
  pub report : text
      ≡ cell_text (record {
        threads = asked.threads;
        size = asked.size;
        writes = came.writes;
        reads = came.reads;
        stopped = came.stopped;
      })
  pub finished : finish ≡ cell_finish came.stopped

-- ---- what is due to the contents of the files

-- what the mode makes of the files
abbrev pub IsMadeIn : Mode → Asked → List (List ℕ) → Due → Type 0
IsMadeIn (modes.Program task) asked contents due = IsMadeOfProgram task asked contents due
IsMadeIn modes.List asked contents (Output text) = IsListed contents text
IsMadeIn modes.List asked contents due = ⊥
IsMadeIn modes.Assemble asked contents (Output bytes) = IsAssembled contents bytes
IsMadeIn modes.Assemble asked contents due = ⊥
IsMadeIn modes.Load asked contents (Report finish text) = IsLoadSummary asked finish text
IsMadeIn modes.Load asked contents due = ⊥
IsMadeIn modes.Cell asked contents (Report finish text) = IsCellReport asked finish text
IsMadeIn modes.Cell asked contents due = ⊥

-- the mode takes the files, none of which is too long: all rules let them pass, or those of
-- reading; or the text lists a class; and all rules let the class of a load pass
abbrev pub IsAcceptedIn : Mode → Asked → List (List ℕ) → Type 0
IsAcceptedIn (modes.Program task) asked contents = IsAccepted contents asked.heap asked.threads
IsAcceptedIn modes.List asked contents = read_fault 0 contents ≡ None
IsAcceptedIn modes.Assemble asked contents =
    (class : ClassFile) × AllZip Lists contents (class ∷ [])
IsAcceptedIn modes.Load asked contents = IsLoadAccepted asked
IsAcceptedIn modes.Cell asked contents = Unit {0}

-- a rule and a place refuse them in the mode, or the class of a load
abbrev pub IsRefusedIn : Mode → Asked → List (List ℕ) → Rule → Place → Type 0
IsRefusedIn (modes.Program task) asked contents rule place =
    IsRefusedBy contents asked.heap asked.threads rule place
IsRefusedIn modes.List asked contents rule place = read_fault 0 contents ≡ Some (rule, place)
IsRefusedIn modes.Assemble asked contents rule place = IsRefusedText contents rule place
IsRefusedIn modes.Load asked contents rule place = IsLoadRefused asked rule place
IsRefusedIn modes.Cell asked contents rule place = ⊥

-- A rule and a place refuse the files. A file that is too long is refused when it is read from the
-- shelf, before any is read as a class.
abbrev pub IsRefusalInMode : Option ℕ → Asked → List (List ℕ) → Rule → Place → Type 0
IsRefusalInMode (Some file) asked contents rule place =
    (rule ≡ rules.C C10) × (place ≡ in_file file MOST_FILE_BYTES)
IsRefusalInMode None asked contents rule place = IsRefusedIn asked.mode asked contents rule place

-- the text is the line of a rule and a place that refuse the files
pub record Refuses (asked : Asked) (contents : List (List ℕ)) (text : List ℕ) : Type 0 where
  pub rule : Rule
  pub place : Place
  pub refused : IsRefusalInMode (first_long 0 contents) asked contents rule place
  pub is_line : text ≡ refusal_text rule place

-- ---- what is due to the words and the shelf

-- made of the files that are asked for; where the shelf does not tell its files, of some of which
-- there are as many
pub record IsMadeOf (files : Option (List NamedFile)) (asked : Asked) (due : Due) : Type 0 where
  pub contents : List (List ℕ)
  pub are : IfSome files (λ fs. contents ≡ contents_of fs asked.files)
  pub many : length contents ≡ length asked.files
  pub short : AllByRecursion (λ content. length content ≤ MOST_FILE_BYTES) contents
  pub made : IsMadeIn asked.mode asked contents due

-- the line of a refusal of the files that are asked for; where the shelf does not tell its files,
-- of some of which there are as many
pub record RefusesFiles (files : Option (List NamedFile)) (asked : Asked) (text : List ℕ)
    : Type 0 where
  pub contents : List (List ℕ)
  pub are : IfSome files (λ fs. contents ≡ contents_of fs asked.files)
  pub many : length contents ≡ length asked.files
  pub refuses : Refuses asked contents text

-- What is due to the words, of which None are not read, and to the files. The shelf tells its
-- files, and which it can't read, or None of these. Its count of faults goes from before to after.
-- Want of memory may come to any words.
abbrev pub IsDue : Option Asked → Option (List NamedFile) → Option (List ℕ → Bool) → ℕ → ℕ → Due
    → Type 0
IsDue asked files unreadable before after OutOfMemory = before ≤ after
IsDue None files unreadable before after due = (due ≡ Usage) × (after ≡ before)
IsDue (Some asked) files unreadable before after Usage = ⊥
IsDue (Some asked) files unreadable before after (CannotRead text) =
    CountsFault before after × SaysUnread files unreadable asked.files text
IsDue (Some asked) files unreadable before after (Refusal text) =
    (after ≡ before) × RefusesFiles files asked text
IsDue (Some asked) files unreadable before after due = (after ≡ before) × IsMadeOf files asked due

-- no file that is asked for is too long, and the mode takes them
abbrev pub AreAccepted : List NamedFile → Asked → Type 0
AreAccepted files asked =
    (first_long 0 (contents_of files asked.files) ≡ None)
    × IsAcceptedIn asked.mode asked (contents_of files asked.files)
