-- What the program owes to its words and files: a text, and a status with it.
use Rattle.std.specs.Prelude.{◌≡◌, ◌⊎◌, ℕ, ◌≤◌, Bool, true, List, [], ◌++◌, length, codes, Option}
use Rattle.std.specs.Prelude.{Some, None, IfSome}
use Rattle.std.specs.List.{AllByRecursion, AllZip}
use Rattle.field_names.specs.FieldNames.{all_field_names}
use Rattle.source_lines.specs.Sources.{sources_of}
use Rattle.jvm_types.specs.ClassGrammar.{Spells}
use Rattle.jvm_types.specs.declared.class_file.ClassFile.{ClassFile}
use Rattle.checked_program.specs.MarkedProgram.{MarkedProgram}
use Rattle.class_runner.specs.Loading.{IsAccepted, IsLoaded, IsRefusedBy}
use Rattle.host_io.specs.Faults.{CountsFault}
use Rattle.host_io.specs.Reading.{contents_of, first_long}
use Rattle.host_io.specs.Shelf.{IsContentOf}
use Rattle.host_io.specs.declared.shelf.NamedFile.{NamedFile}
use Rattle.json_lines.specs.Json.{text_member}
use Rattle.jvm_types.specs.LinkFaults.{in_file}
use Rattle.jvm_types.specs.declared.limits.TheConstants.{MOST_FILE_BYTES}
use Rattle.jvm_types.specs.declared.refusal.CRule.TheVariants.{C10}
use Rattle.jvm_types.specs.declared.refusal.Place.{Place}
use Rattle.jvm_types.specs.declared.refusal.Rule.{Rule}
use Rattle.jvm_types.specs.declared.refusal.Rule.TheVariants as rules
use Rattle.refusal_places.specs.Explained.{Explains}
use Rattle.json_lines.specs.declared.form.Form.{Form}
use Rattle.json_lines.specs.declared.form.Form.TheVariants.{Lines, Json}
use Rattle.run_texts.specs.Report.{line}
use Rattle.run_texts.specs.Unread.{unread_line}
use Rattle.place_names.specs.declared.names.Names.{Names}
use Rattle.program_answers.specs.Unread.{SaysUnread}
use Rattle.program_answers.specs.declared.answer.Due.{Due}
use Rattle.program_answers.specs.declared.answer.Due.TheVariants.{Report, Output, Usage, Refusal}
use Rattle.program_answers.specs.declared.answer.Due.TheVariants.{CannotRead, OutOfMemory}
use Rattle.solero_explain.specs.Command.{Question}
use Rattle.solero_explain.specs.declared.request.What.{What}
use Rattle.solero_explain.specs.declared.request.What.TheVariants as whats

-- the line of use
abbrev pub explain_usage : List ℕ
explain_usage = line (codes "usage: solero_explain --what WHAT [options] FILE...")

-- ---- files that are accepted

-- of files that no rule refuses
abbrev pub accepted_text : Form → List ℕ
accepted_text Lines = line (codes "accepted")
accepted_text Json = codes "{" ++ text_member (codes "what") (codes "accepted") ++ line (codes "}")

-- that is all that is told of them where a refusal is asked for
abbrev pub IsTold : What → Form → List ℕ → Type 0
IsTold whats.Refusal form text = text ≡ accepted_text form
IsTold what form text = ⊥

-- marks and runs are told as they are found
abbrev pub IsToldAtLength : What → Type 0
IsToldAtLength whats.Refusal = ⊥
IsToldAtLength what = Unit {0}

-- told of the program that the files are loaded to
pub record TellsProgram (asked : Question) (contents : List (List ℕ)) (text : List ℕ) : Type 0 where
  pub checked : MarkedProgram
  pub loaded : IsLoaded contents asked.heap asked.threads checked
  pub told : IsTold asked.what asked.form text

-- ---- files that are refused

-- A rule and a place refuse the files, as in `solero`. A file that is too long is refused when it
-- is read from the shelf, before any is read as a class.
abbrev pub IsRefusalByRule : Option ℕ → Question → List (List ℕ) → Rule → Place → Type 0
IsRefusalByRule (Some file) asked contents rule place =
    (rule ≡ rules.C C10) × (place ≡ in_file file MOST_FILE_BYTES)
IsRefusalByRule None asked contents rule place =
    IsRefusedBy contents asked.heap asked.threads rule place

-- the contents of the files, where no file is too long
abbrev pub contents_read : Option ℕ → List (List ℕ) → List (List ℕ)
contents_read (Some long) contents = []
contents_read None contents = contents

-- the text explains the rule and the place that refuse the files
pub record ExplainsRefusal (asked : Question) (contents : List (List ℕ)) (text : List ℕ)
    : Type 0 where
  pub rule : Rule
  pub place : Place
  pub refused : IsRefusalByRule (first_long 0 contents) asked contents rule place
  pub explained : Explains asked.form rule place asked.files
      (contents_read (first_long 0 contents) contents) text

-- ---- the file of expected outcomes

-- its content, where such a file is asked for
abbrev pub IsExpected : Option (List NamedFile) → (name file : Option (List ℕ)) → Type 0
IsExpected files None file = file ≡ None
IsExpected files (Some name) file =
    (content : List ℕ) × (file ≡ Some content) × IsContentOf files name content

-- the line of such a file that can't be read, with the number behind those of the classes
abbrev pub SaysExpectedUnread : Option (List ℕ → Bool) → Question → (text : List ℕ) → Type 0
SaysExpectedUnread unreadable asked text =
    (name : List ℕ) × (asked.expect ≡ Some name) × IfSome unreadable (λ test. test name ≡ true)
    × (text ≡ unread_line (length asked.files))

-- ---- what is due to the words and the shelf

-- told of the files that are asked for; where the shelf does not tell its files, of some of which
-- there are as many
pub record TellsFiles (files : Option (List NamedFile)) (asked : Question) (text : List ℕ)
    : Type 0 where
  pub contents : List (List ℕ)
  pub are : IfSome files (λ fs. contents ≡ contents_of fs asked.files)
  pub many : length contents ≡ length asked.files
  pub short : AllByRecursion (λ content. length content ≤ MOST_FILE_BYTES) contents
  pub tells : TellsProgram asked contents text

-- a refusal of the files that are asked for, likewise
pub record ExplainsFiles (files : Option (List NamedFile)) (asked : Question) (text : List ℕ)
    : Type 0 where
  pub contents : List (List ℕ)
  pub are : IfSome files (λ fs. contents ≡ contents_of fs asked.files)
  pub many : length contents ≡ length asked.files
  pub explains : ExplainsRefusal asked contents text

-- What is due to the words, of which None are not read, and to the files. The shelf tells its
-- files, and which it can't read, or None of these. Its count of faults goes from before to after.
-- Want of memory may come to any words. A run is told as it goes, so the report of none is due.
abbrev pub IsExplainDue : Option Question → Option (List NamedFile) → Option (List ℕ → Bool) → ℕ → ℕ
    → Due → Type 0
IsExplainDue asked files unreadable before after OutOfMemory = before ≤ after
IsExplainDue None files unreadable before after due = (due ≡ Usage) × (after ≡ before)
IsExplainDue (Some asked) files unreadable before after Usage = ⊥
IsExplainDue (Some asked) files unreadable before after (CannotRead text) =
    CountsFault before after
    × (SaysUnread files unreadable asked.files text ⊎ SaysExpectedUnread unreadable asked text)
IsExplainDue (Some asked) files unreadable before after (Refusal text) =
    (after ≡ before) × ExplainsFiles files asked text
IsExplainDue (Some asked) files unreadable before after (Output text) =
    (after ≡ before) × TellsFiles files asked text
IsExplainDue (Some asked) files unreadable before after (Report finish text) = ⊥

-- the program that the files are loaded to, whose marks or whose run is to be told, with the names
-- of its fields and the sources of its methods
pub record IsRunOf (asked : Question) (contents : List (List ℕ)) (checked : MarkedProgram)
    (names : Names) : Type 0 where
  pub what : IsToldAtLength asked.what
  pub loaded : IsLoaded contents asked.heap asked.threads checked
  pub named : (classes : List ClassFile) → AllZip Spells contents classes
      → names.fields ≡ all_field_names classes
  pub sourced : (classes : List ClassFile) → AllZip Spells contents classes
      → names.sources ≡ sources_of classes

-- of the files that are asked for; where the shelf does not tell its files, of some of which there
-- are as many
pub record RunsFiles (files : Option (List NamedFile)) (asked : Question) (checked : MarkedProgram)
    (names : Names) : Type 0 where
  pub contents : List (List ℕ)
  pub are : IfSome files (λ fs. contents ≡ contents_of fs asked.files)
  pub many : length contents ≡ length asked.files
  pub short : AllByRecursion (λ content. length content ≤ MOST_FILE_BYTES) contents
  pub run : IsRunOf asked contents checked names

-- no file that is asked for is too long, and all rules let them pass
abbrev pub AreUnrefused : List NamedFile → Question → Type 0
AreUnrefused files asked =
    (first_long 0 (contents_of files asked.files) ≡ None)
    × IsAccepted (contents_of files asked.files) asked.heap asked.threads
