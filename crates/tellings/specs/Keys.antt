-- What a fact is about: a row for each key, with the name of its member in an object, the words
-- around it on a line, and whether a line shows it.
use Rattle.std.specs.Prelude.{ℕ, Bool, true, false, List, [], codes}
use Rattle.tellings.specs.declared.keys.Key.{Key}
use Rattle.tellings.specs.declared.keys.Key.TheVariants as keys
use Rattle.tellings.specs.declared.keys.Row.{Row}

pub record KeyRow : Type 0 where
  pub member : List ℕ
  pub before : List ℕ
  pub behind : List ℕ
  pub is_shown : Bool

-- as the code has it
abbrev pub row_told : Row → KeyRow
row_told r = record {
  member = r.member.now;
  before = r.before.now;
  behind = r.behind.now;
  is_shown = r.is_shown;
}

abbrev pub shown_row : (member before behind : List ℕ) → KeyRow
shown_row member before behind =
    record { member = member; before = before; behind = behind; is_shown = true }

-- in an object alone
abbrev pub hidden_row : (member : List ℕ) → KeyRow
hidden_row member = record { member = member; before = []; behind = []; is_shown = false }

abbrev pub key_row : Key → KeyRow
-- of a run
key_row keys.RunWords = shown_row (codes "words") (codes "") (codes "")
key_row keys.Files = shown_row (codes "files") (codes ", files ") (codes "")
key_row keys.Order = shown_row (codes "order") (codes ", order ") (codes "")
key_row keys.Commit = shown_row (codes "commit") (codes ", commit ") (codes "")
-- of an event, of an end, of a part that begins
key_row keys.Number = shown_row (codes "number") (codes "") (codes "")
key_row keys.BeforeNumber = shown_row (codes "number") (codes "before ") (codes ":")
key_row keys.Thread = shown_row (codes "thread") (codes " thread ") (codes "")
key_row keys.InAttempt = shown_row (codes "in_attempt") (codes " in attempt ") (codes "")
key_row keys.Class = shown_row (codes "class") (codes " ") (codes "")
key_row keys.Method = shown_row (codes "method") (codes ".") (codes "")
key_row keys.Pc = shown_row (codes "pc") (codes " at ") (codes "")
key_row keys.Instruction = shown_row (codes "instruction") (codes " ") (codes "")
-- in the source: a file and a line there, one of them alone
key_row keys.SourceOfLine = shown_row (codes "source") (codes " (") (codes ":")
key_row keys.LineOfSource = shown_row (codes "line") (codes "") (codes ")")
key_row keys.SourceAlone = shown_row (codes "source") (codes " (") (codes ")")
key_row keys.LineAlone = shown_row (codes "line") (codes " (line ") (codes ")")
-- what it does, and behind how many failed turns that are left out
key_row keys.Does = shown_row (codes "does") (codes ", ") (codes "")
key_row keys.Throws = shown_row (codes "throws") (codes ", throws ") (codes "")
key_row keys.Ends = shown_row (codes "ends") (codes ", ends: ") (codes "")
key_row keys.Ended = shown_row (codes "ended") (codes ", ended: ") (codes "")
key_row keys.FailedTurns =
    shown_row (codes "failed_turns") (codes ", behind ") (codes " failed turns")
key_row keys.Access = shown_row (codes "access") (codes ", ") (codes "")
key_row keys.Word = shown_row (codes "word") (codes "") (codes "")
key_row keys.Found = shown_row (codes "found") (codes " ") (codes "")
key_row keys.Left = shown_row (codes "left") (codes " -> ") (codes "")
-- what an event does, and to which monitor
key_row keys.Monitor = shown_row (codes "monitor") (codes " ") (codes "")
key_row keys.MonitorClass = shown_row (codes "monitor_class") (codes " class ") (codes "")
key_row keys.Woken = shown_row (codes "woken") (codes " thread ") (codes " from")
key_row keys.LockMade = shown_row (codes "made") (codes " ") (codes "")
-- a word that threads share
key_row keys.WordKind = hidden_row (codes "word")
key_row keys.WordOf = shown_row (codes "word") (codes "") (codes " of")
key_row keys.FieldClass = shown_row (codes "class") (codes "") (codes "")
key_row keys.FieldObject = shown_row (codes "object") (codes "@") (codes "")
key_row keys.FieldName = shown_row (codes "field") (codes ".") (codes "")
key_row keys.ArrayObject = shown_row (codes "object") (codes "[I@") (codes "")
key_row keys.Index = shown_row (codes "index") (codes "[") (codes "]")
key_row keys.HeaderOf = shown_row (codes "object") (codes " of ") (codes "")
key_row keys.RecordOf = shown_row (codes "record") (codes " of record ") (codes " for")
-- what an instruction prints or leaves, the section of an entry, the method of a begin
key_row keys.Prints = shown_row (codes "prints") (codes ", prints ") (codes "")
key_row keys.Top = shown_row (codes "top") (codes ", top ") (codes "")
key_row keys.Section = shown_row (codes "section") (codes ", section") (codes "")
key_row keys.BeginsMethod = shown_row (codes "begins") (codes "") (codes "")
-- what becomes of attempts, locks and the part
key_row keys.AttemptBegins =
    shown_row (codes "attempt_begins") (codes ", attempt ") (codes " begins by Free(")
key_row keys.AttemptFails =
    shown_row (codes "attempt_fails") (codes ", attempt ") (codes " fails: not Free(")
key_row keys.AttemptFinishes =
    shown_row (codes "attempt_finishes") (codes ", attempt ") (codes " finishes")
key_row keys.Noted = shown_row (codes "noted") (codes "") (codes ")")
key_row keys.NotedThere = hidden_row (codes "noted")
key_row keys.LockMark = shown_row (codes "lock") (codes ", ") (codes "")
key_row keys.ComesToEnd =
    shown_row (codes "comes_to_its_end") (codes ", comes to its end: ") (codes "")
key_row keys.Plain = shown_row (codes "plain") (codes ", plain: ") (codes "")
key_row keys.OneStep = hidden_row (codes "plain")
key_row keys.OwedNone = hidden_row (codes "owed")
key_row keys.Owed = shown_row (codes "owed") (codes ", ") (codes " owed")
key_row keys.Between = shown_row (codes "between") (codes ", plain: enter, ") (codes " owed, exit")
key_row keys.End = shown_row (codes "end") (codes "") (codes ": ")
key_row keys.HeldBy = shown_row (codes "held_by") (codes ", held by thread ") (codes "")
key_row keys.Begins = hidden_row (codes "begins")
-- of a report
key_row keys.Ticket = hidden_row (codes "ticket")
key_row keys.Printed = hidden_row (codes "value")
key_row keys.ItsEnd = hidden_row (codes "end")
key_row keys.Instructions = hidden_row (codes "instructions")
key_row keys.Elided = hidden_row (codes "elided")
key_row keys.Failed = hidden_row (codes "failed")
key_row keys.Locked = hidden_row (codes "locked")
key_row keys.Inflated = hidden_row (codes "inflated")
-- of a section and its mark
key_row keys.SectionClass = shown_row (codes "class") (codes "") (codes "")
key_row keys.Spot = shown_row (codes "spot") (codes " ") (codes "")
key_row keys.SpotPc = shown_row (codes "pc") (codes " ") (codes "")
key_row keys.Mark = shown_row (codes "mark") (codes " ") (codes "")
key_row keys.Reason = hidden_row (codes "reason")
key_row keys.Rule = hidden_row (codes "rule")
key_row keys.Way = shown_row (codes "way") (codes "") (codes "")
key_row keys.Calls = shown_row (codes "calls") (codes "") (codes " calls as below ")
key_row keys.Cause = hidden_row (codes "cause")
key_row keys.Constructor = shown_row (codes "constructor") (codes "\n   ") (codes "")
key_row keys.Write = shown_row (codes "write") (codes "\n   ") (codes "")
key_row keys.Array = shown_row (codes "array") (codes "\n   ") (codes "")
-- of a refusal
key_row keys.FileNumber = hidden_row (codes "file_number")
key_row keys.MethodNumber = hidden_row (codes "method_number")
key_row keys.At = hidden_row (codes "at")
key_row keys.File = shown_row (codes "file") (codes "\n  file ") (codes "")
key_row keys.Offset = shown_row (codes "offset") (codes "\n  offset ") (codes "")
key_row keys.ClassOf = shown_row (codes "class") (codes "\n  class ") (codes "")
key_row keys.Source = shown_row (codes "source") (codes "\n  source ") (codes "")
key_row keys.FieldOf = shown_row (codes "field") (codes "\n  field ") (codes "")
key_row keys.MethodOf = shown_row (codes "method") (codes "\n  method ") (codes "")
key_row keys.RowOf = shown_row (codes "row") (codes "\n  row ") (codes "")
key_row keys.From = shown_row (codes "from") (codes "\n  from ") (codes "")
key_row keys.To = shown_row (codes "to") (codes "\n  to ") (codes "")
key_row keys.Handler = shown_row (codes "handler") (codes "\n  handler ") (codes "")
key_row keys.Catch = shown_row (codes "catch") (codes "\n  catch ") (codes "")
key_row keys.PcOf = shown_row (codes "pc") (codes "\n  pc ") (codes "")
key_row keys.InstructionOf = shown_row (codes "instruction") (codes "\n  instruction ") (codes "")
key_row keys.Constant = shown_row (codes "constant") (codes "\n  constant ") (codes "")
key_row keys.Line = shown_row (codes "line") (codes "\n  line ") (codes "")
key_row keys.Means = shown_row (codes "means") (codes "\n  means ") (codes "")
key_row keys.Instead = shown_row (codes "instead") (codes "\n  instead ") (codes "")
-- of an outcome, and of all of them
key_row keys.AllPrints = shown_row (codes "prints") (codes " prints") (codes "")
key_row keys.PrintThread = shown_row (codes "thread") (codes " ") (codes ":")
key_row keys.PrintThreadUnsaid = hidden_row (codes "thread")
key_row keys.PrintBehind = shown_row (codes "value") (codes "") (codes "")
key_row keys.PrintAlone = shown_row (codes "value") (codes " ") (codes "")
key_row keys.PartEnds = hidden_row (codes "ends")
key_row keys.EndPart = shown_row (codes "part") (codes ", ") (codes "")
key_row keys.EndThread = shown_row (codes "thread") (codes ", thread ") (codes "")
key_row keys.PartEnd = shown_row (codes "end") (codes " ") (codes "")
key_row keys.Stopped = hidden_row (codes "stopped")
key_row keys.PlainSteps = hidden_row (codes "steps")
key_row keys.StepsThread = shown_row (codes "thread") (codes "") (codes "")
key_row keys.Steps = shown_row (codes "steps") (codes " ") (codes "")
key_row keys.OutcomeCount = shown_row (codes "outcomes") (codes "") (codes "")
key_row keys.StateCount = shown_row (codes "states") (codes "") (codes "")
key_row keys.StuckCount = hidden_row (codes "stuck")
key_row keys.AreTried = hidden_row (codes "orders")
key_row keys.AllPrinted = shown_row (codes "values") (codes "printed") (codes "")
key_row keys.Forbidden = shown_row (codes "forbidden") (codes "forbidden ") (codes "")
key_row keys.InOutcome = shown_row (codes "outcome") (codes ", outcome ") (codes "")
