-- How a text reaches a sink.
use Rattle.std.specs.Prelude.{◌≡◌, ℕ, List, Option, Result, Ok, Err}
use Rattle.host_io.specs.Writing.{IsWritten}
use Rattle.host_io.specs.declared.sink.SinkFailed.{SinkFailed}
use Rattle.program_answers.specs.Answers.{due_text, status_of}
use Rattle.program_answers.specs.declared.answer.Due.{Due}

-- the status of what is due, in place of which a fault of the sink is answered
abbrev pub answered : {A : Type 0} → Due → Result A SinkFailed → ℕ
answered due (Ok done) = status_of due
answered due (Err e) = 5

-- the text due, in a program of this line of use, is written, and this is answered
abbrev pub IsDelivered : (usage : List ℕ) → Option (List ℕ) → Option (List ℕ) → ℕ → ℕ → Due → ℕ
    → Type 0
IsDelivered usage told now before after due status =
    (written : Result (Unit {0}) SinkFailed)
    × IsWritten told now before after (due_text usage due) written × (status ≡ answered due written)
