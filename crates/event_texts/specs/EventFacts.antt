-- An event, fact by fact: its number, the thread and the attempt that it is in, where it stands,
-- what it does in words where it is no instruction, the word that it accesses with what it found
-- and left there, what becomes of attempts, locks and the part, and the plain steps that it stands
-- for. And so an end to which an event led.
use Rattle.std.specs.Prelude.{ℕ, zero, suc, nat_lt, Bool, true, false, List, [], ◌∷◌, ◌++◌, codes}
use Rattle.std.specs.Prelude.{map, Option, Some, None}
use Rattle.json_lines.specs.declared.form.Form.{Form}
use Rattle.jvm_types.specs.declared.outcome.End.{End}
use Rattle.jvm_types.specs.declared.outcome.End.TheVariants as ends
use Rattle.jvm_types.specs.declared.program.Program.{Program}
use Rattle.source_lines.specs.declared.sources.Sources.{Sources}
use Rattle.machine_types.specs.declared.access.Access.{Access}
use Rattle.machine_types.specs.declared.access.Access.TheVariants.{Load, Rest}
use Rattle.machine_types.specs.declared.attempt.AttemptHead.{AttemptHead}
use Rattle.machine_types.specs.declared.phase.Phase.{Phase}
use Rattle.machine_types.specs.declared.phase.Phase.TheVariants as phases
use Rattle.machine_types.specs.declared.plain.Act.{Act}
use Rattle.machine_types.specs.declared.plain.Act.TheVariants.{Do, Enter, Exit}
use Rattle.place_names.specs.PlaceFacts.{place_facts}
use Rattle.place_names.specs.declared.names.Names.{Names}
use Rattle.run_texts.specs.Report.{end_text}
use Rattle.checked_program.specs.MarkedProgram.{MarkedProgram}
use Rattle.event_texts.specs.DeedFacts.{deed_facts, share_steps}
use Rattle.event_texts.specs.EntryFacts.{begun_method_facts, entry_facts}
use Rattle.event_texts.specs.Holders.{holder}
use Rattle.event_texts.specs.PhaseFacts.{phase_facts}
use Rattle.event_texts.specs.Shares.{Share, Steps, Owes, Section, act_text}
use Rattle.event_texts.specs.TopFacts.{top_facts}
use Rattle.event_texts.specs.ValueTexts.{shared_value_text}
use Rattle.event_texts.specs.WordFacts.{word_facts}
use Rattle.event_texts.specs.declared.sights.Spot.{Spot}
use Rattle.event_texts.specs.declared.sights.Before.{Before}
use Rattle.event_texts.specs.declared.sights.After.{After}
use Rattle.tellings.specs.Forms.{told_in}
use Rattle.tellings.specs.declared.facts.Fact.{Fact}
use Rattle.tellings.specs.declared.facts.Fact.TheVariants.{Text, Count, Texts, Opens, Closes}
use Rattle.tellings.specs.declared.keys.Key.{Key}
use Rattle.tellings.specs.declared.keys.Key.TheVariants as keys

-- ---- which event it is, where its thread stands, and what it does where that is no instruction

abbrev pub inside_facts : Option AttemptHead → List Fact
inside_facts None = []
inside_facts (Some a) = Count keys.InAttempt a.number ∷ []

abbrev pub event_spot_facts : Program → Sources → Option Spot → List Fact
event_spot_facts p sources None = []
event_spot_facts p sources (Some spot) = place_facts p sources spot.method spot.pc

abbrev pub stand_facts : Program → Sources → Before → List Fact
stand_facts p sources b = event_spot_facts p sources b.spot ++ phase_facts p b.phase

abbrev pub thread_facts : Program → Sources → Before → List Fact
thread_facts p sources b =
    (Count keys.Thread b.thread ∷ []) ++ inside_facts b.attempt ++ stand_facts p sources b

abbrev pub head_facts : Program → Sources → (number : ℕ) → Before → List Fact
head_facts p sources number b = Count keys.Number number ∷ thread_facts p sources b

-- behind how many failed turns of its thread, which are left out
abbrev pub left_out_facts : (failed_turns : ℕ) → List Fact
left_out_facts zero = []
left_out_facts n = Count keys.FailedTurns n ∷ []

-- ---- the word that it accesses, what it found there, and what it left there where it is no load

abbrev pub value_facts : Program → Before → After → (loads : Bool) → List Fact
value_facts p b a true = Text keys.Found (shared_value_text p b.word b.found) ∷ []
value_facts p b a false =
    Text keys.Found (shared_value_text p b.word b.found)
    ∷ Text keys.Left (shared_value_text p b.word a.left) ∷ []

abbrev pub accessed_facts : Program → (names : List (List ℕ)) → Before → After → (loads : Bool)
    → List Fact
accessed_facts p names b a loads =
    (Opens keys.Access ∷ []) ++ word_facts p names b.word ++ value_facts p b a loads
    ++ (Closes ∷ [])

abbrev pub access_facts : Program → (names : List (List ℕ)) → Before → After → Option Access
    → List Fact
access_facts p names b a None = []
access_facts p names b a (Some Rest) = []
access_facts p names b a (Some (Load w)) = accessed_facts p names b a true
access_facts p names b a (Some access) = accessed_facts p names b a false

-- ---- what becomes of attempts, locks and the part

-- an attempt by its number, with the count of the free lock that it noted
abbrev pub noted_facts : (key noted : Key) → AttemptHead → List Fact
noted_facts key noted a = Count key a.number ∷ Count noted a.noted ∷ []

-- before and behind an event, and whether one failed
abbrev pub attempt_facts : Option AttemptHead → Option AttemptHead → (failed : Bool) → List Fact
attempt_facts None (Some a) failed = noted_facts keys.AttemptBegins keys.Noted a
attempt_facts (Some a) None true = noted_facts keys.AttemptFails keys.Noted a
attempt_facts (Some a) None false = noted_facts keys.AttemptFinishes keys.NotedThere a
attempt_facts was now failed = []

-- a lock was taken, or made fat
abbrev pub lock_facts : (locked inflated : Bool) → List Fact
lock_facts true inflated = Text keys.LockMark (codes "locked") ∷ []
lock_facts false true = Text keys.LockMark (codes "inflated") ∷ []
lock_facts false false = []

abbrev pub end_facts : Phase → List Fact
end_facts (phases.Ending e) = Text keys.ComesToEnd (end_text e) ∷ []
end_facts phase = []

abbrev pub mark_facts : Before → After → List Fact
mark_facts b a =
    attempt_facts b.attempt a.attempt (nat_lt b.counts.failed a.counts.failed)
    ++ lock_facts (nat_lt b.counts.locked a.counts.locked)
    (nat_lt b.counts.inflated a.counts.inflated) ++ end_facts a.phase

-- ---- the plain steps that it stands for

-- an instruction outside of attempts is one step, of which a line says nothing
abbrev pub plain_key : List Act → Key
plain_key (Do ∷ []) = keys.OneStep
plain_key acts = keys.Plain

abbrev pub owed_facts : ℕ → List Fact
owed_facts zero = Texts keys.Plain [] ∷ Count keys.OwedNone 0 ∷ []
owed_facts n = Texts keys.OneStep [] ∷ Count keys.Owed n ∷ []

-- between the entry and the exit of a section that finishes stand the steps that were owed
abbrev pub share_facts : Share → List Fact
share_facts (Steps acts) = Texts (plain_key acts) (map act_text acts) ∷ []
share_facts (Owes n) = owed_facts n
share_facts (Section n) =
    Texts keys.OneStep (map act_text (Enter ∷ Exit ∷ [])) ∷ Count keys.Between n ∷ []

-- ---- the whole

-- what it does besides: a print or a notification, an entry, a begin; and what it computed
abbrev pub more_facts : MarkedProgram → Before → Share → After → List Fact
more_facts c b share a =
    deed_facts c.program b.effect (share_steps share)
    ++ entry_facts c.program c.marks b.phase b.frame_spot
    ++ begun_method_facts c.program b.phase a.spot ++ top_facts c b a

abbrev pub event_facts : MarkedProgram → Names → (number failed_turns : ℕ) → Before → Share → After
    → List Fact
event_facts c names number failed_turns b share a =
    head_facts c.program names.sources number b ++ left_out_facts failed_turns
    ++ more_facts c b share a ++ access_facts c.program names.fields b a b.access
    ++ mark_facts b a ++ share_facts share

-- how a thread stands before the event of a number, where its part has begun
abbrev pub standing_facts : Program → Sources → (number : ℕ) → Before → List Fact
standing_facts p sources number b = Count keys.BeforeNumber number ∷ thread_facts p sources b

abbrev pub standing_in : Form → Program → Sources → (number : ℕ) → Before → Phase → List ℕ
standing_in form p sources number b phases.Idle = []
standing_in form p sources number b phase =
    told_in form (codes "before") (standing_facts p sources number b)

-- where a part of a thread came to an end that is no return: the end, the event, and who held the
-- monitor for which the thread had made all its turns
abbrev pub holder_facts : ℕ → List Fact
holder_facts zero = []
holder_facts (suc t) = Count keys.HeldBy t ∷ []

abbrev pub stop_facts : Program → Sources → (number : ℕ) → Before → End → List Fact
stop_facts p sources number b end =
    (Text keys.End (end_text end) ∷ []) ++ head_facts p sources number b
    ++ holder_facts (holder end b)

-- of an event, by the phase behind it: nothing where no part came to an end, or where it returned
abbrev pub event_end_in : Form → Program → Sources → (number : ℕ) → Before → Phase → List ℕ
event_end_in form p sources number b (phases.Ending ends.Returned) = []
event_end_in form p sources number b (phases.Ending end) =
    told_in form (codes "end") (stop_facts p sources number b end)
event_end_in form p sources number b phase = []
