-- What is answered where nothing outside fails: files that are accepted in full, and others by their refusal.
use Rattle.std.proofs.Common.{◌≡◌, ℕ, Bool, inl, inr, List, Option, Some, Ok, Err, ◌⊎◌}
use Rattle.host_io.{specs.{Reading.contents_of, declared.shelf.NamedFile.NamedFile}, proofs.SoFar.none_long}
use Rattle.command_words.specs.Command.{Asked}
use Rattle.program_answers.{specs.{Answers.status_of, declared.answer.Due.{Due, TheVariants.{Report, Output, Usage, Refusal, CannotRead, OutOfMemory}}}, proofs.Faults.no_fault}
use Rattle.solero.{specs.{Answer.{AreAccepted, Delivers, IsDue, IsMadeOf}, Whole.{AnswersWhole, IsCalm, IsOwed, IsOwedRefusal}}, proofs.{Accepted.no_refusal, Modes.made_of_taken}}

-- ---- files that are accepted

owed : (asked : Asked) (files : List NamedFile) (unreadable : Option (List ℕ → Bool)) (before after : ℕ) (due : Due) → IsDue (Some asked) (Some files) unreadable before after due → AreAccepted files asked → IsCalm before after → IsOwed asked files due
owed asked files unreadable before after (Report finish text) due accepted calm = due.1
owed asked files unreadable before after (Output text) due accepted calm = due.1
owed asked files unreadable before after Usage due accepted calm = absurd due
owed asked files unreadable before after (CannotRead text) due accepted calm = absurd (no_fault before after calm.0 calm.1 due.0)
owed asked files unreadable before after OutOfMemory due accepted calm = tt
owed asked files unreadable before after (Refusal text) due accepted calm =
    let r = due.1.refuses in
    absurd (no_refusal asked (contents_of files asked.files) r.rule r.place accepted.0 accepted.1 (rw due.1.are at r.refused))

pub whole : (asked : Asked) (files : List NamedFile) (unreadable : Option (List ℕ → Bool)) (before after : ℕ) (due : Due) (told now : Option (List ℕ)) (from to status : ℕ) → IsDue (Some asked) (Some files) unreadable before after due → Delivers told now from to due status
    → AreAccepted files asked → IsCalm before after → IsCalm from to → AnswersWhole (IsOwed asked files) told now status
whole asked files unreadable before after due told now from to status is (Ok done, written, answered) accepted shelf sink =
    record { due = due; owed = owed asked files unreadable before after due is accepted shelf; written = written.1; answered = answered }
whole asked files unreadable before after due told now from to status is (Err e, written, answered) accepted shelf sink = absurd (no_fault from to sink.0 sink.1 written.0)

-- ---- files that are not

-- what a mode makes of files it makes of accepted ones
made_of_accepted : (asked : Asked) (files : List NamedFile) (due : Due) → IsMadeOf (Some files) asked due → AreAccepted files asked
made_of_accepted asked files due m =
    let short = none_long 0 m.contents m.short in
    let taken = made_of_taken asked.mode asked m.contents due m.made in
    (rw m.are at short, rw m.are at taken)

owed_refusal : (asked : Asked) (files : List NamedFile) (unreadable : Option (List ℕ → Bool)) (before after : ℕ) (due : Due) → IsDue (Some asked) (Some files) unreadable before after due → ¬ AreAccepted files asked → IsCalm before after → IsOwedRefusal asked files due
owed_refusal asked files unreadable before after (Report finish text) due not_so calm = absurd (not_so (made_of_accepted asked files (Report finish text) due.1))
owed_refusal asked files unreadable before after (Output text) due not_so calm = absurd (not_so (made_of_accepted asked files (Output text) due.1))
owed_refusal asked files unreadable before after Usage due not_so calm = absurd due
owed_refusal asked files unreadable before after (CannotRead text) due not_so calm = absurd (no_fault before after calm.0 calm.1 due.0)
owed_refusal asked files unreadable before after OutOfMemory due not_so calm = tt
owed_refusal asked files unreadable before after (Refusal text) due not_so calm = due.1

pub refused_whole : (asked : Asked) (files : List NamedFile) (unreadable : Option (List ℕ → Bool)) (before after : ℕ) (due : Due) (told now : Option (List ℕ)) (from to status : ℕ) → IsDue (Some asked) (Some files) unreadable before after due → Delivers told now from to due status
    → ¬ AreAccepted files asked → IsCalm before after → IsCalm from to → AnswersWhole (IsOwedRefusal asked files) told now status
refused_whole asked files unreadable before after due told now from to status is (Ok done, written, answered) not_so shelf sink =
    record { due = due; owed = owed_refusal asked files unreadable before after due is not_so shelf; written = written.1; answered = answered }
refused_whole asked files unreadable before after due told now from to status is (Err e, written, answered) not_so shelf sink = absurd (no_fault from to sink.0 sink.1 written.0)

-- ---- the status of a refusal

three_or_six : (asked : Asked) (files : List NamedFile) (due : Due) (status : ℕ) → IsOwedRefusal asked files due → status ≡ status_of due → (status ≡ 3) ⊎ ((status ≡ 5) ⊎ (status ≡ 6))
three_or_six asked files (Refusal text) status owed is = inl is
three_or_six asked files OutOfMemory status owed is = inr (inr is)
three_or_six asked files due status owed is = absurd owed

pub refused_status : (asked : Asked) (files : List NamedFile) (unreadable : Option (List ℕ → Bool)) (before after : ℕ) (due : Due) (told now : Option (List ℕ)) (from to status : ℕ) → IsDue (Some asked) (Some files) unreadable before after due → Delivers told now from to due status
    → ¬ AreAccepted files asked → IsCalm before after → (status ≡ 3) ⊎ ((status ≡ 5) ⊎ (status ≡ 6))
refused_status asked files unreadable before after due told now from to status is (Ok done, written, answered) not_so shelf = three_or_six asked files due status (owed_refusal asked files unreadable before after due is not_so shelf) answered
refused_status asked files unreadable before after due told now from to status is (Err e, written, answered) not_so shelf = inr (inl answered)
