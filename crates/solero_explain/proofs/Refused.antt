-- Files that are not accepted are refused, where nothing outside fails.
use Rattle.std.proofs.Common.{◌≡◌, ℕ, ◌-◌, ◌<◌, ◌^◌, Bool, List, Option, Some, Ok, Err, inl, inr, ◌⊎◌}
use Rattle.class_runner.proofs.LoadedOnce.{accepted}
use Rattle.host_io.{specs.{declared.shelf.NamedFile.NamedFile}, proofs.SoFar.none_long}
use Rattle.program_answers.{specs.{Answers.status_of, Delivery.IsDelivered, declared.answer.Due.{Due, TheVariants.{Report, Output, Usage, Refusal, CannotRead, OutOfMemory}}}, proofs.Faults.no_fault}
use Rattle.solero_explain.specs.{Answer.{AreUnrefused, IsExplainDue, TellsFiles, explain_usage}, Command.Question}

-- what is told of files is told of accepted ones
told_accepted : (asked : Question) (files : List NamedFile) (text : List ℕ) → TellsFiles (Some files) asked text → AreUnrefused files asked
told_accepted asked files text t =
    let short = none_long 0 t.contents t.short in
    let taken = accepted t.contents asked.heap asked.threads t.tells.checked t.tells.loaded in
    (rw t.are at short, rw t.are at taken)

three_or_six : (asked : Question) (files : List NamedFile) (unreadable : Option (List ℕ → Bool)) (before after : ℕ) (due : Due) (status : ℕ) → IsExplainDue (Some asked) (Some files) unreadable before after due → ¬ AreUnrefused files asked → after ≡ before → before < 2 ^ 64 - 1 → status ≡ status_of due
    → (status ≡ 3) ⊎ ((status ≡ 5) ⊎ (status ≡ 6))
three_or_six asked files unreadable before after (Output text) status due not_so same below is = absurd (not_so (told_accepted asked files text due.1))
three_or_six asked files unreadable before after (Report finish text) status due not_so same below is = absurd due
three_or_six asked files unreadable before after Usage status due not_so same below is = absurd due
three_or_six asked files unreadable before after (Refusal text) status due not_so same below is = inl is
three_or_six asked files unreadable before after (CannotRead text) status due not_so same below is = absurd (no_fault before after same below due.0)
three_or_six asked files unreadable before after OutOfMemory status due not_so same below is = inr (inr is)

pub refused_status : (asked : Question) (files : List NamedFile) (unreadable : Option (List ℕ → Bool)) (before after : ℕ) (due : Due) (told now : Option (List ℕ)) (from to status : ℕ) → IsExplainDue (Some asked) (Some files) unreadable before after due → IsDelivered explain_usage told now from to due status
    → ¬ AreUnrefused files asked → after ≡ before → before < 2 ^ 64 - 1 → (status ≡ 3) ⊎ ((status ≡ 5) ⊎ (status ≡ 6))
refused_status asked files unreadable before after due told now from to status is (Ok done, written, answered) not_so same below = three_or_six asked files unreadable before after due status is not_so same below answered
refused_status asked files unreadable before after due told now from to status is (Err e, written, answered) not_so same below = inr (inl answered)
