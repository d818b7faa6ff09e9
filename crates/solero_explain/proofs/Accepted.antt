-- Files that are accepted are not refused.
use Rattle.std.proofs.Common.{◌≡◌, ℕ, Bool, List, Option, Some, None, Ok, Err, sym, ◌∙◌, arith}
use Rattle.jvm_types.specs.declared.refusal.{Place.Place, Rule.Rule}
use Rattle.class_runner.{specs.Loading.IsAccepted, proofs.LoadedOnce.never_refused}
use Rattle.host_io.specs.{Reading.{contents_of, first_long}, declared.shelf.NamedFile.NamedFile}
use Rattle.program_answers.specs.{Answers.status_of, Delivery.IsDelivered, declared.answer.Due.{Due, TheVariants.{Report, Output, Usage, Refusal, CannotRead, OutOfMemory}}}
use Rattle.solero_explain.specs.{Answer.{AreUnrefused, IsExplainDue, IsRefusalByRule, explain_usage}, Command.Question}

no_refusal : (asked : Question) (contents : List (List ℕ)) (rule : Rule) (place : Place) → first_long 0 contents ≡ None → IsAccepted contents asked.heap asked.threads → IsRefusalByRule (first_long 0 contents) asked contents rule place → ⊥
no_refusal asked contents rule place short accepted refused = never_refused contents asked.heap asked.threads rule place accepted (rw short at refused)

no_refusal_due : (asked : Question) (files : List NamedFile) (unreadable : Option (List ℕ → Bool)) (before after : ℕ) (due : Due) → IsExplainDue (Some asked) (Some files) unreadable before after due → AreUnrefused files asked → status_of due ≡ 3 → ⊥
no_refusal_due asked files unreadable before after (Output text) owed accepted three = omega (arith, three)
no_refusal_due asked files unreadable before after (Report finish text) owed accepted three = owed
no_refusal_due asked files unreadable before after Usage owed accepted three = omega (arith, three)
no_refusal_due asked files unreadable before after (CannotRead text) owed accepted three = omega (arith, three)
no_refusal_due asked files unreadable before after OutOfMemory owed accepted three = omega (arith, three)
no_refusal_due asked files unreadable before after (Refusal text) owed accepted three =
    let r = owed.1.explains in
    no_refusal asked (contents_of files asked.files) r.rule r.place accepted.0 accepted.1 (rw owed.1.are at r.refused)

-- what is answered to files that are accepted is no refusal
pub never_three : (asked : Question) (files : List NamedFile) (unreadable : Option (List ℕ → Bool)) (before after : ℕ) (due : Due) (told now : Option (List ℕ)) (from to status : ℕ) → IsExplainDue (Some asked) (Some files) unreadable before after due → IsDelivered explain_usage told now from to due status
    → AreUnrefused files asked → status ≡ 3 → ⊥
never_three asked files unreadable before after due told now from to status owed (Ok done, written, is) accepted three = no_refusal_due asked files unreadable before after due owed accepted (sym is ∙ three)
never_three asked files unreadable before after due told now from to status owed (Err e, written, is) accepted three = omega (arith, is, three)
