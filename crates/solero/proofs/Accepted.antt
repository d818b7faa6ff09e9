-- Files that are accepted are not refused.
use Rattle.std.proofs.Common.{◌≡◌, ℕ, Bool, List, Option, Some, None, Ok, Err, sym, ◌∙◌, arith}
use Rattle.jvm_types.specs.declared.refusal.{Place.Place, Rule.Rule}
use Rattle.host_io.specs.{Reading.{contents_of, first_long}, declared.shelf.NamedFile.NamedFile}
use Rattle.command_words.specs.Command.{Asked}
use Rattle.program_answers.specs.{Answers.status_of, declared.answer.Due.{Due, TheVariants.{Report, Output, Usage, Refusal, CannotRead, OutOfMemory}}, declared.finish.Finish.TheVariants.{Returned, Uncaught, Limited}}
use Rattle.solero.specs.Answer.{AreAccepted, Delivers, IsAcceptedIn, IsDue, IsRefusalInMode}
use Rattle.solero.proofs.Modes.{taken_not_refused}

pub no_refusal : (asked : Asked) (contents : List (List ℕ)) (rule : Rule) (place : Place) → first_long 0 contents ≡ None → IsAcceptedIn asked.mode asked contents → IsRefusalInMode (first_long 0 contents) asked contents rule place → ⊥
no_refusal asked contents rule place short accepted refused = taken_not_refused asked.mode asked contents rule place accepted (rw short at refused)

no_refusal_due : (asked : Asked) (files : List NamedFile) (unreadable : Option (List ℕ → Bool)) (before after : ℕ) (due : Due) → IsDue (Some asked) (Some files) unreadable before after due → AreAccepted files asked → status_of due ≡ 3 → ⊥
no_refusal_due asked files unreadable before after (Report Returned text) owed accepted three = omega (arith, three)
no_refusal_due asked files unreadable before after (Report Uncaught text) owed accepted three = omega (arith, three)
no_refusal_due asked files unreadable before after (Report Limited text) owed accepted three = omega (arith, three)
no_refusal_due asked files unreadable before after (Output text) owed accepted three = omega (arith, three)
no_refusal_due asked files unreadable before after Usage owed accepted three = omega (arith, three)
no_refusal_due asked files unreadable before after (CannotRead text) owed accepted three = omega (arith, three)
no_refusal_due asked files unreadable before after OutOfMemory owed accepted three = omega (arith, three)
no_refusal_due asked files unreadable before after (Refusal text) owed accepted three =
    let r = owed.1.refuses in
    no_refusal asked (contents_of files asked.files) r.rule r.place accepted.0 accepted.1 (rw owed.1.are at r.refused)

-- what is answered to files that are accepted is no refusal
pub never_three : (asked : Asked) (files : List NamedFile) (unreadable : Option (List ℕ → Bool)) (before after : ℕ) (due : Due) (told now : Option (List ℕ)) (from to status : ℕ) → IsDue (Some asked) (Some files) unreadable before after due → Delivers told now from to due status
    → AreAccepted files asked → status ≡ 3 → ⊥
never_three asked files unreadable before after due told now from to status owed (Ok done, written, is) accepted three = no_refusal_due asked files unreadable before after due owed accepted (sym is ∙ three)
never_three asked files unreadable before after due told now from to status owed (Err e, written, is) accepted three = omega (arith, is, three)
