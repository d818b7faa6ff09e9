-- What a mode takes: files that it takes are not refused in it, and what it makes it makes of files that it takes.
use Rattle.std.{proofs.{Common.{◌≡◌, ℕ, List, [], ◌∷◌, Some, None, sym, subst, ap, ◌∙◌}, lemmas.Option.none-some}, specs.List.AllZip}
use Rattle.jvm_types.specs.{ClassGrammar.Spells, declared.{class_file.ClassFile.ClassFile, refusal.{Place.Place, Rule.Rule}}}
use Rattle.asm_text.specs.ClassLines.{Lists}
use Rattle.class_runner.{specs.Loading.{IsRefusedBy, read_fault}, proofs.LoadedOnce.{accepted, never_refused, no_read_fault}}
use Rattle.command_words.specs.{Command.Asked, declared.request.Mode.Mode}
use Rattle.program_answers.specs.declared.answer.Due.{Due, TheVariants.{Output, Report}}
use Rattle.solero.specs.Answer.{IsAcceptedIn, IsLoadAccepted, IsLoadRefused, IsMadeIn, IsRefusedIn, IsRefusedText, class_of_load}
use Rattle.jvm_types.specs.declared.refusal.Rule.TheVariants as rules
use Rattle.command_words.specs.declared.request.Mode.TheVariants as modes

-- a text that lists a class is not refused
no_refused_text : (contents : List (List ℕ)) (class : ClassFile) (rule : Rule) (place : Place) → AllZip Lists contents (class ∷ []) → IsRefusedText contents rule place → ⊥
no_refused_text (text ∷ []) class (rules.A rule) place listed refused = refused.1 class listed.0
no_refused_text contents class rule place listed refused = absurd refused

-- one file alone spells a class
one_file : (files other : List (List ℕ)) (class : ClassFile) → AllZip Spells files (class ∷ []) → AllZip Spells other (class ∷ []) → files ≡ other
one_file [] other class is also = absurd is
one_file (a ∷ b ∷ files) other class is also = absurd is.1
one_file (a ∷ []) [] class is also = absurd also
one_file (a ∷ []) (b ∷ c ∷ other) class is also = absurd also.1
one_file (a ∷ []) (b ∷ []) class is also = ap (λ (x : List ℕ). x ∷ []) (is.0.spelled ∙ sym also.0.spelled)

-- a load that all rules let pass is not refused
no_refused_load : (asked : Asked) (rule : Rule) (place : Place) → IsLoadAccepted asked → IsLoadRefused asked rule place → ⊥
no_refused_load asked rule place taken refused =
    never_refused taken.0 asked.heap asked.threads rule place taken.2 (subst (λ (files : List (List ℕ)). IsRefusedBy files asked.heap asked.threads rule place) (one_file refused.0 taken.0 (class_of_load asked) refused.1 taken.1) refused.2)

pub taken_not_refused : (mode : Mode) (asked : Asked) (contents : List (List ℕ)) (rule : Rule) (place : Place) → IsAcceptedIn mode asked contents → IsRefusedIn mode asked contents rule place → ⊥
taken_not_refused (modes.Program task) asked contents rule place taken refused = never_refused contents asked.heap asked.threads rule place taken refused
taken_not_refused modes.List asked contents rule place taken refused =
    let none : read_fault 0 contents ≡ None = taken in
    let some : read_fault 0 contents ≡ Some (rule, place) = refused in
    none-some (rule, place) (sym none ∙ some)
taken_not_refused modes.Assemble asked contents rule place taken refused = no_refused_text contents taken.0 rule place taken.1 refused
taken_not_refused modes.Load asked contents rule place taken refused = no_refused_load asked rule place taken refused
taken_not_refused modes.Cell asked contents rule place taken refused = refused

pub made_of_taken : (mode : Mode) (asked : Asked) (contents : List (List ℕ)) (due : Due) → IsMadeIn mode asked contents due → IsAcceptedIn mode asked contents
made_of_taken (modes.Program task) asked contents due made = accepted contents asked.heap asked.threads made.checked made.loaded
made_of_taken modes.List asked contents (Output text) made = no_read_fault 0 contents _ made.spelled
made_of_taken modes.List asked contents due made = absurd made
made_of_taken modes.Assemble asked contents (Output bytes) made = (made.class, made.listed)
made_of_taken modes.Assemble asked contents due made = absurd made
made_of_taken modes.Load asked contents (Report finish text) made = (made.files, made.made, accepted made.files asked.heap asked.threads made.checked made.loaded)
made_of_taken modes.Load asked contents due made = absurd made
made_of_taken modes.Cell asked contents due made = tt
