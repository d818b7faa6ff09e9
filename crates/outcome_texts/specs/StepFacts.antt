-- Steps of the plain machine, fact by fact, in stretches of one thread.
use Rattle.std.specs.Prelude.{ℕ, ◌+◌, ◌==◌, List, [], ◌∷◌, ◌++◌, codes, if◌then◌else◌, Option}
use Rattle.std.specs.Prelude.{Some, None}
use Rattle.std.specs.Fmt.{decimal}
use Rattle.event_texts.specs.Shares.{act_text}
use Rattle.machine_types.specs.declared.plain.Act.{Act}
use Rattle.machine_types.specs.declared.plain.Act.TheVariants.{Do}
use Rattle.machine_types.specs.declared.plain.PlainStep.{PlainStep}
use Rattle.tellings.specs.declared.facts.Fact.{Fact}
use Rattle.tellings.specs.declared.facts.Fact.TheVariants.{Words, Count, Texts, Lists, Item}
use Rattle.tellings.specs.declared.facts.Fact.TheVariants.{Closes, Ends}
use Rattle.tellings.specs.declared.keys.Key.TheVariants as keys

-- instructions that a thread runs one after the other, by their number
abbrev pub dos : ℕ → List (List ℕ)
dos n = if n == 0 then [] else (codes "do " ++ decimal n) ∷ []

-- the acts of a thread that has run so many instructions since its last other act
abbrev pub acts_from : ℕ → List Act → List (List ℕ)
acts_from n [] = dos n
acts_from n (Do ∷ acts) = acts_from (n + 1) acts
acts_from n (act ∷ acts) = dos n ++ act_text act ∷ acts_from 0 acts

unfoldable pub acts_facts : (thread : ℕ) → List Act → List Fact
acts_facts thread acts =
    Count keys.StepsThread thread ∷ Texts keys.Steps (acts_from 0 acts) ∷ []

unfoldable pub stretch_words : List ℕ
stretch_words = codes "\n  steps "

abbrev pub stretch_facts : (thread : ℕ) → List Act → List Fact
stretch_facts thread acts =
    Words stretch_words ∷ Item ∷ acts_facts thread acts ++ Closes ∷ []

-- a thread has made these acts when the steps of the list come
abbrev pub stretches_behind : (thread : ℕ) → List Act → List PlainStep → List Fact
stretches_behind thread acts [] = stretch_facts thread acts
stretches_behind thread acts (s ∷ steps) =
    if s.thread == thread then stretches_behind thread (acts ++ s.act ∷ []) steps
    else stretch_facts thread acts ++ stretches_behind s.thread (s.act ∷ []) steps

abbrev pub stretches_facts : List PlainStep → List Fact
stretches_facts [] = []
stretches_facts (s ∷ steps) = stretches_behind s.thread (s.act ∷ []) steps

-- the steps where there are any
abbrev pub steps_facts : Option (List PlainStep) → List Fact
steps_facts None = []
steps_facts (Some steps) = Lists keys.PlainSteps ∷ stretches_facts steps ++ Ends ∷ []
