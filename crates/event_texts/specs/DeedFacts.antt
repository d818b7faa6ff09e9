-- What an instruction prints, and which monitor it notifies where it does all of that itself.
use Rattle.std.specs.Prelude.{ℕ, ◌==◌, List, [], ◌∷◌, codes, length, Option, Some}
use Rattle.std.specs.Prelude.{if◌then◌else◌}
use Rattle.jvm_types.specs.declared.program.Program.{Program}
use Rattle.machine_types.specs.Ints.{int_of}
use Rattle.machine_types.specs.declared.effect.Effect.{Effect}
use Rattle.machine_types.specs.declared.effect.Effect.TheVariants.{Prints, Notifies, NotifiesAll}
use Rattle.event_texts.specs.PhaseFacts.{does_to}
use Rattle.event_texts.specs.Shares.{Share, Steps}
use Rattle.tellings.specs.declared.facts.Fact.{Fact}
use Rattle.tellings.specs.declared.facts.Fact.TheVariants.{Value}
use Rattle.tellings.specs.declared.keys.Key.TheVariants as keys

-- for how many steps of the plain machine it stands
abbrev pub share_steps : Share → ℕ
share_steps (Steps acts) = length acts
share_steps share = 0

-- a print that is made is a step; a notification on a flat lock is one more than its instruction,
-- while that on a fat lock is told by the events behind it
abbrev pub deed_facts : Program → Option Effect → (steps : ℕ) → List Fact
deed_facts p (Some (Prints n)) steps =
    if steps == 1 then Value keys.Prints (int_of n) ∷ [] else []
deed_facts p (Some (Notifies m)) steps =
    if steps == 2 then does_to (codes "notifies on") p m else []
deed_facts p (Some (NotifiesAll m)) steps =
    if steps == 2 then does_to (codes "notifies all on") p m else []
deed_facts p effect steps = []
