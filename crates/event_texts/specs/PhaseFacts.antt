-- What a thread does where it is no instruction, and to which monitor.
use Rattle.std.specs.Prelude.{ℕ, List, [], ◌∷◌, codes, Some, None}
use Rattle.jvm_types.specs.declared.program.Program.{Program}
use Rattle.machine_types.specs.declared.phase.Phase.{Phase}
use Rattle.machine_types.specs.declared.phase.Phase.TheVariants as phases
use Rattle.run_texts.specs.Report.{thrown_name, end_text}
use Rattle.event_texts.specs.MonitorFacts.{monitor_fact, on_monitor}
use Rattle.tellings.specs.Forms.{text_facts}
use Rattle.tellings.specs.declared.facts.Fact.{Fact}
use Rattle.tellings.specs.declared.facts.Fact.TheVariants.{Count, Text}
use Rattle.tellings.specs.declared.keys.Key.TheVariants as keys

-- in a phase of no monitor
abbrev pub plain_phase_text : Phase → List ℕ
plain_phase_text phases.Idle = codes "idle"
plain_phase_text phases.Start = codes "begins its next method"
plain_phase_text (phases.Element word None) = codes "loads the element"
plain_phase_text (phases.Element word (Some v)) = codes "stores the element"
plain_phase_text (phases.Made a word) = codes "stores the header"
plain_phase_text phase = codes ""

abbrev pub does_to : (words : List ℕ) → Program → (m : ℕ) → List Fact
does_to words p m = on_monitor keys.Does words p m

abbrev pub phase_facts : Program → Phase → List Fact
phase_facts p (phases.Enter m tried) = does_to (codes "enters") p m
phase_facts p (phases.Acquire m) = does_to (codes "looks at the lock of") p m
phase_facts p (phases.Take m count) = does_to (codes "takes the lock of") p m
phase_facts p (phases.Flag m u) = does_to (codes "flags the lock of") p m
phase_facts p (phases.TakeFat m r) = does_to (codes "takes the fat lock of") p m
phase_facts p (phases.Leave m a) = does_to (codes "leaves") p m
phase_facts p (phases.Grow m toward) = does_to (codes "draws a record for") p m
phase_facts p (phases.FlatOut m a) = does_to (codes "frees the lock of") p m
phase_facts p (phases.Own m r toward) = does_to (codes "owns the record for") p m
phase_facts p (phases.FatIn m r toward) =
    Text keys.Does (codes "makes the lock of") ∷ monitor_fact p m
    ∷ Text keys.LockMade (codes "fat") ∷ []
phase_facts p (phases.WaitBit m r) = does_to (codes "begins to wait on") p m
phase_facts p (phases.WaitOut m r) = does_to (codes "gives up") p m
phase_facts p (phases.WaitLook m r depth) = does_to (codes "waits on") p m
phase_facts p (phases.Retake m r depth) = does_to (codes "takes back") p m
phase_facts p (phases.NotifyLook m r) = does_to (codes "looks who waits on") p m
phase_facts p (phases.NotifyOne m r u) =
    Text keys.Does (codes "wakes") ∷ Count keys.Woken u ∷ monitor_fact p m ∷ []
phase_facts p (phases.NotifyAll m r) = does_to (codes "wakes all from") p m
phase_facts p (phases.Throw x class) = Text keys.Throws (thrown_name class) ∷ []
phase_facts p (phases.Ending e) = Text keys.Ends (end_text e) ∷ []
phase_facts p (phases.Ended e) = Text keys.Ended (end_text e) ∷ []
phase_facts p phase = text_facts keys.Does (plain_phase_text phase)
