-- Which section an entry runs, with its mark, and which method a part begins.
use Rattle.std.specs.Prelude.{ℕ, ◌==◌, ◌&&◌, List, [], ◌∷◌, ◌++◌, Option, Some, None}
use Rattle.std.specs.Prelude.{slice_get, if◌then◌else◌}
use Rattle.checked_program.specs.declared.section.SectionMark.{SectionMark}
use Rattle.checked_program.specs.declared.section.Spot.{Spot}
use Rattle.jvm_types.specs.declared.program.Program.{Program}
use Rattle.machine_types.specs.Sections.{entered_at, is_same_spot}
use Rattle.machine_types.specs.declared.phase.Phase.{Phase}
use Rattle.machine_types.specs.declared.phase.Phase.TheVariants as phases
use Rattle.place_names.specs.PlaceFacts.{method_facts}
use Rattle.place_names.specs.SectionFacts.{mark_name, section_spot_facts}
use Rattle.event_texts.specs.declared.sights.Spot.{Spot as FrameSpot}
use Rattle.tellings.specs.declared.facts.Fact.{Fact}
use Rattle.tellings.specs.declared.facts.Fact.TheVariants.{Text, Opens, Closes}
use Rattle.tellings.specs.declared.keys.Key.TheVariants as keys

-- ---- the section that is entered, as marks are told

abbrev pub mark_among : List SectionMark → (method : ℕ) → Spot → Option ℕ
mark_among [] method spot = None
mark_among (s ∷ ss) method spot =
    if (s.method == method) && is_same_spot s.spot spot then Some s.mark
    else mark_among ss method spot

abbrev pub mark_told : Option ℕ → List Fact
mark_told None = []
mark_told (Some mark) = Text keys.Mark (mark_name mark) ∷ []

abbrev pub entered_facts : Program → List SectionMark → (method : ℕ) → Spot → List Fact
entered_facts p marks method spot =
    Opens keys.Section ∷ method_facts p.names (slice_get p.methods method)
    ++ section_spot_facts spot ++ mark_told (mark_among marks method spot) ++ Closes ∷ []

-- by the place of the frame that enters it
abbrev pub entry_facts : Program → List SectionMark → Phase → Option FrameSpot → List Fact
entry_facts p marks (phases.Enter m tried) (Some at) =
    entered_facts p marks at.method (entered_at at.pc)
entry_facts p marks phase at = []

-- ---- the method that a part begins, in which the thread stands behind the event

abbrev pub begun_method_facts : Program → Phase → Option FrameSpot → List Fact
begun_method_facts p phases.Start (Some at) =
    (Opens keys.BeginsMethod ∷ []) ++ method_facts p.names (slice_get p.methods at.method)
    ++ (Closes ∷ [])
begun_method_facts p phase at = []
