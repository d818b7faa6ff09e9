-- The marks of a program with their reasons, written to a sink section by section.
use Rattle.std.specs.Prelude.{◌≡◌, ◌⊎◌, ℕ, List, [], ◌∷◌, ◌++◌, codes, length, take, Option, None}
use Rattle.std.specs.Prelude.{Result, Ok, Err}
use Rattle.std.specs.Option.{option_map}
use Rattle.checked_program.specs.MarkedProgram.{MarkedProgram}
use Rattle.checked_program.specs.OwnedArrays.{AreUses}
use Rattle.checked_program.specs.TaggedCode.{Tagged, tagged_by}
use Rattle.checked_program.specs.declared.section.SectionMark.{SectionMark}
use Rattle.checked_program.specs.declared.section.Uses.{Uses}
use Rattle.host_io.specs.Faults.{CountsFault}
use Rattle.json_lines.specs.declared.form.Form.{Form}
use Rattle.jvm_types.specs.declared.program.Program.{Program}
use Rattle.source_lines.specs.declared.sources.Sources.{Sources}
use Rattle.tellings.specs.Forms.{told_in}
use Rattle.mark_reasons.specs.ReasonFacts.{marked_facts}
use Rattle.mark_reasons.specs.Reasons.{AreReasons, FirstReasons, IsExplained}
use Rattle.mark_reasons.specs.SharedWays.{last_after}
use Rattle.mark_reasons.specs.declared.reason.Reason.{Reason}
use Rattle.mark_reasons.specs.declared.shared.LastWay.{LastWay}
use Rattle.mark_reasons.specs.declared.telling.Ready.{Ready}
use Rattle.mark_reasons.specs.declared.telling.MarksError.{MarksError}
use Rattle.mark_reasons.specs.declared.telling.MarksError.TheVariants.{Memory, Failed}

abbrev pub section_text : Form → Program → Sources → Option LastWay → SectionMark → Option Reason
    → List ℕ
section_text form p sources before mark reason =
    told_in form (codes "section") (marked_facts p sources before mark reason)

-- sections with their reasons, one after another, and the way that was told last
pub data AreSectionsTold (form : Form) (p : Program) (sources : Sources) : List SectionMark
    → List (Option Reason) → List ℕ → Option LastWay → Type 0 where
  none : AreSectionsTold form p sources [] [] [] None
  more : (marks : List SectionMark) (reasons : List (Option Reason)) (text : List ℕ)
      (last : Option LastWay) (mark : SectionMark) (reason : Option Reason)
      → AreSectionsTold form p sources marks reasons text last
      → AreSectionsTold form p sources (marks ++ mark ∷ []) (reasons ++ reason ∷ [])
      (text ++ section_text form p sources last mark reason) (last_after last mark reason)

-- all sections of a program
pub record AreMarksTold (form : Form) (c : MarkedProgram) (sources : Sources) (text : List ℕ)
    : Type 0 where
  pub reasons : List (Option Reason)
  pub are_reasons : AreReasons c.program (tagged_by c.tags) c.marks reasons
  pub last : Option LastWay
  pub told : AreSectionsTold form c.program sources c.marks reasons text last

-- a front of what is told of the first ones
pub record IsFrontOfSections (form : Form) (p : Program) (sources : Sources)
    (tags : Tagged) (uses : Uses) (marks : List SectionMark) (text : List ℕ) : Type 0 where
  pub count : ℕ
  pub reasons : List (Option Reason)
  pub first : FirstReasons p tags uses marks count reasons
  pub whole : List ℕ
  pub last : Option LastWay
  pub told : AreSectionsTold form p sources (take count marks) reasons whole last
  pub n : ℕ
  pub is_front : text ≡ take n whole

-- of a program; or nothing
abbrev pub IsFrontOfMarks : Form → MarkedProgram → Sources → List ℕ → Type 0
IsFrontOfMarks form c sources text =
    (text ≡ [])
    ⊎ ((uses : Uses) × AreUses c.program (tagged_by c.tags) uses
    × IsFrontOfSections form c.program sources (tagged_by c.tags) uses c.marks text)

-- ---- written to a sink, that told some bytes and tells more now

abbrev pub HasAdded : (told now : Option (List ℕ)) → (List ℕ → Type 0) → Type 0
HasAdded told now Is = (text : List ℕ) × Is text × (now ≡ option_map (λ t. t ++ text) told)

-- all marks were written; or there was no memory, and the sink had not failed; or it failed
abbrev pub AreMarksWritten : Form → MarkedProgram → Sources → (told now : Option (List ℕ))
    → (before after : ℕ) → {A : Type 0} → Result A MarksError → Type 0
AreMarksWritten form c sources told now before after (Ok done) =
    (after ≡ before) × HasAdded told now (AreMarksTold form c sources)
AreMarksWritten form c sources told now before after (Err Memory) =
    (after ≡ before) × HasAdded told now (IsFrontOfMarks form c sources)
AreMarksWritten form c sources told now before after (Err Failed) =
    CountsFault before after × HasAdded told now (IsFrontOfMarks form c sources)

-- ---- the parts of that

-- what is to be told of a section, with a reason of its mark
pub record IsSectionReady (form : Form) (p : Program) (sources : Sources)
    (tags : Tagged) (uses : Uses) (before : Option LastWay) (mark : SectionMark) (ready : Ready)
    : Type 0 where
  pub reason : Option Reason
  pub explains : IsExplained p tags uses mark reason
  pub text : ready.text.items ≡ section_text form p sources before mark reason
  pub last : ready.last ≡ last_after before mark reason

-- a section was written
pub record SectionTold (form : Form) (p : Program) (sources : Sources)
    (tags : Tagged) (uses : Uses) (before : Option LastWay)
    (mark : SectionMark) (told now : Option (List ℕ)) (last : Option LastWay) : Type 0 where
  pub reason : Option Reason
  pub explains : IsExplained p tags uses mark reason
  pub text : now ≡ option_map (λ t. t ++ section_text form p sources before mark reason) told
  pub is_last : last ≡ last_after before mark reason

-- or a front of it
pub record SectionBegun (form : Form) (p : Program) (sources : Sources)
    (tags : Tagged) (uses : Uses) (before : Option LastWay)
    (mark : SectionMark) (told now : Option (List ℕ)) : Type 0 where
  pub reason : Option Reason
  pub explains : IsExplained p tags uses mark reason
  pub n : ℕ
  pub text : now
      ≡ option_map (λ t. t ++ take n (section_text form p sources before mark reason)) told

abbrev pub IsSectionWritten : Form → Program → Sources → Tagged → Uses → (before : Option LastWay)
    → SectionMark → (told now : Option (List ℕ)) → (from to : ℕ)
    → Result (Option LastWay) MarksError → Type 0
IsSectionWritten form p sources tags uses before mark told now from to (Ok last) =
    (to ≡ from) × SectionTold form p sources tags uses before mark told now last
IsSectionWritten form p sources tags uses before mark told now from to (Err Memory) =
    (to ≡ from) × (now ≡ told)
IsSectionWritten form p sources tags uses before mark told now from to (Err Failed) =
    CountsFault from to × SectionBegun form p sources tags uses before mark told now

-- the first sections were written
pub record SectionsSoFar (form : Form) (p : Program) (sources : Sources)
    (tags : Tagged) (uses : Uses) (marks : List SectionMark) (count : ℕ)
    (last : Option LastWay) (told now : Option (List ℕ)) : Type 0 where
  pub reasons : List (Option Reason)
  pub first : FirstReasons p tags uses marks count reasons
  pub text : List ℕ
  pub sections : AreSectionsTold form p sources (take count marks) reasons text last
  pub is : now ≡ option_map (λ t. t ++ text) told

abbrev pub AreSectionsWritten : Form → Program → Sources → Tagged → Uses → List SectionMark
    → (told now : Option (List ℕ)) → (from to : ℕ) → {A : Type 0} → Result A MarksError → Type 0
AreSectionsWritten form p sources tags uses marks told now from to (Ok done) =
    (to ≡ from)
    × ((last : Option LastWay)
    × SectionsSoFar form p sources tags uses marks (length marks) last told now)
AreSectionsWritten form p sources tags uses marks told now from to (Err Memory) =
    (to ≡ from) × HasAdded told now (IsFrontOfSections form p sources tags uses marks)
AreSectionsWritten form p sources tags uses marks told now from to (Err Failed) =
    CountsFault from to × HasAdded told now (IsFrontOfSections form p sources tags uses marks)
