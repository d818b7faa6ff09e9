-- Why a section has not the mark M0: the instruction that breaks the rule of its mark, and the
-- calls that lead there.
use Rattle.std.specs.Prelude.{◌≡◌, ◌<◌, ◌≤◌, ℕ, zero, suc, List, [], ◌∷◌, ◌++◌, Option, Some, None}
use Rattle.std.specs.Prelude.{length, slice_get}
use Rattle.std.specs.List.{AllZip}
use Rattle.jvm_types.specs.declared.program.Program.{Program}
use Rattle.checked_program.specs.LockTags.{TagShape}
use Rattle.checked_program.specs.TaggedCode.{Tagged}
use Rattle.checked_program.specs.OwnedArrays.{AreUses}
use Rattle.checked_program.specs.Sections.{Section, section_mode, BeginsAt, IsOwn}
use Rattle.checked_program.specs.Marks.{Callee, callee, Calls, BreaksAt, HasMark, IsOnOwn}
use Rattle.checked_program.specs.declared.section.SectionMark.{SectionMark}
use Rattle.checked_program.specs.declared.section.Spot.{Spot}
use Rattle.checked_program.specs.declared.section.Spot.TheVariants.{Method, Block}
use Rattle.checked_program.specs.declared.section.Uses.{Uses}
use Rattle.mark_reasons.specs.Causes.{IsCause}
use Rattle.mark_reasons.specs.declared.cause.Cause.{Cause}
use Rattle.mark_reasons.specs.declared.reason.Site.{Site}
use Rattle.mark_reasons.specs.declared.reason.Reason.{Reason}
use Rattle.mark_reasons.specs.declared.reason.Reason.TheVariants.{Elsewhere, Unreached, Breaks}
use Rattle.mark_reasons.specs.declared.reason.Reason.TheVariants.{Recurs}

-- the section of a mark, and its method as the section calls it
abbrev pub marked_section : SectionMark → Section
marked_section mark = record { method = mark.method; spot = mark.spot }

abbrev pub own_callee : Program → Section → Callee
own_callee p s = callee s.method (section_mode p s)

-- ---- the way that leads from a section to an instruction

-- the method that an instruction stands in, as it is called
abbrev pub callee_of : Site → Callee
callee_of x = callee x.method x.mode

-- Calls lead from one method to another, from the first on: each instruction calls the method of
-- the next. None are a way too.
abbrev pub IsWay : Program → Tagged → Callee → List Site → Callee → Type 0
IsWay p tags a [] b = a ≡ b
IsWay p tags a (x ∷ xs) b =
    (callee_of x ≡ a) × (c : Callee) × (Calls p tags a x.at c) × IsWay p tags c xs b

-- the first of some instructions is the section's own
abbrev pub BeginsOwn : Program → Tagged → Section → List Site → Type 0
BeginsOwn p tags s [] = ⊥
BeginsOwn p tags s (x ∷ xs) = IsOwn p tags s.method s.spot x.at

-- ---- reasons

-- some path leads to the `monitorenter` that begins a block, and so the block may be entered
abbrev pub IsSpotReached : Program → Tagged → ℕ → Spot → Type 0
IsSpotReached p tags mi Method = Unit {0}
IsSpotReached p tags mi (Block pc) = (enter : ℕ) × (f : TagShape) × BeginsAt p tags mi pc enter f

-- M1 to M5 of an own instruction, and M6 of one that calls lead to
abbrev pub mark_by : List Site → (rule : ℕ) → ℕ
mark_by [] rule = rule
mark_by (x ∷ xs) rule = 6

-- It is the first of its method: no own instruction before it breaks the rule; of a method that is
-- called, no instruction before it breaks any.
abbrev pub IsFirstSectionFault : Program → Tagged → Uses → Section → List Site → Site → (rule : ℕ)
    → Type 0
IsFirstSectionFault p tags uses s [] site rule =
    (j : ℕ) → j < site.at → IsOwn p tags s.method s.spot j
    → BreaksAt p tags uses (callee_of site) j rule → ⊥
IsFirstSectionFault p tags uses s (x ∷ xs) site rule =
    (j r : ℕ) → j < site.at → BreaksAt p tags uses (callee_of site) j r → ⊥

-- no way of fewer calls leads from the section to a method in which an instruction breaks a rule
abbrev pub IsShortest : Program → Tagged → Uses → Section → List Site → Type 0
IsShortest p tags uses s way =
    (x : Site) (xs : List Site) (site : Site) (rule : ℕ)
    → IsWay p tags (own_callee p s) (x ∷ xs) (callee_of site) → IsOwn p tags s.method s.spot x.at
    → BreaksAt p tags uses (callee_of site) site.at rule → length way ≤ length (x ∷ xs)

-- the way leads to an instruction that breaks a rule
pub record LeadsToFault (p : Program) (tags : Tagged) (uses : Uses) (s : Section) (way : List Site)
    (site : Site) (rule : ℕ) : Type 0 where
  pub leads : IsWay p tags (own_callee p s) way (callee_of site)
  pub own : BeginsOwn p tags s (way ++ site ∷ [])
  pub breaks : BreaksAt p tags uses (callee_of site) site.at rule
  pub first : IsFirstSectionFault p tags uses s way site rule
  pub shortest : IsShortest p tags uses s way

-- M5 has a cause, and no other rule has one
abbrev pub HasCause : Program → Tagged → Site → (rule : ℕ) → Option Cause → Type 0
HasCause p tags site rule None = rule ≡ 5 → ⊥
HasCause p tags site rule (Some cause) = (rule ≡ 5) × IsCause p tags (callee_of site) site.at cause

-- the way comes back to the method of one of its instructions, which so calls itself
pub record ComesBack (p : Program) (tags : Tagged) (s : Section) (way : List Site) (again : ℕ)
    : Type 0 where
  pub to : Callee
  pub leads : IsWay p tags (own_callee p s) way to
  pub own : BeginsOwn p tags s way
  pub from : Site
  pub there : slice_get way again ≡ Some from
  pub same : callee_of from ≡ to

abbrev pub IsReason : Program → Tagged → Uses → Section → (mark : ℕ) → Reason → Type 0
IsReason p tags uses s mark Elsewhere =
    (mark ≡ 8) × IsSpotReached p tags s.method s.spot × (IsOnOwn p tags s.method s.spot → ⊥)
IsReason p tags uses s mark Unreached = (mark ≡ 8) × (IsSpotReached p tags s.method s.spot → ⊥)
IsReason p tags uses s mark (Breaks way site rule cause) =
    (mark ≡ mark_by way rule) × LeadsToFault p tags uses s way site rule
    × HasCause p tags site rule cause
IsReason p tags uses s mark (Recurs way again) = (mark ≡ 7) × ComesBack p tags s way again

-- M0 has no reason, and each other mark has one
abbrev pub HasReason : Program → Tagged → Uses → Section → (mark : ℕ) → Option Reason → Type 0
HasReason p tags uses s zero None = Unit {0}
HasReason p tags uses s zero (Some reason) = ⊥
HasReason p tags uses s (suc n) None = ⊥
HasReason p tags uses s (suc n) (Some reason) = IsReason p tags uses s (suc n) reason

abbrev pub IsExplained : Program → Tagged → Uses → SectionMark → Option Reason → Type 0
IsExplained p tags uses mark reason = HasReason p tags uses (marked_section mark) mark.mark reason

-- of each mark its reason
pub record AreReasons (p : Program) (tags : Tagged) (marks : List SectionMark)
    (reasons : List (Option Reason)) : Type 0 where
  pub uses : Uses
  pub are_uses : AreUses p tags uses
  pub each : AllZip (IsExplained p tags uses) marks reasons

-- the sections of some marks have them
abbrev pub AreMarked : Program → Tagged → Uses → List SectionMark → Type 0
AreMarked p tags uses marks =
    (i : ℕ) (mark : SectionMark) → slice_get marks i ≡ Some mark
    → HasMark p tags uses (marked_section mark) mark.mark

-- the first of some marks have these reasons
pub record FirstReasons (p : Program) (tags : Tagged) (uses : Uses) (marks : List SectionMark)
    (count : ℕ) (reasons : List (Option Reason)) : Type 0 where
  pub long : length reasons ≡ count
  pub each : (i : ℕ) (mark : SectionMark) (reason : Option Reason) → slice_get marks i ≡ Some mark
      → slice_get reasons i ≡ Some reason → IsExplained p tags uses mark reason
