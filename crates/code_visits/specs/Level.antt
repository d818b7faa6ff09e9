-- Frames that may meet, and nodes of which all do.
use Rattle.std.specs.Prelude.{◌≡◌, ℕ, Bool, true, false, List, length, Option, Some, None}
use Rattle.std.specs.Option.{IfSome}
use Rattle.std.specs.List.{AllByRecursion}
use Rattle.jvm_types.specs.declared.code.Insn.{Insn}
use Rattle.checked_program.specs.Visits.{Meeting, PlanNode}

-- what is asked of a meeting: a frame is the same as itself and doesn't clash with it; where two
-- meet that don't clash, the first doesn't clash then; and where two are as wide, so is the frame
-- where they meet
pub record IsLawfulMeeting {A : Type 0} (d : Meeting A) (width : A → ℕ) : Type 0 where
  pub same : (f : A) → d.same f f ≡ true
  pub apart : (f : A) → d.clashes f f ≡ false
  pub met_apart : (g f : A) → d.clashes g f ≡ false → d.clashes (d.meet g f) f ≡ false
  pub met_wide : (g f : A) → width g ≡ width f → width (d.meet g f) ≡ width f

-- a frame that is brought doesn't clash with the one that is there, and is as wide
abbrev pub IsAsWide : {A : Type 0} → Meeting A → (A → ℕ) → Option A → A → Type 0
IsAsWide d width None f = Unit {0}
IsAsWide d width (Some g) f = (d.clashes g f ≡ false) × (width g ≡ width f)

-- one node for each instruction, and each frame is so wide
pub record AreLevel {A : Type 0} (width : A → ℕ) (places : ℕ) (code : List Insn)
    (nodes : List (PlanNode A)) : Type 0 where
  pub long : length nodes ≡ length code
  pub wide : AllByRecursion (λ (node : PlanNode A). IfSome node.frame (λ f. width f ≡ places)) nodes
