-- Marks in the order of their methods, and within one in that of their spots: its own section
-- first, then its blocks by their pc.
use Rattle.std.specs.Prelude.{ℕ, suc, ◌+◌, ◌≡◌, ◌<◌, ◌≤◌, ◌⊎◌, ◌==◌, Bool, ◌&&◌, ◌||◌, nat_lt, List}
use Rattle.std.specs.Prelude.{[], ◌∷◌}
use Rattle.checked_program.specs.declared.section.SectionMark.{SectionMark}
use Rattle.checked_program.specs.declared.section.Spot.{Spot}
use Rattle.checked_program.specs.declared.section.Spot.TheVariants.{Method, Block}

-- the rank of a spot in its method
abbrev pub rank : Spot → ℕ
rank Method = 0
rank (Block pc) = pc + 1

-- whether a section of this rank in a method stands before another one
abbrev pub stands_before : (method rank other least : ℕ) → Bool
stands_before method rank other least =
    nat_lt method other || (method == other && nat_lt rank least)

-- a section is of a later method than one, or of a rank at or above another in it
abbrev pub IsFrom : (method least other rank : ℕ) → Type 0
IsFrom method least other rank = (method < other) ⊎ ((method ≡ other) × (least ≤ rank))

-- each mark stands behind the one before it, and the first at some place or behind it
abbrev pub AscendFrom : (method least : ℕ) → List SectionMark → Type 0
AscendFrom method least [] = Unit {0}
AscendFrom method least (mark ∷ marks) =
    IsFrom method least mark.method (rank mark.spot)
    × AscendFrom mark.method (suc (rank mark.spot)) marks
