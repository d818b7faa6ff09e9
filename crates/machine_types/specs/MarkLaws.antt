-- What the marks of a program tell the running machine: which classes are frozen, and that a
-- section marked 0 breaks no rule.
use Rattle.std.specs.Prelude.{◌≡◌, ℕ, Bool, true}
use Rattle.checked_program.specs.Marks.{HasMark, AreMarks}
use Rattle.checked_program.specs.MarkedProgram.{MarkedProgram}
use Rattle.checked_program.specs.declared.section.Spot.{Spot}
use Rattle.machine_types.specs.Construction.{AreFrozen, AreOwned}
use Rattle.machine_types.specs.Sections.{is_marked}
use Rattle.machine_types.specs.Standing.{tags_of}

-- a test tells some frozen classes, among them each with a frozen or a guarded field
abbrev pub HasFrozenTest : Type 0
HasFrozenTest =
    (c : MarkedProgram) → AreMarks c.program (tags_of c) c.marks
    → (frozen : ℕ → Bool) × AreFrozen c frozen

-- and a test tells the owned array fields
abbrev pub HasOwnedTest : Type 0
HasOwnedTest =
    (c : MarkedProgram) → AreMarks c.program (tags_of c) c.marks
    → (owned : ℕ → Bool) × AreOwned c owned

-- a section that the machine takes as marked has the mark 0
abbrev pub MarkedHasMark : Type 0
MarkedHasMark =
    (c : MarkedProgram) (method : ℕ) (spot : Spot) (k : AreMarks c.program (tags_of c) c.marks)
    → is_marked c.marks method spot ≡ true
    → HasMark c.program (tags_of c) k.uses (record { method = method; spot = spot }) 0
