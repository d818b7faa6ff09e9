-- What a read or a write makes of what its seat knows and of the words that it fills, by the kind
-- of the cell and the answer.
use Rattle.std.specs.Prelude.{◌≡◌, ℕ, List, length, Bool, true, false}
use Rattle.solero_cell.specs.declared.answers.CellRead.{CellRead}
use Rattle.solero_cell.specs.declared.answers.CellRead.TheVariants.{Got, NotFree, Changed}
use Rattle.solero_cell.specs.declared.answers.CellWrite.{CellWrite}
use Rattle.solero_cell.specs.declared.views.View.{View}
use Rattle.solero_cell.specs.Attempts.{IsTried}
use Rattle.solero_cell.specs.Calls.{IsCellRead, IsCellWritten}
use Rattle.latch_cell.specs.declared.answers.LatchRead.{LatchRead}
use Rattle.latch_cell.specs.declared.answers.LatchRead.TheVariants as latch
use Rattle.latch_cell.specs.LatchCalls.{IsLatchRead, IsLatchTried, IsLatchWritten}

abbrev pub Reads : Type 1
Reads = (is_latch : Bool) (was : View) (out : List ℕ) → CellRead → (now : View) (filled : List ℕ)
    → Type 0

-- straight into the words: they are those of the count after Got, and any after another answer
abbrev pub IsReadInto : (was : View) (out : List ℕ) → CellRead → (now : View) (filled : List ℕ)
    → Type 0
IsReadInto was out read now filled = IsTried was filled read now × (length filled ≡ length out)

abbrev pub IsLatchReadInto : (was : View) (out : List ℕ) → LatchRead → (now : View)
    (filled : List ℕ) → Type 0
IsLatchReadInto was out read now filled =
    IsLatchTried was filled read now × (length filled ≡ length out)

-- what a read of a latch cell answers, as the first cell says it
abbrev pub as_cell_read : LatchRead → CellRead
as_cell_read (latch.Got c) = Got c
as_cell_read (latch.Changed noted found) = Changed noted found

abbrev pub IsAnyRead : Reads
IsAnyRead false was out read now filled = IsCellRead was out read now filled
IsAnyRead true was out (Got c) now filled = IsLatchRead was out (latch.Got c) now filled
IsAnyRead true was out (NotFree word) now filled = ⊥
IsAnyRead true was out (Changed noted found) now filled =
    IsLatchRead was out (latch.Changed noted found) now filled

abbrev pub IsAnyReadInto : Reads
IsAnyReadInto false was out read now filled = IsReadInto was out read now filled
IsAnyReadInto true was out (Got c) now filled = IsLatchReadInto was out (latch.Got c) now filled
IsAnyReadInto true was out (NotFree word) now filled = ⊥
IsAnyReadInto true was out (Changed noted found) now filled =
    IsLatchReadInto was out (latch.Changed noted found) now filled

abbrev pub IsAnyWritten : (is_latch : Bool) (was : View) (values : List ℕ) → CellWrite
    → (now : View) → Type 0
IsAnyWritten false was values written now = IsCellWritten was values written now
IsAnyWritten true was values written now = IsLatchWritten was values written now
