-- The forms that rows have, and the row that each stands for.
use Rattle.std.specs.Prelude.{ℕ, List, [], ◌∷◌, Some}
use Rattle.jvm_types.specs.CodeTable.{an_int, constant_row, load_row, move_row, stack_row}
use Rattle.jvm_types.specs.CodeTable.{store_row}
use Rattle.jvm_types.specs.declared.code.Op.{Op}
use Rattle.jvm_types.specs.declared.op_row.OpRow.{OpRow}
use Rattle.jvm_types.specs.declared.op_row.Given.TheVariants.{Fresh}
use Rattle.jvm_types.specs.declared.op_row.Want.{Want}
use Rattle.jvm_types.specs.declared.op_row.Want.TheVariants.{AnInt}
use Rattle.jvm_types.specs.declared.program.Program.{Program}
use Rattle.jvm_types.specs.declared.program.Target.{Target}
use Rattle.code_table.specs.declared.row_forms.RowForm.{RowForm}
use Rattle.code_table.specs.declared.row_forms.RowForm.TheVariants as forms
use Rattle.code_table.specs.declared.row_forms.Takes.{Takes}
use Rattle.code_table.specs.declared.row_forms.Takes.TheVariants.{Nothing, One, Two, Three}

abbrev pub wants : Takes → List Want
wants Nothing = []
wants (One top) = top ∷ []
wants (Two top second) = top ∷ second ∷ []
wants (Three top second third) = top ∷ second ∷ third ∷ []

-- the row of an instruction that has the form, at a pc, with what its constant names
abbrev pub formed_row : RowForm → Program → ℕ → Target → Op → OpRow
formed_row (forms.Leaves takes) p pc target op = stack_row (wants takes) []
formed_row (forms.Makes takes type) p pc target op = stack_row (wants takes) (Fresh type ∷ [])
formed_row (forms.Loads i want) p pc target op = load_row i want
formed_row (forms.Stores i want) p pc target op = store_row i want
formed_row (forms.Adds i) p pc target op =
    record { takes = []; gives = []; reads = Some (i, AnInt); writes = Some (i, an_int) }
formed_row (forms.Moves move) p pc target op = move_row move
formed_row forms.Named p pc target op = constant_row p pc target op
