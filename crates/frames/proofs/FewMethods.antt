-- How many methods a program has.
use Rattle.std.{proofs.{Common.{◌≤◌, length, arith}, lemmas.Option.slice_get_within}, specs.List.sum_by}
use Rattle.jvm_types.specs.{ProgramInvariant.IsProgram, declared.program.Program.Program}
use Rattle.laws_programs.proofs.CodeOrder.{methods_laid_out, starts}
use Rattle.checked_program.proofs.CalledMethods.{some_each}

pub few_methods : (p : Program) → IsProgram p → length p.methods ≤ 67108864
few_methods p is =
    let size : sum_by (λ m. length m.code) p.methods ≤ 67108864 = is.size in
    omega (arith, some_each p.methods (λ i m e. let first = starts m (methods_laid_out p i m is e) in slice_get_within m.code 0 first.0 first.1), size)
