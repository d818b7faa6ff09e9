use Rattle.std.{proofs.Common.{◌≡◌, ◌+◌, drop}, specs.Option.option_map}
use Rattle.code_table.specs.PcTables.{number_at}
use Rattle.checked_program.proofs.code_index.search.Given as goal

abbrev pub invariant-loop-i : goal.invariant-loop-i
invariant-loop-i l = number_at l.code l.pc ≡ option_map (λ n. l.i + n) (number_at (drop l.i l.code) l.pc)
