use Rattle.std.{proofs.Common.{◌≡◌, ◌++◌, drop}, specs.List.filter_map}
use Rattle.code_table.specs.PcTables.{number_at}
use Rattle.guard_analysis.proofs.block_walk.numbers.Given as goal

abbrev pub invariant-loop-pc : goal.invariant-loop-pc
invariant-loop-pc l = l.found.items ++ filter_map (λ pc. number_at l.m.code pc) (drop l.pc-index l.pcs) ≡ filter_map (λ pc. number_at l.m.code pc) l.pcs
