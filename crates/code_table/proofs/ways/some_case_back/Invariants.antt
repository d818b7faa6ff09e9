use Rattle.std.{proofs.Common.{◌≡◌, map, drop, nat_le}, specs.List.list_any}
use Rattle.code_table.proofs.ways.some_case_back.Given as goal

abbrev pub invariant-loop-case : goal.invariant-loop-case
invariant-loop-case l = list_any (λ to. nat_le to l.pc) (map (λ c. c.target) (drop l.case-index l.cases)) ≡ list_any (λ to. nat_le to l.pc) (map (λ c. c.target) l.cases)
