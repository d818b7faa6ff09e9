use Rattle.std.proofs.Common.{◌≡◌, ◌≤◌, ◌-◌, ◌*◌, ◌∷◌, ◌++◌, length}
use Rattle.jvm_types.specs.{CodeFault.case_offsets, ReadCode.cases_of}
use Rattle.code_decode.proofs.switches.read_pairs.Given as goal

abbrev pub invariant-loop : goal.invariant-loop
invariant-loop l = record {
  to : l.to ++ case_offsets l.pc (l.count - l.counter) l.rest ≡ l.otherwise ∷ case_offsets l.pc l.count l.bytes;
  cases : l.cases ++ cases_of l.pc (l.count - l.counter) l.rest ≡ cases_of l.pc l.count l.bytes;
  room : 8 * (l.count - l.counter) ≤ length l.rest;
}
