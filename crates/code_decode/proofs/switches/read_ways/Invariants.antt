use Rattle.std.proofs.Common.{◌≡◌, ◌≤◌, ◌-◌, ◌*◌, ◌∷◌, ◌++◌, map, nat_abs, length}
use Rattle.jvm_types.specs.CodeFault.{offsets}
use Rattle.code_decode.proofs.switches.read_ways.Given as goal

abbrev pub invariant-loop : goal.invariant-loop
invariant-loop l = record {
  to : l.to ++ offsets l.pc (l.count - l.counter) l.rest ≡ l.otherwise ∷ offsets l.pc l.count l.bytes;
  pcs : l.pcs ++ map nat_abs (offsets l.pc (l.count - l.counter) l.rest) ≡ map nat_abs (offsets l.pc l.count l.bytes);
  room : 4 * (l.count - l.counter) ≤ length l.rest;
}
