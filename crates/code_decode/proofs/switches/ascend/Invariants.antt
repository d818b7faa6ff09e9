use Rattle.std.proofs.Common.{◌≡◌, ◌≤◌, ◌+◌, ◌-◌, ◌*◌, length}
use Rattle.jvm_types.specs.CodeFault.{ascend}
use Rattle.code_decode.proofs.switches.ascend.Given as goal

abbrev pub invariant-loop : goal.invariant-loop
invariant-loop l = record {
  up : ascend (l.count - l.counter + 1) l.rest ≡ ascend l.count l.bytes;
  room : 8 * (l.count - l.counter + 1) ≤ length l.rest;
}
