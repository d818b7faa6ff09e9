use Rattle.std.proofs.Common.{◌≡◌, ◌≤◌, drop}
use Rattle.solero_explain.specs.Forbids.{number_from}
use Rattle.solero_explain.proofs.forbids.number_of.Given as goal

abbrev pub invariant-loop-c : goal.invariant-loop-c
invariant-loop-c l = record {
  number : number_from l.n (drop l.c-index l.digits) ≡ number_from 0 l.digits;
  few : l.n ≤ 2147483648;
}
