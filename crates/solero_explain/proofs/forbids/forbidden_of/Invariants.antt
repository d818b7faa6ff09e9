use Rattle.std.proofs.Common.{◌≡◌, [], drop}
use Rattle.solero_explain.specs.Forbids.{forbidden_parts}
use Rattle.solero_explain.proofs.forbids.forbidden_of.Given as goal

abbrev pub invariant-loop-part : goal.invariant-loop-part
invariant-loop-part l = forbidden_parts l.forbidden (drop l.part-index l.parts) ≡ forbidden_parts [] l.parts
