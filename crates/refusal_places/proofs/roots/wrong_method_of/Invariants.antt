use Rattle.std.{proofs.Common.{◌≡◌, drop}, specs.List.position_from}
use Rattle.refusal_places.specs.Roots.{is_wrong_in}
use Rattle.refusal_places.proofs.roots.wrong_method_of.Given as goal

abbrev pub invariant-loop-number : goal.invariant-loop-number
invariant-loop-number l = position_from (is_wrong_in l.file l.class.constants) l.number (drop l.number l.class.methods) ≡ position_from (is_wrong_in l.file l.class.constants) 0 l.class.methods
