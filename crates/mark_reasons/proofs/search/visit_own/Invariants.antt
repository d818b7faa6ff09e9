use Rattle.std.proofs.Common.{◌≡◌}
use Rattle.mark_reasons.specs.Searches.{own_call, visits}
use Rattle.mark_reasons.proofs.search.visit_own.Given as goal

abbrev pub invariant-loop-i : goal.invariant-loop-i
invariant-loop-i l = l.search ≡ visits (own_call l.p l.mode l.m l.t.frames l.own) l.initial.search 0 l.i
