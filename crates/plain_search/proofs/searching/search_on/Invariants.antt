use Rattle.plain_search.specs.Searched.{AreTaken, IsSoundSearch}
use Rattle.plain_search.proofs.searching.search_on.Given as goal

abbrev pub invariant-loop-i : goal.invariant-loop-i
invariant-loop-i g l = record {
  sound : IsSoundSearch l.p l.s;
  taken : AreTaken l.p l.s l.i;
}
