use Rattle.std.proofs.Common.{List, subst, sym}
use Rattle.std.specs.List.{AllByRecursion}
use Rattle.outcomes.specs.Lists.{IsListedIn, IsListedOutcome}
use Rattle.outcomes.specs.declared.listing.Listed.{Listed}
use Rattle.outcomes.proofs.Sorted.{all_sorted, listed_sorted}
use Rattle.outcomes.proofs.listing.list_rests.Goals as goal

pub returns-clause-listed : goal.returns-clause-listed
returns-clause-listed c =
    subst (AllByRecursion (IsListedOutcome c.args.p.now c.args.cfg.now)) (sym c.from_vec.ensures)
    (all_sorted (IsListedOutcome c.args.p.now c.args.cfg.now) _ _ c.sort_by_cached_key.ensures.permutation c.in_ok-listed.ensures.listed)

pub returns-clause-all : goal.returns-clause-all
returns-clause-all c = λ k q v s.
    subst (λ (xs : List Listed). IsListedIn c.args.p.now.program xs q) (sym c.from_vec.ensures)
    (listed_sorted c.args.p.now.program _ _ q c.sort_by_cached_key.ensures.permutation (c.in_ok-listed.ensures.all k q v s))
