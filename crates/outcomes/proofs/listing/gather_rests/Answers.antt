use Rattle.std.proofs.Common.{◌≡◌, ℕ, List, Some, slice_get, subst, sym, arith}
use Rattle.std.proofs.lemmas.Option.{get_or_from_slice_get, slice_get_within}
use Rattle.machine_types.specs.PlainState.{Plain}
use Rattle.plain_search.proofs.RowLists.{got_index}
use Rattle.outcomes.specs.Lists.{IsListedIn}
use Rattle.outcomes.proofs.Found.{below_next, listed_longer, rest_there}
use Rattle.outcomes.proofs.listing.gather_rests.Goals as goal

-- src/listing.rt:129:9
pub add_outcome-requires-clause-place : goal.add_outcome-requires-clause-place
add_outcome-requires-clause-place c =
    let rest = rest_there c.args.p.now c.args.found.now c.rests-k-items.result.now c.loop-k.k-index c.requires.program c.rests-k-items.ensures.rests c.requires.searched c.loop-k-test.true in
    slice_get_within c.args.found.now.states _ rest.0 rest.1

-- src/listing.rt:129:9
pub add_outcome-requires-clause-rest : goal.add_outcome-requires-clause-rest
add_outcome-requires-clause-rest c = rest_there c.args.p.now c.args.found.now c.rests-k-items.result.now c.loop-k.k-index c.requires.program c.rests-k-items.ensures.rests c.requires.searched c.loop-k-test.true

-- src/listing.rt:128:5
pub loop-k-preserved : goal.loop-k-preserved
loop-k-preserved c =
    let more = c.in_ok-add_outcome.ensures.longer in (
      c.in_ok-add_outcome.ensures.listed,
      λ j k q l. below_next
          (λ i. (n : ℕ) (z : Plain) → slice_get c.rests-k-items.result.now i ≡ Some n → slice_get c.args.found.now.states n ≡ Some z → IsListedIn c.args.p.now.program c.add_outcome.new.listed.items z) c.loop-k.k-index
          (λ i m n z e s. listed_longer c.args.p.now.program c.loop-k.listed.items more.0 c.add_outcome.new.listed.items z more.1 (c.loop-k.invariant.1 i n z m e s))
          (λ n z e s. c.in_ok-add_outcome.ensures.there z (subst (λ (i : ℕ). slice_get c.args.found.now.states i ≡ Some z) (sym (get_or_from_slice_get c.rests-k-items.result.now c.loop-k.k-index n 0 e)) s))
          j l k q,
    )

-- src/listing.rt:114:1
pub returns-clause-all : goal.returns-clause-all
returns-clause-all c = λ k q v s.
    let e = subst (λ (xs : List ℕ). slice_get xs v.0 ≡ Some k) (sym c.rests-k-items.ensures.rests) (got_index c.args.found.now.rests v.0 k v.1 (sym v.2)) in
    let w = slice_get_within c.rests-k-items.result.now v.0 k e in
    let m = c.loop-k-test.false in
    c.loop-k.invariant.1 v.0 k q (omega (arith, w, m)) e s
