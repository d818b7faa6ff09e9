-- What a method reaches is one number.
use Rattle.std.{proofs.Common.{◌≤◌, ℕ, arith, slice_get}, specs.List.sum_by}
use Rattle.jvm_types.specs.declared.program.Program.{Program}
use Rattle.checked_program.{specs.{CheckedLaws.ReachIsOne, Reach.{IsReach, size_of}}, proofs.SumsOfSome.sum_of_some}

no_more : (p : Program) (mi n k : ℕ) → IsReach p mi n → IsReach p mi k → n ≤ k
no_more p mi n k a b =
    let size : ℕ → ℕ = λ u. size_of (slice_get p.methods u) in
    let few : sum_by size a.methods ≤ sum_by size b.methods = sum_of_some size a.methods b.methods a.distinct (λ u among. let calls = a.called u among in b.all u calls.0 calls.1) in
    let one = a.count in
    let other = b.count in
    omega (arith, few, one, other)

pub one_reach : ReachIsOne
one_reach p mi n k a b = omega (arith, no_more p mi n k a b, no_more p mi k n b a)
