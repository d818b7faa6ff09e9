-- Locals of which only the first are kept.
use Rattle.std.proofs.Common.{◌≡◌, ℕ, ◌+◌, ◌-◌, max, List, ◌++◌, length, replicate, ap, ◌∙◌, arith}
use Rattle.std.proofs.lemmas.List.{length-append, length-replicate}
use Rattle.jvm_types.specs.{Types.filled, declared.typing.VType.{VType, TheVariants.Top}}

pub length_filled : (n : ℕ) (ts : List VType) → length (filled n ts) ≡ max n (length ts)
length_filled n ts = length-append ts (replicate (n - length ts) Top) ∙ ap (λ k. length ts + k) (length-replicate (n - length ts) Top) ∙ omega arith

pub filled_again : (n : ℕ) (ts : List VType) → filled (length (filled n ts)) ts ≡ filled n ts
filled_again n ts =
    let same : length (filled n ts) - length ts ≡ n - length ts = omega (arith, length_filled n ts) in
    ap (λ k. ts ++ replicate k Top) same
