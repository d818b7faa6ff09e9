use Rattle.std.proofs.{Common.{◌≡◌, ℕ, suc, ◌+◌, ◌-◌, ◌<◌, List, [], ◌∷◌, ◌++◌, length, replicate, ap, sym, ◌∙◌, arith, append_assoc}, lemmas.List.length_push}
use Rattle.jvm_types.specs.{Types.filled, declared.typing.VType.{VType, TheVariants.Top}}
use Rattle.code_verifier.proofs.type_lists.fill.Goals as goal

fill_more : (n : ℕ) (types : List VType) → length types < n → filled n (types ++ Top ∷ []) ≡ filled n types
fill_more n types h =
    let one_less : n - length types ≡ suc (n - (length types + 1)) = omega arith in
    ap (λ k. (types ++ Top ∷ []) ++ replicate (n - k) Top) (length_push types Top)
    ∙ append_assoc types (Top ∷ []) (replicate (n - (length types + 1)) Top)
    ∙ ap (λ k. types ++ replicate k Top) (sym one_less)

pub loop-place-preserved : goal.loop-place-preserved
loop-place-preserved c =
    let room : length c.loop-place.types < c.args.count = omega arith in
    record {
      same = ap (λ types. filled c.args.count types) c.in_ok-push.ensures.ok ∙ fill_more c.args.count c.loop-place.types room ∙ c.loop-place.invariant.same;
      long = omega (arith, ap length c.in_ok-push.ensures.ok, length_push c.loop-place.types Top);
    }
