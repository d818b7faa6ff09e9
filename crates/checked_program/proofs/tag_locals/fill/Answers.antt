use Rattle.std.proofs.{Common.{◌≡◌, ℕ, suc, ◌+◌, ◌-◌, ◌<◌, List, [], ◌∷◌, ◌++◌, length, replicate, ap, sym, ◌∙◌, arith, append_assoc}, lemmas.List.length_push}
use Rattle.checked_program.specs.{LockTags.filled_tags, declared.tag.Tag.{Tag, TheVariants.Untagged}}
use Rattle.checked_program.proofs.tag_locals.fill.Goals as goal

fill_more : (n : ℕ) (tags : List Tag) → length tags < n → filled_tags n (tags ++ Untagged ∷ []) ≡ filled_tags n tags
fill_more n tags h =
    let one_less : n - length tags ≡ suc (n - (length tags + 1)) = omega arith in
    ap (λ k. (tags ++ Untagged ∷ []) ++ replicate (n - k) Untagged) (length_push tags Untagged)
    ∙ append_assoc tags (Untagged ∷ []) (replicate (n - (length tags + 1)) Untagged)
    ∙ ap (λ k. tags ++ replicate k Untagged) (sym one_less)

pub loop-place-preserved : goal.loop-place-preserved
loop-place-preserved c =
    let room : length c.loop-place.tags < c.args.count = omega arith in
    record {
      same = ap (λ tags. filled_tags c.args.count tags) c.in_ok-push.ensures.ok ∙ fill_more c.args.count c.loop-place.tags room ∙ c.loop-place.invariant.same;
      long = omega (arith, ap length c.in_ok-push.ensures.ok, length_push c.loop-place.tags Untagged);
    }
