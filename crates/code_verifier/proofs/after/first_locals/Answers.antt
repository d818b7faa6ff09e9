use Rattle.std.proofs.Common.{◌≡◌, ap, ◌∙◌, ◌++◌, length}
use Rattle.jvm_types.specs.Types.{filled}
use Rattle.code_verifier.proofs.FrameLaws.{filled_more}
use Rattle.code_verifier.proofs.after.first_locals.Goals as goal

pub returns-clause-locals : goal.returns-clause-locals
returns-clause-locals c =
    let kept : c.extend_from_slice.new.self ≡ c.first_locals-kept.result.now = c.in_ok-extend_from_slice.ensures.ok ∙ ap (λ l. l ++ c.first_locals-kept.result.now) (c.from_vec-locals.ensures ∙ c.in_ok-with_capacity.ensures.items) in
    ap (λ l. filled (length c.args.f.now.locals) l) (c.in_ok-fill.ensures ∙ ap (λ l. filled c.args.count l) kept)
    ∙ filled_more (length c.args.f.now.locals) c.args.count c.first_locals-kept.result.now c.requires ∙ c.first_locals-kept.ensures
