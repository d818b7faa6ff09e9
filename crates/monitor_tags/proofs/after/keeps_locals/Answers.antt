use Rattle.std.proofs.{Common.{◌≡◌, sym, ap, ◌∙◌, slice_set}, lemmas.List.set-get_or}
use Rattle.checked_program.specs.declared.tag.Tag.TheVariants.{Untagged}
use Rattle.laws_sections.proofs.TagOrder.{one_tag}
use Rattle.monitor_tags.proofs.after.keeps_locals.Goals as goal

pub returns-in-Some : goal.returns-in-Some
returns-in-Some c = λ e.
    let same : c.tag_given.result ≡ c.tag_given-in-Some.result = one_tag c.tag_given.result c.tag_given-in-Some.result (sym c.same_tag.ensures ∙ e) in
    rw c.in-Some.is (ap (λ t. slice_set c.args.f.now.locals c.in-Some.i t) (sym c.tag_given-in-Some.ensures ∙ sym same ∙ c.tag_given.ensures) ∙ set-get_or c.args.f.now.locals c.in-Some.i Untagged)
