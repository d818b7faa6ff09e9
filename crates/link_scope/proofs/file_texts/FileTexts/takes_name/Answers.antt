use Rattle.std.proofs.Common.{ℕ, Option, ◌∙◌, ap}
use Rattle.jvm_types.specs.ClassNames.{named_class, class_name, class_names}
use Rattle.link_scope.{specs.FileTexts.is_before, proofs.TakenLaws.taken}
use Rattle.link_scope.proofs.file_texts.FileTexts.takes_name.Goals as goal

pub returns-in-Some : goal.returns-in-Some
returns-in-Some c = rw (← c.self.view_is, ← c.in-Some.ensures.value)
    (c.is_before.ensures
    ∙ ap (λ (o : Option ℕ). is_before o c.args.file) (c.named_class.ensures ∙ (λ i. named_class (c.self.invariant.names i) (c.class_name.ensures i)))
    ∙ taken (class_names c.self.inside.files.now) (class_name c.in-Some.class.now) c.args.file)
