use Rattle.std.proofs.Common.{◌≡◌, None, Some, sym, ◌∙◌, refl}
use Rattle.link_scope.{specs.BuiltIn.entry_of, proofs.TableLaws.{adds_one, adds_unnamed}}
use Rattle.link_scope.proofs.built_in.add.Goals as goal

pub returns-in_default : goal.returns-in_default
returns-in_default c = adds_unnamed c.args.texts.now.numbers (entry_of c.args.member.now) c.args.table.now
    (λ n d is_n is_d. let e : None ≡ Some n = sym c.in_default.is ∙ c.number_of.ensures.number ∙ is_n in absurd cc)

pub returns-in_default-number_of : goal.returns-in_default-number_of
returns-in_default-number_of c = adds_unnamed c.args.texts.now.numbers (entry_of c.args.member.now) c.args.table.now
    (λ n d is_n is_d. let e : None ≡ Some d = sym c.in_default-number_of.is ∙ c.number_of-2.ensures.number ∙ is_d in absurd cc)

pub returns : goal.returns
returns c = adds_one c.args.texts.now.numbers c.number_of.ensures.apart (entry_of c.args.member.now) _ c.in-Some.name c.in-Some-number_of.descriptor
    (sym c.number_of.ensures.number ∙ c.in-Some.is) (sym c.number_of-2.ensures.number ∙ c.in-Some-number_of.is) (record { class = refl; flags = refl; target = refl }) c.args.table.now c.add.new.self c.in_ok-add.ensures.added
