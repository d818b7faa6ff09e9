use Rattle.link_scope.proofs.TableLaws.{adds_none, adds_next}
use Rattle.link_scope.proofs.built_in.add_first_methods.Goals as goal

pub returns : goal.returns
returns c = adds_next c.args.texts.now.numbers _ _ _ _ _ _
    (adds_next c.args.texts.now.numbers _ _ _ _ _ _
    (adds_next c.args.texts.now.numbers _ _ _ _ _ _
    (adds_next c.args.texts.now.numbers _ _ _ _ _ _
    (adds_next c.args.texts.now.numbers _ _ _ _ _ _ (adds_none c.args.texts.now.numbers c.args.table.now) c.in_ok-add.ensures c.init_of.ensures)
    c.in_ok-add-2.ensures
    c.public_method.ensures)
    c.in_ok-add-3.ensures
    c.public_method-2.ensures)
    c.in_ok-add-4.ensures
    c.public_method-3.ensures)
    c.in_ok-add-5.ensures
    c.public_method-4.ensures
