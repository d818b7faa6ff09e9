use Rattle.link_scope.proofs.TableLaws.{looked_up}
use Rattle.link_scope.proofs.scope.look_up.Goals as goal

pub returns : goal.returns
returns c = λ entries shows. rw c.find.ensures
    (looked_up c.args.texts.now.numbers entries c.args.members.now.table c.args.class _ _ c.number.result c.number-2.result c.is_init.result shows c.number.ensures.number c.number-2.ensures.number c.is_init.ensures)
