use Rattle.std.proofs.Common.{◌∙◌, refl}
use Rattle.jvm_types.specs.ClassNames.{file_class}
use Rattle.link_scope.{specs.{MemberTables.member_entry, Scoping.{file_text, pool_of_file}}, proofs.TableLaws.{adds_one, found_is_some}}
use Rattle.link_scope.proofs.members.add_member.Goals as goal

pub returns-clause-added : goal.returns-clause-added
returns-clause-added c =
    adds_one c.args.texts.now.numbers c.number.ensures.apart (member_entry (pool_of_file c.args.texts.now.files c.args.file) c.args.file c.args.member.now c.args.target) _ c.number.result c.number-2.result
    (rw c.from-at.ensures at c.number.ensures.number) (rw c.from-at.ensures at c.number-2.ensures.number) (record { class = refl; flags = refl; target = refl }) c.args.table.now c.add.new.self c.in_ok-had.ensures.added

pub returns-clause-had : goal.returns-clause-had
returns-clause-had c = λ entries shows. c.in_ok-had.ensures.was
    ∙ found_is_some (file_text c.args.texts.now.files c.args.file c.args.member.now.name) _ _
    (shows (file_class c.args.file) _ _ c.number.result c.number-2.result (rw c.from-at.ensures at c.number.ensures.number) (rw c.from-at.ensures at c.number-2.ensures.number))
