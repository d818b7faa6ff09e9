use Rattle.std.proofs.Common.{List, subst}
use Rattle.jvm_types.specs.{Linked.scope_of, Members.look_up, declared.class_file.ClassFile.ClassFile}
use Rattle.link_scope.specs.{MemberTables.entries_of, Scoping.{file_text, IsFound}, declared.members.Sort.TheVariants.Fields}
use Rattle.link_scope.proofs.scope.Scope.find_field.Goals as goal

pub returns : goal.returns
returns c = subst (λ (files : List ClassFile). IsFound (file_text files c.args.file c.args.name) c.look_up.result (look_up (scope_of files).fields c.args.class (file_text files c.args.file c.args.name) (file_text files c.args.file c.args.descriptor)))
    c.self.view_is (c.look_up.ensures (entries_of Fields c.self.inside.texts.files) c.self.invariant.fields.shown)
