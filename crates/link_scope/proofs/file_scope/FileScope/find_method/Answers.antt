use Rattle.std.proofs.Common.{Option, subst}
use Rattle.jvm_types.specs.{ClassNames.text_at, Linked.scope_of, Members.look_up, declared.class_file.ClassFile.ClassFile}
use Rattle.link_scope.specs.Scoping.{FileOf, IsFound, pool_of}
use Rattle.link_scope.proofs.file_scope.FileScope.find_method.Goals as goal

pub returns : goal.returns
returns c =
    subst (λ (f : FileOf). IsFound (text_at f.class.constants c.args.name) c.find_method.result (look_up (scope_of f.files).methods c.args.class (text_at f.class.constants c.args.name) (text_at f.class.constants c.args.descriptor)))
    c.self.view_is
    (subst (λ (o : Option ClassFile). IsFound (text_at (pool_of o) c.args.name) c.find_method.result
    (look_up (scope_of c.self.inside.scope.now).methods c.args.class (text_at (pool_of o) c.args.name) (text_at (pool_of o) c.args.descriptor))) c.self.invariant.here c.find_method.ensures)
