use Rattle.std.{proofs.Common.{List, sym, ap, ◌∙◌, subst}, specs.List.AllByRecursion}
use Rattle.jvm_types.specs.{ClassGrammar.IsHandler, declared.class_file.{Code.Code, Handler.Handler}}
use Rattle.linker.proofs.Coding.{handlers_of}
use Rattle.linker.proofs.methods.link_method.Goals as goal

pub resolve_rows-requires : goal.resolve_rows-requires
resolve_rows-requires c = subst (λ (hs : List Handler). AllByRecursion (IsHandler c.args.file.now.class.constants) hs)
    (sym (c.as_slice-2.ensures ∙ ap (λ (k : Code). k.rows) c.own_code-code.ensures)) (handlers_of c.args.file.now.class.constants c.args.method.now c.requires)
