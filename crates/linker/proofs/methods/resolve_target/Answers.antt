use Rattle.std.proofs.Common.{◌≡◌, sym, ap, ◌∙◌}
use Rattle.jvm_types.specs.{Linked.{scope_of, site_of}, Members.MethodSite, Targets.target_of}
use Rattle.linker.{specs.Linking.method_of, proofs.Coding.{target_given, target_refused}}
use Rattle.linker.proofs.methods.resolve_target.Goals as goal

pub returns-in-Ok : goal.returns-in-Ok
returns-in-Ok c =
    let same : record { class = c.own_class.result; name = c.text.result.now } ≡ site_of (method_of c.args.file.now c.args.number c.args.method.now) = λ i. record { class = c.own_class.ensures i; name = c.text.ensures i } in
    target_given (scope_of c.args.file.now.files) (method_of c.args.file.now c.args.number c.args.method.now) c.args.insn.now c.in-Ok.target
    (sym c.in-Ok.is ∙ c.target_of.ensures ∙ ap (λ (x : MethodSite). target_of (scope_of c.args.file.now.files) x c.args.file.now.class.constants c.args.insn.now.op) same)

pub returns-in-Err : goal.returns-in-Err
returns-in-Err c =
    let same : record { class = c.own_class.result; name = c.text.result.now } ≡ site_of (method_of c.args.file.now c.args.number c.args.method.now) = λ i. record { class = c.own_class.ensures i; name = c.text.ensures i } in
    rw (c.in_method.ensures, c.number.ensures.number)
    (target_refused (scope_of c.args.file.now.files) (method_of c.args.file.now c.args.number c.args.method.now) c.args.insn.now c.in-Err.rule
    (sym c.in-Err.is ∙ c.target_of.ensures ∙ ap (λ (x : MethodSite). target_of (scope_of c.args.file.now.files) x c.args.file.now.class.constants c.args.insn.now.op) same))
