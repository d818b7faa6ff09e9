use Rattle.std.{proofs.{Common.{◌≡◌, ◌+◌, Option, Some, None, List, length, sym, ap, ◌∙◌, subst, arith, slice_get}, lemmas.{List.Sums.sum_by_push, Result.err_from_is_err_and}}, specs.List.sum_by}
use Rattle.jvm_types.specs.{LinkFaults.LinkFault, Linked.scope_of, declared.{code.Insn.Insn, program.MethodInfo.MethodInfo}}
use Rattle.linker.{specs.Linking.{IsLinkErrorOf, method_of, copied_bytes}, proofs.Coding.{fault_at, one_at, none_at}}
use Rattle.linker.proofs.methods.link_member.Goals as goal

pub returns-in_err-linked-in-Some-clause-refused : goal.returns-in_err-linked-in-Some-clause-refused
returns-in_err-linked-in-Some-clause-refused c =
    let p = err_from_is_err_and c.from_residual.result c.from_residual.ensures.1 in
    rw (p.1, p.2, c.in-Some.ensures)
    (subst (λ (o : Option LinkFault). IsLinkErrorOf o c.in_err-linked-in-Some.field-0.0)
    (sym (fault_at (scope_of c.args.file.now.files) (method_of c.args.file.now c.args.number c.args.method.now) c.in-Some.insns c.pop.new.self))
    c.in_err-linked-in-Some.ensures.linked)

pub returns-in_ok-push-in-Some-clause-linked : goal.returns-in_ok-push-in-Some-clause-linked
returns-in_ok-push-in-Some-clause-linked c =
    rw c.in-Some.ensures
    (one_at (scope_of c.args.file.now.files) (method_of c.args.file.now c.args.number c.args.method.now) c.pop.new.self c.args.methods.now c.push.new.self c.in-Some.insns c.in_ok-linked-in-Some.linked
    c.in_ok-linked-in-Some.ensures.linked.0 c.in_ok-linked-in-Some.ensures.linked.1 c.in_ok-push-in-Some.ensures.ok)

pub returns-in_ok-push-in-Some-clause-copied : goal.returns-in_ok-push-in-Some-clause-copied
returns-in_ok-push-in-Some-clause-copied c =
    let grown : sum_by copied_bytes c.push.new.self ≡ sum_by copied_bytes c.args.methods.now + copied_bytes c.in_ok-linked-in-Some.linked =
    ap (λ (ms : List MethodInfo). sum_by copied_bytes ms) c.in_ok-push-in-Some.ensures.ok ∙ sum_by_push copied_bytes c.args.methods.now c.in_ok-linked-in-Some.linked in
    omega (arith, grown, c.in_ok-linked-in-Some.ensures.copied)

pub returns-in-None-clause-linked : goal.returns-in-None-clause-linked
returns-in-None-clause-linked c =
    rw (c.in-None.ensures.0, c.in-None.ensures.1)
    (none_at (scope_of c.args.file.now.files) (method_of c.args.file.now c.args.number c.args.method.now) c.args.methods.now)
