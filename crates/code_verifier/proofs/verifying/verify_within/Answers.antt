use Rattle.std.proofs.Common.{◌≡◌, [], take, Some, None, sym, slice_get, IfOk, IfErr}
use Rattle.jvm_types.specs.{Verifying.IsTypingOf, declared.typing.Typing.Typing}
use Rattle.laws_programs.proofs.CodeOrder.{laid_out}
use Rattle.code_visits.proofs.MethodsWithin.{is_there, some_and}
use Rattle.code_verifier.{specs.declared.error.VerifyError.TheVariants.Memory, proofs.OneAnswer.{only_by, typed_by}}
use Rattle.code_verifier.proofs.verifying.verify_within.Goals as goal

pub verify_method-requires : goal.verify_method-requires
verify_method-requires c = laid_out c.args.p.now (take c.args.method c.args.p.now.methods) c.in-Some.m.now (c.requires.program.methods c.args.method c.in-Some.m.now (sym c.in-Some.ensures.value))

pub unreachable-requires : goal.unreachable-requires
unreachable-requires c = is_there c.args.p.now.methods c.args.method c.requires.method c.in-None.ensures.value

pub returns-clause-only : goal.returns-clause-only
returns-clause-only c = some_and (slice_get c.args.p.now.methods c.args.method) c.in-Some.m.now (λ m. (t : Typing) → IsTypingOf c.args.p.now m t → IfOk c.verify_method.result (λ found. found ≡ t)) c.in-Some.ensures.value
    (only_by c.args.p.now c.in-Some.m.now c.verify_method.result c.verify_method.ensures.ok)

pub returns-clause-typed : goal.returns-clause-typed
returns-clause-typed c = some_and (slice_get c.args.p.now.methods c.args.method) c.in-Some.m.now (λ m. (t : Typing) → IsTypingOf c.args.p.now m t → IfErr c.verify_method.result (λ e. e ≡ Memory)) c.in-Some.ensures.value
    (typed_by c.args.p.now c.in-Some.m.now c.verify_method.result c.verify_method.ensures.refused)
