use Rattle.std.proofs.{Common.arith, lemmas.{List.length_push, Result.err_from_is_err_and}}
use Rattle.jvm_types.specs.Verifying.{IsTypingOf, IsRefused}
use Rattle.class_runner.proofs.{MethodsFound.{method_next, class_ends}, MethodsTyped.stops}
use Rattle.class_runner.proofs.verifying.verify_class.Goals as goal

pub returns-in_err-verify_method-clause-refused : goal.returns-in_err-verify_method-clause-refused
returns-in_err-verify_method-clause-refused c =
    let p = err_from_is_err_and c.from_residual.result c.from_residual.ensures.1 in
    let untyped = rw c.len-method.ensures at c.in_err-verify_method.ensures.refused in
    rw (p.1, p.2) (λ left all start.
    stops c.args.program.now c.args.file c.args.class.now.constants c.loop-number.number c.args.class.now.methods left all c.loop-number.typings c.in_err-verify_method.field-0.0
    (omega (arith, c.loop-number-test.true, c.len-number-end.ensures)) untyped (c.loop-number.invariant.so_far left all start))

pub loop-number-preserved : goal.loop-number-preserved
loop-number-preserved c =
    let typed = rw c.len-method.ensures at c.in_ok-verify_method.ensures.ok in
    let one = length_push c.loop-number.typings c.in_ok-verify_method.field-0 in
    rw c.in_ok-push.ensures.ok (record {
      count = omega (arith, one, c.loop-number.invariant.count);
      so_far = λ left all start.
          method_next (IsTypingOf c.args.program.now) (IsRefused c.args.program.now) c.args.program.now.methods c.args.file c.args.class.now.constants c.loop-number.number c.args.class.now.methods left all c.loop-number.typings c.in_ok-verify_method.field-0
          (omega (arith, c.loop-number-test.true, c.len-number-end.ensures)) typed (c.loop-number.invariant.so_far left all start);
    })

pub returns-clause-ok : goal.returns-clause-ok
returns-clause-ok c = λ left all start.
    class_ends (IsTypingOf c.args.program.now) (IsRefused c.args.program.now) c.args.program.now.methods c.args.file c.args.class.now.constants c.loop-number.number c.args.class.now.methods left all c.loop-number.typings (omega (arith, c.loop-number-test.false, c.len-number-end.ensures)) (c.loop-number.invariant.so_far left all start)
