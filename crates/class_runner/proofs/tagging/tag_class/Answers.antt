use Rattle.std.proofs.{Common.arith, lemmas.{List.length_push, Result.err_from_is_err_and}}
use Rattle.checked_program.specs.Tagging.{IsTaggingOf, IsTagRefused}
use Rattle.class_runner.proofs.{MethodsFound.{method_next, class_ends}, MethodsTagged.stops}
use Rattle.class_runner.proofs.tagging.tag_class.Goals as goal

pub returns-in_err-tag_method-clause-refused : goal.returns-in_err-tag_method-clause-refused
returns-in_err-tag_method-clause-refused c =
    let p = err_from_is_err_and c.from_residual.result c.from_residual.ensures.1 in
    let untagged = rw c.len-method.ensures at c.in_err-tag_method.ensures.refused in
    rw (p.1, p.2) (λ left all start.
    stops c.args.program.now c.args.file c.args.class.now.constants c.loop-number.number c.args.class.now.methods left all c.loop-number.tags c.in_err-tag_method.field-0.0
    (omega (arith, c.loop-number-test.true, c.len-number-end.ensures)) untagged (c.loop-number.invariant.so_far left all start))

pub loop-number-preserved : goal.loop-number-preserved
loop-number-preserved c =
    let tagged = rw c.len-method.ensures at c.in_ok-tag_method.ensures.ok in
    let one = length_push c.loop-number.tags c.in_ok-tag_method.field-0 in
    rw c.in_ok-push.ensures.ok (record {
      count = omega (arith, one, c.loop-number.invariant.count);
      so_far = λ left all start.
          method_next (IsTaggingOf c.args.program.now) (IsTagRefused c.args.program.now) c.args.program.now.methods c.args.file c.args.class.now.constants c.loop-number.number c.args.class.now.methods left all c.loop-number.tags c.in_ok-tag_method.field-0
          (omega (arith, c.loop-number-test.true, c.len-number-end.ensures)) tagged (c.loop-number.invariant.so_far left all start);
    })

pub returns-clause-ok : goal.returns-clause-ok
returns-clause-ok c = λ left all start.
    class_ends (IsTaggingOf c.args.program.now) (IsTagRefused c.args.program.now) c.args.program.now.methods c.args.file c.args.class.now.constants c.loop-number.number c.args.class.now.methods left all c.loop-number.tags (omega (arith, c.loop-number-test.false, c.len-number-end.ensures)) (c.loop-number.invariant.so_far left all start)
