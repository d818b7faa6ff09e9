use Rattle.std.proofs.lemmas.Result.{err_from_is_err_and}
use Rattle.class_runner.proofs.MethodsDecoded.{method_rows_few, method_next, method_stops, class_ends}
use Rattle.class_runner.proofs.decoding.decode_class.Goals as goal

pub decode_method-requires-clause-rows : goal.decode_method-requires-clause-rows
decode_method-requires-clause-rows c =
    let is = rw c.as_slice-method-items.ensures at c.method-item.is in
    let within = rw c.as_slice-method-items.ensures at c.loop-number-test.true in
    method_rows_few c.args.class.now c.method-item.result c.loop-number.number within is c.requires

pub returns-in_err-decode_method-clause-refused : goal.returns-in_err-decode_method-clause-refused
returns-in_err-decode_method-clause-refused c =
    let p = err_from_is_err_and c.from_residual.result c.from_residual.ensures.1 in
    rw (p.1, p.2) (λ left all start.
    method_stops c.args.file c.args.class.now.constants c.loop-number.number c.as_slice-method-items.result.now c.method-item.result left all c.loop-number.code c.in_err-decode_method.field-0.0
    c.loop-number-test.true c.method-item.is c.in_err-decode_method.ensures.refused (c.loop-number.invariant left all start))

pub loop-number-preserved : goal.loop-number-preserved
loop-number-preserved c =
    rw c.in_ok-push.ensures.ok (λ left all start.
    method_next c.args.file c.args.class.now.constants c.loop-number.number c.as_slice-method-items.result.now c.method-item.result c.in_ok-decode_method.field-0 left all c.loop-number.code
    c.loop-number-test.true c.method-item.is c.in_ok-decode_method.ensures.ok (c.loop-number.invariant left all start))

pub returns-clause-ok : goal.returns-clause-ok
returns-clause-ok c = λ left all start.
    class_ends c.args.file c.args.class.now.constants c.loop-number.number c.as_slice-method-items.result.now left all c.loop-number.code c.loop-number-test.false (c.loop-number.invariant left all start)
