use Rattle.std.proofs.{Common.{◌≡◌, ◌∙◌, Some, None, arith}, lemmas.Result.err_from_is_err_and}
use Rattle.jvm_types.specs.CodeFault.{code_fault}
use Rattle.code_decode.proofs.Deciding.{by_marks, is_code}
use Rattle.code_decode.proofs.decoding.decode_slice.Goals as goal

pub returns-in_err-check_places-clause-is : goal.returns-in_err-check_places-clause-is
returns-in_err-check_places-clause-is c =
    let e = by_marks c.args.code.now c.args.rows.now c.in_ok-swept.swept.starts c.in_ok-swept.swept.branchings (omega arith) (omega arith) c.in_ok-swept.ensures.0 c.in_ok-swept.ensures.2 in
    let p = err_from_is_err_and c.from_residual-in_err-check_places.result c.from_residual-in_err-check_places.ensures.1 in
    let w = c.in_err-check_places.ensures in
    let first : code_fault c.args.code.now c.args.rows.now ≡ Some c.in_err-check_places.field-0.0 = cc in
    rw (p.1, p.2) first

pub returns-clause-is : goal.returns-clause-is
returns-clause-is c =
    let e = by_marks c.args.code.now c.args.rows.now c.in_ok-swept.swept.starts c.in_ok-swept.swept.branchings (omega arith) (omega arith) c.in_ok-swept.ensures.0 c.in_ok-swept.ensures.2 in
    let q = c.in_ok-check_places.ensures in
    let none : code_fault c.args.code.now c.args.rows.now ≡ None = cc in (none, c.from_vec.ensures ∙ (c.shrink_to_fit.ensures.items ∙ c.in_ok-swept.ensures.1))

pub returns-clause-code : goal.returns-clause-code
returns-clause-code c =
    let e = by_marks c.args.code.now c.args.rows.now c.in_ok-swept.swept.starts c.in_ok-swept.swept.branchings (omega arith) (omega arith) c.in_ok-swept.ensures.0 c.in_ok-swept.ensures.2 in
    let q = c.in_ok-check_places.ensures in
    let none : code_fault c.args.code.now c.args.rows.now ≡ None = cc in
    is_code c.args.code.now c.args.rows.now c.from_vec.result (λ i. omega (arith, c.type_inv.code i)) (c.from_vec.ensures ∙ (c.shrink_to_fit.ensures.items ∙ c.in_ok-swept.ensures.1)) none
