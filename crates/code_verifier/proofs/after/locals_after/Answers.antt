use Rattle.std.proofs.Common.{suc, ◌≤◌, min, length, ap, ◌∙◌, arith}
use Rattle.jvm_types.specs.{CodeTable.locals_after, Types.filled, declared.typing.VType.TheVariants.Top}
use Rattle.code_verifier.proofs.FrameLaws.{local_written}
use Rattle.code_verifier.proofs.after.locals_after.Goals as goal

pub returns : goal.returns
returns c =
    let inside : min (suc c.in-Some.i) (length c.args.f.now.locals) ≤ length c.in_ok-locals.locals = omega (arith, c.in_ok-locals.ensures.count, c.min.ensures, c.from-count.ensures, c.local_count.ensures) in
    ap (λ l. filled (length c.args.f.now.locals) l) (c.write_local.ensures ∙ ap (λ l. locals_after Top (λ t. t) c.args.writes l c.in_ok-locals.locals) c.stack.ensures)
    ∙ local_written c.args.writes c.args.f.now.stack c.args.f.now.locals c.in_ok-locals.locals c.in-Some.i c.in-Some.field-0-1 c.in-Some.is c.in_ok-locals.ensures.locals inside
