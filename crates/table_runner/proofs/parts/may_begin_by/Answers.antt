use Rattle.std.proofs.Common.{◌≡◌, ◌∷◌, Some, ap, sym, ◌∙◌}
use Rattle.machine_types.specs.Core.{may_begin}
use Rattle.table_runner.proofs.NextThreads.{all_finished}
use Rattle.table_runner.proofs.parts.may_begin_by.Goals as goal

pub returns-in-Some-clause-some : goal.returns-in-Some-clause-some
returns-in-Some-clause-some c x ts e h =
    let two : Some x ≡ Some c.in-Some.first = sym e ∙ c.in-Some.is in
    let same : x ≡ c.in-Some.first = cc in
    c.may_begin.ensures ts (c.are_finished.ensures ∙ all_finished c.args.workers.now ts h)
    ∙ ap (λ y. may_begin (y ∷ ts)) (sym same)
