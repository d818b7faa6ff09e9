use Rattle.std.proofs.Common.{◌≡◌, ◌∙◌, length, ap, sym, subst}
use Rattle.checked_program.{specs.{MethodCalls.size_found, Reach.IsReach}, proofs.{CalledMethods.methods_few, ReachedMethods.reach_found}}
use Rattle.checked_program.proofs.reached_code.reach.Goals as goal

pub reached_methods-requires-clause-few : goal.reached_methods-requires-clause-few
reached_methods-requires-clause-few c = methods_few c.args.p.now c.requires.program

pub returns : goal.returns
returns c =
    let size : c.size_found.result ≡ size_found c.args.p.now.methods c.in_ok-found.found.items (length c.args.p.now.methods) =
    c.size_found.ensures ∙ ap (λ l. size_found c.args.p.now.methods l (length c.args.p.now.methods)) c.as_slice.ensures.value in
    subst (IsReach c.args.p.now c.args.method) (sym size) (reach_found c.args.p.now c.args.method c.in_ok-found.found.items c.requires.program c.requires.inside c.in_ok-found.ensures)
