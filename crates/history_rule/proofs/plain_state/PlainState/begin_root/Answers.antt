use Rattle.std.{proofs.Common.{refl, sym, ap, ◌∙◌}, specs.Option.option_copied}
use Rattle.history_rule.proofs.plain_state.PlainState.begin_root.Goals as goal

pub returns-in_ok-begin-in-Some-get : goal.returns-in_ok-begin-in-Some-get
returns-in_ok-begin-in-Some-get c = λ x e.
    let there = rw (← c.self.view_is) at e in
    let method = rw c.program.ensures.program at (sym c.get.ensures.value ∙ ap option_copied c.in-Some-get.is) in
    rw (c.in-Some.ensures, method, ← c.in_ok-entry-in-Some-get.ensures c.args.p.now.program, c.in_ok-begin-in-Some-get.ensures.ok x there, ← c.self.view_is) refl
