use Rattle.std.{proofs.{Common.{ℕ, Option, ap, ◌∙◌}, lemmas.Option.unwrap_or-slice_get}, specs.Prelude.unwrap_or}
use Rattle.run_trace.proofs.events.owed_at.Goals as goal

pub returns-in-None : goal.returns-in-None
returns-in-None c = ap (λ (o : Option ℕ). unwrap_or o 0) c.in-None.ensures.value ∙ unwrap_or-slice_get c.args.owed.now c.args.t 0
