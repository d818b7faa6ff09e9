use Rattle.std.{proofs.{Common.{Option, ap, ◌∙◌}, lemmas.Option.unwrap_or-slice_get}, specs.Prelude.unwrap_or}
use Rattle.run_trace.specs.Stands.{Stand, no_stand}
use Rattle.run_trace.proofs.stands.stand_at.Goals as goal

pub returns-in-None : goal.returns-in-None
returns-in-None c = ap (λ (o : Option Stand). unwrap_or o no_stand) c.in-None.ensures.value ∙ unwrap_or-slice_get c.args.stands.now c.args.t no_stand
