use Rattle.std.proofs.Common.{ℕ, ◌+◌, refl, ap, ◌∙◌, replicate}
use Rattle.run_trace.specs.Stands.{no_stand}
use Rattle.run_trace.proofs.traces.start.Goals as goal

pub returns-clause-ok : goal.returns-clause-ok
returns-clause-ok c = record {
  machine = c.in-Ok.ensures;
  number = refl;
  shown = refl;
  owed = c.in-Ok-nothing_owed.ensures ∙ ap (λ (n : ℕ). replicate (n + 1) 0) c.workers.ensures.workers;
  stands = c.in-Ok-no_stands.ensures ∙ ap (λ (n : ℕ). replicate (n + 1) no_stand) c.workers.ensures.workers;
  ends = c.new.ensures.items;
}
