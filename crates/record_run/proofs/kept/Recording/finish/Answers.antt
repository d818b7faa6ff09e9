use Rattle.std.proofs.Common.{ℕ, List, subst, sym}
use Rattle.record_run.{specs.Kept.{IsFull, IsRecordOf, Kept}, proofs.KeptRuns.finishes}
use Rattle.record_run.proofs.kept.Recording.finish.Goals as goal

pub returns : goal.returns
returns g c =
    let k : Kept = record { machine = c.self.inside.machine; order = c.self.inside.order.items; most = c.self.inside.most } in
    let made : IsRecordOf g.J.Naming.run (record { outcome = c.outcome.result; order = k.order }) = finishes g.J.Naming.run k c.replay_workers.new.machine c.outcome.result c.self.invariant.0 (subst IsFull (sym c.self.view_is) c.requires.full) c.replay_workers.ensures c.outcome.ensures in
    subst (λ (ts : List ℕ). IsRecordOf g.J.Naming.run (record { outcome = c.outcome.result; order = ts })) (sym c.into_rows.ensures) made
