use Rattle.std.proofs.Common.{ap, refl, ◌∙◌, ◌+◌}
use Rattle.machine_types.specs.Threads.{Thread}
use Rattle.step_core.proofs.SectionEvents.{end_made}
use Rattle.step_core.proofs.ahead.exits.finish.Goals as goal

pub returns-clause-on : goal.returns-clause-on
returns-clause-on c =
    end_made c.args.p.now c.args.monitor c.args.s.now c.count_elided.new.s c.args.words.now c.args.s.now.attempt refl
    c.requires.some c.requires.own c.requires.last c.requires.passes c.requires.none
    (c.count_elided.ensures ∙ ap (λ (t : Thread). record t { counts = record t.counts { elided = t.counts.elided + 1 } }) c.end_attempt.ensures)
