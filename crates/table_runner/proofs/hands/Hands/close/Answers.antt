use Rattle.std.proofs.Common.{◌≡◌, Some, sym, ap, subst, ◌∙◌, arith}
use Rattle.jvm_types.specs.declared.outcome.Outcome.{Outcome}
use Rattle.checked_program.specs.MarkedProgram.{MarkedProgram}
use Rattle.machine_types.specs.{Threads.Thread, declared.config.Config.Config}
use Rattle.table_rule.specs.Views.{HoldsAll, ShowsRun, held_in}
use Rattle.table_runner.{specs.{Ending.IsOutcome, Handed.Handed}, proofs.{HandedThreads.in_place, WholeHands.ends}}
use Rattle.table_runner.proofs.hands.Hands.close.Goals as goal

pub returns : goal.returns
returns c =
    let h : Handed = record { program = c.self.inside.program.told; cfg = c.self.inside.cfg; table_id = c.self.inside.seat.table_id; steps = c.self.inside.seat.steps; threads = c.self.inside.threads; view = c.self.inside.seat.view } in
    let program : c.args.table.program ≡ h.program = c.requires.table.1 ∙ ap (λ (k : Handed). k.program) (sym c.self.view_is) in
    let cfg : c.args.table.cfg ≡ h.cfg = c.requires.table.2 ∙ ap (λ (k : Handed). k.cfg) (sym c.self.view_is) in
    let shows = c.close.ensures.shows in
    let run : ShowsRun h.program h.cfg shows.0 shows.1 = subst (λ (d : Config). ShowsRun h.program d shows.0 shows.1) cfg (subst (λ (q : MarkedProgram). ShowsRun q c.args.table.cfg shows.0 shows.1) program shows.2) in
    let all : HoldsAll h.program h.threads = subst (λ (k : Handed). HoldsAll k.program k.threads) (sym c.self.view_is) c.requires.all in
    let done = λ (x : Thread) (e : held_in h.threads 0 ≡ Some x). c.done_end-done.ensures x (sym (in_place h.threads 0 c.index-threads-0.result (all 0 (omega arith))) ∙ e) in
    let o : Outcome = record { threads = c.reports_of.result; done = c.done_end-done.result } in
    subst (λ (k : Handed). IsOutcome k o) c.self.view_is (ends h shows.0 shows.1 c.self.inside.seat.id c.reports_of.result c.done_end-done.result c.self.invariant.0 all run shows.3 c.reports_of.ensures done)
