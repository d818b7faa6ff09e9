use Rattle.std.proofs.{Common.{◌+◌, List, length, ◌∙◌, ap, sym, subst, arith}, lemmas.List.FromFn.length-map-range_with_len}
use Rattle.checked_program.specs.MarkedProgram.{MarkedProgram}
use Rattle.machine_types.specs.{Core.{start, start_thread}, StartWords.start_words, Threads.Thread, declared.config.Config.Config}
use Rattle.table_rule.specs.Views.{HasThreads}
use Rattle.table_runner.{specs.Handed.Handed, proofs.StartHands.at_start}
use Rattle.table_runner.proofs.opening.table.Goals as goal

pub placed-threads-requires : goal.placed-threads-requires
placed-threads-requires c =
    let p = c.args.p.now in
    let long = ap length c.in_ok-start_threads.ensures ∙ length-map-range_with_len (start_thread p c.args.cfg.now) 0 (p.program.workers + 1) in
    omega (arith, long, c.program.ensures.marked.checked.program.workers)

pub open-requires : goal.open-requires
open-requires c = c.as_slice.ensures ∙ c.in_ok-words.ensures ∙ ap start_words c.program.ensures.program

pub returns-clause-start : goal.returns-clause-start
returns-clause-start c =
    let table = c.in_ok-table.table in
    let h : Handed = c.held.result in
    let run = c.in_ok-table.ensures.run in
    let placed = c.placed-threads.result in
    let threads : HasThreads placed (start c.args.p.now c.args.cfg.now).threads = subst (λ (ts : List Thread). HasThreads placed ts) c.in_ok-start_threads.ensures c.placed-threads.ensures in
    let of_program : HasThreads placed (start table.program c.args.cfg.now).threads = subst (λ (q : MarkedProgram). HasThreads placed (start q c.args.cfg.now).threads) (sym run.0) threads in
    let of_run : HasThreads placed (start table.program table.cfg).threads = subst (λ (d : Config). HasThreads placed (start table.program d).threads) (sym run.1) of_program in
    at_start table.table_id table.program table.cfg h
    (sym c.in_ok-table.ensures.seat.0 ∙ ap (λ (k : Handed). k.table_id) (sym c.held.ensures), run.0 ∙ ap (λ (k : Handed). k.program) (sym c.held.ensures), run.1 ∙ ap (λ (k : Handed). k.cfg) (sym c.held.ensures))
    (subst (λ (k : Handed). HasThreads k.threads (start table.program table.cfg).threads) (sym c.held.ensures) of_run)
