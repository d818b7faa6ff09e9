use Rattle.std.{proofs.Common.{◌≡◌, ◌++◌, drop}, specs.List.flat_map}
use Rattle.jvm_types.specs.declared.outcome.ThreadReport.{ThreadReport}
use Rattle.run_texts.proofs.reports.prints_by_thread.Given as goal

abbrev pub invariant-loop-thread : goal.invariant-loop-thread
invariant-loop-thread l = l.prints.items ++ flat_map (λ (t : ThreadReport). t.prints) (drop l.thread-index l.threads) ≡ flat_map (λ (t : ThreadReport). t.prints) l.threads
