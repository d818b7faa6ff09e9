use Rattle.std.proofs.Common.{◌≡◌, ◌++◌, drop}
use Rattle.run_trace.specs.ReportJson.{thread_objects}
use Rattle.run_trace.proofs.report_json.write_threads.Given as goal

-- the objects that are written, with those of the threads that are left, are all
abbrev pub invariant-loop-thread : goal.invariant-loop-thread
invariant-loop-thread l = l.out.items ++ thread_objects l.thread (drop l.thread l.threads) ≡ l.fn.out.items ++ thread_objects 0 l.threads
