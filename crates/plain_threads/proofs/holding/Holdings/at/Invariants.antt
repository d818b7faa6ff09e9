use Rattle.std.proofs.Common.{◌≡◌, drop}
use Rattle.machine_types.specs.PlainState.{holding_at}
use Rattle.plain_threads.proofs.holding.Holdings.at.Given as goal

abbrev pub invariant-loop-h : goal.invariant-loop-h
invariant-loop-h l = holding_at (drop l.h-index l.h-items) l.m ≡ holding_at l.self l.m
