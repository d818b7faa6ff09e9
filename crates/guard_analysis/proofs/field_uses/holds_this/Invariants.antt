use Rattle.std.{proofs.Common.{◌≡◌, drop}, specs.List.list_any}
use Rattle.checked_program.specs.LockTags.{is_this}
use Rattle.guard_analysis.proofs.field_uses.holds_this.Given as goal

abbrev pub invariant-loop-place : goal.invariant-loop-place
invariant-loop-place l = list_any is_this (drop l.place l.held) ≡ list_any is_this l.held
