use Rattle.std.proofs.Common.{◌≡◌, drop}
use Rattle.machine_types.specs.Frames.{handler_of}
use Rattle.plain_frames.proofs.exceptions.handler_of.Given as goal

abbrev pub invariant-loop-row : goal.invariant-loop-row
invariant-loop-row l = handler_of l.pc l.class (drop l.row-index l.rows) ≡ handler_of l.pc l.class l.rows
