-- A test, with what holds either way.
use Rattle.std.proofs.Common.{Bool, true, false}

pub either_way : (P : Bool → Type 0) (b : Bool) → P true → P false → P b
either_way P true h k = h
either_way P false h k = k
