use Rattle.std.proofs.Common.{rules, inl, inr}
use Rattle.command_words.proofs.Found.{found_none, found_rows}
use Rattle.command_words.proofs.found_words.found_in.Goals as goal

pub returns-in-Ok : goal.returns-in-Ok
returns-in-Ok c =
    let e = c.in-Ok.ensures in
    found_rows _ _ _ (e.kinds c.requires.free) (e.matches c.requires.simple).0

pub returns-else-eq : goal.returns-else-eq
returns-else-eq c =
    elim (c.in-Err.ensures.kinds c.requires.free) [
      | inl memory ↦ absurd (search (rules, memory))
      | inr among ↦ found_none _ _ _ among
    ]
