-- A typing is known by its frames.
use Rattle.std.proofs.Common.{◌≡◌}
use Rattle.jvm_types.specs.declared.typing.Typing.{Typing}
use Rattle.laws_programs.{specs.VisitLaws.OneTypingOf, proofs.OneTyping.one_typing}

same_typing : (t u : Typing) → t.frames ≡ u.frames → t ≡ u
same_typing t u e = λ i. record { frames = e i }

pub typing_of_one : OneTypingOf
typing_of_one p m t u is other = same_typing t u (one_typing p m t.frames u.frames is other)
