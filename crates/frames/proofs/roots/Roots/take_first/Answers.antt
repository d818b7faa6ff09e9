use Rattle.std.proofs.Common.{ℕ, List, drop, ap}
use Rattle.frames.proofs.RootLaws.{rest_left}
use Rattle.frames.proofs.roots.Roots.take_first.Goals as goal

pub returns-clause-rest : goal.returns-clause-rest
returns-clause-rest c =
    let s = c.self.inside in
    rw (← c.self.view_is) (ap (λ (xs : List ℕ). record { left = xs; later = drop s.later s.numbers }) (rest_left s.numbers s.begun s.until c.if-self.false))
