use Rattle.std.proofs.Common.{◌≡◌, Some, slice_get, subst, sym}
use Rattle.history_rule.specs.Steps.{Played}
use Rattle.outcomes.proofs.Found.{found_reached}
use Rattle.outcomes.proofs.reached.reached_at.Goals as goal

-- src/reached.rt:22:1
pub returns-clause-reached : goal.returns-clause-reached
returns-clause-reached c =
    let got = subst (λ (z : Played). slice_get c.args.found.now.states c.args.k ≡ Some z.state) (sym c.in_ok-copy.ensures) c.at.ensures in
    found_reached c.args.p.now c.args.found.now c.args.k _ c.requires.program c.requires.searched got c.in_ok-steps_to.ensures
