use Rattle.std.proofs.{Common.{◌≡◌, ◌<◌, ◌≤◌, ℕ, true, false, ◌∙◌, sym, subst, arith, length, MatchOption}, lemmas.Bool.Decides.nat_tests}
use Rattle.machine_types.specs.Core.{lives}
use Rattle.record_run.{specs.Kept.Kept, proofs.KeptRuns.next_is}
use Rattle.record_run.proofs.kept.Recording.next_turn.Goals as goal

pub returns : goal.returns
returns g c =
    let room : length c.args.self.now.order < c.args.self.now.most = grind (arith, nat_tests, sym c.is_full.ensures ∙ c.if-is_full.false) in
    next_is c.args.self.now c.next_live.result room
    (subst (λ (k : Kept). MatchOption c.next_live.result ((t : ℕ) → 1 ≤ t → lives k.machine.core t ≡ false) (λ t. (lives k.machine.core t ≡ true) × (1 ≤ t) × (t ≤ 8))) c.self.view_is c.next_live.ensures.live)
