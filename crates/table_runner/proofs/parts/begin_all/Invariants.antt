use Rattle.std.proofs.Common.{◌≡◌, ◌<◌, ◌≤◌, ℕ, option_map}
use Rattle.run_parts.specs.Parts.{own_begun}
use Rattle.table_rule.specs.Views.{held_in}
use Rattle.table_runner.proofs.parts.begin_all.Given as goal

abbrev pub invariant-loop-i : goal.invariant-loop-i
invariant-loop-i l =
    ((t : ℕ) → t < l.i → held_in l.threads t ≡ option_map own_begun (held_in l.fn.threads t))
    × ((t : ℕ) → l.i ≤ t → held_in l.threads t ≡ held_in l.fn.threads t)
