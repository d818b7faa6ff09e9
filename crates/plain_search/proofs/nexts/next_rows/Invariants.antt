use Rattle.std.proofs.Common.{◌≡◌, ℕ, ◌<◌, IfSome, []}
use Rattle.machine_types.specs.declared.plain.Act.{Act}
use Rattle.plain_search.specs.Nexts.{HasNextBy, IsNextRow}
use Rattle.plain_search.specs.Rows.{IsLonger}
use Rattle.plain_search.proofs.nexts.next_rows.Given as goal

abbrev pub invariant-loop-t : goal.invariant-loop-t
invariant-loop-t l = record {
  same : IfSome l.spare (λ z. z ≡ l.q);
  there : (t : ℕ) → t < l.t → (act : Act) → HasNextBy l.q l.rows.items (record { thread = t; act = act });
  longer : IsLonger (IsNextRow l.q) [] l.rows.items;
}
