use Rattle.std.proofs.Common.{◌≡◌, ℕ, ◌<◌, IfSome, Some}
use Rattle.machine_types.specs.declared.plain.Act.TheVariants as acts
use Rattle.plain_search.specs.Nexts.{HasNextBy, IsNextRow}
use Rattle.plain_search.specs.Rows.{IsLonger}
use Rattle.plain_search.proofs.nexts.add_notifies.Given as goal

abbrev pub invariant-loop-u : goal.invariant-loop-u
invariant-loop-u l = record {
  same : IfSome l.spare (λ z. z ≡ l.q);
  there : (u : ℕ) → u < l.u → HasNextBy l.q l.rows.items (record { thread = l.thread; act = acts.Notify (Some u) });
  longer : IsLonger (IsNextRow l.q) l.fn.rows.items l.rows.items;
}
