use Rattle.std.{proofs.Common.{◌≡◌, ℕ, ◌+◌, List, drop, bytes_eq}, specs.{List.position_from, Option.option_or}}
use Rattle.descriptors.specs.NameTables.{find, names_in}
use Rattle.descriptors.proofs.name_table.put_names.Given as goal

abbrev pub invariant-loop-place : goal.invariant-loop-place
invariant-loop-place l = (q : List ℕ) → find l.table q ≡ option_or (position_from (bytes_eq q) (l.first + l.place) (names_in (drop l.place l.names))) (find l.fn.table q)
