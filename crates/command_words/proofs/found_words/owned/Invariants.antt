use Rattle.std.{proofs.Common.{◌≡◌, ◌++◌, drop, length, map, ℕ, List}, specs.Borrow.Bor}
use Rattle.command_words.specs.Words.{texts}
use Rattle.command_words.proofs.found_words.owned.Given as goal

-- the names so far, and those that are left, are all names
abbrev pub invariant-loop-name : goal.invariant-loop-name
invariant-loop-name l = record {
  count : length l.files.items ≡ l.name-index;
  named : texts l.files.items ++ map (λ (s : Bor (List ℕ)). s.now) (drop l.name-index l.names) ≡ map (λ (s : Bor (List ℕ)). s.now) l.names;
}
