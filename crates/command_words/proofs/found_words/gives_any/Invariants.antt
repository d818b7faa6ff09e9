use Rattle.std.{proofs.Common.{◌≡◌, drop, map, ℕ, List}, specs.Borrow.Bor}
use Rattle.clap.specs.Words.{found_of, rows_of}
use Rattle.command_words.specs.Words.{gives_any}
use Rattle.command_words.proofs.found_words.gives_any.Given as goal

-- the names that are left decide
abbrev pub invariant-loop-name : goal.invariant-loop-name
invariant-loop-name l = gives_any (rows_of (found_of l.matches)) (map (λ (n : Bor (List ℕ)). n.now) (drop l.name-index l.names)) ≡ gives_any (rows_of (found_of l.matches)) (map (λ (n : Bor (List ℕ)). n.now) l.names)
