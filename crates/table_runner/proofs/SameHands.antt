-- Hands that make events hold the same threads.
use Rattle.std.proofs.Common.{◌≡◌, ℕ, true, refl, sym, subst, ◌∙◌}
use Rattle.atomic_table.specs.Seated.{TableId}
use Rattle.checked_program.specs.MarkedProgram.{MarkedProgram}
use Rattle.machine_types.specs.declared.config.Config.{Config}
use Rattle.table_runner.specs.{Handed.{Handed, IsTableOf}, Running.{AreSame, IsWorker, RunsHere}}

pub same_itself : (h : Handed) → AreSame h h
same_itself h = record { program = refl; cfg = refl; table = refl; numbers = λ u. refl }

pub of_still : (table : TableId) (c : MarkedProgram) (cfg : Config) (h k : Handed) → AreSame h k
    → IsTableOf table c cfg h → IsTableOf table c cfg k
of_still table c cfg h k s of = (of.0 ∙ sym s.table, of.1 ∙ sym s.program, of.2 ∙ sym s.cfg)

pub worker_still : (table : TableId) (c : MarkedProgram) (cfg : Config) (t : ℕ) (h k : Handed) → AreSame h k
    → IsWorker table c cfg t h → IsWorker table c cfg t k
worker_still table c cfg t h k s w = record { of = of_still table c cfg h k s w.of; held = subst (λ b. b ≡ true) (sym (s.numbers t)) w.held }

pub here_still : (table : TableId) (c : MarkedProgram) (cfg : Config) (h k : Handed) → AreSame h k
    → RunsHere table c cfg h → RunsHere table c cfg k
here_still table c cfg h k s r = record { of = of_still table c cfg h k s r.of; all = λ t le. subst (λ b. b ≡ true) (sym (s.numbers t)) (r.all t le) }
