-- Whatever happens, a run reaches the state of its machine.
use Rattle.std.proofs.{Common.{◌≡◌, ◌≤◌, ℕ, zero, suc, false, [], ◌∷◌, ◌++◌, length, Option, Some, sym, ap, subst, ◌∙◌}, lemmas.Option.slice_get_past}
use Rattle.lists.proofs.ListLaws.{same_some}
use Rattle.jvm_types.specs.declared.outcome.Outcome.{Outcome}
use Rattle.checked_program.specs.MarkedProgram.{MarkedProgram}
use Rattle.machine_types.specs.{Core.{Core, Of, NextPart, core, event, is_live_thread, lives, next, outcome, start}, Faithful.IsOver, declared.config.Config.Config}
use Rattle.laws_states.specs.GrowingRuns.{OneMoreHappens}
use Rattle.run_parts.specs.Ended.{IsEndOfRun}
use Rattle.replay_runner.specs.{Locked.{IsEndOf, IsMachineOf, IsOfProgram, IsMachineReached, Named}, Running.{Running, run_on}}

pub same_program : (run : Option Named) (c : MarkedProgram) (m : Running) → IsOfProgram run c → IsMachineOf run m → c ≡ m.program
same_program run c m of k = ap (λ (n : Named). n.program) (same_some (sym of.1 ∙ k.named))

-- ---- what happens

start_reached : (m : Running) → m.core ≡ start m.program m.cfg → IsMachineReached m
unfolding core
start_reached m e = ([], e)

event_reached : OneMoreHappens → (m : Running) (t : ℕ) → IsMachineReached m → IsMachineReached (record m { core = event m.program m.core t })
event_reached more m t h = (h.0 ++ Of t ∷ [], ap (λ (s : Core). event m.program s t) h.1 ∙ sym (more m.program m.cfg h.0 (Of t)))

next_reached : OneMoreHappens → (m : Running) → IsMachineReached m → IsMachineReached (record m { core = next m.program m.core })
next_reached more m h = (h.0 ++ NextPart ∷ [], ap (λ (s : Core). next m.program s) h.1 ∙ sym (more m.program m.cfg h.0 NextPart))

events_reached : OneMoreHappens → (m : Running) (t n : ℕ) → IsMachineReached m → IsMachineReached (run_on m t n)
events_reached more m t zero h = h
events_reached more m t (suc n) h = event_reached more (run_on m t n) t (events_reached more m t n h)

-- ---- the machine stays one of its run

pub starts : (run : Option Named) (m : Running) → run ≡ Some (record { program = m.program; cfg = m.cfg }) → m.core ≡ start m.program m.cfg → IsMachineOf run m
starts run m named e = record { named = named; reached = start_reached m e }

-- what was made for a run is at the start of its own
pub at_start : (c : MarkedProgram) (cfg : Config) (m : Running) → m ≡ record { program = c; cfg = cfg; core = start c cfg } → m.core ≡ start m.program m.cfg
at_start c cfg m e = ap (λ (n : Running). n.core) e ∙ sym (ap (λ (n : Running). start n.program n.cfg) e)

pub event_stays : OneMoreHappens → (run : Option Named) (m n : Running) (t : ℕ) → n ≡ record m { core = event m.program m.core t } → IsMachineOf run m → IsMachineOf run n
event_stays more run m n t e k = subst (IsMachineOf run) (sym e) (record { named = k.named; reached = event_reached more m t k.reached })

pub next_stays : OneMoreHappens → (run : Option Named) (m n : Running) → n ≡ record m { core = next m.program m.core } → IsMachineOf run m → IsMachineOf run n
next_stays more run m n e k = subst (IsMachineOf run) (sym e) (record { named = k.named; reached = next_reached more m k.reached })

pub alone_stays : OneMoreHappens → (run : Option Named) (m n : Running) (t count : ℕ) → n ≡ run_on m t count → IsMachineOf run m → IsMachineOf run n
alone_stays more run m n t count e k = subst (IsMachineOf run) (sym e) (record { named = k.named; reached = events_reached more m t count k.reached })

-- ---- the end

pub ends : (run : Option Named) (m : Running) (o : Outcome) → IsMachineOf run m → IsOver m.core → o ≡ outcome m.core → IsEndOf run o
ends run m o k over e =
    let end : IsEndOfRun m.program m.cfg o = (k.reached.0, subst IsOver k.reached.1 over, e ∙ ap outcome k.reached.1) in
    subst (λ (n : Option Named). IsEndOf n o) (sym k.named) end

-- where there is no thread, none is live
pub none_beyond : (s : Core) (t : ℕ) → length s.threads ≤ t → lives s t ≡ false
none_beyond s t le = ap is_live_thread (slice_get_past s.threads t le)
