-- What is left to do for the threads of a machine, and how many parts may still begin.
use Rattle.std.proofs.Common.{◌≡◌, ◌-◌, ◌<◌, ℕ, zero, suc, Bool, true, false, List, [], ◌∷◌, Option, Some, None, refl, sym, ap, subst, ◌∙◌, arith, slice_get, slice_set, if◌then◌else◌}
use Rattle.lists.proofs.ListLaws.{same_some}
use Rattle.jvm_types.specs.declared.program.Program.{Program}
use Rattle.checked_program.specs.MarkedProgram.{MarkedProgram}
use Rattle.machine_types.specs.{Accesses.found_by, Core.{Core, event, event_of, lives, may_begin, may_begin_by, next_threads, part_begins}, Events.{moved, wanted}, Threads.Thread}
use Rattle.machine_types.proofs.OnlyLive.{only_live_change}
use Rattle.laws_threads.specs.GivenThread.{Given, GivenIsKept}
use Rattle.laws_states.specs.{StateLaws.EventsKeepState, WorkLeft.{EventsLessenAllWork, all_work}}
use Rattle.replay_runner.{specs.{Running.{Running, events, parts_left, run_on}, RunningStates.AreRunning}, proofs.MachineEvents.event_runs}

-- ---- an event of a live thread leaves less

pub event_lessens : EventsLessenAllWork → (m old new : Running) (t : ℕ) → AreRunning m → m ≡ old → new ≡ record old { core = event old.program old.core t } → lives old.core t ≡ true
    → all_work new.core < all_work old.core
event_lessens lessen m old new t runs same is live =
    let k : AreRunning old = subst AreRunning same runs in
    subst (λ (r : Running). all_work r.core < all_work old.core) (sym is) (lessen old.program old.cfg old.core t k.marked k.state.facts.threads live)

-- ---- and so do many

runs_on : EventsKeepState → (m : Running) (t n : ℕ) → AreRunning m → AreRunning (run_on m t n)
runs_on keep m t zero k = k
runs_on keep m t (suc n) k = event_runs (run_on m t n) t (runs_on keep m t n k) keep

falls : EventsLessenAllWork → EventsKeepState → (m : Running) (t n : ℕ) → AreRunning m → lives m.core t ≡ true
    → all_work (events m.program m.core t (suc n)) < all_work m.core
falls lessen keep m t zero k live = lessen m.program m.cfg m.core t k.marked k.state.facts.threads live
falls lessen keep m t (suc n) k live = by_live (lives s t) refl (falls lessen keep m t n k live)
  where
    s : Core
    s = events m.program m.core t (suc n)

    by_live : (on : Bool) → lives s t ≡ on → all_work s < all_work m.core → all_work (event m.program s t) < all_work m.core
    by_live true e before = omega (arith, before, lessen m.program m.cfg s t k.marked (runs_on keep m t (suc n) k).state.facts.threads e)
    by_live false e before = subst (λ (r : Core). all_work r < all_work m.core) (sym (only_live_change m.program s t e)) before

pub alone_lessens : EventsLessenAllWork → EventsKeepState → (m old new : Running) (t n : ℕ) → AreRunning m → m ≡ old → new ≡ run_on old t n → lives new.core t ≡ false → lives old.core t ≡ true
    → all_work new.core < all_work old.core
alone_lessens lessen keep m old new t zero runs same is over live = let no : false ≡ true = sym over ∙ ap (λ (r : Running). lives r.core t) is ∙ live in cc
alone_lessens lessen keep m old new t (suc n) runs same is over live =
    subst (λ (r : Running). all_work r.core < all_work old.core) (sym is) (falls lessen keep old t n (subst AreRunning same runs) live)

-- ---- events leave the parts as they are

set_part : (xs : List Thread) (t : ℕ) (x y : Thread) → slice_get xs t ≡ Some x → y.part ≡ x.part → parts_left (slice_set xs t y) ≡ parts_left xs
set_part [] t x y e same = refl
set_part (z ∷ zs) zero x y e same = ap (λ (n : ℕ). 2 - n) (same ∙ ap (λ (w : Thread). w.part) (sym (same_some e)))
set_part (z ∷ zs) (suc t) x y e same = refl

pub event_parts : GivenIsKept → (c : MarkedProgram) (s : Core) (t : ℕ) → parts_left (event c s t).threads ≡ parts_left s.threads
event_parts given c s t = by_thread (slice_get s.threads t) refl
  where
    by_thread : (o : Option Thread) → slice_get s.threads t ≡ o → parts_left (event_of c s t o).threads ≡ parts_left s.threads
    by_thread None e = refl
    by_thread (Some x) e =
        let got = found_by s.words (wanted c x x.phase) in
        set_part s.threads t x (moved c x x.phase got) e (ap (λ (g : Given). g.part) (given c x x.phase got))

pub alone_parts : GivenIsKept → (c : MarkedProgram) (s : Core) (t n : ℕ) → parts_left (events c s t n).threads ≡ parts_left s.threads
alone_parts given c s t zero = refl
alone_parts given c s t (suc n) = event_parts given c (events c s t n) t ∙ alone_parts given c s t n

-- ---- and one that begins is one less

begins : (p : Program) (part : ℕ) (x : Thread) (workers : List Thread) → may_begin_by part x.phase workers ≡ true → parts_left (part_begins p part x workers) < 2 - part
begins p zero x workers may = omega arith
begins p (suc zero) x workers may = omega arith
begins p (suc (suc part)) x workers may = cc

pub next_parts : (p : Program) (ts : List Thread) → may_begin ts ≡ true → parts_left (next_threads p ts) < parts_left ts
next_parts p [] may = cc
next_parts p (x ∷ workers) may = subst (λ (b : Bool). parts_left (if b then part_begins p x.part x workers else x ∷ workers) < 2 - x.part) (sym may) (begins p x.part x workers may)
