-- At the start of a run, and where a part of it begins, the parts stand as the threads say; and no thread comes to an attempt.
use Rattle.std.{proofs.Common.{◌≡◌, ℕ, zero, suc, ◌≤◌, Bool, true, false, List, [], ◌∷◌, map, Some, None, refl, ap, sym, subst, arith, slice_get, if◌then◌else◌}, specs.List.list_all}
use Rattle.jvm_types.specs.declared.program.Program.{Program}
use Rattle.checked_program.specs.MarkedProgram.{MarkedProgram}
use Rattle.machine_types.specs.Core.{start, start_thread, part_phase, ended_by, may_begin_by, may_begin, with_roots, how_ended, part_begins, next_threads}
use Rattle.machine_types.specs.{Parts.{init_roots, run_roots, done_roots, has_returned, has_finished}, Threads.Thread, declared.{config.Config.Config, phase.Phase.Phase}}
use Rattle.machine_types.proofs.AtStart.{is_start_thread}
use Rattle.laws_threads.proofs.PartSteps.{one_of_all}
use Rattle.laws_states.specs.{PartsLaws.{StartStandsInParts, NextKeepsParts, StartHasNoAttempts, NextMakesNoAttempts}, PartsStand.{FirstFits, HasReturned, HasFinished, DoneRoots, PartsStand}}
use Rattle.laws_states.proofs.Lists.{first_each, mapped_each}
use Rattle.jvm_types.specs.declared.outcome.End.TheVariants as ends
use Rattle.machine_types.specs.declared.phase.Phase.TheVariants as phases

part_returned : (roots : List ℕ) → HasReturned (part_phase roots) → roots ≡ []
part_returned [] has = refl
part_returned (number ∷ roots) has = absurd has

-- ---- the start

module _ (c : MarkedProgram) (cfg : Config) where
  start_returned : (t : ℕ) → HasReturned (start_thread c cfg t).phase → (start_thread c cfg t).roots ≡ []
  start_returned zero has = part_returned (init_roots c.program) has
  start_returned (suc t) has = refl

  start_attempt : (t : ℕ) → (start_thread c cfg t).attempt ≡ None
  start_attempt zero = refl
  start_attempt (suc t) = refl

  first_part : (x : Thread) → slice_get (start c cfg).threads 0 ≡ Some x → x.part ≡ 0
  first_part x e = ap (λ (y : Thread). y.part) (sym (is_start_thread c cfg 0 x e))

pub start_stands : StartStandsInParts
start_stands c cfg = record {
  first = λ x e. subst (λ (y : Thread). FirstFits y.part y.first) (is_start_thread c cfg 0 x e) refl;
  few = λ x e. let at = first_part c cfg x e in omega (arith, at);
  workers = λ x y u e late f. let at = first_part c cfg x e in absurd (omega (arith, at, late));
  done = λ x e late. let at = first_part c cfg x e in absurd (omega (arith, at, late));
  returned = λ t x e. subst (λ (y : Thread). HasReturned y.phase → y.roots ≡ []) (is_start_thread c cfg t x e) (start_returned c cfg t);
}

pub start_has_none : StartHasNoAttempts
start_has_none c cfg t x e = subst (λ (y : Thread). y.attempt ≡ None) (is_start_thread c cfg t x e) (start_attempt c cfg t)

-- ---- where a part begins

ended_returned : (phase : Phase) → ended_by has_returned phase ≡ true → how_ended phase ≡ Some ends.Returned
ended_returned (phases.Ended ends.Returned) e = refl
ended_returned phase e = absurd (cc)

has_ended : (phase : Phase) → ended_by has_finished phase ≡ true → HasFinished phase
has_ended (phases.Ended reason) e = e
has_ended phase e = absurd (cc)

module _ (p : Program) (x : Thread) (workers : List Thread) (old : PartsStand p (x ∷ workers)) where
  abbrev seen : Thread
  seen = record x { part = 1; first = how_ended x.phase }

  workers_stand : how_ended x.phase ≡ Some ends.Returned → PartsStand p (seen ∷ map (with_roots (run_roots p)) workers)
  workers_stand ended = record {
    first = λ y e. let same : seen ≡ y = cc in subst (λ (z : Thread). FirstFits z.part z.first) same ended;
    few = λ y e. let same : seen ≡ y = cc in subst (λ (z : Thread). z.part ≤ 2) same (omega arith);
    workers = λ y z u e late f. let same : seen ≡ y = cc in absurd (subst (λ (z : Thread). 2 ≤ z.part → ⊥) same (λ k. absurd (omega (arith, k))) late);
    done = λ y e late. let same : seen ≡ y = cc in absurd (subst (λ (z : Thread). 2 ≤ z.part → ⊥) same (λ k. absurd (omega (arith, k))) late);
    returned = mapped_each (λ t z. HasReturned z.phase → z.roots ≡ []) seen (with_roots (run_roots p)) workers (old.returned 0 x refl) (λ t w e. part_returned (run_roots p));
  }

  abbrev last : Thread
  last = with_roots (done_roots p) (record x { part = 2 })

  done_first : (roots : List ℕ) → done_roots p ≡ roots → DoneRoots p (part_phase roots) roots
  done_first [] e = refl
  done_first (number ∷ roots) e = sym e

  done_stands : x.part ≡ 1 → list_all (λ w. ended_by has_finished w.phase) workers ≡ true → PartsStand p (last ∷ workers)
  done_stands at all = record {
    first = λ y e. let same : last ≡ y = cc in subst (λ (z : Thread). FirstFits z.part z.first) same (subst (λ (n : ℕ). FirstFits n x.first) at (old.first x refl));
    few = λ y e. let same : last ≡ y = cc in subst (λ (z : Thread). z.part ≤ 2) same (omega arith);
    workers = λ y z u e late f. has_ended z.phase (one_of_all (λ w. ended_by has_finished w.phase) workers u z all f);
    done = λ y e late. let same : last ≡ y = cc in subst (λ (z : Thread). DoneRoots p z.phase z.roots) same (done_first (done_roots p) refl);
    returned = first_each (λ t z. HasReturned z.phase → z.roots ≡ []) last workers (part_returned (done_roots p)) (λ t. old.returned (suc t));
  }

  part_stands : (part : ℕ) → x.part ≡ part → (may : Bool) → may_begin_by part x.phase workers ≡ may → PartsStand p (if may then part_begins p part x workers else x ∷ workers)
  part_stands part e false f = old
  part_stands zero e true f = workers_stand (ended_returned x.phase f)
  part_stands (suc zero) e true f = done_stands e f
  part_stands (suc (suc part)) e true f = absurd (cc)

pub next_keeps_parts : NextKeepsParts
next_keeps_parts c s stand = (elim s.threads as (λ (threads : List Thread). PartsStand c.program threads → PartsStand c.program (next_threads c.program threads))
    [ [] ↦ λ k. k | x ∷ workers ↦ λ k. part_stands c.program x workers k x.part refl (may_begin_by x.part x.phase workers) refl ]) stand

-- ---- attempts

part_none : (p : Program) (part : ℕ) (x : Thread) (workers : List Thread) → ((t : ℕ) (y : Thread) → slice_get (x ∷ workers) t ≡ Some y → y.attempt ≡ None) → (t : ℕ) (y : Thread) → slice_get (part_begins p part x workers) t ≡ Some y → y.attempt ≡ None
part_none p zero x workers none = mapped_each (λ t z. z.attempt ≡ None) (record x { part = 1; first = how_ended x.phase }) (with_roots (run_roots p)) workers (none 0 x refl) (λ t. none (suc t))
part_none p (suc part) x workers none = first_each (λ t z. z.attempt ≡ None) (with_roots (done_roots p) (record x { part = 2 })) workers (none 0 x refl) (λ t. none (suc t))

pub next_makes_none : NextMakesNoAttempts
next_makes_none c s none = by_threads s.threads none
  where
    by_threads : (threads : List Thread) → ((t : ℕ) (y : Thread) → slice_get threads t ≡ Some y → y.attempt ≡ None) → (t : ℕ) (y : Thread) → slice_get (next_threads c.program threads) t ≡ Some y → y.attempt ≡ None
    by_threads [] k = k
    by_threads (x ∷ workers) k = elim (may_begin (x ∷ workers)) as
        (λ (b : Bool). (t : ℕ) (y : Thread) → slice_get (if b then part_begins c.program x.part x workers else x ∷ workers) t ≡ Some y → y.attempt ≡ None)
        [ true ↦ part_none c.program x.part x workers k | false ↦ k ]
