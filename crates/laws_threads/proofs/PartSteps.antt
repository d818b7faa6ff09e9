-- The threads of a part that begins are structured.
use Rattle.std.proofs.Common.{◌≡◌, ℕ, zero, suc, ◌+◌, ◌<◌, Bool, true, false, cond, List, [], ◌∷◌, map, Option, Some, None, refl, sym, ap, ◌∙◌, subst, arith, slice_get, slice_set}
use Rattle.std.specs.List.{AllByRecursion, list_all, range_with_len}
use Rattle.lists.proofs.TestLaws.{both_are_true}
use Rattle.jvm_types.specs.declared.{outcome.End.End, program.Program.Program}
use Rattle.laws_programs.proofs.LocalGoing.{at_index}
use Rattle.checked_program.specs.MarkedProgram.{MarkedProgram}
use Rattle.machine_types.specs.{Accesses.found_by, Events.{wanted, moved}, Parts.{run_roots, done_roots, has_returned, has_finished}, Shown.Show, Standing.Whole, Threads.Thread}
use Rattle.machine_types.specs.Core.{event_of, start_thread, part_phase, ended_by, may_begin_by, may_begin, with_roots, how_ended, workers_begin, done_begins, part_begins, next_threads}
use Rattle.machine_types.specs.{Structure.{AreHeldOnce, Stands, IsAs, IsStructured, Structure, count_in, held_depth, tried_depth}, declared.{config.Config.Config, phase.Phase.Phase}}
use Rattle.laws_threads.specs.{PartLaws.{PartFits, PartsFit, StartFitsParts, EventsFitParts, NextFitsParts, NextKeepsStructure}, StateLaws.counted_of, StructureLaws.counted_by}
use Rattle.laws_threads.proofs.{Lists.mapped_at, ThreadSteps.over_counts, Turns.{no_attempt, no_try}}
use Rattle.jvm_types.specs.declared.outcome.End.TheVariants as ends
use Rattle.machine_types.specs.declared.phase.Phase.TheVariants as phases

-- ---- how a part ended

pub returned : (phase : Phase) → ended_by has_returned phase ≡ true → phase ≡ phases.Ended ends.Returned
returned (phases.Ended ends.Returned) e = refl
returned phase e = absurd (cc)

finished : (phase : Phase) → ended_by has_finished phase ≡ true → (reason : End) × (phase ≡ phases.Ended reason)
finished (phases.Ended reason) e = (reason, refl)
finished phase e = absurd (cc)

pub one_of_all : {A : Type 0} (test : A → Bool) (xs : List A) (i : ℕ) (x : A) → list_all test xs ≡ true → slice_get xs i ≡ Some x → test x ≡ true
one_of_all test [] i x e f = absurd (cc)
one_of_all test (y ∷ xs) zero x e f = let same : y ≡ x = cc in subst (λ z. test z ≡ true) same (both_are_true (test y) (list_all test xs) e).0
one_of_all test (y ∷ xs) (suc i) x e f = one_of_all test xs i x (both_are_true (test y) (list_all test xs) e).1 f

pub one_idle : (xs : List Thread) (i : ℕ) (x : Thread) → AllByRecursion (λ w. w.phase ≡ phases.Idle) xs → slice_get xs i ≡ Some x → x.phase ≡ phases.Idle
one_idle xs i x e f = at_index (λ w. w.phase ≡ phases.Idle) xs i x e f

-- ---- at the start

idle_from : (c : MarkedProgram) (cfg : Config) (n from : ℕ) → 0 < from → AllByRecursion (λ w. w.phase ≡ phases.Idle) (map (start_thread c cfg) (range_with_len from n))
idle_from c cfg zero from k = tt
idle_from c cfg (suc n) zero k = absurd (omega (arith, k))
idle_from c cfg (suc n) (suc from) k = (refl, idle_from c cfg n (suc from + 1) (omega arith))

pub start_fits : StartFitsParts
start_fits c cfg = let more : c.program.workers + 1 ≡ suc c.program.workers = omega arith in
    subst (λ (n : ℕ). PartsFit (map (start_thread c cfg) (range_with_len 0 n))) (sym more) (idle_from c cfg c.program.workers (0 + 1) (omega arith))

-- ---- an event of a thread that has the same part as before

idle_set : (xs : List Thread) (i : ℕ) (x now : Thread) → slice_get xs i ≡ Some x → (x.phase ≡ phases.Idle → now.phase ≡ phases.Idle) → AllByRecursion (λ w. w.phase ≡ phases.Idle) xs → AllByRecursion (λ w. w.phase ≡ phases.Idle) (slice_set xs i now)
idle_set [] i x now e k all = tt
idle_set (y ∷ xs) zero x now e k all = let same : y ≡ x = cc in (k (subst (λ (z : Thread). z.phase ≡ phases.Idle) same all.0), all.1)
idle_set (y ∷ xs) (suc i) x now e k all = (all.0, idle_set xs i x now e k all.1)

first_fits : (part : ℕ) (before after : Phase) (workers : List Thread) → (before ≡ phases.Ended ends.Returned → after ≡ phases.Ended ends.Returned) → PartFits part before workers → PartFits part after workers
first_fits zero before after workers k fits = fits
first_fits (suc zero) before after workers k fits = k fits
first_fits (suc (suc part)) before after workers k fits = tt

worker_fits : (part : ℕ) (phase : Phase) (workers : List Thread) (i : ℕ) (x now : Thread) → slice_get workers i ≡ Some x → (x.phase ≡ phases.Idle → now.phase ≡ phases.Idle) → PartFits part phase workers → PartFits part phase (slice_set workers i now)
worker_fits zero phase workers i x now e k fits = idle_set workers i x now e k fits
worker_fits (suc zero) phase workers i x now e k fits = fits
worker_fits (suc (suc part)) phase workers i x now e k fits = tt

module _ (c : MarkedProgram) (x : Thread) (got : ℕ) where
  moved_fits : (threads : List Thread) (t : ℕ) → slice_get threads t ≡ Some x → (moved c x x.phase got).part ≡ x.part → PartsFit threads → PartsFit (slice_set threads t (moved c x x.phase got))
  moved_fits [] t e part fits = tt
  moved_fits (y ∷ workers) zero e part fits =
      let same : y ≡ x = cc in
      let here : PartFits x.part x.phase workers = subst (λ (z : Thread). PartFits z.part z.phase workers) same fits in
      subst (λ (n : ℕ). PartFits n (moved c x x.phase got).phase workers) (sym part) (first_fits x.part x.phase (moved c x x.phase got).phase workers (λ e. ap (λ (phase : Phase). (moved c x phase got).phase) e ∙ e) here)
  moved_fits (y ∷ workers) (suc t) e part fits = worker_fits y.part y.phase workers t x (moved c x x.phase got) e (λ e. ap (λ (phase : Phase). (moved c x phase got).phase) e ∙ e) fits

pub event_fits : EventsFitParts
event_fits c s t part fits = (elim (slice_get s.threads t) as (λ o. slice_get s.threads t ≡ o → PartsFit (event_of c s t o).threads) [
  | None ↦ λ e. fits
  | Some x ↦ λ e. moved_fits c x (found_by s.words (wanted c x x.phase)) s.threads t e (part x (found_by s.words (wanted c x x.phase))) fits
]) refl

-- ---- where a part begins

module _ (p : Program) (x : Thread) (workers : List Thread) where
  part_fits : (part : ℕ) → x.part ≡ part → PartFits part x.phase workers → (may : Bool) → may_begin_by part x.phase workers ≡ may → PartsFit (cond may (part_begins p part x workers) (x ∷ workers))
  part_fits part e k false f = subst (λ (n : ℕ). PartFits n x.phase workers) (sym e) k
  part_fits zero e k true f = returned x.phase f
  part_fits (suc zero) e k true f = tt
  part_fits (suc (suc part)) e k true f = absurd (cc)

pub next_fits : NextFitsParts
next_fits c s k = (elim s.threads as (λ threads. PartsFit threads → PartsFit (next_threads c.program threads)) [
  | [] ↦ λ k. tt
  | x ∷ workers ↦ λ k. part_fits c.program x workers x.part refl k (may_begin_by x.part x.phase workers) refl
]) k

-- ---- a thread without frames

pub record Rests (c : MarkedProgram) (w : Thread) : Type 0 where
  pub shown : List ℕ
  pub show : Show c Whole w.frames shown
  pub depths : (m : ℕ) → count_in m shown + 0 ≡ held_depth m w.held + tried_depth m w.attempt + 0
  pub once : AreHeldOnce w.held
  pub empty : w.frames ≡ []
  pub none : w.attempt ≡ None

module _ (c : MarkedProgram) (was : Phase) (w : Thread) (k : IsStructured c was w) where
  idle_rests : w.phase ≡ phases.Idle → Rests c w
  idle_rests e =
      let stood : was ≡ phases.Idle = subst (λ (phase : Phase). IsAs phase was) e k.is_as in
      let at : Stands c phases.Idle w.frames w.held w.attempt = subst (λ (phase : Phase). Stands c phase w.frames w.held w.attempt) stood k.stands in
      record { shown = at.shown; show = at.show; depths = at.depths; once = at.once; empty = at.phase_shows; none = no_try c was w.frames w.held w.attempt at.phase_shows k.attempt }

  returned_rests : w.phase ≡ phases.Ended ends.Returned → Rests c w
  returned_rests e =
      let stood : was ≡ phases.Ended ends.Returned = subst (λ (phase : Phase). IsAs phase was) e k.is_as in
      let at : Stands c (phases.Ended ends.Returned) w.frames w.held w.attempt = subst (λ (phase : Phase). Stands c phase w.frames w.held w.attempt) stood k.stands in
      record { shown = at.shown; show = at.show; depths = at.depths; once = at.once; empty = at.phase_shows; none = no_try c was w.frames w.held w.attempt at.phase_shows k.attempt }

  -- as it was
  over_stays : (reason : End) → w.phase ≡ phases.Ended reason → IsStructured c (counted_by was w.phase) w
  over_stays reason e = let stood = over_counts was reason (subst (λ (phase : Phase). IsAs phase was) e k.is_as) in subst (λ (phase : Phase). IsStructured c phase w) (sym (ap (counted_by was) e ∙ stood)) k

begins : (c : MarkedProgram) (was : Phase) (w : Thread) (roots : List ℕ) → Rests c w → IsStructured c (counted_by was (part_phase roots)) (with_roots roots w)
begins c was w [] k = record {
  is_as = refl;
  stands = record { shown = k.shown; show = k.show; depths = k.depths; once = k.once; phase_shows = k.empty };
  attempt = no_attempt c (phases.Ended ends.Returned) w.frames w.held w.attempt k.none;
}
begins c was w (number ∷ roots) k = record {
  is_as = refl;
  stands = record { shown = k.shown; show = k.show; depths = k.depths; once = k.once; phase_shows = k.empty };
  attempt = no_attempt c phases.Start w.frames w.held w.attempt k.none;
}

-- ---- all threads

module _ (c : MarkedProgram) (was : ℕ → Phase) (x : Thread) (workers : List Thread) (structure : Structure c was (x ∷ workers)) where
  -- the workers begin
  workers_structured : x.phase ≡ phases.Ended ends.Returned → AllByRecursion (λ w. w.phase ≡ phases.Idle) workers → (u : ℕ) (y : Thread) → slice_get (workers_begin c.program x workers) u ≡ Some y → IsStructured c (counted_by (was u) y.phase) y
  workers_structured over idle zero y f =
      let stays : IsStructured c (counted_by (was 0) x.phase) x = over_stays c (was 0) x (structure 0 x refl) ends.Returned over in
      let begun : Thread = record x { part = 1; first = how_ended x.phase } in
      let same : begun ≡ y = cc in
      subst (λ (z : Thread). IsStructured c (counted_by (was 0) z.phase) z) same (record { is_as = stays.is_as; stands = stays.stands; attempt = stays.attempt })
  workers_structured over idle (suc u) y f =
      let from = mapped_at (with_roots (run_roots c.program)) workers u y f in
      let rests : Rests c from.0 = idle_rests c (was (suc u)) from.0 (structure (suc u) from.0 from.1) (one_idle workers u from.0 idle from.1) in
      subst (λ (z : Thread). IsStructured c (counted_by (was (suc u)) z.phase) z) from.2 (begins c (was (suc u)) from.0 (run_roots c.program) rests)

  -- thread 0 begins again
  done_structured : x.phase ≡ phases.Ended ends.Returned → list_all (λ w. ended_by has_finished w.phase) workers ≡ true → (u : ℕ) (y : Thread) → slice_get (done_begins c.program x workers) u ≡ Some y → IsStructured c (counted_by (was u) y.phase) y
  done_structured over all zero y f =
      let rests : Rests c x = returned_rests c (was 0) x (structure 0 x refl) over in
      let same : with_roots (done_roots c.program) (record x { part = 2 }) ≡ y = cc in
      subst (λ (z : Thread). IsStructured c (counted_by (was 0) z.phase) z) same (begins c (was 0) (record x { part = 2 }) (done_roots c.program) (record { shown = rests.shown; show = rests.show; depths = rests.depths; once = rests.once; empty = rests.empty; none = rests.none }))
  done_structured over all (suc u) y f = let k = finished y.phase (one_of_all (λ w. ended_by has_finished w.phase) workers u y all f) in over_stays c (was (suc u)) y (structure (suc u) y f) k.0 k.1

  counted : (threads : List Thread) (u : ℕ) (y : Thread) → slice_get threads u ≡ Some y → IsStructured c (counted_by (was u) y.phase) y → IsStructured c (counted_of (was u) (slice_get threads u)) y
  counted threads u y f k = subst (λ (o : Option Thread). IsStructured c (counted_of (was u) o) y) (sym f) k

  part_structured : (part : ℕ) → PartFits part x.phase workers → (may : Bool) → may_begin_by part x.phase workers ≡ may → (u : ℕ) (y : Thread) → slice_get (cond may (part_begins c.program part x workers) (x ∷ workers)) u ≡ Some y
      → IsStructured c (cond may (counted_of (was u) (slice_get (cond may (part_begins c.program part x workers) (x ∷ workers)) u)) (was u)) y
  part_structured part k false e u y f = structure u y f
  part_structured zero k true e u y f = counted (workers_begin c.program x workers) u y f (workers_structured (returned x.phase e) k u y f)
  part_structured (suc zero) k true e u y f = counted (done_begins c.program x workers) u y f (done_structured k e u y f)
  part_structured (suc (suc part)) k true e u y f = absurd (cc)

pub next_keeps : NextKeepsStructure
next_keeps c was s fits structure = by_threads s.threads fits structure
  where
    by_threads : (threads : List Thread) → PartsFit threads → Structure c was threads → Structure c (λ u. cond (may_begin threads) (counted_of (was u) (slice_get (next_threads c.program threads) u)) (was u)) (next_threads c.program threads)
    by_threads [] fits structure u y f = absurd (cc)
    by_threads (x ∷ workers) fits structure u y f = part_structured c was x workers structure x.part fits (may_begin_by x.part x.phase workers) refl u y f
