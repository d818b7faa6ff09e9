-- The begin of a part: of the workers' when `init` has returned, and of `done` when each worker has finished.
use Rattle.std.proofs.Common.{◌≡◌, ℕ, zero, suc, ◌<◌, Bool, true, false, ◌&&◌, List, [], ◌∷◌, map, Option, Some, None, refl, sym, ap, subst, ◌∙◌, arith, ◌==◌, bytes_eq, codes, slice_get, if◌then◌else◌}
use Rattle.std.{specs.List.AllByRecursion, proofs.lemmas.Bool.{and_from, and_parts, eq-eqb}}
use Rattle.lists.proofs.ListLaws.{same_some}
use Rattle.jvm_types.specs.{ClassNames.file_class, declared.{outcome.End.End, program.{MethodInfo.MethodInfo, Program.Program}}}
use Rattle.laws_programs.{specs.RootLaws.RunIsThere, proofs.LocalGoing.at_index}
use Rattle.checked_program.specs.MarkedProgram.{MarkedProgram, IsMarked}
use Rattle.machine_types.specs.Agreement.{OutsideFits, ThreadFits, StatusFits, frames_shown, roots_shown, start_status}
use Rattle.machine_types.specs.Core.{part_phase, may_begin, may_begin_by, how_ended, with_roots, workers_begin, done_begins, part_begins, next_threads, next}
use Rattle.machine_types.specs.{Parts.{numbers_of, is_entry_named, run_roots, done_roots}, PlainState.PlainThread, Structure.{IsStructured, IsAs, AttemptStandsIn, IsPhaseInside}}
use Rattle.machine_types.{specs.{Threads.{Attempt, Thread}, declared.phase.Phase.Phase}, proofs.Lists.got_below}
use Rattle.laws_threads.{specs.PartLaws.{PartFits, PartsFit}, proofs.PartSteps.returned}
use Rattle.laws_states.specs.PartsStand.{HasReturned}
use Rattle.laws_simulation.{specs.{StandsBeside.{StandsBeside, ends_shown, end_of_done}, StepsBeside.NextStandsBeside}, proofs.PartBegins.{Alike, Pairs, same_pairs, begins_beside}}
use Rattle.laws_simulation.proofs.{PartsDue.{rests_between, no_attempt}, Turns.States}
use Rattle.jvm_types.specs.declared.outcome.End.TheVariants as ends
use Rattle.machine_types.specs.declared.phase.Phase.TheVariants as phases

-- ---- `run` is there where there are workers

some_number : (test : MethodInfo → Bool) (n : ℕ) (ms : List MethodInfo) (i : ℕ) (m : MethodInfo) → slice_get ms i ≡ Some m → test m ≡ true → numbers_of test n ms ≡ [] → ⊥
some_number test n [] i m e t none = cc
some_number test n (x ∷ ms) i m e t none = by_test i e (test x) refl none (λ j f g. some_number test (suc n) ms j m f t g)
  where
    by_test : (i : ℕ) → slice_get (x ∷ ms) i ≡ Some m → (b : Bool) → test x ≡ b → (if b then n ∷ numbers_of test (suc n) ms else numbers_of test (suc n) ms) ≡ []
        → ((j : ℕ) → slice_get ms j ≡ Some m → numbers_of test (suc n) ms ≡ [] → ⊥) → ⊥
    by_test i e true h none more = cc
    by_test zero e false h none more = let clash : true ≡ false = sym (ap test (same_some e) ∙ t) ∙ h in cc
    by_test (suc j) e false h none more = more j e none

no_run_roots : RunIsThere → (c : MarkedProgram) → IsMarked c → 0 < c.program.workers → run_roots c.program ≡ [] → ⊥
no_run_roots stands c marked some none =
    let k = stands c.program marked.checked.program some in
    let m : MethodInfo = k.1 in
    let names = and_parts (bytes_eq m.name (codes "run")) (bytes_eq m.descriptor (codes "(I)V")) k.4 in
    some_number (is_entry_named (codes "run") (codes "(I)V")) 0 c.program.methods k.0 m k.2
    (and_from ((m.class == file_class 0) && bytes_eq m.name (codes "run")) (bytes_eq m.descriptor (codes "(I)V")) (and_from (m.class == file_class 0) (bytes_eq m.name (codes "run")) (eq-eqb m.class (file_class 0) k.3) names.0) names.1) none

-- ---- a worker begins

pub idle_attempt : (c : MarkedProgram) (was : Phase) (z : Thread) → z.phase ≡ phases.Idle → IsStructured c was z → z.attempt ≡ None
idle_attempt c was z idle k = (elim z.attempt as (λ (a : Option Attempt). z.attempt ≡ a → a ≡ None) [
  | None ↦ λ f. refl
  | Some a ↦ λ f.
      let was_is : was ≡ phases.Idle = subst (λ (p : Phase). IsAs p was) idle k.is_as in
      let tried : AttemptStandsIn c was z.frames z.held (Some a) = subst (λ (o : Option Attempt). AttemptStandsIn c was z.frames z.held o) f k.attempt in
      absurd (subst (IsPhaseInside a.monitor) was_is tried.inside)
]) refl

worker_alike : (p : Program) (z : Thread) (roots : List ℕ) → run_roots p ≡ roots → (roots ≡ [] → ⊥) → z.phase ≡ phases.Idle → z.attempt ≡ None → z.part ≡ 0 → Alike p z (with_roots roots z)
worker_alike p z [] e some idle outside part = absurd (some refl)
worker_alike p z (number ∷ roots) e some idle outside part = record {
  made = λ a word f. absurd (cc);
  makes = λ a word f. absurd (let clash : phases.Idle ≡ phases.Made a word = sym idle ∙ f in cc);
  held = refl;
  fits = λ bit w f g. (
    subst (λ (a : Option Attempt). ThreadFits p bit (with_roots (number ∷ roots) z) a w) (sym outside) (new_fits bit w (subst (λ (a : Option Attempt). ThreadFits p bit z a w) outside f)),
    g ∙ (ap (λ (n : ℕ). ends_shown p n z.phase) part ∙ (ap (ends_shown p 0) idle ∙ sym (ap (λ (n : ℕ). ends_shown p n phases.Start) part))),
  );
}
  where
    new_fits : (bit : ℕ → Bool) (w : PlainThread) → OutsideFits p bit z w → OutsideFits p bit (with_roots (number ∷ roots) z) w
    new_fits bit w f = record {
      frames = f.frames ∙ ap (λ (h : Phase). frames_shown h z.frames) idle;
      status = (let ready : StatusFits bit z phases.Idle w.status = subst (λ (h : Phase). StatusFits bit z h w.status) idle f.status in ready ∙ sym (ap start_status part));
      roots = f.roots ∙ (ap (λ (h : Phase). roots_shown p z.part h z.roots) idle ∙ (e ∙ sym (ap (λ (n : ℕ). roots_shown p n phases.Start (number ∷ roots)) part)));
    }

-- ---- thread 0 when `init` has returned

init_alike : (p : Program) (x : Thread) (first : Option End) → x.phase ≡ phases.Ended ends.Returned → x.attempt ≡ None → x.part ≡ 0 → Alike p x (record x { part = 1; first = first })
init_alike p x first rests outside part = record {
  made = λ a word f. f;
  makes = λ a word f. f;
  held = refl;
  fits = λ bit w f g. (
    subst (λ (a : Option Attempt). ThreadFits p bit (record x { part = 1; first = first }) a w) (sym outside) (new_fits bit w (subst (λ (a : Option Attempt). ThreadFits p bit x a w) outside f)),
    g ∙ (ap (λ (n : ℕ). ends_shown p n x.phase) part ∙ ap (ends_shown p 0) rests),
  );
}
  where
    new_fits : (bit : ℕ → Bool) (w : PlainThread) → OutsideFits p bit x w → OutsideFits p bit (record x { part = 1; first = first }) w
    new_fits bit w f = record {
      frames = f.frames;
      status = subst (λ (h : Phase). StatusFits bit (record x { part = 1; first = first }) h w.status) (sym rests) (subst (λ (h : Phase). StatusFits bit x h w.status) rests f.status);
      roots = f.roots ∙ (ap (λ (h : Phase). roots_shown p x.part h x.roots) rests ∙ sym (ap (λ (h : Phase). roots_shown p 1 h x.roots) rests));
    }

-- ---- and when `done` begins

done_alike : (p : Program) (x : Thread) (roots : List ℕ) → done_roots p ≡ roots → x.phase ≡ phases.Ended ends.Returned → x.attempt ≡ None → x.part ≡ 1 → x.roots ≡ [] → Alike p x (with_roots roots (record x { part = 2 }))
done_alike p x roots e rests outside part run = record {
  made = λ a word f. absurd (no_object roots a word f);
  makes = λ a word f. absurd (let clash : phases.Ended ends.Returned ≡ phases.Made a word = sym rests ∙ f in cc);
  held = refl;
  fits = λ bit w f g. (
    subst (λ (a : Option Attempt). ThreadFits p bit (with_roots roots (record x { part = 2 })) a w) (sym outside) (new_fits bit w roots (subst (λ (a : Option Attempt). ThreadFits p bit x a w) outside f)),
    g ∙ (ap (λ (n : ℕ). ends_shown p n x.phase) part ∙ ap (λ (es : List End). ends.Returned ∷ es) (sym (none_ended roots e))),
  );
}
  where
    no_object : (roots : List ℕ) (a word : ℕ) → part_phase roots ≡ phases.Made a word → ⊥
    no_object [] a word e = cc
    no_object (number ∷ roots) a word e = cc

    none_ended : (roots : List ℕ) → done_roots p ≡ roots → end_of_done (done_roots p) (part_phase roots) ≡ []
    none_ended [] e = ap (λ (rs : List ℕ). end_of_done rs (phases.Ended ends.Returned)) e
    none_ended (number ∷ roots) e = ap (λ (rs : List ℕ). end_of_done rs phases.Start) e

    new_fits : (bit : ℕ → Bool) (w : PlainThread) (roots : List ℕ) → OutsideFits p bit x w → OutsideFits p bit (with_roots roots (record x { part = 2 })) w
    new_fits bit w [] f = record {
      frames = f.frames ∙ ap (λ (h : Phase). frames_shown h x.frames) rests;
      status = (let over : StatusFits bit x (phases.Ended ends.Returned) w.status = subst (λ (h : Phase). StatusFits bit x h w.status) rests f.status in over);
      roots = f.roots ∙ (ap (λ (h : Phase). roots_shown p x.part h x.roots) rests ∙ run);
    }
    new_fits bit w (number ∷ roots) f = record {
      frames = f.frames ∙ ap (λ (h : Phase). frames_shown h x.frames) rests;
      status = (let over : StatusFits bit x (phases.Ended ends.Returned) w.status = subst (λ (h : Phase). StatusFits bit x h w.status) rests f.status in over);
      roots = f.roots ∙ (ap (λ (h : Phase). roots_shown p x.part h x.roots) rests ∙ run);
    }

-- ---- all threads

workers_alike : (p : Program) (workers : List Thread) → ((u : ℕ) (z : Thread) → slice_get workers u ≡ Some z → Alike p z (with_roots (run_roots p) z)) → Pairs p workers (map (with_roots (run_roots p)) workers)
workers_alike p [] each = tt
workers_alike p (z ∷ workers) each = (each 0 z refl, workers_alike p workers (λ u w e. each (suc u) w e))

module _ (stands : RunIsThere) (states : States) (x : Thread) (workers : List Thread)
    (threads : states.s.threads ≡ x ∷ workers) where
  open states use {c, objects, was, s, q, marked, facts, beside}

  first : slice_get s.threads 0 ≡ Some x
  first = ap (λ (xs : List Thread). slice_get xs 0) threads

  outside : x.phase ≡ phases.Ended ends.Returned → x.attempt ≡ None
  outside rests = no_attempt c (was 0) x ends.Returned refl rests (facts.structure 0 x first)

  pairs_by : (ys : List Thread) → Pairs c.program (x ∷ workers) ys → Pairs c.program s.threads ys
  pairs_by ys k = subst (λ (xs : List Thread). Pairs c.program xs ys) (sym threads) k

  -- the workers' part
  run_begins : x.part ≡ 0 → x.phase ≡ phases.Ended ends.Returned → StandsBeside c.program objects (record s { threads = workers_begin c.program x workers }) q
  run_begins part rests =
      let idle : AllByRecursion (λ (w : Thread). w.phase ≡ phases.Idle) workers = subst (λ (n : ℕ). PartFits n x.phase workers) part (subst PartsFit threads facts.threads.parts) in
      let each : (u : ℕ) (z : Thread) → slice_get workers u ≡ Some z → Alike c.program z (with_roots (run_roots c.program) z) =
      λ u z e.
      let there = (ap (λ (xs : List Thread). slice_get xs (suc u)) threads ∙ e) in
      let z_idle = at_index (λ (w : Thread). w.phase ≡ phases.Idle) workers u z idle e in
      let own = facts.threads.own (suc u) z there in
      worker_alike c.program z (run_roots c.program) refl
      (no_run_roots stands c marked (omega (arith, got_below s.threads (suc u) z there, facts.threads.count))) z_idle (idle_attempt c (was (suc u)) z z_idle (facts.structure (suc u) z there)) (own.part (λ h. omega (arith, h))) in
      begins_beside states (workers_begin c.program x workers)
      (pairs_by (workers_begin c.program x workers) (init_alike c.program x (how_ended x.phase) rests (outside rests) part, workers_alike c.program workers each))
      (λ z e two none. absurd (let one : 1 ≡ z.part = ap (λ (v : Thread). v.part) (same_some e) in omega (arith, two, one)))

  -- `done`
  done_begin : x.part ≡ 1 → StandsBeside c.program objects (record s { threads = done_begins c.program x workers }) q
  done_begin part =
      let rests : x.phase ≡ phases.Ended ends.Returned = rests_between s.threads x facts.threads.parts first part in
      let none_left : x.roots ≡ [] = facts.parts.returned 0 x first (subst HasReturned (sym rests) tt) in
      begins_beside states (done_begins c.program x workers)
      (pairs_by (done_begins c.program x workers) (done_alike c.program x (done_roots c.program) refl rests (outside rests) part none_left, same_pairs c.program workers))
      (λ z e two none. ap (λ (v : Thread). v.phase) (sym (same_some e)) ∙ ap part_phase none)

  by_part : (part : ℕ) → x.part ≡ part → may_begin_by part x.phase workers ≡ true → StandsBeside c.program objects (record s { threads = part_begins c.program part x workers }) q
  by_part zero e h = run_begins e (returned x.phase h)
  by_part (suc zero) e h = done_begin e
  by_part (suc (suc part)) e h = absurd (cc)

  pub begun_beside : StandsBeside c.program objects (record s { threads = next_threads c.program (x ∷ workers) }) q
  begun_beside = (elim (may_begin (x ∷ workers)) as (λ (b : Bool). may_begin (x ∷ workers) ≡ b → StandsBeside c.program objects (record s { threads = if b then part_begins c.program x.part x workers else x ∷ workers }) q)
      [ true ↦ λ h. by_part x.part refl h | false ↦ λ h. subst (λ (xs : List Thread). StandsBeside c.program objects (record s { threads = xs }) q) threads beside ]) refl

pub next_beside : RunIsThere → NextStandsBeside
next_beside stands c cfg objects was s q marked facts beside = (elim s.threads as (λ (xs : List Thread). s.threads ≡ xs → StandsBeside c.program objects (next c s) q) [
  | [] ↦ λ e. subst (λ (ys : List Thread). StandsBeside c.program objects (record s { threads = ys }) q) (e ∙ sym (ap (next_threads c.program) e)) beside
  | x ∷ workers ↦ λ e. subst (λ (ys : List Thread). StandsBeside c.program objects (record s { threads = ys }) q) (sym (ap (next_threads c.program) e)) (begun_beside stands (record { c = c; cfg = cfg; objects = objects; was = was; s = s; q = q; marked = marked; facts = facts; beside = beside }) x workers e)
]) refl
