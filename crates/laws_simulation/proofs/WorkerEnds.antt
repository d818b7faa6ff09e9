-- No worker keeps how an earlier part ended.
use Rattle.std.proofs.Common.{◌≡◌, inl, inr, ℕ, zero, suc, Bool, true, false, cond, List, [], ◌∷◌, map, Option, Some, None, refl, sym, ap, ◌∙◌, arith, ◌==◌, slice_get, slice_set}
use Rattle.std.{proofs.lemmas.Bool.{cases_Bool, Decides.Decides-eqb}}
use Rattle.lists.proofs.ListLaws.{same_some}
use Rattle.jvm_types.specs.declared.program.Program.{Program}
use Rattle.checked_program.specs.MarkedProgram.{MarkedProgram}
use Rattle.machine_types.specs.{Accesses.found_by, Core.{Core, start_thread, event_of, may_begin, with_roots, part_begins, next_threads}, Events.{wanted, moved}, Parts.run_roots, Threads.Thread}
use Rattle.machine_types.{specs.declared.config.Config.Config, proofs.{AtStart.is_start_thread, Lists.got_when_set}}
use Rattle.laws_threads.{specs.GivenThread.{Given, GivenIsKept}, proofs.StateSteps.set_other}
use Rattle.laws_simulation.specs.OutcomeLaws.{WorkersKeepNone, EventsKeepNone, NextKeepsNone, StartKeepsNone}

-- ---- an event

kept_by : (given : GivenIsKept) (c : MarkedProgram) (s : Core) (t : ℕ) (x : Thread) (got : ℕ) → slice_get s.threads t ≡ Some x → WorkersKeepNone s.threads → WorkersKeepNone (slice_set s.threads t (moved c x x.phase got))
kept_by given c s t x got there h u z e some = elim (cases_Bool (u == t)) [
  | inl d ↦
      let same = (Decides-eqb u t).0 d in
      let is : moved c x x.phase got ≡ z = same_some (sym (got_when_set s.threads t x (moved c x x.phase got) there) ∙ ap (slice_get (slice_set s.threads t (moved c x x.phase got))) (sym same) ∙ e) in
      sym (ap (λ (w : Thread). w.first) is) ∙ ap (λ (g : Given). g.first) (given c x x.phase got) ∙ h u x (ap (slice_get s.threads) same ∙ there) some
  | inr d ↦ h u z (sym (set_other s.threads t u (moved c x x.phase got) d) ∙ e) some
]

pub events_keep_none : GivenIsKept → EventsKeepNone
events_keep_none given c s t h = (elim (slice_get s.threads t) as (λ (o : Option Thread). slice_get s.threads t ≡ o → WorkersKeepNone (event_of c s t o).threads)
    [ None ↦ λ e. h | Some x ↦ λ e. kept_by given c s t x (found_by s.words (wanted c x x.phase)) e h ]) refl

-- ---- where a part begins

begun_first : (roots : List ℕ) (workers : List Thread) (u : ℕ) (z : Thread) → ((v : ℕ) (w : Thread) → slice_get workers v ≡ Some w → w.first ≡ None) → slice_get (map (with_roots roots) workers) u ≡ Some z → z.first ≡ None
begun_first roots [] u z all e = absurd (cc)
begun_first roots (x ∷ workers) zero z all e = sym (ap (λ (w : Thread). w.first) (same_some e)) ∙ all 0 x refl
begun_first roots (x ∷ workers) (suc u) z all e = begun_first roots workers u z (λ v w f. all (suc v) w f) e

workers_of : (x : Thread) (workers : List Thread) → WorkersKeepNone (x ∷ workers) → (v : ℕ) (w : Thread) → slice_get workers v ≡ Some w → w.first ≡ None
workers_of x workers h v w e = h (suc v) w e (λ d. absurd (omega (arith, d)))

begun : (p : Program) (part : ℕ) (x : Thread) (workers : List Thread) → WorkersKeepNone (x ∷ workers) → WorkersKeepNone (part_begins p part x workers)
begun p part x workers h zero z e some = absurd (some refl)
begun p zero x workers h (suc u) z e some = begun_first (run_roots p) workers u z (workers_of x workers h) e
begun p (suc part) x workers h (suc u) z e some = workers_of x workers h u z e

next_none : (p : Program) (threads : List Thread) → WorkersKeepNone threads → WorkersKeepNone (next_threads p threads)
next_none p [] h = h
next_none p (x ∷ workers) h = elim (may_begin (x ∷ workers)) as (λ (b : Bool). WorkersKeepNone (cond b (part_begins p x.part x workers) (x ∷ workers)))
    [ true ↦ begun p x.part x workers h | false ↦ h ]

pub next_keeps_none : NextKeepsNone
next_keeps_none c s h = next_none c.program s.threads h

-- ---- the start

first_at_start : (c : MarkedProgram) (cfg : Config) (n : ℕ) → (start_thread c cfg n).first ≡ None
first_at_start c cfg zero = refl
first_at_start c cfg (suc n) = refl

pub start_keeps_none : StartKeepsNone
start_keeps_none c cfg t x e some = ap (λ (w : Thread). w.first) (sym (is_start_thread c cfg t x e)) ∙ first_at_start c cfg t
