-- No `<clinit>` runs beside a worker: not at the start, and not behind an event or where a part of the run begins.
use Rattle.std.proofs.Common.{◌≡◌, ℕ, zero, suc, Bool, true, false, List, [], ◌∷◌, map, Option, Some, None, refl, ap, sym, subst, ◌∙◌, slice_get, IfSome, IsTrue, if◌then◌else◌}
use Rattle.std.specs.List.{AllByRecursion}
use Rattle.lists.proofs.ListLaws.{same_some}
use Rattle.jvm_types.specs.Numbers.{has_number}
use Rattle.checked_program.specs.MarkedProgram.{MarkedProgram}
use Rattle.machine_types.specs.{Accesses.found_by, Bounds.part_roots, Core.{start_thread, event_of, may_begin, may_begin_by, with_roots, how_ended, part_begins, next_threads}}
use Rattle.machine_types.specs.{Events.{wanted, moved}, Guards.{IsOfClassInit, MakesClass}, Lawful.IsLawful, Parts.{run_roots, done_roots}, Threads.{Attempt, Frame, Thread}}
use Rattle.machine_types.{specs.declared.config.Config.Config, proofs.AtStart.is_start_thread}
use Rattle.laws_threads.{specs.{GivenThread.{Given, GivenIsKept}, PartLaws.{PartFits, PartsFit}}, proofs.PartSteps.one_idle}
use Rattle.laws_states.specs.ClassInits.{IsNoClassInit, RunsNoClassInit, IsBehindInit, ClassInitsComeFirst}
use Rattle.laws_states.{specs.{PartsLaws.{StartPutsInitsFirst, EventsPutInitsFirst, NextPutsInitsFirst, ClassInitsRunAlone}}, proofs.ClassInitMoves.{root_none, moved_none}}
use Rattle.laws_states.proofs.{Lists.{first_each, mapped_each}, PartLawful.{IsBetween, has_returned as is_returned, between_frames, between_attempt}, PartsEvents.at_each}
use Rattle.jvm_types.specs.declared.outcome.End.TheVariants as ends
use Rattle.machine_types.specs.declared.phase.Phase.TheVariants as phases

-- ---- the start

fresh_none : (c : MarkedProgram) (cfg : Config) (t : ℕ) → RunsNoClassInit c.program (start_thread c cfg t)
fresh_none c cfg zero = record { frames = tt; entry = tt }
fresh_none c cfg (suc t) = record { frames = tt; entry = tt }

pub start_puts_first : StartPutsInitsFirst
start_puts_first c cfg t x e behind = subst (λ (y : Thread). RunsNoClassInit c.program y) (is_start_thread c cfg t x e) (fresh_none c cfg t)

-- ---- an event

pub events_put_first : GivenIsKept → EventsPutInitsFirst
events_put_first given c cfg s t marked threads first = (elim (slice_get s.threads t) as
    (λ (o : Option Thread). slice_get s.threads t ≡ o → ClassInitsComeFirst c.program (event_of c s t o).threads)
    [ None ↦ λ e. first | Some x ↦ λ e. at_each s.threads t x (now x) (λ u y. IsBehindInit u y.part → RunsNoClassInit c.program y) e (now_none x e) first ]) refl
  where
    now : Thread → Thread
    now x = moved c x x.phase (found_by s.words (wanted c x x.phase))

    roots_none : (x : Thread) → slice_get s.threads t ≡ Some x → IsBehindInit t x.part
        → (number : ℕ) (rest : List ℕ) → x.roots ≡ number ∷ rest → IsNoClassInit c.program number
    roots_none x there behind number rest e =
        let own = threads.own t x there in
        let all : AllByRecursion (λ n. IsTrue (has_number (part_roots c.program x.number x.part) n)) (number ∷ rest) = subst (λ (ns : List ℕ). AllByRecursion (λ n. IsTrue (has_number (part_roots c.program x.number x.part) n)) ns) e own.rooted.roots in
        root_none c.program x.number x.part number (subst (λ (n : ℕ). IsBehindInit n x.part) (sym own.number) behind) all.0

    now_none : (x : Thread) → slice_get s.threads t ≡ Some x → IsBehindInit t (now x).part → RunsNoClassInit c.program (now x)
    now_none x there behind =
        let was_behind : IsBehindInit t x.part = subst (IsBehindInit t) (ap (λ (g : Given). g.part) (given c x x.phase (found_by s.words (wanted c x x.phase)))) behind in
        let lawful = threads.lawful t x there in
        moved_none c marked lawful.was x (found_by s.words (wanted c x x.phase)) lawful.structured (first t x there was_behind) (roots_none x there was_behind)

-- ---- where a part begins

module _ (c : MarkedProgram) (x : Thread) (workers : List Thread) (lawful : IsLawful c x) (first : ClassInitsComeFirst c.program (x ∷ workers)) where
  abbrev seen : Thread
  seen = record x { part = 1; first = how_ended x.phase }

  workers_first : ClassInitsComeFirst c.program (seen ∷ map (with_roots (run_roots c.program)) workers)
  workers_first = mapped_each (λ u z. IsBehindInit u z.part → RunsNoClassInit c.program z) seen (with_roots (run_roots c.program)) workers (λ behind. absurd behind)
      (λ u w e behind. let old = first (suc u) w e tt in record { frames = old.frames; entry = old.entry })

  abbrev last : Thread
  last = with_roots (done_roots c.program) (record x { part = 2 })

  last_none : x.phase ≡ phases.Ended ends.Returned → RunsNoClassInit c.program last
  last_none ended =
      let between : IsBetween x.phase = subst IsBetween (sym ended) is_returned in record {
        frames = subst (λ (fs : List Frame). AllByRecursion (λ f. IsNoClassInit c.program f.method) fs) (sym (between_frames c x 2 x.first lawful.was between lawful.structured)) tt;
        entry = subst (λ (o : Option Attempt). IfSome o (λ a. IsNoClassInit c.program a.entry.method)) (sym (between_attempt c x 2 x.first lawful.was between lawful.structured)) tt;
      }

  done_first : x.phase ≡ phases.Ended ends.Returned → ClassInitsComeFirst c.program (last ∷ workers)
  done_first ended = first_each (λ u z. IsBehindInit u z.part → RunsNoClassInit c.program z) last workers (λ behind. last_none ended) (λ u. first (suc u))

  part_first : (part : ℕ) → PartFits part x.phase workers → (may : Bool) → may_begin_by part x.phase workers ≡ may → ClassInitsComeFirst c.program (if may then part_begins c.program part x workers else x ∷ workers)
  part_first part fits false e = first
  part_first zero fits true e = workers_first
  part_first (suc zero) fits true e = done_first fits
  part_first (suc (suc part)) fits true e = absurd (cc)

pub next_puts_first : NextPutsInitsFirst
next_puts_first c cfg s threads first = by_threads s.threads threads.parts (threads.lawful 0) first
  where
    by_threads : (ts : List Thread) → PartsFit ts → ((x : Thread) → slice_get ts 0 ≡ Some x → IsLawful c x) → ClassInitsComeFirst c.program ts → ClassInitsComeFirst c.program (next_threads c.program ts)
    by_threads [] fits lawful first = first
    by_threads (x ∷ workers) fits lawful first = part_first c x workers (lawful x refl) first x.part fits (may_begin (x ∷ workers)) refl

-- ---- so it runs alone

none_on_top : (c : MarkedProgram) (class : ℕ) (fs : List Frame) → AllByRecursion (λ f. IsNoClassInit c.program f.method) fs → IsOfClassInit c class fs → ⊥
none_on_top c class [] all k = k
none_on_top c class (f ∷ fs) all k = let bad : true ≡ false = sym k.2 ∙ all.0 k.0 k.1 in cc

pub class_inits_alone : ClassInitsRunAlone
class_inits_alone c cfg s t class x threads first there runs init = by_number t refl
  where
    workers_wait : (part : ℕ) → x.part ≡ part → (ts : List Thread) → PartsFit ts → slice_get ts 0 ≡ Some x → (IsBehindInit 0 part → ⊥) → (u : ℕ) (y : Thread) → slice_get ts (suc u) ≡ Some y → y.phase ≡ phases.Idle
    workers_wait part e [] fits at early u y f = absurd (cc)
    workers_wait zero e (z ∷ workers) fits at early u y f = one_idle workers u y (subst (λ (n : ℕ). PartFits n z.phase workers) (ap (λ (q : Thread). q.part) (same_some at) ∙ e) fits) f
    workers_wait (suc zero) e (z ∷ workers) fits at early u y f =
        let same : z ≡ x = same_some at in
        let ended : z.phase ≡ phases.Ended ends.Returned = subst (λ (n : ℕ). PartFits n z.phase workers) (ap (λ (q : Thread). q.part) same ∙ e) fits in
        let bad : phases.Run ≡ phases.Ended ends.Returned = sym runs ∙ ap (λ (q : Thread). q.phase) (sym same) ∙ ended in
        absurd (cc)
    workers_wait (suc (suc part)) e ts fits at early u y f = absurd (early tt)

    never_behind : (number : ℕ) → t ≡ number → IsBehindInit number x.part → ⊥
    never_behind number e behind = none_on_top c class x.frames (first t x there (subst (λ (n : ℕ). IsBehindInit n x.part) (sym e) behind)).frames init

    by_number : (number : ℕ) → t ≡ number → MakesClass c class s x
    by_number zero e = record {
      runs = init;
      no_worker = workers_wait x.part refl s.threads threads.parts (subst (λ (n : ℕ). slice_get s.threads n ≡ Some x) e there) (never_behind 0 e);
    }
    by_number (suc number) e = absurd (never_behind (suc number) e tt)
