-- In every state that a run reaches, what each thread keeps of its attempts at an entry is what its events tell.
use Rattle.std.proofs.{Common.{◌≡◌, ◌≢◌, inl, inr, ℕ, zero, suc, Bool, true, false, List, [], ◌∷◌, ◌++◌, Option, Some, None, refl, sym, ◌∙◌, subst, arith, slice_get, ◌==◌, if◌then◌else◌}, lemmas.Bool.eqb-false}
use Rattle.std.proofs.lemmas.Bool.Decides.{Decides-eqb}
use Rattle.lists.proofs.ListLaws.{same_some}
use Rattle.checked_program.specs.MarkedProgram.{MarkedProgram, IsMarked}
use Rattle.machine_types.specs.{Accesses.found_by, Core.{Core, Happening, Of, NextPart, start, start_thread, event, event_of, happened, next, all_happened, core, part_phase}, Events.{wanted, moved}}
use Rattle.machine_types.specs.{Parts.init_roots, Structure.Structure, Threads.{Attempt, Thread}, declared.{config.Config.Config, phase.Phase.{Phase, TheVariants.Idle}}}
use Rattle.machine_types.proofs.{AtStart.is_start_thread, Lists.{got_when_set, got_other}}
use Rattle.laws_threads.specs.{InsideEffects.InsideMayDo, InsideMoves.ElementsInside, PartLaws.PartsFit}
use Rattle.laws_states.{specs.{RunFacts.HaveWidth, RunLaws.PartsKeepThreads, StateLaws.{ProgramsKeepThreads, RunsHaveState, IsInState}}, proofs.GrowingRuns.one_more}
use Rattle.laws_refinement.{specs.{Entries.{failed_of, failed_with, failed_from, failed_here, KeepsCount, HasFailedCount}, EntryLaws.ThreadsKeepCount}, proofs.Counts.{Counts, event_counted}}
use Rattle.laws_refinement.proofs.{Inside.is_inside, SameCounts.{IsPassedOn, came_from}}

-- ---- an event

module _ (may_do : InsideMayDo) (elements : ElementsInside) (c : MarkedProgram) (marked : IsMarked c) (was : ℕ → Phase) (s : Core) (structure : Structure c was s.threads) (t failed : ℕ) where
  -- of the thread itself
  own : (o : Option Thread) → slice_get s.threads t ≡ o → HasFailedCount s t failed → HasFailedCount (event_of c s t o) t (failed_of c s o failed)
  own None e k = k
  own (Some x) e k =
      let got : ℕ = found_by s.words (wanted c x x.phase) in
      let later : ℕ = failed_of c s (Some x) failed in
      let now : Counts (moved c x x.phase got) later =
      event_counted c x got failed (λ a tries. is_inside may_do elements c marked x a tries (was t) (structure t x e)) (record { few = k.few; kept = k.kept x e }) in
      record { few = now.few; kept = λ y f. subst (λ (z : Thread). KeepsCount z.attempt z.phase later) (same_some (sym (got_when_set s.threads t x (moved c x x.phase got) e) ∙ f)) now.kept }

  -- of another one
  other : (u : ℕ) → t ≢ u → (o : Option Thread) → slice_get s.threads u ≡ o → HasFailedCount s t failed → HasFailedCount (event_of c s u o) t failed
  other u apart None e k = k
  other u apart (Some x) e k = record { few = k.few; kept = λ y f. k.kept y (sym (got_other s.threads u t (moved c x x.phase (found_by s.words (wanted c x x.phase))) apart) ∙ f) }

  event_keeps : (u : ℕ) → HasFailedCount s t failed → HasFailedCount (event c s u) t (if u == t then failed_of c s (slice_get s.threads t) failed else failed)
  event_keeps u k = (elim (u == t) as (λ (b : Bool). (u == t) ≡ b → HasFailedCount (event c s u) t (if b then failed_of c s (slice_get s.threads t) failed else failed)) [
    | true ↦ λ e. subst (λ (n : ℕ). HasFailedCount (event c s n) t (failed_of c s (slice_get s.threads t) failed)) (sym ((Decides-eqb u t).0 e)) (own (slice_get s.threads t) refl k)
    | false ↦ λ e. other u (λ k. eqb-false u t e (sym k)) (slice_get s.threads u) refl k
  ]) refl

-- ---- the begin of a part

at_root : (failed : ℕ) (o : Option Attempt) (phase : Phase) (roots : List ℕ) → KeepsCount o phase failed → KeepsCount o (part_phase roots) failed
at_root failed (Some a) phase roots k = k
at_root failed None phase [] k = tt
at_root failed None phase (number ∷ roots) k = tt

next_keeps : (c : MarkedProgram) (s : Core) (t failed : ℕ) → PartsFit s.threads → HasFailedCount s t failed → HasFailedCount (next c s) t failed
next_keeps c s t failed parts k = record { few = k.few; kept = kept }
  where
    kept : (y : Thread) → slice_get (next c s).threads t ≡ Some y → KeepsCount y.attempt y.phase failed
    kept y e =
        let from = came_from c.program s.threads t y parts e in
        subst (λ (o : Option Attempt). KeepsCount o y.phase failed) (sym from.same.attempt) (by_phase from.old from.same.phase (k.kept from.old from.there))
      where
        by_phase : (x : Thread) → IsPassedOn x.phase y.phase → KeepsCount x.attempt x.phase failed → KeepsCount x.attempt y.phase failed
        by_phase x (inl same) keeps = subst (λ (phase : Phase). KeepsCount x.attempt phase failed) (sym same) keeps
        by_phase x (inr (roots, is)) keeps = subst (λ (phase : Phase). KeepsCount x.attempt phase failed) (sym is) (at_root failed x.attempt x.phase roots keeps)

-- ---- every run

start_keeps : (c : MarkedProgram) (cfg : Config) (t : ℕ) → HasFailedCount (start c cfg) t 0
start_keeps c cfg t = record {
  few = omega arith;
  kept = λ x e. subst (λ (z : Thread). KeepsCount z.attempt z.phase 0) (is_start_thread c cfg t x e)
      (elim t as (λ (n : ℕ). KeepsCount (start_thread c cfg n).attempt (start_thread c cfg n).phase 0) [ zero ↦ at_root 0 None Idle (init_roots c.program) tt | suc n ↦ tt ]);
}

module _ (may_do : InsideMayDo) (elements : ElementsInside) (runs : RunsHaveState) (c : MarkedProgram) (cfg : Config) (marked : IsMarked c) (width : HaveWidth cfg) (parts : PartsKeepThreads c cfg) (t : ℕ) where
  one : (s : Core) (failed : ℕ) (h : Happening) → IsInState c cfg s → HasFailedCount s t failed → HasFailedCount (happened c s h) t (failed_with c s t failed h)
  one s failed (Of u) k m = event_keeps may_do elements c marked k.was s k.facts.structure t failed u m
  one s failed NextPart k m = next_keeps c s t failed k.facts.threads.parts m

  -- behind a front of the run
  each : (front hs : List Happening) (failed : ℕ) → HasFailedCount (core c cfg front) t failed → HasFailedCount (all_happened c (core c cfg front) hs) t (failed_from c (core c cfg front) t failed hs)
  each front [] failed m = m
  each front (h ∷ hs) failed m =
      let more : ℕ = failed_with c (core c cfg front) t failed h in
      let now : HasFailedCount (happened c (core c cfg front) h) t more = one (core c cfg front) failed h (runs c cfg front marked width parts) m in
      subst (λ (s : Core). HasFailedCount (all_happened c s hs) t (failed_from c s t more hs)) (one_more c cfg front h) (each (front ++ h ∷ []) hs more (subst (λ (s : Core). HasFailedCount s t more) (sym (one_more c cfg front h)) now))

  counted : (hs : List Happening) → HasFailedCount (core c cfg hs) t (failed_here c cfg hs t)
  unfolding core failed_here
  counted hs = each [] hs 0 (start_keeps c cfg t)

pub threads_keep_count : InsideMayDo → ElementsInside → RunsHaveState → ProgramsKeepThreads → ThreadsKeepCount
threads_keep_count may_do elements runs parts c cfg hs t marked width settings = counted may_do elements runs c cfg marked width (parts c cfg marked settings) t hs
