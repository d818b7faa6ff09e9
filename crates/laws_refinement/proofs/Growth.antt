-- An event keeps the fact on the attempt of its own thread.
use Rattle.std.proofs.Common.{◌≡◌, inl, inr, ℕ, suc, List, [], ◌++◌, Option, Some, None, refl, sym, ap, ◌∙◌, subst, arith, slice_get, slice_index}
use Rattle.machine_types.specs.{Attempts.{IsAsNoted, Owes, OwesNothing}, Core.{Core, accessed_by, event_of, event}, Events.{wanted, moved}}
use Rattle.machine_types.specs.{History.{Fate, GoesOn, Past, fate, acts_of, past_by, past_after}, LockWords.word_of_lock}
use Rattle.machine_types.specs.{Replay.{Alone, replayed, begun_and_done, status_inside, at_entry, at_present}, Structure.{IsAs, IsStructured}, Threads.{Attempt, Thread}, Worlds.IsOwnOrFinished}
use Rattle.machine_types.{specs.declared.{lock.LockWord.TheVariants.Free, phase.Phase.{Phase, TheVariants.Run}, plain.Act.Act}, proofs.Lists.got_when_set}
use Rattle.laws_threads.specs.{StateLaws.counted_after, TopFrames.EffectsAreAllowed}
use Rattle.laws_states.{specs.{FoundLaws.HeapWordsFit, HeapFacts.{objects_after}}, proofs.Lists.same_or_not}
use Rattle.laws_refinement.{specs.ElidedSteps.{OwnKeepsAttempt, found_of, next_free}, proofs.{GoingOn.{IsElementRead, Knows, all_done, none_begun, replayed_more}, Instructions.ByFate}}
use Rattle.laws_refinement.proofs.{Attempting.{Event, Trying, StaysNow, event_at, inside_of}, InsideWords.words_stay, StayingOn.still_stays}
use Rattle.laws_refinement.proofs.{OutsideEntries.{IsAtInstruction, MovesTo, outside_moves}, Phases.event_inside}
use Rattle.machine_types.specs.PlainState as plain

-- ---- places that stay go on to stay

module _ (its : Event) where
  open its use {w, later, t, turns}

  -- what the thread that moves may know
  stays_own : (v : ℕ) → IsOwnOrFinished w (next_free its.s) t v → IsOwnOrFinished later (next_free (event its.c its.s t)) t v
  stays_own v k = (let on = turns.goes_on in omega (arith, k.0, on.grows), λ b e. elim (same_or_not b.thread t) [ inl same ↦ same | inr other ↦ k.1 b (turns.goes_on.no_more v b other e) ])

-- ---- the law

runs_now : (phase now : Phase) → IsAtInstruction phase → IsAs phase now → now ≡ Run
runs_now phase now (inl e) k = subst (λ (p : Phase). IsAs p now) e k
runs_now phase now (inr e) k = subst (λ (p : Phase). IsAs p now) e k

module _ (fit : HeapWordsFit) (allowed : EffectsAreAllowed) (its : Event) (d : Past) where
  open its use {mover, c, objects, was, owning as own, own_after, w, later, s, t, x, facts, turns}

  abbrev got : ℕ
  got = found_of c s x

  abbrev after : Thread
  after = moved c x x.phase got

  abbrev now : Phase
  now = counted_after c was s t t

  event_is : event c s t ≡ accessed_by s t (wanted c x x.phase) after
  event_is = ap (event_of c s t) turns.thread

  structured : IsStructured c now after
  structured = turns.facts_after.structure t after (ap (λ (r : Core). slice_get r.threads t) event_is ∙ got_when_set s.threads t x after turns.thread)

  abbrev OwesAfter : Option Attempt → Past → Type 0
  OwesAfter o past = Owes c own_after.stores (objects_after c.program s t objects) later (event c s t) t now after o past

  -- ---- in no attempt

  module _ (none : x.attempt ≡ None) (nothing : OwesNothing d) where
    begins_owing : (o : Option Attempt) → MovesTo c x after got o → OwesAfter o d
    begins_owing None k = nothing
    begins_owing (Some b) k = (
      none_begun now d.pending (subst IsElementRead (sym (runs_now after.phase now k.phase structured.is_as)) tt),
      λ noted
          memory knows ended.
          let run : plain.Run ≡ status_inside now = ap status_inside (sym (runs_now after.phase now k.phase structured.is_as)) in
          let depth : 1 ≡ suc b.inner = ap suc (sym k.inner) in
          let begun : 0 ≡ begun_and_done now d.pending = sym nothing.pending ∙ sym (all_done now d.pending (subst IsElementRead (sym (runs_now after.phase now k.phase structured.is_as)) tt)) in
          ap (λ due. replayed c.program b.monitor memory due (at_entry after b ended)) nothing.due
          ∙ (λ i. Some (let next : Alone = record { thread = record { frames = k.frames i; status = run i; roots = after.roots; ended = ended }; depth = depth i; begun = begun i } in next)),
    )

  -- ---- in one

  module _ (a : Attempt) (tries : x.attempt ≡ Some a) (owes : Owes c own.stores objects w s t (was t) x (Some a) d) where
    abbrev trying : Trying
    trying = record { mover = mover; a = a; tries = tries }

    abbrev acts : List Act
    acts = acts_of c x x.phase got

    same_words : (event c s t).words ≡ s.words
    same_words = ap (λ (r : Core). r.words) event_is ∙ words_stay s.words c x a (inside_of trying)

    nothing_owed : (past : Past) → past.due ≡ [] → past.pending ≡ 0 → after.attempt ≡ None → OwesAfter after.attempt past
    nothing_owed past due pending none = subst (λ (o : Option Attempt). OwesAfter o past) (sym none) (record { due = due; pending = pending })

    by_fate : (f : Fate) → ByFate c.program (StaysNow trying) s.words x a (was t) now x.phase f after acts → OwesAfter after.attempt (past_by d x.phase acts f)
    by_fate GoesOn g = subst (λ (o : Option Attempt). OwesAfter o (past_by d x.phase acts GoesOn)) (sym g.attempt) (
      g.begun d.pending,
      λ noted memory has ended.
          let was_noted : IsAsNoted s.words a = subst (λ (words : List ℕ). slice_index words a.monitor ≡ word_of_lock (Free a.noted)) same_words noted in
          let knows : Knows (StaysNow trying) s.words memory = λ n k. subst (λ (words : List ℕ). memory n ≡ Some (slice_index words n)) same_words (has n ((still_stays its t (stays_own its) a.monitor) n k)) in
          ap (replayed c.program a.monitor memory (d.due ++ acts)) (g.entry ended)
          ∙ replayed_more c.program a.monitor memory d.due acts (at_entry x a ended) (at_present x a (was t) d.pending ended) (owes.1 was_noted memory knows ended)
          ∙ g.replays memory knows d.pending owes.0 ended,
    )
    by_fate f k = nothing_owed (past_by d x.phase acts f) refl refl k

  by_attempt : (o : Option Attempt) → x.attempt ≡ o → Owes c own.stores objects w s t (was t) x o d → OwesAfter after.attempt (past_after c x o got d)
  by_attempt None e k = begins_owing e k after.attempt (outside_moves c x got e x.phase refl)
  by_attempt (Some a) e k = by_fate a e k (fate c x a x.phase got) (event_inside fit allowed (record { mover = mover; a = a; tries = e }) now structured)

pub own_keeps_attempt : HeapWordsFit → EffectsAreAllowed → OwnKeepsAttempt
own_keeps_attempt fit allowed c cfg objects was frozen own own_after w later s t x d turns owes = by_attempt fit allowed (event_at c cfg objects was frozen own own_after w later s t x turns) d x.attempt refl owes
