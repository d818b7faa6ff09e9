-- How many steps the threads owe is how many are due by their pasts.
use Rattle.std.{proofs.Common.{◌≡◌, ℕ, zero, suc, ◌+◌, List, ◌∷◌, ◌++◌, length, map, Option, Some, None, refl, sym, ap, ◌∙◌, arith, replicate, slice_get, slice_set}, specs.Option.option_map}
use Rattle.std.proofs.{Math.ListN.get_or-map, lemmas.List.{length-append, map-set}}
use Rattle.checked_program.specs.MarkedProgram.{MarkedProgram}
use Rattle.machine_types.specs.Core.{Happening, Of, NextPart}
use Rattle.machine_types.specs.History.{Fate, GoesOn, Fails, Finishes, Past, acts_of, fate, found_by_event, no_past, past_after, past_at, past_by, pasts_after, shown_by, told}
use Rattle.machine_types.specs.{Threads.{Attempt, Thread}, declared.{phase.Phase.Phase, plain.Act.Act}}
use Rattle.event_texts.specs.{Shares.{bounded_count, inside_share, owed, owed_behind, share_at, share_by, share_in}, declared.shares.Share.{Share, TheVariants.Owes}}
use Rattle.run_trace.specs.{EventLines.{Trail, seen_of_event, seen_with}, Owing.{owed_after, owed_at, seen_by}, Stands.stand_at}

-- ---- one event

more_owed : (due acts : List Act) → bounded_count (length (due ++ acts)) ≡ bounded_count (bounded_count (length due) + length acts)
more_owed due acts = ap bounded_count (length-append due acts) ∙ counted_sum (length due) (length acts)
  where
    counted_sum : (m n : ℕ) → bounded_count (m + n) ≡ bounded_count (bounded_count m + n)
    counted_sum m n = grind arith

share_of_fate : (d : Past) (phase : Phase) (acts : List Act) (f : Fate) → inside_share (shown_by f d) (owed d) (owed (past_by d phase acts f)) ≡ share_in acts f (owed d)
share_of_fate d phase acts GoesOn = ap Owes (more_owed d.due acts)
share_of_fate d phase acts Fails = refl
share_of_fate d phase acts Finishes = refl

owed_of_fate : (d : Past) (phase : Phase) (acts : List Act) (f : Fate) → owed (past_by d phase acts f) ≡ owed_behind (share_in acts f (owed d)) (owed d)
owed_of_fate d phase acts GoesOn = more_owed d.due acts
owed_of_fate d phase acts Fails = refl
owed_of_fate d phase acts Finishes = refl

module _ (c : MarkedProgram) (s : Thread) (got : ℕ) (d : Past) where
  same_share : (a : Option Attempt) → share_at c s a got d ≡ share_by c s a got (owed d)
  same_share None = refl
  same_share (Some a) = share_of_fate d s.phase (acts_of c s s.phase got) (fate c s a s.phase got)

  same_owed : (a : Option Attempt) → owed (past_after c s a got d) ≡ owed_behind (share_by c s a got (owed d)) (owed d)
  same_owed None = refl
  same_owed (Some a) = owed_of_fate d s.phase (acts_of c s s.phase got) (fate c s a s.phase got)

-- ---- along a run

pub nothing_owed : (n : ℕ) → map owed (replicate n no_past) ≡ replicate n 0
nothing_owed zero = refl
nothing_owed (suc n) = ap (λ (owed : List ℕ). 0 ∷ owed) (nothing_owed n)

module _ (c : MarkedProgram) (v : Trail) where
  owed_past : (t : ℕ) → owed_at (map owed v.told.pasts) t ≡ owed (past_at v.told t)
  owed_past t = get_or-map owed v.told.pasts t no_past

  pub same_seen : (h : Happening) → seen_of_event c v h ≡ seen_by c v.told.core (map owed v.told.pasts) v.stands h
  same_seen NextPart = refl
  same_seen (Of t) = by_thread (slice_get v.told.core.threads t)
    where
      by_thread : (o : Option Thread) → option_map (λ x. seen_with c v.told.core.words (stand_at v.stands t) x (share_at c x x.attempt (found_by_event c v.told x) (past_at v.told t))) o ≡ option_map (λ x. seen_with c v.told.core.words (stand_at v.stands t) x (share_by c x x.attempt (found_by_event c v.told x) (owed_at (map owed v.told.pasts) t))) o
      by_thread None = refl
      by_thread (Some x) = ap (λ (share : Share). Some (seen_with c v.told.core.words (stand_at v.stands t) x share)) (same_share c x (found_by_event c v.told x) (past_at v.told t) x.attempt ∙ ap (share_by c x x.attempt (found_by_event c v.told x)) (sym (owed_past t)))

  pub owed_on : (h : Happening) → map owed (told c v.told h).pasts ≡ owed_after (map owed v.told.pasts) h (seen_by c v.told.core (map owed v.told.pasts) v.stands h)
  owed_on NextPart = refl
  owed_on (Of t) = by_thread (slice_get v.told.core.threads t)
    where
      by_thread : (o : Option Thread) → map owed (pasts_after c v.told t o) ≡ owed_after (map owed v.told.pasts) (Of t) (option_map (λ x. seen_with c v.told.core.words (stand_at v.stands t) x (share_by c x x.attempt (found_by_event c v.told x) (owed_at (map owed v.told.pasts) t))) o)
      by_thread None = refl
      by_thread (Some x) =
          map-set owed v.told.pasts t (past_after c x x.attempt (found_by_event c v.told x) (past_at v.told t))
          ∙ ap (slice_set (map owed v.told.pasts) t) (same_owed c x (found_by_event c v.told x) (past_at v.told t) x.attempt ∙ ap (λ (n : ℕ). owed_behind (share_by c x x.attempt (found_by_event c v.told x) n) n) (sym (owed_past t)))
