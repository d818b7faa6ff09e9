-- An event of one thread keeps what is known of the attempts of the others.
use Rattle.std.proofs.{Common.{◌≡◌, ◌≢◌, ℕ, Bool, List, Option, Some, None, refl, sym, ap, ◌∙◌, subst, slice_get, slice_index, if◌then◌else◌}, lemmas.Bool.ne_eqb}
use Rattle.checked_program.specs.{MarkedProgram.MarkedProgram, SectionLaws.OwnedIsDecided}
use Rattle.machine_types.specs.{Attempts.{IsAsNoted, IsLedToPresent, IsReadBegun, Owes, Stays}, Core.{Core, event}, Replay.{replayed, at_entry, at_present}, Threads.Attempt, declared.phase.Phase.Phase}
use Rattle.laws_threads.specs.{InsideEffects.InsideMayDo, InsideMoves.ElementsInside, StateLaws.{counted_of, counted_after}}
use Rattle.laws_states.{specs.{HeapFacts.objects_after, SiteLaws.{EventsReachSites, SitesDiffer, SitesLieInside}}, proofs.Movers.known_sites}
use Rattle.laws_refinement.{specs.ElidedSteps.{OthersKeepAttempts, next_free}, proofs.{Attempting.{Event, event_at}, LockNoted.noted_before, StayingOn.still_stays, StayingPlaces.{AreEventFacts, event_words, still_own, still_word}}}

-- the phase that counts of another thread is as it was
same_phase : (c : MarkedProgram) (was : ℕ → Phase) (s : Core) (t u : ℕ) → u ≢ t → counted_after c was s t u ≡ was u
same_phase c was s t u other = ap (λ (b : Bool). if b then counted_of (was t) (slice_get (event c s t).threads t) else was u) (ne_eqb u t other)

pub others_keep_attempts : InsideMayDo → ElementsInside → OwnedIsDecided → SitesDiffer → SitesLieInside → EventsReachSites → OthersKeepAttempts
others_keep_attempts may_do elements decided differ inside reach c cfg objects was frozen own after w later s t u x y d turns other there owes = by_attempt y.attempt refl owes
  where
    its : Event
    its = event_at c cfg objects was frozen own after w later s t x turns

    laws : AreEventFacts
    laws = record { may_do = may_do; elements = elements; decided = decided; sites = known_sites differ inside reach }

    leads : (a : Attempt) → y.attempt ≡ Some a → IsLedToPresent c (Stays c own.stores objects w (next_free s) u a.monitor) s.words (was u) y a d
        → IsLedToPresent c (Stays c after.stores (objects_after c.program s t objects) later (next_free (event c s t)) u a.monitor) (event c s t).words (counted_after c was s t u) y a d
    leads a e before noted memory agrees ended =
        let noted_then : IsAsNoted s.words a =
        noted_before c cfg objects was s t x turns.facts turns.thread u y there a e laws.sites turns.marked (subst (λ (words : List ℕ). IsAsNoted words a) (event_words its) noted) in
        let agrees_then : (z : ℕ) → Stays c own.stores objects w (next_free s) u a.monitor z → memory z ≡ Some (slice_index s.words z) =
        λ z stays. agrees z (still_stays its u (still_own its u other) a.monitor z stays) ∙ ap Some (still_word its u other laws y there a e z noted_then stays) in
        subst (λ (phase : Phase). replayed c.program a.monitor memory d.due (at_entry y a ended) ≡ Some (at_present y a phase d.pending ended)) (sym (same_phase c was s t u other)) (before noted_then memory agrees_then ended)

    by_attempt : (o : Option Attempt) → y.attempt ≡ o → Owes c own.stores objects w s u (was u) y o d → Owes c after.stores (objects_after c.program s t objects) later (event c s t) u (counted_after c was s t u) y o d
    by_attempt None e owes = owes
    by_attempt (Some a) e owes = (subst (λ (phase : Phase). IsReadBegun phase d.pending) (sym (same_phase c was s t u other)) owes.0, leads a e owes.1)
