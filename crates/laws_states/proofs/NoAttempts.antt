-- Where no section may be tried, no event makes an attempt.
use Rattle.std.proofs.Common.{◌≡◌, ℕ, false, List, [], ◌∷◌, Option, Some, None, refl, ap, subst, ◌∙◌, option_map, slice_get}
use Rattle.checked_program.specs.MarkedProgram.{MarkedProgram}
use Rattle.machine_types.specs.{Accesses.found_by, Core.event_of, Events.{wanted, thread_started, moved}, Onward.rooted, Threads.Thread, declared.{config.Config.Config, phase.Phase.Phase}}
use Rattle.laws_states.{specs.PartsLaws.{HaveNoAttempts, EventsMakeNoAttempts}, proofs.{PartsEvents.{at_each, fits_of}, PlainMoves.goes_attempt, RootMoves.{RootFits, IsNoStart, moved_stays}}}
use Rattle.machine_types.specs.declared.phase.Phase.TheVariants as phases

moves_none : (c : MarkedProgram) (x : Thread) (got : ℕ) → x.attempt ≡ None → x.cfg.elide ≡ false
    → RootFits x.phase x.roots → (moved c x x.phase got).attempt ≡ None
moves_none c x got none never fits = by_phase x.phase refl
  where
    on : (phase : Phase) → IsNoStart phase → x.phase ≡ phase → (moved c x phase got).attempt ≡ None
    on phase n e = let k = moved_stays c (record { s = x; Bare = Unit {0}; none = λ q. none; not = λ q. never }) got phase n e (subst (λ (p : Phase). RootFits p x.roots) e fits) in k.keeps.none tt

    by_phase : (phase : Phase) → x.phase ≡ phase → (moved c x phase got).attempt ≡ None
    by_phase phases.Start e = elim x.roots as (λ (roots : List ℕ). (thread_started c.program x roots).attempt ≡ None)
        [ [] ↦ none | number ∷ rest ↦ goes_attempt (record x { roots = rest }) (option_map (rooted c.program x.number number) (slice_get c.program.methods number)) ∙ none ]
    by_phase phase e = on phase tt e

pub events_make_none : EventsMakeNoAttempts
events_make_none c cfg s t never threads stand none = all_none (slice_get s.threads t) refl
  where
    all_none : (o : Option Thread) → slice_get s.threads t ≡ o → HaveNoAttempts (event_of c s t o)
    all_none None e = none
    all_none (Some x) e = at_each s.threads t x (moved c x x.phase (found_by s.words (wanted c x x.phase))) (λ u y. y.attempt ≡ None) e
        (moves_none c x (found_by s.words (wanted c x x.phase)) (none t x e) (ap (λ (k : Config). k.elide) (threads.own t x e).settings ∙ never)
        (fits_of x.phase x.frames x.roots (threads.own t x e).rooted.frames (stand.returned t x e))) none
