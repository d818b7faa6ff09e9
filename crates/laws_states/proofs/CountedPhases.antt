-- The phase that counts, and phases that know nothing of locks.
use Rattle.std.proofs.Common.{◌≡◌, ℕ, Some, None, sym, ap, ◌∙◌, subst, arith}
use Rattle.jvm_types.specs.declared.outcome.End.{End}
use Rattle.machine_types.specs.{Owners.{Locks, Knows, PhaseSaw, drawn_by}, Structure.{IsLimitAt, IsAs, CountsTurns, DrawsToWait}, declared.phase.Phase.Phase}
use Rattle.laws_threads.specs.StructureLaws.{turned_from, counted_by}
use Rattle.jvm_types.specs.declared.outcome.End.TheVariants as ends
use Rattle.machine_types.specs.declared.phase.Phase.TheVariants as phases

-- ---- what holds of the phase that counted before

pub turned_keeps : (P : Phase → Type 0) → ((m : ℕ) → P (phases.Acquire m)) → (was : Phase) → P was → P (turned_from was)
turned_keeps P acquire (phases.Enter m tried) k = acquire m
turned_keeps P acquire (phases.Take m count) k = acquire m
turned_keeps P acquire was k = k

pub counted_keeps : (P : Phase → Type 0) (was phase : Phase) → IsAs phase was → P was → P (turned_from was) → P (counted_by was phase)
counted_keeps P was (phases.Ending e) is k turned = (elim e as (λ (e : End). IsLimitAt e (phases.Ending e) was → P (counted_by was (phases.Ending e)))
    [ ends.Steps ↦ λ is. subst P is k | ends.Prints ↦ λ is. subst P is k | ends.Turns ↦ λ is. turned | ends.Records ↦ λ is. k | e ↦ λ is. subst P is k ]) is
counted_keeps P was (phases.Ended e) is k turned = (elim e as (λ (e : End). IsLimitAt e (phases.Ended e) was → P (counted_by was (phases.Ended e)))
    [ ends.Steps ↦ λ is. k | ends.Prints ↦ λ is. k | ends.Turns ↦ λ is. k | ends.Records ↦ λ is. k | e ↦ λ is. subst P is k ]) is
counted_keeps P was phase is k turned = subst P is k

-- and of the phase that the thread is in
pub counted_either : (P : Phase → Type 0) → P phases.Run → (was phase : Phase) → P was → P (turned_from was) → P phase → P (counted_by was phase)
counted_either P run was (phases.Ending e) old turned new = (elim e as (λ (e : End). P (phases.Ending e) → P (counted_by was (phases.Ending e)))
    [ ends.Steps ↦ λ k. run | ends.Prints ↦ λ k. run | ends.Turns ↦ λ k. turned | ends.Records ↦ λ k. old | e ↦ λ k. k ]) new
counted_either P run was (phases.Ended e) old turned new = (elim e as (λ (e : End). P (phases.Ended e) → P (counted_by was (phases.Ended e)))
    [ ends.Steps ↦ λ k. old | ends.Prints ↦ λ k. old | ends.Turns ↦ λ k. old | ends.Records ↦ λ k. old | e ↦ λ k. k ]) new
counted_either P run was phase old turned new = new

-- ---- records that are drawn

turns_draw_none : (was : Phase) (r : ℕ) → CountsTurns was → drawn_by was ≡ Some r → ⊥
turns_draw_none (phases.Own m k toward) r is e = is
turns_draw_none was r is e = first_of (assumption, cc)

waits_draw_none : (was : Phase) (r : ℕ) → DrawsToWait was → drawn_by was ≡ Some r → ⊥
waits_draw_none (phases.Own m k toward) r is e = is
waits_draw_none was r is e = first_of (assumption, cc)

limit_draws : (e : End) (phase was : Phase) (r : ℕ) → IsLimitAt e phase was → drawn_by was ≡ Some r → drawn_by phase ≡ Some r
limit_draws ends.Turns phase was r is d = absurd (turns_draw_none was r is d)
limit_draws ends.Records phase was r is d = absurd (waits_draw_none was r is d)
limit_draws ends.Steps phase was r is d = let none : drawn_by was ≡ None = ap drawn_by is in absurd (cc)
limit_draws ends.Prints phase was r is d = let none : drawn_by was ≡ None = ap drawn_by is in absurd (cc)
limit_draws e phase was r is d = ap drawn_by (sym is) ∙ d

-- the phase that counts draws what the thread's phase does
pub was_draws : (phase was : Phase) (r : ℕ) → IsAs phase was → drawn_by was ≡ Some r → drawn_by phase ≡ Some r
was_draws (phases.Ending e) was r is d = limit_draws e (phases.Ending e) was r is d
was_draws (phases.Ended e) was r is d = limit_draws e (phases.Ended e) was r is d
was_draws phase was r is d = ap drawn_by (sym is) ∙ d

pub phase_draws : (phase was : Phase) (r : ℕ) → IsAs phase was → drawn_by phase ≡ Some r → drawn_by was ≡ Some r
phase_draws (phases.Ending e) was r is d = absurd (cc)
phase_draws (phases.Ended e) was r is d = absurd (cc)
phase_draws phase was r is d = ap drawn_by is ∙ d

-- and so does the one that counts then
pub counted_draws : (was phase : Phase) (r : ℕ) → drawn_by phase ≡ Some r → drawn_by (counted_by was phase) ≡ Some r
counted_draws was (phases.Ending e) r d = cc
counted_draws was (phases.Ended e) r d = cc
counted_draws was phase r d = d

-- ---- plain phases

abbrev pub IsPlain : Phase → Type 0
IsPlain (phases.Take m count) = ⊥
IsPlain (phases.TakeFat m r) = ⊥
IsPlain (phases.Own m r toward) = ⊥
IsPlain (phases.FatIn m r toward) = ⊥
IsPlain (phases.WaitLook m r depth) = ⊥
IsPlain (phases.Retake m r depth) = ⊥
IsPlain phase = Unit {0}

pub plain_knows : (v : Locks) (t : ℕ) (phase : Phase) → IsPlain phase → Knows v t phase
plain_knows v t (phases.TakeFat m r) is = absurd is
plain_knows v t phase is = first_of (assumption, grind arith)

pub plain_saw : (v : Locks) (count : ℕ → ℕ) (phase : Phase) → IsPlain phase → PhaseSaw v count phase
plain_saw v count (phases.Take m seen) is = absurd is
plain_saw v count phase is = tt

pub plain_draws_none : (phase : Phase) → IsPlain phase → drawn_by phase ≡ None
plain_draws_none (phases.Own m r toward) is = absurd is
plain_draws_none phase is = first_of (cc, grind arith)

-- from a plain phase to one
pub counted_plain : (was phase : Phase) → IsPlain was → IsPlain phase → IsPlain (counted_by was phase)
counted_plain was phase old new = counted_either IsPlain tt was phase old (turned_keeps IsPlain (λ m. tt) was old) new
