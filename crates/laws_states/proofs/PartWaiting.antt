-- Where a part of the run begins, nobody waits who did not: the threads of the part waited for it.
use Rattle.std.proofs.Common.{◌≡◌, ℕ, zero, suc, ◌<◌, Bool, true, false, cond, List, [], ◌∷◌, map, Option, Some, refl, sym, subst, IsSome, slice_get}
use Rattle.jvm_types.specs.declared.{fixed_words.TheConstants.MONITOR_RECORDS, outcome.End.End}
use Rattle.checked_program.specs.MarkedProgram.{MarkedProgram}
use Rattle.machine_types.specs.{Core.{part_phase, may_begin_by, may_begin, with_roots, how_ended, part_begins, next_threads}, Parts.{run_roots, done_roots}, Structure.{IsAs, Structure}}
use Rattle.machine_types.specs.{Threads.Thread, Waiting.{is_bit_set, MayWait, Waits, Waiting}, declared.phase.Phase.Phase}
use Rattle.laws_threads.{specs.{PartLaws.{PartFits, PartsFit}, StateLaws.counted_of, StructureLaws.{turned_from, counted_by}}, proofs.PartSteps.one_idle}
use Rattle.laws_states.{specs.WaitingLaws.NextKeepsWaiting, proofs.{CountedPhases.counted_keeps, Lists.{first_each, mapped_each}}}
use Rattle.jvm_types.specs.declared.outcome.End.TheVariants as ends
use Rattle.machine_types.specs.declared.phase.Phase.TheVariants as phases

-- ---- a thread that stays as it is

turned_waits : (words : List ℕ) (u : ℕ) (was : Phase) → Waits words u was → Waits words u (turned_from was)
turned_waits words u (phases.Enter m tried) k = record { only = k.only; must = tt }
turned_waits words u (phases.Take m count) k = record { only = k.only; must = tt }
turned_waits words u was k = k

pub counted_waits : (words : List ℕ) (u : ℕ) (was phase : Phase) → IsAs phase was → Waits words u was → Waits words u (counted_by was phase)
counted_waits words u was phase is k = counted_keeps (Waits words u) was phase is k (turned_waits words u was k)

-- and when a thread's end is told
pub ended_waits : (words : List ℕ) (u : ℕ) (was : Phase) (e : End) → IsAs (phases.Ending e) was → Waits words u was → Waits words u (counted_by was (phases.Ended e))
ended_waits words u was e is k = (elim e as (λ (e : End). IsAs (phases.Ending e) was → Waits words u (counted_by was (phases.Ended e)))
    [ ends.Steps ↦ λ is. k | ends.Prints ↦ λ is. k | ends.Turns ↦ λ is. k | ends.Records ↦ λ is. k | e ↦ λ is. record { only = (subst (Waits words u) is k).only; must = tt } ]) is

-- ---- a thread whose part begins

pub data Rests : Phase → Type 0 where
  is_idle : Rests phases.Idle
  has_returned : Rests (phases.Ended ends.Returned)

rests_none : (was phase : Phase) (r : ℕ) → Rests phase → IsAs phase was → MayWait was r → ⊥
rests_none was _ r is_idle is may = subst (λ (p : Phase). MayWait p r) is may
rests_none was _ r has_returned is may = subst (λ (p : Phase). MayWait p r) is may

begins_none : (words : List ℕ) (u : ℕ) (was phase : Phase) (roots : List ℕ) → Rests phase → IsAs phase was → Waits words u was → Waits words u (counted_by was (part_phase roots))
begins_none words u was phase [] rests is k = record { only = λ r low set. rests_none was phase r rests is (k.only r low set); must = tt }
begins_none words u was phase (number ∷ roots) rests is k = record { only = λ r low set. absurd (rests_none was phase r rests is (k.only r low set)); must = tt }

-- ---- all of them

map_some : {A B : Type 0} (of : A → B) (xs : List A) (i : ℕ) → IsSome (slice_get xs i) → IsSome (slice_get (map of xs) i)
map_some of [] i k = absurd (cc)
map_some of (x ∷ xs) zero k = refl
map_some of (x ∷ xs) (suc i) k = map_some of xs i k

module _ (c : MarkedProgram) (was : ℕ → Phase) (words : List ℕ) (x : Thread) (workers : List Thread) (structure : Structure c was (x ∷ workers)) (each : (u : ℕ) (y : Thread) → slice_get (x ∷ workers) u ≡ Some y → Waits words u (was u)) where
  as_it_was : (u : ℕ) (y z : Thread) → slice_get (x ∷ workers) u ≡ Some y → z.phase ≡ y.phase → Waits words u (counted_by (was u) z.phase)
  as_it_was u y z e same = subst (λ (p : Phase). Waits words u (counted_by (was u) p)) (sym same) (counted_waits words u (was u) y.phase (structure u y e).is_as (each u y e))

  anew : (u : ℕ) (y : Thread) (roots : List ℕ) → slice_get (x ∷ workers) u ≡ Some y → Rests y.phase → Waits words u (counted_by (was u) (part_phase roots))
  anew u y roots e rests = begins_none words u (was u) y.phase roots rests (structure u y e).is_as (each u y e)

  part_waits : (part : ℕ) → PartFits part x.phase workers → may_begin_by part x.phase workers ≡ true → (u : ℕ) (y : Thread) → slice_get (part_begins c.program part x workers) u ≡ Some y → Waits words u (counted_by (was u) y.phase)
  part_waits zero fits may = mapped_each (λ u z. Waits words u (counted_by (was u) z.phase)) (record x { part = 1; first = how_ended x.phase }) (with_roots (run_roots c.program)) workers
      (as_it_was 0 x (record x { part = 1; first = how_ended x.phase }) refl refl)
      (λ u w e. let idle : w.phase ≡ phases.Idle = one_idle workers u w fits e in anew (suc u) w (run_roots c.program) e (subst Rests (sym idle) is_idle))
  part_waits (suc zero) fits may = first_each (λ u z. Waits words u (counted_by (was u) z.phase)) (with_roots (done_roots c.program) (record x { part = 2 })) workers
      (anew 0 x (done_roots c.program) refl (subst Rests (sym fits) has_returned)) (λ u w e. as_it_was (suc u) w w e refl)
  part_waits (suc (suc part)) fits may = absurd (cc)

  still_there : (part u : ℕ) → IsSome (slice_get (x ∷ workers) u) → IsSome (slice_get (part_begins c.program part x workers) u)
  still_there zero (suc u) k = map_some (with_roots (run_roots c.program)) workers u k
  still_there (suc part) (suc u) k = k
  still_there part u k = refl

  all_wait : PartFits x.part x.phase workers → (may : Bool) → may_begin_by x.part x.phase workers ≡ may → (u : ℕ) (y : Thread) → slice_get (cond may (part_begins c.program x.part x workers) (x ∷ workers)) u ≡ Some y
      → Waits words u (cond may (counted_of (was u) (slice_get (cond may (part_begins c.program x.part x workers) (x ∷ workers)) u)) (was u))
  all_wait fits true e u y f = subst (λ (o : Option Thread). Waits words u (counted_of (was u) o)) (sym f) (part_waits x.part fits e u y f)
  all_wait fits false e u y f = each u y f

  all_there : (may : Bool) (u : ℕ) → IsSome (slice_get (x ∷ workers) u) → IsSome (slice_get (cond may (part_begins c.program x.part x workers) (x ∷ workers)) u)
  all_there true u k = still_there x.part u k
  all_there false u k = k

pub next_keeps_waiting : NextKeepsWaiting
next_keeps_waiting c was s fits structure waiting = by_threads s.threads fits structure waiting.each waiting.others
  where
    by_threads : (threads : List Thread) → PartsFit threads → Structure c was threads → ((u : ℕ) (y : Thread) → slice_get threads u ≡ Some y → Waits s.words u (was u))
        → ((r u : ℕ) → r < MONITOR_RECORDS → is_bit_set s.words r u ≡ true → IsSome (slice_get threads u))
        → Waiting (λ u. cond (may_begin threads) (counted_of (was u) (slice_get (next_threads c.program threads) u)) (was u)) (record { words = s.words; threads = next_threads c.program threads })
    by_threads [] fits structure each others = record { each = λ u y e. absurd (cc); others = others }
    by_threads (x ∷ workers) fits structure each others = record {
      each = all_wait c was s.words x workers structure each fits (may_begin_by x.part x.phase workers) refl;
      others = λ r u low set. all_there c was s.words x workers structure each (may_begin_by x.part x.phase workers) u (others r u low set);
    }
