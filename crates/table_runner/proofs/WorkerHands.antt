-- The hands of the workers, that are split off and joined again.
use Rattle.std.proofs.Common.{◌≡◌, ◌≢◌, ℕ, zero, suc, ◌+◌, ◌<◌, ◌≤◌, Bool, true, false, List, [], ◌∷◌, ◌++◌, length, Option, Some, None, refl, sym, subst, ◌∙◌, arith, IsSome, nat_le, slice_index_or}
use Rattle.std.{specs.Option.option_or, proofs.lemmas.Bool.Decides.nat_tests}
use Rattle.atomic_table.specs.Seated.{TableId}
use Rattle.checked_program.specs.MarkedProgram.{MarkedProgram}
use Rattle.machine_types.specs.{Threads.Thread, declared.config.Config.Config}
use Rattle.table_rule.{specs.Views.held_in, proofs.Entries.held_else}
use Rattle.table_runner.{specs.{Handed.{Handed, IsTableOf}, Running.{AreWorkers, IsWorker, RestOf, RunsHere}, Sharing.{AreJoined, thread_alone, without_thread}}, proofs.SharedViews.alone_here}

module _ (table : TableId) (c : MarkedProgram) (cfg : Config) where
  pub rest_at_start : (h : Handed) → RunsHere table c cfg h
      → RestOf table c cfg (0 + 1) (held_in h.threads 0) h
  rest_at_start h r = record { of = r.of; some = r.all 0 (omega arith); first_is = refl; rest = λ u le few. r.all u few }

  pub all_here : (h : Handed) (o : Option Thread) → RestOf table c cfg 1 o h → RunsHere table c cfg h
  all_here h o r = record { of = r.of; all = at }
    where
      at : (t : ℕ) → t ≤ c.program.workers → IsSome (held_in h.threads t)
      at zero le = subst IsSome (sym r.first_is) r.some
      at (suc t) le = r.rest (suc t) (omega arith) le

  pub can_split : (h : Handed) (i : ℕ) (o : Option Thread) → i < c.program.workers
      → RestOf table c cfg (i + 1) o h
      → IsSome (held_in h.threads (i + 1)) × ((u : ℕ) × (u ≢ i + 1) × IsSome (held_in h.threads u))
  can_split h i o lt r = (r.rest (i + 1) (omega arith) (omega (arith, lt)), (0, (λ e. absurd (omega (arith, e))), subst IsSome (sym r.first_is) r.some))

  -- thread 0 is as it was
  pub rest_as : (h : Handed) (n : ℕ) (o p : Option Thread) → o ≡ p → RestOf table c cfg n o h
      → RestOf table c cfg n p h
  rest_as h n o p e r = subst (λ (q : Option Thread). RestOf table c cfg n q h) e r

  pub rest_split : (h : Handed) (i : ℕ) (o : Option Thread) → RestOf table c cfg (i + 1) o h
      → RestOf table c cfg ((i + 1) + 1) o (without_thread h (i + 1))
  rest_split h i o r = record {
    of = r.of;
    some = r.some;
    first_is = held_else h.threads (i + 1) 0 None (λ e. absurd (omega (arith, e))) ∙ r.first_is;
    rest = λ u le few. subst IsSome (sym (held_else h.threads (i + 1) u None (λ e. absurd (omega (arith, e, le))))) (r.rest u (omega (arith, le)) few);
  }

  pub worker_alone : (h : Handed) (t : ℕ) → t < 9 → IsTableOf table c cfg h → IsSome (held_in h.threads t)
      → IsWorker table c cfg t (thread_alone h t)
  worker_alone h t lt of some = record { of = of; held = subst IsSome (sym (alone_here h.threads t lt)) some }

  all_snoc : (ws : List Handed) (w : Handed) (P : ℕ → Handed → Type 0) → ((i : ℕ)
      (d : Handed) → i < length ws → P i (slice_index_or ws i d)) → P (length ws) w → (i : ℕ) (d : Handed)
      → i < length (ws ++ w ∷ []) → P i (slice_index_or (ws ++ w ∷ []) i d)
  all_snoc [] w P f p zero d lt = p
  all_snoc [] w P f p (suc i) d lt = absurd (omega (arith, lt))
  all_snoc (x ∷ xs) w P f p zero d lt = f 0 d (omega arith)
  all_snoc (x ∷ xs) w P f p (suc i) d lt = all_snoc xs w (λ j h. P (suc j) h) (λ j e l. f (suc j) e (omega (arith, l))) p i d (omega (arith, lt))

  pub one_more : (ws : List Handed) (w : Handed) (n : ℕ) → length ws ≡ n → AreWorkers table c cfg ws
      → IsWorker table c cfg (n + 1) w → AreWorkers table c cfg (ws ++ w ∷ [])
  one_more ws w n e are is = all_snoc ws w (λ i h. IsWorker table c cfg (i + 1) h) are (subst (λ m. IsWorker table c cfg (m + 1) w) (sym e) is)

  snoc_front : (ws : List Handed) (w : Handed) (P : ℕ → Handed → Type 0) → ((i : ℕ)
      (d : Handed) → i < length (ws ++ w ∷ []) → P i (slice_index_or (ws ++ w ∷ []) i d))
      → (i : ℕ) (d : Handed) → i < length ws → P i (slice_index_or ws i d)
  snoc_front [] w P f i d lt = absurd (omega (arith, lt))
  snoc_front (x ∷ xs) w P f zero d lt = f 0 d (omega arith)
  snoc_front (x ∷ xs) w P f (suc i) d lt = snoc_front xs w (λ j h. P (suc j) h) (λ j e l. f (suc j) e (omega (arith, l))) i d (omega (arith, lt))

  snoc_last : (ws : List Handed) (w : Handed) (P : ℕ → Handed → Type 0) → ((i : ℕ)
      (d : Handed) → i < length (ws ++ w ∷ []) → P i (slice_index_or (ws ++ w ∷ []) i d)) → P (length ws) w
  snoc_last [] w P f = f 0 w (omega arith)
  snoc_last (x ∷ xs) w P f = snoc_last xs w (λ j h. P (suc j) h) (λ j e l. f (suc j) e (omega (arith, l)))

  pub front_workers : (all ws : List Handed) (w : Handed) → all ≡ ws ++ w ∷ [] → AreWorkers table c cfg all
      → AreWorkers table c cfg ws
  front_workers all ws w e are = snoc_front ws w (λ i h. IsWorker table c cfg (i + 1) h) (subst (AreWorkers table c cfg) e are)

  pub last_worker : (all ws : List Handed) (w : Handed) → all ≡ ws ++ w ∷ [] → AreWorkers table c cfg all
      → IsWorker table c cfg (length ws + 1) w
  last_worker all ws w e are = snoc_last ws w (λ i h. IsWorker table c cfg (i + 1) h) (subst (AreWorkers table c cfg) e are)

  some_first : (o p : Option Thread) → IsSome o → option_or o p ≡ o
  some_first None p e = absurd (let bad : false ≡ true = e in cc)
  some_first (Some x) p e = refl

  some_second : (o p : Option Thread) → IsSome p → IsSome (option_or o p)
  some_second None p e = e
  some_second (Some x) p e = refl

  pub rest_joined : (h w after : Handed) (n m : ℕ) (o : Option Thread) → m ≡ n + 1
      → RestOf table c cfg (m + 1) o h → IsWorker table c cfg (n + 1) w → AreJoined h w after
      → RestOf table c cfg (n + 1) o after
  rest_joined h w after n m o e r k j = record {
    of = subst (IsTableOf table c cfg) (sym j.rest) r.of;
    some = r.some;
    first_is = j.threads 0
        ∙ some_first (held_in h.threads 0) (held_in w.threads 0) (subst IsSome (sym r.first_is) r.some)
        ∙ r.first_is;
    rest = λ u le few. subst IsSome (sym (j.threads u)) (by_place u le few (nat_le (n + 2) u) refl);
  }
    where
      by_place : (u : ℕ) → n + 1 ≤ u → u ≤ c.program.workers → (b : Bool) → nat_le (n + 2) u ≡ b
          → IsSome (option_or (held_in h.threads u) (held_in w.threads u))
      by_place u le few true t =
          let there : IsSome (held_in h.threads u) = r.rest u (grind (arith, nat_tests, t, e)) few in
          subst IsSome (sym (some_first (held_in h.threads u) (held_in w.threads u) there)) there
      by_place u le few false t = let here : n + 1 ≡ u = grind (arith, nat_tests, t, le) in some_second (held_in h.threads u) (held_in w.threads u) (subst (λ v. IsSome (held_in w.threads v)) here k.held)
