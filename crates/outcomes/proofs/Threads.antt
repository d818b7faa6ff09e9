-- Ends of threads, one by one.
use Rattle.std.proofs.Common.{◌≡◌, ◌<◌, ◌≤◌, ◌⊎◌, inl, inr, ℕ, length, ap, ◌∙◌, sym, arith, slice_get, get_or, None, Some}
use Rattle.std.proofs.lemmas.Option.{slice_get_cases, slice_get_past}
use Rattle.machine_types.specs.PlainState.{Plain, PlainThread}
use Rattle.machine_types.specs.PlainSteps.{end_at, first_end}

-- those of all threads, by those that there are
pub ends_of_all : (q z : Plain) (many : ℕ) → many ≡ length q.threads → many ≡ length z.threads → ((u : ℕ) → u < many → first_end q u ≡ first_end z u) → (t : ℕ) → first_end q t ≡ first_end z t
ends_of_all q z many one other each t = by (slice_get_cases q.threads t).1
  where
    by : ((x : PlainThread) × (t < length q.threads) × (slice_get q.threads t ≡ Some x) × (get_or q.threads t x ≡ x)) ⊎ ((length q.threads ≤ t) × (slice_get q.threads t ≡ None)) → first_end q t ≡ first_end z t
    by (inl got) = let l = got.1 in each t (omega (arith, l))
    by (inr past) =
        let l = past.0 in
        ap (end_at 0) (past.1 ∙ sym (slice_get_past z.threads t (omega (arith, l))))
