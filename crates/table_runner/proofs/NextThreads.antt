-- What a part begins with.
use Rattle.std.proofs.Common.{◌≡◌, ℕ, zero, suc, ◌<◌, Bool, true, false, List, [], ◌∷◌, length, drop, take, ◌-◌, ◌≤◌, map, option_map, Option, Some, None, refl, sym, ap, subst, ◌∙◌, arith, slice_get, slice_index_or, ◌&&◌}
use Rattle.std.specs.List.{list_all}
use Rattle.jvm_types.specs.declared.program.Program.{Program}
use Rattle.machine_types.specs.{Core.{may_begin, next_threads}, Threads.Thread}
use Rattle.run_parts.specs.Parts.{AreNumbered, SharesAreNext, shares_begun, have_finished, own_begun}
use Rattle.table_rule.specs.Views.{View, held_in, HasThreads}
use Rattle.table_runner.specs.Parts.{IsPartBegun, BegunBy, thread_finished}

-- ---- what the shares make of them

got_map : (ts : List Thread) (t : ℕ) → slice_get (map own_begun ts) t ≡ option_map own_begun (slice_get ts t)
got_map [] t = refl
got_map (x ∷ xs) zero = refl
got_map (x ∷ xs) (suc t) = got_map xs t

module _ (v w : View) where
  by_part : (x : Thread) (workers : List Thread) (n : ℕ) → HasThreads v (x ∷ workers) → BegunBy n v w
      → HasThreads w (shares_begun n x workers)
  by_part x workers zero h b t = b t ∙ ap (option_map own_begun) (h t) ∙ sym (got_map (x ∷ workers) t)
  by_part x workers (suc n) h b zero = b.first ∙ ap (option_map own_begun) (h 0)
  by_part x workers (suc n) h b (suc t) = b.others t ∙ h (suc t)

  -- the threads of the next part
  pub next_holds : SharesAreNext → (p : Program) (ts : List Thread) → HasThreads v ts → may_begin ts ≡ true
      → IsPartBegun (held_in v 0) v w → AreNumbered p ts → HasThreads w (next_threads p ts)
  next_holds shares p [] h may b each = cc
  next_holds shares p (x ∷ workers) h may b each =
      subst (HasThreads w) (shares p x workers each may) (by_part x workers x.part h (subst (λ o. IsPartBegun o v w) (h 0) b))

-- ---- whether it may begin

none_hold_up : (v : View) → HasThreads v [] → list_all thread_finished v ≡ true
none_hold_up [] h = refl
none_hold_up (o ∷ v) h = let e : o ≡ None = h 0 in rw e (none_hold_up v (λ t. h (suc t)))

pub all_finished : (v : View) (ts : List Thread) → HasThreads v ts → list_all thread_finished v ≡ have_finished ts
all_finished v [] h = none_hold_up v h
all_finished [] (x ∷ ts) h = let bad : None ≡ Some x = h 0 in absurd (cc)
all_finished (o ∷ v) (x ∷ ts) h = let e : o ≡ Some x = h 0 in ap (λ p. thread_finished p && list_all thread_finished v) e
    ∙ ap (λ b. thread_finished (Some x) && b) (all_finished v ts (λ t. h (suc t)))

pub none_begins : (v : View) (ts : List Thread) → length v < 1 → HasThreads v ts → false ≡ may_begin ts
none_begins v [] lt h = refl
none_begins [] (x ∷ ts) lt h = let bad : None ≡ Some x = h 0 in absurd (cc)
none_begins (o ∷ v) (x ∷ ts) lt h = absurd (omega (arith, lt))

take_length : (v : View) → take (length v) v ≡ v
take_length [] = refl
take_length (o ∷ v) = ap (λ w. o ∷ w) (take_length v)

pub some_begins : (v : View) (ts : List Thread) (b : Bool) (first : Option Thread) → HasThreads v ts
    → first ≡ slice_index_or v 0 first → ((x : Thread)
    (us : List Thread) → first ≡ Some x → HasThreads (take (length v - 1) (drop 1 v)) us → b ≡ may_begin (x ∷ us))
    → (first ≡ None → b ≡ false) → 1 ≤ length v → b ≡ may_begin ts
some_begins [] ts b first h is f g le = absurd (omega (arith, le))
some_begins (o ∷ v) [] b first h is f g le = g (is ∙ h 0)
some_begins (o ∷ v) (x ∷ us) b first h is f g le =
    let n : suc (length v) - 1 ≡ length v = omega arith in
    let whole : take (suc (length v) - 1) v ≡ v = ap (λ m. take m v) n ∙ take_length v in
    f x us (is ∙ h 0) (subst (λ (w : View). HasThreads w us) (sym whole) (λ t. h (suc t)))
