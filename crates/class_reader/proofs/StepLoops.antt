-- Reading in a loop: one more item, and the exit by a fault.
use Rattle.std.proofs.{Common.{◌≡◌, ℕ, ◌+◌, ◌-◌, ◌<◌, Bool, true, false, List, [], ◌∷◌, ◌++◌, ◌≤◌, length, get_or, drop, Some, Result, Ok, refl, subst, slice_get, ◌==◌}, lemmas.Option.slice_get_read}
use Rattle.jvm_types.specs.{ClassGrammar.is_wide, ReadingPool.{entries_at, entry_wanted, entries_wanted}, ReadingSteps.{Fault, many_at}, declared.class_file.Constant.{Constant, TheVariants.Gap}}
use Rattle.jvm_types.proofs.LoopLaws.{with_front, many_stops, entries_gap, entries_more, entries_stop, checks_stop}
use Rattle.class_reader.specs.{Giving.{Fails, entry_at}, declared.items.Stop.Stop}
use Rattle.class_reader.specs.declared.items.Stop.TheVariants as stops

pub many_fails : {A : Type 0} (e : Stop) (item_at : List ℕ → Result (A × List ℕ) Fault) (front : List A) (count i : ℕ) (bytes : List ℕ) (total : Result (List A × List ℕ) Fault) → i < count → Fails e (item_at bytes)
    → with_front front (many_at item_at (count - i) bytes) ≡ total → Fails e total
many_fails stops.Memory item_at front count i bytes total lt h so_far = tt
many_fails (stops.At rule left) item_at front count i bytes total lt h so_far = many_stops item_at front count i bytes (record { rule = rule; left = left }) total lt h so_far

-- ---- the indices of the pool

ok_is : (x y : Constant × List ℕ) (r : Result (Constant × List ℕ) Fault) → r ≡ Ok x → r ≡ Ok y → x ≡ y
ok_is x y r e h = cc

pub entries_step : (front : List Constant) (count i : ℕ) (due : Bool) (bytes : List ℕ) (first : Constant) (after : List ℕ) (total : Result (List Constant × List ℕ) Fault) → i < count → entry_at due bytes ≡ Ok (first, after)
    → with_front front (entries_at (count - i) due bytes) ≡ total → with_front (front ++ first ∷ []) (entries_at (count - (i + 1)) (is_wide first) after) ≡ total
entries_step front count i true bytes first after total lt h so_far =
    subst (λ (x : Constant × List ℕ). with_front (front ++ x.0 ∷ []) (entries_at (count - (i + 1)) (is_wide x.0) x.1) ≡ total) (ok_is (Gap, bytes) (first, after) (Ok (Gap, bytes)) refl h) (entries_gap front count i bytes total lt so_far)
entries_step front count i false bytes first after total lt h so_far = entries_more front count i bytes first after total lt h so_far

pub entries_fail : (e : Stop) (front : List Constant) (count i : ℕ) (due : Bool) (bytes : List ℕ) (total : Result (List Constant × List ℕ) Fault) → i < count → Fails e (entry_at due bytes)
    → with_front front (entries_at (count - i) due bytes) ≡ total → Fails e total
entries_fail stops.Memory front count i due bytes total lt h so_far = tt
entries_fail (stops.At rule left) front count i true bytes total lt h so_far = absurd cc
entries_fail (stops.At rule left) front count i false bytes total lt h so_far = entries_stop front count i bytes (record { rule = rule; left = left }) total lt h so_far

pub checks_fail : (e : Stop) (pool : List Constant) (i left : ℕ) (c : Constant) (total : Result (Unit {0}) Fault) → slice_get pool i ≡ Some c → i < length pool → Fails e (entry_wanted pool c (i + 1 == length pool) left)
    → entries_wanted pool (drop i pool) left ≡ total → Fails e total
checks_fail stops.Memory pool i left c total at lt h so_far = tt
checks_fail (stops.At rule from) pool i left c total at lt h so_far = checks_stop pool i left c (record { rule = rule; left = from }) total at lt h so_far

-- the entry that a loop over the pool is at
pub at_index : (items pool : List Constant) (i : ℕ) (c : Constant) → items ≡ pool → i < length items → c ≡ get_or items i c → slice_get pool i ≡ Some c
at_index items pool i c e lt is = subst (λ (xs : List Constant). slice_get xs i ≡ Some c) e (slice_get_read items (length items) i c refl lt is)

pub within : (items pool : List Constant) (i : ℕ) → items ≡ pool → i < length items → i < length pool
within items pool i e lt = rw (← e) lt

pub passed : (items pool : List Constant) (i : ℕ) → items ≡ pool → length items ≤ i → length pool ≤ i
passed items pool i e le = rw (← e) le
