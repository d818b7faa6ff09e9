-- Rows that are picked.
use Rattle.std.proofs.Common.{◌≡◌, ℕ, zero, suc, ◌+◌, ◌<◌, length, Bool, true, false, List, [], ◌∷◌, drop, Option, Some, None, refl, sym, ap, ◌∙◌, add-one, subst, arith, ◌&&◌, ◌||◌, nat_le, if◌then◌else◌, slice_index_or}
use Rattle.std.{specs.{List.{list_any, filter}, Option.{is_some, IfSome, IfNone}}, proofs.lemmas.{Bool.Decides.nat_tests, List.drop_all}}
use Rattle.jvm_types.specs.{Verifying.covers, declared.program.Row.Row}
use Rattle.handler_rows.specs.HandlerRows.{is_picked, picked, IsNextPicked, AreRowsPassed}

-- from 0 on every row that covers is picked
from_start : (pc : ℕ) (row : Row) → is_picked pc 0 row ≡ covers pc row
from_start pc row = both (covers pc row) (nat_le 0 row.start) (grind (arith, nat_tests))
  where
    both : (a b : Bool) → b ≡ true → (a && b) ≡ a
    both true b e = e
    both false b e = refl

pub all_picked : (pc : ℕ) (rows : List Row) → picked pc 0 rows ≡ filter (covers pc) rows
all_picked pc [] = refl
all_picked pc (row ∷ rows) = ap (λ (t : Bool). if t then row ∷ picked pc 0 rows else picked pc 0 rows) (from_start pc row) ∙ ap (λ (more : List Row). if covers pc row then row ∷ more else more) (all_picked pc rows)

-- ---- whether some row covers

none_covers : (pc : ℕ) (rows : List Row) → filter (covers pc) rows ≡ [] → list_any (covers pc) rows ≡ false
none_covers pc [] e = refl
none_covers pc (row ∷ rows) e = by_test (covers pc row) e (none_covers pc rows)
  where
    by_test : (t : Bool) → (if t then row ∷ filter (covers pc) rows else filter (covers pc) rows) ≡ [] → (filter (covers pc) rows ≡ [] → list_any (covers pc) rows ≡ false) → (t || list_any (covers pc) rows) ≡ false
    by_test true e more = absurd (cc)
    by_test false e more = more e

-- where none covers, none is left
pub uncovered : (pc : ℕ) (rows : List Row) → list_any (covers pc) rows ≡ false → filter (covers pc) rows ≡ []
uncovered pc [] e = refl
uncovered pc (row ∷ rows) e = by_test (covers pc row) e (uncovered pc rows)
  where
    by_test : (t : Bool) → (t || list_any (covers pc) rows) ≡ false → (list_any (covers pc) rows ≡ false → filter (covers pc) rows ≡ []) → (if t then row ∷ filter (covers pc) rows else filter (covers pc) rows) ≡ []
    by_test true e more = absurd (cc)
    by_test false e more = more e

some_covers : (pc : ℕ) (rows : List Row) (row : Row) (others : List Row) → filter (covers pc) rows ≡ row ∷ others → list_any (covers pc) rows ≡ true
some_covers pc [] row others e = absurd (cc)
some_covers pc (x ∷ rows) row others e = by_test (covers pc x) e (some_covers pc rows row others)
  where
    by_test : (t : Bool) → (if t then x ∷ filter (covers pc) rows else filter (covers pc) rows) ≡ row ∷ others → (filter (covers pc) rows ≡ row ∷ others → list_any (covers pc) rows ≡ true) → (t || list_any (covers pc) rows) ≡ true
    by_test true e more = refl
    by_test false e more = more e

-- what a search from 0 on finds tells whether some row covers
pub found_covers : {A : Type 0} (pc : ℕ) (rows : List Row) (found : Option A) (behind : A → ℕ) (row : A → Row) → IfNone found (picked pc 0 rows ≡ []) → IfSome found (λ x. IsNextPicked pc 0 rows 0 (behind x) (row x))
    → is_some found ≡ list_any (covers pc) rows
found_covers pc rows None behind row n s = sym (none_covers pc rows (sym (all_picked pc rows) ∙ n))
found_covers pc rows (Some x) behind row n s = sym (some_covers pc rows (row x) (picked pc 0 (drop (behind x) rows)) (sym (all_picked pc rows) ∙ s.1))

-- ---- the search

drop_drop : (k n : ℕ) (rows : List Row) → drop n (drop k rows) ≡ drop (n + k) rows
drop_drop zero n rows = ap (λ (m : ℕ). drop m rows) (omega arith)
drop_drop (suc k) n [] = drop_all n [] (omega arith) ∙ sym (drop_all (n + suc k) [] (omega arith))
drop_drop (suc k) n (row ∷ rows) =
    let later : suc (n + k) ≡ n + suc k = omega arith in
    subst (λ (m : ℕ). drop n (drop k rows) ≡ drop m (row ∷ rows)) later (drop_drop k n rows)

found_here : (pc from : ℕ) (rows : List Row) (k : ℕ) (d : Row) → k < length rows → AreRowsPassed pc from (drop k rows) 0 → picked pc from (drop k rows) ≡ slice_index_or rows k d ∷ picked pc from (drop (suc k) rows)
found_here pc from [] k d inside p = absurd (omega (arith, inside))
found_here pc from (row ∷ rows) zero d inside p = ap (λ (t : Bool). if t then row ∷ picked pc from rows else picked pc from rows) p
found_here pc from (row ∷ rows) (suc k) d inside p = found_here pc from rows k d (omega (arith, inside)) p

-- where the row of a number is picked, and none before it is
pub found : (pc from : ℕ) (rows : List Row) (first k : ℕ) (d : Row) → k < length rows → picked pc from (drop k rows) ≡ picked pc from (drop first rows) → AreRowsPassed pc from (drop k rows) 0
    → IsNextPicked pc from rows first (k + 1) (slice_index_or rows k d)
found pc from rows first k d inside e p = (omega (arith, inside), sym e ∙ rw add-one (found_here pc from rows k d inside p))

-- some rows on
pub passed_on : (pc from : ℕ) (rows : List Row) (k n : ℕ) → AreRowsPassed pc from (drop k rows) n → picked pc from (drop (k + n) rows) ≡ picked pc from (drop k rows)
passed_on pc from rows k zero p = ap (λ (m : ℕ). picked pc from (drop m rows)) (omega arith)
passed_on pc from rows k (suc n) p = ap (λ (m : ℕ). picked pc from (drop m rows)) (omega arith) ∙ sym (ap (λ (xs : List Row). picked pc from xs) (drop_drop k (suc n) rows)) ∙ sym p.1
