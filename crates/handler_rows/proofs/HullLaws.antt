-- Bounds on rows.
use Rattle.std.proofs.Common.{◌≡◌, ℕ, zero, suc, ◌<◌, ◌≤◌, Bool, false, List, [], ◌∷◌, length, take, drop, Some, refl, ap, ◌∙◌, ◌+◌, add-one, subst, arith, if◌then◌else◌, slice_get, slice_index_or}
use Rattle.std.{specs.List.AllByRecursion, proofs.lemmas.Bool.Decides.nat_tests}
use Rattle.jvm_types.specs.declared.program.Row.{Row}
use Rattle.handler_rows.specs.{HandlerRows.{is_picked, picked, AreRowsPassed}, Hulls.{IsWithin, IsWider, IsHull, AreHulls, may_have}, declared.hull.Hull.Hull}

-- ---- one hull

all_wider : (h wider : Hull) → IsWider h wider → (rows : List Row) → AllByRecursion (IsWithin h) rows → AllByRecursion (IsWithin wider) rows
all_wider h wider w [] a = tt
all_wider h wider w (row ∷ rows) a =
    (record { first = omega (arith, w.first, a.0.first); last = omega (arith, w.last, a.0.last); end = omega (arith, w.end, a.0.end) }, all_wider h wider w rows a.1)

all_more : (h : Hull) (rows : List Row) (i : ℕ) (d : Row) → i < length rows → IsWithin h (slice_index_or rows i d) → AllByRecursion (IsWithin h) (take i rows) → AllByRecursion (IsWithin h) (take (suc i) rows)
all_more h [] i d inside w a = absurd (omega (arith, inside))
all_more h (x ∷ xs) zero d inside w a = (w, tt)
all_more h (x ∷ xs) (suc i) d inside w a = (a.0, all_more h xs i d (omega (arith, inside)) w a.1)

pub one_more : (h wider : Hull) (rows : List Row) (i : ℕ) (d : Row) → i < length rows → IsWider h wider → IsWithin wider (slice_index_or rows i d) → AllByRecursion (IsWithin h) (take i rows)
    → AllByRecursion (IsWithin wider) (take (i + 1) rows)
one_more h wider rows i d inside w within a = rw add-one (all_more wider rows i d inside within (all_wider h wider w (take i rows) a))

-- ---- a hull for each row

pub hulls_length : (rows : List Row) (hulls : List Hull) → AreHulls rows hulls → length hulls ≡ length rows
hulls_length [] [] a = refl
hulls_length [] (h ∷ hulls) a = absurd a
hulls_length (row ∷ rows) [] a = absurd a
hulls_length (row ∷ rows) (h ∷ hulls) a = ap suc (hulls_length rows hulls a.1)

pub hull_there : (rows : List Row) (hulls : List Hull) (k : ℕ) (h : Hull) → AreHulls rows hulls → slice_get hulls k ≡ Some h → IsHull (drop k rows) h
hull_there [] [] k h a e = absurd (cc)
hull_there [] (x ∷ xs) k h a e = absurd a
hull_there (row ∷ rows) [] k h a e = absurd a
hull_there (row ∷ rows) (x ∷ xs) zero h a e = let same : x ≡ h = cc in subst (IsHull (row ∷ rows)) same a.0
hull_there (row ∷ rows) (x ∷ xs) (suc k) h a e = hull_there rows xs k h a.1 e

pub hull_before : (rows : List Row) (k : ℕ) (h : Hull) (later : List Hull) → k < length rows → IsHull (drop k rows) h → AreHulls (drop (k + 1) rows) later → AreHulls (drop k rows) (h ∷ later)
hull_before rows k h later inside one more = before rows k inside one (rw (← add-one) more)
  where
    before : (rows : List Row) (k : ℕ) → k < length rows → IsHull (drop k rows) h → AreHulls (drop (suc k) rows) later → AreHulls (drop k rows) (h ∷ later)
    before [] k inside one more = absurd (omega (arith, inside))
    before (row ∷ rows) zero inside one more = (one, more)
    before (row ∷ rows) (suc k) inside one more = before rows k (omega (arith, inside)) one more

-- ---- what a hull leaves out

not_had : (h : Hull) (pc from : ℕ) (row : Row) → may_have h pc from ≡ false → IsWithin h row → is_picked pc from row ≡ false
not_had h pc from row e w = grind (arith, nat_tests, e, w.first, w.last, w.end)

none_had : (h : Hull) (pc from : ℕ) → may_have h pc from ≡ false → (rows : List Row) → AllByRecursion (IsWithin h) rows → AllByRecursion (λ row. is_picked pc from row ≡ false) rows
none_had h pc from e [] a = tt
none_had h pc from e (row ∷ rows) a = (not_had h pc from row e a.0, none_had h pc from e rows a.1)

skipped : (pc from : ℕ) (rows : List Row) (n : ℕ) → AllByRecursion (λ row. is_picked pc from row ≡ false) (take n rows) → picked pc from rows ≡ picked pc from (drop n rows)
skipped pc from rows zero a = refl
skipped pc from [] (suc n) a = refl
skipped pc from (row ∷ rows) (suc n) a = ap (λ (t : Bool). if t then row ∷ picked pc from rows else picked pc from rows) a.0 ∙ skipped pc from rows n a.1

passes : (pc from : ℕ) (rows : List Row) (n : ℕ) → 0 < n → n ≤ length rows → AllByRecursion (λ row. is_picked pc from row ≡ false) (take n rows) → AreRowsPassed pc from rows n
passes pc from rows zero some few a = absurd (omega (arith, some))
passes pc from rows (suc n) some few a = (few, skipped pc from rows (suc n) a)

pub hull_passed : (h : Hull) (pc from : ℕ) (rows : List Row) → IsHull rows h → may_have h pc from ≡ false → AreRowsPassed pc from rows h.count
hull_passed h pc from rows is e = passes pc from rows h.count is.some is.few (none_had h pc from e (take h.count rows) is.all)

-- ---- one row

pub row_passed : (pc from : ℕ) (rows : List Row) (row : Row) → slice_get rows 0 ≡ Some row → is_picked pc from row ≡ false → AreRowsPassed pc from rows 1
row_passed pc from [] row e n = absurd (cc)
row_passed pc from (x ∷ xs) row e n =
    let same : row ≡ x = cc in
    (omega arith, skipped pc from (x ∷ xs) 1 (subst (λ (r : Row). is_picked pc from r ≡ false) same n, tt))
