-- Prints whose tickets are their places among all: in order of the tickets they are the printed numbers, in order.
use Rattle.std.proofs.Common.{◌≡◌, ℕ, ℤ, ◌+◌, ◌<◌, ◌≤◌, zero, suc, Bool, true, false, cond, leb, nat_le, List, [], ◌∷◌, ◌++◌, length, get_or, Some, inl, inr, refl, ap, ◌∙◌, arith, length-append, slice_get}
use Rattle.std.{specs.{Fmt.signed_decimal, List.{AllByRecursion, Contains, flat_map, sum_by}}, proofs.lemmas.{Bool.Decides.nat_tests, List.Concat.length-flat_map}}
use Rattle.std.proofs.lemmas.List.Elements.{Contains-append_left, Contains-append_right, Contains-append_cases}
use Rattle.jvm_types.specs.declared.outcome.{Print.Print, ThreadReport.ThreadReport}
use Rattle.run_texts.specs.Report.{put, by_ticket, line, print_line, print_lines}

-- the numbers as prints, the first of which has this ticket
abbrev placed : ℕ → List ℤ → List Print
placed ticket [] = []
placed ticket (value ∷ values) = record { ticket = ticket; value = value } ∷ placed (ticket + 1) values

-- each of the numbers is there with its place as its ticket, from a ticket on
abbrev ArePlaced : ℕ → List ℤ → List Print → Type 0
ArePlaced ticket values ps = (i : ℕ) (value : ℤ) → slice_get values i ≡ Some value → Contains ps (record { ticket = ticket + i; value = value })

abbrev From : ℕ → List Print → Type 0
From ticket ps = AllByRecursion (λ (p : Print). ticket ≤ p.ticket) ps

-- ---- the print of the least ticket comes first

from_put : (t : ℕ) (p : Print) (qs : List Print) → From t (put p qs) → (t ≤ p.ticket) × From t qs
from_put t p [] from = (from.0, tt)
from_put t p (q ∷ qs) from = at (nat_le p.ticket q.ticket) (from_put t p qs) from
  where
    at : (b : Bool) → (From t (put p qs) → (t ≤ p.ticket) × From t qs) → From t (cond b (p ∷ q ∷ qs) (q ∷ put p qs)) → (t ≤ p.ticket) × From t (q ∷ qs)
    at true later from = (from.0, from.1)
    at false later from = let rest = later from.1 in (rest.0, (from.0, rest.1))

placed_from : (s t : ℕ) (values : List ℤ) → s ≤ t → From s (placed t values)
placed_from s t [] low = tt
placed_from s t (value ∷ values) low = (low, placed_from s (t + 1) values (omega (arith, low)))

put_first : (p : Print) (qs : List Print) → From (p.ticket + 1) qs → put p qs ≡ p ∷ qs
put_first p [] from = refl
put_first p (q ∷ qs) from =
    let low : leb p.ticket q.ticket ≡ true = before p.ticket q.ticket from.0 in
    rw low refl
  where
    before : (a b : ℕ) → a + 1 ≤ b → leb a b ≡ true
    before a b low = grind (arith, nat_tests)

first_of_all : (p : Print) (front back : List Print) → From (p.ticket + 1) (by_ticket (front ++ back)) → by_ticket (front ++ p ∷ back) ≡ p ∷ by_ticket (front ++ back)
first_of_all p [] back from = put_first p (by_ticket back) from
first_of_all p (q ∷ front) back from =
    let rest = from_put (p.ticket + 1) q (by_ticket (front ++ back)) from in
    let high : leb q.ticket p.ticket ≡ false = behind p.ticket q.ticket rest.0 in
    ap (put q) (first_of_all p front back rest.1) ∙ rw high refl
  where
    behind : (a b : ℕ) → a + 1 ≤ b → leb b a ≡ false
    behind a b low = grind (arith, nat_tests)

-- ---- one print taken out

-- the prints before it, and those behind it
record Parted (ps : List Print) (p : Print) : Type 0 where
  front : List Print
  back : List Print
  is : ps ≡ front ++ p ∷ back

parted : (ps : List Print) (p : Print) → Contains ps p → Parted ps p
parted ps p at = by_place ps at.0 at.1 at.2
  where
    by_place : (qs : List Print) (k : ℕ) → k < length qs → get_or qs k p ≡ p → Parted qs p
    by_place [] k below is = absurd (omega (arith, below))
    by_place (q ∷ qs) zero below is = record { front = []; back = qs; is = ap (λ (x : Print). x ∷ qs) is }
    by_place (q ∷ qs) (suc k) below is =
        let later = by_place qs k (omega (arith, below)) is in
        record { front = q ∷ later.front; back = later.back; is = ap (λ (xs : List Print). q ∷ xs) later.is }

contains_cons : (p q : Print) (qs : List Print) → (p.ticket ≡ q.ticket → ⊥) → Contains (p ∷ qs) q → Contains qs q
contains_cons p q qs apart (zero, below, is) = absurd (apart (ap (λ (x : Print). x.ticket) is))
contains_cons p q qs apart (suc k, below, is) = (k, omega (arith, below), is)

-- another print is among those that are left
left_of : (front back : List Print) (p q : Print) → (p.ticket ≡ q.ticket → ⊥) → Contains (front ++ p ∷ back) q → Contains (front ++ back) q
left_of front back p q apart at = elim (Contains-append_cases front (p ∷ back) q at) [
  | inl before ↦ Contains-append_left front back q before
  | inr behind ↦ Contains-append_right front back q (contains_cons p q back apart behind)
]

left_placed : (ticket : ℕ) (value : ℤ) (values : List ℤ) (front back : List Print) → ArePlaced ticket (value ∷ values) (front ++ record { ticket = ticket; value = value } ∷ back) → ArePlaced (ticket + 1) values (front ++ back)
left_placed ticket value values front back are i w is =
    let apart : ticket ≡ ticket + suc i → ⊥ = λ e. omega (arith, e) in
    let next : ticket + suc i ≡ (ticket + 1) + i = omega arith in
    rw (← next) (left_of front back (record { ticket = ticket; value = value }) (record { ticket = ticket + suc i; value = w }) apart (are (suc i) w is))

-- ---- the whole

in_order : (ticket : ℕ) (values : List ℤ) (ps : List Print) → length ps ≡ length values → ArePlaced ticket values ps → by_ticket ps ≡ placed ticket values
in_order ticket [] [] many are = refl
in_order ticket [] (p ∷ ps) many are = absurd (omega (arith, many))
in_order ticket (value ∷ values) ps many are =
    let p : Print = record { ticket = ticket; value = value } in
    let same : ticket + 0 ≡ ticket = omega arith in
    let found : Contains ps p = rw same at (are 0 value refl) in
    let part = parted ps p found in
    let fewer : length (part.front ++ part.back) ≡ length values = omega (arith, ap length part.is, length-append part.front (p ∷ part.back), length-append part.front part.back, many) in
    let rest = in_order (ticket + 1) values (part.front ++ part.back) fewer (left_placed ticket value values part.front part.back (rw part.is at are)) in
    let from : From (ticket + 1) (by_ticket (part.front ++ part.back)) = rw rest (placed_from (ticket + 1) (ticket + 1) values (omega arith)) in
    ap by_ticket part.is ∙ first_of_all p part.front part.back from ∙ ap (λ (qs : List Print). p ∷ qs) rest

-- ---- the lines

lines_placed : (ticket : ℕ) (values : List ℤ) → flat_map print_line (placed ticket values) ≡ flat_map (λ value. line (signed_decimal value)) values
lines_placed ticket [] = refl
lines_placed ticket (value ∷ values) = ap (λ (rest : List ℕ). line (signed_decimal value) ++ rest) (lines_placed (ticket + 1) values)

-- a print of one of the threads is among the prints of all
among_all : (threads : List ThreadReport) (t : ℕ) (r : ThreadReport) (p : Print) → slice_get threads t ≡ Some r → Contains r.prints p → Contains (flat_map (λ (x : ThreadReport). x.prints) threads) p
among_all [] t r p is at = absurd cc
among_all (x ∷ threads) zero r p is at =
    let same : x ≡ r = cc in
    Contains-append_left x.prints (flat_map (λ (y : ThreadReport). y.prints) threads) p (rw same at)
among_all (x ∷ threads) (suc t) r p is at = Contains-append_right x.prints (flat_map (λ (y : ThreadReport). y.prints) threads) p (among_all threads t r p is at)

-- the ticket of a print, in the report of some thread, is its place among these numbers, and there are no more prints
pub lines_in_order : (threads : List ThreadReport) (values : List ℤ)
    → ((i : ℕ) (value : ℤ) → slice_get values i ≡ Some value → (t : ℕ) × (r : ThreadReport) × (slice_get threads t ≡ Some r) × Contains r.prints (record { ticket = i; value = value }))
    → sum_by (λ (r : ThreadReport). length r.prints) threads ≡ length values
    → print_lines threads ≡ flat_map (λ value. line (signed_decimal value)) values
lines_in_order threads values each many =
    let all : List Print = flat_map (λ (r : ThreadReport). r.prints) threads in
    let are : ArePlaced 0 values all = λ i value is. (
    let at = each i value is in
    let same : 0 + i ≡ i = omega arith in
    rw same (among_all threads at.0 at.1 (record { ticket = i; value = value }) at.2 at.3)) in
    ap (flat_map print_line) (in_order 0 values all (length-flat_map (λ (r : ThreadReport). r.prints) threads ∙ many) are) ∙ lines_placed 0 values
