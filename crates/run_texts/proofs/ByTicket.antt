-- A stable sort by the ticket answers `by_ticket`: two lists in order, which have the same prints of each ticket
-- in the same order, are one.
use Rattle.std.proofs.Common.{◌≡◌, ℕ, ◌+◌, ◌<◌, ◌≤◌, suc, Bool, true, false, cond, eqb, leb, nat_le, List, [], ◌∷◌, length, get_or, pos, not, ◌&&◌, subst, refl, ap, sym, ◌∙◌, arith}
use Rattle.std.{specs.{List.{filter, AllByRecursion, Sorted.{IsNonDecreasingBy, IsSortedByKey, IsStableByKey, ties}}, Ordering.{nat_cmp, is_lt}}, proofs.lemmas.Bool.Decides.nat_tests}
use Rattle.std.proofs.lemmas.List.Sorted.{IsNonDecreasingBy-from_sort}
use Rattle.jvm_types.specs.declared.outcome.Print.{Print}
use Rattle.run_texts.specs.Report.{put, by_ticket}

-- a print has this ticket
abbrev has : ℕ → Print → Bool
has t p = eqb p.ticket t

-- each ticket is at most those after it
abbrev Rises : List Print → Type 0
Rises [] = Unit {0}
Rises (p ∷ ps) = AllByRecursion (λ (q : Print). p.ticket ≤ q.ticket) ps × Rises ps

low_of : (a b : ℕ) → leb a b ≡ true → a ≤ b
low_of a b e = grind (arith, nat_tests)

high_of : (a b : ℕ) → leb a b ≡ false → b < a
high_of a b e = grind (arith, nat_tests)

apart : (a b t : ℕ) → leb a b ≡ false → eqb a t ≡ true → eqb b t ≡ true → ⊥
apart a b t e x y = grind (arith, nat_tests)

has_own : (t : ℕ) → eqb t t ≡ true
has_own t = grind (arith, nat_tests)

has_no : (s t : ℕ) → t + 1 ≤ s → eqb s t ≡ false
has_no s t low = grind (arith, nat_tests)

-- ---- insertion keeps order, and the prints of each ticket

all_put : (t : ℕ) (p : Print) (qs : List Print) → t ≤ p.ticket → AllByRecursion (λ (q : Print). t ≤ q.ticket) qs → AllByRecursion (λ (q : Print). t ≤ q.ticket) (put p qs)
all_put t p [] low all = (low, tt)
all_put t p (q ∷ qs) low all =
    elim (nat_le p.ticket q.ticket) as (λ (b : Bool). AllByRecursion (λ (r : Print). t ≤ r.ticket) (cond b (p ∷ q ∷ qs) (q ∷ put p qs)))
    [ true ↦ (low, all) | false ↦ (all.0, all_put t p qs low all.1) ]

all_lower : (s t : ℕ) (qs : List Print) → s ≤ t → AllByRecursion (λ (q : Print). t ≤ q.ticket) qs → AllByRecursion (λ (q : Print). s ≤ q.ticket) qs
all_lower s t [] low all = tt
all_lower s t (q ∷ qs) low all = (omega (arith, all.0), all_lower s t qs low all.1)

rises_put : (p : Print) (qs : List Print) → Rises qs → Rises (put p qs)
rises_put p [] rises = (tt, tt)
rises_put p (q ∷ qs) rises = at (nat_le p.ticket q.ticket) refl (rises_put p qs rises.1)
  where
    at : (b : Bool) → nat_le p.ticket q.ticket ≡ b → Rises (put p qs) → Rises (cond b (p ∷ q ∷ qs) (q ∷ put p qs))
    at true e later = let low : p.ticket ≤ q.ticket = low_of p.ticket q.ticket e in ((low, all_lower p.ticket q.ticket qs low rises.0), rises)
    at false e later = let high = high_of p.ticket q.ticket e in (all_put q.ticket p qs (omega (arith, high)) rises.0, later)

rises_by_ticket : (ps : List Print) → Rises (by_ticket ps)
rises_by_ticket [] = tt
rises_by_ticket (p ∷ ps) = rises_put p (by_ticket ps) (rises_by_ticket ps)

passed : (a b : Bool) (p q : Print) (ps : List Print) → (a ≡ true → b ≡ true → ⊥)
    → cond b (q ∷ cond a (p ∷ ps) ps) (cond a (p ∷ ps) ps) ≡ cond a (p ∷ cond b (q ∷ ps) ps) (cond b (q ∷ ps) ps)
passed true true p q ps never = absurd (never refl refl)
passed true false p q ps never = refl
passed false true p q ps never = refl
passed false false p q ps never = refl

filter_put : (t : ℕ) (p : Print) (qs : List Print) → filter (has t) (put p qs) ≡ filter (has t) (p ∷ qs)
filter_put t p [] = refl
filter_put t p (q ∷ qs) = at (nat_le p.ticket q.ticket) refl (filter_put t p qs)
  where
    at : (b : Bool) → nat_le p.ticket q.ticket ≡ b → filter (has t) (put p qs) ≡ filter (has t) (p ∷ qs)
        → filter (has t) (cond b (p ∷ q ∷ qs) (q ∷ put p qs)) ≡ filter (has t) (p ∷ q ∷ qs)
    at true e later = refl
    at false e later =
        ap (λ (rs : List Print). cond (has t q) (q ∷ rs) rs) later
        ∙ passed (has t p) (has t q) p q (filter (has t) qs) (apart p.ticket q.ticket t e)

filter_by_ticket : (t : ℕ) (ps : List Print) → filter (has t) (by_ticket ps) ≡ filter (has t) ps
filter_by_ticket t [] = refl
filter_by_ticket t (p ∷ ps) = filter_put t p (by_ticket ps) ∙ ap (λ (rs : List Print). cond (has t p) (p ∷ rs) rs) (filter_by_ticket t ps)

-- ---- two lists in order with the same prints of each ticket

filter_none : (t : ℕ) (qs : List Print) → AllByRecursion (λ (q : Print). t + 1 ≤ q.ticket) qs → filter (has t) qs ≡ []
filter_none t [] all = refl
filter_none t (q ∷ qs) all = rw (has_no q.ticket t all.0) (filter_none t qs all.1)

abbrev Same : List Print → List Print → Type 0
Same ps qs = (t : ℕ) → filter (has t) ps ≡ filter (has t) qs

not_below : (p : Print) (ps : List Print) (q : Print) (qs : List Print) → Rises (q ∷ qs) → Same (p ∷ ps) (q ∷ qs) → p.ticket + 1 ≤ q.ticket → ⊥
not_below p ps q qs rises same low =
    let none : filter (has p.ticket) (q ∷ qs) ≡ [] = filter_none p.ticket (q ∷ qs) (low, all_lower (p.ticket + 1) q.ticket qs low rises.0) in
    begins (eqb p.ticket p.ticket) (filter (has p.ticket) ps) (has_own p.ticket) (same p.ticket ∙ none)
  where
    begins : (b : Bool) (rest : List Print) → b ≡ true → cond b (p ∷ rest) rest ≡ [] → ⊥
    begins true rest e empty = cc
    begins false rest e empty = cc

not_below' : (p : Print) (ps : List Print) (q : Print) (qs : List Print) → Rises (p ∷ ps) → Same (p ∷ ps) (q ∷ qs) → q.ticket + 1 ≤ p.ticket → ⊥
not_below' p ps q qs rises same low = not_below q qs p ps rises (λ t. sym (same t)) low

one_ticket : (s t : ℕ) → (s + 1 ≤ t → ⊥) → (t + 1 ≤ s → ⊥) → s ≡ t
one_ticket s t a b = omega (arith, a, b)

same_head : (p : Print) (ps : List Print) (q : Print) (qs : List Print) → Rises (p ∷ ps) → Rises (q ∷ qs) → Same (p ∷ ps) (q ∷ qs) → p ≡ q
same_head p ps q qs rises rises' same =
    let ticket = one_ticket p.ticket q.ticket (not_below p ps q qs rises' same) (not_below' p ps q qs rises same) in
    heads p q (eqb p.ticket p.ticket) (eqb q.ticket p.ticket) _ _ (has_own p.ticket) (rw ticket (has_own q.ticket)) (same p.ticket)
  where
    heads : (p q : Print) (a b : Bool) (ps qs : List Print) → a ≡ true → b ≡ true → cond a (p ∷ ps) ps ≡ cond b (q ∷ qs) qs → p ≡ q
    heads p q true true ps qs x y e = cc
    heads p q true false ps qs x y e = cc
    heads p q false true ps qs x y e = cc
    heads p q false false ps qs x y e = cc

tail_of : (b : Bool) (p : Print) (ps qs : List Print) → cond b (p ∷ ps) ps ≡ cond b (p ∷ qs) qs → ps ≡ qs
tail_of true p ps qs e = cc
tail_of false p ps qs e = e

one_list : (ps qs : List Print) → Rises ps → Rises qs → Same ps qs → ps ≡ qs
one_list [] [] rises rises' same = refl
one_list [] (q ∷ qs) rises rises' same = let e = rw (has_own q.ticket) at (same q.ticket) in cc
one_list (p ∷ ps) [] rises rises' same = let e = rw (has_own p.ticket) at (same p.ticket) in cc
one_list (p ∷ ps) (q ∷ qs) rises rises' same =
    let head : p ≡ q = same_head p ps q qs rises rises' same in
    let tail : ps ≡ qs = one_list ps qs rises.1 rises'.1 (λ t. tail_of (has t p) p _ _ (subst (λ (r : Print). filter (has t) (p ∷ ps) ≡ filter (has t) (r ∷ qs)) (sym head) (same t))) in
    cc

-- ---- what a stable sort ensures

from_place : (t : ℕ) (ps : List Print) → ((k : ℕ) (d : Print) → k < length ps → t ≤ (get_or ps k d).ticket) → AllByRecursion (λ (p : Print). t ≤ p.ticket) ps
from_place t [] each = tt
from_place t (p ∷ ps) each = (each 0 p (omega arith), from_place t ps (λ k d below. each (suc k) d (omega (arith, below))))

rises_along : (ps : List Print) → IsNonDecreasingBy (λ (p : Print). p.ticket) ps → Rises ps
rises_along [] h = tt
rises_along (p ∷ ps) h =
    (from_place p.ticket ps (λ k d below. h 0 (suc k) d (omega arith) (omega (arith, below))), rises_along ps (λ i j d low below. h (suc i) (suc j) d (omega (arith, low)) (omega (arith, below))))

ties_own : (s t : ℕ) → (not (is_lt (nat_cmp s t)) && not (is_lt (nat_cmp t s))) ≡ eqb t s
ties_own s t = grind (arith, nat_tests)

filter_ties : (x : Print) (ps : List Print) → filter (ties (λ (p q : Print). is_lt (nat_cmp p.ticket q.ticket)) x) ps ≡ filter (has x.ticket) ps
filter_ties x [] = refl
filter_ties x (p ∷ ps) = rw (ties_own x.ticket p.ticket, filter_ties x ps)

pub sorted_is_by_ticket : (ps qs : List Print) → IsSortedByKey (λ (p : Print). p.ticket) nat_cmp qs → IsStableByKey (λ (p : Print). p.ticket) nat_cmp ps qs → qs ≡ by_ticket ps
sorted_is_by_ticket ps qs sorted stable =
    one_list qs (by_ticket ps) (rises_along qs (IsNonDecreasingBy-from_sort (λ (p : Print). p.ticket) qs sorted)) (rises_by_ticket ps) (λ t.
    let x : Print = record { ticket = t; value = pos 0 } in
    sym (filter_ties x qs) ∙ stable x ∙ filter_ties x ps ∙ sym (filter_by_ticket t ps))
