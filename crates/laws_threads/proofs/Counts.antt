-- Lists with the same counts are as long as one another.
use Rattle.std.proofs.{Common.{◌≡◌, ℕ, zero, suc, ◌+◌, ◌<◌, Bool, List, [], ◌∷◌, ◌++◌, length, replicate, refl, sym, ap, ◌∙◌, subst, arith, ◌==◌, if◌then◌else◌}, lemmas.Bool.Decides.nat_tests}
use Rattle.std.proofs.lemmas.List.{length-append, length-replicate}
use Rattle.machine_types.specs.Structure.{count_in, once_at}
use Rattle.laws_threads.proofs.Tests.{either_way}

-- a list without one item
record IsWithout (x : ℕ) (xs ys : List ℕ) : Type 0 where
  shorter : length xs ≡ suc (length ys)
  counts : (n : ℕ) → count_in n xs ≡ once_at x n + count_in n ys

taken_out : (x : ℕ) (xs : List ℕ) → 0 < count_in x xs → (ys : List ℕ) × IsWithout x xs ys
taken_out x [] l = absurd (omega (arith, l))
taken_out x (y ∷ xs) l = either_way (λ (b : Bool). (y == x) ≡ b → (ys : List ℕ) × IsWithout x (y ∷ xs) ys) (y == x)
    (λ e. (xs, record { shorter = refl; counts = λ n. grind (arith, nat_tests, e) }))
    (λ e. let r = taken_out x xs (grind (arith, nat_tests, l, e)) in (y ∷ r.0, record { shorter = ap suc r.1.shorter; counts = λ n. let k = r.1.counts n in omega (arith, k) })) refl

-- an item is in its list
pub once_in : (x : ℕ) (xs : List ℕ) → 0 < count_in x (x ∷ xs)
once_in x xs = grind (arith, nat_tests)

same_length : (n : ℕ) (xs ys : List ℕ) → length xs ≡ n → ((m : ℕ) → count_in m xs ≡ count_in m ys) → length xs ≡ length ys
same_length n [] [] l e = refl
same_length n [] (y ∷ ys) l e = absurd (let k = e y in let some = once_in y ys in omega (arith, k, some))
same_length zero (x ∷ xs) ys l e = absurd (omega (arith, l))
same_length (suc n) (x ∷ xs) ys l e =
    let k = e x in
    let some : 0 < count_in x ys = subst (λ z. 0 < z) k (once_in x xs) in
    let r = taken_out x ys some in
    let rest = same_length n xs r.0 (omega (arith, l)) (λ m. let a = e m in let b = r.1.counts m in omega (arith, a, b)) in
    omega (arith, rest, r.1.shorter)

count_more : (m x k : ℕ) (xs : List ℕ) → count_in m (replicate k x ++ xs) ≡ (if x == m then k else 0) + count_in m xs
count_more m x zero xs = grind (arith, nat_tests)
count_more m x (suc k) xs = grind (arith, nat_tests, count_more m x k xs)

-- one list has an item so many times more
pub longer_by : (xs ys : List ℕ) (x k : ℕ) → ((m : ℕ) → count_in m xs ≡ (if x == m then k else 0) + count_in m ys) → length xs ≡ k + length ys
longer_by xs ys x k e = same_length (length xs) xs (replicate k x ++ ys) refl (λ m. e m ∙ sym (count_more m x k ys)) ∙ (omega (arith, length-append (replicate k x) ys, length-replicate {A = ℕ} k x))
