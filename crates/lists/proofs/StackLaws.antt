-- Stacks, which are kept with the top last and seen with the top first.
use Rattle.std.proofs.Common.{◌≡◌, ◌⊎◌, inl, inr, ℕ, suc, ◌-◌, ◌<◌, ◌≤◌, List, [], ◌∷◌, ◌++◌, length, reverse, take, drop, Option, Some, None, MatchOption, refl, sym, ap, ◌∙◌, arith, slice_get, slice_set}
use Rattle.std.proofs.{Math.Seq.set-append_seam, lemmas.Bool.cases_lt}
use Rattle.std.proofs.lemmas.List.{reverse-append, reverse-reverse, length-reverse, length-drop, take-append-drop, drop_at, drop_all, get_or-reverse, set-append_left}
use Rattle.std.proofs.lemmas.Option.{slice_get-get_or, slice_get_past}
use Rattle.lists.specs.Stacks.{top_first}

pub reverse_cons : {A : Type 0} (x : A) (xs : List A) → reverse (x ∷ xs) ≡ reverse xs ++ x ∷ []
reverse_cons x xs = reverse-append (x ∷ []) xs

pub top_first_none : {A : Type 0} → top_first {A = A} [] ≡ []
unfolding top_first
top_first_none = refl

pub first_on_top : {A : Type 0} (xs : List A) → top_first (reverse xs) ≡ xs
unfolding top_first
first_on_top xs = reverse-reverse xs

pub top_first_push : {A : Type 0} (xs : List A) (x : A) → top_first (xs ++ x ∷ []) ≡ x ∷ top_first xs
unfolding top_first
top_first_push xs x = simp reverse-append

pub length_top_first : {A : Type 0} (xs : List A) → length (top_first xs) ≡ length xs
unfolding top_first
length_top_first xs = length-reverse xs

pub top_first_pop : {A : Type 0} (o : Option A) (old new : List A) → MatchOption o ((old ≡ []) × (new ≡ [])) (λ last. old ≡ new ++ last ∷ [])
    → MatchOption o ((top_first old ≡ []) × (top_first new ≡ [])) (λ top. top_first old ≡ top ∷ top_first new)
top_first_pop None old new e = (ap top_first e.0 ∙ top_first_none, ap top_first e.1 ∙ top_first_none)
top_first_pop (Some x) old new e = ap top_first e ∙ top_first_push new x

pub get_top_first : {A : Type 0} (xs : List A) (place : ℕ) → place < length xs → slice_get xs (length xs - 1 - place) ≡ slice_get (top_first xs) place
unfolding top_first
get_top_first [] place h = absurd (omega (arith, h))
get_top_first {A} (x ∷ xs) place h =
    let all : List A = x ∷ xs in
    let long : place < length (reverse all) = rw (length-reverse all) h in
    slice_get-get_or all (length all - 1 - place) x (omega (arith, h)) ∙ ap Some (sym (get_or-reverse all place x h)) ∙ sym (slice_get-get_or (reverse all) place x long)

pub past_top_first : {A : Type 0} (xs : List A) (place : ℕ) → length xs ≤ place → slice_get (top_first xs) place ≡ None
past_top_first xs place h = slice_get_past (top_first xs) place (rw (length_top_first xs) h)

set_reverse : {A : Type 0} (xs : List A) (place : ℕ) (x : A) → place < length xs → slice_set (reverse xs) place x ≡ reverse (slice_set xs (length xs - 1 - place) x)
set_reverse [] place x h = absurd (omega (arith, h))
set_reverse {A} (y ∷ ys) place x h = by_length (λ less. set_reverse ys place x less) (cases_lt place (length ys))
  where
    in_front : reverse (y ∷ ys) ≡ reverse ys ++ y ∷ []
    in_front = reverse_cons y ys

    by_length : (place < length ys → slice_set (reverse ys) place x ≡ reverse (slice_set ys (length ys - 1 - place) x)) → (place < length ys) ⊎ (length ys ≤ place)
        → slice_set (reverse (y ∷ ys)) place x ≡ reverse (slice_set (y ∷ ys) (length (y ∷ ys) - 1 - place) x)
    by_length rest (inl less) =
        let long : place < length (reverse ys) = rw (length-reverse ys) less in
        let next : length (y ∷ ys) - 1 - place ≡ suc (length ys - 1 - place) = omega (arith, less) in
        ap (λ l. slice_set l place x) in_front ∙ set-append_left (reverse ys) (y ∷ []) place x long ∙ ap (λ l. l ++ y ∷ []) (rest less)
        ∙ sym (reverse_cons y (slice_set ys (length ys - 1 - place) x)) ∙ ap (λ i. reverse (slice_set (y ∷ ys) i x)) (sym next)
    by_length rest (inr more) =
        let last : place ≡ length (reverse ys) = omega (arith, h, more, length-reverse ys) in
        let first : length (y ∷ ys) - 1 - place ≡ 0 = omega (arith, h, more) in
        ap (λ l. slice_set l place x) in_front ∙ ap (λ i. slice_set (reverse ys ++ y ∷ []) i x) last ∙ set-append_seam (reverse ys) y [] x
        ∙ sym (reverse_cons x ys) ∙ ap (λ i. reverse (slice_set (y ∷ ys) i x)) (sym first)

pub set_top_first : {A : Type 0} (xs : List A) (place : ℕ) (x : A) → place < length xs → slice_set (top_first xs) place x ≡ top_first (slice_set xs (length xs - 1 - place) x)
unfolding top_first
set_top_first xs place x h = set_reverse xs place x h

pub without_top_first : {A : Type 0} (xs : List A) (count : ℕ) → top_first (take (length xs - count) xs) ≡ drop count (top_first xs)
unfolding top_first
without_top_first xs count = by_length (cases_lt count (length xs))
  where
    fewer : count < length xs → length (reverse (drop (length xs - count) xs)) ≡ count
    fewer h = length-reverse (drop (length xs - count) xs) ∙ length-drop (length xs - count) xs ∙ omega (arith, h)

    by_length : (count < length xs) ⊎ (length xs ≤ count) → reverse (take (length xs - count) xs) ≡ drop count (reverse xs)
    by_length (inr h) = let none : length xs - count ≡ 0 = omega (arith, h) in rw none (sym (drop_all count (reverse xs) (rw (length-reverse xs) h)))
    by_length (inl h) = sym (ap (λ l. drop count (reverse l)) (sym (take-append-drop (length xs - count) xs)) ∙ ap (λ l. drop count l) (reverse-append (take (length xs - count) xs) (drop (length xs - count) xs))
        ∙ drop_at (reverse (drop (length xs - count) xs)) (reverse (take (length xs - count) xs)) count (fewer h))
