-- The copies of a latch cell when one of its words changes.
use Rattle.std.proofs.{Common.{◌≡◌, ◌≢◌, ℕ, suc, ◌+◌, ◌-◌, ◌*◌, ◌%◌, ◌<◌, ◌≤◌, ◌==◌, ◌⊎◌, inl, inr, ⊎_elim, List, [], ◌∷◌, ◌++◌, length, length-append, append_assoc, take, drop, ap, ◌∙◌, arith, slice_index, slice_set, if◌then◌else◌}, Math.Seq.{take-suc-set, take-set-lt, take-append_seam, drop-append_seam, take-length}}
use Rattle.std.proofs.lemmas.List.{get_or-set_other, get_or-take, get_or-drop, drop-set-lt, drop-set-add, take-set-le, length-take-le, length-drop}
use Rattle.latch_cell.specs.Copies.{copy_gap, latch_words, copy_start, copy_of}
use mathlib.Core.Logic.{dite}
use native.Mathlib.Decide.{ℕ_discrete}

-- ---- where copies begin

even_start : (len c : ℕ) → c % 2 ≡ 0 → copy_start len c ≡ 2 + copy_gap len
even_start len c e = ap (λ (k : ℕ). if k == 0 then 2 + copy_gap len else 2 + 2 * copy_gap len + len) e

odd_start : (len c : ℕ) → c % 2 ≡ 1 → copy_start len c ≡ 2 + 2 * copy_gap len + len
odd_start len c e = ap (λ (k : ℕ). if k == 0 then 2 + copy_gap len else 2 + 2 * copy_gap len + len) e

odd_rest : (n : ℕ) → n % 2 ≢ 0 → n % 2 ≡ 1
odd_rest n e = grind arith

starts : (len c : ℕ) → ((copy_start len c ≡ 2 + copy_gap len) × (copy_start len (c + 1) ≡ 2 + 2 * copy_gap len + len))
    ⊎ ((copy_start len c ≡ 2 + 2 * copy_gap len + len) × (copy_start len (c + 1) ≡ 2 + copy_gap len))
starts len c = dite (ℕ_discrete (c % 2) 0)
    (λ e. inl (even_start len c e, odd_start len (c + 1) (omega (arith, e))))
    (λ n. let e = odd_rest c n in inr (odd_start len c e, even_start len (c + 1) (omega (arith, e))))

pub copy_low : (len c : ℕ) → 2 ≤ copy_start len c
copy_low len c = ⊎_elim (λ e. let a = e.0 in omega (arith, a)) (λ e. let a = e.0 in omega (arith, a)) (starts len c)

pub copy_high : (len c : ℕ) → copy_start len c + len ≤ latch_words len
copy_high len c = ⊎_elim (λ e. let a = e.0 in omega (arith, a)) (λ e. let a = e.0 in omega (arith, a)) (starts len c)

-- the copies of a count and of the next one stand apart
apart : (len c : ℕ) → (copy_start len c + len ≤ copy_start len (c + 1)) ⊎ (copy_start len (c + 1) + len ≤ copy_start len c)
apart len c = ⊎_elim (λ e. let a = e.0 in let b = e.1 in inl (omega (arith, a, b))) (λ e. let a = e.0 in let b = e.1 in inr (omega (arith, a, b))) (starts len c)

-- ---- one copy

pub copy_long : (len : ℕ) (ws : List ℕ) (c : ℕ) → length ws ≡ latch_words len → length (copy_of len ws c) ≡ len
copy_long len ws c long = length-take-le len (drop (copy_start len c) ws) (let high = copy_high len c in omega (arith, length-drop (copy_start len c) ws, high, long))

pub copy_index : (len : ℕ) (ws : List ℕ) (c i : ℕ) → i < len → slice_index (copy_of len ws c) i ≡ slice_index ws (copy_start len c + i)
copy_index len ws c i lt = get_or-take len (drop (copy_start len c) ws) i 0 lt ∙ get_or-drop (copy_start len c) ws i 0

-- the lock word or the count changes
pub head_kept : (len : ℕ) (ws : List ℕ) (i x c : ℕ) → i < 2 → copy_of len (slice_set ws i x) c ≡ copy_of len ws c
head_kept len ws i x c lt = let low = copy_low len c in ap (take len) (drop-set-lt (copy_start len c) ws i x (omega (arith, lt, low)))

-- ---- a value changes

-- the lock word and the count stay
pub words_kept : (len : ℕ) (ws : List ℕ) (c i x j : ℕ) → j < 2 → slice_index (slice_set ws (copy_start len c + i) x) j ≡ slice_index ws j
words_kept len ws c i x j lt = let low = copy_low len c in get_or-set_other ws (copy_start len c + i) j x 0 (λ e. absurd (omega (arith, e, lt, low)))

pub copy_set : (len : ℕ) (ws : List ℕ) (c i x : ℕ) → i < len → length ws ≡ latch_words len
    → take (suc i) (copy_of len (slice_set ws (copy_start len c + i) x) c) ≡ take i (copy_of len ws c) ++ x ∷ []
copy_set len ws c i x lt long =
    let n = copy_long len ws c long in
    ap (λ (ys : List ℕ). take (suc i) (take len ys)) (drop-set-add (copy_start len c) ws i x)
    ∙ ap (take (suc i)) (take-set-lt len (drop (copy_start len c) ws) i x lt)
    ∙ take-suc-set (copy_of len ws c) i x (omega (arith, n, lt))

kept_apart : (len p q : ℕ) (ws : List ℕ) (i x : ℕ) → i < len → (p + len ≤ q) ⊎ (q + len ≤ p)
    → take len (drop p (slice_set ws (q + i) x)) ≡ take len (drop p ws)
kept_apart len p q ws i x lt (inl le) =
    let k : ℕ = (q - p) + i in
    ap (λ (j : ℕ). take len (drop p (slice_set ws j x))) (omega (arith, le)) ∙ ap (take len) (drop-set-add p ws k x) ∙ take-set-le len (drop p ws) k x (omega (arith, le))
kept_apart len p q ws i x lt (inr le) = ap (take len) (drop-set-lt p ws (q + i) x (omega (arith, le, lt)))

-- the copy of the count before stays
pub other_kept : (len : ℕ) (ws : List ℕ) (c i x : ℕ) → i < len → copy_of len (slice_set ws (copy_start len (c + 1) + i) x) c ≡ copy_of len ws c
other_kept len ws c i x lt = kept_apart len (copy_start len c) (copy_start len (c + 1)) ws i x lt (apart len c)

-- ---- a new cell

pub opening_copy : (a b : ℕ) (gap xs : List ℕ) (c : ℕ) → length gap ≡ copy_gap (length xs) → copy_of (length xs) (a ∷ b ∷ gap ++ xs ++ gap ++ xs) c ≡ xs
opening_copy a b gap xs c long = ⊎_elim
    (λ e. let n : 2 + copy_gap (length xs) ≡ suc (suc (length gap)) = omega (arith, long) in
    let rest : List ℕ = xs ++ (gap ++ xs) in
    let whole : gap ++ xs ++ gap ++ xs ≡ gap ++ rest = append_assoc (gap ++ xs) gap xs ∙ append_assoc gap xs (gap ++ xs) in
    ap (λ (p : ℕ). take (length xs) (drop p (a ∷ b ∷ gap ++ xs ++ gap ++ xs))) (e.0 ∙ n)
    ∙ ap (λ (ys : List ℕ). take (length xs) (drop (length gap) ys)) whole
    ∙ ap (take (length xs)) (drop-append_seam gap rest) ∙ take-append_seam xs (gap ++ xs))
    (λ e. let front : List ℕ = gap ++ xs ++ gap in
    let m : length front ≡ length gap + length xs + length gap = length-append (gap ++ xs) gap ∙ ap (λ (k : ℕ). k + length gap) (length-append gap xs) in
    let n : 2 + 2 * copy_gap (length xs) + length xs ≡ suc (suc (length front)) = omega (arith, long, m) in
    ap (λ (p : ℕ). take (length xs) (drop p (a ∷ b ∷ gap ++ xs ++ gap ++ xs))) (e.0 ∙ n)
    ∙ ap (take (length xs)) (drop-append_seam front xs) ∙ take-length xs)
    (starts (length xs) c)
