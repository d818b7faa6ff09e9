-- The words of a cell when one of them changes, and lock words as numbers.
use Rattle.std.proofs.{Common.{◌≡◌, ℕ, suc, ◌*◌, ◌/◌, ◌%◌, ◌<◌, List, [], ◌∷◌, ◌++◌, length, take, true, refl, ap, ◌∙◌, arith, slice_index, slice_set}, Math.Seq.{take-suc-set, take-length}}
use Rattle.std.proofs.lemmas.List.{get_or-set_same, get_or-set_other, drop-set-lt}
use Rattle.machine_types.specs.{LockWords.{lock_by, lock_of, is_lock_by, is_lock_word}, declared.lock.LockWord.TheVariants.Free}
use Rattle.solero_cell.specs.CellRules.{cell_values}

-- ---- lock words

pub free_word : (c : ℕ) → lock_of (4 * c) ≡ Free c
free_word c =
    let kind : (4 * c) % 4 ≡ 0 = omega arith in
    let upper : (4 * c) / 4 ≡ c = omega arith in
    ap (λ (k : ℕ). lock_by k ((4 * c) / 4)) kind ∙ ap Free upper

pub free_is_lock : (c : ℕ) → is_lock_word (4 * c) ≡ true
free_is_lock c =
    let kind : (4 * c) % 4 ≡ 0 = omega arith in
    ap (λ (k : ℕ). is_lock_by k ((4 * c) / 4)) kind

-- ---- values

pub value_index : (ws : List ℕ) (n : ℕ) → slice_index (cell_values ws) n ≡ slice_index ws (suc n)
value_index [] n = refl
value_index (w ∷ ws) n = refl

pub values_long : (ws : List ℕ) (n : ℕ) → length ws ≡ suc n → length (cell_values ws) ≡ n
values_long [] n e = absurd (omega arith)
values_long (w ∷ ws) n e = omega arith

pub all_taken : (xs ys : List ℕ) → xs ≡ take (length xs) ys → length xs ≡ length ys → xs ≡ ys
all_taken xs ys e l = e ∙ ap (λ n. take n ys) l ∙ take-length ys

-- ---- the lock word changes

pub lock_set : (ws : List ℕ) (x : ℕ) → 0 < length ws → slice_index (slice_set ws 0 x) 0 ≡ x
lock_set ws x lt = get_or-set_same ws 0 x 0 lt

pub values_kept : (ws : List ℕ) (x : ℕ) → cell_values (slice_set ws 0 x) ≡ cell_values ws
values_kept ws x = drop-set-lt 1 ws 0 x (omega arith)

-- ---- a value changes

pub lock_kept : (ws : List ℕ) (n x : ℕ) → slice_index (slice_set ws (suc n) x) 0 ≡ slice_index ws 0
lock_kept ws n x = get_or-set_other ws (suc n) 0 x 0 (λ e. absurd (omega arith))

values_set : (ws : List ℕ) (n x : ℕ) → cell_values (slice_set ws (suc n) x) ≡ slice_set (cell_values ws) n x
values_set [] n x = refl
values_set (w ∷ ws) n x = refl

pub value_set : (ws : List ℕ) (n x : ℕ) → n < length (cell_values ws)
    → take (suc n) (cell_values (slice_set ws (suc n) x)) ≡ take n (cell_values ws) ++ x ∷ []
value_set ws n x lt = ap (take (suc n)) (values_set ws n x) ∙ take-suc-set (cell_values ws) n x lt
