-- Shares that are halved, and added.
use Rattle.std.proofs.{Common.{◌≡◌, ◌≢◌, ℕ, zero, suc, ◌+◌, ◌*◌, ◌-◌, ◌^◌, ◌<◌, ◌≤◌, List, [], ◌∷◌, ◌++◌, length, length-set, sym, ap, subst, ◌∙◌, arith, slice_set}, lemmas.List.Sums.sum_by_push}
use Rattle.std.proofs.lemmas.Nat.{pow-add, pow_pos}
use Rattle.atomic_table.proofs.Lists.{set_here, set_else, at_longer, at_last}
use Rattle.solero_cell.{specs.{CellRules.{in_parts, HaveDepth, AreWhole}, CellViews.{half, sum_of, spent}, declared.views.{Share.Share, View.View}}, proofs.Sums.{sum_set, within}}
use lib.ListN.{get_elem?}
use mathlib.Core.{Logic.dite, Option.{some, some-injective}}
use native.Mathlib.Decide.{ℕ_discrete}

-- ---- one share

halves_at : (n k : ℕ) → n * 2 ^ k + n * 2 ^ k ≡ n * 2 ^ (k + 1)
halves_at n k =
    let p : 2 ^ (k + 1) ≡ 2 ^ k + 2 ^ k = omega (arith, pow-add 2 k 1) in
    rw p (grind arith)

pub halves : (depth : ℕ) (s : Share) → s.depth + 1 ≤ depth
    → in_parts depth (half s) + in_parts depth (half s) ≡ in_parts depth s
halves depth s le =
    halves_at s.parts (depth - (s.depth + 1)) ∙ ap (λ k. s.parts * 2 ^ k) (omega arith)

times_pow : (n i j : ℕ) → n * 2 ^ i * 2 ^ j ≡ n * 2 ^ (i + j)
times_pow n i j = rw (pow-add 2 i j) (grind arith)

over : (a b c : ℕ) → (a + b) * c ≡ a * c + b * c
over a b c = grind arith

pub adds : (depth : ℕ) (s t : Share) → s.depth + t.depth ≤ depth
    → in_parts depth (sum_of s t) ≡ in_parts depth s + in_parts depth t
adds depth s t le =
    let k : ℕ = depth - (s.depth + t.depth) in
    let one : s.parts * 2 ^ t.depth * 2 ^ k ≡ in_parts depth s = times_pow s.parts t.depth k ∙ ap (λ e. s.parts * 2 ^ e) (omega arith) in
    let two : t.parts * 2 ^ s.depth * 2 ^ k ≡ in_parts depth t = times_pow t.parts s.depth k ∙ ap (λ e. t.parts * 2 ^ e) (omega arith) in
    over (s.parts * 2 ^ t.depth) (t.parts * 2 ^ s.depth) (2 ^ k) ∙ ap (λ n. n + t.parts * 2 ^ s.depth * 2 ^ k) one ∙ ap (λ n. in_parts depth s + n) two

nothing : (n : ℕ) → 0 * n ≡ 0
nothing n = omega arith

pub pos_times : (n m : ℕ) → 0 < n → 0 < m → 0 < n * m
pos_times zero m p q = absurd (omega arith)
pos_times (suc n) zero p q = absurd (omega arith)
pos_times (suc n) (suc m) p q = omega arith

pub sum_pos : (s t : Share) → 0 < s.parts → 0 < (sum_of s t).parts
sum_pos s t p = let q : 0 < s.parts * 2 ^ t.depth = pos_times s.parts (2 ^ t.depth) p (pow_pos t.depth) in omega arith

-- ---- the shares of views

abbrev weigh : ℕ → View → ℕ
weigh depth v = in_parts depth v.share

-- one view is another, with the same share
pub whole_same : (views : List View) (id : ℕ) (v w : View) → get_elem? views id ≡ some v → w.share ≡ v.share
    → AreWhole views → AreWhole (slice_set views id w)
whole_same views id v w at same whole depth have =
    let old : HaveDepth depth views = λ i u g. dite (ℕ_discrete i id)
    (λ e. subst (λ d. d ≤ depth) (ap (λ (s : Share). s.depth) same ∙ ap (λ (x : View). x.share.depth) (some-injective v u (sym at ∙ ap (get_elem? views) (sym e) ∙ g))) (have id w (set_here views id w (within views id v at))))
    (λ n. have i u (set_else views id i w n ∙ g)) in
    let sum = sum_set (weigh depth) views id v w at in
    let one : weigh depth w ≡ weigh depth v = ap (in_parts depth) same in
    let before = whole depth old in
    omega arith

-- one view is cut in two
pub whole_cut : (views : List View) (id : ℕ) (v left right : View) → get_elem? views id ≡ some v
    → left.share ≡ half v.share → right.share ≡ half v.share
    → AreWhole views → AreWhole (slice_set views id left ++ right ∷ [])
whole_cut views id v left right at one two whole depth have =
    let deep : right.share.depth ≤ depth = have (length views) right (at_last (slice_set views id left) right (length views) (length-set views id left)) in
    let deep' : v.share.depth + 1 ≤ depth = subst (λ (s : Share). s.depth ≤ depth) two deep in
    let old : HaveDepth depth views = λ i u g. dite (ℕ_discrete i id)
    (λ e. subst (λ (x : View). x.share.depth ≤ depth) (some-injective v u (sym at ∙ ap (get_elem? views) (sym e) ∙ g)) (omega arith))
    (λ n. have i u (at_longer (slice_set views id left) (right ∷ []) i u (set_else views id i left n ∙ g))) in
    let sum = sum_set (weigh depth) views id v left at in
    let push = sum_by_push (weigh depth) (slice_set views id left) right in
    let l : weigh depth left ≡ in_parts depth (half v.share) = ap (in_parts depth) one in
    let r : weigh depth right ≡ in_parts depth (half v.share) = ap (in_parts depth) two in
    let both = halves depth v.share deep' in
    let before = whole depth old in
    omega arith

-- one view takes in another, which is spent
pub whole_joined : (views : List View) (id other : ℕ) (v w both : View) → get_elem? views id ≡ some v
    → other ≢ id → get_elem? views other ≡ some w → both.share ≡ sum_of v.share w.share
    → AreWhole views → AreWhole (slice_set (slice_set views id both) other spent)
whole_joined views id other v w both at apart at_other is whole depth have =
    let mid = slice_set views id both in
    let there : get_elem? mid other ≡ some w = set_else views id other both apart ∙ at_other in
    let here : get_elem? (slice_set mid other spent) id ≡ some both = set_else mid other id spent (λ e. apart (sym e)) ∙ set_here views id both (within views id v at) in
    let deep : v.share.depth + w.share.depth ≤ depth = subst (λ (s : Share). s.depth ≤ depth) is (have id both here) in
    let old : HaveDepth depth views = λ i u g. dite (ℕ_discrete i id)
    (λ e. subst (λ (x : View). x.share.depth ≤ depth) (some-injective v u (sym at ∙ ap (get_elem? views) (sym e) ∙ g)) (omega arith))
    (λ n. dite (ℕ_discrete i other)
    (λ e. subst (λ (x : View). x.share.depth ≤ depth) (some-injective w u (sym at_other ∙ ap (get_elem? views) (sym e) ∙ g)) (omega arith))
    (λ m. have i u (set_else mid other i spent m ∙ set_else views id i both n ∙ g))) in
    let sum = sum_set (weigh depth) views id v both at in
    let sum' = sum_set (weigh depth) mid other w spent there in
    let b : weigh depth both ≡ in_parts depth (sum_of v.share w.share) = ap (in_parts depth) is in
    let add = adds depth v.share w.share deep in
    let none : weigh depth spent ≡ 0 = nothing (2 ^ (depth - 0)) in
    let before = whole depth old in
    omega arith
