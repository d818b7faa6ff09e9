-- Lists of numbers of methods.
use Rattle.std.proofs.Common.{◌≡◌, ℕ, suc, ◌+◌, ◌-◌, ◌<◌, ◌≤◌, Bool, true, false, List, [], ◌∷◌, ◌++◌, length, take, drop, Some, refl, sym, ap, arith, add-one, append_assoc, length-append, slice_get, if◌then◌else◌}
use Rattle.std.proofs.lemmas.List.{drop-drop, drop-take}
use Rattle.jvm_types.{specs.declared.program.MethodInfo.MethodInfo, proofs.EachAfter.drop_got}
use Rattle.machine_types.specs.Parts.{numbers_of}

added : (test : Bool) (before : List ℕ) (i : ℕ) (rest : List ℕ) → before ++ (if test then i ∷ rest else rest) ≡ (if test then before ++ i ∷ [] else before) ++ rest
added true before i rest = sym (append_assoc before (i ∷ []) rest)
added false before i rest = refl

pub numbers_step : (test : MethodInfo → Bool) (before : List ℕ) (ms : List MethodInfo) (i : ℕ) (m : MethodInfo) → slice_get ms i ≡ Some m
    → before ++ numbers_of test i (drop i ms) ≡ (if test m then before ++ i ∷ [] else before) ++ numbers_of test (i + 1) (drop (i + 1) ms)
numbers_step test before ms i m e =
    let next : i + 1 ≡ suc i = add-one i in
    rw (drop_got ms i m e, next) (added (test m) before i (numbers_of test (suc i) (drop (suc i) ms)))

-- ---- how many

fewer : (test : Bool) (n : ℕ) (rest : List ℕ) (most : ℕ) → length rest ≤ most → length (if test then n ∷ rest else rest) ≤ suc most
fewer true n rest most l = omega (arith, l)
fewer false n rest most l = omega (arith, l)

pub few_numbers : (test : MethodInfo → Bool) (n : ℕ) (ms : List MethodInfo) → length (numbers_of test n ms) ≤ length ms
few_numbers test n [] = omega arith
few_numbers test n (m ∷ ms) = fewer (test m) n (numbers_of test (suc n) ms) (length ms) (few_numbers test (suc n) ms)

pub few_added : (test : MethodInfo → Bool) (before after : List ℕ) (ms : List MethodInfo) → after ≡ before ++ numbers_of test 0 ms → length after ≤ length before + length ms
few_added test before after ms e = omega (arith, ap length e, length-append before (numbers_of test 0 ms), few_numbers test 0 ms)

-- ---- those that are left

pub rest_left : (xs : List ℕ) (begun until : ℕ) → begun < until → take (until - (begun + 1)) (drop (begun + 1) xs) ≡ drop 1 (take (until - begun) (drop begun xs))
rest_left xs begun until l =
    let more : until - begun ≡ 1 + (until - (begun + 1)) = omega (arith, l) in
    let behind : drop 1 (drop begun xs) ≡ drop (begun + 1) xs = drop-drop 1 begun xs in
    rw (more, drop-take 1 (until - (begun + 1)) (drop begun xs), behind) refl
