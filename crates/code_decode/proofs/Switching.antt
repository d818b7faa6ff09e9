-- The loops over the offsets and pairs of a switch: what was read, and what is still to be read, are the whole.
use Rattle.std.proofs.Common.{◌≡◌, ℕ, suc, ◌+◌, ◌-◌, ◌*◌, ◌<◌, ◌≤◌, ℤ, Bool, true, List, [], ◌∷◌, ◌++◌, length, map, drop, nat_abs, refl, sym, ap, ◌∙◌, arith, length-drop, int_lt, ◌&&◌}
use Rattle.lists.proofs.ListLaws.{one_more}
use Rattle.jvm_types.specs.{CodeFault.{s4_of, landing, offsets, case_offsets, ascend}, ReadCode.cases_of, declared.code.Case.Case}

pub offsets_more : (pc n i : ℕ) (front : List ℤ) (rest : List ℕ) (all : List ℤ) → i < n → front ++ offsets pc (n - i) rest ≡ all
    → (front ++ landing pc (s4_of rest) ∷ []) ++ offsets pc (n - (i + 1)) (drop 4 rest) ≡ all
offsets_more pc n i front rest all lt h =
    let k : n - i ≡ suc (n - (i + 1)) = omega arith in
    one_more front _ (offsets pc (n - (i + 1)) (drop 4 rest)) all (sym (ap (λ m. front ++ offsets pc m rest) k) ∙ h)

pub pcs_more : (pc n i : ℕ) (front : List ℕ) (rest : List ℕ) (all : List ℕ) → i < n → front ++ map nat_abs (offsets pc (n - i) rest) ≡ all
    → (front ++ nat_abs (landing pc (s4_of rest)) ∷ []) ++ map nat_abs (offsets pc (n - (i + 1)) (drop 4 rest)) ≡ all
pcs_more pc n i front rest all lt h =
    let k : n - i ≡ suc (n - (i + 1)) = omega arith in
    one_more front _ (map nat_abs (offsets pc (n - (i + 1)) (drop 4 rest))) all (sym (ap (λ m. front ++ map nat_abs (offsets pc m rest)) k) ∙ h)

pub case_offsets_more : (pc n i : ℕ) (front : List ℤ) (rest : List ℕ) (all : List ℤ) → i < n → front ++ case_offsets pc (n - i) rest ≡ all
    → (front ++ landing pc (s4_of (drop 4 rest)) ∷ []) ++ case_offsets pc (n - (i + 1)) (drop 8 rest) ≡ all
case_offsets_more pc n i front rest all lt h =
    let k : n - i ≡ suc (n - (i + 1)) = omega arith in
    one_more front _ (case_offsets pc (n - (i + 1)) (drop 8 rest)) all (sym (ap (λ m. front ++ case_offsets pc m rest) k) ∙ h)

pub cases_more : (pc n i : ℕ) (front : List Case) (rest : List ℕ) (all : List Case) → i < n → front ++ cases_of pc (n - i) rest ≡ all
    → (front ++ record { key = s4_of rest; target = nat_abs (landing pc (s4_of (drop 4 rest))) } ∷ []) ++ cases_of pc (n - (i + 1)) (drop 8 rest) ≡ all
cases_more pc n i front rest all lt h =
    let k : n - i ≡ suc (n - (i + 1)) = omega arith in
    one_more front _ (cases_of pc (n - (i + 1)) (drop 8 rest)) all (sym (ap (λ m. front ++ cases_of pc m rest) k) ∙ h)

pub room_more : (n i size : ℕ) (rest : List ℕ) → i < n → size * (n - i) ≤ length rest → size * (n - (i + 1)) ≤ length (drop size rest)
room_more n i size rest lt h =
    let k : n - i ≡ suc (n - (i + 1)) = omega arith in
    rw (length-drop size rest) (grind (arith, k, h))

ascend_step : (n i : ℕ) (rest : List ℕ) → i < n → ascend (n - i + 1) rest ≡ int_lt (s4_of rest) (s4_of (drop 8 rest)) && ascend (n - (i + 1) + 1) (drop 8 rest)
ascend_step n i rest lt =
    let k : n - i + 1 ≡ suc (suc (n - (i + 1))) = omega arith in
    let j : n - (i + 1) + 1 ≡ suc (n - (i + 1)) = omega arith in
    rw k (rw j refl)

pub ascend_more : (n i : ℕ) (rest : List ℕ) (all : Bool) → i < n → int_lt (s4_of rest) (s4_of (drop 8 rest)) ≡ true → ascend (n - i + 1) rest ≡ all → ascend (n - (i + 1) + 1) (drop 8 rest) ≡ all
ascend_more n i rest all lt below h = sym (ascend_step n i rest lt ∙ ap (λ t. t && ascend (n - (i + 1) + 1) (drop 8 rest)) below) ∙ h
