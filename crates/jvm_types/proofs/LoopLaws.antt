-- Reading in a loop: what was read before, and what is still to be read, give what reading gives from the start.
use Rattle.std.proofs.Common.{◌≡◌, ℕ, zero, suc, ◌+◌, ◌-◌, ◌<◌, ◌≤◌, Bool, true, false, ltb, List, [], ◌∷◌, ◌++◌, length, get_or, drop, Some, Result, Ok, Err, refl, sym, ap, ◌∙◌, append_assoc, add-one, arith, ◌&&◌, ◌==◌, slice_get}
use Rattle.std.proofs.{Math.{ListN.drop_of_length-le, Seq.drop-cons}, lemmas.{Bool.{and_from, and_parts, lt-ltb, ltb-true, false_from_ne_true, Decides.nat_tests}, List.{append-nil, length-drop}}}
use Rattle.jvm_types.specs.{ClassGrammar.{IsUtf8Byte, is_wide}, ReadingPool.{text_wanted, constant_at, entries_at, entry_wanted, entries_wanted}, ReadingSteps.{Fault, fault, ◌>>=◌, many_at}}
use Rattle.jvm_types.specs.{Spelling.constant, declared.{class_file.Constant.{Constant, TheVariants.Gap}, refusal.CRule.TheVariants.C6}}

-- what was read before, and what is still read
abbrev pub with_front : {A : Type 0} → List A → Result (List A × List ℕ) Fault → Result (List A × List ℕ) Fault
with_front front read = read >>= λ x. Ok (front ++ x.0, x.1)

pushed : {A : Type 0} (front : List A) (first : A) (read : Result (List A × List ℕ) Fault) → with_front front (read >>= λ x. Ok (first ∷ x.0, x.1)) ≡ with_front (front ++ first ∷ []) read
pushed {A = A} front first (Ok x) = ap (λ (xs : List A). Ok (xs, x.1)) (simp append_assoc)
pushed front first (Err f) = refl

-- ---- items, as many as a count says

pub many_more : {A : Type 0} (item_at : List ℕ → Result (A × List ℕ) Fault) (front : List A) (count i : ℕ) (bytes : List ℕ) (first : A) (after : List ℕ) (total : Result (List A × List ℕ) Fault) → i < count
    → item_at bytes ≡ Ok (first, after) → with_front front (many_at item_at (count - i) bytes) ≡ total → with_front (front ++ first ∷ []) (many_at item_at (count - (i + 1)) after) ≡ total
unfolding many_at
many_more item_at front count i bytes first after total lt h so_far =
    let k : count - i ≡ suc (count - (i + 1)) = omega arith in
    let one : with_front front (many_at item_at (count - i) bytes) ≡ with_front (front ++ first ∷ []) (many_at item_at (count - (i + 1)) after) = rw (k, h) (pushed front first (many_at item_at (count - (i + 1)) after)) in
    sym one ∙ so_far

pub many_stops : {A : Type 0} (item_at : List ℕ → Result (A × List ℕ) Fault) (front : List A) (count i : ℕ) (bytes : List ℕ) (f : Fault) (total : Result (List A × List ℕ) Fault) → i < count
    → item_at bytes ≡ Err f → with_front front (many_at item_at (count - i) bytes) ≡ total → total ≡ Err f
unfolding many_at
many_stops item_at front count i bytes f total lt h so_far =
    let k : count - i ≡ suc (count - (i + 1)) = omega arith in
    let one : with_front front (many_at item_at (count - i) bytes) ≡ Err f = rw (k, h) refl in
    sym so_far ∙ one

pub many_done : {A : Type 0} (item_at : List ℕ → Result (A × List ℕ) Fault) (front : List A) (count i : ℕ) (bytes : List ℕ) (total : Result (List A × List ℕ) Fault) → count ≤ i
    → with_front front (many_at item_at (count - i) bytes) ≡ total → total ≡ Ok (front, bytes)
unfolding many_at
many_done {A = A} item_at front count i bytes total le so_far =
    let k : count - i ≡ 0 = omega arith in
    let one : with_front front (many_at item_at (count - i) bytes) ≡ Ok (front, bytes) = rw k (ap (λ (x : List A). Ok (x, bytes)) (append-nil front)) in
    sym so_far ∙ one

-- ---- the indices of the pool, of which i were passed

pub entries_gap : (front : List Constant) (count i : ℕ) (bytes : List ℕ) (total : Result (List Constant × List ℕ) Fault) → i < count
    → with_front front (entries_at (count - i) true bytes) ≡ total → with_front (front ++ Gap ∷ []) (entries_at (count - (i + 1)) false bytes) ≡ total
unfolding entries_at
entries_gap front count i bytes total lt so_far =
    let k : count - i ≡ suc (count - (i + 1)) = omega arith in
    let one : with_front front (entries_at (count - i) true bytes) ≡ with_front (front ++ Gap ∷ []) (entries_at (count - (i + 1)) false bytes) = rw k (pushed front Gap (entries_at (count - (i + 1)) false bytes)) in
    sym one ∙ so_far

pub entries_more : (front : List Constant) (count i : ℕ) (bytes : List ℕ) (first : Constant) (after : List ℕ) (total : Result (List Constant × List ℕ) Fault) → i < count
    → constant_at bytes ≡ Ok (first, after) → with_front front (entries_at (count - i) false bytes) ≡ total → with_front (front ++ first ∷ []) (entries_at (count - (i + 1)) (is_wide first) after) ≡ total
unfolding entries_at
entries_more front count i bytes first after total lt h so_far =
    let k : count - i ≡ suc (count - (i + 1)) = omega arith in
    let one : with_front front (entries_at (count - i) false bytes) ≡ with_front (front ++ first ∷ []) (entries_at (count - (i + 1)) (is_wide first) after) = rw (k, h) (pushed front first (entries_at (count - (i + 1)) (is_wide first) after)) in
    sym one ∙ so_far

pub entries_stop : (front : List Constant) (count i : ℕ) (bytes : List ℕ) (f : Fault) (total : Result (List Constant × List ℕ) Fault) → i < count
    → constant_at bytes ≡ Err f → with_front front (entries_at (count - i) false bytes) ≡ total → total ≡ Err f
unfolding entries_at
entries_stop front count i bytes f total lt h so_far =
    let k : count - i ≡ suc (count - (i + 1)) = omega arith in
    let one : with_front front (entries_at (count - i) false bytes) ≡ Err f = rw (k, h) refl in
    sym so_far ∙ one

pub entries_done : (front : List Constant) (count i : ℕ) (due : Bool) (bytes : List ℕ) (total : Result (List Constant × List ℕ) Fault) → count ≤ i
    → with_front front (entries_at (count - i) due bytes) ≡ total → total ≡ Ok (front, bytes)
unfolding entries_at
entries_done front count i due bytes total le so_far =
    let k : count - i ≡ 0 = omega arith in
    let one : with_front front (entries_at (count - i) due bytes) ≡ Ok (front, bytes) = rw k (ap (λ (x : List Constant). Ok (x, bytes)) (append-nil front)) in
    sym so_far ∙ one

-- ---- the bytes of a text, of which i were passed

utf8_test : (b : ℕ) → IsUtf8Byte b → (ltb 0 b && ltb b 240) ≡ true
utf8_test b is = and_from _ _ (lt-ltb 0 b is.0) (lt-ltb b 240 is.1)

pub text_more : (text : List ℕ) (behind i : ℕ) (total : Result (Unit {0}) Fault) → i < length text → IsUtf8Byte (get_or text i 0) → text_wanted (drop i text) behind ≡ total → text_wanted (drop (i + 1) text) behind ≡ total
unfolding text_wanted
text_more text behind i total lt is so_far =
    let one : text_wanted (drop i text) behind ≡ text_wanted (drop (i + 1) text) behind = rw (add-one, drop-cons text i 0 lt, utf8_test (get_or text i 0) is) in
    sym one ∙ so_far

pub text_stops : (text : List ℕ) (behind i : ℕ) (total : Result (Unit {0}) Fault) → i < length text → (IsUtf8Byte (get_or text i 0) → ⊥) → text_wanted (drop i text) behind ≡ total → total ≡ fault C6 (length text - i + behind)
unfolding text_wanted
text_stops text behind i total lt bad so_far =
    let test : (ltb 0 (get_or text i 0) && ltb (get_or text i 0) 240) ≡ false = false_from_ne_true _ λ e. bad (ltb-true _ _ (and_parts _ _ e).0, ltb-true _ _ (and_parts _ _ e).1) in
    let left : length (get_or text i 0 ∷ drop (suc i) text) ≡ length text - i = ap length (sym (drop-cons text i 0 lt)) ∙ length-drop i text in
    let one : text_wanted (drop i text) behind ≡ fault C6 (length (get_or text i 0 ∷ drop (suc i) text) + behind) = rw (drop-cons text i 0 lt, test) in
    sym so_far ∙ one ∙ ap (λ (n : ℕ). fault C6 (n + behind)) left

pub text_done : (text : List ℕ) (behind i : ℕ) (total : Result (Unit {0}) Fault) → length text ≤ i → text_wanted (drop i text) behind ≡ total → total ≡ Ok tt
unfolding text_wanted
text_done text behind i total le so_far = sym so_far ∙ ap (λ (x : List ℕ). text_wanted x behind) (drop_of_length-le text le)

-- ---- the indices of the pool's own entries, of which i were looked at

drop_some : (pool : List Constant) (i : ℕ) (c : Constant) → slice_get pool i ≡ Some c → drop i pool ≡ c ∷ drop (suc i) pool
drop_some [] i c e = absurd cc
drop_some (d ∷ pool) zero c e = let same : d ≡ c = cc in ap (λ (x : Constant). x ∷ pool) same
drop_some (d ∷ pool) (suc i) c e = drop_some pool i c e

last_test : (i n : ℕ) → i < n → (n - suc i == 0) ≡ (i + 1 == n)
last_test i n lt = grind (arith, nat_tests)

pub checks_more : (pool : List Constant) (i left : ℕ) (c : Constant) (total : Result (Unit {0}) Fault) → slice_get pool i ≡ Some c → i < length pool → entry_wanted pool c (i + 1 == length pool) left ≡ Ok tt
    → entries_wanted pool (drop i pool) left ≡ total → entries_wanted pool (drop (i + 1) pool) (left - length (constant c)) ≡ total
unfolding entries_wanted
checks_more pool i left c total at lt ok so_far =
    let one : entries_wanted pool (drop i pool) left ≡ entries_wanted pool (drop (i + 1) pool) (left - length (constant c)) = rw (add-one, drop_some pool i c at, length-drop (suc i) pool, last_test i (length pool) lt, ok) in
    sym one ∙ so_far

pub checks_stop : (pool : List Constant) (i left : ℕ) (c : Constant) (f : Fault) (total : Result (Unit {0}) Fault) → slice_get pool i ≡ Some c → i < length pool → entry_wanted pool c (i + 1 == length pool) left ≡ Err f
    → entries_wanted pool (drop i pool) left ≡ total → total ≡ Err f
unfolding entries_wanted
checks_stop pool i left c f total at lt bad so_far =
    let one : entries_wanted pool (drop i pool) left ≡ Err f = rw (drop_some pool i c at, length-drop (suc i) pool, last_test i (length pool) lt, bad) in
    sym so_far ∙ one

pub checks_done : (pool : List Constant) (i left : ℕ) (total : Result (Unit {0}) Fault) → length pool ≤ i → entries_wanted pool (drop i pool) left ≡ total → total ≡ Ok tt
unfolding entries_wanted
checks_done pool i left total le so_far = sym so_far ∙ ap (λ (cs : List Constant). entries_wanted pool cs left) (drop_of_length-le pool le)
