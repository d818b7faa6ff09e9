-- What a step reads is spelled so, and what is spelled so is read again, whatever follows.
use Rattle.std.proofs.Common.{◌≡◌, ℕ, zero, suc, ◌^◌, ◌<◌, ◌≤◌, Bool, true, false, cond, ltb, List, [], ◌∷◌, ◌++◌, length, take, drop, get_or, Result, Ok, Err, refl, sym, ap, ◌∙◌, append_assoc, arith, IfOk}
use Rattle.std.{specs.List.{flat_map, AllByRecursion}, proofs.lemmas.{Bool.{ltb-false, le-ltb}, List.{take_at, drop_at, take-append-drop, length-append, length-take}, Result.IfOk-weaker}}
use Rattle.jvm_types.specs.{ClassGrammar.{IsByte, IsCounted}, Numbers.{u1, u2, u4}, ReadingSteps.{Fault, fault, ◌>>=◌, fault_unless, u1_at, u2_at, u4_at, byte_run_at, many_at, counted_at}}
use Rattle.jvm_types.{specs.{Spelling.counted, declared.refusal.CRule.{CRule, TheVariants.C3}}, proofs.ByteOrder.{two_back, u2_spelled, four_back, u4_spelled}}

-- ---- results

-- where a step does not fail, its answer is as told
pub record Finds {A : Type 0} (r : Result A Fault) (P : A → Type 0) : Type 0 where
  pub ok : IfOk r P

pub on_bind : {A B : Type 0} (r : Result A Fault) (f : A → Result B Fault) (P : A → Type 0) (Q : B → Type 0) → Finds r P → ((x : A) → P x → Finds (f x) Q) → Finds (r >>= f) Q
on_bind (Ok x) f P Q p h = h x p.ok
on_bind (Err e) f P Q p h = record { ok = tt }

-- the last step
pub weaker : {A : Type 0} {r : Result A Fault} {P : A → Type 0} (Q : A → Type 0) → Finds r P → ((x : A) → P x → Q x) → Finds r Q
weaker {r = r} {P = P} Q p h = record { ok = IfOk-weaker r P Q h p.ok }

-- a condition, and the steps after it
pub on_wanted : {B : Type 0} (b : Bool) (rule : CRule) (left : ℕ) (f : Unit {0} → Result B Fault) (Q : B → Type 0) → (b ≡ true → Finds (f tt) Q) → Finds (fault_unless b rule left >>= f) Q
on_wanted true rule left f Q h = h refl
on_wanted false rule left f Q h = record { ok = tt }

-- ---- numbers

abbrev pub IsBytes : List ℕ → Type 0
IsBytes bytes = AllByRecursion IsByte bytes

pub bytes_fit : (bytes : List ℕ) → ((i : ℕ) → get_or bytes i 0 < 256) → IsBytes bytes
bytes_fit [] h = tt
bytes_fit (b ∷ bytes) h = (h 0, bytes_fit bytes (λ i. h (suc i)))

-- what a step took from the front
pub record Took {A : Type 0} (spell : A → List ℕ) (Fits : A → Type 0) (bytes : List ℕ) (x : A × List ℕ) : Type 0 where
  pub parts : bytes ≡ spell x.0 ++ x.1
  pub fits : Fits x.0
  pub rest : IsBytes x.1

-- the two laws of a step
pub record Reads {A : Type 0} (spell : A → List ℕ) (Fits : A → Type 0) (item_at : List ℕ → Result (A × List ℕ) Fault) : Type 0 where
  pub takes : (bytes : List ℕ) → IsBytes bytes → Finds (item_at bytes) (Took spell Fits bytes)
  pub again : (x : A) (rest : List ℕ) → Fits x → item_at (spell x ++ rest) ≡ Ok (x, rest)

-- a step, and the steps after it
pub on_step : {A B : Type 0} {spell : A → List ℕ} {Fits : A → Type 0} {item_at : List ℕ → Result (A × List ℕ) Fault} (reads : Reads spell Fits item_at) (bytes : List ℕ) → IsBytes bytes
    → (f : A × List ℕ → Result B Fault) (Q : B → Type 0) → ((x : A × List ℕ) → Took spell Fits bytes x → Finds (f x) Q) → Finds (item_at bytes >>= f) Q
on_step {spell = spell} {Fits = Fits} {item_at = item_at} reads bytes fits f Q h = on_bind (item_at bytes) f (Took spell Fits bytes) Q (reads.takes bytes fits) h

pub u2_takes : (bytes : List ℕ) → IsBytes bytes → Finds (u2_at bytes) (Took u2 (λ n. n < 2 ^ 16) bytes)
unfolding u2_at
u2_takes (a ∷ b ∷ rest) fits = record { ok = record { parts = ap (λ (text : List ℕ). text ++ rest) (sym (u2_spelled a b fits.0 fits.1.0)); fits = omega arith; rest = fits.1.1 } }
u2_takes (a ∷ []) fits = record { ok = tt }
u2_takes [] fits = record { ok = tt }

pub u2_again : (n : ℕ) (rest : List ℕ) → u2_at (u2 n ++ rest) ≡ Ok (n, rest)
unfolding u2_at
u2_again n rest = rw (two_back n)

pub u2_reads : Reads u2 (λ n. n < 2 ^ 16) u2_at
u2_reads = record { takes = u2_takes; again = λ n rest fits. u2_again n rest }

pub u4_takes : (bytes : List ℕ) → IsBytes bytes → Finds (u4_at bytes) (Took u4 (λ n. n < 2 ^ 32) bytes)
unfolding u4_at
u4_takes (a ∷ b ∷ c ∷ d ∷ rest) fits = record { ok = record { parts = ap (λ (text : List ℕ). text ++ rest) (sym (u4_spelled a b c d fits.0 fits.1.0 fits.1.1.0 fits.1.1.1.0)); fits = omega arith; rest = fits.1.1.1.1 } }
u4_takes (a ∷ b ∷ c ∷ []) fits = record { ok = tt }
u4_takes (a ∷ b ∷ []) fits = record { ok = tt }
u4_takes (a ∷ []) fits = record { ok = tt }
u4_takes [] fits = record { ok = tt }

pub u4_again : (n : ℕ) (rest : List ℕ) → u4_at (u4 n ++ rest) ≡ Ok (n, rest)
unfolding u4_at
u4_again n rest = rw (four_back n)

pub u4_reads : Reads u4 (λ n. n < 2 ^ 32) u4_at
u4_reads = record { takes = u4_takes; again = λ n rest fits. u4_again n rest }

pub u1_takes : (bytes : List ℕ) → IsBytes bytes → Finds (u1_at bytes) (Took u1 (λ n. n < 256) bytes)
unfolding u1_at
u1_takes (a ∷ rest) fits = record { ok = record { parts = refl; fits = fits.0; rest = fits.1 } }
u1_takes [] fits = record { ok = tt }

pub u1_again : (n : ℕ) (rest : List ℕ) → u1_at (u1 n ++ rest) ≡ Ok (n, rest)
unfolding u1_at
u1_again n rest = refl

pub u1_reads : Reads u1 (λ n. n < 256) u1_at
u1_reads = record { takes = u1_takes; again = λ n rest fits. u1_again n rest }

-- ---- runs

IsBytes-take : (n : ℕ) (bytes : List ℕ) → IsBytes bytes → IsBytes (take n bytes)
IsBytes-take zero bytes fits = tt
IsBytes-take (suc n) [] fits = tt
IsBytes-take (suc n) (b ∷ bytes) fits = (fits.0, IsBytes-take n bytes fits.1)

IsBytes-drop : (n : ℕ) (bytes : List ℕ) → IsBytes bytes → IsBytes (drop n bytes)
IsBytes-drop zero bytes fits = fits
IsBytes-drop (suc n) [] fits = tt
IsBytes-drop (suc n) (b ∷ bytes) fits = IsBytes-drop n bytes fits.1

pub on_if : {A : Type 0} (b : Bool) (rule : CRule) (left : ℕ) (x : A) (Q : A → Type 0) → (b ≡ false → Q x) → Finds (cond b (fault rule left) (Ok x)) Q
on_if true rule left x Q h = record { ok = tt }
on_if false rule left x Q h = record { ok = h refl }

pub record IsRun (n : ℕ) (text : List ℕ) : Type 0 where
  pub count : length text ≡ n
  pub bytes : IsBytes text

pub run_takes : (n : ℕ) (bytes : List ℕ) → IsBytes bytes → Finds (byte_run_at n bytes) (Took (λ text. text) (IsRun n) bytes)
unfolding byte_run_at
run_takes n bytes fits = on_if (ltb (length bytes) n) C3 (length bytes) (take n bytes, drop n bytes) (Took (λ text. text) (IsRun n) bytes) λ no.
    let long : n ≤ length bytes = ltb-false _ _ no in
    record { parts = sym (take-append-drop n bytes); fits = record { count = omega (arith, length-take n bytes); bytes = IsBytes-take n bytes fits }; rest = IsBytes-drop n bytes fits }

pub run_again : (text rest : List ℕ) → byte_run_at (length text) (text ++ rest) ≡ Ok (text, rest)
unfolding byte_run_at
run_again text rest =
    let long : ltb (length (text ++ rest)) (length text) ≡ false = le-ltb _ _ (omega (arith, length-append text rest)) in
    rw (long, take_at text rest (length text) refl, drop_at text rest (length text) refl)

pub run_reads : (n : ℕ) → Reads (λ text. text) (IsRun n) (byte_run_at n)
run_reads n = record { takes = run_takes n; again = λ text rest fits. rw (← fits.count) (run_again text rest) }

-- ---- lists

pub record AreMany {A : Type 0} (Fits : A → Type 0) (n : ℕ) (xs : List A) : Type 0 where
  pub count : length xs ≡ n
  pub each : AllByRecursion Fits xs

pub many_takes : {A : Type 0} (spell : A → List ℕ) (Fits : A → Type 0) (item_at : List ℕ → Result (A × List ℕ) Fault) → Reads spell Fits item_at
    → (n : ℕ) (bytes : List ℕ) → IsBytes bytes → Finds (many_at item_at n bytes) (Took (flat_map spell) (AreMany Fits n) bytes)
unfolding many_at
many_takes spell Fits item_at reads zero bytes fits = record { ok = record { parts = refl; fits = record { count = refl; each = tt }; rest = fits } }
many_takes spell Fits item_at reads (suc n) bytes fits =
    on_step reads bytes fits _ _ λ first a.
    on_bind _ _ _ _ (many_takes spell Fits item_at reads n first.1 a.rest) λ others b.
    record {
      ok = record {
        parts = a.parts ∙ ap (λ (x : List ℕ). spell first.0 ++ x) b.parts ∙ sym (append_assoc (spell first.0) (flat_map spell others.0) others.1);
        fits = record { count = ap suc b.fits.count; each = (a.fits, b.fits.each) };
        rest = b.rest;
      };
    }

pub many_again : {A : Type 0} (spell : A → List ℕ) (Fits : A → Type 0) (item_at : List ℕ → Result (A × List ℕ) Fault) → Reads spell Fits item_at
    → (xs : List A) (rest : List ℕ) → AllByRecursion Fits xs → many_at item_at (length xs) (flat_map spell xs ++ rest) ≡ Ok (xs, rest)
unfolding many_at
many_again spell Fits item_at reads [] rest each = refl
many_again spell Fits item_at reads (x ∷ xs) rest each =
    rw (append_assoc (spell x) (flat_map spell xs) rest, reads.again x (flat_map spell xs ++ rest) each.0, many_again spell Fits item_at reads xs rest each.1)

pub counted_reads : {A : Type 0} (spell : A → List ℕ) (Fits : A → Type 0) (item_at : List ℕ → Result (A × List ℕ) Fault) → Reads spell Fits item_at
    → Reads (counted spell) (IsCounted Fits) (counted_at item_at)
unfolding counted_at
counted_reads spell Fits item_at reads = record {
  takes = λ bytes fits.
      on_step u2_reads bytes fits _ _ λ n a.
      weaker (Took (counted spell) (IsCounted Fits) bytes) (many_takes spell Fits item_at reads n.0 n.1 a.rest) λ xs b.
      record {
        parts = a.parts ∙ ap (λ (x : List ℕ). u2 n.0 ++ x) b.parts ∙ ap (λ (k : ℕ). u2 k ++ (flat_map spell xs.0 ++ xs.1)) (sym b.fits.count);
        fits = record { count = rw b.fits.count a.fits; each = b.fits.each };
        rest = b.rest;
      };
  again = λ xs rest fits. rw (u2_again (length xs) (flat_map spell xs ++ rest), many_again spell Fits item_at reads xs rest fits.each);
}
