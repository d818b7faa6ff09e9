-- The first of some rules.
use Rattle.std.proofs.{Common.{◌≡◌, ℕ, zero, suc, ◌<◌, ◌≤◌, ◌≢◌, Bool, true, false, refl, sym, subst, arith, ⊎_elim, ◌∙◌, ◌==◌, nat_lt, if◌then◌else◌}, lemmas.Bool.{cases_eq, Decides.nat_tests}}
use Rattle.guard_analysis.specs.SectionGrades.{earlier, earliest_before}

-- one of the two, and before each of them that is a rule
pub record IsEarlier (n k e : ℕ) : Type 0 where
  pub first : 0 < n → (0 < e) × (e ≤ n)
  pub second : 0 < k → (0 < e) × (e ≤ k)
  pub one : 0 < e → (e ≢ n → e ≡ k)

earlier_is : (n k : ℕ) → IsEarlier n k (earlier n k)
earlier_is n k = by_test (k == 0) (n == 0) (nat_lt k n) refl refl refl
  where
    by_test : (a b c : Bool) → (k == 0) ≡ a → (n == 0) ≡ b → nat_lt k n ≡ c → IsEarlier n k (if a then n else if b then k else if c then k else n)
    by_test true b c e f g = let z : k ≡ 0 = grind (arith, nat_tests) in record { first = λ h. (h, omega arith); second = λ h. absurd (omega (arith, h, z)); one = λ h q. absurd (q refl) }
    by_test false true c e f g = let z : n ≡ 0 = grind (arith, nat_tests) in record { first = λ h. absurd (omega (arith, h, z)); second = λ h. (h, omega arith); one = λ h q. refl }
    by_test false false true e f g = let some : k ≢ 0 = grind (arith, nat_tests) in let less : k < n = grind (arith, nat_tests) in record { first = λ h. (omega (arith, some), omega (arith, less)); second = λ h. (h, omega arith); one = λ h q. refl }
    by_test false false false e f g = let some : n ≢ 0 = grind (arith, nat_tests) in let less : n ≤ k = grind (arith, nat_tests) in record { first = λ h. (h, omega arith); second = λ h. (omega (arith, some), less); one = λ h q. absurd (q refl) }

pub record IsEarliest (rule : ℕ → ℕ) (k n : ℕ) : Type 0 where
  pub some : 0 < n → (t : ℕ) × (t < k) × (rule t ≡ n)
  pub first : (t : ℕ) → t < k → 0 < rule t → (0 < n) × (n ≤ rule t)

pub earliest_is : (rule : ℕ → ℕ) (k : ℕ) → IsEarliest rule k (earliest_before rule k)
earliest_is rule zero = record { some = λ h. absurd (omega (arith, h)); first = λ t l. absurd (omega (arith, l)) }
earliest_is rule (suc k) =
    let rest = earliest_is rule k in
    let here = earlier_is (earliest_before rule k) (rule k) in
    record {
      some = λ h. ⊎_elim
          (λ (q : earlier (earliest_before rule k) (rule k) ≡ earliest_before rule k). let r = rest.some (subst (λ x. 0 < x) q h) in let low : r.0 < k = r.1 in (r.0, omega (arith, low), r.2 ∙ sym q))
          (λ (q : earlier (earliest_before rule k) (rule k) ≢ earliest_before rule k). (k, omega arith, sym (here.one h q)))
          (cases_eq (earlier (earliest_before rule k) (rule k)) (earliest_before rule k));
      first = λ t l h. ⊎_elim
          (λ (q : t ≡ k). subst (λ x. (0 < earlier (earliest_before rule k) (rule k)) × (earlier (earliest_before rule k) (rule k) ≤ rule x)) (sym q) (here.second (subst (λ x. 0 < rule x) q h)))
          (λ (q : t ≢ k). let r = rest.first t (omega (arith, l, q)) h in let s = here.first r.0 in let below : earliest_before rule k ≤ rule t = r.1 in let under : earlier (earliest_before rule k) (rule k) ≤ earliest_before rule k = s.1 in (s.0, omega (arith, below, under)))
          (cases_eq t k);
    }
