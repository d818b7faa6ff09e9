-- The objects of a class have few fields.
use Rattle.std.{proofs.Common.{◌≡◌, ℕ, suc, ◌+◌, ◌-◌, ◌<◌, ◌≤◌, Bool, true, false, cond, not, ◌&&◌, List, [], ◌∷◌, take, Some, refl, ap, ◌∙◌, subst, arith, ◌==◌, slice_get}, specs.List.count_by}
use Rattle.std.proofs.lemmas.Bool.Decides.{nat_tests}
use Rattle.jvm_types.{specs.{Members.is_static, ProgramInvariant.{IsProgram, instances_among}, declared.program.{FieldInfo.FieldInfo, Program.Program}}, proofs.EachAfter.sum_first}

module _ {X : Type 0} (test : X → Bool) where
  counts_first : (b : Bool) (x : X) (xs : List X) → test x ≡ b → count_by test (x ∷ xs) ≡ cond b 1 0 + count_by test xs
  counts_first b x xs e = sum_first (λ y. cond (test y) 1 0) x xs ∙ ap (λ (c : Bool). cond {A = ℕ} c 1 0 + count_by test xs) e

  by_first : (b : Bool) (x : X) (xs : List X) (most : ℕ) → test x ≡ b
      → (test x ≡ true → (0 < most) × (count_by test xs ≤ most - 1)) → (test x ≡ false → count_by test xs ≤ most) → count_by test (x ∷ xs) ≤ most
  by_first true x xs most e h k = omega (arith, counts_first true x xs e, (h e).0, (h e).1)
  by_first false x xs most e h k = omega (arith, counts_first false x xs e, k e)

  -- where fewer than so many stand before each one that passes
  pub counts_few : (most : ℕ) (xs : List X)
      → ((i : ℕ) (x : X) → slice_get xs i ≡ Some x → test x ≡ true → count_by test (take i xs) < most) → count_by test xs ≤ most
  counts_few most [] h = omega arith
  counts_few most (x ∷ xs) h = by_first (test x) x xs most refl
      (λ yes. (h 0 x refl yes, counts_few (most - 1) xs (λ i y at passes. omega (arith, h (suc i) y at passes, counts_first true x (take i xs) yes))))
      (λ fails. counts_few most xs (λ i y at passes. omega (arith, h (suc i) y at passes, counts_first false x (take i xs) fails)))

same_class : (n m : ℕ) (b : Bool) → (n == m) && b ≡ true → n ≡ m
same_class n m b e = grind (arith, nat_tests, e)

pub few_fields : (p : Program) (class : ℕ) → IsProgram p → instances_among class p.fields ≤ 65535
few_fields p class is = counts_few (λ f. (f.class == class) && not (is_static f.flags)) 65535 p.fields few
  where
    few : (i : ℕ) (f : FieldInfo) → slice_get p.fields i ≡ Some f → (f.class == class) && not (is_static f.flags) ≡ true → instances_among class (take i p.fields) < 65535
    few i f at passes = subst (λ (c : ℕ). instances_among c (take i p.fields) < 65535) (same_class f.class class (not (is_static f.flags)) passes) (is.fields i f at).few
