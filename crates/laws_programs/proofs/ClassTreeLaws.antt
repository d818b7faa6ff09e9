-- The tree of classes, class by class.
use Rattle.std.proofs.{Common.{◌≡◌, ℕ, ◌≤◌, true, false, ◌&&◌, ◌||◌, refl, subst, arith, ◌==◌, nat_le, nat_lt}, lemmas.Bool.Decides.nat_tests}
use Rattle.jvm_types.specs.{ClassTree.{super_class, ancestors, is_subclass, built_in_supers}, Numbers.has_number, declared.class_numbers.TheConstants.THROWABLE_CLASS}
use Rattle.jvm_types.proofs.{ClassCases.{behind, by_class}, TypeOrder.pick}
use Rattle.laws_programs.specs.ClassLaws.{LeavesStandAlone, FileClassesStandAlone, ThrowablesAreBelow}

-- ---- classes that are just above none

pub super_in : (c : ℕ) → has_number built_in_supers (super_class c) ≡ true
super_in = by_class (λ c. has_number built_in_supers (super_class c) ≡ true) (refl, (refl, (refl, (refl, (refl, (refl, (refl, (refl, (refl, (refl, (refl, (refl, (refl, (refl, (refl, (refl, tt)))))))))))))))) (λ c. refl)

no_super : (c d : ℕ) → has_number built_in_supers d ≡ false → super_class c ≡ d → ⊥
no_super c d n e = let is : has_number built_in_supers d ≡ true = subst (λ (x : ℕ). has_number built_in_supers x ≡ true) e (super_in c) in absurd (cc)

pub leaves_alone : LeavesStandAlone
unfolding is_subclass
leaves_alone c d n h = pick (ancestors c) d h (λ e. e, (λ e. absurd (no_super c d n e), (λ e. absurd (no_super (super_class c) d n e), (λ e. absurd (no_super (super_class (super_class c)) d n e), (λ e. absurd (no_super (super_class (super_class (super_class c))) d n e), tt)))))

-- no class of a file is just above another
past_supers : (c : ℕ) → 17 ≤ c → has_number built_in_supers c ≡ false
past_supers c h = grind (arith, nat_tests, h)

pub files_alone : FileClassesStandAlone
files_alone c d n h = leaves_alone c d (past_supers d n) h

-- ---- throwables

-- a class behind the built-in ones
past : (c : ℕ) → 16 ≤ c → (c == 4) || false ≡ (nat_le 4 c && nat_lt c 16)
past c h = grind (arith, nat_tests, h)

pub throwables_below : ThrowablesAreBelow
unfolding is_subclass
throwables_below = by_class (λ c. is_subclass c THROWABLE_CLASS ≡ (nat_le 4 c && nat_lt c 16)) (refl, (refl, (refl, (refl, (refl, (refl, (refl, (refl, (refl, (refl, (refl, (refl, (refl, (refl, (refl, (refl, tt)))))))))))))))) (λ c. past (behind 16 c) (omega arith))
