-- The roots of a part are methods of the program.
use Rattle.std.proofs.Common.{◌≡◌, ◌<◌, ℕ, zero, suc, ◌+◌, Bool, true, false, List, [], ◌∷◌, ◌++◌, length, arith, IfSome, IsTrue, slice_get, if◌then◌else◌, codes}
use Rattle.std.specs.List.{AllByRecursion}
use Rattle.lists.proofs.ListLaws.{all_weaker}
use Rattle.jvm_types.{specs.{Members.is_class_init_name, Numbers.has_number, declared.program.{MethodInfo.MethodInfo, Program.Program}}, proofs.TypeOrder.picked}
use Rattle.machine_types.specs.{Bounds.{FramesFit, part_roots}, Parts.{numbers_of, is_entry_named, init_roots}, Threads.Frame, declared.phase.Phase.TheVariants.Start}

all_of : (P : ℕ → Type 0) (xs ys : List ℕ) → AllByRecursion P xs → AllByRecursion P ys → AllByRecursion P (xs ++ ys)
all_of P [] ys a b = b
all_of P (x ∷ xs) ys a b = (a.0, all_of P xs ys a.1 b)

numbers_within : (test : MethodInfo → Bool) (n : ℕ) (ms : List MethodInfo) → AllByRecursion (λ k. k < n + length ms) (numbers_of test n ms)
numbers_within test n [] = tt
numbers_within test n (m ∷ ms) = by_test (test m) (all_weaker (λ k. k < suc n + length ms) (λ k. k < n + suc (length ms)) (λ k h. omega (arith, h)) (numbers_of test (suc n) ms) (numbers_within test (suc n) ms))
  where
    by_test : (t : Bool) → AllByRecursion (λ k. k < n + suc (length ms)) (numbers_of test (suc n) ms)
        → AllByRecursion (λ k. k < n + suc (length ms)) (if t then n ∷ numbers_of test (suc n) ms else numbers_of test (suc n) ms)
    by_test true all = (omega arith, all)
    by_test false all = all

methods_within : (test : MethodInfo → Bool) (ms : List MethodInfo) → AllByRecursion (λ k. k < length ms) (numbers_of test 0 ms)
methods_within test ms = all_weaker (λ k. k < 0 + length ms) (λ k. k < length ms) (λ k h. omega (arith, h)) (numbers_of test 0 ms) (numbers_within test 0 ms)

first_within : (p : Program) → AllByRecursion (λ k. k < length p.methods) (init_roots p)
first_within p =
    all_of (λ k. k < length p.methods) (numbers_of (λ m. is_class_init_name m.name) 0 p.methods) (numbers_of (is_entry_named (codes "init") (codes "()V")) 0 p.methods) (methods_within (λ m. is_class_init_name m.name) p.methods)
    (methods_within (is_entry_named (codes "init") (codes "()V")) p.methods)

all_within : (p : Program) (number part : ℕ) → AllByRecursion (λ k. k < length p.methods) (part_roots p number part)
all_within p zero zero = first_within p
all_within p zero (suc zero) = first_within p
all_within p zero (suc (suc part)) = methods_within (is_entry_named (codes "done") (codes "()V")) p.methods
all_within p (suc t) part = methods_within (is_entry_named (codes "run") (codes "(I)V")) p.methods

pub first_there : (p : Program) (number part : ℕ) (roots : List ℕ) → AllByRecursion (λ root. IsTrue (has_number (part_roots p number part) root)) roots
    → IfSome (slice_get roots 0) (λ root. root < length p.methods)
first_there p number part [] all = tt
first_there p number part (root ∷ roots) all = picked (λ k. k < length p.methods) (part_roots p number part) root (all_within p number part) all.0

pub no_frame_yet : (frames : List Frame) (roots : List ℕ) → FramesFit Start frames roots → frames ≡ []
no_frame_yet frames [] fit = absurd fit
no_frame_yet frames (root ∷ roots) fit = fit
