-- `done` of a linked program is one method at most.
use Rattle.std.proofs.Common.{◌≡◌, ℕ, suc, Bool, true, false, List, [], ◌∷◌, Some, refl, sym, ◌∙◌, arith, ◌==◌, ◌&&◌, bytes_eq, codes, slice_get, if◌then◌else◌}
use Rattle.std.proofs.lemmas.{Bool.{and_from, and_parts, eq-eqb, eqb-true}, Slice.Eq.bytes_eq-Decides}
use Rattle.jvm_types.specs.{ClassNames.file_class, ProgramInvariant.{IsProgram, is_same_method}, declared.program.{MethodInfo.MethodInfo, Program.Program}}
use Rattle.laws_programs.specs.RootLaws.{OneMethod}
use Rattle.machine_types.specs.Parts.{numbers_of, is_entry_named, done_roots}

-- ---- of methods of which one passes a test

none_passes : (test : MethodInfo → Bool) (n : ℕ) (ms : List MethodInfo) → ((i : ℕ) (m : MethodInfo) → slice_get ms i ≡ Some m → test m ≡ true → ⊥) → numbers_of test n ms ≡ []
none_passes test n [] none = refl
none_passes test n (m ∷ ms) none = (elim (test m) as (λ (b : Bool). test m ≡ b → numbers_of test (suc n) ms ≡ [] → (if b then n ∷ numbers_of test (suc n) ms else numbers_of test (suc n) ms) ≡ [])
    [ true ↦ λ e more. absurd (none 0 m refl e) | false ↦ λ e more. more ]) refl (none_passes test (suc n) ms (λ i x e t. none (suc i) x e t))

abbrev OnePasses : (MethodInfo → Bool) → List MethodInfo → Type 0
OnePasses test ms = (i j : ℕ) (m other : MethodInfo) → slice_get ms i ≡ Some m → slice_get ms j ≡ Some other → test m ≡ true → test other ≡ true → i ≡ j

one_number : (test : MethodInfo → Bool) (n : ℕ) (ms : List MethodInfo) → OnePasses test ms → (number : ℕ) (rest : List ℕ) → numbers_of test n ms ≡ number ∷ rest → rest ≡ []
one_number test n [] one number rest e = absurd (cc)
one_number test n (m ∷ ms) one number rest e = by_test (test m) refl e (λ f. one_number test (suc n) ms (λ i j x y g h p q. let same : suc i ≡ suc j = one (suc i) (suc j) x y g h p q in omega (arith, same)) number rest f)
    (λ t. none_passes test (suc n) ms (λ i x g p. let same : 0 ≡ suc i = one 0 (suc i) m x refl g t p in absurd (omega (arith, same))))
  where
    by_test : (b : Bool) → test m ≡ b → (if b then n ∷ numbers_of test (suc n) ms else numbers_of test (suc n) ms) ≡ number ∷ rest → (numbers_of test (suc n) ms ≡ number ∷ rest → rest ≡ [])
        → (test m ≡ true → numbers_of test (suc n) ms ≡ []) → rest ≡ []
    by_test true t e more none = let empty : numbers_of test (suc n) ms ≡ [] = none t in cc
    by_test false t e more none = more e

-- ---- entries

same_entry : (name descriptor : List ℕ) (m other : MethodInfo) → is_entry_named name descriptor m ≡ true → is_entry_named name descriptor other ≡ true → is_same_method m other ≡ true
same_entry name descriptor m other e f =
    let a = and_parts ((m.class == file_class 0) && bytes_eq m.name name) (bytes_eq m.descriptor descriptor) e in
    let b = and_parts (m.class == file_class 0) (bytes_eq m.name name) a.0 in
    let c = and_parts ((other.class == file_class 0) && bytes_eq other.name name) (bytes_eq other.descriptor descriptor) f in
    let d = and_parts (other.class == file_class 0) (bytes_eq other.name name) c.0 in
    and_from (m.class == other.class) (bytes_eq m.name other.name && bytes_eq m.descriptor other.descriptor) (eq-eqb m.class other.class (eqb-true m.class (file_class 0) b.0 ∙ sym (eqb-true other.class (file_class 0) d.0)))
    (and_from (bytes_eq m.name other.name) (bytes_eq m.descriptor other.descriptor)
    ((bytes_eq-Decides m.name other.name).1 ((bytes_eq-Decides m.name name).0 b.1 ∙ sym ((bytes_eq-Decides other.name name).0 d.1)))
    ((bytes_eq-Decides m.descriptor other.descriptor).1 ((bytes_eq-Decides m.descriptor descriptor).0 a.1 ∙ sym ((bytes_eq-Decides other.descriptor descriptor).0 c.1))))

pub one_done : OneMethod → (p : Program) (number : ℕ) (rest : List ℕ) → IsProgram p → done_roots p ≡ number ∷ rest → rest ≡ []
one_done one p number rest is e = one_number (is_entry_named (codes "done") (codes "()V")) 0 p.methods
    (λ i j m other g h t u. one p i j m other is g h (same_entry (codes "done") (codes "()V") m other t u)) number rest e
