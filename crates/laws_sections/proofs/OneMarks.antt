-- Each field has one use, each element is read or not, and each section has one mark.
use Rattle.std.proofs.Common.{◌≡◌, ℕ, zero, suc, ◌<◌, ⊎_elim, Bool, true, false, cond, List, [], ◌∷◌, length, Some, refl, sym, ap, ◌∙◌, subst, arith, inl, inr, ◌↔◌, ◌==◌, slice_get, slice_index_or}
use Rattle.std.{specs.List.AllZip, proofs.lemmas.{Bool.{cases_order, Decides.nat_tests}, Option.same_Some}}
use Rattle.jvm_types.specs.{Members.is_final, declared.program.{FieldInfo.FieldInfo, MethodInfo.MethodInfo, Program.Program}}
use Rattle.checked_program.specs.{FrozenPlaces.{IsFrozenUse, IsGuardedUse, IsUse}, Marks.{turn, HasMark, IsMarkOf}, OwnedArrays.{IsOwnedArrayField, ReadsOwned, owns_arrays, reads_owned}}
use Rattle.checked_program.specs.{Sections.{Section, sections}, TaggedCode.Tagged, declared.section.{FieldUse.{FieldUse, TheVariants.{Frozen, Guarded, Open}}, SectionMark.SectionMark, Uses.Uses}}
use Rattle.laws_sections.specs.MarkLaws.{OneUse, OneMark}

-- ---- uses

-- a frozen field is final, and a guarded one is not
frozen_is_final : (p : Program) (tags : Tagged) (fi : ℕ) → IsFrozenUse p tags fi → (field : FieldInfo) × (slice_get p.fields fi ≡ Some field) × (is_final field.flags ≡ true)
frozen_is_final p tags fi (inl f) = (f.field, f.is, f.final)
frozen_is_final p tags fi (inr f) = (f.field, f.is, f.final)

guarded_changes : (p : Program) (tags : Tagged) (fi : ℕ) → IsGuardedUse p tags fi → (field : FieldInfo) × (slice_get p.fields fi ≡ Some field) × (is_final field.flags ≡ false)
guarded_changes p tags fi (inl g) = (g.field, g.is, g.changes)
guarded_changes p tags fi (inr g) = (g.field, g.is, g.changes)

not_both : (p : Program) (tags : Tagged) (fi : ℕ) → IsFrozenUse p tags fi → IsGuardedUse p tags fi → ⊥
not_both p tags fi frozen guarded =
    let a = frozen_is_final p tags fi frozen in
    let b = guarded_changes p tags fi guarded in
    let bad : true ≡ false = sym a.2 ∙ ap (λ (f : FieldInfo). is_final f.flags) (same_Some a.0 b.0 (sym a.1 ∙ b.1)) ∙ b.2 in
    cc

one_use_at : (p : Program) (tags : Tagged) (fi : ℕ) (u v : FieldUse) → IsUse p tags fi u → IsUse p tags fi v → u ≡ v
one_use_at p tags fi Frozen Guarded a b = absurd (not_both p tags fi a b)
one_use_at p tags fi Guarded Frozen a b = absurd (not_both p tags fi b a)
one_use_at p tags fi Frozen Open a b = absurd (b.0 a)
one_use_at p tags fi Open Frozen a b = absurd (a.0 b)
one_use_at p tags fi Guarded Open a b = absurd (b.1 a)
one_use_at p tags fi Open Guarded a b = absurd (a.1 b)
one_use_at p tags fi u v a b = refl

-- lists that have the same item at each index
same_items : {A : Type 0} (xs ys : List A) → length xs ≡ length ys → ((i : ℕ) (x y : A) → slice_get xs i ≡ Some x → slice_get ys i ≡ Some y → x ≡ y) → xs ≡ ys
same_items [] [] l h = refl
same_items (x ∷ xs) (y ∷ ys) l h =
    let first : x ≡ y = h 0 x y refl refl in
    let more : xs ≡ ys = same_items xs ys (omega (arith, l)) (λ i a b e f. h (suc i) a b e f) in
    cc
same_items xs ys l h = absurd (omega (arith, l))

-- ---- elements

one_flag : (b c : Bool) (X : Type 0) → (b ≡ true) ↔ X → (c ≡ true) ↔ X → b ≡ c
one_flag true false X h k = sym (k.1 (h.0 refl))
one_flag false true X h k = h.1 (k.0 refl)
one_flag b c X h k = refl

one_row : (xs ys : List Bool) → length xs ≡ length ys → ((i : ℕ) → slice_index_or xs i false ≡ slice_index_or ys i false) → xs ≡ ys
one_row [] [] l h = refl
one_row (x ∷ xs) (y ∷ ys) l h =
    let first : x ≡ y = h 0 in
    let more : xs ≡ ys = one_row xs ys (omega (arith, l)) (λ i. h (suc i)) in
    cc
one_row xs ys l h = absurd (omega (arith, l))

one_table : (ms : List MethodInfo) (xs ys : List (List Bool)) → AllZip (λ (m : MethodInfo) (flags : List Bool). length flags ≡ length m.code) ms xs → AllZip (λ (m : MethodInfo) (flags : List Bool). length flags ≡ length m.code) ms ys
    → ((mi i : ℕ) → slice_index_or (slice_index_or xs mi []) i false ≡ slice_index_or (slice_index_or ys mi []) i false) → xs ≡ ys
one_table [] [] [] a b h = refl
one_table (m ∷ ms) (x ∷ xs) (y ∷ ys) a b h =
    let first : x ≡ y = one_row x y (a.0 ∙ sym b.0) (h 0) in
    let more : xs ≡ ys = one_table ms xs ys a.1 b.1 (λ mi i. h (suc mi) i) in
    cc
one_table ms xs ys a b h = absurd (assumption)

pub one_use : OneUse
one_use p tags uses others a b =
    let fields : uses.fields ≡ others.fields = same_items uses.fields others.fields (a.fields.long ∙ sym b.fields.long) (λ i u v e f. one_use_at p tags i u v (a.fields.each i u e) (b.fields.each i v f)) in
    let owners : uses.owners ≡ others.owners = one_row uses.owners others.owners (a.few ∙ sym b.few)
    (λ fi. one_flag (owns_arrays uses fi) (owns_arrays others fi) (IsOwnedArrayField p tags fi) (a.owners fi) (b.owners fi)) in
    let elements : uses.elements ≡ others.elements = one_table p.methods uses.elements others.elements a.long b.long
    (λ mi i. one_flag (reads_owned uses mi i) (reads_owned others mi i) (ReadsOwned p tags mi i) (a.elements mi i) (b.elements mi i)) in
    λ i. record { fields = fields i; owners = owners i; elements = elements i }

-- ---- marks

turn_once : (m n : ℕ) → turn (suc m) ≡ turn (suc n) → m ≡ n
turn_once m n e = by_tests (suc m == 8) (suc n == 8) refl refl e
  where
    by_tests : (t u : Bool) → (suc m == 8) ≡ t → (suc n == 8) ≡ u → cond t 0 (suc m) ≡ cond u 0 (suc n) → m ≡ n
    by_tests true true a b e = grind (arith, nat_tests, a, b)
    by_tests false false a b e = omega (arith, e)
    by_tests t u a b e = absurd (omega (arith, e))

one_mark_of : (p : Program) (tags : Tagged) (uses : Uses) (s : Section) (m n : ℕ) → HasMark p tags uses s m → HasMark p tags uses s n → m ≡ n
one_mark_of p tags uses s zero zero a b = refl
one_mark_of p tags uses s zero (suc n) a b = absurd (a (suc n) b.0)
one_mark_of p tags uses s (suc m) zero a b = absurd (b (suc m) a.0)
one_mark_of p tags uses s (suc m) (suc n) a b = ⊎_elim
    (λ (e : turn (suc m) ≡ turn (suc n)). ap suc (turn_once m n e))
    (λ h. absurd (⊎_elim (λ (l : turn (suc m) < turn (suc n)). b.1 (suc m) l a.0) (λ (l : turn (suc n) < turn (suc m)). a.1 (suc n) l b.0) h))
    (cases_order (turn (suc m)) (turn (suc n)))

one_marked : (p : Program) (tags : Tagged) (uses : Uses) (s : Section) (a b : SectionMark) → IsMarkOf p tags uses s a → IsMarkOf p tags uses s b → a ≡ b
one_marked p tags uses s a b h k =
    let method : a.method ≡ b.method = h.method ∙ sym k.method in
    let spot : a.spot ≡ b.spot = h.spot ∙ sym k.spot in
    let mark : a.mark ≡ b.mark = one_mark_of p tags uses s a.mark b.mark h.mark_is k.mark_is in
    λ i. record { method = method i; spot = spot i; mark = mark i }

all_marked : (p : Program) (tags : Tagged) (uses : Uses) (ss : List Section) (marks others : List SectionMark) → AllZip (IsMarkOf p tags uses) ss marks → AllZip (IsMarkOf p tags uses) ss others → marks ≡ others
all_marked p tags uses [] [] [] a b = refl
all_marked p tags uses (s ∷ ss) (m ∷ marks) (n ∷ others) a b =
    let first : m ≡ n = one_marked p tags uses s m n a.0 b.0 in
    let more : marks ≡ others = all_marked p tags uses ss marks others a.1 b.1 in
    cc
all_marked p tags uses ss marks others a b = absurd (assumption)

pub one_mark : OneMark
one_mark p tags marks others a b =
    all_marked p tags a.uses (sections p) marks others a.each (subst (λ us. AllZip (IsMarkOf p tags us) (sections p) others) (one_use p tags b.uses a.uses b.are_uses a.are_uses) b.each)
