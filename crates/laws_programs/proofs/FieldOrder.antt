-- The places of fields: each field is behind those before it.
use Rattle.std.proofs.Common.{◌≡◌, ℕ, zero, suc, ◌+◌, ◌-◌, ◌*◌, ◌<◌, ◌≤◌, ⊎_elim, Bool, true, false, cond, not, ◌&&◌, List, [], ◌∷◌, take, Some, refl, sym, ap, ◌∙◌, subst, arith, ◌==◌, slice_get}
use Rattle.std.{specs.List.{AllByRecursion, sum_by}, proofs.lemmas.Bool.{cases_order, eq-eqb}}
use Rattle.jvm_types.specs.{ClassNames.file_class, Members.is_static, ProgramInvariant.{IsFieldOf, statics_among, instances_among, index_after}, declared.fixed_words.TheConstants.FIRST_CLASS_WORD}
use Rattle.jvm_types.{specs.declared.program.FieldInfo.FieldInfo, proofs.EachAfter.sum_first}
use Rattle.laws_programs.specs.FieldLaws.{StaticsLieInside, InstancesLieInside, StaticsAreApart, InstancesAreApart, OneStatic, OneInstance}

-- ---- sums

more_before : {X : Type 0} (f : X → ℕ) (xs : List X) (i j : ℕ) (x : X) → slice_get xs i ≡ Some x → i < j → sum_by f (take i xs) + f x ≤ sum_by f (take j xs)
more_before f (y ∷ xs) zero (suc j) x e h =
    let same : y ≡ x = cc in
    omega (arith, sum_first f y (take j xs), ap f same)
more_before f (y ∷ xs) (suc i) (suc j) x e h =
    omega (arith, more_before f xs i j x e (omega (arith, h)), sum_first f y (take i xs), sum_first f y (take j xs))
more_before f xs i j x e h = absurd (first_of (cc, omega (arith, h)))

more_than : {X : Type 0} (f : X → ℕ) (xs : List X) (i : ℕ) (x : X) → slice_get xs i ≡ Some x → sum_by f (take i xs) + f x ≤ sum_by f xs
more_than f [] i x e = absurd (cc)
more_than f (y ∷ xs) zero x e = let same : y ≡ x = cc in omega (arith, sum_first f y xs, ap f same)
more_than f (y ∷ xs) (suc i) x e = omega (arith, more_than f xs i x e, sum_first f y (take i xs), sum_first f y xs)

pub before_at : {X : Type 0} (P : X → Type 0) (xs : List X) (i j : ℕ) (x : X) → AllByRecursion P (take j xs) → slice_get xs i ≡ Some x → i < j → P x
before_at P (y ∷ xs) zero (suc j) x all e h = let same : y ≡ x = cc in subst P same all.0
before_at P (y ∷ xs) (suc i) (suc j) x all e h = before_at P xs i j x all.1 e (omega (arith, h))
before_at P xs i j x all e h = absurd (first_of (cc, omega (arith, h)))

-- ---- fields

static_index : (before : List FieldInfo) (f : FieldInfo) → is_static f.flags ≡ true → index_after before f ≡ FIRST_CLASS_WORD + 2 * (f.class - file_class 0 + 1) + statics_among before
static_index before f e = ap (λ b. cond b (FIRST_CLASS_WORD + 2 * (f.class - file_class 0 + 1) + statics_among before) (instances_among f.class before)) e

instance_index : (before : List FieldInfo) (f : FieldInfo) → is_static f.flags ≡ false → index_after before f ≡ instances_among f.class before
instance_index before f e = ap (λ b. cond b (FIRST_CLASS_WORD + 2 * (f.class - file_class 0 + 1) + statics_among before) (instances_among f.class before)) e

one_static : (f : FieldInfo) → is_static f.flags ≡ true → ◌≡◌ {A = ℕ} (cond (is_static f.flags) 1 0) 1
one_static f e = ap (λ (b : Bool). cond {A = ℕ} b 1 0) e

one_instance : (class : ℕ) (f : FieldInfo) → f.class ≡ class → is_static f.flags ≡ false → ◌≡◌ {A = ℕ} (cond ((f.class == class) && not (is_static f.flags)) 1 0) 1
one_instance class f same e = ap (λ (b : Bool). cond {A = ℕ} ((f.class == class) && not b) 1 0) e ∙ ap (λ (b : Bool). cond {A = ℕ} (b && true) 1 0) (eq-eqb f.class class same)

pub statics_inside : StaticsLieInside
statics_inside p n f is e s =
    let of : IsFieldOf p (take n p.fields) f = is.fields n f e in
    let index = of.index ∙ static_index (take n p.fields) f s in
    let more = more_than (λ (x : FieldInfo). cond (is_static x.flags) 1 0) p.fields n f e in
    (omega (arith, index), omega (arith, index, more, one_static f s, of.class.0, of.class.1))

pub instances_inside : InstancesLieInside
instances_inside p n f is e s =
    let of : IsFieldOf p (take n p.fields) f = is.fields n f e in
    let index = of.index ∙ instance_index (take n p.fields) f s in
    let more = more_than (λ (x : FieldInfo). cond ((x.class == f.class) && not (is_static x.flags)) 1 0) p.fields n f e in
    omega (arith, index, more, one_instance f.class f refl s)

pub statics_apart : StaticsAreApart
statics_apart p i j f g is e d h s t =
    let of : IsFieldOf p (take i p.fields) f = is.fields i f e in
    let og : IsFieldOf p (take j p.fields) g = is.fields j g d in
    let a = of.index ∙ static_index (take i p.fields) f s in
    let b = og.index ∙ static_index (take j p.fields) g t in
    let more = more_before (λ (x : FieldInfo). cond (is_static x.flags) 1 0) p.fields i j f e h in
    let classes = before_at (λ (x : FieldInfo). x.class ≤ g.class) p.fields i j f og.ordered e h in
    omega (arith, a, b, more, one_static f s, classes, of.class.0)

pub instances_apart : InstancesAreApart
instances_apart p i j f g is e d h same s t =
    let of : IsFieldOf p (take i p.fields) f = is.fields i f e in
    let og : IsFieldOf p (take j p.fields) g = is.fields j g d in
    let a = of.index ∙ instance_index (take i p.fields) f s ∙ ap (λ class. instances_among class (take i p.fields)) same in
    let b = og.index ∙ instance_index (take j p.fields) g t in
    let more = more_before (λ (x : FieldInfo). cond ((x.class == g.class) && not (is_static x.flags)) 1 0) p.fields i j f e h in
    omega (arith, a, b, more, one_instance g.class f same s)

-- ---- one place, one field

pub one_index : (i j a b : ℕ) → (i < j → a < b) → (j < i → b < a) → a ≡ b → i ≡ j
one_index i j a b up down e =
    ⊎_elim (λ (h : i ≡ j). h) (λ h. ⊎_elim (λ (k : i < j). absurd (omega (arith, e, up k))) (λ (k : j < i). absurd (omega (arith, e, down k))) h) (cases_order i j)

pub one_static_field : OneStatic
one_static_field p i j f g is e d s t = one_index i j f.index g.index (λ h. statics_apart p i j f g is e d h s t) (λ h. statics_apart p j i g f is d e h t s)

pub one_instance_field : OneInstance
one_instance_field p i j f g is e d same s t = one_index i j f.index g.index (λ h. instances_apart p i j f g is e d h same s t) (λ h. instances_apart p j i g f is d e h (sym same) t s)
