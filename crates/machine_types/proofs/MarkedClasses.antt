-- The classes of which a field may be read without a lock are frozen, and a test tells them.
use Rattle.std.proofs.Common.{◌≡◌, ℕ, zero, suc, Bool, true, false, List, [], ◌∷◌, length, Some, refl, sym, ap, ◌∙◌, subst, arith, inl, inr, ◌==◌, ◌&&◌, ◌||◌, not, slice_get}
use Rattle.std.proofs.lemmas.Bool.{and_parts, eqb-true}
use Rattle.jvm_types.specs.{Members.is_static, declared.program.{FieldInfo.FieldInfo, Program.Program}}
use Rattle.checked_program.specs.{FrozenPlaces.{IsFrozenClass, IsFrozenField, IsGuardedField, IsUse}, OwnedArrays.{owns_arrays, AreUses}, TaggedCode.Tagged}
use Rattle.checked_program.specs.declared.section.{FieldUse.{FieldUse, TheVariants.{Frozen, Guarded, Open}}, Uses.Uses}
use Rattle.machine_types.{specs.{MarkLaws.{HasFrozenTest, HasOwnedTest}, Standing.tags_of}, proofs.PlainStepLaws.is_same}

abbrev is_closed : FieldUse → Bool
is_closed Open = false
is_closed used = true

-- a class counts where one of its instance fields is frozen or guarded
abbrev counts : FieldInfo → FieldUse → (class : ℕ) → Bool
counts field used class = (is_closed used && not (is_static field.flags)) && (field.class == class)

counts_instance : (field : FieldInfo) (used : FieldUse) → is_closed used ≡ true → is_static field.flags ≡ false → counts field used field.class ≡ true
counts_instance field used closed instance = rw (closed, instance) (is_same field.class)

abbrev is_told : List FieldInfo → List FieldUse → (class : ℕ) → Bool
is_told (field ∷ fields) (used ∷ uses) class = counts field used class || is_told fields uses class
is_told fields uses class = false

-- a field for which a class counts
record HasClosed (fields : List FieldInfo) (uses : List FieldUse) (class : ℕ) : Type 0 where
  fi : ℕ
  field : FieldInfo
  is : slice_get fields fi ≡ Some field
  used : FieldUse
  used_is : slice_get uses fi ≡ Some used
  counted : counts field used class ≡ true

closed_by : (fields : List FieldInfo) (uses : List FieldUse) (class : ℕ) → is_told fields uses class ≡ true → HasClosed fields uses class
closed_by [] uses class e = absurd (let bad : false ≡ true = e in cc)
closed_by (field ∷ fields) [] class e = absurd (let bad : false ≡ true = e in cc)
closed_by (field ∷ fields) (used ∷ uses) class e = by_test (counts field used class) refl e (closed_by fields uses class)
  where
    by_test : (b : Bool) → counts field used class ≡ b → (b || is_told fields uses class) ≡ true → (is_told fields uses class ≡ true → HasClosed fields uses class) → HasClosed (field ∷ fields) (used ∷ uses) class
    by_test true t e more = record { fi = 0; field = field; is = refl; used = used; used_is = refl; counted = t }
    by_test false t e more = let k = more e in record { fi = suc k.fi; field = k.field; is = k.is; used = k.used; used_is = k.used_is; counted = k.counted }

told_by : (fields : List FieldInfo) (uses : List FieldUse) (class fi : ℕ) (field : FieldInfo) (used : FieldUse) → slice_get fields fi ≡ Some field → slice_get uses fi ≡ Some used → counts field used class ≡ true → is_told fields uses class ≡ true
told_by [] uses class fi field used e u t = cc
told_by (x ∷ fields) [] class fi field used e u t = cc
told_by (x ∷ fields) (y ∷ uses) class zero field used e u t =
    let same : x ≡ field = cc in
    let same_use : y ≡ used = cc in
    ap (λ b. b || is_told fields uses class) (ap (λ z. counts z y class) same ∙ ap (λ z. counts field z class) same_use ∙ t)
told_by (x ∷ fields) (y ∷ uses) class (suc fi) field used e u t = or_true (counts x y class) (is_told fields uses class) (told_by fields uses class fi field used e u t)
  where
    or_true : (a b : Bool) → b ≡ true → (a || b) ≡ true
    or_true true b e = refl
    or_true false b e = e

-- each field has its use
use_at : (fields : List FieldInfo) (uses : List FieldUse) (fi : ℕ) (field : FieldInfo) → length uses ≡ length fields → slice_get fields fi ≡ Some field → (used : FieldUse) × (slice_get uses fi ≡ Some used)
use_at [] uses fi field l e = absurd (cc)
use_at (x ∷ fields) [] fi field l e = absurd (omega (arith, l))
use_at (x ∷ fields) (used ∷ uses) zero field l e = (used, refl)
use_at (x ∷ fields) (used ∷ uses) (suc fi) field l e = use_at fields uses fi field (omega (arith, l)) e

-- ---- of the fields of a program

module _ (p : Program) (tags : Tagged) (uses : Uses) (are : AreUses p tags uses) where
  -- an instance field of the class, by its own record
  of_instance : (class fi : ℕ) (field other : FieldInfo) → slice_get p.fields fi ≡ Some field → slice_get p.fields fi ≡ Some other → (not (is_static field.flags) && (field.class == class)) ≡ true → (other.class ≡ class) × (not (is_static other.flags) ≡ true)
  of_instance class fi field other e k t =
      let same : field ≡ other = (let s : Some field ≡ Some other = sym e ∙ k in cc) in
      let parts = and_parts (not (is_static field.flags)) (field.class == class) t in
      (ap (λ (z : FieldInfo). z.class) (sym same) ∙ eqb-true field.class class parts.1, subst (λ (z : FieldInfo). not (is_static z.flags) ≡ true) same parts.0)

  no_static : (b : Bool) → not b ≡ true → b ≡ true → ⊥
  no_static true e f = cc
  no_static false e f = cc

  frozen_class : (class fi : ℕ) (field : FieldInfo) (used : FieldUse) → slice_get p.fields fi ≡ Some field → IsUse p tags fi used → counts field used class ≡ true → IsFrozenClass p tags class
  frozen_class class fi field Open e k t = absurd (let bad : false ≡ true = t in cc)
  frozen_class class fi field Frozen e (inl k) t = let r = of_instance class fi field k.field e k.is t in subst (IsFrozenClass p tags) r.0 k.frozen
  frozen_class class fi field Frozen e (inr k) t = let r = of_instance class fi field k.field e k.is t in absurd (no_static (is_static k.field.flags) r.1 k.static)
  frozen_class class fi field Guarded e (inl k) t = let r = of_instance class fi field k.field e k.is t in subst (IsFrozenClass p tags) r.0 k.frozen
  frozen_class class fi field Guarded e (inr k) t = let r = of_instance class fi field k.field e k.is t in absurd (no_static (is_static k.field.flags) r.1 k.static)

  told_frozen : (fi : ℕ) (k : IsFrozenField p tags fi) (used : FieldUse) → slice_get uses.fields fi ≡ Some used → IsUse p tags fi used → is_told p.fields uses.fields k.field.class ≡ true
  told_frozen fi k Open e u = absurd (u.0 (inl k))
  told_frozen fi k Frozen e u = told_by p.fields uses.fields k.field.class fi k.field Frozen k.is e (counts_instance k.field Frozen refl k.instance)
  told_frozen fi k Guarded e u = told_by p.fields uses.fields k.field.class fi k.field Guarded k.is e (counts_instance k.field Guarded refl k.instance)

  told_guarded : (fi : ℕ) (k : IsGuardedField p tags fi) (used : FieldUse) → slice_get uses.fields fi ≡ Some used → IsUse p tags fi used → is_told p.fields uses.fields k.field.class ≡ true
  told_guarded fi k Open e u = absurd (u.1 (inl k))
  told_guarded fi k Frozen e u = told_by p.fields uses.fields k.field.class fi k.field Frozen k.is e (counts_instance k.field Frozen refl k.instance)
  told_guarded fi k Guarded e u = told_by p.fields uses.fields k.field.class fi k.field Guarded k.is e (counts_instance k.field Guarded refl k.instance)

  those : (class : ℕ) → is_told p.fields uses.fields class ≡ true → IsFrozenClass p tags class
  those class e = let k = closed_by p.fields uses.fields class e in frozen_class class k.fi k.field k.used k.is (are.fields.each k.fi k.used k.used_is) k.counted

  with_frozen : (fi : ℕ) (k : IsFrozenField p tags fi) → is_told p.fields uses.fields k.field.class ≡ true
  with_frozen fi k = let u = use_at p.fields uses.fields fi k.field are.fields.long k.is in told_frozen fi k u.0 u.1 (are.fields.each fi u.0 u.1)

  with_guarded : (fi : ℕ) (k : IsGuardedField p tags fi) → is_told p.fields uses.fields k.field.class ≡ true
  with_guarded fi k = let u = use_at p.fields uses.fields fi k.field are.fields.long k.is in told_guarded fi k u.0 u.1 (are.fields.each fi u.0 u.1)

pub frozen_test : HasFrozenTest
frozen_test c k = (
  is_told c.program.fields k.uses.fields,
  record {
    those = those c.program (tags_of c) k.uses k.are_uses;
    with_frozen = with_frozen c.program (tags_of c) k.uses k.are_uses;
    with_guarded = with_guarded c.program (tags_of c) k.uses k.are_uses;
  },
)

-- ---- the fields that own their arrays

pub owned_test : HasOwnedTest
owned_test c k = (
  owns_arrays k.uses,
  record {
    those = λ fi e. (k.are_uses.owners fi).0 e;
    all = λ fi o. (k.are_uses.owners fi).1 o;
  },
)
