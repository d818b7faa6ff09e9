-- How the fields of small programs may be read: frozen, guarded, or neither.
use Rattle.std.proofs.{Common.{◌≡◌, inl, inr, ℕ, zero, suc, true, false, List, [], ◌∷◌, Some, refl, sym, subst, arith, slice_get}, lemmas.Bool.{false≢true, true≢false}}
use Rattle.jvm_types.specs.{Members.{is_private, is_static, is_final}, declared.program.{FieldInfo.FieldInfo, Program.Program}}
use Rattle.checked_program.specs.{FrozenPlaces.{IsFrozenClass, IsFrozenField, IsFrozenUse, IsGuardedField, IsGuardedUse, IsUse}, OwnedArrays.AreUses, declared.section.FieldUse.FieldUse}
use Rattle.checked_program.{specs.declared.{section.FieldUse.TheVariants.{Frozen, Guarded, Open}, tag.Tag.TheVariants.{Untagged, This}}, proofs.FrozenChecks.{is_frozen, is_written_guarded}}
use Rattle.checked_program.proofs.OwnedChecks.{no_elements, no_owners, none_are_read}
use Rattle.checked_program.proofs.TriedPrograms.{many, many_fields, static_object, private_int, one_field, leaking, unlocked, on_another, tags_of}

-- the constructor of `many` lets its object nowhere
class_is_frozen : (c : ℕ) → IsFrozenClass many (tags_of many) c
class_is_frozen c = is_frozen many (tags_of many) c refl

first_is_guarded : IsGuardedField many (tags_of many) 0
first_is_guarded = record { field = _; is = refl; private = refl; changes = refl; instance = refl; frozen = class_is_frozen 17; written = is_written_guarded 0 many (tags_of many) refl }

second_is_guarded : IsGuardedField many (tags_of many) 1
second_is_guarded = record { field = _; is = refl; private = refl; changes = refl; instance = refl; frozen = class_is_frozen 17; written = is_written_guarded 1 many (tags_of many) refl }

final_is_frozen : IsFrozenField many (tags_of many) 3
final_is_frozen = record { field = _; is = refl; final = refl; instance = refl; frozen = class_is_frozen 17 }

-- a static field that is neither final nor private
that_is_static : (field : FieldInfo) → slice_get many_fields 2 ≡ Some field → static_object ≡ field
that_is_static field e = cc

is_no_instance : (field : FieldInfo) → slice_get many_fields 2 ≡ Some field → is_static field.flags ≡ false → ⊥
is_no_instance field e h = true≢false (subst (λ (f : FieldInfo). is_static f.flags ≡ false) (sym (that_is_static field e)) h)

static_not_frozen : IsFrozenUse many (tags_of many) 2 → ⊥
static_not_frozen (inl f) = is_no_instance f.field f.is f.instance
static_not_frozen (inr f) = false≢true (subst (λ (x : FieldInfo). is_final x.flags ≡ true) (sym (that_is_static f.field f.is)) f.final)

static_not_guarded : IsGuardedUse many (tags_of many) 2 → ⊥
static_not_guarded (inl g) = is_no_instance g.field g.is g.instance
static_not_guarded (inr g) = false≢true (subst (λ (x : FieldInfo). is_private x.flags ≡ true) (sym (that_is_static g.field g.is)) g.private)

static_is_open : IsUse many (tags_of many) 2 Open
static_is_open = (static_not_frozen, static_not_guarded)

abbrev uses : List FieldUse
uses = Guarded ∷ Guarded ∷ Open ∷ Frozen ∷ []

use_of : (fi : ℕ) (u : FieldUse) → slice_get uses fi ≡ Some u → IsUse many (tags_of many) fi u
use_of zero u e = let x : Guarded ≡ u = cc in subst (λ (w : FieldUse). IsUse many (tags_of many) 0 w) x (inl first_is_guarded)
use_of (suc zero) u e = let x : Guarded ≡ u = cc in subst (λ (w : FieldUse). IsUse many (tags_of many) 1 w) x (inl second_is_guarded)
use_of (suc (suc zero)) u e = let x : Open ≡ u = cc in subst (λ (w : FieldUse). IsUse many (tags_of many) 2 w) x static_is_open
use_of (suc (suc (suc zero))) u e = let x : Frozen ≡ u = cc in subst (λ (w : FieldUse). IsUse many (tags_of many) 3 w) x (inl final_is_frozen)
use_of (suc (suc (suc (suc fi)))) u e = cc

pub uses_of_many : AreUses many (tags_of many) (record { fields = uses; owners = no_owners many; elements = no_elements many })
uses_of_many = none_are_read many (tags_of many) uses refl refl (record { long = refl; each = use_of })

-- ---- fields that are neither

untagged_this : Untagged ≡ This → ⊥
untagged_this h = cc

that_is_private : (field : FieldInfo) → slice_get one_field 0 ≡ Some field → private_int 0 ≡ field
that_is_private field e = cc

in_one_field : (p : Program) (field : FieldInfo) → p.fields ≡ one_field → slice_get p.fields 0 ≡ Some field → private_int 0 ≡ field
in_one_field p field e h = that_is_private field (subst (λ (fs : List FieldInfo). slice_get fs 0 ≡ Some field) e h)

not_final : (field : FieldInfo) → private_int 0 ≡ field → is_final field.flags ≡ true → ⊥
not_final field e h = false≢true (subst (λ (f : FieldInfo). is_final f.flags ≡ true) (sym e) h)

not_static : (field : FieldInfo) → private_int 0 ≡ field → is_static field.flags ≡ true → ⊥
not_static field e h = false≢true (subst (λ (f : FieldInfo). is_static f.flags ≡ true) (sym e) h)

not_frozen : (p : Program) → p.fields ≡ one_field → IsFrozenUse p (tags_of p) 0 → ⊥
not_frozen p e (inl f) = not_final f.field (in_one_field p f.field e f.is) f.final
not_frozen p e (inr f) = not_final f.field (in_one_field p f.field e f.is) f.final

not_guarded : (p : Program) → p.fields ≡ one_field → (IsGuardedField p (tags_of p) 0 → ⊥) → IsGuardedUse p (tags_of p) 0 → ⊥
not_guarded p e h (inl g) = h g
not_guarded p e h (inr g) = not_static g.field (in_one_field p g.field e g.is) g.static

class_is_17 : (field : FieldInfo) → slice_get one_field 0 ≡ Some field → field.class ≡ 17
class_is_17 field e = subst (λ (f : FieldInfo). f.class ≡ 17) (that_is_private field e) refl

-- `this` is stored in a static field
leaks : IsFrozenClass leaking (tags_of leaking) 17 → ⊥
leaks f = false≢true ((f 0 _ refl refl refl).taken 3 _ _ _ (record { in_program = refl; in_code = refl; names = refl; frames = _; of_method = refl; frame = refl }) 0 (omega arith) refl)

leaked_is_open : IsUse leaking (tags_of leaking) 0 Open
leaked_is_open = (not_frozen leaking refl, not_guarded leaking refl (λ g. leaks (subst (λ (c : ℕ). IsFrozenClass leaking (tags_of leaking) c) (class_is_17 g.field g.is) g.frozen)))

-- a write on `this` without its monitor
unlocked_is_open : IsUse unlocked (tags_of unlocked) 0 Open
unlocked_is_open = (
  not_frozen unlocked refl,
  not_guarded unlocked refl (λ g. false≢true (g.written 2 2 _ _ _ _ (record { in_program = refl; in_code = refl; names = refl; frames = _; of_method = refl; frame = refl }) refl).1),
)

-- a write on another object
on_another_is_open : IsUse on_another (tags_of on_another) 0 Open
on_another_is_open = (
  not_frozen on_another refl,
  not_guarded on_another refl (λ g. untagged_this (g.written 2 2 _ _ _ _ (record { in_program = refl; in_code = refl; names = refl; frames = _; of_method = refl; frame = refl }) refl).0),
)
