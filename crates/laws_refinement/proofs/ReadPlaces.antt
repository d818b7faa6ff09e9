-- The field of an object that an instruction reads inside an attempt is one that stays: frozen, or guarded and of the section's
-- object; and its object is built by no other thread.
use Rattle.std.proofs.Common.{◌≡◌, ◌≢◌, ◌⊎◌, inl, inr, ℕ, ◌<◌, Bool, true, false, List, Option, Some, None, refl, sym, ap, ◌∙◌, subst, arith, ⊎_elim, slice_get, slice_index}
use Rattle.lists.proofs.ListLaws.{same_some}
use Rattle.jvm_types.specs.{CodeTable.{get_row, get_static_row}, Members.{MethodSite, is_static}, Types.is_below, declared.{code.Op.{Op, TheVariants.{Getfield, Getstatic}}, op_row.OpRow.OpRow}}
use Rattle.jvm_types.specs.declared.{program.{FieldInfo.FieldInfo, Program.Program, Target.TheVariants.Field}, typing.VType.VType}
use Rattle.laws_programs.specs.TargetLaws.{HasRow, NamesField}
use Rattle.checked_program.specs.{FrozenPlaces.{IsFrozenField, IsGuardedField}, SectionLaws.ReadsOnly, TaggedCode.Tagged, declared.{section.Mode.{Mode, TheVariants.OnThis}, tag.Tag.Tag}}
use Rattle.checked_program.specs.declared.tag.Tag.TheVariants.{This}
use Rattle.machine_types.specs.{Construction.{SlotByType, OwnSlot, SlotIs}, Threads.Attempt, Worlds.{Builder, World, IsOwnOrFinished, IsViewOf}}
use Rattle.laws_states.proofs.Lists.{same_or_not}
use Rattle.jvm_types.specs.declared.typing.VType.TheVariants as types

-- ---- which field

-- a frozen field, or a guarded one of the section's object o, where the section is on `this`
abbrev pub MayStay : Program → Tagged → Mode → (number reference o : ℕ) → Type 0
MayStay p tags mode number reference o = IsFrozenField p tags number ⊎ (IsGuardedField p tags number × (mode ≡ OnThis) × (reference ≡ o))

-- the only instruction of a section that names a field of an object is a read of it
pub record GetsField (p : Program) (tags : Tagged) (mode : Mode) (o number : ℕ) (op : Op) (r : OpRow) (stack : List ℕ) : Type 0 where
  pub field : FieldInfo
  pub is : slice_get p.fields number ≡ Some field
  pub instance : is_static field.flags ≡ false
  pub constant : ℕ
  pub gets : op ≡ Getfield constant
  pub row : r ≡ get_row (Some field)
  pub stays : MayStay p tags mode number (slice_index stack 0) o

no_static : (p : Program) (number : ℕ) (row_of : Option FieldInfo → OpRow) (r : OpRow) (f : FieldInfo) → slice_get p.fields number ≡ Some f → is_static f.flags ≡ false → NamesField p number true row_of r → ⊥
no_static p number row_of r f there instance k =
    let bad : true ≡ false = sym (ap (λ (g : FieldInfo). is_static g.flags) (same_some (sym there ∙ k.there)) ∙ k.sort) ∙ instance in
    cc

pub gets_field : (p : Program) (tags : Tagged) (site : MethodSite) (pc : ℕ) (mode : Mode) (o mi i number : ℕ) (f : FieldInfo) (op : Op) (r : OpRow) (stack : List ℕ) → slice_get p.fields number ≡ Some f → is_static f.flags ≡ false
    → HasRow p site pc (Field number) op r → ReadsOnly p tags mode o mi i op (Field number) stack → GetsField p tags mode o number op r stack
gets_field p tags site pc mode o mi k number f (Getfield i) r stack there instance row h = record { field = row.field; is = row.there; instance = row.sort; constant = i; gets = refl; row = row.its; stays = h }
gets_field p tags site pc mode o mi k number f (Getstatic i) r stack there instance row h = absurd (no_static p number get_static_row r f there instance row)
gets_field p tags site pc mode o mi k number f op r stack there instance row h = absurd (assumption)

-- ---- who builds its object

-- in a world that the thread t sees: nobody, or t
abbrev pub IsOwnIn : World → (t v : ℕ) → Type 0
IsOwnIn now t v = (now v ≡ None) ⊎ ((d : Builder) × (now v ≡ Some d) × (d.thread ≡ t))

-- so it is in the world of all
pub own_in_all : (now w : World) (t : ℕ) (o : Option Attempt) (next v : ℕ) → IsViewOf now w t o → v < next → IsOwnIn now t v → IsOwnOrFinished w next t v
own_in_all now w t o next v view below own = (below, by_builder)
  where
    by_builder : (b : Builder) → w v ≡ Some b → b.thread ≡ t
    by_builder b e = ⊎_elim (λ q. q) (λ other. absurd (not_other other)) (same_or_not b.thread t)
      where
        not_other : b.thread ≢ t → ⊥
        not_other other =
            let same : now v ≡ Some b = view.others v (λ d f. subst (λ (n : Builder). n.thread ≢ t) (same_some (sym e ∙ f)) other) ∙ e in
            ⊎_elim (λ none. (let bad : Some b ≡ None = sym same ∙ none in cc)) (λ k. other (ap (λ (n : Builder). n.thread) (same_some (sym same ∙ k.1)) ∙ k.2)) own

-- ---- the object on top of the stack

-- a type of references, and not one of objects that are still to be started
abbrev pub IsOfObject : VType → Type 0
IsOfObject types.Null = Unit {0}
IsOfObject (types.Ref class) = Unit {0}
IsOfObject type = ⊥

pub of_object : (type : VType) (class : ℕ) → is_below type (types.Ref class) ≡ true → IsOfObject type
of_object types.Null class e = tt
of_object (types.Ref d) class e = tt
of_object type class e = absurd (cc)

module _ (Old : ℕ → Type 0) (Fresh : (pc v : ℕ) → Type 0) (young : ℕ → Bool) (receiver v : ℕ) (some : 0 < v) where
  typed_slot : (type : VType) → IsOfObject type → SlotByType Old Fresh young type v → Old v
  typed_slot types.Null k h = absurd (omega (arith, some, h))
  typed_slot (types.Ref class) k h = h
  typed_slot type k h = absurd k

  own_slot : (type : VType) (tag : Tag) → IsOfObject type → OwnSlot Old Fresh young receiver type tag v → (v ≡ receiver) ⊎ Old v
  own_slot type This k h = inl h
  own_slot types.This tag k h = absurd k
  own_slot type tag k h = inr (typed_slot type k h)

  pub slot : (own : Bool) (type : VType) (tag : Tag) → IsOfObject type → SlotIs Old Fresh own young receiver type tag v → (v ≡ receiver) ⊎ Old v
  slot true type tag k h = own_slot type tag k h
  slot false type tag k h = inr (typed_slot type k h)
