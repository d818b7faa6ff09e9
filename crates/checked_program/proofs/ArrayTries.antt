-- Owned arrays, tried: a class that keeps two numbers in an array of its own, and the same with a method that hands the array out.
use Rattle.std.proofs.Common.{◌≡◌, inl, inr, ℕ, zero, suc, pos, true, false, List, [], ◌∷◌, Some, None, refl, sym, ap, ◌∙◌, subst, arith, ◌↔◌, codes, replicate, slice_get}
use Rattle.std.proofs.lemmas.Bool.{false≢true, true≢false}
use Rattle.jvm_types.specs.{Members.{is_private, is_static, is_final}, declared.{program.{FieldInfo.FieldInfo, MethodInfo.MethodInfo, Program.Program}}}
use Rattle.checked_program.specs.{Colours.{ColourShape, is_coloured, IsColouring}, FrozenPlaces.{IsFrozenField, IsFrozenUse, IsGuardedUse, IsUse}}
use Rattle.checked_program.specs.{Marks.{HasMark}, OwnedArrays.{IsOwnedArrayField, IsOwnedAt, owns_arrays, AreUses, UsesArrayWell}}
use Rattle.checked_program.specs.{declared.section.{FieldUse.{FieldUse, TheVariants.{Frozen, Open}}, Uses.Uses}}
use Rattle.checked_program.proofs.{FrozenChecks.{is_frozen, is_written_guarded}, MarkChecks.{section, breaks_own, first_is, none_applies, not_beyond, none_is_called}}
use Rattle.checked_program.proofs.OwnedChecks.{gets_are_on_this, puts_are_new, are_used_well, elements_are, no_elements, no_elements_long, none_is_set, no_owners, none_owns}
use Rattle.checked_program.proofs.TriedPrograms.{method, op, names, program, tags_of}
use Rattle.jvm_types.specs.declared.code.Op.TheVariants as ops
use Rattle.jvm_types.specs.declared.program.Kind.TheVariants as kinds
use Rattle.jvm_types.specs.declared.program.Target.TheVariants as targets

-- ---- the program

abbrev array_field : FieldInfo
array_field = record { class = 17; flags = 18; kind = kinds.Ref 2; index = 0; start = pos 0 }

abbrev static_object : FieldInfo
static_object = record { class = 17; flags = 8; kind = kinds.Ref 17; index = 2070; start = pos 0 }

abbrev makes : MethodInfo
makes = method 0 (codes "<init>") [] None 2 1
    (op 0 1 (ops.Aload 0) ∷ names 1 4 (ops.Invokespecial 19) (targets.Init 1) ∷ op 4 5 (ops.Aload 0) ∷ op 5 6 (ops.Iconst (pos 2)) ∷ op 6 8 ops.Newarray
    ∷ names 8 11 (ops.Putfield 22) (targets.Field 0) ∷ op 11 12 ops.Return ∷ []) []

abbrev set : MethodInfo
set = method 32 (codes "set") (kinds.Int ∷ []) None 3 2
    (op 0 1 (ops.Aload 0) ∷ names 1 4 (ops.Getfield 22) (targets.Field 0) ∷ op 4 5 (ops.Iconst (pos 0)) ∷ op 5 6 (ops.Iload 1) ∷ op 6 7 ops.Iastore
    ∷ op 7 8 (ops.Aload 0) ∷ names 8 11 (ops.Getfield 22) (targets.Field 0) ∷ op 11 12 (ops.Iconst (pos 1)) ∷ op 12 13 (ops.Iload 1) ∷ op 13 14 ops.Iastore ∷ op 14 15 ops.Return ∷ []) []

abbrev sum : MethodInfo
sum = method 32 (codes "sum") [] (Some kinds.Int) 3 1
    (op 0 1 (ops.Aload 0) ∷ names 1 4 (ops.Getfield 22) (targets.Field 0) ∷ op 4 5 (ops.Iconst (pos 0)) ∷ op 5 6 ops.Iaload
    ∷ op 6 7 (ops.Aload 0) ∷ names 7 10 (ops.Getfield 22) (targets.Field 0) ∷ op 10 11 (ops.Iconst (pos 1)) ∷ op 11 12 ops.Iaload ∷ op 12 13 ops.Iadd ∷ op 13 14 ops.Ireturn ∷ []) []

abbrev leak : MethodInfo
leak = method 0 (codes "leak") [] (Some (kinds.Ref 2)) 1 1 (op 0 1 (ops.Aload 0) ∷ names 1 4 (ops.Getfield 22) (targets.Field 0) ∷ op 4 5 ops.Areturn ∷ []) []

abbrev fields : List FieldInfo
fields = array_field ∷ static_object ∷ []

abbrev kept : Program
kept = program fields (makes ∷ set ∷ sum ∷ [])

abbrev leaking : Program
leaking = program fields (makes ∷ set ∷ sum ∷ leak ∷ [])

-- ---- the array stays

that_is_array : (field : FieldInfo) → slice_get fields 0 ≡ Some field → array_field ≡ field
that_is_array field e = cc

is_owned : IsOwnedArrayField kept (tags_of kept) 0
is_owned = record {
  field = _;
  is = refl;
  private = refl;
  instance = refl;
  array = refl;
  frozen = is_frozen kept (tags_of kept) 17 refl;
  read = gets_are_on_this 0 kept (tags_of kept) refl;
  written = is_written_guarded 0 kept (tags_of kept) refl;
  new = puts_are_new 0 kept (tags_of kept) refl;
  used = λ mi m e k. are_used_well 0 kept (tags_of kept) refl mi m e;
}

final_is_frozen : IsFrozenField kept (tags_of kept) 0
final_is_frozen = record { field = _; is = refl; final = refl; instance = refl; frozen = is_frozen kept (tags_of kept) 17 refl }

that_is_static : (field : FieldInfo) → slice_get fields 1 ≡ Some field → static_object ≡ field
that_is_static field e = cc

static_is_open : (p : Program) → p.fields ≡ fields → IsUse p (tags_of p) 1 Open
static_is_open p e = (not_frozen, not_guarded)
  where
    it : (field : FieldInfo) → slice_get p.fields 1 ≡ Some field → static_object ≡ field
    it field h = that_is_static field (subst (λ (fs : List FieldInfo). slice_get fs 1 ≡ Some field) e h)

    no_instance : (field : FieldInfo) → static_object ≡ field → is_static field.flags ≡ false → ⊥
    no_instance field h k = true≢false (subst (λ (y : FieldInfo). is_static y.flags ≡ false) (sym h) k)

    not_frozen : IsFrozenUse p (tags_of p) 1 → ⊥
    not_frozen (inl f) = no_instance f.field (it f.field f.is) f.instance
    not_frozen (inr f) = false≢true (subst (λ (y : FieldInfo). is_final y.flags ≡ true) (sym (it f.field f.is)) f.final)

    not_guarded : IsGuardedUse p (tags_of p) 1 → ⊥
    not_guarded (inl g) = no_instance g.field (it g.field g.is) g.instance
    not_guarded (inr g) = false≢true (subst (λ (y : FieldInfo). is_private y.flags ≡ true) (sym (it g.field g.is)) g.private)

-- the elements that `sum` reads
abbrev uses : Uses
uses = record { fields = Frozen ∷ Open ∷ []; owners = true ∷ false ∷ []; elements = replicate 7 false ∷ replicate 11 false ∷ (false ∷ false ∷ false ∷ true ∷ false ∷ false ∷ false ∷ true ∷ false ∷ false ∷ []) ∷ [] }

use_of : (fi : ℕ) (u : FieldUse) → slice_get uses.fields fi ≡ Some u → IsUse kept (tags_of kept) fi u
use_of zero u e = let x : Frozen ≡ u = cc in subst (λ (w : FieldUse). IsUse kept (tags_of kept) 0 w) x (inl final_is_frozen)
use_of (suc zero) u e = let x : Open ≡ u = cc in subst (λ (w : FieldUse). IsUse kept (tags_of kept) 1 w) x (static_is_open kept refl)
use_of (suc (suc fi)) u e = cc

-- the static field holds no array
static_owns_none : (p : Program) → p.fields ≡ fields → IsOwnedArrayField p (tags_of p) 1 → ⊥
static_owns_none p e o = true≢false (ap (λ (field : FieldInfo). is_static field.flags) (that_is_static o.field (subst (λ (fs : List FieldInfo). slice_get fs 1 ≡ Some o.field) e o.is)) ∙ o.instance)

own_is : (fi : ℕ) → (owns_arrays uses fi ≡ true) ↔ IsOwnedArrayField kept (tags_of kept) fi
own_is zero = (λ h. is_owned, λ o. refl)
own_is (suc zero) = (λ h. absurd (false≢true h), λ o. absurd (static_owns_none kept refl o))
own_is (suc (suc fi)) = (λ h. absurd (false≢true h), λ o. absurd (let bad : None ≡ Some o.field = o.is in cc))

uses_are : AreUses kept (tags_of kept) uses
uses_are = record { fields = record { long = refl; each = use_of }; few = refl; owners = own_is; long = (refl, (refl, (refl, tt))); elements = elements_are 0 kept (tags_of kept) uses is_owned refl refl refl }

set_writes : HasMark kept (tags_of kept) uses (section 1) 1
set_writes = (
  breaks_own kept uses 1 4 1 _ _ _ _ (record { in_program = refl; in_code = refl; names = refl; frames = _; of_method = refl; frame = refl }) refl (omega arith),
  first_is kept (tags_of kept) uses (section 1) 1 (omega arith) tt refl (λ lt c. not_beyond 1 (omega arith) lt),
)

sum_is_marked : HasMark kept (tags_of kept) uses (section 2) 0
sum_is_marked = none_applies kept (tags_of kept) uses (section 2) tt refl (λ c. none_is_called kept (tags_of kept) (section 2) c.called refl c.is_called) (λ c. none_is_called kept (tags_of kept) (section 2) c.called refl c.is_called)

-- ---- the array is handed out

-- at the `areturn` the colouring has what was read from the field
returned : (colours : ℕ → ColourShape) → IsColouring leaking (tags_of leaking) 3 0 colours → is_coloured (colours 2).stack 0 ≡ true
returned colours k =
    let e0 = k.entry _ _ _ _ (record { in_program = refl; in_code = refl; names = refl; frames = _; of_method = refl; frame = refl }) in
    let e1 = k.onward 0 1 _ _ _ _ _ _ _ (record { in_program = refl; in_code = refl; names = refl; frames = _; of_method = refl; frame = refl }) (record { in_program = refl; in_code = refl; names = refl; frames = _; of_method = refl; frame = refl }) refl in
    let e2 = k.onward 1 2 _ _ _ _ _ _ _ (record { in_program = refl; in_code = refl; names = refl; frames = _; of_method = refl; frame = refl }) (record { in_program = refl; in_code = refl; names = refl; frames = _; of_method = refl; frame = refl }) refl in
    ap (λ (f : ColourShape). is_coloured f.stack 0) e2

leaks : IsOwnedArrayField leaking (tags_of leaking) 0 → ⊥
leaks o =
    let u : UsesArrayWell leaking (tags_of leaking) 3 0 = o.used 3 leak refl (ap (λ (field : FieldInfo). field.class) (that_is_array o.field o.is)) in
    false≢true (u.taken 2 _ _ _ _ (record { in_program = refl; in_code = refl; names = refl; frames = _; of_method = refl; frame = refl }) 0 (omega arith) (returned u.colours u.colouring))

that_is_first : (fi : ℕ) → IsOwnedArrayField leaking (tags_of leaking) fi → fi ≡ 0
that_is_first zero o = refl
that_is_first (suc zero) o = absurd (static_owns_none leaking refl o)
that_is_first (suc (suc fi)) o = absurd (let bad : None ≡ Some o.field = o.is in cc)

none_is_owned : (mi i k : ℕ) → IsOwnedAt leaking (tags_of leaking) mi i k → ⊥
none_is_owned mi i k at = leaks (subst (λ (fi : ℕ). IsOwnedArrayField leaking (tags_of leaking) fi) (that_is_first at.fi at.owned) at.owned)

leaking_frozen : IsFrozenField leaking (tags_of leaking) 0
leaking_frozen = record { field = _; is = refl; final = refl; instance = refl; frozen = is_frozen leaking (tags_of leaking) 17 refl }

abbrev uses_of_leaking : Uses
uses_of_leaking = record { fields = Frozen ∷ Open ∷ []; owners = no_owners leaking; elements = no_elements leaking }

use_of_leaking : (fi : ℕ) (u : FieldUse) → slice_get uses_of_leaking.fields fi ≡ Some u → IsUse leaking (tags_of leaking) fi u
use_of_leaking zero u e = let x : Frozen ≡ u = cc in subst (λ (w : FieldUse). IsUse leaking (tags_of leaking) 0 w) x (inl leaking_frozen)
use_of_leaking (suc zero) u e = let x : Open ≡ u = cc in subst (λ (w : FieldUse). IsUse leaking (tags_of leaking) 1 w) x (static_is_open leaking refl)
use_of_leaking (suc (suc fi)) u e = cc

leaking_uses : AreUses leaking (tags_of leaking) uses_of_leaking
leaking_uses = record {
  fields = record { long = refl; each = use_of_leaking };
  few = refl;
  owners = λ fi. (λ h. absurd (none_owns leaking fi h), λ o. absurd (leaks (subst (λ (k : ℕ). IsOwnedArrayField leaking (tags_of leaking) k) (that_is_first fi o) o)));
  long = no_elements_long leaking.methods;
  elements = λ mi i. (λ h. absurd (none_is_set leaking.methods mi i h), λ r. absurd (none_is_owned mi i 1 r.owned));
}

sum_reads_shared : HasMark leaking (tags_of leaking) uses_of_leaking (section 2) 5
sum_reads_shared = (
  breaks_own leaking uses_of_leaking 2 3 5 _ _ _ _ (record { in_program = refl; in_code = refl; names = refl; frames = _; of_method = refl; frame = refl }) refl (omega arith),
  first_is leaking (tags_of leaking) uses_of_leaking (section 2) 5 (omega arith) tt refl (λ lt c. not_beyond 5 (omega arith) lt),
)
