-- Sections on a class, tried: two private static fields that static synchronized methods write and read, and the same with one
-- of them for all to write.
use Rattle.std.proofs.{Common.{◌≡◌, inl, inr, ℕ, zero, suc, pos, true, false, [], ◌∷◌, Some, None, refl, sym, subst, arith, codes, slice_get}, lemmas.Bool.{false≢true, true≢false}}
use Rattle.jvm_types.specs.{Members.{is_private, is_static, is_final}, declared.{program.{FieldInfo.FieldInfo, MethodInfo.MethodInfo, Program.Program}}}
use Rattle.checked_program.specs.{FrozenPlaces.{IsFrozenUse, IsGuardedStatic, IsGuardedUse, IsUse}, Marks.{HasMark}}
use Rattle.checked_program.specs.{OwnedArrays.{AreUses}, Sections.{sections, section_mode}, declared.section.{FieldUse.{FieldUse, TheVariants.{Guarded, Open}}, Uses.Uses}}
use Rattle.checked_program.{specs.declared.section.{Mode.TheVariants.OnClass}, proofs.{FrozenChecks.is_written_static, OwnedChecks.{no_elements, no_owners, none_are_read}}}
use Rattle.checked_program.proofs.{MarkChecks.{section, breaks_own, first_is, none_applies, not_beyond, none_is_called}, TriedPrograms.{method, op, names, program, tags_of}}
use Rattle.jvm_types.specs.declared.code.Op.TheVariants as ops
use Rattle.jvm_types.specs.declared.program.Kind.TheVariants as kinds
use Rattle.jvm_types.specs.declared.program.Target.TheVariants as targets

-- ---- the program

abbrev static_int : (flags index : ℕ) → FieldInfo
static_int flags index = record { class = 17; flags = flags; kind = kinds.Int; index = index; start = pos 0 }

abbrev set : MethodInfo
set = method 40 (codes "set") (kinds.Int ∷ []) None 1 1
    (op 0 1 (ops.Iload 0) ∷ names 1 4 (ops.Putstatic 22) (targets.Field 0) ∷ op 4 5 (ops.Iload 0) ∷ names 5 8 (ops.Putstatic 24) (targets.Field 1) ∷ op 8 9 ops.Return ∷ []) []

abbrev sum : MethodInfo
sum = method 40 (codes "sum") [] (Some kinds.Int) 2 0
    (names 0 3 (ops.Getstatic 22) (targets.Field 0) ∷ names 3 6 (ops.Getstatic 24) (targets.Field 1) ∷ op 6 7 ops.Iadd ∷ op 7 8 ops.Ireturn ∷ []) []

abbrev with_first : (flags : ℕ) → Program
with_first flags = program (static_int flags 2070 ∷ static_int 10 2071 ∷ []) (set ∷ sum ∷ [])

both_sections : sections (with_first 10) ≡ section 0 ∷ section 1 ∷ []
both_sections = refl

on_class : section_mode (with_first 10) (section 1) ≡ OnClass 17
on_class = refl

-- ---- both fields private

abbrev both : Program
both = with_first 10

first_is_guarded : IsGuardedStatic both (tags_of both) 0
first_is_guarded = record { field = _; is = refl; private = refl; changes = refl; static = refl; written = is_written_static 0 17 both (tags_of both) refl }

second_is_guarded : IsGuardedStatic both (tags_of both) 1
second_is_guarded = record { field = _; is = refl; private = refl; changes = refl; static = refl; written = is_written_static 1 17 both (tags_of both) refl }

abbrev uses_of_both : Uses
uses_of_both = record { fields = Guarded ∷ Guarded ∷ []; owners = no_owners both; elements = no_elements both }

use_of_both : (fi : ℕ) (u : FieldUse) → slice_get uses_of_both.fields fi ≡ Some u → IsUse both (tags_of both) fi u
use_of_both zero u e = let x : Guarded ≡ u = cc in subst (λ (w : FieldUse). IsUse both (tags_of both) 0 w) x (inr first_is_guarded)
use_of_both (suc zero) u e = let x : Guarded ≡ u = cc in subst (λ (w : FieldUse). IsUse both (tags_of both) 1 w) x (inr second_is_guarded)
use_of_both (suc (suc fi)) u e = cc

uses_are : AreUses both (tags_of both) uses_of_both
uses_are = none_are_read both (tags_of both) uses_of_both.fields refl refl (record { long = refl; each = use_of_both })

set_writes : HasMark both (tags_of both) uses_of_both (section 0) 1
set_writes = (
  breaks_own both uses_of_both 0 1 1 _ _ _ _ (record { in_program = refl; in_code = refl; names = refl; frames = _; of_method = refl; frame = refl }) refl (omega arith),
  first_is both (tags_of both) uses_of_both (section 0) 1 (omega arith) tt refl (λ lt c. not_beyond 1 (omega arith) lt),
)

sum_is_marked : HasMark both (tags_of both) uses_of_both (section 1) 0
sum_is_marked = none_applies both (tags_of both) uses_of_both (section 1) tt refl (λ c. none_is_called both (tags_of both) (section 1) c.called refl c.is_called) (λ c. none_is_called both (tags_of both) (section 1) c.called refl c.is_called)

-- ---- the first field not private

abbrev shared : Program
shared = with_first 8

that_is_first : (field : FieldInfo) → slice_get shared.fields 0 ≡ Some field → static_int 8 2070 ≡ field
that_is_first field e = cc

not_frozen : IsFrozenUse shared (tags_of shared) 0 → ⊥
not_frozen (inl f) = true≢false (subst (λ (x : FieldInfo). is_static x.flags ≡ false) (sym (that_is_first f.field f.is)) f.instance)
not_frozen (inr f) = false≢true (subst (λ (x : FieldInfo). is_final x.flags ≡ true) (sym (that_is_first f.field f.is)) f.final)

not_guarded : IsGuardedUse shared (tags_of shared) 0 → ⊥
not_guarded (inl g) = true≢false (subst (λ (x : FieldInfo). is_static x.flags ≡ false) (sym (that_is_first g.field g.is)) g.instance)
not_guarded (inr g) = false≢true (subst (λ (x : FieldInfo). is_private x.flags ≡ true) (sym (that_is_first g.field g.is)) g.private)

first_is_open : IsUse shared (tags_of shared) 0 Open
first_is_open = (not_frozen, not_guarded)

abbrev uses_of_shared : Uses
uses_of_shared = record { fields = Open ∷ Guarded ∷ []; owners = no_owners shared; elements = no_elements shared }

sum_reads_shared : HasMark shared (tags_of shared) uses_of_shared (section 1) 5
sum_reads_shared = (
  breaks_own shared uses_of_shared 1 0 5 _ _ _ _ (record { in_program = refl; in_code = refl; names = refl; frames = _; of_method = refl; frame = refl }) refl (omega arith),
  first_is shared (tags_of shared) uses_of_shared (section 1) 5 (omega arith) tt refl (λ lt c. not_beyond 5 (omega arith) lt),
)
