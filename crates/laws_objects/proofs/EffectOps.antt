-- Which instructions read a field, store in one or make an object, by their effects.
use Rattle.std.proofs.Common.{◌≡◌, ℕ, Bool, true, false, ◌||◌, List, [], ◌∷◌, Option, Some, None, refl, sym, subst, ◌==◌, nat_lt, int_lt, pos, slice_get, if◌then◌else◌}
use Rattle.jvm_types.specs.{CodeTable.{row, get_row}, Members.MethodSite, declared.{class_numbers.TheConstants.INT_ARRAY_CLASS, code.Op.{Op, TheVariants.{Getfield, Newarray, Putfield}}}}
use Rattle.jvm_types.specs.declared.{op_row.OpRow.OpRow, program.{FieldInfo.FieldInfo, MethodInfo.MethodInfo, Program.Program, Target.{Target, TheVariants.Field}}}
use Rattle.laws_programs.specs.TargetLaws.{HasRow}
use Rattle.machine_types.specs.{Construction.puts_owned, Effects.{effect, gets, puts, variable_of, kept}, Ints.{low, int_of}, Words.{header, array_size}, declared.effect.Effect.Effect}
use Rattle.machine_types.specs.declared.effect.Effect.TheVariants.{Reads, Writes, Makes, Throws, Stuck}
use Rattle.laws_objects.proofs.{Operands.is_getfield, PutPlaces.is_newarray}
use Rattle.jvm_types.specs.declared.outcome.Thrown.TheVariants as thrown

abbrev pub is_putfield : Op → Bool
is_putfield (Putfield i) = true
is_putfield op = false

-- it reads none, stores none and makes none
abbrev pub IsUsual : Op → Type 0
IsUsual op = (is_getfield op ≡ false) × (is_putfield op ≡ false) × (is_newarray op ≡ false)

abbrev pub FitsOp : Effect → Op → Type 0
FitsOp (Reads v) op = (is_putfield op ≡ false) × (is_newarray op ≡ false)
FitsOp (Writes v word) op = (is_getfield op ≡ false) × (is_newarray op ≡ false)
FitsOp (Makes word size) op = (is_getfield op ≡ false) × (is_putfield op ≡ false)
FitsOp (Throws x) op = Unit {0}
FitsOp Stuck op = Unit {0}
FitsOp e op = (is_getfield op ≡ false) × (is_putfield op ≡ false) × (is_newarray op ≡ false)

any_fits : (e : Effect) (op : Op) → IsUsual op → FitsOp e op
any_fits (Reads v) op u = (u.1, u.2)
any_fits (Writes v word) op u = (u.0, u.2)
any_fits (Makes word size) op u = (u.0, u.1)
any_fits e op u = assumption

-- a `getfield` and a `putfield` name a field
pub names_a_field : (p : Program) (site : MethodSite) (pc : ℕ) (target : Target) (op : Op) (r : OpRow) → HasRow p site pc target op r → (is_getfield op || is_putfield op) ≡ true → (number : ℕ) × (target ≡ Field number)
names_a_field p site pc (Field number) (Getfield i) r h e = (number, refl)
names_a_field p site pc (Field number) (Putfield i) r h e = (number, refl)
names_a_field p site pc target (Getfield i) r h e = absurd (first_of (assumption, cc))
names_a_field p site pc target op r h e = absurd (first_of (assumption, cc))

module _ (p : Program) (next : ℕ) where
  get_fits : (o : Option FieldInfo) (s : List ℕ) (i : ℕ) → FitsOp (gets o s) (Getfield i)
  get_fits (Some f) (a ∷ s) i = elim (a == 0) as (λ (b : Bool). FitsOp (if b then Throws thrown.NullPointerException else Reads (variable_of f a)) (Getfield i)) [ true ↦ tt | false ↦ (refl, refl) ]
  get_fits o s i = tt

  put_fits : (o : Option FieldInfo) (s : List ℕ) (i : ℕ) → FitsOp (puts o s) (Putfield i)
  put_fits (Some f) (v ∷ a ∷ s) i = elim (a == 0) as (λ (b : Bool). FitsOp (if b then Throws thrown.NullPointerException else Writes (variable_of f a) (kept f.kind v)) (Putfield i)) [ true ↦ tt | false ↦ (refl, refl) ]
  put_fits o s i = tt

  array_fits : (l s : List ℕ) (target : Target) → FitsOp (effect p next target Newarray l s) Newarray
  array_fits l [] target = tt
  array_fits l (a ∷ s) target = by_test (int_lt (int_of a) (pos 0)) (nat_lt p.heap (low a))
    where
      by_test : (b c : Bool) → FitsOp (if b then Throws thrown.NegativeArraySizeException else if c then Throws thrown.OutOfMemoryError else Makes (header INT_ARRAY_CLASS (low a)) (array_size (low a))) Newarray
      by_test false false = (refl, refl)
      by_test b c = tt

  pub effect_fits : (target : Target) (op : Op) (l s : List ℕ) → ((is_getfield op || is_putfield op) ≡ true → (number : ℕ) × (target ≡ Field number)) → FitsOp (effect p next target op l s) op
  effect_fits target (Getfield i) l s names =
      let n = names refl in
      subst (λ (x : Target). FitsOp (effect p next x (Getfield i) l s) (Getfield i)) (sym n.1) (get_fits (slice_get p.fields n.0) s i)
  effect_fits target (Putfield i) l s names =
      let n = names refl in
      subst (λ (x : Target). FitsOp (effect p next x (Putfield i) l s) (Putfield i)) (sym n.1) (put_fits (slice_get p.fields n.0) s i)
  effect_fits target Newarray l s names = array_fits l s target
  effect_fits target op l s names = any_fits (effect p next target op l s) op (refl, refl, refl)

pub stores_none : (owned : ℕ → Bool) (op : Op) (target : Target) → is_putfield op ≡ false → puts_owned owned op target ≡ false
stores_none owned (Putfield i) target e = absurd (cc)
stores_none owned op target e = refl

pub get_writes : (p : Program) (m : MethodInfo) (pc : ℕ) (target : Target) (op : Op) → is_getfield op ≡ true → (row p m pc target op).writes ≡ None
get_writes p m pc (Field fi) (Getfield i) e = elim (slice_get p.fields fi) as (λ (o : Option FieldInfo). (get_row o).writes ≡ None) [ None ↦ refl | Some field ↦ refl ]
get_writes p m pc target (Getfield i) e = refl
get_writes p m pc target op e = absurd (let bad : false ≡ true = e in cc)
