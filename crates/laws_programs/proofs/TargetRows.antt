-- The row of an instruction with a constant, target by target.
use Rattle.std.proofs.{Common.{◌≡◌, ℕ, Bool, true, false, cond, not, ◌&&◌, ◌||◌, List, [], ◌∷◌, Option, Some, None, refl, IsSomeAnd, slice_get}, lemmas.Bool.{and_parts, not-false}}
use Rattle.jvm_types.specs.{CodeTable.row, ProgramInvariant.{IsTargetOf, site_in}, declared.{call.Call.{Call, TheVariants.{Virtual, Special, Static}}, code.Op.Op, op_row.OpRow.OpRow}}
use Rattle.jvm_types.specs.Members.{is_static, is_init_name, is_class_init_name, is_final, is_other_sort, is_hidden, initializes, first_rule, MethodSite, field_rule, call_rule, fits_call}
use Rattle.jvm_types.specs.declared.{program.{FieldInfo.FieldInfo, MethodInfo.MethodInfo, Program.Program, Target.Target}, refusal.LRule.{LRule, TheVariants.{L2, L3, L7}}}
use Rattle.laws_programs.specs.TargetLaws.{NamesField, NamesMethod, HasRow, TargetsHaveRows}
use Rattle.jvm_types.specs.declared.code.Op.TheVariants as ops
use Rattle.jvm_types.specs.declared.program.Target.TheVariants as targets

-- ---- what rules that hold say

first_holds : (test : Bool) (rule : LRule) (tests : List (Bool × LRule)) → first_rule ((test, rule) ∷ tests) ≡ None → test ≡ false
first_holds true rule tests e = absurd (cc)
first_holds false rule tests e = refl

of_sort : (static other : Bool) → cond static (not other) other ≡ false → other ≡ static
of_sort true true e = refl
of_sort true false e = absurd (cc)
of_sort false other e = e

module _ (p : Program) (site : MethodSite) where
  field_named : (static writes : Bool) (number : ℕ) (row_of : Option FieldInfo → OpRow) (o : Option FieldInfo) → slice_get p.fields number ≡ o
      → IsSomeAnd o (λ f. field_rule static writes site f.class f.flags ≡ None) → NamesField p number static row_of (row_of o)
  field_named static writes number row_of None e h = absurd h
  field_named static writes number row_of (Some f) e h = record {
    field = f;
    there = e;
    sort = of_sort static (is_static f.flags) (first_holds (is_other_sort static f.flags) L2 ((is_hidden site f.class f.flags, L3) ∷ (writes && is_final f.flags && not (initializes site static f.class), L7) ∷ []) h);
    its = refl;
  }

  fitting : (call : Call) (class : ℕ) (name : List ℕ) (flags : ℕ) → call_rule call site class name flags ≡ None → fits_call call site class name flags ≡ true
  fitting call class name flags e = not-false (fits_call call site class name flags) (first_holds (not (fits_call call site class name flags)) L2 ((is_hidden site class flags, L3) ∷ []) e)

  virtual_sort : (a b c : Bool) → not (a || b || c) ≡ true → a ≡ false
  virtual_sort true b c e = absurd (cc)
  virtual_sort false b c e = refl

  special_sort : (a b d : Bool) → (not (a || b) && d) ≡ true → a ≡ false
  special_sort true b d e = absurd (cc)
  special_sort false b d e = refl

  abbrev is_static_call : Call → Bool
  is_static_call Virtual = false
  is_static_call Special = false
  is_static_call Static = true

  call_sort : (call : Call) (class : ℕ) (name : List ℕ) (flags : ℕ) → fits_call call site class name flags ≡ true → is_static flags ≡ is_static_call call
  call_sort Virtual class name flags e = virtual_sort (is_static flags) (is_init_name name) (is_class_init_name name) e
  call_sort Special class name flags e = special_sort (is_static flags) (is_class_init_name name) _ e
  call_sort Static class name flags e = (and_parts (is_static flags) _ e).0

  method_named : (call : Call) (number : ℕ) (row_of : Option MethodInfo → OpRow) (o : Option MethodInfo) → slice_get p.methods number ≡ o
      → IsSomeAnd o (λ c. call_rule call site c.class c.name c.flags ≡ None) → NamesMethod p site number call (is_static_call call) row_of (row_of o)
  method_named call number row_of None e h = absurd h
  method_named call number row_of (Some c) e h =
      let fit = fitting call c.class c.name c.flags h in
      record { method = c; there = e; fits = fit; sort = call_sort call c.class c.name c.flags fit; its = refl }

-- ---- op by op

module _ (p : Program) (m : MethodInfo) (pc : ℕ) where
  abbrev Its : Target → Op → Type 0
  Its target op = IsTargetOf p (site_in m) op target → HasRow p (site_in m) pc target op (row p m pc target op)

  pub rows_stand : (target : Target) (op : Op) → Its target op
  rows_stand (targets.Value n) (ops.Ldc i) h = refl
  rows_stand (targets.Value n) (ops.LdcW i) h = refl
  rows_stand (targets.Class class) (ops.New i) h = (refl, h.0, h.1)
  rows_stand (targets.Field number) (ops.Getstatic i) h = field_named p (site_in m) true false number _ (slice_get p.fields number) refl h
  rows_stand (targets.Field number) (ops.Putstatic i) h = field_named p (site_in m) true true number _ (slice_get p.fields number) refl h
  rows_stand (targets.Field number) (ops.Getfield i) h = field_named p (site_in m) false false number _ (slice_get p.fields number) refl h
  rows_stand (targets.Field number) (ops.Putfield i) h = field_named p (site_in m) false true number _ (slice_get p.fields number) refl h
  rows_stand (targets.Method number) (ops.Invokevirtual i) h = method_named p (site_in m) Virtual number _ (slice_get p.methods number) refl h
  rows_stand (targets.Method number) (ops.Invokespecial i) h = method_named p (site_in m) Special number _ (slice_get p.methods number) refl h
  rows_stand (targets.Method number) (ops.Invokestatic i) h = method_named p (site_in m) Static number _ (slice_get p.methods number) refl h
  rows_stand (targets.Init class) (ops.Invokespecial i) h = (refl, h)
  rows_stand targets.Out (ops.Getstatic i) h = refl
  rows_stand targets.Println (ops.Invokevirtual i) h = refl
  rows_stand targets.Wait (ops.Invokevirtual i) h = refl
  rows_stand targets.Notify (ops.Invokevirtual i) h = refl
  rows_stand targets.NotifyAll (ops.Invokevirtual i) h = refl
  rows_stand targets.Nothing (ops.Ldc i) h = absurd h
  rows_stand targets.Nothing (ops.LdcW i) h = absurd h
  rows_stand targets.Nothing (ops.Getstatic i) h = absurd h
  rows_stand targets.Nothing (ops.Putstatic i) h = absurd h
  rows_stand targets.Nothing (ops.Getfield i) h = absurd h
  rows_stand targets.Nothing (ops.Putfield i) h = absurd h
  rows_stand targets.Nothing (ops.Invokevirtual i) h = absurd h
  rows_stand targets.Nothing (ops.Invokespecial i) h = absurd h
  rows_stand targets.Nothing (ops.Invokestatic i) h = absurd h
  rows_stand targets.Nothing (ops.New i) h = absurd h
  rows_stand targets.Nothing op h = refl
  rows_stand target op h = absurd (first_of (assumption, cc))

pub targets_rows : TargetsHaveRows
targets_rows p m pc target op h = rows_stand p m pc target op h
