-- Where guarded fields, final fields of frozen classes, and final static fields are written.
use Rattle.std.{proofs.Common.{◌≡◌, ℕ, Bool, true, false, not, ◌&&◌, ◌||◌, [], ◌∷◌, Some, None, refl, sym, subst, inl, inr, ◌⊎◌, arith, ◌==◌, slice_get, IsSomeAnd}, specs.List.list_any}
use Rattle.std.proofs.lemmas.Bool.{and_from, and_parts, eq-eqb, eqb-true, or_cases, Decides.nat_tests}
use Rattle.jvm_types.specs.{CodeTable.is_init, Members.{is_final, is_hidden, is_other_sort, is_class_init_name, initializes, first_rule, field_rule}, ProgramInvariant.{IsProgram, IsTargetOf, site_in}}
use Rattle.jvm_types.specs.declared.{code.{Insn.Insn, Op.Op}, program.{FieldInfo.FieldInfo, MethodInfo.MethodInfo, Program.Program, Target.Target}, refusal.LRule.TheVariants.{L2, L3, L7}}
use Rattle.checked_program.specs.{FrozenPlaces.{locks_this, locks_class, PutsGuarded, PutsStatic, WritesGuarded, PutsOnThis, is_final_of}, LockTags.{TagShape, is_this}}
use Rattle.checked_program.{specs.{SectionLaws.{WriteLaw, StaticWriteLaw, FinalLaw, FinalStaticLaw}, TaggedCode.{Tagged, IsAt}}, proofs.NamedFields.target_named}
use Rattle.jvm_types.specs.declared.code.Op.TheVariants as ops
use Rattle.jvm_types.specs.declared.program.Target.TheVariants as targets

pub or_three : (x y z : Bool) → (x || (y || z)) ≡ true → (x ≡ true) ⊎ (y ≡ true) ⊎ (z ≡ true)
or_three true y z e = inl refl
or_three false true z e = inr (inl refl)
or_three false false z e = inr (inr e)

pub write_law : WriteLaw
write_law p tags fi mi i index receiver m insn target f stack g at is names_field this =
    let here : PutsGuarded fi m (ops.Putfield index) (targets.Field fi) f = subst (λ t. PutsGuarded fi m (ops.Putfield index) t f) names_field (subst (λ op. PutsGuarded fi m op target f) is (g.written mi i m insn target f at)) in
    let written : WritesGuarded m f = here refl in
    (this 1 written.0, or_three (is_init m) (list_any is_this f.held) (locks_this m) written.1)

pub static_write_law : StaticWriteLaw
static_write_law p tags fi mi i index m insn target f g at is names_field =
    let here : PutsStatic fi g.field.class m (ops.Putstatic index) (targets.Field fi) =
    subst (λ t. PutsStatic fi g.field.class m (ops.Putstatic index) t) names_field (subst (λ op. PutsStatic fi g.field.class m op target) is (g.written mi i m insn target f at)) in
    let both = and_parts (m.class == g.field.class) (is_class_init_name m.name || locks_class m) (here refl) in
    (eqb-true m.class g.field.class both.0, or_cases (is_class_init_name m.name) (locks_class m) both.1)

-- ---- a final field is written in an `<init>` of its class, a static one in the `<clinit>`

-- only a rule that does not stand lets the others be tested
last_rule : (a b c : Bool) → first_rule ((a, L2) ∷ (b, L3) ∷ (c, L7) ∷ []) ≡ None → c ≡ false
last_rule false false false e = refl
last_rule a b c e = absurd (cc)

pub in_init : (final initializes : Bool) → (final && not initializes) ≡ false → final ≡ true → initializes ≡ true
in_init true true e f = refl
in_init final _ e f = absurd (cc)

initializing : (static : Bool) (class flags : ℕ) (m : MethodInfo) → field_rule static true (site_in m) class flags ≡ None → is_final flags ≡ true → initializes (site_in m) static class ≡ true
initializing static class flags m rule final =
    let last = last_rule (is_other_sort static flags) (is_hidden (site_in m) class flags) (is_final flags && not (initializes (site_in m) static class)) rule in
    in_init (is_final flags) (initializes (site_in m) static class) last final

may_write : (class flags : ℕ) (m : MethodInfo) → field_rule false true (site_in m) class flags ≡ None → is_final flags ≡ true → (class ≡ m.class) × (is_init m ≡ true)
may_write class flags m rule final =
    let both = and_parts (class == m.class) (is_init m) (initializing false class flags m rule final) in
    (grind (arith, nat_tests, both.0), both.1)

may_write_static : (class flags : ℕ) (m : MethodInfo) → field_rule true true (site_in m) class flags ≡ None → is_final flags ≡ true → (m.class ≡ class) × (is_class_init_name m.name ≡ true)
may_write_static class flags m rule final =
    let both = and_parts (class == m.class) (is_class_init_name m.name) (initializing true class flags m rule final) in
    (grind (arith, nat_tests, both.0), both.1)

of_field : (p : Program) (static : Bool) (fi : ℕ) (field : FieldInfo) (m : MethodInfo) → IsSomeAnd (slice_get p.fields fi) (λ f. field_rule static true (site_in m) f.class f.flags ≡ None) → slice_get p.fields fi ≡ Some field
    → field_rule static true (site_in m) field.class field.flags ≡ None
of_field p static fi field m h e = subst (λ o. IsSomeAnd o (λ (f : FieldInfo). field_rule static true (site_in m) f.class f.flags ≡ None)) e h

is_final_field : (class : ℕ) (field : FieldInfo) → field.class ≡ class → is_final field.flags ≡ true → is_final_of class (Some field) ≡ true
is_final_field class field same final = and_from (field.class == class) (is_final field.flags) (eq-eqb field.class class same) final

field_named : (p : Program) (tags : Tagged) (fi mi i : ℕ) (m : MethodInfo) (insn : Insn) (target : Target) (f : TagShape) (op : Op) → IsProgram p → IsAt p tags mi i m insn target f → insn.op ≡ op → target ≡ targets.Field fi
    → IsTargetOf p (site_in m) op (targets.Field fi)
field_named p tags fi mi i m insn target f op program at is names_field =
    subst (λ t. IsTargetOf p (site_in m) op t) names_field (subst (λ o. IsTargetOf p (site_in m) o target) is (target_named p tags mi i m insn target f program at))

pub final_law : FinalLaw
final_law p tags fi mi i index receiver m insn target f stack program g at is names_field this =
    let allowed = may_write g.field.class g.field.flags m (of_field p false fi g.field m (field_named p tags fi mi i m insn target f (ops.Putfield index) program at is names_field) g.is) g.final in
    let here : PutsOnThis p m insn.op target f = (g.frozen mi m at.in_program (sym allowed.0) allowed.1).finals i insn target f at in
    let here : PutsOnThis p m (ops.Putfield index) (targets.Field fi) f = subst (λ t. PutsOnThis p m (ops.Putfield index) t f) names_field (subst (λ op. PutsOnThis p m op target f) is here) in
    (allowed.1, this 1 (here (subst (λ o. is_final_of m.class o ≡ true) (sym g.is) (is_final_field m.class g.field allowed.0 g.final))))

pub final_static_law : FinalStaticLaw
final_static_law p tags fi mi i index m insn target f g program at is names_field =
    may_write_static g.field.class g.field.flags m (of_field p true fi g.field m (field_named p tags fi mi i m insn target f (ops.Putstatic index) program at is names_field) g.is) g.final
