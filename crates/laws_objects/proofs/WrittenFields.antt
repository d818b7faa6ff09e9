-- An instruction that writes an instance field is a `putfield`, on the object below the value on its stack, and one that writes a
-- static field is a `putstatic`.
use Rattle.std.proofs.Common.{◌≡◌, ◌⊎◌, inl, inr, ℕ, Bool, true, false, List, [], ◌∷◌, Option, Some, None, refl, sym, ap, ◌∙◌, slice_get, slice_index, ◌==◌, if◌then◌else◌}
use Rattle.jvm_types.specs.{Members.MethodSite, ProgramInvariant.IsTargetOf, declared.{code.Op.Op, outcome.Thrown.TheVariants.NullPointerException, program.{FieldInfo.FieldInfo, Program.Program}}}
use Rattle.machine_types.specs.{Effects.{variable_of, kept, gets_static, puts_static, gets, puts, effect}, declared.effect.{Effect.TheVariants.{Reads, Throws, Writes}, Variable.Variable}}
use Rattle.jvm_types.specs.declared.code.Op.TheVariants as ops
use Rattle.jvm_types.specs.declared.program.Target.TheVariants as targets

-- it writes the variable on the object that stands below the value
pub record Puts (op : Op) (f : FieldInfo) (stack : List ℕ) (v : Variable) : Type 0 where
  pub index : ℕ
  pub is : op ≡ ops.Putfield index
  pub variable : v ≡ variable_of f (slice_index stack 1)

-- it writes the variable of a static field
pub record PutsOnClass (op : Op) (f : FieldInfo) (v : Variable) : Type 0 where
  pub index : ℕ
  pub is : op ≡ ops.Putstatic index
  pub variable : v ≡ variable_of f 0

same_variable : (v u : Variable) (a b : ℕ) → Writes v a ≡ Writes u b → u ≡ v
same_variable v u a b e = cc

pub no_static_read : (f : Option FieldInfo) (v : Variable) (word : ℕ) → gets_static f ≡ Writes v word → ⊥
no_static_read None v word e = cc
no_static_read (Some f) v word e = cc

pub no_read : (f : Option FieldInfo) (stack : List ℕ) (v : Variable) (word : ℕ) → gets f stack ≡ Writes v word → ⊥
no_read (Some f) (a ∷ stack) v word e = (elim (a == 0) as (λ (b : Bool). (if b then Throws NullPointerException else Reads (variable_of f a)) ≡ Writes v word → ⊥) [ true ↦ λ e. cc | false ↦ λ e. cc ]) e
no_read f stack v word e = cc

puts_static_of : (f : FieldInfo) (stack : List ℕ) (v : Variable) (word : ℕ) → puts_static (Some f) stack ≡ Writes v word → v ≡ variable_of f 0
puts_static_of f [] v word e = absurd (cc)
puts_static_of f (n ∷ stack) v word e = same_variable (variable_of f 0) v (kept f.kind n) word e

puts_of : (i : ℕ) (f : FieldInfo) (stack : List ℕ) (v : Variable) (word : ℕ) → puts (Some f) stack ≡ Writes v word → Puts (ops.Putfield i) f stack v
puts_of i f [] v word e = absurd (cc)
puts_of i f (n ∷ []) v word e = absurd (cc)
puts_of i f (n ∷ a ∷ stack) v word e =
    (elim (a == 0) as (λ (b : Bool). (if b then Throws NullPointerException else Writes (variable_of f a) (kept f.kind n)) ≡ Writes v word → Puts (ops.Putfield i) f (n ∷ a ∷ stack) v)
    [ true ↦ λ e. absurd (cc) | false ↦ λ e. record { index = i; is = refl; variable = same_variable (variable_of f a) v (kept f.kind n) word e } ]) e

-- an instruction that names the field, and writes a variable
module _ (p : Program) (site : MethodSite) (number next : ℕ) (f : FieldInfo) (v : Variable) (word : ℕ) (there : slice_get p.fields number ≡ Some f) where
  pub field_put : (op : Op) (locals stack : List ℕ) → IsTargetOf p site op (targets.Field number) → effect p next (targets.Field number) op locals stack ≡ Writes v word → PutsOnClass op f v ⊎ Puts op f stack v
  field_put (ops.Getstatic i) locals stack h e = absurd (no_static_read (slice_get p.fields number) v word e)
  field_put (ops.Putstatic i) locals stack h e = inl (record { index = i; is = refl; variable = puts_static_of f stack v word (ap (λ (o : Option FieldInfo). puts_static o stack) (sym there) ∙ e) })
  field_put (ops.Getfield i) locals stack h e = absurd (no_read (slice_get p.fields number) stack v word e)
  field_put (ops.Putfield i) locals stack h e = inr (puts_of i f stack v word (ap (λ (o : Option FieldInfo). puts o stack) (sym there) ∙ e))
  field_put op locals stack h e = absurd (first_of (assumption, cc))
