-- What is known of the members of a file.
use Rattle.std.{proofs.{Common.{◌≡◌, ℕ, zero, suc, ◌<◌, ◌^◌, List, [], ◌∷◌, Some, subst, arith, slice_get}, lemmas.Option.slice_get_within}, specs.List.AllByRecursion}
use Rattle.jvm_types.specs.{ClassGrammar.{IsClass, IndicesFit}, Pool.{NamesClass, NamesNameAndType}, declared.class_file.{ClassFile.ClassFile, Constant.{Constant, TheVariants.{Field, Method}}}}
use Rattle.jvm_types.specs.declared.class_file.Member.{Member as ClassMember}
use Rattle.link_scope.specs.Scoping.{FileOf, IsFileOf}

-- members are counted in two bytes
pub field_number : (f : FileOf) (number : ℕ) (m : ClassMember) → IsFileOf f → slice_get f.class.fields number ≡ Some m → number < 65536
field_number f number m is e = omega (arith, is.class.fields.count, slice_get_within f.class.fields number m e)

pub method_number : (f : FileOf) (number : ℕ) (m : ClassMember) → IsFileOf f → slice_get f.class.methods number ≡ Some m → number < 65536
method_number f number m is e = omega (arith, is.class.methods.count, slice_get_within f.class.methods number m e)

-- ---- what the constant of a member names

entry_at : (P : Constant → Type 0) (pool : List Constant) (i : ℕ) (c : Constant) → AllByRecursion P pool → slice_get pool i ≡ Some c → P c
entry_at P [] i c all e = absurd cc
entry_at P (d ∷ ds) zero c all e = let same : d ≡ c = cc in subst P same all.0
entry_at P (d ∷ ds) (suc n) c all e = entry_at P ds n c all.1 e

module _ (f : FileOf) (i class member : ℕ) (is : IsFileOf f) where
  fits : (c : Constant) → slice_get f.class.constants i ≡ Some c → IndicesFit f.class.constants c
  fits c e = entry_at (IndicesFit f.class.constants) f.class.constants i c is.class.pool.indices e

  pub field_class : slice_get f.class.constants i ≡ Some (Field class member) → NamesClass f.class.constants class
  field_class e = (fits (Field class member) e).0

  pub field_member : slice_get f.class.constants i ≡ Some (Field class member) → NamesNameAndType f.class.constants member
  field_member e = (fits (Field class member) e).1

  pub method_class : slice_get f.class.constants i ≡ Some (Method class member) → NamesClass f.class.constants class
  method_class e = (fits (Method class member) e).0

  pub method_member : slice_get f.class.constants i ≡ Some (Method class member) → NamesNameAndType f.class.constants member
  method_member e = (fits (Method class member) e).1
