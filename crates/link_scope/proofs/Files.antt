-- Each of some files is a class, and has its number.
use Rattle.std.{proofs.{Common.{◌≡◌, ℕ, zero, suc, List, [], ◌∷◌, Some, subst, arith, slice_get}, lemmas.Option.slice_get_within}, specs.List.AllByRecursion}
use Rattle.jvm_types.specs.{ClassGrammar.IsClass, declared.class_file.ClassFile.ClassFile}
use Rattle.link_scope.specs.Scoping.{AreFiles, IsFileOf}

pub class_at : (files : List ClassFile) (file : ℕ) (c : ClassFile) → AllByRecursion IsClass files → slice_get files file ≡ Some c → IsClass c
class_at [] file c all e = absurd cc
class_at (d ∷ ds) zero c all e = let same : d ≡ c = cc in subst IsClass same all.0
class_at (d ∷ ds) (suc n) c all e = class_at ds n c all.1 e

pub is_file : (files : List ClassFile) (number : ℕ) (class : ClassFile) → AreFiles files → slice_get files number ≡ Some class
    → IsFileOf (record { files = files; number = number; class = class })
is_file files number class are here = record {
  number = omega (arith, are.few, slice_get_within files number class here);
  here = here;
  class = class_at files number class are.classes here;
}
