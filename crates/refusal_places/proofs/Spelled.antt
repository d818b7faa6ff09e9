-- The classes that contents spell, in number.
use Rattle.std.proofs.Common.{◌≡◌, ℕ, ◌≤◌, zero, suc, List, [], ◌∷◌, length, drop, Option, refl, ap, arith}
use Rattle.std.specs.List.{AllZip}
use Rattle.jvm_types.specs.declared.class_file.ClassFile.{ClassFile}
use Rattle.refusal_places.specs.Explained.{IsClassSpelled}

pub as_many : (contents : List (List ℕ)) (found : List (Option ClassFile)) → AllZip IsClassSpelled contents found → length found ≡ length contents
as_many [] [] all = refl
as_many [] (c ∷ found) all = absurd all
as_many (b ∷ contents) [] all = absurd all
as_many (b ∷ contents) (c ∷ found) all = ap suc (as_many contents found all.1)
