-- The method at an index that lies within those of a program.
use Rattle.std.proofs.Common.{◌≡◌, ℕ, zero, suc, ◌<◌, List, [], ◌∷◌, length, Option, Some, None, subst, arith, slice_get, IsSomeAnd}
use Rattle.jvm_types.specs.declared.program.MethodInfo.{MethodInfo}

pub is_there : (methods : List MethodInfo) (i : ℕ) → i < length methods → None ≡ slice_get methods i → ⊥
is_there [] i h e = absurd (omega (arith, h))
is_there (m ∷ ms) zero h e = absurd (cc)
is_there (m ∷ ms) (suc i) h e = is_there ms i (omega (arith, h)) e

pub some_and : (o : Option MethodInfo) (m : MethodInfo) (P : MethodInfo → Type 0) → Some m ≡ o → P m → IsSomeAnd o P
some_and o m P e h = subst (λ (x : Option MethodInfo). IsSomeAnd x P) e h
