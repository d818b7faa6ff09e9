-- A class meets itself in itself.
use Rattle.std.proofs.Common.{◌≡◌, ℕ, refl}
use Rattle.jvm_types.{specs.ClassTree.common_ancestor, proofs.TypeOrder.subclass_self}

pub meet_same_class : (class : ℕ) → common_ancestor class class ≡ class
unfolding common_ancestor
meet_same_class class = rw (subclass_self class) refl
