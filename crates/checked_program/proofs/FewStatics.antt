-- A program has few static fields.
use Rattle.std.proofs.Common.{ℕ, ◌≤◌, Bool, true, cond, ◌&&◌, List, [], ◌∷◌, arith, nat_lt}
use Rattle.jvm_types.specs.{Members.is_static, ProgramInvariant.{IsProgram, statics_among}, declared.{limits.TheConstants.MOST_HEAP, program.{FieldInfo.FieldInfo, Program.Program}}}
use Rattle.jvm_types.proofs.EachAfter.{sum_first}
use Rattle.checked_program.specs.CodeIndex.{statics_below}

pub few_statics : (p : Program) → IsProgram p → statics_among p.fields ≤ MOST_HEAP
few_statics p is = omega (arith, is.words, is.heap_to)

abbrev pub one_static : FieldInfo → ℕ
one_static f = cond (is_static f.flags) 1 0

abbrev pub one_below : (class : ℕ) → FieldInfo → ℕ
one_below class f = cond (nat_lt f.class class && is_static f.flags) 1 0

pub one_at_most : (class : ℕ) (f : FieldInfo) → one_below class f ≤ one_static f
one_at_most class f = by_tests (nat_lt f.class class) (is_static f.flags)
  where
    by_tests : (a b : Bool) → cond (a && b) 1 0 ≤ cond b 1 0
    by_tests true b = omega arith
    by_tests a b = omega arith

-- no more of the classes below a number than of all
pub statics_below_all : (class : ℕ) (fields : List FieldInfo) → statics_below class fields ≤ statics_among fields
statics_below_all class [] = omega arith
statics_below_all class (f ∷ fs) = omega (arith, one_at_most class f, statics_below_all class fs, sum_first (one_below class) f fs, sum_first one_static f fs)
