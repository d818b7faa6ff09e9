-- Lists of numbers of methods, made from the last on.
use Rattle.std.proofs.Common.{◌≡◌, ℕ, suc, ◌+◌, ◌-◌, ◌<◌, Bool, true, false, List, ◌∷◌, ◌++◌, length, drop, Some, sym, ap, ◌∙◌, arith, slice_get, if◌then◌else◌}
use Rattle.jvm_types.specs.{ProgramInvariant.IsProgram, declared.program.{MethodInfo.MethodInfo, Program.Program}}
use Rattle.machine_types.specs.Parts.{numbers_of}
use Rattle.frames.proofs.FewMethods.{few_methods}
use Rattle.jvm_types.proofs.EachAfter.{drop_got}

before_rest : (test : Bool) (n : ℕ) (rest old before : List ℕ) → before ≡ rest ++ old → (if test then n ∷ before else before) ≡ (if test then n ∷ rest else rest) ++ old
before_rest true n rest old before e = ap (λ (ns : List ℕ). n ∷ ns) e
before_rest false n rest old before e = e

pub roots_step : (test : MethodInfo → Bool) (ms : List MethodInfo) (i : ℕ) (m : MethodInfo) (before old : List ℕ) → 0 < i → slice_get ms (i - 1) ≡ Some m → before ≡ numbers_of test i (drop i ms) ++ old
    → (if test m then (i - 1) ∷ before else before) ≡ numbers_of test (i - 1) (drop (i - 1) ms) ++ old
roots_step test ms i m before old l e is =
    let next : suc (i - 1) ≡ i = omega (arith, l) in
    let behind : (i - 1) + 1 ≡ i = omega (arith, l) in
    let opened : drop (i - 1) ms ≡ m ∷ drop i ms = drop_got ms (i - 1) m e ∙ ap (λ (n : ℕ). m ∷ drop n ms) behind in
    before_rest (test m) (i - 1) (numbers_of test i (drop i ms)) old before is
    ∙ ap (λ (n : ℕ). (if test m then (i - 1) ∷ numbers_of test n (drop i ms) else numbers_of test n (drop i ms)) ++ old) (sym next)
    ∙ ap (λ (rest : List MethodInfo). numbers_of test (i - 1) rest ++ old) (sym opened)

pub few : (p : Program) → IsProgram p → length p.methods < 4294967296
few p is = omega (arith, few_methods p is)
