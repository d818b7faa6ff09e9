-- The methods that instructions call are some of the program, and these are few.
use Rattle.std.{proofs.{Common.{◌≡◌, ℕ, zero, suc, ◌<◌, ◌≤◌, List, [], ◌∷◌, length, Some, refl, subst, arith, slice_get, IsSomeAnd}, lemmas.List.Sums.sum_by-cons}, specs.List.sum_by}
use Rattle.std.proofs.lemmas.Option.{slice_get_within, same_Some}
use Rattle.jvm_types.specs.{Members.MethodSite, ProgramInvariant.{IsProgram, IsTargetOf}, declared.{code.Op.Op, limits.TheConstants.MOST_INSTRUCTIONS, program.MethodInfo.MethodInfo}}
use Rattle.jvm_types.specs.declared.program.{Program.Program, Target.Target}
use Rattle.laws_programs.proofs.CodeOrder.{methods_laid_out, starts}
use Rattle.checked_program.specs.Marks.{called_method}
use Rattle.jvm_types.specs.declared.code.Op.TheVariants as ops
use Rattle.jvm_types.specs.declared.program.Target.TheVariants as targets

-- ---- each method has an instruction

pub some_each : (ms : List MethodInfo) → ((i : ℕ) (m : MethodInfo) → slice_get ms i ≡ Some m → 0 < length m.code) → length ms ≤ sum_by (λ m. length m.code) ms
some_each [] h = omega arith
some_each (m ∷ ms) h = omega (arith, sum_by-cons (λ m. length m.code) m ms, h 0 m refl, some_each ms (λ i n e. h (suc i) n e))

pub methods_few : (p : Program) → IsProgram p → length p.methods ≤ MOST_INSTRUCTIONS
methods_few p is =
    let low : length p.methods ≤ sum_by (λ m. length m.code) p.methods = some_each p.methods (λ i m e. let first = starts m (methods_laid_out p i m is e) in slice_get_within m.code 0 first.0 first.1) in
    let size : sum_by (λ m. length m.code) p.methods ≤ MOST_INSTRUCTIONS = is.size in
    omega (arith, low, size)

-- ---- and is among the methods that are called

some_inside : (ms : List MethodInfo) (u : ℕ) (P : MethodInfo → Type 0) → IsSomeAnd (slice_get ms u) P → u < length ms
some_inside [] u P h = absurd h
some_inside (m ∷ ms) zero P h = omega arith
some_inside (m ∷ ms) (suc u) P h = let more : u < length ms = some_inside ms u P h in omega (arith, more)

pub named : (p : Program) (site : MethodSite) (op : Op) (target : Target) (u : ℕ) → called_method op target ≡ Some u → IsTargetOf p site op target → u < length p.methods
named p site (ops.Invokevirtual i) (targets.Method v) u e t = let same : v ≡ u = same_Some v u e in subst (λ x. x < length p.methods) same (some_inside p.methods v _ t)
named p site (ops.Invokespecial i) (targets.Method v) u e t = let same : v ≡ u = same_Some v u e in subst (λ x. x < length p.methods) same (some_inside p.methods v _ t)
named p site (ops.Invokestatic i) (targets.Method v) u e t = let same : v ≡ u = same_Some v u e in subst (λ x. x < length p.methods) same (some_inside p.methods v _ t)
named p site op target u e t = absurd (cc)
