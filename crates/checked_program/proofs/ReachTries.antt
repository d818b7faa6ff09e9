-- The reach of a method of a small program: that of `twice` is its own code and that of `sum`.
use Rattle.std.{proofs.Common.{◌≡◌, ℕ, zero, suc, Bool, true, false, List, [], ◌∷◌, Option, Some, None, refl, sym, subst, arith, ◌==◌, ◌&&◌, slice_get, Contains}, specs.List.IsDistinct}
use Rattle.std.proofs.lemmas.Bool.{eqb-true, and_parts}
use Rattle.jvm_types.specs.declared.{code.Insn.Insn, program.{MethodInfo.MethodInfo, Target.Target}}
use Rattle.checked_program.{specs.{Marks.called_method, Reach.{HasCall, HasCalls, IsReach}}, proofs.TriedPrograms.many}

-- each call in a method's code passes a test
abbrev passes : (ℕ → Bool) → Option ℕ → Bool
passes q None = true
passes q (Some u) = q u

abbrev all_calls : (ℕ → Bool) → List Insn → List Target → Bool
all_calls q (insn ∷ insns) (target ∷ targets) = passes q (called_method insn.op target) && all_calls q insns targets
all_calls q insns targets = true

by_number : (q : ℕ → Bool) (insns : List Insn) (targets : List Target) → all_calls q insns targets ≡ true → (i : ℕ) (a : Insn) (b : Target) → slice_get insns i ≡ Some a → slice_get targets i ≡ Some b → passes q (called_method a.op b) ≡ true
by_number q (insn ∷ insns) (target ∷ targets) all zero a b e h = let x : insn ≡ a = cc in let y : target ≡ b = cc in
    subst (λ (k : Insn). passes q (called_method k.op b) ≡ true) x (subst (λ (t : Target). passes q (called_method insn.op t) ≡ true) y (and_parts (passes q (called_method insn.op target)) (all_calls q insns targets) all).0)
by_number q (insn ∷ insns) (target ∷ targets) all (suc i) a b e h = by_number q insns targets (and_parts (passes q (called_method insn.op target)) (all_calls q insns targets) all).1 i a b e h
by_number q insns targets all i a b e h = cc

abbrev calls_of : (ℕ → Bool) → Option MethodInfo → Bool
calls_of q None = true
calls_of q (Some m) = all_calls q m.code m.targets

call_passes : (q : ℕ → Bool) (mi u : ℕ) → calls_of q (slice_get many.methods mi) ≡ true → HasCall many mi u → q u ≡ true
call_passes q mi u all c =
    let e : calls_of q (Some c.m) ≡ true = subst (λ (o : Option MethodInfo). calls_of q o ≡ true) c.in_program all in
    subst (λ (o : Option ℕ). passes q o ≡ true) c.called (by_number q c.m.code c.m.targets e c.i c.insn c.target c.in_code c.names)

abbrev is_sum : ℕ → Bool
is_sum u = u == 2

abbrev none : ℕ → Bool
none u = false

-- from `sum` nothing is called, from `twice` only `sum`
from_sum : (vs : List ℕ) (u : ℕ) → HasCalls many 2 vs u → u ≡ 2
from_sum [] u c = sym c
from_sum (v ∷ vs) u c = let h : false ≡ true = call_passes none 2 v refl c.0 in absurd (false_true h)
  where
    false_true : false ≡ true → ⊥
    false_true e = cc

from_twice : (vs : List ℕ) (u : ℕ) → HasCalls many 12 vs u → Contains (12 ∷ 2 ∷ []) u
from_twice [] u c = (0, omega arith, c)
from_twice (v ∷ vs) u c =
    let e : v ≡ 2 = eqb-true v 2 (call_passes is_sum 12 v refl c.0) in
    let h : u ≡ 2 = from_sum vs u (subst (λ (w : ℕ). HasCalls many w vs u) e c.1) in (1, omega arith, sym h)

to_each : (u : ℕ) → Contains (12 ∷ 2 ∷ []) u → (vs : List ℕ) × HasCalls many 12 vs u
to_each u (zero, lt, e) = ([], e)
to_each u (suc zero, lt, e) = (2 ∷ [], (record { m = _; in_program = refl; i = 1; insn = _; in_code = refl; target = _; names = refl; called = refl }, e))
to_each u (suc (suc k), lt, e) = absurd (grind arith)

apart : IsDistinct (λ u v. u == v) (12 ∷ 2 ∷ [])
unfolding IsDistinct
apart = ((refl, tt), (tt, tt))

reach_of_twice : IsReach many 12 23
reach_of_twice = record { methods = 12 ∷ 2 ∷ []; distinct = apart; called = to_each; all = λ u vs c. from_twice vs u c; count = refl }
