-- The class that the `new` at a pc names, by the number of the instruction there.
use Rattle.std.{proofs.{Common.{◌≡◌, ℕ, suc, ◌<◌, Bool, true, false, List, [], ◌∷◌, Option, Some, None, refl, sym, ◌∙◌, arith, ◌==◌, if◌then◌else◌}, lemmas.Bool.ne_eqb}, specs.Option.option_map}
use Rattle.std.proofs.lemmas.Bool.Decides.{nat_tests}
use Rattle.jvm_types.specs.{Verifying.new_class, declared.{code.Insn.Insn, program.Target.{Target, TheVariants.Class}}}
use Rattle.code_table.specs.{NewClasses.{class_named, class_at_target}, PcTables.{number_at, Ascend}}

-- behind the pc there is none
none_behind : (low : ℕ) (code : List Insn) (targets : List Target) (pc : ℕ) → Ascend low code → pc < low → new_class code targets pc ≡ None
none_behind low [] targets pc a h = refl
none_behind low (insn ∷ insns) [] pc a h = refl
none_behind low (insn ∷ insns) (Class class ∷ ts) pc a h = rw (ne_eqb insn.pc pc (omega (arith, a.0, h))) (none_behind (suc insn.pc) insns ts pc a.1 (omega (arith, a.0, h)))
none_behind low (insn ∷ insns) (t ∷ ts) pc a h = none_behind (suc insn.pc) insns ts pc a.1 (omega (arith, a.0, h))

one_on : (t : Target) (ts : List Target) (o : Option ℕ) → class_at_target ts o ≡ class_at_target (t ∷ ts) (option_map suc o)
one_on t ts None = refl
one_on t ts (Some i) = refl

other_target : (low : ℕ) (insn : Insn) (insns : List Insn) (t : Target) (ts : List Target) (pc : ℕ) → Ascend low (insn ∷ insns)
    → (b : Bool) → (insn.pc == pc) ≡ b → class_named (Some t) ≡ None → new_class insns ts pc ≡ class_at_target ts (number_at insns pc)
    → new_class insns ts pc ≡ class_at_target (t ∷ ts) (if b then Some 0 else option_map suc (number_at insns pc))
other_target low insn insns t ts pc a true e n h = none_behind (suc insn.pc) insns ts pc a.1 (same_below insn.pc pc e) ∙ sym n
  where
    same_below : (m n : ℕ) → (m == n) ≡ true → n < suc m
    same_below m n e = grind (arith, nat_tests, e)
other_target low insn insns t ts pc a false e n h = h ∙ one_on t ts (number_at insns pc)

pub new_class_at : (low : ℕ) (code : List Insn) (targets : List Target) (pc : ℕ) → Ascend low code → new_class code targets pc ≡ class_at_target targets (number_at code pc)
new_class_at low [] targets pc a = refl
new_class_at low (insn ∷ insns) [] pc a = no_target (number_at (insn ∷ insns) pc)
  where
    no_target : (o : Option ℕ) → None ≡ class_at_target [] o
    no_target None = refl
    no_target (Some i) = refl
new_class_at low (insn ∷ insns) (Class class ∷ ts) pc a = by_test (insn.pc == pc) refl (new_class_at (suc insn.pc) insns ts pc a.1)
  where
    by_test : (t : Bool) → (insn.pc == pc) ≡ t → new_class insns ts pc ≡ class_at_target ts (number_at insns pc)
        → (if t then Some class else new_class insns ts pc) ≡ class_at_target (Class class ∷ ts) (if t then Some 0 else option_map suc (number_at insns pc))
    by_test true e h = refl
    by_test false e h = h ∙ one_on (Class class) ts (number_at insns pc)
new_class_at low (insn ∷ insns) (t ∷ ts) pc a = other_target low insn insns t ts pc a (insn.pc == pc) refl refl (new_class_at (suc insn.pc) insns ts pc a.1)
