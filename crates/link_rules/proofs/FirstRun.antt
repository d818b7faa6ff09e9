-- Only the first class is asked for its `run(I)V`.
use Rattle.std.{proofs.{Common.{◌≡◌, ℕ, suc, ◌+◌, Bool, true, false, ◌||◌, List, [], ◌∷◌, Some, None, refl, ◌∙◌, arith, add-one, ◌==◌, slice_get}, lemmas.Bool.Decides.nat_tests}, specs.List.list_any}
use Rattle.std.proofs.lemmas.List.Folds.{list_any-append}
use Rattle.jvm_types.specs.{LinkFaults.is_run_method, Members.{declared_from, declared_by, declared_methods}, declared.class_file.{ClassFile.ClassFile, Constant.Constant}}
use Rattle.jvm_types.specs.declared.class_file.Member.{Member as ClassMember}

is_later : (file : ℕ) → (17 + suc file == 17) ≡ false
is_later file = grind (arith, nat_tests)

not_in : (file : ℕ) (pool : List Constant) (number : ℕ) (ms : List ClassMember) → list_any is_run_method (declared_from (suc file) pool number ms) ≡ false
not_in file pool number [] = refl
not_in file pool number (m ∷ ms) = rw (is_later file) (not_in file pool (number + 1) ms)

not_behind : (file : ℕ) (cs : List ClassFile) → list_any is_run_method (declared_by (λ c. c.methods) (suc file) cs) ≡ false
not_behind file [] = refl
not_behind file (c ∷ cs) =
    list_any-append is_run_method (declared_from (suc file) c.constants 0 c.methods) _
    ∙ (rw (not_in file c.constants 0 c.methods, add-one) (not_behind (suc file) cs))

or_false : (b : Bool) → b || false ≡ b
or_false b = elim b as (λ v. v || false ≡ v) [ true ↦ refl | false ↦ refl ]

pub run_of_first : (files : List ClassFile) (c : ClassFile) → slice_get files 0 ≡ Some c
    → list_any is_run_method (declared_methods files) ≡ list_any is_run_method (declared_from 0 c.constants 0 c.methods)
run_of_first [] c e = absurd cc
run_of_first (d ∷ ds) c e =
    let same : d ≡ c = cc in
    rw (← same) (list_any-append is_run_method (declared_from 0 d.constants 0 d.methods) (declared_by (λ c. c.methods) 1 ds) ∙ rw (not_behind 0 ds) (or_false (list_any is_run_method (declared_from 0 d.constants 0 d.methods))))

pub no_first : (files : List ClassFile) → slice_get files 0 ≡ None → list_any is_run_method (declared_methods files) ≡ false
no_first [] e = refl
no_first (d ∷ ds) e = absurd cc
