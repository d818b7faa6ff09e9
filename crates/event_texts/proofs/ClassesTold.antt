-- The class of each file is told by its name: no class before it stands at the same word.
use Rattle.std.{proofs.Common.{◌≡◌, ℕ, zero, suc, ◌+◌, ◌-◌, ◌<◌, ◌≤◌, Bool, true, false, cond, length, Some, refl, sym, ap, subst, ◌∙◌, arith, ◌==◌}, specs.List.{find, range_with_len}}
use Rattle.std.proofs.lemmas.Bool.{eq-eqb, ne_eqb}
use Rattle.jvm_types.specs.{ClassNames.file_class, declared.{program.Program.Program}}
use Rattle.checked_program.specs.CodeIndex.{statics_below}
use Rattle.machine_types.{specs.Words.class_object, proofs.PlacesAtStart.rises}
use Rattle.event_texts.specs.MonitorFacts.{ClassesAreTold, monitor_told}

-- the first number of a range that passes a test
find_first : (test : ℕ → Bool) (a n k : ℕ) → k < n → test (a + k) ≡ true → ((j : ℕ) → j < k → test (a + j) ≡ false) → find test (range_with_len a n) ≡ Some (a + k)
find_first test a zero k few passes fails = absurd (omega (arith, few))
find_first test a (suc n) zero few passes fails =
    let same : a + 0 ≡ a = omega arith in
    ap (λ (b : Bool). cond b (Some a) (find test (range_with_len (a + 1) n))) (subst (λ (x : ℕ). test x ≡ true) same passes) ∙ ap Some (sym same)
find_first test a (suc n) (suc k) few passes fails =
    let same : a + 0 ≡ a = omega arith in
    let next : (j : ℕ) → a + suc j ≡ (a + 1) + j = λ j. omega arith in
    ap (λ (b : Bool). cond b (Some a) (find test (range_with_len (a + 1) n))) (subst (λ (x : ℕ). test x ≡ false) same (fails 0 (omega arith)))
    ∙ find_first test (a + 1) n k (omega (arith, few)) (subst (λ (x : ℕ). test x ≡ true) (next k) passes) (λ j h. subst (λ (x : ℕ). test x ≡ false) (next j) (fails (suc j) (omega (arith, h))))
    ∙ ap Some (sym (next k))

earlier_below : (p : Program) (j file : ℕ) → j < file → class_object p j < class_object p file
earlier_below p j file h =
    let up : file_class j + (file - j) ≡ file_class file = omega (arith, h) in
    let more : statics_below (file_class j) p.fields ≤ statics_below (file_class file) p.fields = subst (λ (c : ℕ). statics_below (file_class j) p.fields ≤ statics_below c p.fields) up (rises (file_class j) (file - j) p.fields) in
    omega (arith, h, more)

pub classes_are_told : ClassesAreTold
classes_are_told p file few =
    let test : ℕ → Bool = λ f. class_object p f == class_object p file in
    let same : (j : ℕ) → 0 + j ≡ j = λ j. omega arith in
    let found : test file ≡ true = eq-eqb (class_object p file) (class_object p file) refl in
    let earlier : (j : ℕ) → j < file → test j ≡ false = λ j h. ne_eqb (class_object p j) (class_object p file) (λ e. absurd (omega (arith, earlier_below p j file h, e))) in
    let first : find test (range_with_len 0 (length p.names)) ≡ Some (0 + file) = find_first test 0 (length p.names) file few (subst (λ (x : ℕ). test x ≡ true) (sym (same file)) found) (λ j h. subst (λ (x : ℕ). test x ≡ false) (sym (same j)) (earlier j h)) in
    ap (monitor_told p.names (class_object p file)) (first ∙ ap Some (same file))
