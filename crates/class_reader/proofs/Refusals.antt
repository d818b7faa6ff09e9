-- What the public clauses say of a reader that gives what reading gives.
use Rattle.std.proofs.{Common.{◌≡◌, ℕ, ◌-◌, ◌^◌, ◌<◌, ◌≤◌, Bool, true, false, cond, ltb, List, length, get_or, Some, None, Result, Ok, Err, refl, ap, arith}, lemmas.Bool.{ltb-true, ltb-false}}
use Rattle.jvm_types.specs.{ClassGrammar.Spells, ReadingClass.{class_at, read_class, fault_of, class_fault}, ReadingSteps.{Fault, fault, whole}, declared.class_file.ClassFile.ClassFile}
use Rattle.jvm_types.{specs.declared.refusal.CRule.{CRule, TheVariants.C10}, proofs.{ClassLawProofs.{faults_inside, spelled_if_read}, ClassReads.read_again, StepLaws.bytes_fit}}

pub is_spelled : (bytes : List ℕ) (c : ClassFile) → ((i : ℕ) → get_or bytes i 0 < 256) → read_class bytes ≡ Ok c → Spells bytes c
is_spelled bytes c fits read = spelled_if_read bytes c (bytes_fit bytes fits) read

ok_is : (c d : ClassFile) (r : Result ClassFile Fault) → r ≡ Ok c → r ≡ Ok d → c ≡ d
ok_is c d r e h = cc

pub is_only : (bytes : List ℕ) (c : ClassFile) → read_class bytes ≡ Ok c → (d : ClassFile) → Spells bytes d → c ≡ d
is_only bytes c read d spells = ok_is c d (read_class bytes) read (read_again bytes d spells)

not_both : (c : ClassFile) (f : Fault) (r : Result ClassFile Fault) → r ≡ Ok c → r ≡ Err f → ⊥
not_both c f r e h = absurd cc

pub none_spelled : (bytes : List ℕ) (rule : CRule) (left : ℕ) → read_class bytes ≡ fault rule left → (d : ClassFile) → Spells bytes d → ⊥
none_spelled bytes rule left read d spells = not_both d (record { rule = rule; left = left }) (read_class bytes) (read_again bytes d spells) read

pub is_first : (bytes : List ℕ) (rule : CRule) (left : ℕ) → read_class bytes ≡ fault rule left → class_fault bytes ≡ Some (rule, length bytes - left)
unfolding class_fault
is_first bytes rule left read = ap (fault_of (length bytes)) read

pub is_inside : (bytes : List ℕ) (rule : CRule) (left : ℕ) → ((i : ℕ) → get_or bytes i 0 < 256) → read_class bytes ≡ fault rule left → left ≤ length bytes
is_inside bytes rule left fits read = faults_inside bytes (record { rule = rule; left = left }) (bytes_fit bytes fits) read

left_is : (f g : Fault) (r : Result ClassFile Fault) → r ≡ Err f → r ≡ Err g → f.left ≡ g.left
left_is f g r e h = cc

by_length : (b : Bool) (n : ℕ) (read : Result ClassFile Fault) (f : Fault) → ltb 1048576 n ≡ b → cond b (fault C10 (n - 1048576)) read ≡ Err f → n - f.left < 2 ^ 32
by_length true n read f long e =
    let lt : 1048576 < n = ltb-true 1048576 n long in
    let left : n - 1048576 ≡ f.left = left_is (record { rule = C10; left = n - 1048576 }) f (fault C10 (n - 1048576)) refl e in
    omega arith
by_length false n read f short e = let le : n ≤ 1048576 = ltb-false 1048576 n short in omega arith

-- an offset is a number of 32 bits
pub offset_fits : (bytes : List ℕ) (rule : CRule) (left : ℕ) → read_class bytes ≡ fault rule left → length bytes - left < 2 ^ 32
unfolding read_class
offset_fits bytes rule left read = by_length (ltb 1048576 (length bytes)) (length bytes) (whole (class_at bytes)) (record { rule = rule; left = left }) refl read

-- no condition stands in bytes that give a class
pub is_faultless : (bytes : List ℕ) (c : ClassFile) → read_class bytes ≡ Ok c → class_fault bytes ≡ None
unfolding class_fault
is_faultless bytes c e = rw e refl
