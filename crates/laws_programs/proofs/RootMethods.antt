-- The roots of a program are static, and their descriptors say what they take.
use Rattle.std.proofs.Common.{◌≡◌, ℕ, suc, ◌<◌, ⊎_elim, Bool, true, false, not, ◌&&◌, ◌||◌, List, [], ◌∷◌, take, Some, None, refl, sym, ap, ◌∙◌, ◌==◌, bytes_eq, codes, slice_get}
use Rattle.std.{specs.List.list_any, proofs.lemmas.{Bool.{and_from, and_parts, cases_order, eq-eqb, eqb-true, not-false, or_cases, or_left, or_right, or_parts}, Slice.Eq.bytes_eq-Decides}}
use Rattle.jvm_types.specs.{ClassNames.file_class, Descriptors.{Signature, method_signature}, LinkFaults.{is_run, is_entry}, Members.{is_static, is_synchronized, is_class_init_name}}
use Rattle.jvm_types.specs.{ProgramInvariant.{IsProgram, IsMethodOf, is_same_method}, declared.program.{Kind.{Kind, TheVariants.Int}, MethodInfo.MethodInfo, Program.Program}}
use Rattle.laws_programs.{specs.RootLaws.{IsRoot, ClassInitsAreRoots, EntriesAreRoots, RunIsRoot, RunIsThere, OneMethod}, proofs.{FieldOrder.before_at, LocalEdges.second_false}}

-- ---- tests

other_side : (a b : Bool) → (a || b) ≡ true → a ≡ false → b ≡ true
other_side true b e h = absurd (cc)
other_side false b e h = e

middle_false : (a b c : Bool) → (a && b && c) ≡ false → a ≡ true → c ≡ true → b ≡ false
middle_false true false c e h k = refl
middle_false a b c e h k = absurd (cc)

-- ---- descriptors

no_arguments : (names : List (List ℕ)) → method_signature names (codes "()V") ≡ Some (record { args = []; result = None })
no_arguments names = refl

one_int : (names : List (List ℕ)) → method_signature names (codes "(I)V") ≡ Some (record { args = Int ∷ []; result = None })
one_int names = refl

signature_is : (s t : Signature) → Some s ≡ Some t → s ≡ t
signature_is s t e = cc

-- a method that begins a part
abbrev begins : MethodInfo → Bool
begins m = is_class_init_name m.name || ((m.class == file_class 0) && is_entry m.name m.descriptor)

-- what a method of this descriptor takes
root_of : (p : Program) (before : List MethodInfo) (m : MethodInfo) (text : List ℕ) (args : List Kind) → IsMethodOf p before m → begins m ≡ true → is_static m.flags ≡ true
    → m.descriptor ≡ text → method_signature p.names text ≡ Some (record { args = args; result = None }) → IsRoot m args
root_of p before m text args is begin static e s =
    let same : record { args = m.args; result = m.result } ≡ record { args = args; result = None } =
    signature_is (record { args = m.args; result = m.result }) (record { args = args; result = None }) (sym is.described ∙ ap (method_signature p.names) e ∙ s) in
    record {
      static = static;
      unsynchronized = middle_false (is_static m.flags) (is_synchronized m.flags) (begins m) is.unsynchronized static begin;
      args = ap (λ (x : Signature). x.args) same;
      result = ap (λ (x : Signature). x.result) same;
    }

-- ---- a `<clinit>`

pub class_inits : ClassInitsAreRoots
class_inits p number m is e h =
    let of = is.methods number m e in
    let right = second_false (is_class_init_name m.name) (not (is_static m.flags) || not (bytes_eq m.descriptor (codes "()V")))
    (or_parts (is_class_init_name m.name && (not (is_static m.flags) || not (bytes_eq m.descriptor (codes "()V")))) ((m.class == file_class 0) && is_entry m.name m.descriptor && not (is_static m.flags)) of.root).0 h in
    let parts = or_parts (not (is_static m.flags)) (not (bytes_eq m.descriptor (codes "()V"))) right in
    root_of p (take number p.methods) m (codes "()V") [] of (or_left (is_class_init_name m.name) _ h) (not-false (is_static m.flags) parts.0) ((bytes_eq-Decides m.descriptor (codes "()V")).0 (not-false (bytes_eq m.descriptor (codes "()V")) parts.1)) (no_arguments p.names)

-- ---- an entry

third_false : (a b c : Bool) → (a && b && c) ≡ false → a ≡ true → b ≡ true → c ≡ false
third_false true true c e h k = e
third_false a b c e h k = absurd (cc)

entry_static : (p : Program) (before : List MethodInfo) (m : MethodInfo) → IsMethodOf p before m → m.class ≡ file_class 0 → is_entry m.name m.descriptor ≡ true → is_static m.flags ≡ true
entry_static p before m of class h = not-false (is_static m.flags)
    (third_false (m.class == file_class 0) (is_entry m.name m.descriptor) (not (is_static m.flags))
    (or_parts (is_class_init_name m.name && (not (is_static m.flags) || not (bytes_eq m.descriptor (codes "()V")))) ((m.class == file_class 0) && is_entry m.name m.descriptor && not (is_static m.flags)) of.root).1
    (eq-eqb m.class (file_class 0) class) h)

entry_begins : (m : MethodInfo) → m.class ≡ file_class 0 → is_entry m.name m.descriptor ≡ true → begins m ≡ true
entry_begins m class h = or_right (is_class_init_name m.name) _ (and_from (m.class == file_class 0) (is_entry m.name m.descriptor) (eq-eqb m.class (file_class 0) class) h)

pub entries : EntriesAreRoots
entries p number m is e class h other =
    let of = is.methods number m e in
    let here = other_side (is_run m.name m.descriptor) (bytes_eq m.descriptor (codes "()V") && (bytes_eq m.name (codes "init") || bytes_eq m.name (codes "done"))) h other in
    root_of p (take number p.methods) m (codes "()V") [] of (entry_begins m class h) (entry_static p (take number p.methods) m of class h)
    ((bytes_eq-Decides m.descriptor (codes "()V")).0 (and_parts (bytes_eq m.descriptor (codes "()V")) (bytes_eq m.name (codes "init") || bytes_eq m.name (codes "done")) here).0) (no_arguments p.names)

pub run_root : RunIsRoot
run_root p number m is e class h =
    let of = is.methods number m e in
    let begun : is_entry m.name m.descriptor ≡ true = or_left (is_run m.name m.descriptor) _ h in
    root_of p (take number p.methods) m (codes "(I)V") (Int ∷ []) of (entry_begins m class begun) (entry_static p (take number p.methods) m of class begun)
    ((bytes_eq-Decides m.descriptor (codes "(I)V")).0 (and_parts (bytes_eq m.name (codes "run")) (bytes_eq m.descriptor (codes "(I)V")) h).1) (one_int p.names)

-- ---- `run` is there

found : {X : Type 0} (test : X → Bool) (xs : List X) → list_any test xs ≡ true → (i : ℕ) × (x : X) × (slice_get xs i ≡ Some x) × (test x ≡ true)
found test [] e = absurd (cc)
found test (x ∷ xs) e = ⊎_elim
    (λ (h : test x ≡ true). (0, x, refl, h)) (λ (h : list_any test xs ≡ true). let m = found test xs h in (suc m.0, m.1, m.2, m.3)) (or_cases (test x) (list_any test xs) e)

pub run_stands_there : RunIsThere
run_stands_there p is some =
    let at = found (λ (m : MethodInfo). (m.class == file_class 0) && is_run m.name m.descriptor) p.methods (is.run some) in
    let parts = and_parts (at.1.class == file_class 0) (is_run at.1.name at.1.descriptor) at.3 in
    (at.0, at.1, at.2, eqb-true at.1.class (file_class 0) parts.0, parts.1)

-- ---- one method

same_turned : (m other : MethodInfo) → is_same_method m other ≡ true → is_same_method other m ≡ true
same_turned m other e =
    let parts = and_parts (m.class == other.class) (bytes_eq m.name other.name && bytes_eq m.descriptor other.descriptor) e in
    let texts = and_parts (bytes_eq m.name other.name) (bytes_eq m.descriptor other.descriptor) parts.1 in
    and_from (other.class == m.class) (bytes_eq other.name m.name && bytes_eq other.descriptor m.descriptor) (eq-eqb other.class m.class (sym (eqb-true m.class other.class parts.0)))
    (and_from (bytes_eq other.name m.name) (bytes_eq other.descriptor m.descriptor) ((bytes_eq-Decides other.name m.name).1 (sym ((bytes_eq-Decides m.name other.name).0 texts.0)))
    ((bytes_eq-Decides other.descriptor m.descriptor).1 (sym ((bytes_eq-Decides m.descriptor other.descriptor).0 texts.1))))

apart : (p : Program) (i j : ℕ) (m other : MethodInfo) → IsProgram p → slice_get p.methods i ≡ Some m → slice_get p.methods j ≡ Some other → i < j → is_same_method m other ≡ false
apart p i j m other is e f h = before_at (λ (x : MethodInfo). is_same_method x other ≡ false) p.methods i j m (is.methods j other f).distinct e h

pub one_method_stands : OneMethod
one_method_stands p i j m other is e f same = ⊎_elim (λ (h : i ≡ j). h)
    (λ h. ⊎_elim (λ (k : i < j). let un = apart p i j m other is e f k in absurd (cc)) (λ (k : j < i). let un = apart p j i other m is f e k in let turned = same_turned m other same in absurd (cc)) h)
    (cases_order i j)
