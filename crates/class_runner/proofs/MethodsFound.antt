-- A check goes over the methods in order of files and methods, and over those of the program in step.
use Rattle.std.proofs.Common.{◌≡◌, ℕ, zero, suc, inl, inr, ◌+◌, ◌*◌, ◌<◌, ◌≤◌, List, [], ◌∷◌, ◌++◌, length, get_or, drop, Option, Some, None, refl, subst, ap, append_assoc, append-nil, length-append, add-one, arith, slice_get, IsSomeAnd}
use Rattle.std.{specs.List.{AllZip, AllByRecursion}, proofs.lemmas.List.{drop_all, length_push}}
use Rattle.jvm_types.specs.{ClassGrammar.IsClass, LinkFaults.in_method, Members.{Declared, declared_from, declared_by}, declared.class_file.{ClassFile.ClassFile, Constant.Constant, Member.Member}}
use Rattle.jvm_types.{specs.declared.{program.MethodInfo.MethodInfo, refusal.Place.Place}, proofs.EachAfter.drop_got}
use Rattle.class_runner.{specs.{Loading.IsFirstRefused, Stages.{own_methods, AreFoundSoFar}}, proofs.MethodsDecoded.{declared, files_at}}

-- ---- the method of a number

some_first : {X : Type 0} (xs : List X) (i : ℕ) → i < length xs → (x : X) × (drop i xs ≡ x ∷ drop (suc i) xs)
some_first [] i within = absurd (omega arith)
some_first (x ∷ xs) zero within = (x, refl)
some_first (x ∷ xs) (suc i) within = some_first xs i (omega arith)

some_left : {X : Type 0} (xs : List X) (i : ℕ) → i < length xs → (x : X) × (drop i xs ≡ x ∷ drop (i + 1) xs)
some_left xs i within = rw add-one (some_first xs i within)

-- what a check finds of the method that is there
abbrev IsFoundAt : {T : Type 0} → (MethodInfo → T → Type 0) → Option MethodInfo → T → Type 0
IsFoundAt has m t = IsSomeAnd m (λ x. has x t)

-- the check refuses it, and the place is in the method of this number in its class in this file
abbrev IsRefusedAt : {R : Type 0} → (MethodInfo → R → ℕ → Type 0) → Option MethodInfo → (file number : ℕ) → R → Place → Type 0
IsRefusedAt refuses m file number rule place = IsSomeAnd m (λ x. refuses x rule place.at) × (place ≡ in_method file number place.at)

next_found : {T R : Type 0} (has : MethodInfo → T → Type 0) (refuses : MethodInfo → R → ℕ → Type 0) (methods : List MethodInfo) (d : Declared) (left all : List Declared) (found : List T) (t : T) (o : Option MethodInfo)
    → slice_get methods (length found) ≡ o → IsFoundAt has o t → AreFoundSoFar has refuses methods (d ∷ left) all found → AreFoundSoFar has refuses methods left all (found ++ t ∷ [])
next_found has refuses methods d left all found t None e here so_far = absurd here
next_found has refuses methods d left all found t (Some m) e here so_far =
    let one : length (found ++ t ∷ []) ≡ length found + 1 = length_push found t in
    let begins : drop (length found) methods ≡ m ∷ drop (length found + 1) methods = drop_got methods (length found) m e in
    record {
      whole = λ rest h. rw append_assoc (so_far.whole (t ∷ rest) (rw begins (here, rw one at h)));
      refused = λ rule place h. so_far.refused rule place (rw begins (inr (t, here, rw one at h)));
      long = omega (arith, one, so_far.long);
    }

next_refused : {T R : Type 0} (has : MethodInfo → T → Type 0) (refuses : MethodInfo → R → ℕ → Type 0) (methods : List MethodInfo) (d : Declared) (left all : List Declared) (found : List T) (rule : R) (place : Place) (o : Option MethodInfo)
    → slice_get methods (length found) ≡ o → IsRefusedAt refuses o d.file d.place rule place → AreFoundSoFar has refuses methods (d ∷ left) all found → IsFirstRefused has refuses rule all methods place
next_refused has refuses methods d left all found rule place None got refused so_far = absurd refused.0
next_refused has refuses methods d left all found rule place (Some m) got refused so_far =
    let begins : drop (length found) methods ≡ m ∷ drop (length found + 1) methods = drop_got methods (length found) m got in
    so_far.refused rule place (rw begins (inl refused))

pub method_next : {T R : Type 0} (has : MethodInfo → T → Type 0) (refuses : MethodInfo → R → ℕ → Type 0) (methods : List MethodInfo) (file : ℕ) (pool : List Constant) (i : ℕ) (ms : List Member) (left all : List Declared) (found : List T) (t : T)
    → i < length ms → IsFoundAt has (slice_get methods (length found)) t → AreFoundSoFar has refuses methods (declared_from file pool i (drop i ms) ++ left) all found
    → AreFoundSoFar has refuses methods (declared_from file pool (i + 1) (drop (i + 1) ms) ++ left) all (found ++ t ∷ [])
method_next has refuses methods file pool i ms left all found t within here so_far =
    let first = some_left ms i within in
    next_found has refuses methods (declared file pool i first.0) (declared_from file pool (i + 1) (drop (i + 1) ms) ++ left) all found t (slice_get methods (length found)) refl here
    (subst (λ (xs : List Member). AreFoundSoFar has refuses methods (declared_from file pool i xs ++ left) all found) first.1 so_far)

pub method_stops : {T R : Type 0} (has : MethodInfo → T → Type 0) (refuses : MethodInfo → R → ℕ → Type 0) (methods : List MethodInfo) (file : ℕ) (pool : List Constant) (i : ℕ) (ms : List Member) (left all : List Declared) (found : List T) (rule : R) (place : Place)
    → i < length ms → IsRefusedAt refuses (slice_get methods (length found)) file i rule place → AreFoundSoFar has refuses methods (declared_from file pool i (drop i ms) ++ left) all found → IsFirstRefused has refuses rule all methods place
method_stops has refuses methods file pool i ms left all found rule place within refused so_far =
    let first = some_left ms i within in
    next_refused has refuses methods (declared file pool i first.0) (declared_from file pool (i + 1) (drop (i + 1) ms) ++ left) all found rule place (slice_get methods (length found)) refl refused
    (subst (λ (xs : List Member). AreFoundSoFar has refuses methods (declared_from file pool i xs ++ left) all found) first.1 so_far)

pub class_ends : {T R : Type 0} (has : MethodInfo → T → Type 0) (refuses : MethodInfo → R → ℕ → Type 0) (methods : List MethodInfo) (file : ℕ) (pool : List Constant) (i : ℕ) (ms : List Member) (left all : List Declared) (found : List T)
    → length ms ≤ i → AreFoundSoFar has refuses methods (declared_from file pool i (drop i ms) ++ left) all found → AreFoundSoFar has refuses methods left all found
class_ends has refuses methods file pool i ms left all found past so_far =
    subst (λ (xs : List Member). AreFoundSoFar has refuses methods (declared_from file pool i xs ++ left) all found) (drop_all i ms past) so_far

-- ---- one class after another

pub begins : {T R : Type 0} (has : MethodInfo → T → Type 0) (refuses : MethodInfo → R → ℕ → Type 0) (methods : List MethodInfo) (ds : List Declared) → length methods ≡ length ds → AreFoundSoFar has refuses methods ds ds []
begins has refuses methods ds long = record { whole = λ rest h. h; refused = λ rule place h. h; long = omega (arith, long) }

pub ends : {T R : Type 0} (has : MethodInfo → T → Type 0) (refuses : MethodInfo → R → ℕ → Type 0) (methods : List MethodInfo) (i : ℕ) (cs : List ClassFile) (all : List Declared) (found : List T) → length cs ≤ i
    → AreFoundSoFar has refuses methods (declared_by (λ c. c.methods) i (drop i cs)) all found → AllZip has methods found
ends has refuses methods i cs all found past so_far =
    let none : drop i cs ≡ [] = drop_all i cs past in
    let count : length found + length (declared_by (λ c. c.methods) i (drop i cs)) ≡ length methods = so_far.long in
    let long : length methods ≤ length found = omega (arith, rw none at count) in
    let done : drop (length found) methods ≡ [] = drop_all (length found) methods long in
    subst (AllZip has methods) (append-nil found) (so_far.whole [] (rw done tt))

declared_long : (file : ℕ) (pool : List Constant) (place : ℕ) (ms : List Member) → length (declared_from file pool place ms) ≡ length ms
declared_long file pool place [] = refl
declared_long file pool place (m ∷ ms) = ap suc (declared_long file pool (place + 1) ms)

-- the methods of the class of this number are there
pub class_within : {T R : Type 0} (has : MethodInfo → T → Type 0) (refuses : MethodInfo → R → ℕ → Type 0) (methods : List MethodInfo) (i : ℕ) (cs : List ClassFile) (c : ClassFile) (all : List Declared) (found : List T) → i < length cs
    → c ≡ get_or cs i c → AreFoundSoFar has refuses methods (declared_by (λ x. x.methods) i (drop i cs)) all found → length found + length c.methods ≤ length methods
class_within has refuses methods i cs c all found within is so_far =
    let rest : List Declared = declared_by (λ x. x.methods) (i + 1) (drop (i + 1) cs) in
    let whole : length found + length (own_methods i c ++ rest) ≡ length methods = subst (λ (ds : List Declared). length found + length ds ≡ length methods) (files_at i cs c within is) so_far.long in
    let parts : length (own_methods i c ++ rest) ≡ length (own_methods i c) + length rest = length-append (own_methods i c) rest in
    let own : length (own_methods i c) ≡ length c.methods = declared_long i c.constants 0 c.methods in
    omega (arith, whole, parts, own)

-- each class counts its methods in two bytes
pub few_methods : (file : ℕ) (cs : List ClassFile) → AllByRecursion IsClass cs → length (declared_by (λ c. c.methods) file cs) ≤ length cs * 65535
few_methods file [] h = omega arith
few_methods file (c ∷ cs) h =
    let rest : length (declared_by (λ x. x.methods) (file + 1) cs) ≤ length cs * 65535 = few_methods (file + 1) cs h.1 in
    let parts : length (own_methods file c ++ declared_by (λ x. x.methods) (file + 1) cs) ≡ length (own_methods file c) + length (declared_by (λ x. x.methods) (file + 1) cs) = length-append (own_methods file c) (declared_by (λ x. x.methods) (file + 1) cs) in
    let own : length (own_methods file c) ≡ length c.methods = declared_long file c.constants 0 c.methods in
    omega (arith, rest, parts, own, h.0.methods.count)
