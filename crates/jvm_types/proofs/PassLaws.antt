-- Where no pass finds a fault, no rule stands anywhere.
use Rattle.std.proofs.Common.{◌≡◌, ℕ, zero, suc, ◌+◌, ◌<◌, ◌≤◌, Bool, true, false, ◌&&◌, List, [], ◌∷◌, ◌++◌, map, take, length, Option, Some, None, is_none, refl, sym, ap, ◌∙◌, subst, append_assoc, append-nil, arith, ◌==◌, bytes_eq, slice_get}
use Rattle.std.{specs.{List.AllByRecursion, Option.{option_or, option_map}}, proofs.lemmas.{Bool.{or_parts, ne_eqb, and_left}, List.{take_at, length_push, length-map}}}
use Rattle.lists.proofs.ListLaws.{same_some}
use Rattle.jvm_types.specs.{ClassNames.{text_at, class_name, class_names, file_class}, Descriptors.method_signature}
use Rattle.jvm_types.specs.LinkFaults.{LinkFault, first_fault, first_from, rule_at_place, in_file, in_method, is_outside, is_taken, class_link_fault, class_pass, is_repeated, is_synchronized_root, field_fault, method_fault, members_fault, member_pass}
use Rattle.jvm_types.specs.{Members.{Declared, class_of_declared, name_of, descriptor_of, declared_from, declared_by, declared_methods, first_rule}, declared.class_file.ClassFile.ClassFile}
use Rattle.jvm_types.specs.declared.{class_file.{Constant.Constant, Member.{Member as ClassMember}}, refusal.{LRule.{LRule, TheVariants.{L1, L5, L6, L9}}, Place.Place}}
use Rattle.jvm_types.proofs.EachAfter.{EachAfter, each_append, all_append, all_weaker}

-- ---- no fault

pub neither : {X : Type 0} (a b : Option X) → option_or a b ≡ None → (a ≡ None) × (b ≡ None)
neither None b e = (refl, e)
neither (Some x) b e = absurd cc

pub no_rule : (place : Place) (rule : Option LRule) → rule_at_place place rule ≡ None → rule ≡ None
no_rule place None e = refl
no_rule place (Some rule) e = absurd cc

pub untested : (b : Bool) (rule : LRule) (tests : List (Bool × LRule)) → first_rule ((b, rule) ∷ tests) ≡ None → (b ≡ false) × (first_rule tests ≡ None)
untested true rule tests e = absurd cc
untested false rule tests e = (refl, e)

pub two_untested : (a b : Bool) (r s : LRule) → first_rule ((a, r) ∷ (b, s) ∷ []) ≡ None → (a ≡ false) × (b ≡ false)
two_untested a b r s e =
    let here = untested a r ((b, s) ∷ []) e in
    (here.0, (untested b s [] here.1).0)

pub three_untested : (a b c : Bool) (r s t : LRule) → first_rule ((a, r) ∷ (b, s) ∷ (c, t) ∷ []) ≡ None → (a ≡ false) × (b ≡ false) × (c ≡ false)
three_untested a b c r s t e =
    let here = untested a r ((b, s) ∷ (c, t) ∷ []) e in
    let others = two_untested b c s t here.1 in
    (here.0, others.0, others.1)

pub nowhere : {X : Type 0} (check : X → Option LinkFault) (xs : List X) → first_fault (map check xs) ≡ None → AllByRecursion (λ x. check x ≡ None) xs
nowhere check [] e = tt
nowhere check (x ∷ xs) e = let parts = neither (check x) (first_fault (map check xs)) e in (parts.0, nowhere check xs parts.1)

-- a check of each item with its number
abbrev pub AllFrom : {X : Type 0} → (ℕ → X → Type 0) → ℕ → List X → Type 0
AllFrom P number [] = Unit {0}
AllFrom P number (x ∷ xs) = P number x × AllFrom P (number + 1) xs

pub nowhere_from : {X : Type 0} (check : ℕ → X → Option LinkFault) (number : ℕ) (xs : List X) → first_from check number xs ≡ None → AllFrom (λ n x. check n x ≡ None) number xs
nowhere_from check number [] e = tt
nowhere_from check number (x ∷ xs) e = let parts = neither (check number x) (first_from check (number + 1) xs) e in (parts.0, nowhere_from check (number + 1) xs parts.1)

pub numbered_one : {X : Type 0} (P : ℕ → X → Type 0) (number : ℕ) (xs : List X) (k : ℕ) (x : X) → AllFrom P number xs → slice_get xs k ≡ Some x → P (number + k) x
numbered_one P number [] k x h e = absurd cc
numbered_one P number (y ∷ xs) zero x h e = subst (λ (n : ℕ). P n x) (omega arith) (subst (λ (z : _). P number z) (same_some e) h.0)
numbered_one P number (y ∷ xs) (suc k) x h e = subst (λ (n : ℕ). P n x) (omega arith) (numbered_one P (number + 1) xs k x h.1 e)

-- ---- names of classes

named_freely : (names : List (List ℕ)) (file : ℕ) (c : ClassFile) → class_link_fault names file c ≡ None → is_taken (take file names) (class_name c) ≡ false
named_freely names file c e =
    (two_untested (is_outside c) (is_taken (take file names) (class_name c)) L6 L5 (no_rule (in_file file 0) _ e)).1

class_at : (names : List (List ℕ)) (files : List ClassFile) (o : Option ClassFile) (k : ℕ) (name : List ℕ)
    → ((c : ClassFile) → o ≡ Some c → is_taken (take k names) (class_name c) ≡ false) → option_map class_name o ≡ Some name → is_taken (take k names) name ≡ false
class_at names files None k name h e = absurd cc
class_at names files (Some c) k name h e = subst (λ (n : List ℕ). is_taken (take k names) n ≡ false) (same_some e) (h c refl)

got_map : {X Y : Type 0} (f : X → Y) (xs : List X) (k : ℕ) → slice_get (map f xs) k ≡ option_map f (slice_get xs k)
got_map f [] k = refl
got_map f (x ∷ xs) zero = refl
got_map f (x ∷ xs) (suc k) = got_map f xs k

-- no class has the name of a built-in one or of one before it
pub names_distinct : (files : List ClassFile) → class_pass files ≡ None → (k : ℕ) (name : List ℕ) → slice_get (class_names files) k ≡ Some name → is_taken (take k (class_names files)) name ≡ false
names_distinct files e k name at =
    class_at (class_names files) files (slice_get files k) k name
    (λ c got. named_freely (class_names files) k c (subst (λ (n : ℕ). class_link_fault (class_names files) n c ≡ None) (omega arith) (numbered_one (λ n x. class_link_fault (class_names files) n x ≡ None) 0 files k c (nowhere_from (class_link_fault (class_names files)) 0 files e) got)))
    (sym (got_map class_name files k) ∙ at)

-- ---- methods that files declare

-- a method of the same class with the same name and descriptor
abbrev pub is_same_declared : Declared → Declared → Bool
is_same_declared e d = (class_of_declared e == class_of_declared d) && (bytes_eq (name_of e) (name_of d) && bytes_eq (descriptor_of e) (descriptor_of d))

-- what the second pass leaves of a method, behind those before it
pub record DeclaredFits (names : List (List ℕ)) (before : List Declared) (d : Declared) : Type 0 where
  pub file : d.file < length names
  pub ordered : AllByRecursion (λ e. e.file ≤ d.file) before
  pub distinct : AllByRecursion (λ e. is_same_declared e d ≡ false) before
  pub described : is_none (method_signature names (descriptor_of d)) ≡ false
  pub unsynchronized : is_synchronized_root (class_of_declared d) (name_of d) (descriptor_of d) d.member.flags ≡ false

-- the members of a class are all different
unrepeated : (pool : List Constant) (file place number : ℕ) (m : ClassMember) (earlier : List ClassMember)
    → is_repeated pool earlier m ≡ false → AllByRecursion (λ e. is_same_declared e (record { file = file; place = place; pool = pool; member = m }) ≡ false) (declared_from file pool number earlier)
unrepeated pool file place number m [] e = tt
unrepeated pool file place number m (n ∷ ms) e =
    let parts = or_parts (bytes_eq (text_at pool n.name) (text_at pool m.name) && bytes_eq (text_at pool n.descriptor) (text_at pool m.descriptor)) (is_repeated pool ms m) e in
    (apart ((file_class file) == (file_class file)) _ parts.0, unrepeated pool file place (number + 1) m ms parts.1)
  where
    apart : (a b : Bool) → b ≡ false → (a && b) ≡ false
    apart true b h = h
    apart false b h = refl

-- a method of a class before it is another one
elsewhere : (file : ℕ) (d : Declared) → d.file ≡ file → (before : List Declared) → AllByRecursion (λ e. e.file < file) before → AllByRecursion (λ e. is_same_declared e d ≡ false) before
elsewhere file d f [] h = tt
elsewhere file d f (e ∷ before) h =
    (and_left (class_of_declared e == class_of_declared d) _ (ne_eqb (class_of_declared e) (class_of_declared d) (λ same. omega (arith, same, h.0, f))), elsewhere file d f before h.1)

described_as : (names : List (List ℕ)) (file : ℕ) (c : ClassFile) (number : ℕ) (m : ClassMember) → method_fault names file c number m ≡ None
    → (is_none (method_signature names (text_at c.constants m.descriptor)) ≡ false) × (is_repeated c.constants (take number c.methods) m ≡ false) × (is_synchronized_root (file_class file) (text_at c.constants m.name) (text_at c.constants m.descriptor) m.flags ≡ false)
described_as names file c number m e =
    three_untested (is_none (method_signature names (text_at c.constants m.descriptor))) (is_repeated c.constants (take number c.methods) m) (is_synchronized_root (file_class file) (text_at c.constants m.name) (text_at c.constants m.descriptor) m.flags) L1 L5 L9 (no_rule (in_method file number 0) _ e)

same_file : (file : ℕ) (pool : List Constant) (number : ℕ) (ms : List ClassMember) → AllByRecursion (λ d. d.file ≡ file) (declared_from file pool number ms)
same_file file pool number [] = tt
same_file file pool number (m ∷ ms) = (refl, same_file file pool (number + 1) ms)

abbrev one_declared : ℕ → List Constant → ℕ → ClassMember → Declared
one_declared file pool place m = record { file = file; place = place; pool = pool; member = m }

declared_push : (file : ℕ) (pool : List Constant) (number : ℕ) (ms : List ClassMember) (m : ClassMember) → declared_from file pool number (ms ++ m ∷ []) ≡ declared_from file pool number ms ++ one_declared file pool (number + length ms) m ∷ []
declared_push file pool number [] m = ap (λ n. one_declared file pool n m ∷ []) (omega arith)
declared_push file pool number (n ∷ ms) m =
    ap (λ ds. one_declared file pool number n ∷ ds) (declared_push file pool (number + 1) ms m ∙ ap (λ k. declared_from file pool (number + 1) ms ++ one_declared file pool k m ∷ []) (omega arith))

declared_next : (file : ℕ) (pool : List Constant) (ms : List ClassMember) (m : ClassMember) → declared_from file pool 0 ms ++ one_declared file pool (length ms) m ∷ [] ≡ declared_from file pool 0 (ms ++ m ∷ [])
declared_next file pool ms m = ap (λ k. declared_from file pool 0 ms ++ one_declared file pool k m ∷ []) (omega arith) ∙ sym (declared_push file pool 0 ms m)

-- a method of a class, behind those before it in its class and those of the classes before that
one_fits : (names : List (List ℕ)) (file : ℕ) (c : ClassFile) (front : List Declared) (done rest : List ClassMember) (m : ClassMember)
    → file < length names → AllByRecursion (λ e. e.file < file) front → c.methods ≡ done ++ m ∷ rest → method_fault names file c (length done) m ≡ None
    → DeclaredFits names (front ++ declared_from file c.constants 0 done) (one_declared file c.constants (length done) m)
one_fits names file c front done rest m l f whole e =
    let rules = described_as names file c (length done) m e in
    let before : is_repeated c.constants done m ≡ false = subst (λ (ms : List ClassMember). is_repeated c.constants ms m ≡ false) (ap (take (length done)) whole ∙ take_at done (m ∷ rest) (length done) refl) rules.1 in
    record {
      file = l;
      ordered = all_append (λ (e : Declared). e.file ≤ file) front (declared_from file c.constants 0 done)
          (all_weaker (λ (e : Declared). e.file < file) (λ (e : Declared). e.file ≤ file) (λ e l. omega (arith, l)) front f)
          (all_weaker (λ (e : Declared). e.file ≡ file) (λ (e : Declared). e.file ≤ file) (λ e l. omega (arith, l)) (declared_from file c.constants 0 done) (same_file file c.constants 0 done));
      distinct = all_append (λ e. is_same_declared e (one_declared file c.constants (length done) m) ≡ false) front (declared_from file c.constants 0 done)
          (elsewhere file (one_declared file c.constants (length done) m) refl front f)
          (unrepeated c.constants file (length done) 0 m done before);
      described = rules.0;
      unsynchronized = rules.2;
    }

-- the methods of one class, of which some are done, behind those of the classes before it
class_declared : (names : List (List ℕ)) (file : ℕ) (c : ClassFile) (front : List Declared) (done rest : List ClassMember)
    → file < length names → AllByRecursion (λ e. e.file < file) front → c.methods ≡ done ++ rest
    → AllFrom (λ n m. method_fault names file c n m ≡ None) (length done) rest
    → EachAfter (DeclaredFits names) (front ++ declared_from file c.constants 0 done) (declared_from file c.constants (length done) rest)
class_declared names file c front done [] l f whole h = tt
class_declared names file c front done (m ∷ rest) l f whole h =
    let place : length (done ++ m ∷ []) ≡ length done + 1 = length_push done m in
    let later : EachAfter (DeclaredFits names) (front ++ declared_from file c.constants 0 (done ++ m ∷ [])) (declared_from file c.constants (length (done ++ m ∷ [])) rest) =
    class_declared names file c front (done ++ m ∷ []) rest l f (whole ∙ sym (append_assoc done (m ∷ []) rest)) (subst (λ (n : ℕ). AllFrom (λ k x. method_fault names file c k x ≡ None) n rest) (sym place) h.1) in (
      one_fits names file c front done rest m l f whole h.0,
      subst (λ (n : ℕ). EachAfter (DeclaredFits names) ((front ++ declared_from file c.constants 0 done) ++ one_declared file c.constants (length done) m ∷ []) (declared_from file c.constants n rest)) place
          (subst (λ (b : List Declared). EachAfter (DeclaredFits names) b (declared_from file c.constants (length (done ++ m ∷ [])) rest))
          (ap (λ ds. front ++ ds) (sym (declared_next file c.constants done m)) ∙ sym (append_assoc front (declared_from file c.constants 0 done) (one_declared file c.constants (length done) m ∷ []))) later),
    )

-- those of the classes from a file on
files_declared : (names : List (List ℕ)) (file : ℕ) (cs : List ClassFile) (before : List Declared)
    → file + length cs ≡ length names → AllByRecursion (λ e. e.file < file) before → AllFrom (λ n c. members_fault names n c ≡ None) file cs
    → EachAfter (DeclaredFits names) before (declared_by (λ c. c.methods) file cs)
files_declared names file [] before l f h = tt
files_declared names file (c ∷ cs) before l f h =
    let own : List Declared = declared_from file c.constants 0 c.methods in
    let parts = neither (first_from (field_fault names file c) 0 c.fields) (first_from (method_fault names file c) 0 c.methods) h.0 in
    let here : EachAfter (DeclaredFits names) before own =
    subst (λ (b : List Declared). EachAfter (DeclaredFits names) b own) (append-nil before)
    (class_declared names file c before [] c.methods (omega (arith, l)) f refl (nowhere_from (method_fault names file c) 0 c.methods parts.1)) in
    each_append (DeclaredFits names) before own (declared_by (λ c. c.methods) (file + 1) cs) here
    (files_declared names (file + 1) cs (before ++ own) (omega (arith, l))
    (all_append (λ (e : Declared). e.file < file + 1) before own
    (all_weaker (λ (e : Declared). e.file < file) (λ (e : Declared). e.file < file + 1) (λ e l. omega (arith, l)) before f)
    (all_weaker (λ (e : Declared). e.file ≡ file) (λ (e : Declared). e.file < file + 1) (λ e l. omega (arith, l)) own (same_file file c.constants 0 c.methods)))
    h.1)

-- what the second pass leaves of all methods
pub methods_declared : (files : List ClassFile) → member_pass files ≡ None → EachAfter (DeclaredFits (class_names files)) [] (declared_methods files)
methods_declared files e = files_declared (class_names files) 0 files [] (omega (arith, length-map files class_name)) tt (nowhere_from (members_fault (class_names files)) 0 files e)
