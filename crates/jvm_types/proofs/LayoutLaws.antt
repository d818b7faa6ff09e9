-- The fields that are laid out file by file stand at the places and words that the invariant of a program counts.
use Rattle.std.proofs.Common.{◌≡◌, ℕ, zero, suc, ◌+◌, ◌%◌, ◌*◌, ◌<◌, ◌≤◌, ℤ, pos, Bool, true, false, cond, not, ◌&&◌, List, [], ◌∷◌, ◌++◌, length, Option, Some, None, IfSome, refl, sym, ap, ◌∙◌, subst, arith, ◌==◌, FitsSigned, slice_get}
use Rattle.std.{specs.{Int.{w32, cast_unsigned}, List.{AllByRecursion, sum_by}, Option.{option_and_then, unwrap_or}}, proofs.lemmas.{Bool.{eq-eqb, ne_eqb}, List.Sums.sum_by-append}}
use Rattle.jvm_types.specs.{ClassGrammar.FieldsFit, ClassNames.{text_at, file_class}, Descriptors.field_kind}
use Rattle.jvm_types.specs.Layout.{static_count, class_word_count, first_constant, kept_int, start_of_constant, static_start, kind_of, field_info, fields_of, fields_from, laid_out_fields, fixed_words}
use Rattle.jvm_types.specs.{Members.is_static, ProgramInvariant.{IsKindOf, statics_among, instances_among, IsFieldOf}, declared.class_file.{ClassFile.ClassFile, Constant.Constant}}
use Rattle.jvm_types.specs.declared.{class_file.{Constant.TheVariants.Integer, Member.{Member as ClassMember}}, fixed_words.TheConstants.FIRST_CLASS_WORD, program.{FieldInfo.FieldInfo, Kind.Kind}}
use Rattle.jvm_types.{specs.declared.program.Program.Program, proofs.{EachAfter.{EachAfter, each_append, all_append, all_weaker, sum_first, sum_last}, KindLaws.field_kind_in}}
use Rattle.jvm_types.specs.declared.program.Kind.TheVariants as kinds

-- ---- numbers

both_ways_same : (b : Bool) (x y u v : ℕ) → x ≡ u → y ≡ v → cond b x y ≡ cond b u v
both_ways_same true x y u v e f = e
both_ways_same false x y u v e f = f

next_place : (b : Bool) (class place count : ℕ) → place ≡ count → cond b place (place + 1) ≡ count + cond ((class == class) && not b) 1 0
next_place b class place count e = subst (λ (t : Bool). cond b place (place + 1) ≡ count + cond (t && not b) 1 0) (sym (eq-eqb class class refl)) (at b)
  where
    at : (b : Bool) → cond b place (place + 1) ≡ count + cond (not b) 1 0
    at true = omega (arith, e)
    at false = omega (arith, e)

next_word : (b : Bool) (word base count : ℕ) → word ≡ base + count → cond b (word + 1) word ≡ base + (count + cond b 1 0)
next_word true word base count e = omega (arith, e)
next_word false word base count e = omega (arith, e)

-- ---- what a field starts with

low_bit_kept : (kind : Kind) (n : ℤ) → kept_int kind n ≡ kept_int kind (kept_int kind n)
low_bit_kept kinds.Int n = refl
low_bit_kept kinds.Bool n = ap pos (omega arith)
low_bit_kept (kinds.Ref class) n = refl

bit_fits : (n : ℕ) → FitsSigned w32 (pos (n % 2))
bit_fits n = grind arith

kept_fits : (kind : Kind) (n : ℤ) → FitsSigned w32 n → FitsSigned w32 (kept_int kind n)
kept_fits kinds.Int n h = h
kept_fits kinds.Bool n h = bit_fits (cast_unsigned w32 n)
kept_fits (kinds.Ref class) n h = grind arith

zero_fits : FitsSigned w32 (pos 0)
zero_fits = grind arith

zero_kept : (kind : Kind) → pos 0 ≡ kept_int kind (pos 0)
zero_kept kinds.Int = refl
zero_kept kinds.Bool = refl
zero_kept (kinds.Ref class) = refl

record Starts (kind : Kind) (n : ℤ) : Type 0 where
  fits : FitsSigned w32 n
  kept : n ≡ kept_int kind n

from_constant : (kind : Kind) (o : Option Constant) → IfSome o FieldsFit → Starts kind (start_of_constant kind o)
from_constant kind (Some (Integer n)) h = record { fits = kept_fits kind n h; kept = low_bit_kept kind n }
from_constant kind o h = record { fits = zero_fits; kept = zero_kept kind }

pub entry_fits : (pool : List Constant) (i : ℕ) → AllByRecursion FieldsFit pool → IfSome (slice_get pool i) FieldsFit
entry_fits [] i h = tt
entry_fits (c ∷ cs) zero h = h.0
entry_fits (c ∷ cs) (suc i) h = entry_fits cs i h.1

named_fits : (pool : List Constant) (o : Option ℕ) → AllByRecursion FieldsFit pool → IfSome (option_and_then (λ i. slice_get pool i) o) FieldsFit
named_fits pool None h = tt
named_fits pool (Some i) h = entry_fits pool i h

static_starts : (pool : List Constant) (kind : Kind) (m : ClassMember) → AllByRecursion FieldsFit pool → Starts kind (static_start pool kind m)
static_starts pool kind m h = from_constant kind (option_and_then (λ i. slice_get pool i) (first_constant m.attrs)) (named_fits pool (first_constant m.attrs) h)

starts_fit : (b : Bool) (kind : Kind) (n : ℤ) → Starts kind n → FitsSigned w32 (cond b n (pos 0))
starts_fit true kind n h = h.fits
starts_fit false kind n h = zero_fits

starts_kept : (b : Bool) (kind : Kind) (n : ℤ) → Starts kind n → cond b n (pos 0) ≡ cond b (kept_int kind (cond b n (pos 0))) (pos 0)
starts_kept true kind n h = h.kept
starts_kept false kind n h = refl

-- ---- one class

kind_in : (p : Program) (o : Option Kind) → IfSome o (IsKindOf p) → IsKindOf p (unwrap_or o kinds.Int)
kind_in p None h = tt
kind_in p (Some kind) h = h

-- a field of a file, behind fields of this class and of those before it
field_fits : (p : Program) (file : ℕ) (pool : List Constant) (place word : ℕ) (m : ClassMember) (before : List FieldInfo)
    → file < length p.names → AllByRecursion FieldsFit pool → AllByRecursion (λ e. e.class ≤ file_class file) before
    → place ≡ instances_among (file_class file) before → word ≡ FIRST_CLASS_WORD + 2 * (file + 1) + statics_among before → place < 65535
    → IsFieldOf p before (field_info p.names file pool (cond (is_static m.flags) word place) m)
field_fits p file pool place word m before l h o e f few = record {
  class = (omega arith, omega (arith, l));
  ordered = o;
  kind = kind_in p (field_kind p.names (text_at pool m.descriptor)) (field_kind_in p (text_at pool m.descriptor));
  index = both_ways_same (is_static m.flags) word place _ _ (omega (arith, f)) e;
  few = omega (arith, few, e);
  start_fits = starts_fit (is_static m.flags) (kind_of p.names pool m) (static_start pool (kind_of p.names pool m) m) (static_starts pool (kind_of p.names pool m) m h);
  start_kept = starts_kept (is_static m.flags) (kind_of p.names pool m) (static_start pool (kind_of p.names pool m) m) (static_starts pool (kind_of p.names pool m) m h);
}

step_few : (b : Bool) (place rest : ℕ) → place + suc rest < 65536 → cond b place (place + 1) + rest < 65536
step_few true place rest h = omega (arith, h)
step_few false place rest h = omega (arith, h)

-- the fields of a class, behind those of the classes before it
class_fits : (p : Program) (file : ℕ) (pool : List Constant) (place word : ℕ) (ms : List ClassMember) (before : List FieldInfo)
    → file < length p.names → AllByRecursion FieldsFit pool → AllByRecursion (λ e. e.class ≤ file_class file) before
    → place ≡ instances_among (file_class file) before → word ≡ FIRST_CLASS_WORD + 2 * (file + 1) + statics_among before → place + length ms < 65536
    → EachAfter (IsFieldOf p) before (fields_of p.names file pool place word ms)
class_fits p file pool place word [] before l h o e f few = tt
class_fits p file pool place word (m ∷ ms) before l h o e f few =
    let b : Bool = is_static m.flags in
    let info : FieldInfo = field_info p.names file pool (cond b word place) m in
    let e' : cond b place (place + 1) ≡ instances_among (file_class file) (before ++ info ∷ []) =
    next_place b (file_class file) place (instances_among (file_class file) before) e ∙ sym (sum_last (λ f. cond ((f.class == file_class file) && not (is_static f.flags)) 1 0) before info) in
    let f' : cond b (word + 1) word ≡ FIRST_CLASS_WORD + 2 * (file + 1) + statics_among (before ++ info ∷ []) =
    next_word b word (FIRST_CLASS_WORD + 2 * (file + 1)) (statics_among before) f ∙ ap (λ n. FIRST_CLASS_WORD + 2 * (file + 1) + n) (sym (sum_last (λ f. cond (is_static f.flags) 1 0) before info)) in (
      field_fits p file pool place word m before l h o e f (omega (arith, few)),
      class_fits p file pool (cond b place (place + 1)) (cond b (word + 1) word) ms (before ++ info ∷ []) l h (all_append (λ e. e.class ≤ file_class file) before (info ∷ []) o (omega arith, tt)) e' f' (step_few b place (length ms) few),
    )

-- ---- all classes

statics_same : (names : List (List ℕ)) (file : ℕ) (pool : List Constant) (place word : ℕ) (ms : List ClassMember) → statics_among (fields_of names file pool place word ms) ≡ static_count ms
statics_same names file pool place word [] = refl
statics_same names file pool place word (m ∷ ms) =
    let b : Bool = is_static m.flags in
    let tail : List FieldInfo = fields_of names file pool (cond b place (place + 1)) (cond b (word + 1) word) ms in
    sum_first (λ f. cond (is_static f.flags) 1 0) (field_info names file pool (cond b word place) m) tail
    ∙ ap (λ n. cond b 1 0 + n) (statics_same names file pool (cond b place (place + 1)) (cond b (word + 1) word) ms)
    ∙ sym (sum_first (λ x. cond (is_static x.flags) 1 0) m ms)

classes_same : (names : List (List ℕ)) (file : ℕ) (pool : List Constant) (place word : ℕ) (ms : List ClassMember) → AllByRecursion (λ f. f.class ≤ file_class file) (fields_of names file pool place word ms)
classes_same names file pool place word [] = tt
classes_same names file pool place word (m ∷ ms) = (omega arith, classes_same names file pool (cond (is_static m.flags) place (place + 1)) (cond (is_static m.flags) (word + 1) word) ms)

none_yet : (class : ℕ) (before : List FieldInfo) → AllByRecursion (λ e. e.class < class) before → 0 ≡ instances_among class before
none_yet class [] h = refl
none_yet class (f ∷ before) h =
    let test : (f.class == class) ≡ false = ne_eqb f.class class (λ e. omega (arith, h.0, e)) in
    let here : ℕ = cond ((f.class == class) && not (is_static f.flags)) 1 0 in
    let first : here ≡ 0 = ap (λ t. cond (t && not (is_static f.flags)) 1 0) test in
    let sum : instances_among class (f ∷ before) ≡ here + instances_among class before = sum_first (λ f. cond ((f.class == class) && not (is_static f.flags)) 1 0) f before in
    let rest : 0 ≡ instances_among class before = none_yet class before h.1 in
    omega (arith, first, sum, rest)

-- the fields of the classes from a file on
files_fit : (p : Program) (file word : ℕ) (cs : List ClassFile) (before : List FieldInfo)
    → file + length cs ≡ length p.names → AllByRecursion (λ (c : ClassFile). AllByRecursion FieldsFit c.constants × (length c.fields < 65536)) cs → AllByRecursion (λ e. e.class < file_class file) before
    → word ≡ FIRST_CLASS_WORD + 2 * file + statics_among before
    → EachAfter (IsFieldOf p) before (fields_from p.names file word cs)
files_fit p file word [] before l h o f = tt
files_fit p file word (c ∷ cs) before l h o f =
    let fields : List FieldInfo = fields_of p.names file c.constants 0 (word + 2) c.fields in
    let ordered : AllByRecursion (λ (e : FieldInfo). e.class ≤ file_class file) before = all_weaker (λ (e : FieldInfo). e.class < file_class file) (λ (e : FieldInfo). e.class ≤ file_class file) (λ e l. omega (arith, l)) before o in
    let ordered' : AllByRecursion (λ (e : FieldInfo). e.class < file_class (file + 1)) (before ++ fields) =
    all_weaker (λ (e : FieldInfo). e.class ≤ file_class file) (λ (e : FieldInfo). e.class < file_class (file + 1)) (λ e l. omega (arith, l)) (before ++ fields) (all_append (λ (e : FieldInfo). e.class ≤ file_class file) before fields ordered (classes_same p.names file c.constants 0 (word + 2) c.fields)) in
    let count : statics_among (before ++ fields) ≡ statics_among before + statics_among fields = sum_by-append (λ f. cond (is_static f.flags) 1 0) before fields in
    let same : statics_among fields ≡ static_count c.fields = statics_same p.names file c.constants 0 (word + 2) c.fields in
    each_append (IsFieldOf p) before fields (fields_from p.names (file + 1) (word + class_word_count c) cs)
    (class_fits p file c.constants 0 (word + 2) c.fields before (omega (arith, l)) h.0.0 ordered (none_yet (file_class file) before o) (omega (arith, f)) (omega (arith, h.0.1)))
    (files_fit p (file + 1) (word + class_word_count c) cs (before ++ fields) (omega (arith, l)) h.1 ordered' (omega (arith, f, count, same)))

-- the fields of a program stand where its invariant has them
pub fields_placed : (p : Program) (files : List ClassFile) → length files ≡ length p.names → AllByRecursion (λ (c : ClassFile). AllByRecursion FieldsFit c.constants × (length c.fields < 65536)) files → EachAfter (IsFieldOf p) [] (laid_out_fields p.names files)
fields_placed p files l h = files_fit p 0 FIRST_CLASS_WORD files [] (omega (arith, l)) h tt refl

-- ---- words

words_from : (names : List (List ℕ)) (file word : ℕ) (cs : List ClassFile) → sum_by class_word_count cs ≡ 2 * length cs + statics_among (fields_from names file word cs)
words_from names file word [] = refl
words_from names file word (c ∷ cs) =
    let fields : List FieldInfo = fields_of names file c.constants 0 (word + 2) c.fields in
    let first : sum_by class_word_count (c ∷ cs) ≡ class_word_count c + sum_by class_word_count cs = sum_first class_word_count c cs in
    let count : statics_among (fields ++ fields_from names (file + 1) (word + class_word_count c) cs) ≡ statics_among fields + statics_among (fields_from names (file + 1) (word + class_word_count c) cs) = sum_by-append (λ f. cond (is_static f.flags) 1 0) fields _ in
    let same : statics_among fields ≡ static_count c.fields = statics_same names file c.constants 0 (word + 2) c.fields in
    let rest : sum_by class_word_count cs ≡ 2 * length cs + statics_among (fields_from names (file + 1) (word + class_word_count c) cs) = words_from names (file + 1) (word + class_word_count c) cs in
    omega (arith, first, count, same, rest)

-- the fixed words of the files are those of the program
pub words_counted : (names : List (List ℕ)) (files : List ClassFile) → fixed_words files ≡ FIRST_CLASS_WORD + 2 * length files + statics_among (laid_out_fields names files)
words_counted names files = let e = words_from names 0 FIRST_CLASS_WORD files in omega (arith, e)
