-- The tests of the rules are met exactly by the classes of the class grammar. That numbers fit their fields is told by the
-- bytes that spell them: the first byte of a number is one.
use Rattle.std.proofs.Common.{◌≡◌, ℕ, suc, ◌+◌, ◌/◌, ◌<◌, ◌≤◌, ◌^◌, Bool, true, false, not, ◌&&◌, ◌==◌, List, [], ◌∷◌, ◌++◌, length, codes, refl, sym, subst, ◌∙◌, arith, get_or, nat_lt, nat_le, cond, Decides, count_by}
use Rattle.std.{specs.List.{AllByRecursion, flat_map, list_all}, proofs.lemmas.Bool.{not-true, not_from_false, leb-true, ltb-true, lt-ltb, and_parts, and_from, Decides.{nat_tests, Decides-eqb}}}
use Rattle.jvm_types.specs.ClassGrammar.{IsCounted, Names, IsIndex, is_wide, is_gap, GapsFit, IsUtf8Byte, FieldsFit, IndicesFit, IsPool, IsAttr, IsNamed, IsHandler, IsCodeAttr, IsFieldAttr, IsMethodAttr, IsMember, IsField, codes_of, HasBody, IsMethod, IsClass}
use Rattle.jvm_types.specs.{Counts.{BodyFits, CodeFits, MemberAttrFits, MemberFits}, Numbers.{u2, u4, has_flag}, ReadingClass.has_body, ReadingPool.names}
use Rattle.jvm_types.specs.{Spelling.{counted, constant, handler, attr, code_body, member_attr, member, class_file}, declared.class_file.{Attr.Attr, ClassFile.ClassFile, Code.Code, Constant.Constant}}
use Rattle.jvm_types.specs.declared.class_file.{Constant.TheVariants.{Gap, Utf8, Integer, Float, Long, Double, Class, Text, Field, Method, InterfaceMethod, NameAndType}, Handler.Handler}
use Rattle.jvm_types.{specs.declared.{class_file.{Member.Member, MemberAttr.MemberAttr}, index_kind.IndexKind.IndexKind}, proofs.EachAfter.sum_first}
use Rattle.jvm_types.proofs.{IndexLaws.{Names-from_test, test_from_Names, IsTextAt-from_test, test_from_IsTextAt, no_IsTextAt, no_test}, ClassReads.{body_from_test, test_from_body}, StepLaws.{IsBytes, bytes_fit}}
use Rattle.class_writer.specs.Testing.{has_due_gaps, is_utf8_byte, is_constant, is_pool, is_attr, is_handler, is_text_at, is_pool_code, is_field_attr, is_method_attr, has_names, is_field, is_code_attr, is_method, has_version, has_classes, has_members, keeps_rules}
use Rattle.class_writer.specs.Writing.{IsKnown, IsClassWritten}
use Rattle.jvm_types.specs.declared.index_kind.IndexKind.TheVariants as kinds
use Rattle.jvm_types.specs.declared.class_file.MemberAttr.TheVariants as member_attrs

-- ---- tests and lists

parted : (xs ys : List ℕ) → IsBytes (xs ++ ys) → IsBytes xs × IsBytes ys
parted [] ys h = (tt, h)
parted (x ∷ xs) ys h = let p = parted xs ys h.1 in ((h.0, p.0), p.1)

each_unit : {A : Type 0} (xs : List A) → AllByRecursion (λ x. Unit {0}) xs
each_unit [] = tt
each_unit (x ∷ xs) = (tt, each_unit xs)

each_first : {A : Type 0} (P Q : A → Type 0) (xs : List A) → AllByRecursion (λ x. P x × Q x) xs → AllByRecursion P xs
each_first P Q [] all = tt
each_first P Q (x ∷ xs) all = (all.0.0, each_first P Q xs all.1)

each_second : {A : Type 0} (P Q : A → Type 0) (xs : List A) → AllByRecursion (λ x. P x × Q x) xs → AllByRecursion Q xs
each_second P Q [] all = tt
each_second P Q (x ∷ xs) all = (all.0.1, each_second P Q xs all.1)

each_both : {A : Type 0} (P Q : A → Type 0) (xs : List A) → AllByRecursion P xs → AllByRecursion Q xs → AllByRecursion (λ x. P x × Q x) xs
each_both P Q [] p q = tt
each_both P Q (x ∷ xs) p q = ((p.0, q.0), each_both P Q xs p.1 q.1)

-- a test tells a rule of the parts whose lengths fit and whose spelling is one of bytes
abbrev Tells : {A : Type 0} → (A → Bool) → (A → Type 0) → (A → List ℕ) → (A → Type 0) → Type 0
Tells {A} test fits spell Is = (x : A) → test x ≡ true → fits x → IsBytes (spell x) → Is x

each_from_test : {A : Type 0} (test : A → Bool) (fits : A → Type 0) (spell : A → List ℕ) (Is : A → Type 0) → Tells test fits spell Is → (xs : List A) → list_all test xs ≡ true → AllByRecursion fits xs
    → IsBytes (flat_map spell xs) → AllByRecursion Is xs
each_from_test test fits spell Is tells [] t f h = tt
each_from_test test fits spell Is tells (x ∷ xs) t f h =
    let p = and_parts (test x) (list_all test xs) t in
    let q = parted (spell x) (flat_map spell xs) h in
    (tells x p.0 f.0 q.0, each_from_test test fits spell Is tells xs p.1 f.1 q.1)

counted_from_test : {A : Type 0} (test : A → Bool) (fits : A → Type 0) (spell : A → List ℕ) (Is : A → Type 0) → Tells test fits spell Is → (xs : List A) → list_all test xs ≡ true → IsCounted fits xs → IsBytes (counted spell xs)
    → IsCounted Is xs
counted_from_test test fits spell Is tells xs t f h = record { count = f.count; each = each_from_test test fits spell Is tells xs t f.each h.1.1 }

test_from_each : {A : Type 0} (test : A → Bool) (Is : A → Type 0) → ((x : A) → Is x → test x ≡ true) → (xs : List A) → AllByRecursion Is xs → list_all test xs ≡ true
test_from_each test Is meets [] all = refl
test_from_each test Is meets (x ∷ xs) all = and_from (test x) (list_all test xs) (meets x all.0) (test_from_each test Is meets xs all.1)

-- ---- numbers

u2_fits : (n : ℕ) → n / 256 < 256 → n < 2 ^ 16
u2_fits n h = omega arith

u4_fits : (n : ℕ) → n / 65536 / 256 < 256 → n < 2 ^ 32
u4_fits n h = omega arith

u8_fits : (n : ℕ) → n / 4294967296 / 65536 / 256 < 256 → n < 2 ^ 64
u8_fits n h = omega arith

index_from_test : (kind : IndexKind) (pool : List Constant) (i : ℕ) → names kind pool i ≡ true → i / 256 < 256 → IsIndex kind pool i
index_from_test kind pool i t h = record { number = u2_fits i h; names = Names-from_test kind pool i t }

-- ---- the constant pool

gaps_from_test : (due : Bool) (cs : List Constant) → has_due_gaps due cs ≡ true → GapsFit due cs
gaps_from_test true [] t = absurd cc
gaps_from_test false [] t = refl
gaps_from_test true (c ∷ cs) t = let p = and_parts (is_gap c) (has_due_gaps (is_wide c) cs) t in (p.0, gaps_from_test (is_wide c) cs p.1)
gaps_from_test false (c ∷ cs) t = let p = and_parts (not (is_gap c)) (has_due_gaps (is_wide c) cs) t in (not-true (is_gap c) p.0, gaps_from_test (is_wide c) cs p.1)

test_from_gaps : (due : Bool) (cs : List Constant) → GapsFit due cs → has_due_gaps due cs ≡ true
test_from_gaps true [] h = absurd cc
test_from_gaps false [] h = refl
test_from_gaps true (c ∷ cs) h = and_from (is_gap c) (has_due_gaps (is_wide c) cs) h.0 (test_from_gaps (is_wide c) cs h.1)
test_from_gaps false (c ∷ cs) h = and_from (not (is_gap c)) (has_due_gaps (is_wide c) cs) (not_from_false (is_gap c) h.0) (test_from_gaps (is_wide c) cs h.1)

byte_from_test : (b : ℕ) → is_utf8_byte b ≡ true → IsUtf8Byte b
byte_from_test b t = let p = and_parts (nat_lt 0 b) (nat_lt b 240) t in (ltb-true 0 b p.0, ltb-true b 240 p.1)

text_from_test : (text : List ℕ) → list_all is_utf8_byte text ≡ true → AllByRecursion IsUtf8Byte text
text_from_test [] t = tt
text_from_test (b ∷ text) t = let p = and_parts (is_utf8_byte b) (list_all is_utf8_byte text) t in (byte_from_test b p.0, text_from_test text p.1)

le_test : (a b : ℕ) → a ≤ b → nat_le a b ≡ true
le_test a b h = grind (arith, nat_tests)

test_from_byte : (b : ℕ) → IsUtf8Byte b → is_utf8_byte b ≡ true
test_from_byte b h = and_from (nat_lt 0 b) (nat_lt b 240) (lt-ltb 0 b h.0) (lt-ltb b 240 h.1)

abbrev IsEntry : List Constant → Constant → Type 0
IsEntry pool c = FieldsFit c × IndicesFit pool c

constant_from_test : (pool : List Constant) (c : Constant) → is_constant pool c ≡ true → IsKnown c → IsBytes (constant c) → IsEntry pool c
constant_from_test pool Gap t f h = (tt, tt)
constant_from_test pool (Utf8 text) t f h = ((f, text_from_test text t), tt)
constant_from_test pool (Integer n) t f h = (f, tt)
constant_from_test pool (Float n) t f h = (u4_fits n h.1.0, tt)
constant_from_test pool (Long n) t f h = (u8_fits n h.1.0, tt)
constant_from_test pool (Double n) t f h = (u8_fits n h.1.0, tt)
constant_from_test pool (Class name) t f h = (u2_fits name h.1.0, Names-from_test kinds.Utf8 pool name t)
constant_from_test pool (Text string) t f h = (u2_fits string h.1.0, Names-from_test kinds.Utf8 pool string t)
constant_from_test pool (Field class member) t f h =
    let p = and_parts (names kinds.Class pool class) (names kinds.NameAndType pool member) t in
    ((u2_fits class h.1.0, u2_fits member h.1.1.1.0), (Names-from_test kinds.Class pool class p.0, Names-from_test kinds.NameAndType pool member p.1))
constant_from_test pool (Method class member) t f h =
    let p = and_parts (names kinds.Class pool class) (names kinds.NameAndType pool member) t in
    ((u2_fits class h.1.0, u2_fits member h.1.1.1.0), (Names-from_test kinds.Class pool class p.0, Names-from_test kinds.NameAndType pool member p.1))
constant_from_test pool (InterfaceMethod class member) t f h =
    let p = and_parts (names kinds.Class pool class) (names kinds.NameAndType pool member) t in
    ((u2_fits class h.1.0, u2_fits member h.1.1.1.0), (Names-from_test kinds.Class pool class p.0, Names-from_test kinds.NameAndType pool member p.1))
constant_from_test pool (NameAndType name descriptor) t f h =
    let p = and_parts (names kinds.Utf8 pool name) (names kinds.Utf8 pool descriptor) t in
    ((u2_fits name h.1.0, u2_fits descriptor h.1.1.1.0), (Names-from_test kinds.Utf8 pool name p.0, Names-from_test kinds.Utf8 pool descriptor p.1))

two_meet : (kind other : IndexKind) (pool : List Constant) (i j : ℕ) → Names kind pool i → Names other pool j → (names kind pool i && names other pool j) ≡ true
two_meet kind other pool i j p q = and_from (names kind pool i) (names other pool j) (test_from_Names kind pool i p) (test_from_Names other pool j q)

test_from_constant : (pool : List Constant) (c : Constant) → IsEntry pool c → is_constant pool c ≡ true
test_from_constant pool Gap h = refl
test_from_constant pool (Utf8 text) h = test_from_each is_utf8_byte IsUtf8Byte test_from_byte text h.0.1
test_from_constant pool (Integer n) h = refl
test_from_constant pool (Float n) h = refl
test_from_constant pool (Long n) h = refl
test_from_constant pool (Double n) h = refl
test_from_constant pool (Class name) h = test_from_Names kinds.Utf8 pool name h.1
test_from_constant pool (Text string) h = test_from_Names kinds.Utf8 pool string h.1
test_from_constant pool (Field class member) h = two_meet kinds.Class kinds.NameAndType pool class member h.1.0 h.1.1
test_from_constant pool (Method class member) h = two_meet kinds.Class kinds.NameAndType pool class member h.1.0 h.1.1
test_from_constant pool (InterfaceMethod class member) h = two_meet kinds.Class kinds.NameAndType pool class member h.1.0 h.1.1
test_from_constant pool (NameAndType name descriptor) h = two_meet kinds.Utf8 kinds.Utf8 pool name descriptor h.1.0 h.1.1

pool_from_test : (pool : List Constant) → is_pool pool ≡ true → IsCounted IsKnown pool → IsBytes (counted constant pool) → IsPool pool
pool_from_test pool t f h =
    let p = and_parts (has_due_gaps true pool) (list_all (is_constant pool) pool) t in
    let each = each_from_test (is_constant pool) IsKnown constant (IsEntry pool) (constant_from_test pool) pool p.1 f.each h.1.1 in
    record { count = f.count; gaps = gaps_from_test true pool p.0; fields = each_first FieldsFit (IndicesFit pool) pool each; indices = each_second FieldsFit (IndicesFit pool) pool each }

test_from_pool : (pool : List Constant) → IsPool pool → is_pool pool ≡ true
test_from_pool pool is =
    and_from (has_due_gaps true pool) (list_all (is_constant pool) pool) (test_from_gaps true pool is.gaps)
    (test_from_each (is_constant pool) (IsEntry pool) (test_from_constant pool) pool (each_both FieldsFit (IndicesFit pool) pool is.fields is.indices))

-- ---- attributes

attr_from_test : (pool : List Constant) (a : Attr) → is_attr pool a ≡ true → BodyFits a → IsBytes (attr a) → IsAttr pool a
attr_from_test pool a t f h = record { name = index_from_test kinds.Utf8 pool a.name t h.0; count = f; bytes = h.1.1.1.1.1.1 }

test_from_attr : (pool : List Constant) (a : Attr) → IsAttr pool a → is_attr pool a ≡ true
test_from_attr pool a is = test_from_Names kinds.Utf8 pool a.name is.name.names

handler_from_test : (pool : List Constant) (r : Handler) → is_handler pool r ≡ true → Unit {0} → IsBytes (handler r) → IsHandler pool r
handler_from_test pool r t f h = record {
  start = u2_fits r.start h.0;
  «end» = u2_fits r.end h.1.1.0;
  handler = u2_fits r.handler h.1.1.1.1.0;
  catch_type = index_from_test kinds.CatchType pool r.catch_type t h.1.1.1.1.1.1.0;
}

test_from_handler : (pool : List Constant) (r : Handler) → IsHandler pool r → is_handler pool r ≡ true
test_from_handler pool r is = test_from_Names kinds.CatchType pool r.catch_type is.catch_type.names

named_from_test : (text : List ℕ) (pool : List Constant) (i : ℕ) → is_text_at text pool i ≡ true → i / 256 < 256 → IsNamed pool i text
named_from_test text pool i t h = record { number = u2_fits i h; named = IsTextAt-from_test text pool i t }

code_from_test : (pool : List Constant) (c : Code) → is_pool_code pool c ≡ true → CodeFits c → IsBytes (member_attr (member_attrs.Code c)) → IsCodeAttr pool c
code_from_test pool c t f h =
    let p = and_parts (is_text_at (codes "Code") pool c.name && list_all (is_handler pool) c.rows) (list_all (is_attr pool) c.attrs) t in
    let q = and_parts (is_text_at (codes "Code") pool c.name) (list_all (is_handler pool) c.rows) p.0 in
    let body : IsBytes (code_body c) = h.1.1.1.1.1.1 in
    let behind = parted (c.bytes ++ counted handler c.rows) (counted attr c.attrs) body.1.1.1.1.1.1.1.1 in
    let front = parted c.bytes (counted handler c.rows) behind.0 in
    record {
      name = named_from_test (codes "Code") pool c.name q.0 h.0;
      size = f.body;
      max_stack = u2_fits c.max_stack body.0;
      max_locals = u2_fits c.max_locals body.1.1.0;
      count = f.bytes;
      bytes = front.0;
      rows = counted_from_test (is_handler pool) (λ r. Unit {0}) handler (IsHandler pool) (handler_from_test pool) c.rows q.1 (record { count = f.rows; each = each_unit c.rows }) front.1;
      attrs = counted_from_test (is_attr pool) BodyFits attr (IsAttr pool) (attr_from_test pool) c.attrs p.1 f.attrs behind.1;
    }

test_from_code : (pool : List Constant) (c : Code) → IsCodeAttr pool c → is_pool_code pool c ≡ true
test_from_code pool c is =
    and_from (is_text_at (codes "Code") pool c.name && list_all (is_handler pool) c.rows) (list_all (is_attr pool) c.attrs)
    (and_from (is_text_at (codes "Code") pool c.name) (list_all (is_handler pool) c.rows) (test_from_IsTextAt (codes "Code") pool c.name is.name.named) (test_from_each (is_handler pool) (IsHandler pool) (test_from_handler pool) c.rows is.rows.each))
    (test_from_each (is_attr pool) (IsAttr pool) (test_from_attr pool) c.attrs is.attrs.each)

field_attr_from_test : (pool : List Constant) (a : MemberAttr) → is_field_attr pool a ≡ true → MemberAttrFits a → IsBytes (member_attr a) → IsFieldAttr pool a
field_attr_from_test pool (member_attrs.Code c) t f h = absurd cc
field_attr_from_test pool (member_attrs.ConstantValue name value) t f h =
    let p = and_parts (is_text_at (codes "ConstantValue") pool name) (names kinds.Value pool value) t in
    (named_from_test (codes "ConstantValue") pool name p.0 h.0, index_from_test kinds.Value pool value p.1 h.1.1.1.1.1.1.0)
field_attr_from_test pool (member_attrs.Other a) t f h =
    let p = and_parts (is_attr pool a) (not (is_text_at (codes "ConstantValue") pool a.name)) t in
    (attr_from_test pool a p.0 f h, no_IsTextAt (codes "ConstantValue") pool a.name (not-true (is_text_at (codes "ConstantValue") pool a.name) p.1))

test_from_field_attr : (pool : List Constant) (a : MemberAttr) → IsFieldAttr pool a → is_field_attr pool a ≡ true
test_from_field_attr pool (member_attrs.Code c) is = absurd is
test_from_field_attr pool (member_attrs.ConstantValue name value) is =
    and_from (is_text_at (codes "ConstantValue") pool name) (names kinds.Value pool value) (test_from_IsTextAt (codes "ConstantValue") pool name is.0.named) (test_from_Names kinds.Value pool value is.1.names)
test_from_field_attr pool (member_attrs.Other a) is =
    and_from (is_attr pool a) (not (is_text_at (codes "ConstantValue") pool a.name)) (test_from_attr pool a is.0)
    (not_from_false (is_text_at (codes "ConstantValue") pool a.name) (no_test (codes "ConstantValue") pool a.name is.1))

method_attr_from_test : (pool : List Constant) (a : MemberAttr) → is_method_attr pool a ≡ true → MemberAttrFits a → IsBytes (member_attr a) → IsMethodAttr pool a
method_attr_from_test pool (member_attrs.Code c) t f h = code_from_test pool c t f h
method_attr_from_test pool (member_attrs.ConstantValue name value) t f h = absurd cc
method_attr_from_test pool (member_attrs.Other a) t f h =
    let p = and_parts (is_attr pool a) (not (is_text_at (codes "Code") pool a.name)) t in
    (attr_from_test pool a p.0 f h, no_IsTextAt (codes "Code") pool a.name (not-true (is_text_at (codes "Code") pool a.name) p.1))

test_from_method_attr : (pool : List Constant) (a : MemberAttr) → IsMethodAttr pool a → is_method_attr pool a ≡ true
test_from_method_attr pool (member_attrs.Code c) is = test_from_code pool c is
test_from_method_attr pool (member_attrs.ConstantValue name value) is = absurd is
test_from_method_attr pool (member_attrs.Other a) is =
    and_from (is_attr pool a) (not (is_text_at (codes "Code") pool a.name)) (test_from_attr pool a is.0)
    (not_from_false (is_text_at (codes "Code") pool a.name) (no_test (codes "Code") pool a.name is.1))

-- ---- fields and methods

member_from_test : (test : MemberAttr → Bool) (Is : MemberAttr → Type 0) → Tells test MemberAttrFits member_attr Is → (pool : List Constant) (m : Member) → has_names pool m ≡ true → list_all test m.attrs ≡ true → MemberFits m
    → IsBytes (member m) → IsMember Is pool m
member_from_test test Is tells pool m t u f h =
    let p = and_parts (names kinds.Utf8 pool m.name) (names kinds.Utf8 pool m.descriptor) t in
    record {
      flags = u2_fits m.flags h.0;
      name = index_from_test kinds.Utf8 pool m.name p.0 h.1.1.0;
      descriptor = index_from_test kinds.Utf8 pool m.descriptor p.1 h.1.1.1.1.0;
      attrs = counted_from_test test MemberAttrFits member_attr Is tells m.attrs u f h.1.1.1.1.1.1;
    }

test_from_names : (Is : MemberAttr → Type 0) (pool : List Constant) (m : Member) → IsMember Is pool m → has_names pool m ≡ true
test_from_names Is pool m is = two_meet kinds.Utf8 kinds.Utf8 pool m.name m.descriptor is.name.names is.descriptor.names

field_from_test : (pool : List Constant) (m : Member) → is_field pool m ≡ true → MemberFits m → IsBytes (member m) → IsField pool m
field_from_test pool m t f h =
    let p = and_parts (has_names pool m) (list_all (is_field_attr pool) m.attrs) t in
    member_from_test (is_field_attr pool) (IsFieldAttr pool) (field_attr_from_test pool) pool m p.0 p.1 f h

test_from_field : (pool : List Constant) (m : Member) → IsField pool m → is_field pool m ≡ true
test_from_field pool m is =
    and_from (has_names pool m) (list_all (is_field_attr pool) m.attrs) (test_from_names (IsFieldAttr pool) pool m is) (test_from_each (is_field_attr pool) (IsFieldAttr pool) (test_from_field_attr pool) m.attrs is.attrs.each)

abbrev one_if_code : MemberAttr → ℕ
one_if_code a = cond (is_code_attr a) 1 0

pub codes_counted : (attrs : List MemberAttr) → count_by is_code_attr attrs ≡ length (codes_of attrs)
codes_counted [] = refl
codes_counted (member_attrs.Code c ∷ attrs) =
    let e : count_by is_code_attr attrs ≡ length (codes_of attrs) = codes_counted attrs in
    let f : count_by is_code_attr (member_attrs.Code c ∷ attrs) ≡ 1 + count_by is_code_attr attrs = sum_first one_if_code (member_attrs.Code c) attrs in
    omega (arith, e, f)
codes_counted (member_attrs.ConstantValue name value ∷ attrs) =
    let e : count_by is_code_attr attrs ≡ length (codes_of attrs) = codes_counted attrs in
    let f : count_by is_code_attr (member_attrs.ConstantValue name value ∷ attrs) ≡ 0 + count_by is_code_attr attrs = sum_first one_if_code (member_attrs.ConstantValue name value) attrs in
    omega (arith, e, f)
codes_counted (member_attrs.Other a ∷ attrs) =
    let e : count_by is_code_attr attrs ≡ length (codes_of attrs) = codes_counted attrs in
    let f : count_by is_code_attr (member_attrs.Other a ∷ attrs) ≡ 0 + count_by is_code_attr attrs = sum_first one_if_code (member_attrs.Other a) attrs in
    omega (arith, e, f)

method_from_test : (pool : List Constant) (m : Member) → is_method pool m ≡ true → MemberFits m → IsBytes (member m) → IsMethod pool m
method_from_test pool m t f h =
    let p = and_parts (has_names pool m && list_all (is_method_attr pool) m.attrs) (has_body m) t in
    let q = and_parts (has_names pool m) (list_all (is_method_attr pool) m.attrs) p.0 in
    record { member = member_from_test (is_method_attr pool) (IsMethodAttr pool) (method_attr_from_test pool) pool m q.0 q.1 f h; body = body_from_test m p.1 }

test_from_method : (pool : List Constant) (m : Member) → IsMethod pool m → is_method pool m ≡ true
test_from_method pool m is =
    and_from (has_names pool m && list_all (is_method_attr pool) m.attrs) (has_body m)
    (and_from (has_names pool m) (list_all (is_method_attr pool) m.attrs) (test_from_names (IsMethodAttr pool) pool m is.member) (test_from_each (is_method_attr pool) (IsMethodAttr pool) (test_from_method_attr pool) m.attrs is.member.attrs.each))
    (test_from_body m is.body)

-- ---- the class

class_from_test : (c : ClassFile) → keeps_rules c ≡ true → IsClassWritten c → IsBytes (class_file c) → length (class_file c) ≤ 1048576 → IsClass c
class_from_test c t f h short =
    let pool : List Constant = c.constants in
    let p = and_parts (has_version c && is_pool pool && has_classes c) (has_members c) t in
    let q = and_parts (has_version c && is_pool pool) (has_classes c) p.0 in
    let r = and_parts (has_version c) (is_pool pool) q.0 in
    let version = and_parts (nat_le 45 c.major) (nat_le c.major 50) r.0 in
    let classes = and_parts (names kinds.Class pool c.this_class && names kinds.Class pool c.super_class) (list_all (names kinds.Class pool) c.interfaces) q.1 in
    let own = and_parts (names kinds.Class pool c.this_class) (names kinds.Class pool c.super_class) classes.0 in
    let members = and_parts (list_all (is_field pool) c.fields && list_all (is_method pool) c.methods) (list_all (is_attr pool) c.attrs) p.1 in
    let both = and_parts (list_all (is_field pool) c.fields) (list_all (is_method pool) c.methods) members.0 in
    let to_pool : List ℕ = u4 3405691582 ++ u2 c.minor ++ u2 c.major ++ counted constant pool in
    let to_super : List ℕ = to_pool ++ u2 c.flags ++ u2 c.this_class ++ u2 c.super_class in
    let attrs = parted (to_super ++ counted u2 c.interfaces ++ counted member c.fields ++ counted member c.methods) (counted attr c.attrs) h in
    let methods = parted (to_super ++ counted u2 c.interfaces ++ counted member c.fields) (counted member c.methods) attrs.0 in
    let fields = parted (to_super ++ counted u2 c.interfaces) (counted member c.fields) methods.0 in
    let interfaces = parted to_super (counted u2 c.interfaces) fields.0 in
    let super = parted (to_pool ++ u2 c.flags ++ u2 c.this_class) (u2 c.super_class) interfaces.0 in
    let this = parted (to_pool ++ u2 c.flags) (u2 c.this_class) super.0 in
    let flags = parted to_pool (u2 c.flags) this.0 in
    let entries = parted (u4 3405691582 ++ u2 c.minor ++ u2 c.major) (counted constant pool) flags.0 in
    record {
      short = short;
      minor = u2_fits c.minor entries.0.1.1.1.1.0;
      from_45 = leb-true 45 c.major version.0;
      to_50 = leb-true c.major 50 version.1;
      pool = pool_from_test pool r.1 f.constants entries.1;
      flags = u2_fits c.flags flags.1.0;
      this_class = index_from_test kinds.Class pool c.this_class own.0 this.1.0;
      super_class = index_from_test kinds.Class pool c.super_class own.1 super.1.0;
      interfaces = counted_from_test (names kinds.Class pool) (λ i. Unit {0}) u2 (IsIndex kinds.Class pool) (λ i t f h. index_from_test kinds.Class pool i t h.0) c.interfaces classes.1 (record { count = f.interfaces; each = each_unit c.interfaces }) interfaces.1;
      fields = counted_from_test (is_field pool) MemberFits member (IsField pool) (field_from_test pool) c.fields both.0 f.fields fields.1;
      methods = counted_from_test (is_method pool) MemberFits member (IsMethod pool) (method_from_test pool) c.methods both.1 f.methods methods.1;
      attrs = counted_from_test (is_attr pool) BodyFits attr (IsAttr pool) (attr_from_test pool) c.attrs members.1 f.attrs attrs.1;
    }

test_from_class : (c : ClassFile) → IsClass c → keeps_rules c ≡ true
test_from_class c is =
    let pool : List Constant = c.constants in
    let version : has_version c ≡ true = and_from (nat_le 45 c.major) (nat_le c.major 50) (le_test 45 c.major is.from_45) (le_test c.major 50 is.to_50) in
    let classes : has_classes c ≡ true = and_from (names kinds.Class pool c.this_class && names kinds.Class pool c.super_class) (list_all (names kinds.Class pool) c.interfaces)
    (two_meet kinds.Class kinds.Class pool c.this_class c.super_class is.this_class.names is.super_class.names)
    (test_from_each (names kinds.Class pool) (IsIndex kinds.Class pool) (λ i at. test_from_Names kinds.Class pool i at.names) c.interfaces is.interfaces.each) in
    let members : has_members c ≡ true = and_from (list_all (is_field pool) c.fields && list_all (is_method pool) c.methods) (list_all (is_attr pool) c.attrs)
    (and_from (list_all (is_field pool) c.fields) (list_all (is_method pool) c.methods) (test_from_each (is_field pool) (IsField pool) (test_from_field pool) c.fields is.fields.each) (test_from_each (is_method pool) (IsMethod pool) (test_from_method pool) c.methods is.methods.each))
    (test_from_each (is_attr pool) (IsAttr pool) (test_from_attr pool) c.attrs is.attrs.each) in
    and_from (has_version c && is_pool pool && has_classes c) (has_members c)
    (and_from (has_version c && is_pool pool) (has_classes c) (and_from (has_version c) (is_pool pool) version (test_from_pool pool is.pool)) classes)
    members

pub class_decided : (c : ClassFile) (bytes : List ℕ) (test : Bool) → bytes ≡ class_file c → ((i : ℕ) → get_or bytes i 0 < 256) → IsClassWritten c → length bytes ≤ 1048576 → test ≡ keeps_rules c → Decides test (IsClass c)
class_decided c bytes test spelled fits written short is = (
  λ t. class_from_test c (sym is ∙ t) written (subst IsBytes spelled (bytes_fit bytes fits)) (subst (λ (x : List ℕ). length x ≤ 1048576) spelled short),
  λ class. is ∙ test_from_class c class,
)
