-- The place of a fault lies in the bytes that were read, or at their end.
use Rattle.std.proofs.Common.{ℕ, zero, suc, ◌+◌, ◌-◌, ◌^◌, ◌<◌, ◌≤◌, Bool, true, false, cond, eqb, ltb, leb, List, [], ◌∷◌, length, take, drop, Result, Ok, Err, ap, arith, ◌&&◌, ◌==◌, not, IfErr, slice_get, codes}
use Rattle.std.{specs.Int.{w32, cast_signed}, proofs.lemmas.{List.length-append, Result.IfErr-weaker}}
use Rattle.jvm_types.specs.{ClassGrammar.{is_wide, IsIndex, IsCounted, IsAttr, IsHandler, IsFieldAttr, IsMethodAttr, IsMember, IsField, IsMethod, IsClass}, Numbers.{u1, u2, u4}}
use Rattle.jvm_types.specs.ReadingClass.{attr_at, table_row_at, code_at, code_attr, value_attr, field_attr_at, method_attr_at, member_at, field_at, has_body, method_at, class_at, read_class}
use Rattle.jvm_types.specs.ReadingPool.{names, is_text, index_at, text_wanted, utf8_at, one_at, two_at, word_entry_at, wide_at, tagged_at, constant_at, entries_at, both_wanted, entry_wanted, entries_wanted, pool_at}
use Rattle.jvm_types.specs.ReadingSteps.{Fault, fault, ◌>>=◌, fault_unless, u1_at, u2_at, u4_at, byte_run_at, many_at, counted_at, ended, whole, fault_moved, in_body}
use Rattle.jvm_types.specs.{Spelling.{counted, constant, attr, handler, code_body, member_attr, member, class_file}, declared.class_file.{Attr.Attr, Constant.Constant}}
use Rattle.jvm_types.specs.declared.class_file.{Constant.TheVariants.{Integer, Float, Long, Double, Class, Text, Field, Method, InterfaceMethod, NameAndType}, MemberAttr.MemberAttr}
use Rattle.jvm_types.specs.declared.{index_kind.IndexKind.IndexKind, refusal.CRule.{CRule, TheVariants.{C1, C2, C3, C5, C6, C8, C9, C10}}}
use Rattle.jvm_types.proofs.{AttrLaws.{attr_reads, handler_reads, AreParts, code_reads, field_attr_reads, method_attr_reads}, ClassReads.{member_reads, method_reads, class_takes}}
use Rattle.jvm_types.proofs.{ConstantLaws.{IsEntry, constant_reads}, IndexLaws.index_reads, PoolLaws.{IsPoolOrNone, pool_reads}}
use Rattle.jvm_types.proofs.StepLaws.{IsBytes, Finds, Took, Reads, u1_reads, u2_reads, u4_reads, IsRun, run_reads, counted_reads}
use Rattle.jvm_types.specs.declared.index_kind.IndexKind.TheVariants as kinds
use Rattle.jvm_types.specs.declared.class_file.MemberAttr.TheVariants as member_attrs

-- so many bytes are left at most, where there is a fault
pub record Near {A : Type 0} (n : ℕ) (r : Result A Fault) : Type 0 where
  pub place : IfErr r (λ f. f.left ≤ n)

-- a step that is as told, and the places of its faults
pub record Placed {A : Type 0} (spell : A → List ℕ) (Fits : A → Type 0) (item_at : List ℕ → Result (A × List ℕ) Fault) : Type 0 where
  pub reads : Reads spell Fits item_at
  pub near : (bytes : List ℕ) → IsBytes bytes → Near (length bytes) (item_at bytes)

farther : {A : Type 0} (m n : ℕ) (r : Result A Fault) → m ≤ n → Near m r → Near n r
farther m n r le near = record { place = IfErr-weaker r (λ f. f.left ≤ m) (λ f. f.left ≤ n) (λ f h. omega arith) near.place }

shorter : {A : Type 0} {spell : A → List ℕ} {Fits : A → Type 0} (bytes : List ℕ) (x : A × List ℕ) → Took spell Fits bytes x → length x.1 ≤ length bytes
shorter {spell = spell} bytes x took = omega (arith, ap length took.parts, length-append (spell x.0) x.1)

joined : {A B : Type 0} (n : ℕ) (P : A → Type 0) (r : Result A Fault) (f : A → Result B Fault) → Finds r P → Near n r → ((x : A) → P x → Near n (f x)) → Near n (r >>= f)
joined n P (Ok x) f given near h = h x given.ok
joined n P (Err e) f given near h = record { place = near.place }

-- a step, and the steps after it
near_step : {A B : Type 0} {spell : A → List ℕ} {Fits : A → Type 0} {item_at : List ℕ → Result (A × List ℕ) Fault} (placed : Placed spell Fits item_at) (n : ℕ) (bytes : List ℕ) → IsBytes bytes → length bytes ≤ n
    → (f : A × List ℕ → Result B Fault) → ((x : A × List ℕ) → Took spell Fits bytes x → length x.1 ≤ n → Near n (f x)) → Near n (item_at bytes >>= f)
near_step {spell = spell} {Fits = Fits} {item_at = item_at} placed n bytes fits le f h =
    joined n (Took spell Fits bytes) (item_at bytes) f (placed.reads.takes bytes fits) (farther (length bytes) n (item_at bytes) le (placed.near bytes fits))
    λ x took. let s = shorter bytes x took in h x took (omega arith)

near_wanted : {B : Type 0} (n : ℕ) (b : Bool) (rule : CRule) (left : ℕ) (f : Unit {0} → Result B Fault) → left ≤ n → Near n (f tt) → Near n (fault_unless b rule left >>= f)
near_wanted n true rule left f le h = h
near_wanted n false rule left f le h = record { place = le }

just_wanted : (n : ℕ) (b : Bool) (rule : CRule) (left : ℕ) → left ≤ n → Near n (fault_unless b rule left)
just_wanted n true rule left le = record { place = tt }
just_wanted n false rule left le = record { place = le }

-- steps that answer no bytes
near_then : {A B : Type 0} (n : ℕ) (r : Result A Fault) (f : A → Result B Fault) → Near n r → ((x : A) → Near n (f x)) → Near n (r >>= f)
near_then n (Ok x) f near h = h x
near_then n (Err e) f near h = record { place = near.place }

-- ---- items

u1_near : (bytes : List ℕ) → IsBytes bytes → Near (length bytes) (u1_at bytes)
unfolding u1_at
u1_near (a ∷ rest) fits = record { place = tt }
u1_near [] fits = record { place = omega arith }

u2_near : (bytes : List ℕ) → IsBytes bytes → Near (length bytes) (u2_at bytes)
unfolding u2_at
u2_near (a ∷ b ∷ rest) fits = record { place = tt }
u2_near (a ∷ []) fits = record { place = omega arith }
u2_near [] fits = record { place = omega arith }

u4_near : (bytes : List ℕ) → IsBytes bytes → Near (length bytes) (u4_at bytes)
unfolding u4_at
u4_near (a ∷ b ∷ c ∷ d ∷ rest) fits = record { place = tt }
u4_near (a ∷ b ∷ c ∷ []) fits = record { place = omega arith }
u4_near (a ∷ b ∷ []) fits = record { place = omega arith }
u4_near (a ∷ []) fits = record { place = omega arith }
u4_near [] fits = record { place = omega arith }

pub u1_placed : Placed u1 (λ n. n < 256) u1_at
u1_placed = record { reads = u1_reads; near = u1_near }

pub u2_placed : Placed u2 (λ n. n < 2 ^ 16) u2_at
u2_placed = record { reads = u2_reads; near = u2_near }

pub u4_placed : Placed u4 (λ n. n < 2 ^ 32) u4_at
u4_placed = record { reads = u4_reads; near = u4_near }

on_cond : {A : Type 0} (n : ℕ) (b : Bool) (x y : Result A Fault) → Near n x → Near n y → Near n (cond b x y)
on_cond n true x y h k = h
on_cond n false x y h k = k

pub run_placed : (n : ℕ) → Placed (λ text. text) (IsRun n) (byte_run_at n)
unfolding byte_run_at
run_placed n = record { reads = run_reads n; near = λ bytes fits. on_cond (length bytes) (ltb (length bytes) n) (fault C3 (length bytes)) (Ok (take n bytes, drop n bytes)) (record { place = omega arith }) (record { place = tt }) }

-- ---- lists

many_near : {A : Type 0} (spell : A → List ℕ) (Fits : A → Type 0) (item_at : List ℕ → Result (A × List ℕ) Fault) → Placed spell Fits item_at
    → (most n : ℕ) (bytes : List ℕ) → IsBytes bytes → length bytes ≤ most → Near most (many_at item_at n bytes)
unfolding many_at
many_near spell Fits item_at placed most zero bytes fits le = record { place = tt }
many_near spell Fits item_at placed most (suc n) bytes fits le =
    near_step placed most bytes fits le _ λ first a short.
    near_then most _ _ (many_near spell Fits item_at placed most n first.1 a.rest short) λ others.
    record { place = tt }

pub counted_placed : {A : Type 0} (spell : A → List ℕ) (Fits : A → Type 0) (item_at : List ℕ → Result (A × List ℕ) Fault) → Placed spell Fits item_at
    → Placed (counted spell) (IsCounted Fits) (counted_at item_at)
unfolding counted_at
counted_placed spell Fits item_at placed = record {
  reads = counted_reads spell Fits item_at placed.reads;
  near = λ bytes fits.
      near_step u2_placed (length bytes) bytes fits (omega arith) _ λ n a short.
      many_near spell Fits item_at placed (length bytes) n.0 n.1 a.rest short;
}

-- ---- the constant pool

pub index_placed : (kind : IndexKind) (pool : List Constant) → Placed u2 (IsIndex kind pool) (index_at kind pool)
unfolding index_at
index_placed kind pool = record {
  reads = index_reads kind pool;
  near = λ bytes fits.
      near_step u2_placed (length bytes) bytes fits (omega arith) _ λ i a short.
      near_wanted (length bytes) (names kind pool i.0) C5 (length bytes) _ (omega arith)
      (record { place = tt });
}

text_near : (most behind : ℕ) (text : List ℕ) → length text + behind ≤ most → Near most (text_wanted text behind)
unfolding text_wanted
text_near most behind [] le = record { place = tt }
text_near most behind (b ∷ text) le = near_wanted most (ltb 0 b && ltb b 240) C6 (length (b ∷ text) + behind) _ le (text_near most behind text (omega arith))

text_at_near : (most : ℕ) (bytes : List ℕ) → IsBytes bytes → length bytes ≤ most → Near most (utf8_at bytes)
unfolding utf8_at
text_at_near most bytes fits le =
    near_step u2_placed most bytes fits le _ λ n a short.
    near_step (run_placed n.0) most n.1 a.rest short _ λ text b shorter.
    let room : length text.0 + length text.1 ≤ most = omega (arith, ap length b.parts, length-append text.0 text.1) in
    near_then most _ _ (text_near most (length text.1) text.0 room) λ ok.
    record { place = tt }

one_near : (most : ℕ) (entry : ℕ → Constant) (bytes : List ℕ) → IsBytes bytes → length bytes ≤ most → Near most (one_at entry bytes)
unfolding one_at
one_near most entry bytes fits le = near_step u2_placed most bytes fits le _ λ n a short. record { place = tt }

two_near : (most : ℕ) (entry : ℕ → ℕ → Constant) (bytes : List ℕ) → IsBytes bytes → length bytes ≤ most → Near most (two_at entry bytes)
unfolding two_at
two_near most entry bytes fits le =
    near_step u2_placed most bytes fits le _ λ m a short.
    near_step u2_placed most m.1 a.rest short _ λ n b shorter.
    record { place = tt }

word_near : (most : ℕ) (entry : ℕ → Constant) (bytes : List ℕ) → IsBytes bytes → length bytes ≤ most → Near most (word_entry_at entry bytes)
unfolding word_entry_at
word_near most entry bytes fits le = near_step u4_placed most bytes fits le _ λ n a short. record { place = tt }

wide_near : (most : ℕ) (entry : ℕ → Constant) (bytes : List ℕ) → IsBytes bytes → length bytes ≤ most → Near most (wide_at entry bytes)
unfolding wide_at
wide_near most entry bytes fits le =
    near_step u4_placed most bytes fits le _ λ m a short.
    near_step u4_placed most m.1 a.rest short _ λ n b shorter.
    record { place = tt }

tagged_near : (most tag at_tag : ℕ) (bytes : List ℕ) → IsBytes bytes → length bytes ≤ most → at_tag ≤ most → Near most (tagged_at tag at_tag bytes)
unfolding tagged_at
tagged_near most tag at_tag bytes fits le here =
    on_cond most (eqb tag 1) _ _ (text_at_near most bytes fits le) (
    on_cond most (eqb tag 3) _ _ (word_near most (λ n. Integer (cast_signed w32 n)) bytes fits le) (
    on_cond most (eqb tag 4) _ _ (word_near most Float bytes fits le) (
    on_cond most (eqb tag 5) _ _ (wide_near most Long bytes fits le) (
    on_cond most (eqb tag 6) _ _ (wide_near most Double bytes fits le) (
    on_cond most (eqb tag 7) _ _ (one_near most Class bytes fits le) (
    on_cond most (eqb tag 8) _ _ (one_near most Text bytes fits le) (
    on_cond most (eqb tag 9) _ _ (two_near most Field bytes fits le) (
    on_cond most (eqb tag 10) _ _ (two_near most Method bytes fits le) (
    on_cond most (eqb tag 11) _ _ (two_near most InterfaceMethod bytes fits le) (
    on_cond most (eqb tag 12) _ _ (two_near most NameAndType bytes fits le)
    (record { place = here })))))))))))

pub constant_placed : Placed constant IsEntry constant_at
unfolding constant_at
constant_placed = record {
  reads = constant_reads;
  near = λ bytes fits.
      near_step u1_placed (length bytes) bytes fits (omega arith) _ λ tag a short.
      tagged_near (length bytes) tag.0 (length bytes) tag.1 a.rest short (omega arith);
}

entries_near : (most n : ℕ) (due : Bool) (bytes : List ℕ) → IsBytes bytes → length bytes ≤ most → Near most (entries_at n due bytes)
unfolding entries_at
entries_near most zero due bytes fits le = record { place = tt }
entries_near most (suc n) true bytes fits le =
    near_then most _ _ (entries_near most n false bytes fits le) λ others. record { place = tt }
entries_near most (suc n) false bytes fits le =
    near_step constant_placed most bytes fits le _ λ first a short.
    near_then most _ _ (entries_near most n (is_wide first.0) first.1 a.rest short) λ others.
    record { place = tt }

both_near : (most : ℕ) (kind other : IndexKind) (pool : List Constant) (i j left : ℕ) → left ≤ most → Near most (both_wanted kind other pool i j left)
unfolding both_wanted
both_near most kind other pool i j left le = near_wanted most (names kind pool i) C5 (left - 1) _ (omega arith) (just_wanted most (names other pool j) C5 (left - 3) (omega arith))

entry_near : (most : ℕ) (pool : List Constant) (c : Constant) (last : Bool) (left : ℕ) → left ≤ most → Near most (entry_wanted pool c last left)
unfolding entry_wanted
entry_near most pool (Class name) last left le = just_wanted most (names kinds.Utf8 pool name) C5 (left - 1) (omega arith)
entry_near most pool (Text string) last left le = just_wanted most (names kinds.Utf8 pool string) C5 (left - 1) (omega arith)
entry_near most pool (Field m n) last left le = both_near most kinds.Class kinds.NameAndType pool m n left le
entry_near most pool (Method m n) last left le = both_near most kinds.Class kinds.NameAndType pool m n left le
entry_near most pool (InterfaceMethod m n) last left le = both_near most kinds.Class kinds.NameAndType pool m n left le
entry_near most pool (NameAndType m n) last left le = both_near most kinds.Utf8 kinds.Utf8 pool m n left le
entry_near most pool c last left le = just_wanted most (not (is_wide c && last)) C5 left le

entries_wanted_near : (most : ℕ) (pool cs : List Constant) (left : ℕ) → left ≤ most → Near most (entries_wanted pool cs left)
unfolding entries_wanted
entries_wanted_near most pool [] left le = record { place = tt }
entries_wanted_near most pool (c ∷ cs) left le =
    near_then most _ _ (entry_near most pool c (length cs == 0) left le) λ ok.
    entries_wanted_near most pool cs (left - length (constant c)) (omega arith)

pub pool_placed : Placed (counted constant) IsPoolOrNone pool_at
unfolding pool_at
pool_placed = record {
  reads = pool_reads;
  near = λ bytes fits.
      near_step u2_placed (length bytes) bytes fits (omega arith) _ λ n a short.
      near_then (length bytes) _ _ (entries_near (length bytes) n.0 true n.1 a.rest short) λ pool.
      near_then (length bytes) _ _ (entries_wanted_near (length bytes) pool.0 pool.0 (length n.1) short) λ ok.
      record { place = tt };
}

-- ---- attributes

pub attr_placed : (pool : List Constant) → Placed attr (IsAttr pool) (attr_at pool)
unfolding attr_at
attr_placed pool = record {
  reads = attr_reads pool;
  near = λ bytes fits.
      near_step (index_placed kinds.Utf8 pool) (length bytes) bytes fits (omega arith) _ λ name a short.
      near_step u4_placed (length bytes) name.1 a.rest short _ λ n b shorter.
      near_step (run_placed n.0) (length bytes) n.1 b.rest shorter _ λ body c shortest.
      record { place = tt };
}

pub handler_placed : (pool : List Constant) → Placed handler (IsHandler pool) (table_row_at pool)
unfolding table_row_at
handler_placed pool = record {
  reads = handler_reads pool;
  near = λ bytes fits.
      near_step u2_placed (length bytes) bytes fits (omega arith) _ λ start a p.
      near_step u2_placed (length bytes) start.1 a.rest p _ λ end b q.
      near_step u2_placed (length bytes) end.1 b.rest q _ λ to c r.
      near_step (index_placed kinds.CatchType pool) (length bytes) to.1 c.rest r _ λ catch d s.
      record { place = tt };
}

pub code_placed : (pool : List Constant) (name : ℕ) → Placed code_body (AreParts pool name) (code_at pool name)
unfolding code_at
code_placed pool name = record {
  reads = code_reads pool name;
  near = λ bytes fits.
      let most : ℕ = length bytes in
      near_step u2_placed most bytes fits (omega arith) _ λ stack a p.
      near_step u2_placed most stack.1 a.rest p _ λ locals b q.
      near_step u4_placed most locals.1 b.rest q _ λ n c r.
      near_step (run_placed n.0) most n.1 c.rest r _ λ code d s.
      near_step (counted_placed handler (IsHandler pool) (table_row_at pool) (handler_placed pool)) most code.1 d.rest s _ λ rows e t.
      near_step (counted_placed attr (IsAttr pool) (attr_at pool) (attr_placed pool)) most rows.1 e.rest t _ λ attrs f u.
      record { place = tt };
}

ended_near : {A : Type 0} (most : ℕ) (value : A) (rest : List ℕ) → length rest ≤ most → Near most (ended value rest)
ended_near most value [] le = record { place = tt }
ended_near most value (b ∷ rest) le = record { place = le }

whole_near : {A : Type 0} (spell : A → List ℕ) (Fits : A → Type 0) (bytes : List ℕ) (r : Result (A × List ℕ) Fault) → Finds r (Took spell Fits bytes) → Near (length bytes) r → Near (length bytes) (whole r)
unfolding whole
whole_near spell Fits bytes (Ok x) given near = ended_near (length bytes) x.0 x.1 (shorter bytes x given.ok)
whole_near spell Fits bytes (Err f) given near = record { place = near.place }

-- all of the bytes, read by a step
pub filled_near : {A : Type 0} (spell : A → List ℕ) (Fits : A → Type 0) (item_at : List ℕ → Result (A × List ℕ) Fault) → Placed spell Fits item_at → (bytes : List ℕ) → IsBytes bytes → Near (length bytes) (whole (item_at bytes))
filled_near spell Fits item_at placed bytes fits = whole_near spell Fits bytes (item_at bytes) (placed.reads.takes bytes fits) (placed.near bytes fits)

moved_near : (rule : CRule) (left at_length behind most : ℕ) → left + behind ≤ most → at_length ≤ most → (fault_moved rule left at_length behind).left ≤ most
moved_near C3 left at_length behind most h k = k
moved_near C8 left at_length behind most h k = k
moved_near rule left at_length behind most h k = h

body_near : {A : Type 0} (most at_length behind n : ℕ) (r : Result A Fault) → n + behind ≤ most → at_length ≤ most → Near n r → Near most (in_body at_length behind r)
unfolding in_body
body_near most at_length behind n (Ok x) h k near = record { place = tt }
body_near most at_length behind n (Err f) h k near = let l = near.place in record { place = moved_near f.rule f.left at_length behind most (omega arith) k }

-- an attribute has six bytes before its body
attr_room : (bytes : List ℕ) (a : Attr × List ℕ) (Fits : Attr → Type 0) → Took attr Fits bytes a → 4 + length a.0.body + length a.1 ≤ length bytes
attr_room bytes a Fits took = omega (arith, ap length took.parts, length-append a.0.body a.1)

value_near : (pool : List Constant) (a : Attr) (behind most : ℕ) → IsBytes a.body → 4 + length a.body + behind ≤ most → Near most (value_attr pool a behind)
unfolding value_attr
value_near pool a behind most fits room =
    near_then most _ _ (body_near most (4 + length a.body + behind) behind (length a.body) (whole (index_at kinds.Value pool a.body)) (omega arith) room (filled_near u2 (IsIndex kinds.Value pool) (index_at kinds.Value pool) (index_placed kinds.Value pool) a.body fits)) λ value.
    record { place = tt }

code_near : (pool : List Constant) (a : Attr) (behind most : ℕ) → IsBytes a.body → 4 + length a.body + behind ≤ most → Near most (code_attr pool a behind)
unfolding code_attr
code_near pool a behind most fits room =
    near_then most _ _ (body_near most (4 + length a.body + behind) behind (length a.body) (whole (code_at pool a.name a.body)) (omega arith) room (filled_near code_body (AreParts pool a.name) (code_at pool a.name) (code_placed pool a.name) a.body fits)) λ c.
    record { place = tt }

pub field_attr_placed : (pool : List Constant) → Placed member_attr (IsFieldAttr pool) (field_attr_at pool)
unfolding field_attr_at
field_attr_placed pool = record {
  reads = field_attr_reads pool;
  near = λ bytes fits.
      near_step (attr_placed pool) (length bytes) bytes fits (omega arith) _ λ a p short.
      near_then (length bytes) _ _ (on_cond (length bytes) (is_text (codes "ConstantValue") (slice_get pool a.0.name)) (value_attr pool a.0 (length a.1)) (Ok (member_attrs.Other a.0))
      (value_near pool a.0 (length a.1) (length bytes) p.fits.bytes (attr_room bytes a (IsAttr pool) p)) (record { place = tt })) λ m.
      record { place = tt };
}

pub method_attr_placed : (pool : List Constant) → Placed member_attr (IsMethodAttr pool) (method_attr_at pool)
unfolding method_attr_at
method_attr_placed pool = record {
  reads = method_attr_reads pool;
  near = λ bytes fits.
      near_step (attr_placed pool) (length bytes) bytes fits (omega arith) _ λ a p short.
      near_then (length bytes) _ _ (on_cond (length bytes) (is_text (codes "Code") (slice_get pool a.0.name)) (code_attr pool a.0 (length a.1)) (Ok (member_attrs.Other a.0))
      (code_near pool a.0 (length a.1) (length bytes) p.fits.bytes (attr_room bytes a (IsAttr pool) p)) (record { place = tt })) λ m.
      record { place = tt };
}

-- ---- members and classes

member_placed : (Fits : MemberAttr → Type 0) (item_at : List ℕ → Result (MemberAttr × List ℕ) Fault) → Placed member_attr Fits item_at → (pool : List Constant) → Placed member (IsMember Fits pool) (member_at item_at pool)
unfolding member_at
member_placed Fits item_at placed pool = record {
  reads = member_reads Fits item_at placed.reads pool;
  near = λ bytes fits.
      let most : ℕ = length bytes in
      near_step u2_placed most bytes fits (omega arith) _ λ flags a p.
      near_step (index_placed kinds.Utf8 pool) most flags.1 a.rest p _ λ name b q.
      near_step (index_placed kinds.Utf8 pool) most name.1 b.rest q _ λ descriptor c r.
      near_step (counted_placed member_attr Fits item_at placed) most descriptor.1 c.rest r _ λ attrs d s.
      record { place = tt };
}

pub field_placed : (pool : List Constant) → Placed member (IsField pool) (field_at pool)
unfolding field_at
field_placed pool = member_placed (IsFieldAttr pool) (field_attr_at pool) (field_attr_placed pool) pool

pub method_placed : (pool : List Constant) → Placed member (IsMethod pool) (method_at pool)
unfolding method_at
method_placed pool = record {
  reads = method_reads pool;
  near = λ bytes fits.
      near_step (member_placed (IsMethodAttr pool) (method_attr_at pool) (method_attr_placed pool) pool) (length bytes) bytes fits (omega arith) _ λ m a short.
      near_wanted (length bytes) (has_body m.0) C9 (length bytes) _ (omega arith)
      (record { place = tt });
}

class_near : (bytes : List ℕ) → IsBytes bytes → Near (length bytes) (class_at bytes)
unfolding class_at
class_near bytes fits =
    let most : ℕ = length bytes in
    near_step u4_placed most bytes fits (omega arith) _ λ magic a a'.
    near_wanted most (eqb magic.0 3405691582) C1 (length bytes) _ (omega arith) (
    near_step u2_placed most magic.1 a.rest a' _ λ minor b b'.
    near_step u2_placed most minor.1 b.rest b' _ λ major c c'.
    near_wanted most (leb 45 major.0 && leb major.0 50) C2 (length minor.1) _ b' (
    near_step pool_placed most major.1 c.rest c' _ λ pool d d'.
    near_step u2_placed most pool.1 d.rest d' _ λ flags e e'.
    near_step (index_placed kinds.Class pool.0) most flags.1 e.rest e' _ λ own f f'.
    near_step (index_placed kinds.Class pool.0) most own.1 f.rest f' _ λ super g g'.
    near_step (counted_placed u2 (IsIndex kinds.Class pool.0) (index_at kinds.Class pool.0) (index_placed kinds.Class pool.0)) most super.1 g.rest g' _ λ interfaces h h'.
    near_step (counted_placed member (IsField pool.0) (field_at pool.0) (field_placed pool.0)) most interfaces.1 h.rest h' _ λ fields i i'.
    near_step (counted_placed member (IsMethod pool.0) (method_at pool.0) (method_placed pool.0)) most fields.1 i.rest i' _ λ methods j j'.
    near_step (counted_placed attr (IsAttr pool.0) (attr_at pool.0) (attr_placed pool.0)) most methods.1 j.rest j' _ λ attrs k k'.
    record { place = tt }))

-- the fault of a file that is no class
pub read_near : (bytes : List ℕ) → IsBytes bytes → Near (length bytes) (read_class bytes)
unfolding read_class
read_near bytes fits =
    on_cond (length bytes) (ltb 1048576 (length bytes)) (fault C10 (length bytes - 1048576)) (whole (class_at bytes)) (record { place = omega arith })
    (whole_near class_file (λ c. length (class_file c) ≤ 1048576 → IsClass c) bytes (class_at bytes) (class_takes bytes fits) (class_near bytes fits))
