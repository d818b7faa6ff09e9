-- Reading the constant pool (JVMS 4.4), and what an index of it is to name.
use Rattle.std.specs.Prelude.{ℕ, zero, suc, ◌+◌, ◌*◌, ◌-◌, ◌==◌, Bool, true, false, not, ◌&&◌, List}
use Rattle.std.specs.Prelude.{[], ◌∷◌, length, Option, Some, Result, Ok, nat_lt, if◌then◌else◌}
use Rattle.std.specs.Prelude.{slice_get, bytes_eq}
use Rattle.std.specs.Int.{w32, cast_signed}
use Rattle.jvm_types.specs.declared.refusal.CRule.TheVariants.{C4, C5, C6}
use Rattle.jvm_types.specs.declared.index_kind.IndexKind.{IndexKind}
use Rattle.jvm_types.specs.declared.index_kind.IndexKind.TheVariants as kinds
use Rattle.jvm_types.specs.declared.class_file.Constant.{Constant}
use Rattle.jvm_types.specs.declared.class_file.TheConstants.{TEXT_BYTES_END}
use Rattle.jvm_types.specs.declared.class_file.Constant.TheVariants.{Gap, Utf8, Integer, Float}
use Rattle.jvm_types.specs.declared.class_file.Constant.TheVariants.{Long, Double, Class, Text}
use Rattle.jvm_types.specs.declared.class_file.Constant.TheVariants.{Field, Method, InterfaceMethod}
use Rattle.jvm_types.specs.declared.class_file.Constant.TheVariants.{NameAndType}
use Rattle.jvm_types.specs.Spelling.{constant}
use Rattle.jvm_types.specs.ClassGrammar.{is_wide}
use Rattle.jvm_types.specs.ReadingSteps.{Fault, fault, ◌>>=◌, fault_unless, u1_at, u2_at, u4_at}
use Rattle.jvm_types.specs.ReadingSteps.{byte_run_at}

-- ---- indices

-- whether an entry is of a kind
abbrev pub is_of : IndexKind → Option Constant → Bool
is_of kinds.Utf8 (Some (Utf8 text)) = true
is_of kinds.Class (Some (Class name)) = true
is_of kinds.NameAndType (Some (NameAndType name descriptor)) = true
is_of kinds.Value (Some (Integer n)) = true
is_of kinds.Value (Some (Float n)) = true
is_of kinds.Value (Some (Long n)) = true
is_of kinds.Value (Some (Double n)) = true
is_of kinds.Value (Some (Text string)) = true
is_of kinds.CatchType (Some (Class name)) = true
is_of kind entry = false

-- whether an index names an entry of a kind; a catch type may be 0
abbrev pub names : IndexKind → List Constant → ℕ → Bool
names kinds.CatchType pool i = if i == 0 then true else is_of kinds.CatchType (slice_get pool i)
names kind pool i = is_of kind (slice_get pool i)

-- whether an entry is this text
abbrev pub is_text : List ℕ → Option Constant → Bool
is_text text (Some (Utf8 bytes)) = bytes_eq bytes text
is_text text entry = false

-- an index, with C5 where it is out of range or names an entry of another kind
unfoldable pub index_at : IndexKind → List Constant → List ℕ → Result (ℕ × List ℕ) Fault
index_at kind pool bytes = do
  i ← u2_at bytes
  ok ← fault_unless (names kind pool i.0) C5 (length bytes)
  Ok (i.0, i.1)

-- ---- entries

-- C6 at the first byte of a text that is 0 or from 0xF0 on; behind the text there are so many bytes
unfoldable pub text_wanted : List ℕ → ℕ → Result (Unit {0}) Fault
text_wanted [] behind = Ok tt
text_wanted (b ∷ text) behind = do
  ok ← fault_unless (nat_lt 0 b && nat_lt b TEXT_BYTES_END) C6 (length (b ∷ text) + behind)
  text_wanted text behind

-- a text behind its length
unfoldable pub utf8_at : List ℕ → Result (Constant × List ℕ) Fault
utf8_at bytes = do
  n ← u2_at bytes
  text ← byte_run_at n.0 n.1
  ok ← text_wanted text.0 (length text.1)
  Ok (Utf8 text.0, text.1)

-- one number of two bytes, two of two, one of four, two of four
unfoldable pub one_at : (ℕ → Constant) → List ℕ → Result (Constant × List ℕ) Fault
one_at entry bytes = do
  a ← u2_at bytes
  Ok (entry a.0, a.1)

unfoldable pub two_at : (ℕ → ℕ → Constant) → List ℕ → Result (Constant × List ℕ) Fault
two_at entry bytes = do
  a ← u2_at bytes
  b ← u2_at a.1
  Ok (entry a.0 b.0, b.1)

unfoldable pub word_entry_at : (ℕ → Constant) → List ℕ → Result (Constant × List ℕ) Fault
word_entry_at entry bytes = do
  a ← u4_at bytes
  Ok (entry a.0, a.1)

unfoldable pub wide_at : (ℕ → Constant) → List ℕ → Result (Constant × List ℕ) Fault
wide_at entry bytes = do
  high ← u4_at bytes
  low ← u4_at high.1
  Ok (entry (high.0 * 4294967296 + low.0), low.1)

-- what stands behind a tag; C4 for any other tag
unfoldable pub tagged_at : ℕ → ℕ → List ℕ → Result (Constant × List ℕ) Fault
tagged_at tag at_tag bytes =
    if tag == 1 then utf8_at bytes
    else if tag == 3 then word_entry_at (λ n. Integer (cast_signed w32 n)) bytes
    else if tag == 4 then word_entry_at Float bytes
    else if tag == 5 then wide_at Long bytes
    else if tag == 6 then wide_at Double bytes
    else if tag == 7 then one_at Class bytes
    else if tag == 8 then one_at Text bytes
    else if tag == 9 then two_at Field bytes
    else if tag == 10 then two_at Method bytes
    else if tag == 11 then two_at InterfaceMethod bytes
    else if tag == 12 then two_at NameAndType bytes
    else fault C4 at_tag

-- an entry: its tag, and what stands behind it
unfoldable pub constant_at : List ℕ → Result (Constant × List ℕ) Fault
constant_at bytes = do
  tag ← u1_at bytes
  tagged_at tag.0 (length bytes) tag.1

-- so many indices, at the first of which a gap is due or an entry
unfoldable pub entries_at : ℕ → Bool → List ℕ → Result (List Constant × List ℕ) Fault
entries_at zero due bytes = Ok ([], bytes)
entries_at (suc n) true bytes = do
  others ← entries_at n false bytes
  Ok (Gap ∷ others.0, others.1)
entries_at (suc n) false bytes = do
  first ← constant_at bytes
  others ← entries_at n (is_wide first.0) first.1
  Ok (first.0 ∷ others.0, others.1)

-- ---- the indices of the pool's own entries, once the whole pool was read

-- the two indices of an entry, which stand one and three bytes behind its tag
unfoldable pub both_wanted : IndexKind → IndexKind → List Constant → ℕ → ℕ → ℕ
    → Result (Unit {0}) Fault
both_wanted kind other pool i j left = do
  ok ← fault_unless (names kind pool i) C5 (left - 1)
  fault_unless (names other pool j) C5 (left - 3)

-- C5 at an index of the entry; and at its tag, where the last entry is a Long or a Double
unfoldable pub entry_wanted : List Constant → Constant → Bool → ℕ → Result (Unit {0}) Fault
entry_wanted pool (Class name) last left = fault_unless (names kinds.Utf8 pool name) C5 (left - 1)
entry_wanted pool (Text string) last left =
    fault_unless (names kinds.Utf8 pool string) C5 (left - 1)
entry_wanted pool (Field class member) last left =
    both_wanted kinds.Class kinds.NameAndType pool class member left
entry_wanted pool (Method class member) last left =
    both_wanted kinds.Class kinds.NameAndType pool class member left
entry_wanted pool (InterfaceMethod class member) last left =
    both_wanted kinds.Class kinds.NameAndType pool class member left
entry_wanted pool (NameAndType name descriptor) last left =
    both_wanted kinds.Utf8 kinds.Utf8 pool name descriptor left
entry_wanted pool c last left = fault_unless (not (is_wide c && last)) C5 left

-- the same of the entries one after another; from the first of them on there are so many bytes
unfoldable pub entries_wanted : List Constant → List Constant → ℕ → Result (Unit {0}) Fault
entries_wanted pool [] left = Ok tt
entries_wanted pool (c ∷ cs) left = do
  ok ← entry_wanted pool c (length cs == 0) left
  entries_wanted pool cs (left - length (constant c))

-- the pool behind its count; a gap is due at index 0
unfoldable pub pool_at : List ℕ → Result (List Constant × List ℕ) Fault
pool_at bytes = do
  n ← u2_at bytes
  pool ← entries_at n.0 true n.1
  ok ← entries_wanted pool.0 pool.0 (length n.1)
  Ok (pool.0, pool.1)
