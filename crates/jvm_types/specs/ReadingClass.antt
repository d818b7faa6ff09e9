-- Reading a class file (JVMS 4.1): the class that the bytes spell, or the first condition that
-- stands.
--   C1   the first four bytes are not 0xCAFEBABE: at 0
--   C2   the major version is below 45 or above 50: at 6
--   C3   an item is cut: where it begins
--   C4   the tag of a constant is not 1 or 3 to 12: at the tag
--   C5   an index names nothing, or an entry of another kind: at the index; or a Long or a Double
-- has the last index: at
--        its tag
--   C6   a byte of a text is 0 or from 0xF0 on: at the byte
--   C7   the length of a Code or a ConstantValue disagrees with its parts: at the length
--   C8   bytes stand behind the last attribute: at the first of them
--   C9   a method has not one Code, or is NATIVE or ABSTRACT: at its flags
--   C10  the file is longer than 1048576 bytes: at 1048576
use Rattle.std.specs.Prelude.{ℕ, ◌+◌, ◌-◌, ◌==◌, Bool, not, ◌&&◌, List, length, Option, Some, None}
use Rattle.std.specs.Prelude.{Result, Ok, Err, nat_lt, nat_le, if◌then◌else◌, slice_get, codes}
use Rattle.jvm_types.specs.declared.refusal.CRule.{CRule}
use Rattle.jvm_types.specs.declared.refusal.CRule.TheVariants.{C1, C2, C9, C10}
use Rattle.jvm_types.specs.declared.index_kind.IndexKind.TheVariants as kinds
use Rattle.jvm_types.specs.declared.class_file.Constant.{Constant}
use Rattle.jvm_types.specs.declared.class_file.Attr.{Attr}
use Rattle.jvm_types.specs.declared.class_file.Handler.{Handler}
use Rattle.jvm_types.specs.declared.class_file.Code.{Code}
use Rattle.jvm_types.specs.declared.class_file.MemberAttr.{MemberAttr}
use Rattle.jvm_types.specs.declared.class_file.MemberAttr.TheVariants as member_attrs
use Rattle.jvm_types.specs.declared.class_file.Member.{Member}
use Rattle.jvm_types.specs.declared.class_file.ClassFile.{ClassFile}
use Rattle.jvm_types.specs.Numbers.{has_flag}
use Rattle.jvm_types.specs.ClassGrammar.{codes_of}
use Rattle.jvm_types.specs.ReadingSteps.{Fault, fault, ◌>>=◌, fault_unless, u2_at, u4_at}
use Rattle.jvm_types.specs.ReadingSteps.{byte_run_at, counted_at, whole, in_body}
use Rattle.jvm_types.specs.ReadingPool.{is_text, index_at, pool_at}
use Rattle.jvm_types.specs.declared.limits.TheConstants.{MOST_FILE_BYTES, FIRST_VERSION}
use Rattle.jvm_types.specs.declared.limits.TheConstants.{LAST_VERSION}
use Rattle.jvm_types.specs.declared.flags.TheConstants.{NATIVE, ABSTRACT}
use Rattle.jvm_types.specs.declared.class_file.TheConstants.{MAGIC}

-- ---- attributes

-- an attribute: its name, its length, and the body that is cut out by it
unfoldable pub attr_at : List Constant → List ℕ → Result (Attr × List ℕ) Fault
attr_at pool bytes = do
  name ← index_at kinds.Utf8 pool bytes
  n ← u4_at name.1
  body ← byte_run_at n.0 n.1
  Ok (record { name = name.0; body = body.0 }, body.1)

-- a row of an exception table
unfoldable pub table_row_at : List Constant → List ℕ → Result (Handler × List ℕ) Fault
table_row_at pool bytes = do
  start ← u2_at bytes
  end ← u2_at start.1
  handler ← u2_at end.1
  catch ← index_at kinds.CatchType pool handler.1
  Ok (record { start = start.0; «end» = end.0; handler = handler.0; catch_type = catch.0 }, catch.1)

-- the parts of a Code of this name
unfoldable pub code_at : List Constant → ℕ → List ℕ → Result (Code × List ℕ) Fault
code_at pool name bytes = do
  max_stack ← u2_at bytes
  max_locals ← u2_at max_stack.1
  n ← u4_at max_locals.1
  code ← byte_run_at n.0 n.1
  rows ← counted_at (table_row_at pool) code.1
  attrs ← counted_at (attr_at pool) rows.1
  Ok (
    record {
      max_stack = max_stack.0;
      max_locals = max_locals.0;
      bytes = code.0;
      rows = rows.0;
      attrs = attrs.0;
      name = name;
    },
    attrs.1,
  )

-- the attribute that was cut out, read as a Code; behind it there are so many bytes
unfoldable pub code_attr : List Constant → Attr → ℕ → Result MemberAttr Fault
code_attr pool a behind = do
  c ← in_body (4 + length a.body + behind) behind (whole (code_at pool a.name a.body))
  Ok (member_attrs.Code c)

unfoldable pub value_attr : List Constant → Attr → ℕ → Result MemberAttr Fault
value_attr pool a behind = do
  value ← in_body (4 + length a.body + behind) behind (whole (index_at kinds.Value pool a.body))
  Ok (member_attrs.ConstantValue a.name value)

-- an attribute of a field: by its name a ConstantValue, or kept unread
unfoldable pub field_attr_at : List Constant → List ℕ → Result (MemberAttr × List ℕ) Fault
field_attr_at pool bytes = do
  a ← attr_at pool bytes
  attr ← if is_text (codes "ConstantValue") (slice_get pool a.0.name)
      then value_attr pool a.0 (length a.1) else Ok (member_attrs.Other a.0)
  Ok (attr, a.1)

-- an attribute of a method: by its name a Code, or kept unread
unfoldable pub method_attr_at : List Constant → List ℕ → Result (MemberAttr × List ℕ) Fault
method_attr_at pool bytes = do
  a ← attr_at pool bytes
  attr ← if is_text (codes "Code") (slice_get pool a.0.name) then code_attr pool a.0 (length a.1)
      else Ok (member_attrs.Other a.0)
  Ok (attr, a.1)

-- ---- fields and methods

-- a field or a method, with a step for its attributes
unfoldable pub member_at : (List ℕ → Result (MemberAttr × List ℕ) Fault) → List Constant → List ℕ
    → Result (Member × List ℕ) Fault
member_at member_attr_at pool bytes = do
  flags ← u2_at bytes
  name ← index_at kinds.Utf8 pool flags.1
  descriptor ← index_at kinds.Utf8 pool name.1
  attrs ← counted_at member_attr_at descriptor.1
  Ok (
    record { flags = flags.0; name = name.0; descriptor = descriptor.0; attrs = attrs.0 },
    attrs.1,
  )

unfoldable pub field_at : List Constant → List ℕ → Result (Member × List ℕ) Fault
field_at pool bytes = member_at (field_attr_at pool) pool bytes

-- one Code, and neither NATIVE nor ABSTRACT
abbrev pub has_body : Member → Bool
has_body m =
    (length (codes_of m.attrs) == 1) && not (has_flag NATIVE m.flags)
    && not (has_flag ABSTRACT m.flags)

-- a method, with C9 at its flags once its attributes were read
unfoldable pub method_at : List Constant → List ℕ → Result (Member × List ℕ) Fault
method_at pool bytes = do
  m ← member_at (method_attr_at pool) pool bytes
  ok ← fault_unless (has_body m.0) C9 (length bytes)
  Ok (m.0, m.1)

-- ---- the class

unfoldable pub class_at : List ℕ → Result (ClassFile × List ℕ) Fault
class_at bytes = do
  magic ← u4_at bytes
  ok ← fault_unless (magic.0 == MAGIC) C1 (length bytes)
  minor ← u2_at magic.1
  major ← u2_at minor.1
  ok ← fault_unless (nat_le FIRST_VERSION major.0 && nat_le major.0 LAST_VERSION) C2
      (length minor.1)
  pool ← pool_at major.1
  flags ← u2_at pool.1
  this ← index_at kinds.Class pool.0 flags.1
  super ← index_at kinds.Class pool.0 this.1
  interfaces ← counted_at (index_at kinds.Class pool.0) super.1
  fields ← counted_at (field_at pool.0) interfaces.1
  methods ← counted_at (method_at pool.0) fields.1
  attrs ← counted_at (attr_at pool.0) methods.1
  Ok (
    record {
      minor = minor.0;
      major = major.0;
      constants = pool.0;
      flags = flags.0;
      this_class = this.0;
      super_class = super.0;
      interfaces = interfaces.0;
      fields = fields.0;
      methods = methods.0;
      attrs = attrs.0;
    },
    attrs.1,
  )

-- the class that the bytes spell; C10 goes before all else
unfoldable pub read_class : List ℕ → Result ClassFile Fault
read_class bytes =
    if nat_lt MOST_FILE_BYTES (length bytes) then fault C10 (length bytes - MOST_FILE_BYTES)
    else whole (class_at bytes)

-- the rule and the offset of a fault in so many bytes
abbrev pub fault_of : {A : Type 0} → ℕ → Result A Fault → Option (CRule × ℕ)
fault_of count (Ok x) = None
fault_of count (Err f) = Some (f.rule, count - f.left)

-- the rule and the offset of the first condition that stands
unfoldable pub class_fault : List ℕ → Option (CRule × ℕ)
class_fault bytes = fault_of (length bytes) (read_class bytes)
