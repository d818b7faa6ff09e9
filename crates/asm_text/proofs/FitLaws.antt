-- The numbers of the lines of a class are in their fields.
use Rattle.std.proofs.Common.{◌≡◌, ℕ, ◌^◌, ◌<◌, ◌≤◌, ℤ, pos, Bool, true, false, List, [], ◌∷◌, ◌++◌, length, map, drop, Option, Some, None, refl, sym, ap, subst, ◌∙◌, arith, append_assoc, length-append, FitsSigned, IsSomeAnd, slice_index_or}
use Rattle.std.{specs.{Int.{w8, w16, w32}, List.{AllByRecursion, flat_map, list_all}, Option.option_map}, proofs.lemmas.{Bool.{and_from, Decides.nat_tests}, Int.ints}}
use Rattle.jvm_types.specs.ClassGrammar.{IsByte, IsUtf8Byte, FieldsFit, IsClass, IsIndex, IsAttr, IsHandler, IsCodeAttr, IsFieldAttr, IsMethodAttr, IsField, IsMethod}
use Rattle.jvm_types.specs.CodeGrammar.{offset, SpellsOperands, SpellsInsns}
use Rattle.jvm_types.specs.{CodeTable.{Form, Plain, Byte, Short, SignedByte, SignedShort, Branch, WideBranch, LocalAndStep, IntArray, Table, Lookup, form_of}, ReadCode.insns_of}
use Rattle.jvm_types.specs.declared.{class_file.{Attr.Attr, ClassFile.ClassFile, Code.Code, Constant.Constant, Handler.Handler, Member.Member, MemberAttr.MemberAttr}, code.{Case.Case, Insn.Insn}}
use Rattle.jvm_types.{specs.declared.code.Op.Op, proofs.EachAfter.{all_append, all_weaker}}
use Rattle.asm_text.specs.{CodeLines.are_insns, Items.ItemFits, Operands.{is_between, is_target, is_s1, is_s2, is_s4, are_pairs, operands_fit, shape_of, shape_at}, declared.items.Item.Item}
use Rattle.asm_text.{specs.declared.items.Item.TheVariants.{Entry, Interface, Attribute, Row}, proofs.ClassBuildLaws.{code_attr_items, member_attr_items, member_items, class_items}}
use Rattle.asm_text.proofs.CodeBuildLaws.{insn_item, code_items, code_items_by, code_read, at_end}
use Rattle.asm_text.proofs.EncodeLaws.{insn_operands, case_numbers, LineLaw, LineHolds, line_holds, high_is, target_fits, near_far}
use lib.IntN.{negsuc}
use Rattle.jvm_types.specs.declared.index_kind.IndexKind.TheVariants as index_kinds
use Rattle.jvm_types.specs.declared.class_file.Constant.TheVariants as constants
use Rattle.jvm_types.specs.declared.class_file.MemberAttr.TheVariants as member_attrs
use Rattle.asm_text.specs.declared.shapes.Shape.TheVariants as shapes
use Rattle.asm_text.specs.declared.items.MemberKind.TheVariants as kinds

-- ---- operands

in_unsigned : (end n : ℕ) → n < end → is_between (pos 0) (pos end) (pos n) ≡ true
in_unsigned end n h = grind (arith, nat_tests)

-- from the negative number on, and below the other
abbrev pub Within : ℕ → ℕ → ℤ → Type 0
Within low end (pos n) = n < end
Within low end (negsuc n) = n ≤ low

in_signed : (low end : ℕ) (n : ℤ) → Within low end n → is_between (negsuc low) (pos end) n ≡ true
in_signed low end (pos n) h = grind (arith, nat_tests)
in_signed low end (negsuc n) h = grind (arith, nat_tests)

s1_in : (n : ℤ) → FitsSigned w8 n → is_s1 n ≡ true
s1_in n h = in_signed 127 128 n (s1_within n h)
  where
    s1_within : (n : ℤ) → FitsSigned w8 n → Within 127 128 n
    s1_within (pos n) h = omega (arith, ints, h)
    s1_within (negsuc n) h = omega (arith, ints, h)

s2_in : (n : ℤ) → FitsSigned w16 n → is_s2 n ≡ true
s2_in n h = in_signed 32767 32768 n (s2_within n h)
  where
    s2_within : (n : ℤ) → FitsSigned w16 n → Within 32767 32768 n
    s2_within (pos n) h = omega (arith, ints, h)
    s2_within (negsuc n) h = omega (arith, ints, h)

s4_in : (n : ℤ) → FitsSigned w32 n → is_s4 n ≡ true
s4_in n h = in_signed 2147483647 2147483648 n (s4_within n h)
  where
    s4_within : (n : ℤ) → FitsSigned w32 n → Within 2147483647 2147483648 n
    s4_within (pos n) h = omega (arith, ints, h)
    s4_within (negsuc n) h = omega (arith, ints, h)

target_in : (pc to : ℕ) → pc < 65536 → FitsSigned w32 (offset pc to) → is_target (pos to) ≡ true
target_in pc to p h = in_unsigned 4294967296 to (target_fits pc to p h)

targets_in : (pc : ℕ) (targets : List ℕ) → pc < 65536 → AllByRecursion (λ to. FitsSigned w32 (offset pc to)) targets → list_all is_target (map pos targets) ≡ true
targets_in pc [] p h = refl
targets_in pc (to ∷ targets) p h = and_from _ _ (target_in pc to p h.0) (targets_in pc targets p h.1)

pairs_in : (pc : ℕ) (cases : List Case) → pc < 65536 → AllByRecursion (λ c. FitsSigned w32 c.key × FitsSigned w32 (offset pc c.target)) cases → are_pairs (flat_map case_numbers cases) ≡ true
pairs_in pc [] p h = refl
pairs_in pc (c ∷ cases) p h = and_from _ _ (and_from _ _ (s4_in c.key h.0.0) (target_in pc c.target p h.0.1)) (pairs_in pc cases p h.1)

operands_in : (pc b : ℕ) (f : Form) (op : Op) (bytes : List ℕ) → pc < 65536 → LineLaw b f → SpellsOperands pc f op bytes → operands_fit (shape_of f) (insn_operands b op) ≡ true
operands_in pc b (Plain plain) op bytes p law s = ap (λ (o : Op). operands_fit shapes.Plain (insn_operands b o)) s.0 ∙ ap (operands_fit shapes.Plain) law
operands_in pc b (Byte make) op bytes p law s = ap (λ (o : Op). operands_fit shapes.Byte (insn_operands b o)) s.1 ∙ ap (operands_fit shapes.Byte) (law s.0) ∙ in_unsigned 256 s.0 s.3
operands_in pc b (Short make) op bytes p law s = ap (λ (o : Op). operands_fit shapes.Short (insn_operands b o)) s.1 ∙ ap (operands_fit shapes.Short) (law s.0) ∙ in_unsigned 65536 s.0 s.3
operands_in pc b (SignedByte make) op bytes p law s = ap (λ (o : Op). operands_fit shapes.SignedByte (insn_operands b o)) s.1 ∙ ap (operands_fit shapes.SignedByte) (law s.0) ∙ s1_in s.0 s.3
operands_in pc b (SignedShort make) op bytes p law s = ap (λ (o : Op). operands_fit shapes.SignedShort (insn_operands b o)) s.1 ∙ ap (operands_fit shapes.SignedShort) (law s.0) ∙ s2_in s.0 s.3
operands_in pc b (Branch make) op bytes p law s = ap (λ (o : Op). operands_fit shapes.Branch (insn_operands b o)) s.1 ∙ ap (operands_fit shapes.Branch) (law s.0) ∙ target_in pc s.0 p (near_far (offset pc s.0) s.3)
operands_in pc b (WideBranch make) op bytes p law s = ap (λ (o : Op). operands_fit shapes.WideBranch (insn_operands b o)) s.1 ∙ ap (operands_fit shapes.WideBranch) (law s.0) ∙ target_in pc s.0 p s.3
operands_in pc b (LocalAndStep make) op bytes p law s =
    ap (λ (o : Op). operands_fit shapes.LocalAndStep (insn_operands b o)) s.2 ∙ ap (operands_fit shapes.LocalAndStep) (law s.0 s.1) ∙ and_from _ _ (in_unsigned 256 s.0 s.4) (s1_in s.1 s.5)
operands_in pc b (IntArray array) op bytes p law s = ap (λ (o : Op). operands_fit shapes.IntArray (insn_operands b o)) s.0 ∙ ap (operands_fit shapes.IntArray) law
operands_in pc b Table op bytes p law s =
    ap (λ (o : Op). operands_fit shapes.Table (insn_operands b o)) s.is ∙ ap (operands_fit shapes.Table) (law s.otherwise s.low s.targets)
    ∙ and_from _ _ (target_in pc s.otherwise p s.default_fits) (and_from _ _ (and_from _ _ (s4_in s.low s.low_fits) (ap is_s4 (high_is s.low s.high s.targets s.counted) ∙ s4_in s.high s.high_fits)) (targets_in pc s.targets p s.offsets_fit))
operands_in pc b Lookup op bytes p law s =
    ap (λ (o : Op). operands_fit shapes.Lookup (insn_operands b o)) s.is ∙ ap (operands_fit shapes.Lookup) (law s.otherwise s.cases)
    ∙ and_from _ _ (target_in pc s.otherwise p s.default_fits) (pairs_in pc s.cases p s.cases_fit)

insn_in : (pc opcode : ℕ) (op : Op) (operands : List ℕ) (o : Option Form) → pc < 65536 → LineHolds opcode o → IsSomeAnd o (λ f. SpellsOperands pc f op operands) → IsSomeAnd (option_map shape_of o) (λ shape. operands_fit shape (insn_operands opcode op) ≡ true)
insn_in pc opcode op operands None p law s = absurd s
insn_in pc opcode op operands (Some f) p law s = operands_in pc opcode f op operands p law s

-- ---- codes

insns_fit : (whole done rest : List ℕ) (insns : List Insn) → whole ≡ done ++ rest → length whole < 65536 → AllByRecursion IsByte rest → SpellsInsns (length done) insns rest → AllByRecursion ItemFits (map (insn_item whole) insns)
insns_fit whole done rest [] w l b s = tt
insns_fit whole done rest (insn ∷ insns) w l b s = (
  (subst (λ (n : ℕ). n < 2 ^ 8) (sym op_at) byte, subst (λ (n : ℕ). IsSomeAnd (shape_at n) (λ shape. operands_fit shape (insn_operands n insn.op) ≡ true)) (sym op_at) (insn_in (length done) s.5.opcode insn.op s.5.operands (form_of s.5.opcode) short (line_holds s.5.opcode) s.5.spelled)),
  insns_fit whole (done ++ s.0) s.1 insns whole_is l behind (subst (λ (n : ℕ). SpellsInsns n insns s.1) next_is s.6),
)
  where
    whole_is : whole ≡ (done ++ s.0) ++ s.1
    whole_is = w ∙ ap (λ t. done ++ t) s.2 ∙ sym (append_assoc done s.0 s.1)

    next_is : insn.next ≡ length (done ++ s.0)
    next_is = s.4 ∙ sym (length-append done s.0)

    front_is : rest ≡ s.5.opcode ∷ (s.5.operands ++ s.1)
    front_is = s.2 ∙ ap (λ t. t ++ s.1) s.5.is

    op_at : slice_index_or whole insn.pc 0 ≡ s.5.opcode
    op_at = ap (λ (n : ℕ). slice_index_or whole n 0) s.3 ∙ ap (λ (t : List ℕ). slice_index_or t (length done) 0) (w ∙ ap (λ t. done ++ t) front_is) ∙ at_end done s.5.opcode (s.5.operands ++ s.1)

    byte : s.5.opcode < 256
    byte = let h : AllByRecursion IsByte (s.5.opcode ∷ (s.5.operands ++ s.1)) = subst (λ (t : List ℕ). AllByRecursion IsByte t) front_is b in h.0

    short : length done < 65536
    short = omega (arith, l, ap length w, length-append done rest)

    behind : AllByRecursion IsByte s.1
    behind = later s.0 s.1 (subst (λ (t : List ℕ). AllByRecursion IsByte t) s.2 b)
      where
        later : (xs ys : List ℕ) → AllByRecursion IsByte (xs ++ ys) → AllByRecursion IsByte ys
        later [] ys h = h
        later (x ∷ xs) ys h = later xs ys h.1

code_fits : (bytes : List ℕ) → AllByRecursion IsByte bytes → AllByRecursion ItemFits (code_items bytes)
code_fits bytes b = by_test (are_insns bytes) refl
  where
    by_test : (t : Bool) → are_insns bytes ≡ t → AllByRecursion ItemFits (code_items_by t bytes)
    by_test true h = let is = code_read bytes b h in insns_fit bytes [] bytes (insns_of 0 0 bytes) refl (omega (arith, is.short)) b is.spelled
    by_test false h = (b, tt)

-- ---- classes

map_fits : {A : Type 0} (P : A → Type 0) (f : A → Item) → ((x : A) → P x → ItemFits (f x)) → (xs : List A) → AllByRecursion P xs → AllByRecursion ItemFits (map f xs)
map_fits P f g [] h = tt
map_fits P f g (x ∷ xs) h = (g x h.0, map_fits P f g xs h.1)

flat_fits : {A : Type 0} (P : A → Type 0) (f : A → List Item) → ((x : A) → P x → AllByRecursion ItemFits (f x)) → (xs : List A) → AllByRecursion P xs → AllByRecursion ItemFits (flat_map f xs)
flat_fits P f g [] h = tt
flat_fits P f g (x ∷ xs) h = all_append ItemFits (f x) (flat_map f xs) (g x h.0) (flat_fits P f g xs h.1)

text_bytes : (text : List ℕ) → AllByRecursion IsUtf8Byte text → AllByRecursion IsByte text
text_bytes text h = all_weaker IsUtf8Byte IsByte (λ b k. omega (arith, k.1)) text h

constant_fits : (x : Constant) → FieldsFit x → ItemFits (Entry x)
constant_fits constants.Gap h = tt
constant_fits (constants.Utf8 text) h = text_bytes text h.1
constant_fits (constants.Integer n) h = h
constant_fits (constants.Float n) h = h
constant_fits (constants.Long n) h = h
constant_fits (constants.Double n) h = h
constant_fits (constants.Class name) h = h
constant_fits (constants.Text string) h = h
constant_fits (constants.Field class member) h = h
constant_fits (constants.Method class member) h = h
constant_fits (constants.InterfaceMethod class member) h = h
constant_fits (constants.NameAndType name descriptor) h = h

attr_fits : (pool : List Constant) (a : Attr) → IsAttr pool a → ItemFits (Attribute a)
attr_fits pool a h = (h.name.number, h.bytes)

row_fits : (pool : List Constant) (r : Handler) → IsHandler pool r → ItemFits (Row r)
row_fits pool r h = (h.start, h.end, h.handler, h.catch_type.number)

code_attr_fits : (pool : List Constant) (k : Code) → IsCodeAttr pool k → AllByRecursion ItemFits (code_attr_items k)
code_attr_fits pool k h = (
  (h.name.number, h.max_stack, h.max_locals),
  all_append ItemFits _ _ (code_fits k.bytes h.bytes) (all_append ItemFits _ _ (map_fits (IsHandler pool) Row (row_fits pool) k.rows h.rows.each) (all_append ItemFits _ _ (map_fits (IsAttr pool) Attribute (attr_fits pool) k.attrs h.attrs.each) (tt, tt))),
)

field_attr_fits : (pool : List Constant) (a : MemberAttr) → IsFieldAttr pool a → AllByRecursion ItemFits (member_attr_items a)
field_attr_fits pool (member_attrs.Code k) h = absurd h
field_attr_fits pool (member_attrs.ConstantValue name constant) h = ((h.0.number, h.1.number), tt)
field_attr_fits pool (member_attrs.Other a) h = (attr_fits pool a h.0, tt)

method_attr_fits : (pool : List Constant) (a : MemberAttr) → IsMethodAttr pool a → AllByRecursion ItemFits (member_attr_items a)
method_attr_fits pool (member_attrs.Code k) h = code_attr_fits pool k h
method_attr_fits pool (member_attrs.ConstantValue name constant) h = absurd h
method_attr_fits pool (member_attrs.Other a) h = (attr_fits pool a h.0, tt)

field_fits : (pool : List Constant) (m : Member) → IsField pool m → AllByRecursion ItemFits (member_items kinds.Field m)
field_fits pool m h = ((h.flags, h.name.number, h.descriptor.number), all_append ItemFits _ _ (flat_fits (IsFieldAttr pool) member_attr_items (field_attr_fits pool) m.attrs h.attrs.each) (tt, tt))

method_fits : (pool : List Constant) (m : Member) → IsMethod pool m → AllByRecursion ItemFits (member_items kinds.Method m)
method_fits pool m h = ((h.member.flags, h.member.name.number, h.member.descriptor.number), all_append ItemFits _ _ (flat_fits (IsMethodAttr pool) member_attr_items (method_attr_fits pool) m.attrs h.member.attrs.each) (tt, tt))

entries : (cs : List Constant) → AllByRecursion FieldsFit cs → AllByRecursion FieldsFit (drop 1 cs)
entries [] h = tt
entries (x ∷ cs) h = h.1

pub class_fits : (c : ClassFile) → IsClass c → AllByRecursion ItemFits (class_items c)
class_fits c is = (
  (is.minor, omega (arith, is.to_50), is.flags, is.this_class.number, is.super_class.number),
  all_append ItemFits _ _ (map_fits FieldsFit Entry constant_fits (drop 1 c.constants) (entries c.constants is.pool.fields))
      (all_append ItemFits _ _ (map_fits (IsIndex index_kinds.Class c.constants) Interface (λ i h. h.number) c.interfaces is.interfaces.each)
      (all_append ItemFits _ _ (flat_fits (IsField c.constants) (member_items kinds.Field) (field_fits c.constants) c.fields is.fields.each)
      (all_append ItemFits _ _ (flat_fits (IsMethod c.constants) (member_items kinds.Method) (method_fits c.constants) c.methods is.methods.each)
      (map_fits (IsAttr c.constants) Attribute (attr_fits c.constants) c.attrs is.attrs.each)))),
)
