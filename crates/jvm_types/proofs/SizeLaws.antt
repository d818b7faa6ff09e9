-- A program has no more instructions than its files have bytes.
use Rattle.std.{proofs.Common.{◌≡◌, ℕ, suc, ◌+◌, ◌*◌, ◌≤◌, List, [], ◌∷◌, ◌++◌, length, refl, sym, ap, ◌∙◌, length-append, arith}, specs.List.{AllByRecursion, AllZip, flat_map, sum_by, zip}}
use Rattle.std.proofs.lemmas.List.Sums.{sum_by-append}
use Rattle.jvm_types.specs.{ClassGrammar.IsClass, CodeGrammar.SpellsInsns, Linkable.IsDecoded, Linked.{code_of, linked_method, linked_methods}}
use Rattle.jvm_types.specs.{Members.{Declared, declared_from, declared_by, declared_methods}, Numbers.{u2, u4}, Spelling.{counted, constant, handler, attr, code_body, member_attr, member, class_file}}
use Rattle.jvm_types.specs.{Targets.Scope, declared.{class_file.{ClassFile.ClassFile, Code.Code, Constant.Constant, Member.{Member as ClassMember}, MemberAttr.MemberAttr}, code.Insn.Insn}}
use Rattle.jvm_types.{specs.declared.program.MethodInfo.MethodInfo, proofs.EachAfter.sum_first}
use Rattle.jvm_types.specs.declared.class_file.MemberAttr.TheVariants as member_attrs

-- ---- parts of lists

front_within : {X : Type 0} (xs ys : List X) (n : ℕ) → n ≤ length xs → n ≤ length (xs ++ ys)
front_within xs ys n h = let e = length-append xs ys in omega (arith, e, h)

back_within : {X : Type 0} (xs ys : List X) (n : ℕ) → n ≤ length ys → n ≤ length (xs ++ ys)
back_within xs ys n h = let e = length-append xs ys in omega (arith, e, h)

-- ---- one method

pub insns_within : (pc : ℕ) (insns : List Insn) (bytes : List ℕ) → SpellsInsns pc insns bytes → length insns ≤ length bytes
insns_within pc [] bytes h = omega arith
insns_within pc (insn ∷ insns) bytes (front, rest, e, at, next, op, more) =
    let whole : length bytes ≡ length front + length rest = ap length e ∙ length-append front rest in
    let some : length front ≡ suc (length op.operands) = ap length op.is in
    let tail : length insns ≤ length rest = insns_within insn.next insns rest more in
    omega (arith, whole, some, tail)

body_within : (c : Code) → length c.bytes ≤ length (code_body c)
body_within c =
    let head : List ℕ = u2 c.max_stack ++ u2 c.max_locals ++ u4 (length c.bytes) in
    front_within (head ++ c.bytes ++ counted handler c.rows) (counted attr c.attrs) (length c.bytes)
    (front_within (head ++ c.bytes) (counted handler c.rows) (length c.bytes) (back_within head c.bytes (length c.bytes) (omega arith)))

code_within : (attrs : List MemberAttr) → length (code_of attrs).bytes ≤ length (flat_map member_attr attrs)
code_within [] = omega arith
code_within (member_attrs.Code c ∷ attrs) = front_within (member_attr (member_attrs.Code c)) (flat_map member_attr attrs) (length c.bytes) (back_within (u2 c.name ++ u4 (length (code_body c))) (code_body c) (length c.bytes) (body_within c))
code_within (member_attrs.ConstantValue name value ∷ attrs) = back_within (member_attr (member_attrs.ConstantValue name value)) (flat_map member_attr attrs) (length (code_of attrs).bytes) (code_within attrs)
code_within (member_attrs.Other a ∷ attrs) = back_within (member_attr (member_attrs.Other a)) (flat_map member_attr attrs) (length (code_of attrs).bytes) (code_within attrs)

abbrev code_size : ClassMember → ℕ
code_size m = length (code_of m.attrs).bytes

member_within : (m : ClassMember) → code_size m ≤ length (member m)
member_within m = back_within (u2 m.flags ++ u2 m.name ++ u2 m.descriptor) (counted member_attr m.attrs) (code_size m) (back_within (u2 (length m.attrs)) (flat_map member_attr m.attrs) (code_size m) (code_within m.attrs))

-- ---- one class, and all

members_within : (ms : List ClassMember) → sum_by code_size ms ≤ length (flat_map member ms)
members_within [] = omega arith
members_within (m ∷ ms) =
    let first : sum_by code_size (m ∷ ms) ≡ code_size m + sum_by code_size ms = sum_first code_size m ms in
    let whole : length (flat_map member (m ∷ ms)) ≡ length (member m) + length (flat_map member ms) = length-append (member m) (flat_map member ms) in
    let here : code_size m ≤ length (member m) = member_within m in
    let rest : sum_by code_size ms ≤ length (flat_map member ms) = members_within ms in
    omega (arith, first, whole, here, rest)

class_within : (c : ClassFile) → sum_by code_size c.methods ≤ length (class_file c)
class_within c =
    let head : List ℕ = u4 3405691582 ++ u2 c.minor ++ u2 c.major ++ counted constant c.constants
    ++ u2 c.flags ++ u2 c.this_class ++ u2 c.super_class ++ counted u2 c.interfaces ++ counted member c.fields in
    front_within (head ++ counted member c.methods) (counted attr c.attrs) (sum_by code_size c.methods)
    (back_within head (counted member c.methods) (sum_by code_size c.methods) (back_within (u2 (length c.methods)) (flat_map member c.methods) (sum_by code_size c.methods) (members_within c.methods)))

abbrev declared_size : Declared → ℕ
declared_size d = code_size d.member

declared_sum : (file : ℕ) (pool : List Constant) (number : ℕ) (ms : List ClassMember) → sum_by declared_size (declared_from file pool number ms) ≡ sum_by code_size ms
declared_sum file pool number [] = refl
declared_sum file pool number (m ∷ ms) =
    sum_first declared_size (record { file = file; place = number; pool = pool; member = m }) (declared_from file pool (number + 1) ms)
    ∙ ap (λ n. code_size m + n) (declared_sum file pool (number + 1) ms) ∙ sym (sum_first code_size m ms)

files_within : (file : ℕ) (cs : List ClassFile) → AllByRecursion IsClass cs → sum_by declared_size (declared_by (λ c. c.methods) file cs) ≤ length cs * 1048576
files_within file [] h = omega arith
files_within file (c ∷ cs) h =
    let own : List Declared = declared_from file c.constants 0 c.methods in
    let whole : sum_by declared_size (declared_by (λ c. c.methods) file (c ∷ cs)) ≡ sum_by declared_size own + sum_by declared_size (declared_by (λ c. c.methods) (file + 1) cs) = sum_by-append declared_size own (declared_by (λ c. c.methods) (file + 1) cs) in
    let same : sum_by declared_size own ≡ sum_by code_size c.methods = declared_sum file c.constants 0 c.methods in
    let here : sum_by code_size c.methods ≤ length (class_file c) = class_within c in
    let short : length (class_file c) ≤ 1048576 = h.0.short in
    let rest : sum_by declared_size (declared_by (λ c. c.methods) (file + 1) cs) ≤ length cs * 1048576 = files_within (file + 1) cs h.1 in
    omega (arith, whole, same, here, short, rest)

abbrev pub insn_count : MethodInfo → ℕ
insn_count m = length m.code

methods_within : (s : Scope) (ds : List Declared) (code : List (List Insn)) → AllZip IsDecoded ds code → sum_by insn_count (linked_methods s (zip ds code)) ≤ sum_by declared_size ds
methods_within s [] [] h = omega arith
methods_within s [] (i ∷ code) h = absurd h
methods_within s (d ∷ ds) [] h = absurd h
methods_within s (d ∷ ds) (i ∷ code) h =
    let first : sum_by insn_count (linked_methods s (zip (d ∷ ds) (i ∷ code))) ≡ length i + sum_by insn_count (linked_methods s (zip ds code)) = sum_first insn_count (linked_method s d i) (linked_methods s (zip ds code)) in
    let size : sum_by declared_size (d ∷ ds) ≡ declared_size d + sum_by declared_size ds = sum_first declared_size d ds in
    let here : length i ≤ declared_size d = insns_within 0 i (code_of d.member.attrs).bytes h.0.spelled in
    let rest : sum_by insn_count (linked_methods s (zip ds code)) ≤ sum_by declared_size ds = methods_within s ds code h.1 in
    omega (arith, first, size, here, rest)

-- the instructions of all methods are no more than the bytes of the files may be
pub program_within : (s : Scope) (files : List ClassFile) (code : List (List Insn)) → AllByRecursion IsClass files → AllZip IsDecoded (declared_methods files) code
    → sum_by insn_count (linked_methods s (zip (declared_methods files) code)) ≤ length files * 1048576
program_within s files code h k =
    let methods = methods_within s (declared_methods files) code k in
    let bytes = files_within 0 files h in
    omega (arith, methods, bytes)
