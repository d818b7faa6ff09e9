-- The line that says something is read as that, and as nothing else.
use Rattle.std.proofs.Common.{◌≡◌, ℕ, zero, suc, ◌%◌, ◌^◌, ◌<◌, ◌≤◌, ℤ, pos, Bool, true, false, List, [], ◌∷◌, ◌++◌, map, Option, Some, None, refl, sym, ap, subst, ◌∙◌, arith, ◌==◌, ◌&&◌, ◌||◌, ◌-ℤ◌, nat_lt, not, if◌then◌else◌, is_some, IsSomeAnd, FitsSigned, bytes_eq}
use Rattle.std.{specs.{Int.w32, List.{AllByRecursion, list_all}}, proofs.lemmas.{Bool.{ltb-true, and_parts, and_from, Decides.nat_tests}, Int.ints, Slice.Eq.bytes_eq-Decides}}
use Rattle.jvm_types.specs.{ClassGrammar.IsByte, declared.class_file.Constant.Constant}
use Rattle.mnemonics.{specs.Mnemonics.{mnemonic, opcode_of}, proofs.OpcodeLaws.{opcode_back, opcode_fits, mnemonic_back}}
use Rattle.asm_text.specs.{CodeLines.name_or_empty, Items.{item_line, ItemFits, ConstantFits}, LineNames.line_name_of, Lines.{Signed, Line, value_text, values_text, line_text}}
use Rattle.asm_text.specs.Operands.{is_between, is_target, is_s4, are_pairs, bounds_fit, operands_fit, shape_at}
use Rattle.asm_text.specs.Reading.{item_in, item_by, rough_item, insn_fits, shape_fits, named_item, IsLineRead}
use Rattle.asm_text.specs.{Words.{words, word_at, read_on, unsigned, small, signed, u2_word, u4_word, u8_word, hex_word, operand_words}, declared.{items.Item.Item, line_names.LineName.LineName}}
use Rattle.asm_text.{specs.declared.shapes.Shape.Shape, proofs.{CodeBuildLaws.no_fault, EncodeLaws.same_number}}
use Rattle.asm_text.proofs.WordLaws.{unsigned_back, u2_back, u4_back, IsSigned, signed_back, hex_back, hex_fits, small_fits, are_plain, IsWritten, words_back, HasNoNewline, no_newline}
use lib.IntN.{negsuc}
use Rattle.jvm_types.specs.declared.class_file.Constant.TheVariants as constants
use Rattle.asm_text.specs.declared.items.MemberKind.TheVariants as kinds
use Rattle.asm_text.specs.declared.items.Item.TheVariants as items
use Rattle.asm_text.specs.declared.line_names.LineName.TheVariants as names
use Rattle.asm_text.specs.declared.shapes.Shape.TheVariants as shapes

-- ---- operands

not_below : (m n : ℕ) → not (nat_lt m n) ≡ true → n ≤ m
not_below m n h = grind (arith, nat_tests)

from_zero : (end : ℕ) (n : ℤ) → end ≤ 4294967296 → is_between (pos 0) (pos end) n ≡ true → IsSigned 4294967296 n
from_zero end (pos n) few h = let k = ltb-true n end (and_parts _ _ h).1 in omega arith
from_zero end (negsuc n) few h = absurd (cc)

from_low : (low end : ℕ) (n : ℤ) → low < 2147483648 → end ≤ 4294967296 → is_between (negsuc low) (pos end) n ≡ true → IsSigned 4294967296 n
from_low low end (pos n) less few h = let k = ltb-true n end (and_parts true (nat_lt n end) h).1 in omega arith
from_low low end (negsuc n) less few h = let k = not_below low n (and_parts (not (nat_lt low n)) true h).0 in omega arith

targets_in : (tos : List ℤ) → list_all is_target tos ≡ true → AllByRecursion (IsSigned 4294967296) tos
targets_in [] h = tt
targets_in (to ∷ tos) h = let p = and_parts _ _ h in (from_zero 4294967296 to (omega arith) p.0, targets_in tos p.1)

pairs_in : (pairs : List ℤ) → are_pairs pairs ≡ true → AllByRecursion (IsSigned 4294967296) pairs
pairs_in [] h = tt
pairs_in (key ∷ []) h = absurd (cc)
pairs_in (key ∷ to ∷ pairs) h =
    let p = and_parts (is_s4 key && is_target to) (are_pairs pairs) h in
    let q = and_parts (is_s4 key) (is_target to) p.0 in
    (from_low 2147483647 2147483648 key (omega arith) (omega arith) q.0, (from_zero 4294967296 to (omega arith) q.1, pairs_in pairs p.1))

bounds_in : (bounds : List ℤ) → bounds_fit bounds ≡ true → AllByRecursion (IsSigned 4294967296) bounds
bounds_in [] h = absurd (cc)
bounds_in (low ∷ []) h = absurd (cc)
bounds_in (low ∷ high ∷ tos) h =
    let p = and_parts (is_s4 low && is_s4 high) (list_all is_target tos) h in
    let q = and_parts (is_s4 low) (is_s4 high) p.0 in
    (from_low 2147483647 2147483648 low (omega arith) (omega arith) q.0, (from_low 2147483647 2147483648 high (omega arith) (omega arith) q.1, targets_in tos p.1))

-- operands in their fields have at most 32 bits
operands_in : (s : Shape) (ns : List ℤ) → operands_fit s ns ≡ true → AllByRecursion (IsSigned 4294967296) ns
operands_in shapes.Plain [] h = tt
operands_in shapes.Byte (n ∷ []) h = (from_zero 256 n (omega arith) h, tt)
operands_in shapes.Short (n ∷ []) h = (from_zero 65536 n (omega arith) h, tt)
operands_in shapes.SignedByte (n ∷ []) h = (from_low 127 128 n (omega arith) (omega arith) h, tt)
operands_in shapes.SignedShort (n ∷ []) h = (from_low 32767 32768 n (omega arith) (omega arith) h, tt)
operands_in shapes.Branch (n ∷ []) h = (from_zero 4294967296 n (omega arith) h, tt)
operands_in shapes.WideBranch (n ∷ []) h = (from_zero 4294967296 n (omega arith) h, tt)
operands_in shapes.LocalAndStep (m ∷ n ∷ []) h = let p = and_parts _ _ h in (from_zero 256 m (omega arith) p.0, (from_low 127 128 n (omega arith) (omega arith) p.1, tt))
operands_in shapes.IntArray (n ∷ []) h = (from_zero 256 n (omega arith) h, tt)
operands_in shapes.Table (otherwise ∷ bounds) h = let p = and_parts (is_target otherwise) (bounds_fit bounds) h in (from_zero 4294967296 otherwise (omega arith) p.0, bounds_in bounds p.1)
operands_in shapes.Lookup (otherwise ∷ pairs) h = let p = and_parts (is_target otherwise) (are_pairs pairs) h in (from_zero 4294967296 otherwise (omega arith) p.0, pairs_in pairs p.1)
operands_in s ns h = absurd (cc)

operands_written : (ns : List ℤ) → AllByRecursion (IsSigned 4294967296) ns → AllByRecursion IsWritten (map Signed ns)
operands_written [] h = tt
operands_written (pos n ∷ ns) h = (omega (arith, h.0), operands_written ns h.1)
operands_written (negsuc n ∷ ns) h = (omega (arith, h.0), operands_written ns h.1)

operands_back : (ns : List ℤ) → AllByRecursion (IsSigned 4294967296) ns → map (signed 4294967296) (map value_text (map Signed ns)) ≡ ns
operands_back [] h = refl
operands_back (n ∷ ns) h = λ i. signed_back 4294967296 n (omega arith) h.0 i ∷ operands_back ns h.1 i

-- ---- mnemonics

abbrev pub is_insn_name : Option (List ℕ) → Bool
is_insn_name None = false
is_insn_name (Some name) = are_plain name && not (is_some (line_name_of name))

-- an instruction of this machine has a mnemonic, which is the name of no other line
abbrev pub is_named : ℕ → Bool
is_named opcode = not (is_some (shape_at opcode)) || is_insn_name (mnemonic opcode)

abbrev pub are_named : ℕ → Bool
are_named zero = true
are_named (suc n) = is_named n && are_named n

all_named : are_named 256 ≡ true
unfolding mnemonic
all_named = refl

less : (a b : ℕ) → (a == b) ≡ false → a < suc b → a < b
less a b t l = grind (arith, nat_tests)

named_below : (n opcode : ℕ) → are_named n ≡ true → opcode < n → is_named opcode ≡ true
named_below zero opcode h l = absurd (omega arith)
named_below (suc n) opcode h l = by_place (λ k. named_below n opcode (and_parts (is_named n) (are_named n) h).1 k) (opcode == n) refl
  where
    by_place : (opcode < n → is_named opcode ≡ true) → (t : Bool) → (opcode == n) ≡ t → is_named opcode ≡ true
    by_place more true t = subst (λ (x : ℕ). is_named x ≡ true) (same_number opcode n t) (and_parts (is_named n) (are_named n) h).0
    by_place more false t = more (less opcode n t l)

pub record IsInsnName (opcode : ℕ) : Type 0 where
  pub name : List ℕ
  pub is : mnemonic opcode ≡ Some name
  pub plain : are_plain name ≡ true
  pub own : line_name_of name ≡ None

insn_name : (opcode : ℕ) (P : Shape → Type 0) → opcode < 256 → IsSomeAnd (shape_at opcode) P → IsInsnName opcode
insn_name opcode P l h = at (shape_at opcode) (mnemonic opcode) refl h (named_below 256 opcode all_named l)
  where
    at : (s : Option Shape) (m : Option (List ℕ)) → mnemonic opcode ≡ m → IsSomeAnd s P → (not (is_some s) || is_insn_name m) ≡ true → IsInsnName opcode
    at None m e h k = absurd h
    at (Some s) None e h k = absurd (cc)
    at (Some s) (Some name) e h k = let p = and_parts (are_plain name) _ k in record { name = name; is = e; plain = p.0; own = no_fault _ p.1 }

operands_of : (o : Option Shape) (ns : List ℤ) → IsSomeAnd o (λ s. operands_fit s ns ≡ true) → AllByRecursion (IsSigned 4294967296) ns
operands_of None ns h = absurd h
operands_of (Some s) ns h = operands_in s ns h

-- ---- lines

abbrev pub line_body : Item → List ℕ
line_body item = (item_line item).name ++ values_text (item_line item).values

-- a name and values without spaces and newlines
pub record IsPlain (l : Line) : Type 0 where
  pub name : are_plain l.name ≡ true
  pub values : AllByRecursion IsWritten l.values

constant_plain : (c : Constant) → ConstantFits c → IsPlain (item_line (items.Entry c))
constant_plain constants.Gap f = record { name = refl; values = tt }
constant_plain (constants.Utf8 text) f = record { name = refl; values = (tt, tt) }
constant_plain (constants.Integer n) f = record { name = refl; values = (signed_written n f, tt) }
  where
    signed_written : (n : ℤ) → FitsSigned w32 n → IsWritten (Signed n)
    signed_written (pos n) f = omega (arith, ints, f)
    signed_written (negsuc n) f = omega (arith, ints, f)
constant_plain (constants.Float n) f = record { name = refl; values = (omega (arith, f), tt) }
constant_plain (constants.Long n) f = record { name = refl; values = (f, tt) }
constant_plain (constants.Double n) f = record { name = refl; values = (f, tt) }
constant_plain (constants.Class name) f = record { name = refl; values = (omega (arith, f), tt) }
constant_plain (constants.Text string) f = record { name = refl; values = (omega (arith, f), tt) }
constant_plain (constants.Field class member) f = record { name = refl; values = (omega (arith, f.0), (omega (arith, f.1), tt)) }
constant_plain (constants.Method class member) f = record { name = refl; values = (omega (arith, f.0), (omega (arith, f.1), tt)) }
constant_plain (constants.InterfaceMethod class member) f = record { name = refl; values = (omega (arith, f.0), (omega (arith, f.1), tt)) }
constant_plain (constants.NameAndType name descriptor) f = record { name = refl; values = (omega (arith, f.0), (omega (arith, f.1), tt)) }

insn_plain : (opcode : ℕ) (ns : List ℤ) → IsInsnName opcode → AllByRecursion (IsSigned 4294967296) ns → IsPlain (item_line (items.Instruction opcode ns))
insn_plain opcode ns n h = record { name = rw n.is n.plain; values = operands_written ns h }

item_plain : (item : Item) → ItemFits item → IsPlain (item_line item)
item_plain (items.FileHead a b c d e) f = record { name = refl; values = (omega (arith, f.0), (omega (arith, f.1), (omega (arith, f.2), (omega (arith, f.3), (omega (arith, f.4), tt))))) }
item_plain (items.Entry c) f = constant_plain c f
item_plain (items.Interface class) f = record { name = refl; values = (omega (arith, f), tt) }
item_plain (items.MemberHead kinds.Field a b c) f = record { name = refl; values = (omega (arith, f.0), (omega (arith, f.1), (omega (arith, f.2), tt))) }
item_plain (items.MemberHead kinds.Method a b c) f = record { name = refl; values = (omega (arith, f.0), (omega (arith, f.1), (omega (arith, f.2), tt))) }
item_plain (items.Attribute a) f = record { name = refl; values = (omega (arith, f.0), (tt, tt)) }
item_plain (items.InitialValue name constant) f = record { name = refl; values = (omega (arith, f.0), (omega (arith, f.1), tt)) }
item_plain (items.CodeHead a b c) f = record { name = refl; values = (omega (arith, f.0), (omega (arith, f.1), (omega (arith, f.2), tt))) }
item_plain (items.CodeBytes bytes) f = record { name = refl; values = (tt, tt) }
item_plain (items.Instruction opcode ns) f = insn_plain opcode ns (insn_name opcode _ f.0 f.1) (operands_of (shape_at opcode) ns f.1)
item_plain (items.Row h) f = record { name = refl; values = (omega (arith, f.0), (omega (arith, f.1), (omega (arith, f.2), (omega (arith, f.3), tt)))) }
item_plain items.End f = record { name = refl; values = tt }

-- ---- reading

constant_back : (c : Constant) → ConstantFits c → item_in ((item_line (items.Entry c)).name ∷ map value_text (item_line (items.Entry c)).values) ≡ items.Entry c
constant_back constants.Gap f = refl
constant_back (constants.Utf8 text) f = λ i. items.Entry (constants.Utf8 (hex_back text f i))
constant_back (constants.Integer n) f = λ i. items.Entry (constants.Integer (signed_back 2147483648 n (omega arith) (is_signed n f) i))
  where
    is_signed : (n : ℤ) → FitsSigned w32 n → IsSigned 2147483648 n
    is_signed (pos n) f = omega (arith, ints, f)
    is_signed (negsuc n) f = omega (arith, ints, f)
constant_back (constants.Float n) f = λ i. items.Entry (constants.Float (u4_back n f i))
constant_back (constants.Long n) f = λ i. items.Entry (constants.Long (unsigned_back n f i))
constant_back (constants.Double n) f = λ i. items.Entry (constants.Double (unsigned_back n f i))
constant_back (constants.Class name) f = λ i. items.Entry (constants.Class (u2_back name f i))
constant_back (constants.Text string) f = λ i. items.Entry (constants.Text (u2_back string f i))
constant_back (constants.Field class member) f = λ i. items.Entry (constants.Field (u2_back class f.0 i) (u2_back member f.1 i))
constant_back (constants.Method class member) f = λ i. items.Entry (constants.Method (u2_back class f.0 i) (u2_back member f.1 i))
constant_back (constants.InterfaceMethod class member) f = λ i. items.Entry (constants.InterfaceMethod (u2_back class f.0 i) (u2_back member f.1 i))
constant_back (constants.NameAndType name descriptor) f = λ i. items.Entry (constants.NameAndType (u2_back name f.0 i) (u2_back descriptor f.1 i))

insn_back : (opcode : ℕ) (ns : List ℤ) → IsInsnName opcode → AllByRecursion (IsSigned 4294967296) ns
    → item_in ((item_line (items.Instruction opcode ns)).name ∷ map value_text (item_line (items.Instruction opcode ns)).values) ≡ items.Instruction opcode ns
insn_back opcode ns n h =
    ap (λ (x : Option (List ℕ)). item_in (name_or_empty x ∷ map value_text (map Signed ns))) n.is
    ∙ ap (λ (x : Option LineName). item_by x (opcode_of n.name) (n.name ∷ map value_text (map Signed ns))) n.own
    ∙ ap (λ (x : Option ℕ). item_by None x (n.name ∷ map value_text (map Signed ns))) (opcode_back opcode n.name n.is)
    ∙ ap (items.Instruction opcode) (operands_back ns h)

item_back : (item : Item) → ItemFits item → item_in ((item_line item).name ∷ map value_text (item_line item).values) ≡ item
item_back (items.FileHead a b c d e) f = λ i. items.FileHead (u2_back a f.0 i) (u2_back b f.1 i) (u2_back c f.2 i) (u2_back d f.3 i) (u2_back e f.4 i)
item_back (items.Entry c) f = constant_back c f
item_back (items.Interface class) f = λ i. items.Interface (u2_back class f i)
item_back (items.MemberHead kinds.Field a b c) f = λ i. items.MemberHead kinds.Field (u2_back a f.0 i) (u2_back b f.1 i) (u2_back c f.2 i)
item_back (items.MemberHead kinds.Method a b c) f = λ i. items.MemberHead kinds.Method (u2_back a f.0 i) (u2_back b f.1 i) (u2_back c f.2 i)
item_back (items.Attribute a) f = λ i. items.Attribute (record { name = u2_back a.name f.0 i; body = hex_back a.body f.1 i })
item_back (items.InitialValue name constant) f = λ i. items.InitialValue (u2_back name f.0 i) (u2_back constant f.1 i)
item_back (items.CodeHead a b c) f = λ i. items.CodeHead (u2_back a f.0 i) (u2_back b f.1 i) (u2_back c f.2 i)
item_back (items.CodeBytes bytes) f = λ i. items.CodeBytes (hex_back bytes f i)
item_back (items.Instruction opcode ns) f = insn_back opcode ns (insn_name opcode _ f.0 f.1) (operands_of (shape_at opcode) ns f.1)
item_back (items.Row h) f = λ i. items.Row (record { start = u2_back h.start f.0 i; «end» = u2_back h.end f.1 i; handler = u2_back h.handler f.2 i; catch_type = u2_back h.catch_type f.3 i })
item_back items.End f = refl

-- the line of an item is read as it
pub read_back : (item : Item) → ItemFits item → rough_item (line_body item) ≡ item
read_back item f = let p = item_plain item f in ap item_in (words_back (item_line item).name (item_line item).values p.name p.values) ∙ item_back item f

-- a line with its newline, and without it
pub whole_line : (item : Item) → line_text (item_line item) ≡ line_body item ++ 10 ∷ []
whole_line item = refl

pub body_has_no_newline : (item : Item) → ItemFits item → HasNoNewline (line_body item)
body_has_no_newline item f = let p = item_plain item f in no_newline (item_line item).name (item_line item).values p.name p.values

-- ---- fields

pub fits_insn : (item : Item) → ItemFits item → insn_fits item ≡ true
fits_insn (items.Instruction opcode ns) f = at (shape_at opcode) f.1
  where
    at : (o : Option Shape) → IsSomeAnd o (λ s. operands_fit s ns ≡ true) → shape_fits o ns ≡ true
    at None h = absurd h
    at (Some s) h = h
fits_insn item f = refl

u2_at : (ws : List (List ℕ)) (i : ℕ) → u2_word ws i < 2 ^ 16
u2_at ws i = small_fits 65536 (unsigned (word_at ws i)) (omega arith)

u4_at : (ws : List (List ℕ)) (i : ℕ) → u4_word ws i < 2 ^ 32
u4_at ws i = small_fits 4294967296 (unsigned (word_at ws i)) (omega arith)

u8_at : (ws : List (List ℕ)) (i : ℕ) → u8_word ws i < 2 ^ 64
u8_at ws i = in_64 (read_on 0 (word_at ws i))
  where
    in_64 : (n : ℕ) → n % 2 ^ 64 < 2 ^ 64
    in_64 n = omega arith

hex_at : (ws : List (List ℕ)) (i : ℕ) → AllByRecursion IsByte (hex_word ws i)
hex_at ws i = hex_fits (word_at ws i)

negative_fits : (n : ℕ) → n < 2147483649 → FitsSigned w32 (pos 0 -ℤ pos n)
negative_fits n h = omega (arith, ints)

positive_fits : (n : ℕ) → n < 2147483648 → FitsSigned w32 (pos n)
positive_fits n h = omega (arith, ints)

signed_fits : (word : List ℕ) → FitsSigned w32 (signed 2147483648 word)
signed_fits [] = positive_fits 0 (omega arith)
signed_fits (c ∷ cs) = by_test (c == 45)
  where
    by_test : (t : Bool) → FitsSigned w32 (if t then pos 0 -ℤ pos (small 2147483649 (unsigned cs)) else pos (small 2147483648 (unsigned (c ∷ cs))))
    by_test true = negative_fits _ (small_fits 2147483649 (unsigned cs) (omega arith))
    by_test false = positive_fits _ (small_fits 2147483648 (unsigned (c ∷ cs)) (omega arith))

named_fits : (name : LineName) (ws : List (List ℕ)) → ItemFits (named_item name ws)
named_fits names.File ws = (u2_at ws 1, u2_at ws 2, u2_at ws 3, u2_at ws 4, u2_at ws 5)
named_fits names.Utf8 ws = hex_at ws 1
named_fits names.Integer ws = signed_fits (word_at ws 1)
named_fits names.Float ws = u4_at ws 1
named_fits names.Long ws = u8_at ws 1
named_fits names.Double ws = u8_at ws 1
named_fits names.Gap ws = tt
named_fits names.Class ws = u2_at ws 1
named_fits names.Text ws = u2_at ws 1
named_fits names.Field ws = (u2_at ws 1, u2_at ws 2)
named_fits names.Method ws = (u2_at ws 1, u2_at ws 2)
named_fits names.InterfaceMethod ws = (u2_at ws 1, u2_at ws 2)
named_fits names.NameAndType ws = (u2_at ws 1, u2_at ws 2)
named_fits names.Interface ws = u2_at ws 1
named_fits names.FieldHead ws = (u2_at ws 1, u2_at ws 2, u2_at ws 3)
named_fits names.MethodHead ws = (u2_at ws 1, u2_at ws 2, u2_at ws 3)
named_fits names.Attribute ws = (u2_at ws 1, hex_at ws 2)
named_fits names.InitialValue ws = (u2_at ws 1, u2_at ws 2)
named_fits names.Code ws = (u2_at ws 1, u2_at ws 2, u2_at ws 3)
named_fits names.CodeBytes ws = hex_at ws 1
named_fits names.Row ws = (u2_at ws 1, u2_at ws 2, u2_at ws 3, u2_at ws 4)
named_fits names.End ws = tt

-- what was read has its numbers in their fields
pub read_fits : (ws : List (List ℕ)) → insn_fits (item_in ws) ≡ true → ItemFits (item_in ws)
read_fits ws h = at (line_name_of (word_at ws 0)) (opcode_of (word_at ws 0)) refl h
  where
    shape_is : (o : Option Shape) (ns : List ℤ) → shape_fits o ns ≡ true → IsSomeAnd o (λ s. operands_fit s ns ≡ true)
    shape_is None ns h = absurd (cc)
    shape_is (Some s) ns h = h

    at : (name : Option LineName) (opcode : Option ℕ) → opcode_of (word_at ws 0) ≡ opcode → insn_fits (item_by name opcode ws) ≡ true → ItemFits (item_by name opcode ws)
    at (Some name) opcode e h = named_fits name ws
    at None (Some opcode) e h = (opcode_fits opcode (word_at ws 0) (mnemonic_back opcode (word_at ws 0) e), shape_is (shape_at opcode) (operand_words ws) h)
    at None None e h = tt

same_end : (c : ℕ) (xs ys : List ℕ) → xs ++ c ∷ [] ≡ ys ++ c ∷ [] → xs ≡ ys
same_end c [] [] e = refl
same_end c [] (y ∷ []) e = absurd (cc)
same_end c [] (y ∷ z ∷ ys) e = absurd (cc)
same_end c (x ∷ []) [] e = absurd (cc)
same_end c (x ∷ z ∷ xs) [] e = absurd (cc)
same_end c (x ∷ xs) (y ∷ ys) e = let h = same_end c xs ys (cc) in cc

-- the one item that a line can say is the one that is read
pub only_item : (line : List ℕ) (item : Item) → ItemFits item → line ++ 10 ∷ [] ≡ line_text (item_line item) → rough_item line ≡ item
only_item line item f e = ap rough_item (same_end 10 line (line_body item) e) ∙ read_back item f

-- what the answers of reading a line mean
pub read_some : (line whole : List ℕ) (item : Item) → item ≡ rough_item line → (insn_fits item && bytes_eq (line_text (item_line item)) whole) ≡ true → IsLineRead whole (Some item)
read_some line whole item e h =
    let p = and_parts (insn_fits item) (bytes_eq (line_text (item_line item)) whole) h in
    (subst (λ (x : Item). ItemFits x) (sym e) (read_fits (words line) (subst (λ (x : Item). insn_fits x ≡ true) e p.0)), sym ((bytes_eq-Decides (line_text (item_line item)) whole).0 p.1))

pub read_none : (line whole : List ℕ) (item : Item) → item ≡ rough_item line → whole ≡ line ++ 10 ∷ [] → (insn_fits item && bytes_eq (line_text (item_line item)) whole) ≡ false → IsLineRead whole None
read_none line whole item e w h other f says =
    let same : item ≡ other = e ∙ only_item line other f (sym w ∙ says) in
    let fits : insn_fits item ≡ true = subst (λ (x : Item). insn_fits x ≡ true) (sym same) (fits_insn other f) in
    let said : line_text (item_line item) ≡ whole = subst (λ (x : Item). line_text (item_line x) ≡ whole) (sym same) (sym says) in
    let k : (insn_fits item && bytes_eq (line_text (item_line item)) whole) ≡ true = and_from _ _ fits ((bytes_eq-Decides (line_text (item_line item)) whole).1 said) in
    cc

-- one line says one thing
pub same_said : (x y : Item) → ItemFits x → ItemFits y → line_text (item_line x) ≡ line_text (item_line y) → x ≡ y
same_said x y f g e = sym (read_back x f) ∙ ap rough_item (same_end 10 (line_body x) (line_body y) e) ∙ read_back y g
