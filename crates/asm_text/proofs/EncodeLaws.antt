-- The bytes of an instruction by its line are those that spell it.
use Rattle.std.proofs.Common.{◌≡◌, ℕ, ◌-◌, ◌*◌, ◌/◌, ◌%◌, ◌^◌, ◌<◌, ℤ, pos, Bool, true, false, List, [], ◌∷◌, ◌++◌, length, map, Option, Some, None, refl, sym, ap, subst, ◌∙◌, arith, ◌==◌, ◌-ℤ◌, ◌+ℤ◌, nat_lt, FitsSigned, if◌then◌else◌}
use Rattle.std.{specs.{Int.{w8, w16, w32, is_in_range}, List.{AllByRecursion, flat_map}}, proofs.lemmas.{Bool.Decides.nat_tests, Int.ints}}
use Rattle.jvm_types.specs.CodeGrammar.{s1, s2, offset, padding_size, spelled_case, SpellsOperands}
use Rattle.jvm_types.specs.CodeTable.{Form, Plain, Byte, Short, SignedByte, SignedShort, Branch, WideBranch, LocalAndStep, IntArray, Table, Lookup, FormRows, all_moves, move_opcode, first_row, form_of, constants, loads, stores, stack_moves, arithmetic, control, references}
use Rattle.jvm_types.specs.{Numbers.{u1, u2, u4, s4}, declared.{code.{Case.Case, Op.Op}, stack_move.StackMove.StackMove}}
use Rattle.jvm_types.specs.declared.code.Op.TheVariants.{Stack, Iconst, Iload, Aload, Istore, Astore, Iinc, Tableswitch, Lookupswitch}
use Rattle.asm_text.specs.{CodeLines.{high_of, case_values, operands, names_local, values_of}, Encoding.{low1, low2, low4, way, zero_bytes, ways, pair_ways, operand_bytes}}
use Rattle.asm_text.specs.{Lines.{Value, Number, Signed, Hex}, Operands.{shape_of, is_target}}
use lib.IntN.{negsuc}
use Rattle.asm_text.specs.declared.shapes.Shape.TheVariants as shapes

-- ---- the numbers of a line

abbrev pub number_of : Value → ℤ
number_of (Number n) = pos n
number_of (Signed n) = n
number_of (Hex bytes) = pos 0

abbrev pub insn_operands : ℕ → Op → List ℤ
insn_operands opcode op = map number_of (values_of opcode op)

abbrev pub case_numbers : Case → List ℤ
case_numbers c = c.key ∷ pos c.target ∷ []

-- the operands of what an opcode makes of its form
abbrev pub LineLaw : ℕ → Form → Type 0
LineLaw b (Plain op) = insn_operands b op ≡ []
LineLaw b (Byte make) = (n : ℕ) → insn_operands b (make n) ≡ pos n ∷ []
LineLaw b (Short make) = (n : ℕ) → insn_operands b (make n) ≡ pos n ∷ []
LineLaw b (SignedByte make) = (n : ℤ) → insn_operands b (make n) ≡ n ∷ []
LineLaw b (SignedShort make) = (n : ℤ) → insn_operands b (make n) ≡ n ∷ []
LineLaw b (Branch make) = (n : ℕ) → insn_operands b (make n) ≡ pos n ∷ []
LineLaw b (WideBranch make) = (n : ℕ) → insn_operands b (make n) ≡ pos n ∷ []
LineLaw b (LocalAndStep make) = (i : ℕ) (n : ℤ) → insn_operands b (make i n) ≡ pos i ∷ n ∷ []
LineLaw b (IntArray op) = insn_operands b op ≡ pos 10 ∷ []
LineLaw b Table = (otherwise : ℕ) (low : ℤ) (targets : List ℕ) → insn_operands b (Tableswitch otherwise low targets) ≡ pos otherwise ∷ low ∷ high_of low targets ∷ map pos targets
LineLaw b Lookup = (otherwise : ℕ) (cases : List Case) → insn_operands b (Lookupswitch otherwise cases) ≡ pos otherwise ∷ flat_map case_numbers cases

abbrev pub LineHolds : ℕ → Option Form → Type 0
LineHolds b None = Unit {0}
LineHolds b (Some f) = LineLaw b f

abbrev pub RowHolds : ℕ → Bool × Form → Type 0
RowHolds b r = r.0 ≡ true → LineLaw b r.1

by_row : (b : ℕ) (t : Bool) (f : Form) (y : Option Form) → (t ≡ true → LineLaw b f) → LineHolds b y → LineHolds b (if t then Some f else y)
by_row b true f y h k = h refl
by_row b false f y h k = k

rows_hold : (b : ℕ) (rs : FormRows) → AllByRecursion (RowHolds b) rs → LineHolds b (first_row rs)
rows_hold b [] h = tt
rows_hold b (r ∷ rs) h = by_row b r.0 r.1 (first_row rs) h.0 (rows_hold b rs h.1)

pub same_number : (b k : ℕ) → (b == k) ≡ true → k ≡ b
same_number b k h = grind (arith, nat_tests)

-- the row of one opcode, by the operands of its form
at : (k b : ℕ) (f : Form) → LineLaw k f → RowHolds b (b == k, f)
at k b f law t = subst (λ (x : ℕ). LineLaw x f) (same_number b k t) law

at_number : (k b : ℕ) (make : ℕ → Op) → ((n : ℕ) → insn_operands k (make n) ≡ pos n ∷ []) → (b == k) ≡ true → (n : ℕ) → insn_operands b (make n) ≡ pos n ∷ []
at_number k b make law t n = rw (same_number b k t) at law n

at_signed : (k b : ℕ) (make : ℤ → Op) → ((n : ℤ) → insn_operands k (make n) ≡ n ∷ []) → (b == k) ≡ true → (n : ℤ) → insn_operands b (make n) ≡ n ∷ []
at_signed k b make law t n = rw (same_number b k t) at law n

either_empty : (t : Bool) → map number_of (if t then [] else []) ≡ []
either_empty true = refl
either_empty false = refl

local_empty : (t : Bool) (vs : List Value) → t ≡ true → map number_of (if t then [] else vs) ≡ []
local_empty t vs h = rw h refl

-- an opcode that names its local has no operand
low_loads : (b : ℕ) → RowHolds b (is_in_range 0x1a 0x1d b, Plain (Iload (b - 0x1a)))
low_loads b t = local_empty (names_local b) (operands (Iload (b - 0x1a))) (grind (arith, nat_tests, t))

high_loads : (b : ℕ) → RowHolds b (is_in_range 0x2a 0x2d b, Plain (Aload (b - 0x2a)))
high_loads b t = local_empty (names_local b) (operands (Aload (b - 0x2a))) (grind (arith, nat_tests, t))

low_stores : (b : ℕ) → RowHolds b (is_in_range 0x3b 0x3e b, Plain (Istore (b - 0x3b)))
low_stores b t = local_empty (names_local b) (operands (Istore (b - 0x3b))) (grind (arith, nat_tests, t))

high_stores : (b : ℕ) → RowHolds b (is_in_range 0x4b 0x4e b, Plain (Astore (b - 0x4b)))
high_stores b t = local_empty (names_local b) (operands (Astore (b - 0x4b))) (grind (arith, nat_tests, t))

targets_numbers : (targets : List ℕ) → map number_of (map Number targets) ≡ map pos targets
targets_numbers [] = refl
targets_numbers (to ∷ targets) = ap (λ (ns : List ℤ). pos to ∷ ns) (targets_numbers targets)

cases_numbers : (cases : List Case) → map number_of (flat_map case_values cases) ≡ flat_map case_numbers cases
cases_numbers [] = refl
cases_numbers (c ∷ cases) = ap (λ (ns : List ℤ). c.key ∷ pos c.target ∷ ns) (cases_numbers cases)

table_line : (b : ℕ) → names_local b ≡ false → LineLaw b Table
table_line b h otherwise low targets = rw h (ap (λ (ns : List ℤ). pos otherwise ∷ low ∷ high_of low targets ∷ ns) (targets_numbers targets))

lookup_line : (b : ℕ) → names_local b ≡ false → LineLaw b Lookup
lookup_line b h otherwise cases = rw h (ap (λ (ns : List ℤ). pos otherwise ∷ ns) (cases_numbers cases))

constants_hold : (b : ℕ) → AllByRecursion (RowHolds b) (constants b)
constants_hold b =
    let ones : RowHolds b (is_in_range 0x02 0x08 b, Plain (Iconst (pos b -ℤ pos 3))) = λ t. either_empty (names_local b) in
    search (ones, at, at_number, at_signed) depth 12

loads_hold : (b : ℕ) → AllByRecursion (RowHolds b) (loads b)
loads_hold b = search (at, at_number, low_loads, high_loads) depth 12

stores_hold : (b : ℕ) → AllByRecursion (RowHolds b) (stores b)
stores_hold b = search (at, at_number, low_stores, high_stores) depth 12

stack_moves_hold : (b : ℕ) → AllByRecursion (RowHolds b) (stack_moves b)
stack_moves_hold b = each all_moves
  where
    each : (moves : List StackMove) → AllByRecursion (RowHolds b) (map (λ move. (b == move_opcode move, Plain (Stack move))) moves)
    each [] = tt
    each (move ∷ moves) = ((λ t. either_empty (names_local b)), each moves)

arithmetic_hold : (b : ℕ) → AllByRecursion (RowHolds b) (arithmetic b)
arithmetic_hold b = let steps = at 0x84 b (LocalAndStep Iinc) (λ i n. refl) in search (steps, at) depth 24

control_hold : (b : ℕ) → AllByRecursion (RowHolds b) (control b)
control_hold b =
    let table = at 0xaa b Table (table_line 0xaa refl) in
    let lookup = at 0xab b Lookup (lookup_line 0xab refl) in
    search (table, lookup, at, at_number) depth 32

references_hold : (b : ℕ) → AllByRecursion (RowHolds b) (references b)
references_hold b = search (at, at_number) depth 24

group : (b : ℕ) (t : Bool) (rs : FormRows) (y : Option Form) → AllByRecursion (RowHolds b) rs → LineHolds b y → LineHolds b (if t then first_row rs else y)
group b true rs y h k = rows_hold b rs h
group b false rs y h k = k

pub line_holds : (b : ℕ) → LineHolds b (form_of b)
line_holds b =
    group b (nat_lt b 0x15) (constants b) _ (constants_hold b) (group b (nat_lt b 0x36) (loads b) _ (loads_hold b) (group b (nat_lt b 0x57) (stores b) _ (stores_hold b)
    (group b (nat_lt b 0x60) (stack_moves b) _ (stack_moves_hold b) (group b (nat_lt b 0x99) (arithmetic b) _ (arithmetic_hold b) (group b (nat_lt b 0xb2) (control b) (first_row (references b)) (control_hold b)
    (rows_hold b (references b) (references_hold b)))))))

-- ---- numbers

u1_low : (n : ℕ) → n < 2 ^ 8 → low1 (pos n) ≡ u1 n
unfolding low1
u1_low n h = ap u1 (omega arith)

u2_low : (n : ℕ) → n < 2 ^ 16 → low2 (pos n) ≡ u2 n
unfolding low2
u2_low n h = ap u2 (omega arith)

s1_low : (n : ℤ) → FitsSigned w8 n → low1 n ≡ s1 n
unfolding low1
s1_low (pos n) h = ap u1 (omega (arith, ints, h))
s1_low (negsuc n) h = ap u1 (omega (arith, ints, h))

s2_low : (n : ℤ) → FitsSigned w16 n → low2 n ≡ s2 n
unfolding low2
s2_low (pos n) h = ap u2 (omega (arith, ints, h))
s2_low (negsuc n) h = ap u2 (omega (arith, ints, h))

s4_low : (n : ℤ) → FitsSigned w32 n → low4 n ≡ s4 n
unfolding low4
s4_low (pos n) h = ap u4 (omega (arith, ints, h))
s4_low (negsuc n) h = ap u4 (omega (arith, ints, h))

pub near_far : (n : ℤ) → FitsSigned w16 n → FitsSigned w32 n
near_far n h = omega (arith, ints, h)

-- a target that an offset of 32 bits leads to is a number of 32 bits
pub target_fits : (pc to : ℕ) → pc < 65536 → FitsSigned w32 (offset pc to) → to < 4294967296
target_fits pc to p h = omega (arith, ints, h)

pub is_target_of : (to : ℕ) → to < 4294967296 → is_target (pos to) ≡ true
is_target_of to h = grind (arith, nat_tests)

way_is : (pc to : ℕ) → pc < 65536 → FitsSigned w32 (offset pc to) → way pc (pos to) ≡ offset pc to
way_is pc to p h = rw (is_target_of to (target_fits pc to p h)) refl

way4 : (pc to : ℕ) → pc < 65536 → FitsSigned w32 (offset pc to) → low4 (way pc (pos to)) ≡ s4 (offset pc to)
way4 pc to p h = ap low4 (way_is pc to p h) ∙ s4_low (offset pc to) h

way2 : (pc to : ℕ) → pc < 65536 → FitsSigned w16 (offset pc to) → low2 (way pc (pos to)) ≡ s2 (offset pc to)
way2 pc to p h = ap low2 (way_is pc to p (near_far (offset pc to) h)) ∙ s2_low (offset pc to) h

ways_are : (pc : ℕ) (targets : List ℕ) → pc < 65536 → AllByRecursion (λ to. FitsSigned w32 (offset pc to)) targets → ways pc (map pos targets) ≡ flat_map (λ to. s4 (offset pc to)) targets
ways_are pc [] p h = refl
ways_are pc (to ∷ targets) p h = ap (λ t. t ++ ways pc (map pos targets)) (way4 pc to p h.0) ∙ ap (λ t. s4 (offset pc to) ++ t) (ways_are pc targets p h.1)

pairs_are : (pc : ℕ) (cases : List Case) → pc < 65536 → AllByRecursion (λ c. FitsSigned w32 c.key × FitsSigned w32 (offset pc c.target)) cases → pair_ways pc true (flat_map case_numbers cases) ≡ flat_map (spelled_case pc) cases
pairs_are pc [] p h = refl
pairs_are pc (c ∷ cases) p h = ap (λ (t : List ℕ). t ++ (low4 (way pc (pos c.target)) ++ pair_ways pc true (flat_map case_numbers cases))) (s4_low c.key h.0.0)
    ∙ ap (λ (t : List ℕ). s4 c.key ++ (t ++ pair_ways pc true (flat_map case_numbers cases))) (way4 pc c.target p h.0.1) ∙ ap (λ (t : List ℕ). s4 c.key ++ (s4 (offset pc c.target) ++ t)) (pairs_are pc cases p h.1)

pairs_length : (cases : List Case) → length (flat_map case_numbers cases) ≡ length cases * 2
pairs_length [] = refl
pairs_length (c ∷ cases) = omega (arith, pairs_length cases)

pair_count : (cases : List Case) → length cases < 2 ^ 31 → u4 (length (flat_map case_numbers cases) / 2 % 4294967296) ≡ s4 (pos (length cases))
pair_count cases h = ap u4 (count (length cases) (length (flat_map case_numbers cases)) (pairs_length cases) h)
  where
    count : (n m : ℕ) → m ≡ n * 2 → n < 2 ^ 31 → m / 2 % 4294967296 ≡ n
    count n m e h = omega arith

-- ---- one instruction

-- the padding of a switch is of zeros
abbrev pub IsPadded : ℕ → Form → List ℕ → Type 0
IsPadded pc Table bytes = (padding rest : List ℕ) → bytes ≡ padding ++ rest → length padding ≡ padding_size pc → padding ≡ zero_bytes (padding_size pc)
IsPadded pc Lookup bytes = (padding rest : List ℕ) → bytes ≡ padding ++ rest → length padding ≡ padding_size pc → padding ≡ zero_bytes (padding_size pc)
IsPadded pc f bytes = Unit {0}

pub high_is : (low high : ℤ) (targets : List ℕ) → pos (length targets) ≡ high -ℤ low +ℤ pos 1 → high_of low targets ≡ high
high_is low high targets h = omega (arith, ints, h)

pub operands_spelled : (pc b : ℕ) (f : Form) (op : Op) (bytes : List ℕ) → pc < 65536 → LineLaw b f → SpellsOperands pc f op bytes → IsPadded pc f bytes → operand_bytes pc (shape_of f) (insn_operands b op) ≡ bytes
operands_spelled pc b (Plain plain) op bytes p law s z = ap (λ (o : Op). operand_bytes pc shapes.Plain (insn_operands b o)) s.0 ∙ ap (operand_bytes pc shapes.Plain) law ∙ sym s.1
operands_spelled pc b (Byte make) op bytes p law s z = ap (λ (o : Op). operand_bytes pc shapes.Byte (insn_operands b o)) s.1 ∙ ap (operand_bytes pc shapes.Byte) (law s.0) ∙ u1_low s.0 s.3 ∙ sym s.2
operands_spelled pc b (Short make) op bytes p law s z = ap (λ (o : Op). operand_bytes pc shapes.Short (insn_operands b o)) s.1 ∙ ap (operand_bytes pc shapes.Short) (law s.0) ∙ u2_low s.0 s.3 ∙ sym s.2
operands_spelled pc b (SignedByte make) op bytes p law s z = ap (λ (o : Op). operand_bytes pc shapes.SignedByte (insn_operands b o)) s.1 ∙ ap (operand_bytes pc shapes.SignedByte) (law s.0) ∙ s1_low s.0 s.3 ∙ sym s.2
operands_spelled pc b (SignedShort make) op bytes p law s z = ap (λ (o : Op). operand_bytes pc shapes.SignedShort (insn_operands b o)) s.1 ∙ ap (operand_bytes pc shapes.SignedShort) (law s.0) ∙ s2_low s.0 s.3 ∙ sym s.2
operands_spelled pc b (Branch make) op bytes p law s z = ap (λ (o : Op). operand_bytes pc shapes.Branch (insn_operands b o)) s.1 ∙ ap (operand_bytes pc shapes.Branch) (law s.0) ∙ way2 pc s.0 p s.3 ∙ sym s.2
operands_spelled pc b (WideBranch make) op bytes p law s z = ap (λ (o : Op). operand_bytes pc shapes.WideBranch (insn_operands b o)) s.1 ∙ ap (operand_bytes pc shapes.WideBranch) (law s.0) ∙ way4 pc s.0 p s.3 ∙ sym s.2
operands_spelled pc b (LocalAndStep make) op bytes p law s z =
    ap (λ (o : Op). operand_bytes pc shapes.LocalAndStep (insn_operands b o)) s.2 ∙ ap (operand_bytes pc shapes.LocalAndStep) (law s.0 s.1)
    ∙ ap (λ t. t ++ low1 s.1) (u1_low s.0 s.4) ∙ ap (λ t. u1 s.0 ++ t) (s1_low s.1 s.5) ∙ sym s.3
operands_spelled pc b (IntArray array) op bytes p law s z = ap (λ (o : Op). operand_bytes pc shapes.IntArray (insn_operands b o)) s.0 ∙ ap (operand_bytes pc shapes.IntArray) law ∙ u1_low 10 (omega arith) ∙ sym s.1
operands_spelled pc b Table op bytes p law s z =
    ap (λ (o : Op). operand_bytes pc shapes.Table (insn_operands b o)) s.is ∙ ap (operand_bytes pc shapes.Table) (law s.otherwise s.low s.targets)
    ∙ ap (λ (t : List ℕ). t ++ (low4 (way pc (pos s.otherwise)) ++ ((low4 s.low ++ low4 (high_of s.low s.targets)) ++ ways pc (map pos s.targets)))) (sym (z s.padding _ s.spelled s.padded))
    ∙ ap (λ (t : List ℕ). s.padding ++ (t ++ ((low4 s.low ++ low4 (high_of s.low s.targets)) ++ ways pc (map pos s.targets)))) (way4 pc s.otherwise p s.default_fits)
    ∙ ap (λ (t : List ℕ). s.padding ++ (s4 (offset pc s.otherwise) ++ ((t ++ low4 (high_of s.low s.targets)) ++ ways pc (map pos s.targets)))) (s4_low s.low s.low_fits)
    ∙ ap (λ (n : ℤ). s.padding ++ (s4 (offset pc s.otherwise) ++ ((s4 s.low ++ low4 n) ++ ways pc (map pos s.targets)))) (high_is s.low s.high s.targets s.counted)
    ∙ ap (λ (t : List ℕ). s.padding ++ (s4 (offset pc s.otherwise) ++ ((s4 s.low ++ t) ++ ways pc (map pos s.targets)))) (s4_low s.high s.high_fits)
    ∙ ap (λ (t : List ℕ). s.padding ++ (s4 (offset pc s.otherwise) ++ ((s4 s.low ++ s4 s.high) ++ t))) (ways_are pc s.targets p s.offsets_fit)
    ∙ sym s.spelled
operands_spelled pc b Lookup op bytes p law s z =
    ap (λ (o : Op). operand_bytes pc shapes.Lookup (insn_operands b o)) s.is ∙ ap (operand_bytes pc shapes.Lookup) (law s.otherwise s.cases)
    ∙ ap (λ t. t ++ (low4 (way pc (pos s.otherwise)) ++ (u4 (length (flat_map case_numbers s.cases) / 2 % 4294967296) ++ pair_ways pc true (flat_map case_numbers s.cases)))) (sym (z s.padding _ s.spelled s.padded))
    ∙ ap (λ t. s.padding ++ (t ++ (u4 (length (flat_map case_numbers s.cases) / 2 % 4294967296) ++ pair_ways pc true (flat_map case_numbers s.cases)))) (way4 pc s.otherwise p s.default_fits)
    ∙ ap (λ t. s.padding ++ (s4 (offset pc s.otherwise) ++ (t ++ pair_ways pc true (flat_map case_numbers s.cases)))) (pair_count s.cases s.count_fits)
    ∙ ap (λ t. s.padding ++ (s4 (offset pc s.otherwise) ++ (s4 (pos (length s.cases)) ++ t))) (pairs_are pc s.cases p s.cases_fit)
    ∙ sym s.spelled
