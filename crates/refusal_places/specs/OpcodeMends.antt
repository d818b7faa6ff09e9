-- What to write in the place of an instruction that this machine does not have, by its opcode
-- (JVMS 6.5); docs/EXPLAIN.md has the same.
use Rattle.std.specs.Prelude.{ℕ, Bool, List, codes, if◌then◌else◌, ◌==◌, ◌||◌}
use Rattle.std.specs.Int.{is_in_range}

-- what works on a long, a float or a double: constants, loads and stores, the stack moves of two
-- slots, arithmetic, conversions, comparisons and returns
abbrev pub is_wide_code : ℕ → Bool
is_wide_code b =
    is_in_range 0x09 0x0f b || (b == 0x14)
    || is_in_range 0x16 0x18 b || is_in_range 0x1e 0x29 b
    || is_in_range 0x37 0x39 b || is_in_range 0x3f 0x4a b
    || is_in_range 0x5d 0x5e b
    || is_in_range 0x61 0x63 b || is_in_range 0x65 0x67 b || is_in_range 0x69 0x6b b
    || is_in_range 0x6d 0x6f b || is_in_range 0x71 0x73 b || is_in_range 0x75 0x77 b
    || (b == 0x79) || (b == 0x7b) || (b == 0x7d) || (b == 0x7f) || (b == 0x81) || (b == 0x83)
    || is_in_range 0x85 0x90 b || is_in_range 0x94 0x98 b || is_in_range 0xad 0xaf b

-- what moves an element of an array of other numbers
abbrev pub is_element_code : ℕ → Bool
is_element_code b =
    is_in_range 0x2f 0x31 b || is_in_range 0x33 0x35 b
    || is_in_range 0x50 0x52 b || is_in_range 0x54 0x56 b

-- what moves an element of an array of objects or of arrays, or makes such an array
abbrev pub is_object_code : ℕ → Bool
is_object_code b = (b == 0x32) || (b == 0x53) || (b == 0xbd) || (b == 0xc5)

abbrev pub wide_mend : List ℕ
wide_mend = codes "an int for a long, a float or a double; wait() for wait(10)"

abbrev pub element_mend : List ℕ
element_mend = codes "an int[] for another array of numbers; 0 and 1 in it for a boolean[]"

abbrev pub object_mend : List ℕ
object_mend = codes "objects with a field next for an array of objects; one int[], with row * width + column, for an array of arrays"

-- of single opcodes: calls of interfaces and lambdas, `newarray`, which is refused where its array
-- is none of ints, casts, tests of classes, and `wide`. What is none of these is in no class that
-- javac writes today.
abbrev pub single_mend : ℕ → List ℕ
single_mend b =
    if b == 0xb9 then codes "the class itself as the type, and no interface" else
    if b == 0xba then codes "a class with a method for a lambda" else
    if b == 0xbc then element_mend else
    if b == 0xc0 then codes "a class for each type for a cast or a type parameter; a loop for clone(); static final int constants for an enum" else
    if b == 0xc1 then codes "a field that says the kind" else
    if b == 0xc4 then codes "x = x + 1000 for x += 1000; 256 locals at most" else
    codes "the class, compiled again"

unfoldable pub opcode_mend : ℕ → List ℕ
opcode_mend b =
    if is_wide_code b then wide_mend else
    if is_element_code b then element_mend else
    if is_object_code b then object_mend else
    single_mend b
