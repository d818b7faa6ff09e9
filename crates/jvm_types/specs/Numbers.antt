-- The numbers of a class file: unsigned, the high byte first (JVMS 4, "u1, u2, u4").
use Rattle.std.specs.Prelude.{ℕ, ℤ, ◌/◌, ◌%◌, ◌==◌, ◌||◌, Bool, false, not, List, [], ◌∷◌, ◌++◌}
use Rattle.std.specs.Prelude.{bit_and}
use Rattle.std.specs.Int.{w32, cast_unsigned}

abbrev pub u1 : ℕ → List ℕ
u1 n = n ∷ []

abbrev pub u2 : ℕ → List ℕ
u2 n = n / 256 ∷ n % 256 ∷ []

abbrev pub u4 : ℕ → List ℕ
u4 n = u2 (n / 65536) ++ u2 (n % 65536)

-- eight bytes, as the class-file chapter has them: two numbers of four
abbrev pub u8 : ℕ → List ℕ
u8 n = u4 (n / 4294967296) ++ u4 (n % 4294967296)

-- a signed number of 32 bits, by its two's complement
abbrev pub s4 : ℤ → List ℕ
s4 n = u4 (cast_unsigned w32 n)

-- whether a word of flags has a flag, which is a power of two
abbrev pub has_flag : ℕ → ℕ → Bool
has_flag flag flags = not (bit_and flags flag == 0)

-- whether a number is one of these
abbrev pub has_number : List ℕ → ℕ → Bool
has_number [] n = false
has_number (m ∷ ms) n = m == n || has_number ms n
