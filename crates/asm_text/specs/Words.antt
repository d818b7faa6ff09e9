-- What the words of a line say, whatever they are. Reading refuses no word: what it makes of a line
-- is spelled again.
use Rattle.std.specs.Prelude.{ℕ, ◌+◌, ◌-◌, ◌*◌, ◌%◌, ◌^◌, ◌==◌, nat_lt, ℤ, pos, ◌-ℤ◌, List, [], ◌∷◌}
use Rattle.std.specs.Prelude.{map, drop, slice_index_or, if◌then◌else◌}
use Rattle.std.specs.List.{slice_split}

-- the words of a line, parted by a space
abbrev pub words : List ℕ → List (List ℕ)
words line = slice_split (λ b. b == 32) line

-- a word by its number, or none
abbrev pub word_at : List (List ℕ) → ℕ → List ℕ
word_at ws i = slice_index_or ws i []

-- the digits behind a number
abbrev pub read_on : ℕ → List ℕ → ℕ
read_on n [] = n
read_on n (c ∷ cs) = read_on (n * 10 + (c - 48)) cs

-- in 64 bits
abbrev pub unsigned : List ℕ → ℕ
unsigned word = read_on 0 word % 2 ^ 64

-- 0 in the place of a number that is not below another
abbrev pub small : ℕ → ℕ → ℕ
small limit n = if nat_lt n limit then n else 0

-- of 32 bits, where it has a dash in front, and else below a limit
abbrev pub signed : ℕ → List ℕ → ℤ
signed limit [] = pos 0
signed limit (c ∷ cs) =
    if c == 45 then pos 0 -ℤ pos (small 2147483649 (unsigned cs))
    else pos (small limit (unsigned (c ∷ cs)))

abbrev pub hex_digit_of : ℕ → ℕ
hex_digit_of c = (if nat_lt c 97 then c - 48 else c - 87) % 16

-- pairs of digits
abbrev pub hex_bytes : List ℕ → List ℕ
hex_bytes [] = []
hex_bytes (c ∷ []) = []
hex_bytes (c ∷ d ∷ cs) = (16 * hex_digit_of c + hex_digit_of d) ∷ hex_bytes cs

-- the numbers among words
abbrev pub u2_word : List (List ℕ) → ℕ → ℕ
u2_word ws i = small 65536 (unsigned (word_at ws i))

abbrev pub u4_word : List (List ℕ) → ℕ → ℕ
u4_word ws i = small 4294967296 (unsigned (word_at ws i))

abbrev pub u8_word : List (List ℕ) → ℕ → ℕ
u8_word ws i = unsigned (word_at ws i)

abbrev pub s4_word : List (List ℕ) → ℕ → ℤ
s4_word ws i = signed 2147483648 (word_at ws i)

abbrev pub hex_word : List (List ℕ) → ℕ → List ℕ
hex_word ws i = hex_bytes (word_at ws i)

-- all words behind the first one as operands
abbrev pub operand_words : List (List ℕ) → List ℤ
operand_words ws = drop 1 (map (signed 4294967296) ws)
