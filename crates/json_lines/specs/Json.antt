-- Texts and numbers as JSON (RFC 8259), written in ASCII alone, so that a line can be kept and sent
-- in any encoding.
use Rattle.std.specs.Prelude.{ℕ, ◌+◌, ◌-◌, ◌*◌, ◌/◌, ◌%◌, ◌==◌, nat_lt, nat_le, Bool, ◌&&◌, ◌||◌}
use Rattle.std.specs.Prelude.{List, [], ◌∷◌, ◌++◌, if◌then◌else◌}
use Rattle.std.specs.Fmt.{decimal}
use Rattle.json_lines.specs.declared.characters.Character.{Character}

-- ---- the characters of a text
-- A text is UTF-8 (RFC 3629), or what class files have in its place (JVMS 4.4.7): there a character
-- beyond 16 bits is two of three bytes each, the halves that JSON wants.

-- a byte that goes on with a character
abbrev pub is_continuation : ℕ → Bool
is_continuation b = nat_le 0x80 b && nat_lt b 0xC0

-- it has six more bits
abbrev pub with_bits : ℕ → ℕ → ℕ
with_bits n b = n * 64 + (b - 0x80)

-- a character of its number, with which so many bytes go on behind its first
abbrev pub going_on : (number more : ℕ) → Character
going_on number more = record { number = number; more = more }

-- a byte that is no character stands for itself alone
abbrev pub no_character : Character
no_character = going_on 0xFFFD 0

-- the character of a first byte and of those behind it, where one, two or three go on with it
abbrev pub of_two : ℕ → List ℕ → Character
of_two a (b ∷ rest) =
    if is_continuation b then going_on (with_bits (a - 0xC0) b) 1 else no_character
of_two a rest = no_character

abbrev pub of_three : ℕ → List ℕ → Character
of_three a (b ∷ c ∷ rest) =
    if is_continuation b && is_continuation c then going_on (with_bits (with_bits (a - 0xE0) b) c) 2
    else no_character
of_three a rest = no_character

abbrev pub of_four : ℕ → List ℕ → Character
of_four a (b ∷ c ∷ d ∷ rest) =
    if is_continuation b && is_continuation c && is_continuation d
    then going_on (with_bits (with_bits (with_bits (a - 0xF0) b) c) d) 3 else no_character
of_four a rest = no_character

unfoldable pub character : ℕ → List ℕ → Character
character a rest =
    if nat_lt a 0x80 then going_on a 0
    else if nat_lt a 0xC0 then no_character
    else if nat_lt a 0xE0 then of_two a rest
    else if nat_lt a 0xF0 then of_three a rest
    else if nat_lt a 0xF8 then of_four a rest
    else no_character

-- ---- a character in a string

abbrev pub hex_digit : ℕ → ℕ
hex_digit n = if nat_lt n 10 then 48 + n else 87 + n

-- sixteen bits, `\uXXXX`
unfoldable pub unit_text : ℕ → List ℕ
unit_text n =
    92 ∷ 117 ∷ hex_digit (n / 4096 % 16) ∷ hex_digit (n / 256 % 16) ∷ hex_digit (n / 16 % 16)
    ∷ hex_digit (n % 16) ∷ []

-- a character beyond 16 bits, as two halves
abbrev pub pair_text : ℕ → List ℕ
pair_text n = unit_text (0xD800 + (n - 0x10000) / 1024) ++ unit_text (0xDC00 + n % 1024)

-- a quote or a backslash behind a backslash; a letter, digit or sign of ASCII as it is; all others
-- by their numbers
unfoldable pub character_text : ℕ → List ℕ
character_text n =
    if (n == 34) || (n == 92) then 92 ∷ n ∷ []
    else if nat_le 32 n && nat_lt n 127 then n ∷ []
    else if nat_lt n 0x10000 then unit_text n
    else if nat_lt n 0x110000 then pair_text n
    else unit_text 0xFFFD

-- ---- strings and members

-- A string without its quotes. The first bytes, so many, went on with a character before: nothing
-- is shown of them.
abbrev pub character_shown : (skip : ℕ) → Character → List ℕ
character_shown skip front = if skip == 0 then character_text front.number else []

abbrev pub skip_behind : (skip : ℕ) → Character → ℕ
skip_behind skip front = if skip == 0 then front.more else skip - 1

abbrev pub escaped : (skip : ℕ) → List ℕ → List ℕ
escaped skip [] = []
escaped skip (a ∷ rest) =
    character_shown skip (character a rest) ++ escaped (skip_behind skip (character a rest)) rest

-- a string
unfoldable pub json_text : List ℕ → List ℕ
json_text text = 34 ∷ escaped 0 text ++ 34 ∷ []

-- a member of an object whose value is a string, and one whose value is a number
abbrev pub text_member : (key value : List ℕ) → List ℕ
text_member key value = json_text key ++ 58 ∷ json_text value

abbrev pub number_member : (key : List ℕ) → ℕ → List ℕ
number_member key n = json_text key ++ 58 ∷ decimal n
