-- The lines of a listing: a name, then its values, each behind one space, then a newline.
use Rattle.std.specs.Prelude.{ℕ, ◌+◌, ◌/◌, ◌%◌, nat_lt, ℤ, List, [], ◌∷◌, ◌++◌, codes}
use Rattle.std.specs.Prelude.{if◌then◌else◌}
use Rattle.std.specs.List.{flat_map}
use Rattle.std.specs.Fmt.{decimal, signed_decimal}

pub data Value : Type 0 where
  Number : (n : ℕ) → Value
  Signed : (n : ℤ) → Value
  Hex : (bytes : List ℕ) → Value

pub record Line : Type 0 where
  pub name : List ℕ
  pub values : List Value

-- 0 to 9, then a to f
abbrev pub listed_digit : ℕ → ℕ
listed_digit n = if nat_lt n 10 then 48 + n else 87 + n

abbrev pub hex_byte : ℕ → List ℕ
hex_byte b = listed_digit (b / 16) ∷ listed_digit (b % 16) ∷ []

-- two digits for each byte, or a dash for none
abbrev pub hex_text : List ℕ → List ℕ
hex_text [] = codes "-"
hex_text (b ∷ bytes) = flat_map hex_byte (b ∷ bytes)

abbrev pub value_text : Value → List ℕ
value_text (Number n) = decimal n
value_text (Signed n) = signed_decimal n
value_text (Hex bytes) = hex_text bytes

abbrev pub values_text : List Value → List ℕ
values_text values = flat_map (λ v. codes " " ++ value_text v) values

abbrev pub line_text : Line → List ℕ
line_text l = l.name ++ values_text l.values ++ codes "\n"

abbrev pub text_of : List Line → List ℕ
text_of lines = flat_map line_text lines
