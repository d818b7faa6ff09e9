-- The values of options, each as the text that stands for it.
use Rattle.std.specs.Prelude.{ℕ, ◌-◌, ◌^◌, nat_lt, nat_le, Bool, true, false, ◌&&◌, List, []}
use Rattle.std.specs.Prelude.{length, map, codes, bytes_eq, Option, Some, None, if◌then◌else◌}
use Rattle.std.specs.List.{list_all}
use Rattle.std.specs.Char.{is_digit}
use Rattle.std.specs.Str.Parse.{digits_value, without_leading_plus}
use Rattle.clap.specs.Walk.{Text}
use Rattle.command_words.specs.declared.values.TheConstants.{LONGEST_ORDER}

infixl 10 ◌>>=◌
abbrev pub ◌>>=◌ : {A B : Type 0} → Option A → (A → Option B) → Option B
None >>= f = None
(Some x) >>= f = f x

-- a text as Rust reads it as a `u32`: decimal digits, before which a plus may stand
unfoldable pub number : Text → Option ℕ
number text =
    let digits = without_leading_plus text in
    if nat_lt 0 (length digits) && list_all (λ c. is_digit c 10) digits
    && nat_lt (digits_value 10 digits) (2 ^ 32) then Some (digits_value 10 digits) else None

abbrev pub number_within : (least most : ℕ) → Option ℕ → Option ℕ
number_within least most None = None
number_within least most (Some n) = if nat_le least n && nat_le n most then Some n else None

-- the number of an option, from one number to another; another one stands where the option isn't
-- given
abbrev pub number_or : (unless least most : ℕ) → Option Text → Option ℕ
number_or unless least most None = Some unless
number_or unless least most (Some text) = number_within least most (number text)

abbrev pub on_or_off : Option Text → Option Bool
on_or_off None = Some true
on_or_off (Some text) =
    if bytes_eq text (codes "on") then Some true else if bytes_eq text (codes "off") then Some false
    else None

-- the digits 1 to 8
abbrev pub is_worker : ℕ → Bool
is_worker c = nat_le 49 c && nat_le c 56

-- the numbers of workers that an order has as digits; none where it isn't given
abbrev pub order_or_none : Option Text → Option (List ℕ)
order_or_none None = Some []
order_or_none (Some text) =
    if nat_lt 0 (length text) && nat_le (length text) LONGEST_ORDER && list_all is_worker text
    then Some (map (λ c. c - 48) text) else None
