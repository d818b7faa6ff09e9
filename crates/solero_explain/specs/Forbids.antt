-- What `--forbid` names: parts with commas between, each of which is `stuck`, `uncaught`, or
-- `print:` and a number of Java.
use Rattle.std.specs.Prelude.{ℕ, ◌+◌, ◌-◌, ◌*◌, ◌==◌, nat_le, nat_lt, Bool, true, false, ◌&&◌}
use Rattle.std.specs.Prelude.{ℤ, pos, neg_ℤ, List, []}
use Rattle.std.specs.Prelude.{◌∷◌, ◌++◌, codes, bytes_eq, take, drop, Option, Some, None}
use Rattle.std.specs.Prelude.{if◌then◌else◌, option_map}
use Rattle.std.specs.List.{list_any}
use Rattle.std.specs.Option.{option_and_then}
use Rattle.std.specs.Ordering.{int_eq}
use Rattle.clap.specs.Walk.{Text}
use Rattle.outcome_texts.specs.TextParts.{parts_from}
use Rattle.outcome_texts.specs.declared.findings.Forbidden.{Forbidden}
use Rattle.outcome_texts.specs.declared.findings.Forbidden.TheVariants.{Print, Stuck, Uncaught}

-- ---- a number of Java: digits, before which a minus may stand

-- the number of some digits and one more, up to 2^31
abbrev pub with_digit : (n : ℕ) → (digit : ℕ) → Option ℕ
with_digit n c =
    if nat_le 48 c && nat_le c 57 && nat_le (n * 10 + (c - 48)) 2147483648
    then Some (n * 10 + (c - 48)) else None

abbrev pub number_from : (n : ℕ) → List ℕ → Option ℕ
number_from n [] = Some n
number_from n (c ∷ cs) = option_and_then (λ m. number_from m cs) (with_digit n c)

abbrev pub digits_number : List ℕ → Option ℕ
digits_number [] = None
digits_number (c ∷ cs) = number_from 0 (c ∷ cs)

abbrev pub positive : ℕ → Option ℤ
positive n = if nat_lt n 2147483648 then Some (pos n) else None

abbrev pub java_number : List ℕ → Option ℤ
java_number [] = None
java_number (c ∷ cs) =
    if c == 45 then option_map (λ n. neg_ℤ (pos n)) (digits_number cs)
    else option_and_then positive (digits_number (c ∷ cs))

-- ---- one part

abbrev pub forbidden_part : List ℕ → Option Forbidden
forbidden_part part =
    if bytes_eq part (codes "stuck") then Some Stuck
    else if bytes_eq part (codes "uncaught") then Some Uncaught
    else if bytes_eq (take 6 part) (codes "print:") then option_map Print (java_number (drop 6 part))
    else None

-- ---- all parts

abbrev pub forbid_the_same : Forbidden → Forbidden → Bool
forbid_the_same (Print a) (Print b) = int_eq a b
forbid_the_same Stuck Stuck = true
forbid_the_same Uncaught Uncaught = true
forbid_the_same a b = false

-- one more, where it is not there
abbrev pub with_once : List Forbidden → Forbidden → List Forbidden
with_once forbidden what =
    if list_any (forbid_the_same what) forbidden then forbidden else forbidden ++ what ∷ []

-- each of them, where each is one; of equal ones the first
abbrev pub forbidden_parts : (before : List Forbidden) → List (List ℕ) → Option (List Forbidden)
forbidden_parts before [] = Some before
forbidden_parts before (part ∷ parts) =
    option_and_then (λ f. forbidden_parts (with_once before f) parts) (forbidden_part part)

-- none where none is named
abbrev pub forbidden_or_none : Option Text → Option (List Forbidden)
forbidden_or_none None = Some []
forbidden_or_none (Some text) = forbidden_parts [] (parts_from 44 [] text)
