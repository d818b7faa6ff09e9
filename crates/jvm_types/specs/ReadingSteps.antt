-- Reading bytes from left to right, with the first condition that stands.
-- A step (`.._at`) answers a value and the bytes after it, or a fault; a test (`..wanted`) answers
-- only whether it is met.
use Rattle.std.specs.Prelude.{ℕ, zero, suc, ◌+◌, ◌*◌, Bool, true, false, List, [], ◌∷◌, length}
use Rattle.std.specs.Prelude.{take, drop, Result, Ok, Err, nat_lt, if◌then◌else◌}
use Rattle.jvm_types.specs.declared.refusal.CRule.{CRule}
use Rattle.jvm_types.specs.declared.refusal.CRule.TheVariants.{C3, C7, C8}

-- A rule, and its place: how many bytes are left from there on.
pub record Fault : Type 0 where
  pub rule : CRule
  pub left : ℕ

abbrev pub fault : {A : Type 0} → CRule → ℕ → Result A Fault
fault rule left = Err (record { rule = rule; left = left })

infixl 10 ◌>>=◌
abbrev pub ◌>>=◌ : {A B : Type 0} → Result A Fault → (A → Result B Fault) → Result B Fault
(Ok x) >>= f = f x
(Err e) >>= f = Err e

-- the fault, unless the test is met
abbrev pub fault_unless : Bool → CRule → ℕ → Result (Unit {0}) Fault
fault_unless true rule left = Ok tt
fault_unless false rule left = fault rule left

-- ---- items: C3 where one is cut, at its first byte

-- a number of one, two, four bytes (JVMS 4, "u1, u2, u4")
unfoldable pub u1_at : List ℕ → Result (ℕ × List ℕ) Fault
u1_at (a ∷ rest) = Ok (a, rest)
u1_at bytes = fault C3 (length bytes)

unfoldable pub u2_at : List ℕ → Result (ℕ × List ℕ) Fault
u2_at (a ∷ b ∷ rest) = Ok (a * 256 + b, rest)
u2_at bytes = fault C3 (length bytes)

unfoldable pub u4_at : List ℕ → Result (ℕ × List ℕ) Fault
u4_at (a ∷ b ∷ c ∷ d ∷ rest) = Ok ((a * 256 + b) * 65536 + (c * 256 + d), rest)
u4_at bytes = fault C3 (length bytes)

-- a run of so many bytes
unfoldable pub byte_run_at : ℕ → List ℕ → Result (List ℕ × List ℕ) Fault
byte_run_at n bytes =
    if nat_lt (length bytes) n then fault C3 (length bytes) else Ok (take n bytes, drop n bytes)

-- ---- lists

-- so many items
unfoldable pub many_at : {A : Type 0} → (List ℕ → Result (A × List ℕ) Fault) → ℕ → List ℕ
    → Result (List A × List ℕ) Fault
many_at item_at zero bytes = Ok ([], bytes)
many_at item_at (suc n) bytes = do
  first ← item_at bytes
  others ← many_at item_at n first.1
  Ok (first.0 ∷ others.0, others.1)

-- their count in two bytes, and the items
unfoldable pub counted_at : {A : Type 0} → (List ℕ → Result (A × List ℕ) Fault) → List ℕ
    → Result (List A × List ℕ) Fault
counted_at item_at bytes = do
  n ← u2_at bytes
  many_at item_at n.0 n.1

-- ---- the end

-- what was read, where nothing is left; C8 at the first byte that is left over
abbrev pub ended : {A : Type 0} → A → List ℕ → Result A Fault
ended value [] = Ok value
ended value (b ∷ bytes) = fault C8 (length (b ∷ bytes))

unfoldable pub whole : {A : Type 0} → Result (A × List ℕ) Fault → Result A Fault
whole (Ok x) = ended x.0 x.1
whole (Err f) = Err f

-- ---- what was cut out by a length

-- A body is read by itself. Where its parts want more or fewer bytes than the length says, that is
-- C7 at the length. Every other fault keeps its place: behind the body there are so many bytes.
abbrev pub fault_moved : CRule → ℕ → ℕ → ℕ → Fault
fault_moved C3 left at_length behind = record { rule = C7; left = at_length }
fault_moved C8 left at_length behind = record { rule = C7; left = at_length }
fault_moved rule left at_length behind = record { rule = rule; left = left + behind }

unfoldable pub in_body : {A : Type 0} → ℕ → ℕ → Result A Fault → Result A Fault
in_body at_length behind (Ok x) = Ok x
in_body at_length behind (Err f) = Err (fault_moved f.rule f.left at_length behind)
