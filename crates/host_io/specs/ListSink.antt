-- A sink in memory that accepts a stated number of bytes.
use Rattle.std.specs.Prelude.{ℕ, ◌-◌, List, length, min, Option, Some, None}

-- the text, the byte from which on nothing is accepted, how many bytes one call may bring, and the
-- faults
pub record Accepting : Type 0 where
  pub text : List ℕ
  pub fails_from : Option ℕ
  pub most : ℕ
  pub faults : ℕ

-- how many more bytes are accepted, of some number
abbrev pub room : Option ℕ → List ℕ → ℕ → ℕ
room None text count = count
room (Some limit) text count = min (limit - length text) count

-- how many bytes the next call accepts of a piece of so many
abbrev pub accepted : Accepting → ℕ → ℕ
accepted s count = room s.fails_from s.text (min s.most count)
