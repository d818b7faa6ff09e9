-- What a sink answers to a piece of text.
use Rattle.std.specs.Prelude.{◌≡◌, ℕ, ◌≤◌, List, ◌++◌, length, take, Option, Result, Ok, Err}
use Rattle.std.specs.Option.{option_map}
use Rattle.host_io.specs.Faults.{CountsFault}
use Rattle.host_io.specs.declared.sink.SinkFailed.{SinkFailed}

-- The answer to a piece, by a sink that has accepted the bytes told or, where there are none, does
-- not tell them. At the return it tells the bytes now, and its count of faults has gone from before
-- to after.
abbrev pub IsTaken : Option (List ℕ) → Option (List ℕ) → ℕ → ℕ → List ℕ → Result ℕ SinkFailed
    → Type 0
IsTaken told now before after piece (Ok n) =
    (1 ≤ n) × (n ≤ length piece) × (after ≡ before)
    × (now ≡ option_map (λ text. text ++ take n piece) told)
IsTaken told now before after piece (Err e) = CountsFault before after × (now ≡ told)
