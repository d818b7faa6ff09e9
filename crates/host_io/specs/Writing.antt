-- A text that is written whole to a sink.
use Rattle.std.specs.Prelude.{◌≡◌, ℕ, ◌<◌, List, ◌++◌, length, take, Option, Result, Ok, Err}
use Rattle.std.specs.Option.{option_map}
use Rattle.host_io.specs.Faults.{CountsFault}
use Rattle.host_io.specs.declared.sink.SinkFailed.{SinkFailed}

-- A text is written to a sink that told some bytes, and tells the bytes now. Its count of faults
-- goes from before to after. Either the text is accepted whole, or the sink fails and a front of
-- the text was accepted.
abbrev pub IsWritten : {A : Type 0} → Option (List ℕ) → Option (List ℕ) → ℕ → ℕ → List ℕ
    → Result A SinkFailed → Type 0
IsWritten told now before after text (Ok done) =
    (after ≡ before) × (now ≡ option_map (λ t. t ++ text) told)
IsWritten told now before after text (Err e) =
    CountsFault before after
    × ((n : ℕ) × (n < length text) × (now ≡ option_map (λ t. t ++ take n text) told))
