-- A word that is read.
use Rattle.std.{proofs.{Common.{◌≡◌, ℕ, List, slice_get, slice_index}, lemmas.Option.unwrap_or-slice_get}, specs.Prelude.unwrap_or}

pub word_read : (words : List ℕ) (place : ℕ) → unwrap_or (slice_get words place) 0 ≡ slice_index words place
word_read words place = unwrap_or-slice_get words place 0
