-- Objects that lie apart, so that a place is found by halves.
use Rattle.std.specs.Prelude.{ℕ, ◌<◌, ◌≤◌, List, length, slice_index_or}
use Rattle.std.specs.List.{All, AllPairs}
use Rattle.machine_types.specs.PlainMemory.{Object, object_end}

-- each object ends at or before the reference of each one behind it
abbrev pub ObjectsLieApart : List Object → Type 0
ObjectsLieApart os = AllPairs (λ o b. object_end o ≤ b.reference) os

-- each object ends at or before a number
abbrev pub EndBefore : (n : ℕ) → List Object → Type 0
EndBefore n os = All (λ o. object_end o ≤ n) os

-- so an object that is added with this number for its reference lies apart from them
pub record AreInOrder (os : List Object) (next : ℕ) : Type 0 where
  pub apart : ObjectsLieApart os
  pub before : EndBefore next os

-- only the object of this number may have a place: each one before it ends at or before the place,
-- and each one behind it begins behind the place
pub record IsOnlyOne (os : List Object) (place number : ℕ) : Type 0 where
  pub before : (k : ℕ) (d : Object) → k < number → k < length os
      → object_end (slice_index_or os k d) ≤ place
  pub behind : (k : ℕ) (d : Object) → number < k → k < length os
      → place < (slice_index_or os k d).reference
