-- The hands of some workers, which hold the threads of a run between them.
use Rattle.std.specs.Prelude.{◌≡◌, ℕ, ◌<◌, ◌≤◌, Bool, true, ◌||◌, List, is_some}
use Rattle.std.specs.List.{list_any}
use Rattle.table_rule.specs.Views.{held_in}
use Rattle.table_runner.specs.Handed.{Handed}

abbrev pub holds : (t : ℕ) → Handed → Bool
holds t h = is_some (held_in h.threads t)

-- the workers below a number are held by some of these hands
abbrev pub AreShared : (n : ℕ) → List Handed → Type 0
AreShared n shares = (t : ℕ) → 0 < t → t < n → list_any (holds t) shares ≡ true

-- each thread up to a number is held, by the first hands or by some of the others
abbrev pub AreTogether : (workers : ℕ) → (first : Handed) → (others : List Handed) → Type 0
AreTogether workers first others =
    (t : ℕ) → t ≤ workers → (holds t first || list_any (holds t) others) ≡ true
