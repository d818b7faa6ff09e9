-- Items that lists contain, by their indexes, and words that are set.
use Rattle.std.proofs.Common.{◌≡◌, ◌≢◌, ◌⊎◌, ℕ, zero, suc, ◌<◌, List, ◌∷◌, map, length, Some, refl, subst, Contains, slice_get, slice_index, slice_set}
use Rattle.std.proofs.lemmas.{Bool.cases_eq, List.{get_or-set_same, get_or-set_other}}
use Rattle.lists.proofs.ListLaws.{same_some}
use Rattle.machine_types.proofs.Lists.{got_contained}
use Rattle.laws_threads.proofs.{Lists.mapped_at, MonitorMoves.contains_got}

pub contained_got : {X : Type 0} (xs : List X) (x : X) (k : Contains xs x) → slice_get xs k.0 ≡ Some x
contained_got xs x k = got_contained xs k.0 x k.1 k.2

pub contains_more : {X : Type 0} (y : X) (xs : List X) (x : X) → Contains xs x → Contains (y ∷ xs) x
contains_more y xs x k = contains_got (y ∷ xs) (suc k.0) x (contained_got xs x k)

pub contains_first : {X : Type 0} (x : X) (xs : List X) → Contains (x ∷ xs) x
contains_first x xs = contains_got (x ∷ xs) 0 x refl

-- ---- each item of a list of which the first is another, and the others are as they were or mapped

pub first_each : {X : Type 0} (P : ℕ → X → Type 0) (y : X) (xs : List X) → P 0 y → ((u : ℕ) (x : X) → slice_get xs u ≡ Some x → P (suc u) x) → (u : ℕ) (z : X) → slice_get (y ∷ xs) u ≡ Some z → P u z
first_each P y xs h k zero z e = subst (P 0) (same_some e) h
first_each P y xs h k (suc u) z e = k u z e

pub mapped_each : {X : Type 0} (P : ℕ → X → Type 0) (y : X) (f : X → X) (xs : List X) → P 0 y
    → ((u : ℕ) (x : X) → slice_get xs u ≡ Some x → P (suc u) (f x)) → (u : ℕ) (z : X) → slice_get (y ∷ map f xs) u ≡ Some z → P u z
mapped_each P y f xs h k = first_each P y (map f xs) h (λ u z e. let from = mapped_at f xs u z e in subst (P (suc u)) from.2 (k u from.0 from.1))

-- ---- two numbers

pub same_or_not : (a b : ℕ) → (a ≡ b) ⊎ (a ≢ b)
same_or_not a b = cases_eq a b

-- ---- words

pub set_here : (words : List ℕ) (w v : ℕ) → w < length words → slice_index (slice_set words w v) w ≡ v
set_here words w v h = get_or-set_same words w v 0 h

pub set_there : (words : List ℕ) (w u v : ℕ) → u ≢ w → slice_index (slice_set words w v) u ≡ slice_index words u
set_there words w u v h = get_or-set_other words w u v 0 h
