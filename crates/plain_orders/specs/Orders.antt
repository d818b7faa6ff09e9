-- Runs of a machine whose steps may come in many orders, and sets of states that cover them all.
use Rattle.std.specs.Prelude.{◌≡◌, ◌≢◌, ℕ, Bool, true, List, [], ◌∷◌, Option, Some, None}
use Rattle.std.specs.Prelude.{option_and_then}

-- the state behind a list of steps; None: one of them is no step
abbrev pub all_steps : {S A : Type 0} → (S → A → Option S) → S → List A → Option S
all_steps step s [] = Some s
all_steps step s (a ∷ xs) = option_and_then (λ r. all_steps step r xs) (step s a)

-- local steps lead from a state to another
abbrev pub IsLocalRun : {S A : Type 0} → (S → A → Option S) → (S → A → Bool) → S → List A → S
    → Type 0
IsLocalRun step local s [] r = s ≡ r
IsLocalRun {S} step local s (a ∷ xs) r =
    (local s a ≡ true) × (x : S) × (step s a ≡ Some x) × IsLocalRun step local x xs r

abbrev pub LeadsLocally : {S A : Type 0} → (S → A → Option S) → (S → A → Bool) → S → S → Type 0
LeadsLocally {S} {A} step local s r = (xs : List A) × IsLocalRun step local s xs r

-- A local step touches the thread alone that makes it: it comes to the same before and behind a
-- step of another thread, and while a thread has a local step it has no other one.
pub record AreLocal {S A : Type 0} (who : A → ℕ) (step : S → A → Option S) (local : S → A → Bool)
    : Type 0 where
  pub swaps : (s x y : S) (a b : A) → local s a ≡ true → who a ≢ who b → step s a ≡ Some x
      → step s b ≡ Some y
      → (local y a ≡ true) × (z : S) × (step y a ≡ Some z) × (step x b ≡ Some z)
  pub alone : (s y : S) (a b : A) → local s a ≡ true → who a ≡ who b → step s b ≡ Some y → a ≡ b

-- A set of states covers the runs from a state: local steps lead from there into it, and behind
-- each step from one of its states local steps lead into it again.
pub record Covers {S A : Type 0} (step : S → A → Option S) (local : S → A → Bool) (start : S)
    (seen : S → Type 0) : Type 0 where
  pub begins : (r : S) × LeadsLocally step local start r × seen r
  pub goes_on : (r y : S) (a : A) → seen r → step r a ≡ Some y
      → (z : S) × LeadsLocally step local y z × seen z

-- no step is left
abbrev pub HasNoStep : {S A : Type 0} → (S → A → Option S) → S → Type 0
HasNoStep {S} {A} step s = (a : A) → step s a ≡ None
