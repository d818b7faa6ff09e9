-- Which names are taken, by the numbers of classes.
use Rattle.std.proofs.Common.{◌≡◌, ℕ, zero, suc, ◌+◌, ◌<◌, ◌≤◌, Bool, true, false, cond, List, [], ◌∷◌, take, Option, Some, None, is_some, refl, ap, ◌∙◌, arith, bytes_eq, nat_lt, ◌||◌}
use Rattle.std.{specs.{List.{list_any, position_from}, Option.option_or}, proofs.lemmas.Bool.{lt-ltb, le-ltb}}
use Rattle.jvm_types.{specs.{ClassNames.{numbered_names, system_name, named_class}, LinkFaults.is_taken}, proofs.KindLaws.place_in}
use Rattle.link_scope.specs.FileTexts.{is_before}

-- ---- the first place that passes

below : Option ℕ → ℕ → Bool
below None n = false
below (Some k) n = nat_lt k n

none_below : (o : Option ℕ) (m : ℕ) → ((n : ℕ) → o ≡ Some n → m ≤ n) → below o m ≡ false
unfolding below
none_below None m h = refl
none_below (Some n) m h = le-ltb n m (h n refl)

module _ {X : Type 0} (p : X → Bool) where
  any_by : (b : Bool) (k : ℕ) (o : Option ℕ) (c : Bool) → is_some o ≡ c → is_some (cond b (Some k) o) ≡ (b || c)
  any_by true k o c e = refl
  any_by false k o c e = e

  -- a place is found where one passes
  any_some : (k : ℕ) (xs : List X) → is_some (position_from p k xs) ≡ list_any p xs
  any_some k [] = refl
  any_some k (x ∷ xs) = any_by (p x) k (position_from p (k + 1) xs) (list_any p xs) (any_some (k + 1) xs)

  take_by : (b : Bool) (k j : ℕ) (o : Option ℕ) (c : Bool) → below o (k + 1 + j) ≡ c → below (cond b (Some k) o) (k + suc j) ≡ (b || c)
  unfolding below
  take_by true k j o c e = lt-ltb k (k + suc j) (omega arith)
  take_by false k j o c e = ap (λ (n : ℕ). below o n) (let m : k + suc j ≡ k + 1 + j = omega arith in m) ∙ e

  -- a place among the first is found where one of them passes
  take_some : (k : ℕ) (xs : List X) (j : ℕ) → below (position_from p k xs) (k + j) ≡ list_any p (take j xs)
  unfolding below
  take_some k [] zero = refl
  take_some k [] (suc j) = refl
  take_some k (x ∷ xs) zero = none_below (position_from p k (x ∷ xs)) (k + 0) (λ n e. omega (arith, (place_in p k (x ∷ xs) n e).0))
  take_some k (x ∷ xs) (suc j) = take_by (p x) k j (position_from p (k + 1) xs) (list_any p (take j xs)) (take_some (k + 1) xs j)

-- ---- names

before_is_below : (o : Option ℕ) (file : ℕ) → is_before o file ≡ below o (17 + file)
unfolding below
before_is_below None file = refl
before_is_below (Some n) file = refl

module _ (names : List (List ℕ)) (name : List ℕ) (file : ℕ) where
  test : List ℕ → Bool
  test = bytes_eq name

  by_numbered : (o : Option ℕ) → ((n : ℕ) → o ≡ Some n → n < 17 + file) → below (option_or o (position_from test 17 names)) (17 + file) ≡ (is_some o || list_any test (take file names))
  unfolding below
  by_numbered None h = take_some test 17 names file
  by_numbered (Some n) h = lt-ltb n (17 + file) (h n refl)

  by_system : (b c d : Bool) (o : Option ℕ) → below o (17 + file) ≡ (c || d) → below (cond b (Some 0) o) (17 + file) ≡ ((b || c) || d)
  unfolding below
  by_system true c d o e = lt-ltb 0 (17 + file) (omega arith)
  by_system false c d o e = e

  pub taken : is_before (named_class names name) file ≡ is_taken (take file names) name
  unfolding test
  taken = before_is_below (named_class names name) file ∙ by_system (bytes_eq name system_name) (list_any (bytes_eq name) numbered_names) (list_any (bytes_eq name) (take file names)) _
      (by_numbered (position_from (bytes_eq name) 1 numbered_names) (λ n e. omega (arith, (place_in (bytes_eq name) 1 numbered_names n e).1))
      ∙ ap (λ (b : Bool). b || list_any (bytes_eq name) (take file names)) (any_some (bytes_eq name) 1 numbered_names))
