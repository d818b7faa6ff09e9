-- A sum over some of the items of a list.
use Rattle.std.{proofs.Common.{◌≡◌, ◌≢◌, ℕ, zero, suc, ◌+◌, ◌≤◌, false, List, [], ◌∷◌, refl, sym, ap, subst, ◌∙◌, arith, ◌==◌}, specs.List.{AllByRecursion, Contains, IsDistinct, sum_by}}
use Rattle.std.proofs.lemmas.{Bool.Decides.nat_tests, List.Sums.sum_by-cons}

-- a list without one of its items
pub record IsWithout (f : ℕ → ℕ) (u : ℕ) (ns : List ℕ) : Type 0 where
  pub rest : List ℕ
  pub sum : sum_by f ns ≡ f u + sum_by f rest
  pub others : (v : ℕ) → v ≢ u → Contains ns v → Contains rest v

pub without : (f : ℕ → ℕ) (u : ℕ) (ns : List ℕ) → Contains ns u → IsWithout f u ns
without f u [] (k, h, e) = absurd (omega (arith, h))
without f u (n ∷ ns) (zero, h, e) = record {
  rest = ns;
  sum = sum_by-cons f n ns ∙ ap (λ (m : ℕ). f m + sum_by f ns) e;
  others = λ v apart there. behind v apart there;
}
  where
    behind : (v : ℕ) → v ≢ u → Contains (n ∷ ns) v → Contains ns v
    behind v apart (zero, room, is) = absurd (apart (sym is ∙ e))
    behind v apart (suc k, room, is) = (k, omega (arith, room), is)
without f u (n ∷ ns) (suc k, h, e) =
    let m : IsWithout f u ns = without f u ns (k, omega (arith, h), e) in
    record {
      rest = n ∷ m.rest;
      sum = (let sum = m.sum in omega (arith, sum, sum_by-cons f n ns, sum_by-cons f n m.rest));
      others = λ v apart there. kept m v apart there;
    }
  where
    kept : (m : IsWithout f u ns) (v : ℕ) → v ≢ u → Contains (n ∷ ns) v → Contains (n ∷ m.rest) v
    kept m v apart (zero, room, is) = (0, omega arith, is)
    kept m v apart (suc k, room, is) = let there = m.others v apart (k, omega (arith, room), is) in (suc there.0, (let room = there.1 in omega (arith, room)), there.2)

-- ---- of different ones

apart_from : (u : ℕ) (us : List ℕ) (v : ℕ) → AllByRecursion (λ y. (u == y) ≡ false) us → Contains us v → v ≢ u
apart_from u [] v all (k, room, is) = absurd (omega (arith, room))
apart_from u (y ∷ ys) v all (zero, room, is) = λ same. let bad : (u == u) ≡ false = subst (λ (x : ℕ). (u == x) ≡ false) (is ∙ same) all.0 in grind (arith, nat_tests, bad)
apart_from u (y ∷ ys) v all (suc k, room, is) = apart_from u ys v all.1 (k, omega (arith, room), is)

pub sum_of_some : (f : ℕ → ℕ) (us ns : List ℕ) → IsDistinct (λ u v. u == v) us → ((u : ℕ) → Contains us u → Contains ns u) → sum_by f us ≤ sum_by f ns
unfolding IsDistinct
sum_of_some f [] ns distinct there = omega arith
sum_of_some f (u ∷ us) ns distinct there =
    let m : IsWithout f u ns = without f u ns (there u (0, omega arith, refl)) in
    let more : sum_by f us ≤ sum_by f m.rest =
    sum_of_some f us m.rest distinct.1 (λ v among. m.others v (apart_from u us v distinct.0 among) (there v (suc among.0, (let room = among.1 in omega (arith, room)), among.2))) in
    let sum = m.sum in
    omega (arith, more, sum, sum_by-cons f u us)
