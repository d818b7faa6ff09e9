-- Lists of rows that grow.
use Rattle.std.proofs.Common.{◌≡◌, ◌<◌, ℕ, zero, suc, List, [], ◌∷◌, ◌++◌, Some, length, refl, sym, ap, ◌∙◌, subst, arith, slice_get, slice_index_or}
use Rattle.std.specs.List.{AllByRecursion}
use Rattle.machine_types.specs.PlainState.{Plain}
use Rattle.plain_search.specs.declared.row.Row.{Row}
use Rattle.plain_search.specs.Rows.{IsLonger, IsStateIn, AreStatesIn}

module _ {X : Type 0} where
  pub got_longer : (xs zs : List X) (k : ℕ) (y : X) → slice_get xs k ≡ Some y → slice_get (xs ++ zs) k ≡ Some y
  got_longer [] zs k y e = cc
  got_longer (x ∷ xs) zs zero y e = e
  got_longer (x ∷ xs) zs (suc k) y e = got_longer xs zs k y e

  pub got_last : (xs : List X) (y : X) → slice_get (xs ++ y ∷ []) (length xs) ≡ Some y
  got_last [] y = refl
  got_last (x ∷ xs) y = got_last xs y

  pub within : (xs : List X) (k : ℕ) (y : X) → slice_get xs k ≡ Some y → k < length xs
  within [] k y e = cc
  within (x ∷ xs) zero y e = omega arith
  within (x ∷ xs) (suc k) y e = let r = within xs k y e in omega (arith, r)

  pub back_longer : (xs zs : List X) (k : ℕ) (y : X) → k < length xs → slice_get (xs ++ zs) k ≡ Some y → slice_get xs k ≡ Some y
  back_longer [] zs k y l e = absurd (omega (arith, l))
  back_longer (x ∷ xs) zs zero y l e = e
  back_longer (x ∷ xs) zs (suc k) y l e = back_longer xs zs k y (omega (arith, l)) e

  pub got_there : (xs : List X) (i : ℕ) → i < length xs → (x : X) × (slice_get xs i ≡ Some x)
  got_there [] i l = absurd (omega (arith, l))
  got_there (x ∷ xs) zero l = (x, refl)
  got_there (x ∷ xs) (suc i) l = got_there xs i (omega (arith, l))

  pub got_index : (xs : List X) (i : ℕ) (x : X) → i < length xs → x ≡ slice_index_or xs i x → slice_get xs i ≡ Some x
  got_index [] i x l e = absurd (omega (arith, l))
  got_index (y ∷ ys) zero x l e = ap (λ (z : X). Some z) (sym e)
  got_index (y ∷ ys) (suc i) x l e = got_index ys i x (omega (arith, l)) e

  pub append_nil : (xs : List X) → xs ++ [] ≡ xs
  append_nil [] = refl
  append_nil (x ∷ xs) = ap (λ l. x ∷ l) (append_nil xs)

  pub append_more : (xs ys zs : List X) → (xs ++ ys) ++ zs ≡ xs ++ (ys ++ zs)
  append_more [] ys zs = refl
  append_more (x ∷ xs) ys zs = ap (λ l. x ∷ l) (append_more xs ys zs)

  pub all_of_both : (P : X → Type 0) (xs ys : List X) → AllByRecursion P xs → AllByRecursion P ys → AllByRecursion P (xs ++ ys)
  all_of_both P [] ys v w = w
  all_of_both P (x ∷ xs) ys v w = (v.0, all_of_both P xs ys v.1 w)

  pub one_of_all : (P : X → Type 0) (xs : List X) (i : ℕ) (x : X) → AllByRecursion P xs → slice_get xs i ≡ Some x → P x
  one_of_all P [] i x v e = cc
  one_of_all P (y ∷ ys) zero x v e = let same : y ≡ x = cc in subst P same v.0
  one_of_all P (y ∷ ys) (suc i) x v e = one_of_all P ys i x v.1 e

  pub all_weaker : (P Q : X → Type 0) (xs : List X) → ((x : X) → P x → Q x) → AllByRecursion P xs → AllByRecursion Q xs
  all_weaker P Q [] f v = tt
  all_weaker P Q (x ∷ xs) f v = (f x v.0, all_weaker P Q xs f v.1)

  pub first_part : (P : X → Type 0) (xs ys : List X) → AllByRecursion P (xs ++ ys) → AllByRecursion P xs
  first_part P [] ys v = tt
  first_part P (x ∷ xs) ys v = (v.0, first_part P xs ys v.1)

  pub last_part : (P : X → Type 0) (xs ys : List X) → AllByRecursion P (xs ++ ys) → AllByRecursion P ys
  last_part P [] ys v = v
  last_part P (x ∷ xs) ys v = last_part P xs ys v.1

module _ (P : Row → Type 0) where
  pub no_longer : (xs : List Row) → IsLonger P xs xs
  no_longer xs = ([], sym (append_nil xs), tt)

  pub same_longer : (old new : List Row) → new ≡ old → IsLonger P old new
  same_longer old new e = ([], e ∙ sym (append_nil old), tt)

  pub longer_twice : (xs ys zs : List Row) → IsLonger P xs ys → IsLonger P ys zs → IsLonger P xs zs
  longer_twice xs ys zs g h = (g.0 ++ h.0, h.1 ∙ ap (λ l. l ++ h.0) g.1 ∙ append_more xs g.0 h.0, all_of_both P g.0 h.0 g.2 h.2)

  pub longer_by : (xs new : List Row) (y : Row) → P y → new ≡ xs ++ y ∷ [] → IsLonger P xs new
  longer_by xs new y v e = (y ∷ [], e, (v, tt))

  pub all_of : (ys : List Row) → IsLonger P [] ys → AllByRecursion P ys
  all_of ys g = subst (AllByRecursion P) (sym g.1) g.2

  pub all_longer : (old new : List Row) → AllByRecursion P old → IsLonger P old new → AllByRecursion P new
  all_longer old new v g = subst (AllByRecursion P) (sym g.1) (all_of_both P old g.0 v g.2)

  pub still_got : (old new : List Row) (k : ℕ) (r : Row) → IsLonger P old new → slice_get old k ≡ Some r → slice_get new k ≡ Some r
  still_got old new k r g e = ap (λ (xs : List Row). slice_get xs k) g.1 ∙ got_longer old g.0 k r e

  pub got_before : (old new : List Row) (k : ℕ) (r : Row) → IsLonger P old new → k < length old → slice_get new k ≡ Some r → slice_get old k ≡ Some r
  got_before old new k r g l e = back_longer old g.0 k r l (ap (λ (xs : List Row). slice_get xs k) (sym g.1) ∙ e)

  pub still_in : (old new : List Row) (q : Plain) → IsLonger P old new → IsStateIn old q → IsStateIn new q
  still_in old new q g v = (v.0, v.1, still_got old new v.0 v.1 g v.2, v.3)

  pub still_all_in : (old new more : List Row) → IsLonger P old new → AreStatesIn old more → AreStatesIn new more
  still_all_in old new more g v k r e = still_in old new r.plain.state g (v k r e)

pub last_in : (old new : List Row) (r : Row) → new ≡ old ++ r ∷ [] → IsStateIn new r.plain.state
last_in old new r e = (length old, r, ap (λ (xs : List Row). slice_get xs (length old)) e ∙ got_last old r, refl)

-- ---- rows that are moved, from the last one on

pub none_in : (rows : List Row) → AreStatesIn rows []
none_in rows k r e = cc

pub more_in : (P : Row → Type 0) (old new more : List Row) (r : Row) → IsLonger P old new → AreStatesIn old more → IsStateIn new r.plain.state
    → AreStatesIn new (r ∷ more)
more_in P old new more r g v here zero x e = subst (λ (z : Row). IsStateIn new z.plain.state) (same r x e) here
  where
    same : (a b : Row) → Some a ≡ Some b → a ≡ b
    same a b h = cc
more_in P old new more r g v here (suc k) x e = still_in P old new x.plain.state g (v k x e)

pub moved_over : (all was now more : List Row) (r : Row) → all ≡ was ++ more → was ≡ now ++ r ∷ [] → all ≡ now ++ (r ∷ more)
moved_over all was now more r e f = e ∙ ap (λ l. l ++ more) f ∙ append_more now (r ∷ []) more

pub all_moved : (all was more rows : List Row) → all ≡ was ++ more → was ≡ [] → AreStatesIn rows more → AreStatesIn rows all
all_moved all was more rows e f v = subst (AreStatesIn rows) (sym (e ∙ ap (λ l. l ++ more) f)) v
