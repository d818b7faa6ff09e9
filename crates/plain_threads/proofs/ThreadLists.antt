-- A function of each thread, one by one.
use Rattle.std.proofs.Common.{◌≡◌, ◌<◌, ℕ, zero, suc, ◌+◌, true, List, [], ◌∷◌, ◌++◌, length, map, take, drop, Some, refl, sym, ap, ◌∙◌, arith, slice_get, slice_set, slice_index_or}
use Rattle.std.proofs.lemmas.Option.{slice_get-get_or, get_or_from_slice_get}
use Rattle.machine_types.specs.{PlainState.{Plain, PlainThread, Run, with_status, with_thread}, PlainSteps.{notified, waits_on, wakes}}

read_next : {X : Type 0} (f : X → X) (xs : List X) (i : ℕ) → slice_get (map f (take i xs) ++ drop i xs) i ≡ slice_get xs i
read_next f [] zero = refl
read_next f [] (suc i) = refl
read_next f (x ∷ xs) zero = refl
read_next f (x ∷ xs) (suc i) = read_next f xs i

set_next : {X : Type 0} (f : X → X) (xs : List X) (i : ℕ) (x : X) → slice_get xs i ≡ Some x → slice_set (map f (take i xs) ++ drop i xs) i (f x) ≡ map f (take (suc i) xs) ++ drop (suc i) xs
set_next f [] i x e = cc
set_next f (y ∷ xs) zero x e = let same : y ≡ x = cc in ap (λ z. f z ∷ xs) (sym same)
set_next f (y ∷ xs) (suc i) x e = ap (λ zs. f y ∷ zs) (set_next f xs i x e)

-- one more
pub one_more : {X : Type 0} (f : X → X) (xs items : List X) (i : ℕ) (x y : X) → items ≡ map f (take i xs) ++ drop i xs → i < length xs → x ≡ slice_index_or items i x → y ≡ f x
    → slice_set items i y ≡ map f (take (i + 1) xs) ++ drop (i + 1) xs
one_more f xs items i x y e lt at is =
    let there : slice_get xs i ≡ Some (slice_index_or xs i x) = slice_get-get_or xs i x lt in
    let here : slice_get items i ≡ Some (slice_index_or xs i x) = ap (λ zs. slice_get zs i) e ∙ read_next f xs i ∙ there in
    let same : slice_index_or xs i x ≡ x = sym (get_or_from_slice_get items i (slice_index_or xs i x) x here) ∙ sym at in
    let next : suc i ≡ i + 1 = omega arith in
    ap (λ z. slice_set items i z) is ∙ ap (λ zs. slice_set zs i (f x)) e ∙ set_next f xs i x (there ∙ ap Some same) ∙ ap (λ n. map f (take n xs) ++ drop n xs) next

-- ---- a thread when another one was woken

-- it may have another status now
record IsWoken (xs : List PlainThread) (t u m : ℕ) (x z : PlainThread) : Type 0 where
  now : PlainThread
  at : slice_get (slice_set xs u (wakes m z)) t ≡ Some now
  same : with_status now Run ≡ with_status x Run

still_there : (xs : List PlainThread) (t u m : ℕ) (x z : PlainThread) → slice_get xs t ≡ Some x → slice_get xs u ≡ Some z → IsWoken xs t u m x z
still_there [] t u m x z e o = absurd (cc)
still_there (y ∷ xs) zero zero m x z e o = let same : z ≡ x = cc in record { now = wakes m z; at = refl; same = ap (λ (w : PlainThread). with_status w Run) same }
still_there (y ∷ xs) zero (suc u) m x z e o = record { now = x; at = e; same = refl }
still_there (y ∷ xs) (suc t) zero m x z e o = record { now = x; at = e; same = refl }
still_there (y ∷ xs) (suc t) (suc u) m x z e o = let s = still_there xs t u m x z e o in record { now = s.now; at = s.at; same = s.same }

pub set_woken : (xs new : List PlainThread) (t u m : ℕ) (x z : PlainThread) → slice_get xs t ≡ Some x → slice_get xs u ≡ Some z
    → ((y : PlainThread) → slice_get (slice_set xs u (wakes m z)) t ≡ Some y → new ≡ slice_set (slice_set xs u (wakes m z)) t (with_status y Run))
    → new ≡ slice_set (slice_set xs u (wakes m z)) t (with_status x Run)
set_woken xs new t u m x z e o h =
    let s = still_there xs t u m x z e o in
    h s.now s.at ∙ ap (λ (w : PlainThread). slice_set (slice_set xs u (wakes m z)) t w) s.same

pub wakes_that : (q : Plain) (new : Plain) (t u m : ℕ) (x z : PlainThread) → slice_get q.threads u ≡ Some z → waits_on m z.status ≡ true
    → new ≡ with_thread (with_thread q u (wakes m z)) t (with_status x Run) → notified q t m x (Some u) ≡ Some new
wakes_that q new t u m x z o w e = rw (o, w, e) refl
