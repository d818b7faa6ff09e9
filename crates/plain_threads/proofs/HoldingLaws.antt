-- The entry of a monitor, by the place at which it is found.
use Rattle.std.proofs.Common.{◌≡◌, ℕ, zero, suc, ◌+◌, ◌<◌, Bool, true, false, not, List, [], ◌∷◌, ◌++◌, length, get_or, take, drop, Option, Some, None, refl, sym, ap, ◌∙◌, arith, position, slice_set, if◌then◌else◌, ◌==◌, IsSome}
use Rattle.std.{specs.List.{position_from, remove}, proofs.lemmas.{Iterator.Adapters.position_from-zero, List.Quantifiers.position-Some}}
use Rattle.machine_types.specs.PlainState.{Holding, holding_at, with_holding, without_holding}
use Rattle.plain_memory.proofs.FirstOnes.{found_first}

abbrev pub is_of : (m : ℕ) → Holding → Bool
is_of m h = h.monitor == m

pub holding_found : (e : Holding) (hs : List Holding) (i : ℕ) → position (λ h. h.monitor == e.monitor) hs ≡ Some i → slice_set hs i e ≡ with_holding e hs
holding_found e hs i is =
    let f = position-Some (λ h. h.monitor == e.monitor) hs i e is in
    sym (found_first (λ h. h.monitor == e.monitor) (λ h. e) (λ hs. with_holding e hs) (λ a more. refl) hs i e f.0 f.1 f.2)

-- ---- where there is none

none_more : (test : Bool) (n : ℕ) (more : Option ℕ) → (if test then Some n else more) ≡ None → (test ≡ false) × (more ≡ None)
none_more true n more e = absurd (cc)
none_more false n more e = (refl, e)

none_put : (e : Holding) (hs : List Holding) (n : ℕ) → position_from (λ h. h.monitor == e.monitor) n hs ≡ None → hs ++ e ∷ [] ≡ with_holding e hs
none_put e [] n is = refl
none_put e (h ∷ hs) n is =
    let none = none_more (h.monitor == e.monitor) n (position_from (λ h. h.monitor == e.monitor) (n + 1) hs) is in
    rw none.0 (ap (λ (rest : List Holding). h ∷ rest) (none_put e hs (n + 1) none.1))

pub holding_added : (e : Holding) (hs : List Holding) → position (λ h. h.monitor == e.monitor) hs ≡ None → hs ++ e ∷ [] ≡ with_holding e hs
holding_added e hs is = none_put e hs 0 (sym (position_from-zero (λ h. h.monitor == e.monitor) hs) ∙ is)

none_at : (m : ℕ) (hs : List Holding) (n : ℕ) → position_from (λ h. h.monitor == m) n hs ≡ None → holding_at hs m ≡ None
none_at m [] n is = refl
none_at m (h ∷ hs) n is =
    let none = none_more (h.monitor == m) n (position_from (λ h. h.monitor == m) (n + 1) hs) is in
    rw none.0 (none_at m hs (n + 1) none.1)

pub no_holding : (m : ℕ) (hs : List Holding) → position (λ h. h.monitor == m) hs ≡ None → IsSome (holding_at hs m) → ⊥
no_holding m hs is some = let none = none_at m hs 0 (sym (position_from-zero (λ h. h.monitor == m) hs) ∙ is) in not_some (holding_at hs m) none some
  where
    not_some : (o : Option Holding) → o ≡ None → IsSome o → ⊥
    not_some None e s = cc
    not_some (Some h) e s = cc

none_without : (m : ℕ) (hs : List Holding) (n : ℕ) → position_from (λ h. h.monitor == m) n hs ≡ None → hs ≡ without_holding m hs
none_without m [] n is = refl
none_without m (h ∷ hs) n is =
    let none = none_more (h.monitor == m) n (position_from (λ h. h.monitor == m) (n + 1) hs) is in
    rw none.0 (ap (λ (rest : List Holding). h ∷ rest) (none_without m hs (n + 1) none.1))

pub nothing_to_remove : (m : ℕ) (hs : List Holding) → position (λ h. h.monitor == m) hs ≡ None → hs ≡ without_holding m hs
nothing_to_remove m hs is = none_without m hs 0 (sym (position_from-zero (λ h. h.monitor == m) hs) ∙ is)

-- ---- one entry fewer

one_fewer : (m : ℕ) (hs : List Holding) (i : ℕ) (d : Holding) → i < length hs → ((get_or hs i d).monitor == m) ≡ true → without_holding m (take i hs ++ drop (suc i) hs) ≡ without_holding m hs
one_fewer m [] i d l t = absurd (omega (arith, l))
one_fewer m (h ∷ hs) zero d l t = rw t refl
one_fewer m (h ∷ hs) (suc i) d l t = by_kept (not (h.monitor == m)) (one_fewer m hs i d (omega (arith, l)) t)
  where
    by_kept : (b : Bool) → without_holding m (take i hs ++ drop (suc i) hs) ≡ without_holding m hs
        → (if b then h ∷ without_holding m (take i hs ++ drop (suc i) hs) else without_holding m (take i hs ++ drop (suc i) hs)) ≡ (if b then h ∷ without_holding m hs else without_holding m hs)
    by_kept true e = ap (λ (rest : List Holding). h ∷ rest) e
    by_kept false e = e

pub removed_one : (m : ℕ) (hs : List Holding) (i : ℕ) (d : Holding) → position (λ h. h.monitor == m) hs ≡ Some i → without_holding m (remove hs i) ≡ without_holding m hs
removed_one m hs i d is =
    let f = position-Some (λ h. h.monitor == m) hs i d is in
    one_fewer m hs i d f.0 f.1
