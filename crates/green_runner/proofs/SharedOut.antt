-- Hands that are given to workers, and taken in again.
use Rattle.std.proofs.Common.{◌≡◌, ℕ, zero, suc, ◌+◌, ◌<◌, Bool, true, false, List, [], ◌∷◌, ◌++◌, length, take, length-append, Option, Some, None, is_some, refl, sym, ap, subst, ◌∙◌, arith, IsSome, ◌||◌, slice_index_or, slice_set}
use Rattle.std.{specs.{List.{All, list_any}, Option.option_or}, proofs.lemmas.List.Folds.list_any-append}
use Rattle.atomic_table.specs.Seated.{TableId}
use Rattle.lists.proofs.TestLaws.{first_true, or_false, second_true}
use Rattle.checked_program.specs.MarkedProgram.{MarkedProgram}
use Rattle.machine_types.specs.{Threads.Thread, declared.config.Config.Config}
use Rattle.table_rule.specs.Views.{HoldsAll, held_in}
use Rattle.table_runner.{specs.{Handed.{Handed, IsTableOf}, Running.{AreSame, RestOf}, Sharing.AreJoined}, proofs.SameHands.of_still}
use Rattle.green_runner.specs.Shares.{AreShared, AreTogether, holds}
use mathlib.Core.Logic.{dite}
use native.Mathlib.Decide.{ℕ_discrete}

-- ---- two hands that are joined

or_swap : (a b r : Bool) → ((a || b) || r) ≡ ((a || r) || b)
or_swap true b r = refl
or_swap false true true = refl
or_swap false true false = refl
or_swap false false true = refl
or_swap false false false = refl

some_or : (o p : Option Thread) → is_some (option_or o p) ≡ (is_some o || is_some p)
some_or (Some x) p = refl
some_or None p = refl

holds_joined : (t : ℕ) (h w after : Handed) → AreJoined h w after → holds t after ≡ (holds t h || holds t w)
holds_joined t h w after j = ap is_some (j.threads t) ∙ some_or (held_in h.threads t) (held_in w.threads t)

pub table_joined : (table : TableId) (c : MarkedProgram) (cfg : Config) (h w after : Handed) → AreJoined h w after → IsTableOf table c cfg h → IsTableOf table c cfg after
table_joined table c cfg h w after j of = subst (IsTableOf table c cfg) (sym j.rest) of

-- ---- a worker gets a thread

-- as the first
pub any_pushed : (t : ℕ) (shares : List Handed) (one : Handed) → list_any (holds t) (shares ++ one ∷ []) ≡ (list_any (holds t) shares || holds t one)
any_pushed t shares one = list_any-append (holds t) shares (one ∷ []) ∙ ap (λ (b : Bool). list_any (holds t) shares || b) (or_false (holds t one))

-- as one more
pub any_joined : (t : ℕ) (shares : List Handed) (k : ℕ) (d one after : Handed) → k < length shares → AreJoined (slice_index_or shares k d) one after
    → list_any (holds t) (slice_set shares k after) ≡ (list_any (holds t) shares || holds t one)
any_joined t [] k d one after lt j = absurd (omega (arith, lt))
any_joined t (h ∷ shares) zero d one after lt j = ap (λ (b : Bool). b || list_any (holds t) shares) (holds_joined t h one after j) ∙ or_swap (holds t h) (holds t one) (list_any (holds t) shares)
any_joined t (h ∷ shares) (suc k) d one after lt j = ap (λ (b : Bool). holds t h || b) (any_joined t shares k d one after (omega (arith, lt)) j) ∙ regroup (holds t h) (list_any (holds t) shares) (holds t one)
  where
    regroup : (a b r : Bool) → (a || (b || r)) ≡ ((a || b) || r)
    regroup true b r = refl
    regroup false b r = refl

pub shared_more : (n : ℕ) (shares more : List Handed) (one : Handed) → AreShared (n + 1) shares
    → ((t : ℕ) → list_any (holds t) more ≡ (list_any (holds t) shares || holds t one)) → holds (n + 1) one ≡ true
    → AreShared ((n + 1) + 1) more
shared_more n shares more one k any here t above below = dite (ℕ_discrete t (n + 1))
    (λ same. any t ∙ second_true (list_any (holds t) shares) (holds t one) (ap (λ m. holds m one) same ∙ here))
    (λ other. any t ∙ first_true (list_any (holds t) shares) (holds t one) (k t above (omega (arith, below, other))))

-- ---- the workers have run

pub any_same : (t : ℕ) (xs ys : List Handed) → length ys ≡ length xs
    → ((i : ℕ) (d : Handed) → i < length xs → AreSame (slice_index_or xs i d) (slice_index_or ys i d))
    → list_any (holds t) ys ≡ list_any (holds t) xs
any_same t [] [] e k = refl
any_same t [] (y ∷ ys) e k = absurd (omega (arith, e))
any_same t (x ∷ xs) [] e k = absurd (omega (arith, e))
any_same t (x ∷ xs) (y ∷ ys) e k =
    let one : holds t y ≡ holds t x = (k 0 x (omega arith)).numbers t in
    ap (λ (b : Bool). b || list_any (holds t) ys) one
    ∙ ap (λ (b : Bool). holds t x || b) (any_same t xs ys (omega (arith, e)) (λ i d lt. k (suc i) d (omega (arith, lt))))

pub shared_still : (n : ℕ) (xs ys : List Handed) → length ys ≡ length xs
    → ((i : ℕ) (d : Handed) → i < length xs → AreSame (slice_index_or xs i d) (slice_index_or ys i d))
    → AreShared n xs → AreShared n ys
shared_still n xs ys e k shared t above below = any_same t xs ys e k ∙ shared t above below

pub tables_still : (table : TableId) (c : MarkedProgram) (cfg : Config) (xs ys : List Handed) → length ys ≡ length xs
    → ((i : ℕ) (d : Handed) → i < length xs → AreSame (slice_index_or xs i d) (slice_index_or ys i d))
    → All (IsTableOf table c cfg) xs → All (IsTableOf table c cfg) ys
tables_still table c cfg xs ys e k of i d lt =
    of_still table c cfg (slice_index_or xs i d) (slice_index_or ys i d) (k i d (omega (arith, lt, e))) (of i d (omega (arith, lt, e)))

-- ---- their hands are taken in

pub together_first : (table : TableId) (c : MarkedProgram) (cfg : Config) (n : ℕ) (first : Option Thread) (h : Handed) (shares : List Handed)
    → RestOf table c cfg (n + 1) first h → AreShared (n + 1) shares → AreTogether n h shares
together_first table c cfg n first h shares r k zero le = first_true (holds 0 h) (list_any (holds 0) shares) (ap is_some r.first_is ∙ r.some)
together_first table c cfg n first h shares r k (suc t) le = second_true (holds (suc t) h) (list_any (holds (suc t)) shares) (k (suc t) (omega arith) (omega (arith, le)))

pub together_joined : (n : ℕ) (h w after : Handed) (before rest : List Handed) → before ≡ rest ++ w ∷ [] → AreJoined h w after
    → AreTogether n h before → AreTogether n after rest
together_joined n h w after before rest is j k t le =
    ap (λ (b : Bool). b || list_any (holds t) rest) (holds_joined t h w after j)
    ∙ regroup (holds t h) (holds t w) (list_any (holds t) rest)
    ∙ ap (λ (b : Bool). holds t h || b) (sym (any_pushed t rest w))
    ∙ ap (λ (ws : List Handed). holds t h || list_any (holds t) ws) (sym is) ∙ k t le
  where
    regroup : (a b r : Bool) → ((a || b) || r) ≡ (a || (r || b))
    regroup true b r = refl
    regroup false true true = refl
    regroup false true false = refl
    regroup false false true = refl
    regroup false false false = refl

pub all_taken_in : (c : MarkedProgram) (h : Handed) (shares : List Handed) → shares ≡ [] → AreTogether c.program.workers h shares → HoldsAll c h.threads
all_taken_in c h shares none k t le = sym (or_false (holds t h)) ∙ ap (λ (ws : List Handed). holds t h || list_any (holds t) ws) (sym none) ∙ k t le

-- thread 0 stays with the first hands
pub first_joined : (h w after : Handed) → AreJoined h w after → IsSome (held_in h.threads 0) → held_in after.threads 0 ≡ held_in h.threads 0
first_joined h w after j some = j.threads 0 ∙ some_first (held_in h.threads 0) some
  where
    some_first : (o : Option Thread) → IsSome o → option_or o (held_in w.threads 0) ≡ o
    some_first None e = absurd (let bad : false ≡ true = e in cc)
    some_first (Some x) e = refl

pub front_of : (P : Handed → Type 0) (before rest : List Handed) (w : Handed) → before ≡ rest ++ w ∷ [] → All P before → All P rest
front_of P before rest w is k i d lt = subst P (at rest i lt) (subst (λ (ws : List Handed). P (slice_index_or ws i d)) is (k i d (omega (arith, lt, ap length is ∙ length-append rest (w ∷ [])))))
  where
    at : (xs : List Handed) (j : ℕ) → j < length xs → slice_index_or (xs ++ w ∷ []) j d ≡ slice_index_or xs j d
    at [] j less = absurd (omega (arith, less))
    at (x ∷ xs) zero less = refl
    at (x ∷ xs) (suc j) less = at xs j (omega (arith, less))

pub last_of : (P : Handed → Type 0) (before rest : List Handed) (w : Handed) → before ≡ rest ++ w ∷ [] → All P before → P w
last_of P before rest w is k = subst P (at rest) (subst (λ (ws : List Handed). P (slice_index_or ws (length rest) w)) is (k (length rest) w (omega (arith, ap length is ∙ length-append rest (w ∷ [])))))
  where
    at : (xs : List Handed) → slice_index_or (xs ++ w ∷ []) (length xs) w ≡ w
    at [] = refl
    at (x ∷ xs) = at xs

front_taken : (xs ys : List Handed) → take (length xs) (xs ++ ys) ≡ xs
front_taken [] [] = refl
front_taken [] (y ∷ ys) = refl
front_taken (x ∷ xs) ys = ap (λ zs. x ∷ zs) (front_taken xs ys)

-- what the workers leave, written back
pub all_together : (workers : ℕ) (h : Handed) (ys zs : List Handed) (n : ℕ) → n ≡ length ys → AreTogether workers h ys
    → AreTogether workers h (take n (ys ++ zs))
all_together workers h ys zs n e k = subst (AreTogether workers h) (sym (ap (λ m. take m (ys ++ zs)) e ∙ front_taken ys zs)) k
