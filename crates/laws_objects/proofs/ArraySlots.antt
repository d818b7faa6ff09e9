-- Slots without an array that was stored in an owned field, but for coloured ones: along types, starts and edges.
use Rattle.std.proofs.Common.{◌≡◌, ◌≢◌, ℕ, zero, suc, ◌+◌, ◌≤◌, inl, inr, true, List, [], ◌∷◌, length, drop, Option, Some, None, refl, sym, ◌∙◌, subst, arith, if◌then◌else◌, slice_set, slice_index_or}
use Rattle.std.proofs.lemmas.Bool.{cases_Bool}
use Rattle.lists.proofs.TestLaws.{both_are_true}
use Rattle.jvm_types.specs.{Types.{TypeFrame, is_below, same_type, all_pairs}, Verifying.{initialised, after_start}, declared.typing.VType.VType}
use Rattle.laws_programs.proofs.LocalRisen.{same_types}
use Rattle.checked_program.specs.MarkedProgram.{MarkedProgram}
use Rattle.machine_types.specs.{Construction.{IsNoStored, IsArraySlot, SlotsFrom}, OwnedPlaces.Stores, ReadyObjects.out_object, Threads.Frame}
use Rattle.jvm_types.specs.declared.typing.VType.TheVariants as types

-- ---- slots one by one; where there is none its type says nothing, and its value is null

module _ (Is : (place : ℕ) → VType → (v : ℕ) → Type 0) where
  pub from_each : (n : ℕ) (ts : List VType) (vs : List ℕ)
      → ((k m : ℕ) → m ≡ n + k → Is m (slice_index_or ts k types.Top) (slice_index_or vs k 0))
      → SlotsFrom Is n ts vs
  from_each n (t ∷ ts) (v ∷ vs) f =
      (f 0 n (omega arith), from_each (suc n) ts vs (λ k m e. f (suc k) m (omega (arith, e))))
  from_each n ts vs f = tt

  pub each_from : ((k : ℕ) → Is k types.Top 0) → (n : ℕ) (ts : List VType) (vs : List ℕ)
      → length ts ≡ length vs → SlotsFrom Is n ts vs → (k m : ℕ) → m ≡ n + k
      → Is m (slice_index_or ts k types.Top) (slice_index_or vs k 0)
  each_from top n [] [] l a k m e = top m
  each_from top n (t ∷ ts) (v ∷ vs) l a zero m e =
      let same : m ≡ n = omega (arith, e) in subst (λ (i : ℕ). Is i t v) (sym same) a.0
  each_from top n (t ∷ ts) (v ∷ vs) l a (suc k) m e =
      each_from top (suc n) ts vs (omega (arith, l)) a.1 k m (omega (arith, e))
  each_from top n ts vs l a k m e = absurd (omega (arith, l))

  -- without those on top
  pub from_drop : (count n m : ℕ) (ts : List VType) (vs : List ℕ) → m ≡ count + n → SlotsFrom Is n ts vs
      → SlotsFrom Is m (drop count ts) (drop count vs)
  from_drop zero n m ts vs e a =
      let same : m ≡ n = omega (arith, e) in subst (λ (i : ℕ). SlotsFrom Is i ts vs) (sym same) a
  from_drop (suc count) n m (t ∷ ts) [] e a = elim (drop count ts) as (λ (us : List VType). SlotsFrom Is m us []) [ [] ↦ tt | u ∷ us ↦ tt ]
  from_drop (suc count) n m (t ∷ ts) (v ∷ vs) e a = from_drop count (suc n) m ts vs (omega (arith, e)) a.1
  from_drop (suc count) n m [] vs e a = tt

pub from_map : (Is Be : (place : ℕ) → VType → (v : ℕ) → Type 0) → ((k : ℕ) (t : VType) (v : ℕ) → Is k t v → Be k t v)
    → (n : ℕ) (ts : List VType) (vs : List ℕ) → SlotsFrom Is n ts vs → SlotsFrom Be n ts vs
from_map Is Be f n (t ∷ ts) (v ∷ vs) a = (f n t v a.0, from_map Is Be f (suc n) ts vs a.1)
from_map Is Be f n ts vs a = tt

-- ---- what was never stored

pub record StoresFine (stores : Stores) (next : ℕ) : Type 0 where
  pub null : stores 0 ≡ None
  pub out : stores out_object ≡ None
  pub fresh : (v : ℕ) → next ≤ v → stores v ≡ None

-- ---- along types

-- what a slot says of its type stays true of one above it, and where an object is started
pub record AlongTypes (Is : (place : ℕ) → VType → (v : ℕ) → Type 0) : Type 0 where
  pub rises : (k : ℕ) (t u : VType) (v : ℕ) → is_below t u ≡ true → Is k t v → Is k u v
  pub begins : (k class : ℕ) (o t : VType) (v : ℕ) → o ≢ types.Int → o ≢ types.Top → Is k t v
      → Is k (if same_type o t then types.Ref class else t) v

module _ (Is : (place : ℕ) → VType → (v : ℕ) → Type 0) (along : AlongTypes Is) where
  pub edge_from : (n : ℕ) (ts us : List VType) (vs : List ℕ) → all_pairs is_below ts us ≡ true
      → SlotsFrom Is n ts vs → SlotsFrom Is n us vs
  edge_from n (t ∷ ts) (u ∷ us) (v ∷ vs) b a =
      let parts = both_are_true (is_below t u) (all_pairs is_below ts us) b in
      (along.rises n t u v parts.0 a.0, edge_from (suc n) ts us vs parts.1 a.1)
  edge_from n ts [] vs b a = tt
  edge_from n ts us vs b a = first_of (assumption, cc)

  begun_from : (n class : ℕ) (o : VType) (ts : List VType) (vs : List ℕ) → o ≢ types.Int → o ≢ types.Top
      → SlotsFrom Is n ts vs → SlotsFrom Is n (initialised o class ts) vs
  begun_from n class o (u ∷ us) (v ∷ vs) i t a = (along.begins n class o u v i t a.0, begun_from (suc n) class o us vs i t a.1)
  begun_from n class o ts vs i t a = tt

pub no_stored_along : (stores : Stores) → AlongTypes (λ place. IsNoStored stores)
no_stored_along stores = record { rises = λ k t u v b h. rises t u v b h; begins = λ k class o t v i n h. begins class o t v i n h }
  where
    rises : (t u : VType) (v : ℕ) → is_below t u ≡ true → IsNoStored stores t v → IsNoStored stores u v
    rises types.Int types.Int v b h = tt
    rises t types.Top v b h = tt
    rises t u v b h = first_of (assumption, cc)

    -- a type of references
    as_reference : (class : ℕ) (t : VType) (v : ℕ) → t ≢ types.Int → t ≢ types.Top → IsNoStored stores t v → IsNoStored stores (types.Ref class) v
    as_reference class types.Int v i n h = absurd (i refl)
    as_reference class types.Top v i n h = absurd (n refl)
    as_reference class t v i n h = h

    begins : (class : ℕ) (o t : VType) (v : ℕ) → o ≢ types.Int → o ≢ types.Top → IsNoStored stores t v → IsNoStored stores (if same_type o t then types.Ref class else t) v
    begins class o t v i n h = elim (cases_Bool (same_type o t)) [ inl e ↦ let same = same_types o t e in rw e (as_reference class t v (λ z. i (same ∙ z)) (λ z. n (same ∙ z)) h) | inr e ↦ rw e h ]

pub array_along : (c : MarkedProgram) (stores : Stores) (f : Frame) (number : ℕ) → AlongTypes (IsArraySlot c stores f number)
array_along c stores f number =
    let along = no_stored_along stores in
    record {
      rises = λ k t u v b h. record { owned = λ o word is. h.owned o word is; other = λ none. along.rises k t u v b (h.other none) };
      begins = λ k class o t v i n h. record { owned = λ o word is. h.owned o word is; other = λ none. along.begins k class o t v i n (h.other none) };
    }

-- ---- where an `<init>` is started

abbrev pub IsStart : Option (VType × ℕ) → Type 0
IsStart None = Unit {0}
IsStart (Some (types.This, class)) = Unit {0}
IsStart (Some (types.New q, class)) = Unit {0}
IsStart (Some (t, class)) = ⊥

module _ (Is : (place : ℕ) → VType → (v : ℕ) → Type 0) (along : AlongTypes Is) where
  pub stack_begun : (o : Option (VType × ℕ)) → IsStart o → (g : TypeFrame) (n : ℕ) (vs : List ℕ) → SlotsFrom Is n g.stack vs → SlotsFrom Is n (after_start o g).stack vs
  stack_begun None s g n vs a = a
  stack_begun (Some (types.This, class)) s g n vs a = begun_from Is along n class types.This g.stack vs (λ z. cc) (λ z. cc) a
  stack_begun (Some (types.New q, class)) s g n vs a = begun_from Is along n class (types.New q) g.stack vs (λ z. cc) (λ z. cc) a
  stack_begun o s g n vs a = absurd s

  pub locals_begun : (o : Option (VType × ℕ)) → IsStart o → (g : TypeFrame) (n : ℕ) (vs : List ℕ) → SlotsFrom Is n g.locals vs → SlotsFrom Is n (after_start o g).locals vs
  locals_begun None s g n vs a = a
  locals_begun (Some (types.This, class)) s g n vs a = begun_from Is along n class types.This g.locals vs (λ z. cc) (λ z. cc) a
  locals_begun (Some (types.New q, class)) s g n vs a = begun_from Is along n class (types.New q) g.locals vs (λ z. cc) (λ z. cc) a
  locals_begun o s g n vs a = absurd s

-- ---- a local is written

pub local_set : (stores : Stores) (n : ℕ) (ts : List VType) (vs : List ℕ) (k : ℕ) (t : VType) (v : ℕ) → IsNoStored stores t v → SlotsFrom (λ place. IsNoStored stores) n ts vs
    → SlotsFrom (λ place. IsNoStored stores) n (slice_set ts k t) (slice_set vs k v)
local_set stores n (u ∷ ts) (x ∷ vs) zero t v h a = (h, a.1)
local_set stores n (u ∷ ts) (x ∷ vs) (suc k) t v h a = (a.0, local_set stores (suc n) ts vs k t v h a.1)
local_set stores n (u ∷ ts) [] zero t v h a = tt
local_set stores n ts vs k t v h a = tt
