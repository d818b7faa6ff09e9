-- How far a call is, as its view goes on.
use Rattle.std.proofs.Common.{◌≡◌, ◌≢◌, ℕ, suc, ◌*◌, ◌<◌, ◌≤◌, List, [], ◌∷◌, ◌++◌, length, take, drop, Bool, Some, refl, sym, ap, subst, ◌∙◌, slice_get, slice_set, slice_index_or, arith, is_some, drop-cons}
use Rattle.std.{specs.Prelude.unwrap_or, proofs.{Math.Seq.{take-suc, take-suc-set}, lemmas.{List.length-take-le, Option.{get_or_from_slice_get, slice_get_within}}}}
use Rattle.atomic_table.specs.Seated.{TableId}
use Rattle.solero_cell.specs.{Attempts.{IsBehindGot, IsBehindChanged}, CellViews.{IsStill, record_of, has_loaded, has_looked, forgot, has_read, has_stored, one_stored, taken_in}}
use Rattle.solero_cell.specs.{Histories.{AllStand, AreOfOne, IsLast, IsRecordSeen, RecordStands}, Stages.{IsSeatAt, IsLoading, IsStoring}}
use Rattle.solero_cell.{specs.{Steps.{HasCompared, EndsAttempt, HasRead, note_of, storing_of, attempt_ended}, declared.views.{Moment.TheVariants.AtRest, Record.Record, Storing.Storing, View.View}}, proofs.{Knowing.pair, Standing.{all_left, all_right}}}

-- ---- the seat stays at its table

pub seat_on : (table : TableId) (o : Record) (seat seat' : TableId) (v w : View) → seat' ≡ seat → w.opening ≡ v.opening → w.share ≡ v.share
    → IsSeatAt table o seat v → IsSeatAt table o seat' w
seat_on table o seat seat' v w e opening share s = record {
  of = e ∙ s.of;
  opening_is = opening ∙ s.opening_is;
  share = subst (λ n. 0 < n) (ap (λ z. z.parts) (sym share)) s.share;
  words = s.words;
  few = s.few;
}

-- ---- loads

pub loading_on : (i : ℕ) (xs : List ℕ) (v w : View) → w ≡ record v { loaded = take i xs } → i ≤ length xs → IsLoading 0 v → IsLoading i w
loading_on i xs v w e le is = subst (IsLoading i) (sym e) (record { noted = is.noted; loaded = length-take-le i xs le; storing = is.storing; joining = is.joining })

pub load_on : (i x : ℕ) (xs : List ℕ) (v w w' : View) → w ≡ record v { loaded = take i xs } → i < length xs → w' ≡ has_loaded x w
    → w' ≡ record v { loaded = take (suc i) (slice_set xs i x) }
load_on i x xs v w w' e lt e' = e' ∙ ap (has_loaded x) e ∙ ap (λ l. record v { loaded = l }) (sym (take-suc-set xs i x lt))

-- a list of one value, by that value
pub only_value : (xs ys : List ℕ) → length xs ≡ 1 → length ys ≡ 1 → slice_set xs 0 (slice_index_or ys 0 0) ≡ ys
only_value (x ∷ []) (y ∷ []) a b = refl
only_value [] ys a b = absurd (omega (arith, a))
only_value (x ∷ z ∷ xs) ys a b = absurd (omega (arith, a))
only_value xs [] a b = absurd (omega (arith, b))
only_value xs (y ∷ z ∷ ys) a b = absurd (omega (arith, b))

-- ---- stores

drop_first : (xs : List ℕ) (i x : ℕ) → slice_get xs i ≡ Some x → drop i xs ≡ x ∷ drop (suc i) xs
drop_first xs i x e = drop-cons xs i 0 (slice_get_within xs i x e) ∙ ap (λ z. z ∷ drop (suc i) xs) (get_or_from_slice_get xs i x 0 e)

take_next : (xs : List ℕ) (i x : ℕ) → slice_get xs i ≡ Some x → take i xs ++ x ∷ [] ≡ take (suc i) xs
take_next xs i x e = sym (take-suc xs i 0 (slice_get_within xs i x e) ∙ ap (λ z. take i xs ++ z ∷ []) (get_or_from_slice_get xs i x 0 e))

abbrev at : (i : ℕ) → List ℕ → View → View
at i xs v = record v { storing = Some (pair (take i xs) (drop i xs)) }

pub storing_on : (i x : ℕ) (xs : List ℕ) (v w : View) → w ≡ at i xs v → slice_get xs i ≡ Some x → i ≤ length xs → IsStoring 0 v
    → IsStoring i w × (slice_get (storing_of w).left 0 ≡ Some x)
storing_on i x xs v w e g le is = subst (λ u. IsStoring i u × (slice_get (storing_of u).left 0 ≡ Some x)) (sym e) (
  record { noted = is.noted; storing = refl; stored = length-take-le i xs le; loaded = is.loaded; joining = is.joining },
  ap (λ l. slice_get l 0) (drop_first xs i x g),
)

pub store_on : (i x : ℕ) (xs : List ℕ) (v w w' : View) → w ≡ at i xs v → slice_get xs i ≡ Some x → w' ≡ has_stored (storing_of w) w
    → w' ≡ at (suc i) xs v
store_on i x xs v w w' e g e' =
    let one : one_stored (pair (take i xs) (drop i xs)) ≡ pair (take (suc i) xs) (drop (suc i) xs) =
    ap (λ l. one_stored (pair (take i xs) l)) (drop_first xs i x g) ∙ ap (λ l. pair l (drop (suc i) xs)) (take_next xs i x g) in
    e' ∙ ap (λ u. has_stored (storing_of u) u) e ∙ ap (λ (q : Storing). record v { storing = Some q }) one

-- ---- what is seen stays so for a view with the same records

pub seen_as : (v w : View) (r : Record) → v.opening ≡ w.opening → v.writes ≡ w.writes → v.latest ≡ w.latest → IsRecordSeen v r → IsRecordSeen w r
seen_as v w r opening writes latest s = record {
  history = s.history;
  own = record {
    writes = subst (λ l. AllStand w.opening s.history l) writes (subst (λ o. AllStand o s.history v.writes) opening s.own.writes);
    latest = subst (λ l. RecordStands w.opening s.history l) latest (subst (λ o. RecordStands o s.history v.latest) opening s.own.latest);
  };
  last = subst (λ o. IsLast o s.history r) opening s.last;
}

-- what was loaded is no more there
pub forgot_still : (v : View) → v.loaded ≡ [] → forgot v ≡ v
forgot_still v e = ap (λ l. record v { loaded = l }) (sym e)

-- ---- an attempt

pub begin_loading : (v : View) (c : ℕ) → v.note ≡ Some c → IsStill v → IsLoading 0 v
begin_loading v c n still = record { noted = ap is_some n; loaded = ap length still.loaded; storing = still.storing; joining = still.joining }

pub all_loaded : (n : ℕ) (xs : List ℕ) (v w : View) (c : ℕ) → w ≡ record v { loaded = xs } → length xs ≡ n → v.note ≡ Some c → IsStill v → IsLoading n w
all_loaded n xs v w c e l note still = subst (IsLoading n) (sym e) (record { noted = ap is_some note; loaded = l; storing = still.storing; joining = still.joining })

pub note_is : (v : View) (c : ℕ) → v.note ≡ Some c → note_of v ≡ c
note_is v c n = ap (λ p. unwrap_or p 0) n

pub behind_got : (v u now : View) (c : ℕ) (xs : List ℕ) → u ≡ record v { loaded = xs } → v.note ≡ Some c → IsStill v → HasRead u now → IsBehindGot v c xs now
behind_got v u now c xs e n still h =
    let k : HasRead (record v { loaded = xs }) now = subst (λ (x : View). HasRead x now) e h in
    let count = note_is v c n in
    let seen : IsRecordSeen (record v { loaded = xs }) (record_of c xs) = subst (λ (m : ℕ). IsRecordSeen (record v { loaded = xs }) (record_of m xs)) count k.seen in
    record {
      place = k.place;
      view = k.view ∙ ap (λ (m : ℕ). has_read (record_of m xs) (has_looked k.place (AtRest m) (forgot v))) count ∙ ap (λ (u : View). has_read (record_of c xs) (has_looked k.place (AtRest c) u)) (forgot_still v still.loaded);
      seen = seen_as (record v { loaded = xs }) v (record_of c xs) refl refl refl seen;
    }

pub behind_changed : (b : Bool) (v u now : View) (c word found : ℕ) (xs : List ℕ) → u ≡ record v { loaded = xs } → IsStill v
    → EndsAttempt b u found now → word ≡ 4 * c → word ≢ found → IsBehindChanged b v c word found now
behind_changed b v u now c word found xs e still h w d = record {
  place = h.place;
  moment = h.moment;
  view = h.view ∙ ap (λ (x : View). attempt_ended b h.place h.moment (forgot x)) e ∙ ap (attempt_ended b h.place h.moment) (forgot_still v still.loaded);
  word_is = w;
  found_is = h.word_is;
  differ = d;
}

-- ---- a join

pub of_one : (v w u now : View) → u ≡ taken_in v w → HasCompared u now → AreOfOne v w
of_one v w u now e h =
    let k : HasCompared (taken_in v w) now = subst (λ (x : View). HasCompared x now) e h in
    record {
      history = k.history;
      mine = record { writes = all_left v.opening k.history v.writes w.writes k.own.writes; latest = k.own.latest };
      other = record { writes = all_right v.opening k.history v.writes w.writes k.own.writes; latest = k.other };
    }
