-- What each view knows, when the words or the history change.
use Rattle.std.proofs.Common.{◌≡◌, ℕ, ◌*◌, ◌<◌, ◌≤◌, inl, inr, List, [], ◌∷◌, ◌++◌, length, length-append, take, Option, Some, None, refl, sym, ap, subst, ◌∙◌, arith, slice_index, IfSome, IsSome, is_some, unwrap_or, true, false}
use Rattle.solero_cell.specs.{CellRules.{cell_values, IsUnderWay, SeatKnowledge, SeatFits, one_if, storing_count}, Histories.{History, last_count, RecordStands, OwnStand}}
use Rattle.solero_cell.{specs.declared.views.{Record.Record, Storing.Storing, View.View}, proofs.Standing.{own_on, joining_on}}

abbrev pub NoteFits : Record → History → Option ℕ → Type 0
NoteFits o h p = IfSome p (λ c. c ≤ last_count o h)

module _ {A : Type 0} where
  pub if_none : (P : A → Type 0) (p : Option A) → p ≡ None → IfSome p P
  if_none P p e = subst (λ q. IfSome q P) (sym e) tt

  pub if_some : (P : A → Type 0) (p : Option A) (x : A) → p ≡ Some x → IfSome p P → P x
  if_some P p x e k = subst (λ q. IfSome q P) e k

  pub some_is : (P : A → Type 0) (p : Option A) (x : A) → p ≡ Some x → P x → IfSome p P
  some_is P p x e k = subst (λ q. IfSome q P) (sym e) k

  pub some_value : (d : A) (p : Option A) → IsSome p → p ≡ Some (unwrap_or p d)
  some_value d None n = let bad : false ≡ true = n in absurd (cc)
  some_value d (Some x) n = refl

abbrev pub pair : (stored left : List ℕ) → Storing
pair stored left = record { stored = stored; left = left }

-- no write of this view is under way
stores_by : (p : Option Storing) → one_if (is_some p) ≡ 0 → p ≡ None
stores_by None e = refl
stores_by (Some s) e = absurd (omega arith)

pub not_storing : (v : View) → storing_count v ≡ 0 → v.storing ≡ None
not_storing v e = stores_by v.storing e

pub is_not_storing : (v : View) → v.storing ≡ None → storing_count v ≡ 0
is_not_storing v e = ap (λ p. one_if (is_some p)) e

pub is_storing : (v : View) (s : Storing) → v.storing ≡ Some s → storing_count v ≡ 1
is_storing v s e = ap (λ p. one_if (is_some p)) e

-- ---- of any cell

-- which counts are left, and where the values of a count stand
pub record Layout : Type 1 where
  pub IsLeft : ℕ → Type 0
  pub place : ℕ → List ℕ

abbrev pub Knows : Record → History → Layout → View → Type 0
Knows o h layout = SeatKnowledge o h layout.IsLeft layout.place

module _ (layout : Layout) where
  open layout use {IsLeft, place}

  -- while a noted count is left, what was loaded is a beginning of its values
  abbrev pub LoadedFits : Option ℕ → List ℕ → Type 0
  LoadedFits p xs = (c : ℕ) → p ≡ Some c → IsLeft c → xs ≡ take (length xs) (place c)

  pub nothing_loaded : (p : Option ℕ) (xs : List ℕ) → xs ≡ [] → LoadedFits p xs
  nothing_loaded p xs e c n w = subst (λ l. l ≡ take (length l) (place c)) (sym e) refl

  -- a view that is in the middle of neither a write nor a join
  pub calm_seat : (o : Record) (h : History) (w : View) → w.opening ≡ o → OwnStand o h w → NoteFits o h w.note
      → LoadedFits w.note w.loaded → w.storing ≡ None → w.joining ≡ None → Knows o h layout w
  calm_seat o h w is own note loaded storing joining = record {
    opening_is = is;
    own = own;
    note = note;
    loaded = loaded;
    storing = if_none (IsUnderWay o h place w.note) w.storing storing;
    joining = if_none (RecordStands o h) w.joining joining;
  }

note_on : (o : Record) (h : History) (xs : List ℕ) (p : Option ℕ) → NoteFits o h p → NoteFits o (h ++ xs ∷ []) p
note_on o h xs None n = tt
note_on o h xs (Some c) n = let long = length-append h (xs ∷ []) in omega (arith, long, n)

-- another one writes: of the counts up to the cell's, what is left was left, and has its values where they were
module _ (o : Record) (h : History) (was now : Layout) (u : View) (none : u.storing ≡ None)
    (left : (c : ℕ) → c ≤ last_count o h → now.IsLeft c → was.IsLeft c × (was.place c ≡ now.place c)) (k : Knows o h was u) where
  loads : LoadedFits now u.note u.loaded
  loads c n w =
      let at = left c (if_some (λ m. m ≤ last_count o h) u.note c n k.note) w in
      k.loaded c n at.0 ∙ ap (take (length u.loaded)) at.1

  pub still_knows : Knows o h now u
  still_knows = record {
    opening_is = k.opening_is;
    own = k.own;
    note = k.note;
    loaded = loads;
    storing = if_none (IsUnderWay o h now.place u.note) u.storing none;
    joining = k.joining;
  }

  -- its write stands in the history
  pub more_knows : (xs : List ℕ) → Knows o (h ++ xs ∷ []) now u
  more_knows xs = record {
    opening_is = k.opening_is;
    own = own_on o h xs u k.own;
    note = note_on o h xs u.note k.note;
    loaded = loads;
    storing = if_none (IsUnderWay o (h ++ xs ∷ []) now.place u.note) u.storing none;
    joining = joining_on o h xs u.joining k.joining;
  }

-- one's own
pub knows_of : (Knows : View → Type 0) (v : View) → 0 < v.share.parts → SeatFits Knows v → Knows v
knows_of Knows v p (inl e) = let none : v.share.parts ≡ 0 = ap (λ (x : View). x.share.parts) e in absurd (omega (arith, p, none))
knows_of Knows v p (inr k) = k.1

-- ---- of this cell, whose count is left while the lock has its free word

abbrev pub one_place : (words : List ℕ) → Layout
one_place ws = record { IsLeft = λ c. slice_index ws 0 ≡ 4 * c; place = λ c. cell_values ws }
