-- Steps that set flags of fields, and the fields that each sets them for; steps one after the other.
use Rattle.std.proofs.Common.{◌≡◌, ◌<◌, ◌≤◌, ◌≢◌, ℕ, zero, suc, Bool, true, false, List, [], ◌∷◌, length, Option, Some, None, refl, sym, ap, ◌∙◌, subst, arith, ⊎_elim, ◌⊎◌, inl, inr, if◌then◌else◌, slice_get, slice_set, slice_index_or}
use Rattle.std.proofs.lemmas.{Bool.cases_eq, List.length-set}
use Rattle.jvm_types.specs.declared.program.Program.{Program}
use Rattle.checked_program.specs.FrozenPlaces.{is_field_of}
use Rattle.guard_analysis.{specs.{FieldUses.field_noted, OwnedFound.{class_out_before, class_out}}, proofs.FieldUseLaws.{set_true, set_keeps, set_here, noted_long, noted_true, noted_keeps, noted_here}}

abbrev pub is_set : List Bool → ℕ → Bool
is_set flags fi = slice_index_or flags fi false

-- a step sets the flags of these fields, as far as there are flags, and clears none
pub record Puts (before after : List Bool) (Bad : ℕ → Type 0) : Type 0 where
  pub long : length after ≡ length before
  pub kept : (fi : ℕ) → is_set before fi ≡ true → is_set after fi ≡ true
  pub only : (fi : ℕ) → is_set after fi ≡ true → (is_set before fi ≡ true) ⊎ Bad fi
  pub all : (fi : ℕ) → fi < length before → Bad fi → is_set after fi ≡ true

pub puts_none : (flags : List Bool) → Puts flags flags (λ fi. ⊥)
puts_none flags = record { long = refl; kept = λ fi h. h; only = λ fi h. inl h; all = λ fi l b. absurd b }

pub puts_then : (a b c : List Bool) (P Q : ℕ → Type 0) → Puts a b P → Puts b c Q → Puts a c (λ fi. P fi ⊎ Q fi)
puts_then a b c P Q h k = record {
  long = k.long ∙ h.long;
  kept = λ fi e. k.kept fi (h.kept fi e);
  only = λ fi e. ⊎_elim (λ f. ⊎_elim (λ g. inl g) (λ x. inr (inl x)) (h.only fi f)) (λ x. inr (inr x)) (k.only fi e);
  all = λ fi l x. ⊎_elim (λ y. k.kept fi (h.all fi l y)) (λ y. k.all fi (subst (λ (n : ℕ). fi < n) (sym h.long) l) y) x;
}

pub puts_so : (a b : List Bool) (P Q : ℕ → Type 0) → Puts a b P → ((fi : ℕ) → P fi → Q fi) → ((fi : ℕ) → Q fi → P fi) → Puts a b Q
puts_so a b P Q h to from = record {
  long = h.long;
  kept = h.kept;
  only = λ fi e. ⊎_elim (λ x. inl x) (λ x. inr (to fi x)) (h.only fi e);
  all = λ fi l x. h.all fi l (from fi x);
}

pub puts_noted : (flags : List Bool) (o : Option ℕ) → Puts flags (field_noted flags o) (λ fi. o ≡ Some fi)
puts_noted flags o = record { long = noted_long flags o; kept = λ fi h. noted_keeps flags o fi h; only = λ fi h. noted_true flags o fi h; all = λ fi l e. noted_here flags o fi l e }

-- where a test says so, and where it doesn't
pub puts_if : (t : Bool) (a b : List Bool) (P : ℕ → Type 0) → Puts a b P → Puts a (if t then b else a) (λ fi. (t ≡ true) × P fi)
puts_if true a b P h = puts_so a b P (λ fi. (true ≡ true) × P fi) h (λ fi x. (refl, x)) (λ fi x. x.1)
puts_if false a b P h = puts_so a a (λ fi. ⊥) (λ fi. (false ≡ true) × P fi) (puts_none a) (λ fi x. absurd x) (λ fi x. let e : false ≡ true = x.0 in cc)

pub puts_unless : (t : Bool) (a b : List Bool) (P : ℕ → Type 0) → Puts a b P → Puts a (if t then a else b) (λ fi. (t ≡ false) × P fi)
puts_unless true a b P h = puts_so a a (λ fi. ⊥) (λ fi. (true ≡ false) × P fi) (puts_none a) (λ fi x. absurd x) (λ fi x. let e : true ≡ false = x.0 in cc)
puts_unless false a b P h = puts_so a b P (λ fi. (false ≡ false) × P fi) h (λ fi x. (refl, x)) (λ fi x. x.1)

-- ---- the flags of the fields of a class

puts_one : (flags : List Bool) (k : ℕ) → k < length flags → Puts flags (slice_set flags k true) (λ fi. k ≡ fi)
puts_one flags k low = record {
  long = length-set flags k true;
  kept = λ fi h. set_keeps flags k fi h;
  only = λ fi h. set_true flags k fi h;
  all = λ fi l e. subst (λ (j : ℕ). is_set (slice_set flags k true) j ≡ true) e (set_here flags k low);
}

module _ (p : Program) (class : ℕ) (flags : List Bool) where
  abbrev IsOfClass : ℕ → Type 0
  IsOfClass fi = is_field_of class (slice_get p.fields fi) ≡ true

  abbrev OfClassBefore : (k fi : ℕ) → Type 0
  OfClassBefore k fi = (fi < k) × IsOfClass fi

  puts_before : (k : ℕ) → k ≤ length flags → Puts flags (class_out_before p class flags k) (OfClassBefore k)
  puts_before zero few = puts_so flags flags (λ fi. ⊥) (OfClassBefore 0) (puts_none flags) (λ fi x. absurd x) (λ fi x. omega (arith, x.0))
  puts_before (suc k) few =
      let before : List Bool = class_out_before p class flags k in
      let more : Puts flags before (OfClassBefore k) = puts_before k (omega (arith, few)) in
      let low : k < length before = subst (λ (n : ℕ). k < n) (sym more.long) few in
      puts_so flags (class_out_before p class flags (suc k)) (λ fi. OfClassBefore k fi ⊎ (IsOfClass k × (k ≡ fi))) (OfClassBefore (suc k))
      (puts_then flags before (class_out_before p class flags (suc k)) (OfClassBefore k) (λ fi. IsOfClass k × (k ≡ fi)) more
      (puts_if (is_field_of class (slice_get p.fields k)) before (slice_set before k true) (λ fi. k ≡ fi) (puts_one before k low)))
      (λ fi x. ⊎_elim (λ (y : OfClassBefore k fi). (omega (arith, y.0), y.1)) (λ (y : IsOfClass k × (k ≡ fi)). (omega (arith, y.1), subst IsOfClass y.1 y.0)) x)
      (λ fi x. ⊎_elim (λ (q : fi ≡ k). inr (subst IsOfClass q x.1, sym q)) (λ (q : fi ≢ k). inl (omega (arith, x.0, q), x.1)) (cases_eq fi k))

  pub puts_class : Puts flags (class_out p class flags) IsOfClass
  puts_class =
      let whole : Puts flags (class_out p class flags) (OfClassBefore (length flags)) = puts_before (length flags) (omega arith) in
      record { long = whole.long; kept = whole.kept; only = λ fi h. ⊎_elim (λ e. inl e) (λ (x : OfClassBefore (length flags) fi). inr x.1) (whole.only fi h); all = λ fi l x. whole.all fi l (l, x) }

-- ---- lists of flags

-- where a list is not there, neither is its flag
pub no_row : (rows : List (List Bool)) (u i : ℕ) → None ≡ slice_get rows u → false ≡ slice_index_or (slice_index_or rows u []) i false
no_row [] u i e = refl
no_row (row ∷ rows) zero i e = absurd (cc)
no_row (row ∷ rows) (suc u) i e = no_row rows u i e
