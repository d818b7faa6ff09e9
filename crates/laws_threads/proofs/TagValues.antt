-- Tagged places keep their values: under rows, under weaker tags, and under a new tag.
use Rattle.std.proofs.Common.{◌≡◌, ℕ, zero, suc, Bool, true, false, cond, List, [], ◌∷◌, ◌++◌, map, drop, length, Option, Some, None, refl, sym, ap, ◌∙◌, subst, arith, ◌==◌, slice_set, slice_index_or}
use Rattle.std.{specs.List.AllByRecursion, proofs.lemmas.Bool.Decides.nat_tests}
use Rattle.jvm_types.specs.{CodeTable.{value_of, stack_after, locals_after}, declared.{op_row.{Given.{Given, TheVariants.{Fresh, Taken, Local}}, OpRow.OpRow}, typing.VType.VType}}
use Rattle.checked_program.specs.{LockTags.{same_tag, without, IsTagBelow, AreTagsBelow}, declared.tag.Tag.{Tag, TheVariants.{Untagged, This, At}}}
use Rattle.machine_types.specs.Shown.{tag_value, HasValue, HaveValues}

module _ (choice : ℕ → ℕ) (receiver : ℕ) where
  weaker_one : (t u : Tag) (v : ℕ) → IsTagBelow t u → HasValue choice receiver t v → HasValue choice receiver u v
  weaker_one t Untagged v b h = tt
  weaker_one t This v b h = subst (λ (x : Tag). HasValue choice receiver x v) b h
  weaker_one t (At pc) v b h = subst (λ (x : Tag). HasValue choice receiver x v) b h

  pub weaker : (ts us : List Tag) (vs : List ℕ) → AreTagsBelow ts us → HaveValues choice receiver ts vs → HaveValues choice receiver us vs
  weaker ts [] vs b h = tt
  weaker [] (u ∷ us) vs b h = absurd b
  weaker (t ∷ ts) (u ∷ us) [] b h = absurd h
  weaker (t ∷ ts) (u ∷ us) (v ∷ vs) b h = (weaker_one t u v b.0 h.0, weaker ts us vs b.1 h.1)

  pub dropped : (n : ℕ) (ts : List Tag) (vs : List ℕ) → HaveValues choice receiver ts vs → HaveValues choice receiver (drop n ts) (drop n vs)
  dropped zero ts vs h = h
  dropped (suc n) [] vs h = tt
  dropped (suc n) (t ∷ ts) [] h = absurd h
  dropped (suc n) (t ∷ ts) (v ∷ vs) h = dropped n ts vs h.1

  at_place : (i none : ℕ) (ts : List Tag) (vs : List ℕ) → HaveValues choice receiver ts vs → HasValue choice receiver (slice_index_or ts i Untagged) (slice_index_or vs i none)
  at_place i none [] vs h = tt
  at_place i none (t ∷ ts) [] h = absurd h
  at_place zero none (t ∷ ts) (v ∷ vs) h = h.0
  at_place (suc i) none (t ∷ ts) (v ∷ vs) h = at_place i none ts vs h.1

  set_place : (i : ℕ) (t : Tag) (v : ℕ) (ts : List Tag) (vs : List ℕ) → HasValue choice receiver t v → HaveValues choice receiver ts vs → HaveValues choice receiver (slice_set ts i t) (slice_set vs i v)
  set_place i t v [] vs one h = tt
  set_place i t v (u ∷ ts) [] one h = absurd h
  set_place zero t v (u ∷ ts) (w ∷ vs) one h = (one, h.1)
  set_place (suc i) t v (u ∷ ts) (w ∷ vs) one h = (h.0, set_place i t v ts vs one h.1)

  -- ---- by a row

  module _ (none : ℕ) (fresh : VType → ℕ) (ts ls : List Tag) (vs ws : List ℕ) (hs : HaveValues choice receiver ts vs) (hl : HaveValues choice receiver ls ws) where
    given : (g : Given) → HasValue choice receiver (value_of Untagged (λ t. Untagged) ts ls g) (value_of none fresh vs ws g)
    given (Fresh type) = tt
    given (Taken place) = at_place place none ts vs hs
    given (Local i) = at_place i none ls ws hl

    all_given : (gs : List Given) (us : List Tag) (xs : List ℕ) → HaveValues choice receiver us xs
        → HaveValues choice receiver (map (value_of Untagged (λ t. Untagged) ts ls) gs ++ us) (map (value_of none fresh vs ws) gs ++ xs)
    all_given [] us xs h = h
    all_given (g ∷ gs) us xs h = (given g, all_given gs us xs h)

    pub row_stack : (row : OpRow) → HaveValues choice receiver (stack_after Untagged (λ t. Untagged) row ts ls) (stack_after none fresh row vs ws)
    row_stack row = all_given row.gives (drop (length row.takes) ts) (drop (length row.takes) vs) (dropped (length row.takes) ts vs hs)

    pub row_locals : (writes : Option (ℕ × Given)) → HaveValues choice receiver (locals_after Untagged (λ t. Untagged) writes ts ls) (locals_after none fresh writes vs ws)
    row_locals None = hl
    row_locals (Some write) = set_place write.0 _ _ ls ws (given write.1) hl

-- ---- a new tag

abbrev pub chosen : (pc v : ℕ) → (ℕ → ℕ) → ℕ → ℕ
chosen pc v choice q = cond (q == pc) v (choice q)

module _ (choice : ℕ → ℕ) (receiver pc v : ℕ) where
  rechosen_at : (t : Tag) (w : ℕ) → HasValue choice receiver t w → HasValue (chosen pc v choice) receiver (cond (same_tag t (At pc)) Untagged t) w
  rechosen_at Untagged w h = tt
  rechosen_at This w h = h
  rechosen_at (At q) w h = by_test (q == pc) (chosen pc v choice) refl
    where
      by_test : (b : Bool) (d : ℕ → ℕ) → d q ≡ cond b v (choice q) → HasValue d receiver (cond b Untagged (At q)) w
      by_test true d e = tt
      by_test false d e = h ∙ sym e

  pub rechosen : (ts : List Tag) (ws : List ℕ) → HaveValues choice receiver ts ws → HaveValues (chosen pc v choice) receiver (without pc ts) ws
  rechosen [] ws h = tt
  rechosen (t ∷ ts) [] h = absurd h
  rechosen (t ∷ ts) (w ∷ ws) h = (rechosen_at t w h.0, rechosen ts ws h.1)

  value_kept : (t : Tag) → same_tag (At pc) t ≡ false → tag_value (chosen pc v choice) receiver t ≡ tag_value choice receiver t
  value_kept Untagged e = refl
  value_kept This e = refl
  value_kept (At q) e = let other : (q == pc) ≡ false = grind (arith, nat_tests, e) in ap (λ (b : Bool). cond b v (choice q)) other

  pub values_kept : (ts : List Tag) → AllByRecursion (λ t. same_tag (At pc) t ≡ false) ts → map (tag_value (chosen pc v choice) receiver) ts ≡ map (tag_value choice receiver) ts
  values_kept [] h = refl
  values_kept (t ∷ ts) h = let one = value_kept t h.0 in let more = values_kept ts h.1 in cc

  pub chosen_there : v ≡ chosen pc v choice pc
  chosen_there = grind (arith, nat_tests)
