-- At each place of an object and of a static field the plain machine has the value that stands in the word.
use Rattle.std.proofs.Common.{◌≡◌, ℕ, zero, suc, Bool, true, false, cond, List, [], ◌∷◌, filter, map, Some, refl, sym, ap, ◌∙◌, subst, arith, slice_get, slice_index, get_or}
use Rattle.std.proofs.lemmas.Option.{slice_get-get_or}
use Rattle.lists.proofs.ListLaws.{same_some}
use Rattle.jvm_types.specs.{Members.is_static, declared.program.{FieldInfo.FieldInfo, Program.Program}}
use Rattle.checked_program.specs.MarkedProgram.{MarkedProgram, IsMarked}
use Rattle.machine_types.specs.{Agreement.IsPending, Core.Core, Ints.word_of, PlainMemory.{Object, StaticValue, header_of, start_statics}, PlainState.{Plain, value_at}}
use Rattle.machine_types.{specs.Words.{header_word, value_word}, proofs.PlacesAtStart.statics_in}
use Rattle.laws_states.specs.{HeapFacts.HeapFacts, SiteLaws.SitesDiffer, Sites.{Site, HeaderOf, ValueOf, NewHeaderOf, StaticAt, site_word, HasStatic, IsThere}}
use Rattle.laws_states.proofs.Lists.{contained_got}
use Rattle.laws_simulation.{specs.StandsBeside.StandsBeside, proofs.PlainPlaces.{value_in_object, value_of_object, value_of_header, value_of_static}}

-- ---- static fields of the program

pub record IsStaticField (fields : List FieldInfo) (word : ℕ) : Type 0 where
  pub number : ℕ
  pub field : FieldInfo
  pub there : slice_get fields number ≡ Some field
  pub static : is_static field.flags ≡ true
  pub word_is : field.index ≡ word

one_field : (fields : List FieldInfo) (i : ℕ) (v : StaticValue) → slice_get (statics_in fields) i ≡ Some v → IsStaticField fields v.word
one_field [] i v e = absurd (cc)
one_field (f ∷ fields) i v e = by_flag (is_static f.flags) refl i e (λ j g. one_field fields j v g)
  where
    more : IsStaticField fields v.word → IsStaticField (f ∷ fields) v.word
    more k = record { number = suc k.number; field = k.field; there = k.there; static = k.static; word_is = k.word_is }

    by_index : (i : ℕ) → is_static f.flags ≡ true → slice_get (record { word = f.index; value = word_of f.start } ∷ statics_in fields) i ≡ Some v → ((j : ℕ) → slice_get (statics_in fields) j ≡ Some v → IsStaticField fields v.word) → IsStaticField (f ∷ fields) v.word
    by_index zero g e next = record { number = 0; field = f; there = refl; static = g; word_is = ap (λ (s : StaticValue). s.word) (same_some e) }
    by_index (suc j) g e next = more (next j e)

    by_flag : (b : Bool) → is_static f.flags ≡ b → (i : ℕ) → slice_get (map (λ f. record { word = f.index; value = word_of f.start }) (cond b (f ∷ filter (λ f. is_static f.flags) fields) (filter (λ f. is_static f.flags) fields))) i ≡ Some v
        → ((j : ℕ) → slice_get (statics_in fields) j ≡ Some v → IsStaticField fields v.word) → IsStaticField (f ∷ fields) v.word
    by_flag true g i e next = by_index i g e next
    by_flag false g i e next = more (next i e)

pub static_field : (p : Program) (word : ℕ) → HasStatic p word → IsStaticField p.fields word
static_field p word k =
    let f = one_field p.fields k.1.0 k.0 (contained_got (start_statics p) k.0 k.1) in
    record { number = f.number; field = f.field; there = f.there; static = f.static; word_is = f.word_is ∙ k.2 }

-- ---- places

abbrev pub IsPlace : Site → Type 0
IsPlace (HeaderOf reference) = Unit {0}
IsPlace (ValueOf reference index) = Unit {0}
IsPlace (StaticAt word) = Unit {0}
IsPlace site = ⊥

no_new : (site : Site) (a : ℕ) → IsPlace site → site ≡ NewHeaderOf a → ⊥
no_new (NewHeaderOf b) a k e = k
no_new site a k e = cc

module _ (p : Program) (objects : List Object) (s : Core) (q : Plain)
    (beside : StandsBeside p objects s q) where
  -- the plain machine has a value there
  has_a_value : (site : Site) → IsPlace site → IsThere p objects s site → (v : ℕ) × (value_at q (site_word site) ≡ Some v)
  has_a_value (HeaderOf reference) k there =
      let e = beside.known there.0 there.1 in
      (header_of e.0, subst (λ (n : ℕ). value_at q (header_word n) ≡ Some (header_of e.0)) (e.2 ∙ there.2) (value_of_header p q beside.apart e.0 e.1))
  has_a_value (ValueOf reference index) k there =
      let e = beside.known there.0 there.1 in
      let v = get_or e.0.values index 0 in (
        v,
        subst (λ (n : ℕ). value_at q (value_word n index) ≡ Some v) (e.2 ∙ there.2)
            (value_of_object p q beside.apart e.0 (value_word e.0.reference index) v e.1 (value_in_object e.0 index (omega (arith, e.4, there.3)) ∙ slice_get-get_or e.0.values index 0 (omega (arith, e.4, there.3)))),
      )
  has_a_value (StaticAt word) k there =
      let f = static_field p word there in
      let w = beside.apart.there f.number f.field f.there f.static in
      let v = value_of_static p q beside.apart w.0 w.1 in
      (v.0, subst (λ (n : ℕ). value_at q n ≡ Some v.0) (w.2 ∙ f.word_is) v.1)
  has_a_value site k there = absurd k

-- and the word has it too
pub value_found : SitesDiffer → (c : MarkedProgram) (objects : List Object) (s : Core) (q : Plain) → IsMarked c → HeapFacts c objects s → StandsBeside c.program objects s q
    → (site : Site) → IsPlace site → IsThere c.program objects s site → value_at q (site_word site) ≡ Some (slice_index s.words (site_word site))
value_found differ c objects s q marked heap beside site k there =
    let stored : IsPending s.threads (site_word site) → ⊥ = λ h. no_new site h.2 k (differ c objects s site (NewHeaderOf h.2) marked heap there (h.0, h.1, h.3, h.4, h.5) h.6) in
    let v = has_a_value c.program objects s q beside site k there in
    v.1 ∙ ap Some (sym (beside.agrees.places (site_word site) v.0 v.1 stored))
