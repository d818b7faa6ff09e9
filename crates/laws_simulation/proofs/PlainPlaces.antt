-- Where the plain machine has values: the header and the values of an object, and the static fields. All of these lie behind
-- the monitor records and below the number for the next reference, and none is a reference, where the lock word stands.
use Rattle.std.proofs.Common.{◌≡◌, ◌≢◌, ◌⊎◌, inl, inr, ℕ, zero, suc, ◌-◌, ◌<◌, ◌≤◌, Bool, true, false, List, [], ◌∷◌, length, Option, Some, None, refl, sym, ap, ◌∙◌, subst, arith, Contains, slice_get, ◌==◌, if◌then◌else◌}
use Rattle.std.{specs.Option.option_or, proofs.lemmas.Bool.{ne_eqb, Decides.{nat_tests, Decides-eqb}}}
use Rattle.lists.proofs.ListLaws.{same_some}
use Rattle.jvm_types.specs.declared.{fixed_words.TheConstants.FIRST_READY_WORD, program.Program.Program}
use Rattle.machine_types.specs.{ObjectsApart.{IsOutside, LieApart}, PlainMemory.{Object, StaticValue, header_of, first_value, object_end, has_value, value_in, object_value, static_value}}
use Rattle.machine_types.{specs.{PlainState.{Plain, value_at}, Words.{header_word, value_word}}, proofs.PlainStepLaws.is_same}
use Rattle.laws_states.proofs.Lists.{contained_got, same_or_not}

-- ---- one object

module _ (o : Object) (x : ℕ) where
  is_within : has_value o x ≡ true → (first_value o ≤ x) × (x < object_end o)
  is_within e = (grind (arith, nat_tests, e), grind (arith, nat_tests, e))

  -- the place of a value lies inside its object, and not at its reference
  pub lies_inside : (v : ℕ) → value_in o x ≡ Some v → (o.reference < x) × (x < object_end o)
  lies_inside v e = by_header (x == header_word o.reference) refl e
    where
      by_header : (b : Bool) → (x == header_word o.reference) ≡ b → (if b then Some (header_of o) else if has_value o x then slice_get o.values (x - first_value o) else None) ≡ Some v → (o.reference < x) × (x < object_end o)
      by_header true f e = let same = (Decides-eqb x (header_word o.reference)).0 f in (omega (arith, same), omega (arith, same))
      by_header false f e = (elim (has_value o x) as (λ (b : Bool). has_value o x ≡ b → (if b then slice_get o.values (x - first_value o) else None) ≡ Some v → (o.reference < x) × (x < object_end o))
          [ true ↦ λ f e. let l = is_within f in (omega (arith, l.0), l.1) | false ↦ λ f e. absurd (cc) ]) refl e

  pub none_outside : (x ≤ o.reference) ⊎ (object_end o ≤ x) → value_in o x ≡ None
  none_outside k = (elim (value_in o x) as (λ (w : Option ℕ). value_in o x ≡ w → w ≡ None) [ None ↦ λ e. refl | Some v ↦ λ e. absurd (by_side v e k) ]) refl
    where
      by_side : (v : ℕ) → value_in o x ≡ Some v → (x ≤ o.reference) ⊎ (object_end o ≤ x) → ⊥
      by_side v e (inl h) = let l = lies_inside v e in omega (arith, h, l.0)
      by_side v e (inr h) = let l = lies_inside v e in omega (arith, h, l.1)

pub header_in : (o : Object) → value_in o (header_word o.reference) ≡ Some (header_of o)
header_in o = ap (λ (b : Bool). if b then Some (header_of o) else if has_value o (header_word o.reference) then slice_get o.values (header_word o.reference - first_value o) else None) (is_same (header_word o.reference))

pub value_in_object : (o : Object) (i : ℕ) → i < length o.values → value_in o (value_word o.reference i) ≡ slice_get o.values i
value_in_object o i lt =
    let has : has_value o (value_word o.reference i) ≡ true = grind (arith, nat_tests, lt) in
    let index : value_word o.reference i - first_value o ≡ i = omega arith in
    ap (λ (b : Bool). if b then Some (header_of o) else if has_value o (value_word o.reference i) then slice_get o.values (value_word o.reference i - first_value o) else None) (ne_eqb (value_word o.reference i) (header_word o.reference) (λ e. omega (arith, e)))
    ∙ ap (λ (b : Bool). if b then slice_get o.values (value_word o.reference i - first_value o) else None) has
    ∙ ap (slice_get o.values) index

-- ---- some objects

pub record IsIn (objects : List Object) (x v : ℕ) : Type 0 where
  pub index : ℕ
  pub object : Object
  pub there : slice_get objects index ≡ Some object
  pub has : value_in object x ≡ Some v

found_object : (os : List Object) (x v : ℕ) → object_value os x ≡ Some v → IsIn os x v
found_object [] x v e = absurd (cc)
found_object (o ∷ os) x v e = (elim (value_in o x) as (λ (w : Option ℕ). value_in o x ≡ w → option_or w (object_value os x) ≡ Some v → (object_value os x ≡ Some v → IsIn os x v) → IsIn (o ∷ os) x v) [
  | Some u ↦ λ f g more. record { index = 0; object = o; there = refl; has = f ∙ g }
  | None ↦ λ f g more. let k = more g in record { index = suc k.index; object = k.object; there = k.there; has = k.has }
]) refl e (λ f. found_object os x v f)

-- the one that has the place, where no other does
first_object : (os : List Object) (x v i : ℕ) (o : Object) → slice_get os i ≡ Some o → value_in o x ≡ Some v → ((j : ℕ) (e : Object) → slice_get os j ≡ Some e → j ≢ i → value_in e x ≡ None) → object_value os x ≡ Some v
first_object [] x v i o g e apart = absurd (cc)
first_object (p ∷ os) x v zero o g e apart =
    let one : p ≡ o = cc in
    ap (λ (w : Option ℕ). option_or w (object_value os x)) (subst (λ (z : Object). value_in z x ≡ Some v) (sym one) e)
first_object (p ∷ os) x v (suc i) o g e apart =
    ap (λ (w : Option ℕ). option_or w (object_value os x)) (apart 0 p refl (λ h. omega (arith, h)))
    ∙ first_object os x v i o g e (λ j d h n. apart (suc j) d h (λ k. n (omega (arith, k))))

pub no_object : (os : List Object) (x : ℕ) → ((j : ℕ) (e : Object) → slice_get os j ≡ Some e → value_in e x ≡ None) → object_value os x ≡ None
no_object [] x none = refl
no_object (o ∷ os) x none = ap (λ (w : Option ℕ). option_or w (object_value os x)) (none 0 o refl) ∙ no_object os x (λ j e h. none (suc j) e h)

-- ---- static fields

pub record IsAt (statics : List StaticValue) (x v : ℕ) : Type 0 where
  pub index : ℕ
  pub static : StaticValue
  pub there : slice_get statics index ≡ Some static
  pub word : static.word ≡ x
  pub value : static.value ≡ v

found_static : (ss : List StaticValue) (x v : ℕ) → static_value ss x ≡ Some v → IsAt ss x v
found_static [] x v e = absurd (cc)
found_static (s ∷ ss) x v e = (elim (s.word == x) as (λ (b : Bool). (s.word == x) ≡ b → (if b then Some s.value else static_value ss x) ≡ Some v → (static_value ss x ≡ Some v → IsAt ss x v) → IsAt (s ∷ ss) x v) [
  | true ↦ λ f g more. record { index = 0; static = s; there = refl; word = (Decides-eqb s.word x).0 f; value = same_some g }
  | false ↦ λ f g more. let k = more g in record { index = suc k.index; static = k.static; there = k.there; word = k.word; value = k.value }
]) refl e (λ f. found_static ss x v f)

first_static : (ss : List StaticValue) (i : ℕ) (s : StaticValue) → slice_get ss i ≡ Some s → (v : ℕ) × (static_value ss s.word ≡ Some v)
first_static [] i s e = absurd (cc)
first_static (r ∷ ss) zero s e =
    let one : r ≡ s = cc in
    (r.value, ap (λ (b : Bool). if b then Some r.value else static_value ss s.word) (ap (λ (z : StaticValue). z.word == s.word) one ∙ is_same s.word))
first_static (r ∷ ss) (suc i) s e = (elim (r.word == s.word) as (λ (b : Bool). (r.word == s.word) ≡ b → (v : ℕ) × (static_value ss s.word ≡ Some v) → (v : ℕ) × ((if b then Some r.value else static_value ss s.word) ≡ Some v))
    [ true ↦ λ f k. (r.value, refl) | false ↦ λ f k. k ]) refl (first_static ss i s e)

-- ---- all places

module _ (p : Program) (q : Plain) (apart : LieApart p q.objects q.statics q.next) where
  -- where a value was found
  pub found_place : (x v : ℕ) → value_at q x ≡ Some v → IsIn q.objects x v ⊎ IsAt q.statics x v
  found_place x v e = (elim (object_value q.objects x) as (λ (w : Option ℕ). object_value q.objects x ≡ w → option_or w (static_value q.statics x) ≡ Some v → IsIn q.objects x v ⊎ IsAt q.statics x v)
      [ Some u ↦ λ f g. inl (found_object q.objects x v (f ∙ g)) | None ↦ λ f g. inr (found_static q.statics x v g) ]) refl e

  -- behind the monitor records, and below the number for the next reference
  pub place_low : (x v : ℕ) → value_at q x ≡ Some v → (FIRST_READY_WORD ≤ x) × (x < q.next)
  place_low x v e = elim (found_place x v e) [
    | inl k ↦
        let l = lies_inside k.object x v k.has in
        (omega (arith, apart.begin k.index k.object k.there, l.0), omega (arith, apart.below k.index k.object k.there, l.1))
    | inr k ↦
        let low = apart.statics_begin k.index k.static k.there in
        let high = (apart.statics_below k.index k.static k.there).0 in
        (omega (arith, low, k.word), omega (arith, high, k.word))
  ]

  other_object : (i j : ℕ) (o e : Object) (x : ℕ) → slice_get q.objects i ≡ Some o → slice_get q.objects j ≡ Some e → i ≢ j → o.reference ≤ x → x < object_end o → (x < e.reference) ⊎ (object_end e ≤ x)
  other_object i j o e x f g n from to = elim (apart.beside i j o e f g n) [ inl h ↦ inl (omega (arith, h, to)) | inr h ↦ inr (omega (arith, h, from)) ]

  none_in_other : (i j : ℕ) (o e : Object) (x : ℕ) → slice_get q.objects i ≡ Some o → slice_get q.objects j ≡ Some e → i ≢ j → o.reference ≤ x → x < object_end o → value_in e x ≡ None
  none_in_other i j o e x f g n from to = elim (other_object i j o e x f g n from to) [ inl h ↦ none_outside e x (inl (omega (arith, h))) | inr h ↦ none_outside e x (inr h) ]

  -- the lock word of an object is no place
  pub no_lock_place : (o : Object) (v : ℕ) → Contains q.objects o → value_at q o.reference ≡ Some v → ⊥
  no_lock_place o v c e = by_place (found_place o.reference v e)
    where
      there : slice_get q.objects c.0 ≡ Some o
      there = contained_got q.objects o c

      by_place : IsIn q.objects o.reference v ⊎ IsAt q.statics o.reference v → ⊥
      by_place (inl k) = elim (same_or_not c.0 k.index) [
        | inl same ↦
            let one : o ≡ k.object = same_some (sym there ∙ ap (slice_get q.objects) same ∙ k.there) in
            let l = lies_inside k.object o.reference v k.has in
            omega (arith, l.0, ap (λ (z : Object). z.reference) one)
        | inr n ↦
            let l = lies_inside k.object o.reference v k.has in
            elim (other_object c.0 k.index o k.object o.reference there k.there n (omega arith) (omega arith)) [ inl h ↦ omega (arith, h, l.0) | inr h ↦ omega (arith, h, l.1) ]
      ]
      by_place (inr k) = elim (apart.mixed c.0 k.index o k.static there k.there) [ inl h ↦ omega (arith, h, k.word) | inr h ↦ omega (arith, h, k.word) ]

  -- a place of an object has its value
  pub value_of_object : (o : Object) (x v : ℕ) → Contains q.objects o → value_in o x ≡ Some v → value_at q x ≡ Some v
  value_of_object o x v c e =
      let there : slice_get q.objects c.0 ≡ Some o = contained_got q.objects o c in
      let l : (o.reference < x) × (x < object_end o) = lies_inside o x v e in
      ap (λ (w : Option ℕ). option_or w (static_value q.statics x))
      (first_object q.objects x v c.0 o there e (λ j d h n. none_in_other c.0 j o d x there h (λ k. n (sym k)) (omega (arith, l.0)) l.1))

  pub value_of_header : (o : Object) → Contains q.objects o → value_at q (header_word o.reference) ≡ Some (header_of o)
  value_of_header o c = value_of_object o (header_word o.reference) (header_of o) c (header_in o)

  -- a static field has one
  pub value_of_static : (s : StaticValue) → Contains q.statics s → (v : ℕ) × (value_at q s.word ≡ Some v)
  value_of_static s c =
      let there = contained_got q.statics s c in
      let k = first_static q.statics c.0 s there in
      (k.0, ap (λ (w : Option ℕ). option_or w (static_value q.statics s.word)) (no_object q.objects s.word (λ j e h. outside e (apart.mixed j c.0 e s h there))) ∙ k.1)
    where
      outside : (e : Object) → IsOutside e s.word → value_in e s.word ≡ None
      outside e (inl h) = none_outside e s.word (inl (omega (arith, h)))
      outside e (inr h) = none_outside e s.word (inr h)
