-- A new object of the plain machine: its places, and that it lies apart from all others.
use Rattle.std.proofs.Common.{◌≡◌, ◌≢◌, ◌⊎◌, inl, inr, ℕ, zero, suc, ◌+◌, ◌-◌, ◌<◌, ◌≤◌, Bool, true, false, List, [], ◌∷◌, ◌++◌, length, Option, Some, None, refl, ap, sym, subst, ◌∙◌, arith, ◌==◌, replicate, Contains, slice_get, if◌then◌else◌}
use Rattle.std.{specs.Option.option_or, proofs.lemmas.{Bool.Decides.nat_tests, List.length-replicate}}
use Rattle.lists.proofs.ListLaws.{same_some}
use Rattle.jvm_types.specs.{ProgramInvariant.instances_among, declared.{class_numbers.TheConstants.INT_ARRAY_CLASS, fixed_words.TheConstants.{FIRST_READY_WORD, OBJECT_HEAD_WORDS}}}
use Rattle.jvm_types.{specs.declared.program.Program.Program, proofs.EachAfter.last_got}
use Rattle.machine_types.specs.ObjectsApart.{IsBeside, IsOutside, LieApart}
use Rattle.machine_types.specs.{PlainMemory.{Object, StaticValue, header_of, first_value, object_end, has_value, value_in, object_value, static_value, new_object}, Words.header_word}
use Rattle.laws_threads.proofs.MonitorMoves.{contains_got}
use Rattle.laws_states.proofs.Lists.{contained_got}

-- ---- a list with one more behind

pub contained_last : {X : Type 0} (xs : List X) (y x : X) → Contains (xs ++ y ∷ []) x → Contains xs x ⊎ (x ≡ y)
contained_last xs y x k = elim (last_got xs y k.0 x (contained_got (xs ++ y ∷ []) x k)) [ inl g ↦ inl (contains_got xs k.0 x g) | inr e ↦ inr e.1 ]

-- ---- places

-- what stands there is of an object that was there, or of the new one
pub added_value : (os : List Object) (o : Object) (x v : ℕ) → object_value (os ++ o ∷ []) x ≡ Some v → (object_value os x ≡ Some v) ⊎ (value_in o x ≡ Some v)
added_value [] o x v e = inr (((elim (value_in o x) as (λ (a : Option ℕ). option_or a None ≡ Some v → a ≡ Some v) [ None ↦ λ e. e | Some w ↦ λ e. e ]) e))
added_value (d ∷ os) o x v e = by_value (value_in d x) (λ g. added_value os o x v g) e
  where
    by_value : (a : Option ℕ) → (object_value (os ++ o ∷ []) x ≡ Some v → (object_value os x ≡ Some v) ⊎ (value_in o x ≡ Some v)) → option_or a (object_value (os ++ o ∷ []) x) ≡ Some v
        → (option_or a (object_value os x) ≡ Some v) ⊎ (value_in o x ≡ Some v)
    by_value None more e = more e
    by_value (Some w) more e = inl e

pub added_place : (os : List Object) (ss : List StaticValue) (o : Object) (x v : ℕ) → option_or (object_value (os ++ o ∷ []) x) (static_value ss x) ≡ Some v
    → (option_or (object_value os x) (static_value ss x) ≡ Some v) ⊎ (value_in o x ≡ Some v)
added_place os ss o x v e = by_both (object_value (os ++ o ∷ []) x) (object_value os x) (static_value ss x) (value_in o x) (none_before os) (λ w g. added_value os o x w g) e
  where
    none_before : (es : List Object) → object_value (es ++ o ∷ []) x ≡ None → object_value es x ≡ None
    none_before [] e = refl
    none_before (d ∷ es) e = let k = (elim (value_in d x) as (λ (a : Option ℕ). (b : Option ℕ) → option_or a b ≡ None → (a ≡ None) × (b ≡ None))
        [ None ↦ λ b e. (refl, e) | Some w ↦ λ b e. absurd (cc) ]) (object_value (es ++ o ∷ []) x) e in ap (λ (a : Option ℕ). option_or a (object_value es x)) k.0 ∙ none_before es k.1

    by_both : (a b s c : Option ℕ) → (a ≡ None → b ≡ None) → ((w : ℕ) → a ≡ Some w → (b ≡ Some w) ⊎ (c ≡ Some w)) → option_or a s ≡ Some v → (option_or b s ≡ Some v) ⊎ (c ≡ Some v)
    by_both None b s c none more e = inl (ap (λ (z : Option ℕ). option_or z s) (none refl) ∙ e)
    by_both (Some w) b s c none more e = elim (more w refl) [ inl g ↦ inl (ap (λ (z : Option ℕ). option_or z s) g ∙ e) | inr g ↦ inr (g ∙ e) ]

-- a field or an element of a new object is 0
got_zero : (n i v : ℕ) → slice_get (replicate n 0) i ≡ Some v → v ≡ 0
got_zero zero i v e = absurd (cc)
got_zero (suc n) zero v e = sym (same_some e)
got_zero (suc n) (suc i) v e = got_zero n i v e

pub record IsZeroIn (o : Object) (x v : ℕ) : Type 0 where
  pub from : first_value o ≤ x
  pub to : x < object_end o
  pub is : v ≡ 0

pub new_value : (a word size x v : ℕ) → value_in (new_object a word size) x ≡ Some v → ((x ≡ header_word a) × (v ≡ header_of (new_object a word size))) ⊎ IsZeroIn (new_object a word size) x v
new_value a word size x v e = by_header (x == header_word a) refl e
  where
    by_has : (b : Bool) → has_value (new_object a word size) x ≡ b → (if b then slice_get (replicate (size - OBJECT_HEAD_WORDS) 0) (x - first_value (new_object a word size)) else None) ≡ Some v → IsZeroIn (new_object a word size) x v
    by_has true h e = record { from = grind (arith, nat_tests, h); to = grind (arith, nat_tests, h); is = got_zero (size - OBJECT_HEAD_WORDS) (x - first_value (new_object a word size)) v e }
    by_has false h e = absurd (cc)

    by_header : (b : Bool) → (x == header_word a) ≡ b
        → (if b then Some (header_of (new_object a word size)) else if has_value (new_object a word size) x then slice_get (replicate (size - OBJECT_HEAD_WORDS) 0) (x - first_value (new_object a word size)) else None) ≡ Some v
        → ((x ≡ header_word a) × (v ≡ header_of (new_object a word size))) ⊎ IsZeroIn (new_object a word size) x v
    by_header true h e = inl (grind (arith, nat_tests, h), sym (same_some e))
    by_header false h e = inr (by_has (has_value (new_object a word size) x) refl e)

-- ---- it lies apart

pub new_end : (a word size : ℕ) → OBJECT_HEAD_WORDS ≤ size → object_end (new_object a word size) ≡ a + size
new_end a word size le = omega (arith, length-replicate {A = ℕ} (size - OBJECT_HEAD_WORDS) 0, le)

-- an object behind all others
pub record Fits (p : Program) (next more : ℕ) (o : Object) : Type 0 where
  pub from : next ≤ o.reference
  pub to : object_end o ≤ more
  pub begin : FIRST_READY_WORD ≤ o.reference
  pub inside : object_end o ≤ p.heap
  pub sized : o.class ≢ INT_ARRAY_CLASS → length o.values ≡ instances_among o.class p.fields

module _ (p : Program) (os : List Object) (ss : List StaticValue) (next more : ℕ) (new : Object)
    (fits : Fits p next more new) (apart : LieApart p os ss next) where
  up : next ≤ more
  up = omega (arith, fits.from, fits.to)

  abbrev Old : (i : ℕ) (o : Object) → Type 0
  Old i o = slice_get os i ≡ Some o

  abbrev Last : (i : ℕ) (o : Object) → Type 0
  Last i o = (i ≡ length os) × (o ≡ new)

  of : (i : ℕ) (o : Object) → slice_get (os ++ new ∷ []) i ≡ Some o → Old i o ⊎ Last i o
  of i o g = last_got os new i o g

  behind : (i : ℕ) (o : Object) → Old i o → object_end o ≤ new.reference
  behind i o g = omega (arith, apart.below i o g, fits.from)

  two : (i j : ℕ) (o e : Object) → Old i o ⊎ Last i o → Old j e ⊎ Last j e → i ≢ j → IsBeside o e
  two i j o e (inl g) (inl h) n = apart.beside i j o e g h n
  two i j o e (inl g) (inr h) n = inl (subst (λ (z : Object). object_end o ≤ z.reference) (sym h.1) (behind i o g))
  two i j o e (inr g) (inl h) n = inr (subst (λ (z : Object). object_end e ≤ z.reference) (sym g.1) (behind j e h))
  two i j o e (inr g) (inr h) n = absurd (n (g.0 ∙ sym h.0))

  each : (P : Object → Type 0) → ((i : ℕ) (o : Object) → Old i o → P o) → P new → (i : ℕ) (o : Object) → Old i o ⊎ Last i o → P o
  each P old now i o (inl g) = old i o g
  each P old now i o (inr g) = subst P (sym g.1) now

  pub apart_added : LieApart p (os ++ new ∷ []) ss more
  apart_added = record {
    beside = λ i j o e g h n. two i j o e (of i o g) (of j e h) n;
    differ = apart.differ;
    mixed = λ i j o s g h. let below = apart.statics_below j s h in each (λ z. IsOutside z s.word) (λ i o g. apart.mixed i j o s g h) (inl (omega (arith, below.0, fits.from))) i o (of i o g);
    begin = λ i o g. each (λ z. FIRST_READY_WORD ≤ z.reference) apart.begin fits.begin i o (of i o g);
    below = λ i o g. each (λ z. object_end z ≤ more) (λ i o g. omega (arith, apart.below i o g, up)) fits.to i o (of i o g);
    inside = λ i o g. each (λ z. object_end z ≤ p.heap) apart.inside fits.inside i o (of i o g);
    sized = λ i o g. each (λ z. z.class ≢ INT_ARRAY_CLASS → length z.values ≡ instances_among z.class p.fields) apart.sized fits.sized i o (of i o g);
    statics_begin = apart.statics_begin;
    statics_below = λ j s g. let k = apart.statics_below j s g in (omega (arith, k.0, up), k.1);
    there = apart.there;
  }
