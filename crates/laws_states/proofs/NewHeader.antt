-- The event that stores the header of a new object: from then on the object is there.
use Rattle.std.proofs.Common.{⊎_elim, ◌≡◌, ◌≢◌, ◌⊎◌, inl, inr, ℕ, zero, suc, ◌+◌, ◌-◌, ◌<◌, ◌≤◌, ◌^◌, Bool, true, false, List, ◌∷◌, length, Some, refl, ap, sym, subst, ◌∙◌, arith, ◌==◌, Contains, replicate, slice_get, slice_index, slice_set, if◌then◌else◌}
use Rattle.std.proofs.lemmas.{Bool.Decides.nat_tests, List.{length-replicate, length-set}}
use Rattle.lists.proofs.ListLaws.{same_some}
use Rattle.jvm_types.specs.{Members.is_static, ProgramInvariant.{instances_among}, declared.class_numbers.TheConstants.INT_ARRAY_CLASS}
use Rattle.jvm_types.specs.declared.{fixed_words.TheConstants.{OBJECT_HEAD_WORDS, FIRST_READY_WORD, NEXT_FREE_WORD}, program.{FieldInfo.FieldInfo, Kind.Kind}}
use Rattle.laws_programs.proofs.FieldOrder.{instances_inside, statics_inside}
use Rattle.machine_types.specs.{FoundWords.IsHeader, NewObjects.{size_by, IsNewObject}, ObjectsApart.{IsBeside, IsOutside, LieApart}}
use Rattle.machine_types.specs.{PlainMemory.{Object, object_end, header_of, new_object, start_statics}, StartLaws.StartLiesApart, Threads.Thread}
use Rattle.machine_types.specs.{Typed.{Classes, KindHolds, HasClass, PlacesHold}, Words.{header_class, header_length, header_word, value_word, object_size, array_size}}
use Rattle.machine_types.proofs.AttemptsPlain.{size_two}
use Rattle.laws_threads.proofs.MonitorMoves.{contains_got}
use Rattle.laws_states.proofs.{Assembled.Behind, Headers.new_header, Lifted.kind_up, Lists.{contained_got, contains_more, contains_first, set_here, set_there}, Movers.HeapMover, Sites.static_low}
use Rattle.jvm_types.specs.declared.program.Kind.TheVariants as kinds
use Rattle.machine_types.specs.declared.phase.Phase.TheVariants as phases

-- null, 0 and false
zero_holds : (is : Classes) (kind : Kind) (v : ℕ) → v ≡ 0 → KindHolds is kind v
zero_holds is (kinds.Ref class) v e = inl e
zero_holds is kind v e = omega (arith, e)

-- a thread that is about to store the header of an object
pub record Maker : Type 0 where
  pub mover : HeapMover
  pub a : ℕ
  pub word : ℕ
  pub made : mover.x.phase ≡ phases.Made a word

module _ (lies : StartLiesApart) (maker : Maker) where
  open maker use {a, word, made, mover.{t, x, there, state.{c, marked, marked.checked.program as is_program, objects, s, facts}}}

  abbrev new : Object
  new = new_object a word (size_by c.program word)

  abbrev later : List Object
  later = new_object a word (size_by c.program word) ∷ objects

  abbrev after : List ℕ
  after = slice_set s.words (header_word a) word

  k : IsNewObject c.program objects s a (size_by c.program word)
  k = facts.new_objects.each t x a word there made

  header : IsHeader c.program word
  header = facts.new_headers t x a word there made

  long : length new.values ≡ size_by c.program word - OBJECT_HEAD_WORDS
  long = length-replicate {A = ℕ} (size_by c.program word - OBJECT_HEAD_WORDS) 0

  ends : object_end new ≡ a + size_by c.program word
  ends = omega (arith, long, size_two c.program word)

  unchanged : (n : ℕ) → n ≢ header_word a → slice_index after n ≡ slice_index s.words n
  unchanged n differ = set_there s.words (header_word a) n word differ

  -- ---- the object lies apart

  beside_new : (e : Object) → Contains objects e → IsBeside new e
  beside_new e l = ⊎_elim (λ (h : object_end e ≤ a). inr h) (λ (h : a + size_by c.program word ≤ e.reference). inl (omega (arith, h, ends))) (k.beside e l)

  turned : (o e : Object) → IsBeside o e → IsBeside e o
  turned o e (inl h) = inr h
  turned o e (inr h) = inl h

  sized_new : new.class ≢ INT_ARRAY_CLASS → length new.values ≡ instances_among new.class c.program.fields
  sized_new other = by_test (header_class word == INT_ARRAY_CLASS) refl
    where
      by_test : (b : Bool) → (header_class word == INT_ARRAY_CLASS) ≡ b
          → length {A = ℕ} (replicate ((if b then array_size (header_length word) else object_size c.program (header_class word)) - OBJECT_HEAD_WORDS) 0) ≡ instances_among (header_class word) c.program.fields
      by_test true e = absurd (other (grind (arith, nat_tests, e)))
      by_test false e = length-replicate {A = ℕ} (object_size c.program (header_class word) - OBJECT_HEAD_WORDS) 0 ∙ omega arith

  -- of each object: of the new one, and of those that were there
  of_each : (P : Object → Type 0) → P new → ((i : ℕ) (o : Object) → slice_get objects i ≡ Some o → P o) → (i : ℕ) (o : Object) → slice_get later i ≡ Some o → P o
  of_each P here more zero o g = subst P (same_some g) here
  of_each P here more (suc i) o g = more i o g

  apart_new : LieApart c.program later (start_statics c.program) (slice_index s.words NEXT_FREE_WORD)
  apart_new = record {
    beside = beside;
    differ = facts.apart.differ;
    mixed = λ i j o v g h. of_each (λ z. IsOutside z v.word)
        (inl (omega (arith, (static_low lies c objects s marked facts v.word (v, contains_got (start_statics c.program) j v h, refl)).1, k.begins))) (λ i o g. facts.apart.mixed i j o v g h) i o g;
    begin = of_each (λ z. FIRST_READY_WORD ≤ z.reference) (omega (arith, k.begins)) facts.apart.begin;
    below = of_each (λ z. object_end z ≤ slice_index s.words NEXT_FREE_WORD) (omega (arith, k.below, ends)) facts.apart.below;
    inside = of_each (λ z. object_end z ≤ c.program.heap) (omega (arith, k.inside, ends)) facts.apart.inside;
    sized = of_each (λ z. z.class ≢ INT_ARRAY_CLASS → length z.values ≡ instances_among z.class c.program.fields) sized_new facts.apart.sized;
    statics_begin = facts.apart.statics_begin;
    statics_below = facts.apart.statics_below;
    there = facts.apart.there;
  }
    where
      beside : (i j : ℕ) (o e : Object) → slice_get later i ≡ Some o → slice_get later j ≡ Some e → i ≢ j → IsBeside o e
      beside zero zero o e g h n = absurd (n refl)
      beside zero (suc j) o e g h n = subst (λ (z : Object). IsBeside z e) (same_some g) (beside_new e (contains_got objects j e h))
      beside (suc i) zero o e g h n = subst (λ (z : Object). IsBeside o z) (same_some h) (turned new o (beside_new o (contains_got objects i o g)))
      beside (suc i) (suc j) o e g h n = facts.apart.beside i j o e g h (λ same. n (ap suc same))

  -- ---- places

  up : (o : Object) → Contains objects o → Contains later o
  up o l = contains_more new objects o l

  up_class : (class v : ℕ) → HasClass objects class v → HasClass later class v
  up_class class v l = (l.0, up l.0 l.1, l.2, l.3)

  -- the words of another object are not the header's
  elsewhere : (o : Object) (n : ℕ) → Contains objects o → o.reference ≤ n → n < object_end o → n ≢ header_word a
  elsewhere o n l from to e = ⊎_elim
      (λ (h : object_end o ≤ a). omega (arith, h, e, to)) (λ (h : a + size_by c.program word ≤ o.reference). omega (arith, h, e, from, size_two c.program word)) (k.beside o l)

  -- and a field or an element of the new one is 0
  empty_value : (i : ℕ) → i < length new.values → slice_index after (value_word a i) ≡ 0
  empty_value i lt = unchanged (value_word a i) (λ e. omega (arith, e)) ∙ k.empty (value_word a i) (omega arith) (omega (arith, lt, ends))

  places_new : PlacesHold c.program later after
  places_new = record {
    headers = λ o l. of_each (λ z. slice_index after (header_word z.reference) ≡ header_of z)
        (set_here s.words (header_word a) word (omega (arith, k.inside, size_two c.program word, facts.unused.many)) ∙ sym (new_header c.program is_program a word header))
        (λ i o g. let l = contains_got objects i o g in unchanged (header_word o.reference) (elsewhere o (header_word o.reference) l (omega arith) (omega arith)) ∙ facts.typed.places.headers o l)
        l.0 o (contained_got later o l);
    fields = λ o number f l g n class. fields_of l.0 o number f (contained_got later o l) g n class;
    elements = λ o i l. of_each (λ z. z.class ≡ INT_ARRAY_CLASS → i < length z.values → slice_index after (value_word z.reference i) < 2 ^ 32) (λ array lt. omega (arith, empty_value i lt))
        (λ j o g array lt.
        let l = contains_got objects j o g in
        subst (λ v. v < 2 ^ 32) (sym (unchanged (value_word o.reference i) (elsewhere o (value_word o.reference i) l (omega arith) (omega (arith, lt))))) (facts.typed.places.elements o i l array lt))
        l.0 o (contained_got later o l);
    statics = λ number f g e. statics_of number f g e;
  }
    where
      fields_of : (j : ℕ) (o : Object) (number : ℕ) (f : FieldInfo) → slice_get later j ≡ Some o → slice_get c.program.fields number ≡ Some f → is_static f.flags ≡ false → o.class ≡ f.class
          → KindHolds (HasClass later) f.kind (slice_index after (value_word o.reference f.index))
      fields_of zero o number f g e n class = subst (λ (z : Object). z.class ≡ f.class → KindHolds (HasClass later) f.kind (slice_index after (value_word z.reference f.index))) (same_some g)
          (λ class. zero_holds (HasClass later) f.kind (slice_index after (value_word a f.index)) (empty_value f.index (inside_new class))) class
        where
          inside_new : new.class ≡ f.class → f.index < length new.values
          inside_new class =
              let sized = sized_new (λ array. absurd (omega (arith, array, class, ((is_program.fields number f e).class.0)))) in
              subst (λ i. f.index < i) (sym sized) (subst (λ d. f.index < instances_among d c.program.fields) (sym class) (instances_inside c.program number f is_program e n))
      fields_of (suc j) o number f g e n class =
          let l = contains_got objects j o g in
          let sized = facts.apart.sized j o g (λ array. absurd (omega (arith, array, class, ((is_program.fields number f e).class.0)))) in
          let inside : f.index < length o.values = subst (λ i. f.index < i) (sym sized) (subst (λ d. f.index < instances_among d c.program.fields) (sym class) (instances_inside c.program number f is_program e n)) in
          let same = unchanged (value_word o.reference f.index) (elsewhere o (value_word o.reference f.index) l (omega arith) (omega (arith, inside))) in
          subst (KindHolds (HasClass later) f.kind) (sym same) (kind_up (HasClass objects) (HasClass later) up_class f.kind (slice_index s.words (value_word o.reference f.index)) (facts.typed.places.fields o number f l e n class))

      statics_of : (number : ℕ) (f : FieldInfo) → slice_get c.program.fields number ≡ Some f → is_static f.flags ≡ true → KindHolds (HasClass later) f.kind (slice_index after f.index)
      statics_of number f e s_is =
          let same = unchanged f.index (λ q. omega (arith, q, ((statics_inside c.program number f is_program e s_is).1), k.begins)) in
          subst (KindHolds (HasClass later) f.kind) (sym same) (kind_up (HasClass objects) (HasClass later) up_class f.kind (slice_index s.words f.index) (facts.typed.places.statics number f e s_is))

  -- ---- the whole

  pub behind_new : Behind c objects later s t after
  behind_new = record {
    up = up;
    long = length-set s.words (header_word a) word;
    free = omega (arith, unchanged NEXT_FREE_WORD (λ e. omega (arith, e, k.begins)));
    unused = λ n le. unchanged n (λ e. omega (arith, e, le, k.below, size_two c.program word));
    apart = apart_new;
    places = places_new;
    headers = λ o l. of_each (λ z. IsHeader c.program (header_of z)) (subst (IsHeader c.program) (sym (new_header c.program is_program a word header)) header)
        (λ i o g. facts.headers o (contains_got objects i o g)) l.0 o (contained_got later o l);
    new = λ u z b other n differ e m from to. unchanged n (new_elsewhere u z b other n differ e m from to);
    beside = λ u z b other differ e m o l. of_each (λ y. (object_end y ≤ b) ⊎ (b + size_by c.program other ≤ y.reference))
        (⊎_elim (λ (h : a + size_by c.program word ≤ b). inl (omega (arith, h, ends))) (λ (h : b + size_by c.program other ≤ a). inr h) (sides u z b other differ e m))
        (λ i o g. let other_new = facts.new_objects.each u z b other e m in other_new.beside o (contains_got objects i o g)) l.0 o (contained_got later o l);
  }
    where
      sides : (u : ℕ) (z : Thread) (b other : ℕ) → u ≢ t → slice_get s.threads u ≡ Some z → z.phase ≡ phases.Made b other → (a + size_by c.program word ≤ b) ⊎ (b + size_by c.program other ≤ a)
      sides u z b other differ e m = facts.new_objects.apart t u x z a b word other there e (λ same. differ (sym same)) made m

      new_elsewhere : (u : ℕ) (z : Thread) (b other n : ℕ) → u ≢ t → slice_get s.threads u ≡ Some z → z.phase ≡ phases.Made b other → b ≤ n → n < b + size_by c.program other → n ≢ header_word a
      new_elsewhere u z b other n differ e m from to same = ⊎_elim
          (λ (h : a + size_by c.program word ≤ b). omega (arith, h, same, from, size_two c.program word))
          (λ (h : b + size_by c.program other ≤ a). omega (arith, h, same, to)) (sides u z b other differ e m)

  pub class_new : HasClass later (header_class word) a
  class_new = (new, contains_first new objects, refl, refl)
