-- The plain machine's start agrees with the start of a run.
use Rattle.std.proofs.Common.{◌≡◌, ℕ, zero, suc, ◌+◌, ◌-◌, Bool, true, false, cond, List, [], ◌∷◌, length, Option, Some, None, refl, sym, ap, subst, ◌∙◌, arith, slice_get, slice_index, ◌==◌}
use Rattle.std.{specs.{List.range_with_len, Option.option_or}, proofs.lemmas.{Bool.eqb-true, List.length-map}}
use Rattle.lists.proofs.ListLaws.{same_some}
use Rattle.jvm_types.specs.{ProgramInvariant.IsProgram, declared.program.Program.Program}
use Rattle.checked_program.specs.MarkedProgram.{MarkedProgram}
use Rattle.machine_types.specs.{Agreement.{OutsideFits, ThreadFits, depth_of, has_wait_bit}, Core.{start, start_thread, part_phase}, Facts.ArePlainObjects, Owners.references_of, Parts.init_roots}
use Rattle.machine_types.specs.PlainMemory.{Object, StaticValue, header_of, has_value, first_value, value_in, object_value, static_value, start_objects, start_statics}
use Rattle.machine_types.specs.{PlainState.{Plain, PlainThread, value_at, plain_start, first_thread}, StartLaws.{StartAgrees, StartStandsBeside}, StartWords.start_words}
use Rattle.machine_types.{specs.{Threads.{Thread, Config, fresh}, Words.header_word}, proofs.{AtStart.{thread_in, is_start_thread}, FactsAtStart.{facts, objects_are}}}
use Rattle.machine_types.proofs.{PlacesAtStart.{lies_apart, object_placed, stands, IsValueOf, value_at as value_of_field}, WordsAtStart.{header_is, static_is}}
use Rattle.machine_types.specs.PlainState as plain

-- ---- places: a header, or a static field

abbrev Stands : Program → (x v : ℕ) → Type 0
Stands p x v = slice_index (start_words p) x ≡ v

none_in : {X : Type 0} (xs : List X) (i : ℕ) → length xs ≡ 0 → slice_get xs i ≡ None
none_in [] i e = refl
none_in (x ∷ xs) i e = absurd (omega (arith, e))

in_object : (o : Object) (x v : ℕ) → length o.values ≡ 0 → value_in o x ≡ Some v → (x ≡ header_word o.reference) × (header_of o ≡ v)
in_object o x v none e = by_test (x == header_word o.reference) refl e
  where
    by_test : (b : Bool) → (x == header_word o.reference) ≡ b → cond b (Some (header_of o)) (cond (has_value o x) (slice_get o.values (x - first_value o)) None) ≡ Some v → (x ≡ header_word o.reference) × (header_of o ≡ v)
    by_test true k f = (eqb-true x (header_word o.reference) k, same_some f)
    by_test false k f = absurd (no_value (has_value o x) f)
      where
        no_value : (b : Bool) → cond b (slice_get o.values (x - first_value o)) None ≡ Some v → ⊥
        no_value true g = let none_there = none_in o.values (x - first_value o) none in let clash : None ≡ Some v = sym none_there ∙ g in cc
        no_value false g = cc

-- from the objects with a number on
in_objects : (p : Program) → IsProgram p → (os : List Object) (from x v : ℕ) → ((i : ℕ) (o : Object) → slice_get os i ≡ Some o → slice_get (start_objects p) (from + i) ≡ Some o) → object_value os x ≡ Some v → Stands p x v
in_objects p is [] from x v all e = cc
in_objects p is (o ∷ os) from x v all e = by_value (value_in o x) refl e (in_objects p is os (from + 1) x v (λ i y g. let at : (from + 1) + i ≡ from + suc i = omega arith in ap (slice_get (start_objects p)) at ∙ all (suc i) y g))
  where
    here : slice_get (start_objects p) from ≡ Some o
    here = let at : from ≡ from + 0 = omega arith in ap (slice_get (start_objects p)) at ∙ all 0 o refl

    by_value : (w : Option ℕ) → value_in o x ≡ w → option_or w (object_value os x) ≡ Some v → (object_value os x ≡ Some v → Stands p x v) → Stands p x v
    by_value None k f more = more f
    by_value (Some u) k f more =
        let k' : value_in o x ≡ Some v = k ∙ f in
        let h : (x ≡ header_word o.reference) × (header_of o ≡ v) = in_object o x v (object_placed p from o (stands p is from o here)).empty k' in
        ap (slice_index (start_words p)) h.0 ∙ header_is p is from o here ∙ h.1

in_statics : (p : Program) → IsProgram p → (ss : List StaticValue) (from x v : ℕ) → ((i : ℕ) (s : StaticValue) → slice_get ss i ≡ Some s → slice_get (start_statics p) (from + i) ≡ Some s) → static_value ss x ≡ Some v → Stands p x v
in_statics p is [] from x v all e = cc
in_statics p is (s ∷ ss) from x v all e = by_word (s.word == x) refl e (in_statics p is ss (from + 1) x v (λ i y g. let at : (from + 1) + i ≡ from + suc i = omega arith in ap (slice_get (start_statics p)) at ∙ all (suc i) y g))
  where
    here : slice_get (start_statics p) from ≡ Some s
    here = let at : from ≡ from + 0 = omega arith in ap (slice_get (start_statics p)) at ∙ all 0 s refl

    by_word : (b : Bool) → (s.word == x) ≡ b → cond b (Some s.value) (static_value ss x) ≡ Some v → (static_value ss x ≡ Some v → Stands p x v) → Stands p x v
    by_word true k f more =
        let of : IsValueOf p.fields s = value_of_field p.fields from s here in
        ap (slice_index (start_words p)) (sym (eqb-true s.word x k) ∙ ap (λ (y : StaticValue). y.word) of.same) ∙ static_is p is of.number of.field of.is of.static
        ∙ sym (ap (λ (y : StaticValue). y.value) of.same) ∙ same_some f
    by_word false k f more = more f

from_none : {X : Type 0} (xs : List X) (i : ℕ) (x : X) → slice_get xs i ≡ Some x → slice_get xs (0 + i) ≡ Some x
from_none xs i x e = let at : 0 + i ≡ i = omega arith in ap (slice_get xs) at ∙ e

places : (p : Program) → IsProgram p → (x v : ℕ) → value_at (plain_start p) x ≡ Some v → Stands p x v
places p is x v e = by_object (object_value (start_objects p) x) refl e
  where
    by_object : (o : Option ℕ) → object_value (start_objects p) x ≡ o → option_or o (static_value (start_statics p) x) ≡ Some v → Stands p x v
    by_object None k f = in_statics p is (start_statics p) 0 x v (λ i s g. from_none (start_statics p) i s g) f
    by_object (Some w) k f = in_objects p is (start_objects p) 0 x v (λ i o g. from_none (start_objects p) i o g) (k ∙ f)

-- ---- threads

fits_first : (c : MarkedProgram) (cfg : Config) (bit : ℕ → Bool) (roots : List ℕ) → OutsideFits c.program bit (fresh c cfg 0 (part_phase roots) roots) (first_thread roots)
fits_first c cfg bit [] = record { frames = refl; status = refl; roots = refl }
fits_first c cfg bit (number ∷ roots) = record { frames = refl; status = refl; roots = refl }

fits : (c : MarkedProgram) (cfg : Config) (bit : ℕ → Bool) (t : ℕ) → ThreadFits c.program bit (start_thread c cfg t) (start_thread c cfg t).attempt (plain.plain_start_thread c.program t)
fits c cfg bit zero = fits_first c cfg bit (init_roots c.program)
fits c cfg bit (suc t) = record { frames = refl; status = refl; roots = refl }

pub plain_thread : (p : Program) (t : ℕ) (y : PlainThread) → slice_get (plain_start p).threads t ≡ Some y → plain.plain_start_thread p t ≡ y
plain_thread p t y e = let k : 0 + t ≡ t = omega arith in subst (λ (i : ℕ). plain.plain_start_thread p i ≡ y) k (thread_in (plain.plain_start_thread p) 0 (p.workers + 1) t y e)

none_held : (c : MarkedProgram) (cfg : Config) (t m : ℕ) (o : Option Thread) → slice_get (start c cfg).threads t ≡ o → None ≡ depth_of o m
none_held c cfg t m None e = refl
none_held c cfg t m (Some x) e = subst (λ (y : Thread). None ≡ depth_of (Some y) m) (is_start_thread c cfg t x e) (by_number t)
  where
    by_number : (i : ℕ) → None ≡ depth_of (Some (start_thread c cfg i)) m
    by_number zero = refl
    by_number (suc i) = refl

pub agrees : StartAgrees
agrees c cfg is = record {
  places = λ x v e pending. places c.program is x v e;
  next = refl;
  prints = refl;
  monitors = λ t m. none_held c cfg t m (slice_get (start c cfg).threads t) refl;
  many = length-map (range_with_len 0 (c.program.workers + 1)) (plain.plain_start_thread c.program) ∙ sym (length-map (range_with_len 0 (c.program.workers + 1)) (start_thread c cfg));
  threads = λ t x y e h.
      let bit : ℕ → Bool = has_wait_bit (references_of (start_objects c.program)) (start_words c.program) t in
      subst (λ (z : PlainThread). ThreadFits c.program bit x x.attempt z) (plain_thread c.program t y h) (subst (λ (z : Thread). ThreadFits c.program bit z z.attempt (plain.plain_start_thread c.program t)) (is_start_thread c cfg t x e) (fits c cfg bit t));
}

plain_objects : (p : Program) → ArePlainObjects (start_objects p) (plain_start p)
plain_objects p o k = (o, k, refl, refl, refl)

pub stands_beside : StartStandsBeside
stands_beside c cfg frozen owned is are owned_are = record {
  facts = facts c cfg frozen owned is are owned_are;
  agrees = agrees c cfg is;
  objects = subst (λ (os : List Object). ArePlainObjects os (plain_start c.program)) (sym (objects_are c cfg frozen owned is are owned_are)) (plain_objects c.program);
  statics = (lies_apart c.program is).there;
}
