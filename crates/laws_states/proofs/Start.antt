-- What the words hold of objects and places at the start of a run. Headers and static fields are found by the plain machine's
-- start, with which the words agree.
use Rattle.std.proofs.Common.{◌≡◌, ◌≢◌, inl, inr, ℕ, zero, suc, pos, ◌+◌, ◌-◌, ◌<◌, ◌≤◌, ◌%◌, ◌^◌, Bool, true, false, ◌&&◌, List, [], ◌∷◌, ◌++◌, length, Some, None, refl, ap, sym, subst, ◌∙◌, arith, ◌==◌, nat_lt, nat_le, cond, filter, Contains, slice_get, slice_index, if◌then◌else◌}
use Rattle.std.{specs.{Int.{w32, cast_unsigned}, List.{AllByRecursion, list_all, range_with_len}, Option.option_or}, proofs.lemmas.Bool.Decides.nat_tests}
use Rattle.lists.proofs.{ListLaws.same_some, TestLaws.both_are_true}
use Rattle.jvm_types.specs.{Layout.kept_int, Members.is_static, ProgramInvariant.{IsProgram, words_of}, declared.class_numbers.TheConstants.{CLASS_ITSELF, INT_ARRAY_CLASS}}
use Rattle.jvm_types.specs.declared.{fixed_words.TheConstants.{OBJECT_HEAD_WORDS, FIRST_CLASS_WORD, FIRST_READY_WORD}, program.{FieldInfo.FieldInfo, Kind.Kind, Program.Program}}
use Rattle.laws_programs.proofs.FieldOrder.{one_static_field}
use Rattle.checked_program.specs.MarkedProgram.{MarkedProgram, IsMarked}
use Rattle.machine_types.specs.{Core.{start, start_thread, part_phase}, FoundWords.IsHeader, Ints.word_of, ObjectsApart.{IsBeside, IsOutside, LieApart}}
use Rattle.machine_types.specs.Parts.{init_roots}
use Rattle.machine_types.specs.PlainMemory.{Object, StaticValue, object_end, header_of, value_in, first_value, object_value, static_value, objects_from, class_objects, start_objects, start_statics}
use Rattle.machine_types.specs.{PlainState.{plain_start, value_at}, ReadyObjects.ready_classes, StartLaws.{StartAgrees, StartIsTyped, StartIsUnused, StartLiesApart}}
use Rattle.machine_types.specs.{StartWords.{statics_of, classes_of}, Threads.Thread, Typed.{Classes, KindHolds, HasClass, PlacesHold}, Words.{header, header_word}, declared.config.Config.Config}
use Rattle.machine_types.specs.declared.phase.Phase.{Phase}
use Rattle.laws_threads.proofs.Lists.{mapped_at}
use Rattle.laws_states.{specs.{HeapFacts.{IsWaitOn, HeapFacts}, HeapLaws.StartHasHeap}, proofs.{Headers.{class_is, length_is, class_header}, Lists.contained_got, Quiet.AllHeld}}
use Rattle.jvm_types.specs.declared.program.Kind.TheVariants as kinds
use Rattle.machine_types.specs.declared.phase.Phase.TheVariants as phases

-- ---- lists

abbrev IsFrom : {A : Type 0} (test : A → Bool) (xs : List A) → A → Type 0
IsFrom test xs y = (n : ℕ) × (slice_get xs n ≡ Some y) × (test y ≡ true)

filtered : {A : Type 0} (test : A → Bool) (xs : List A) (i : ℕ) (y : A) → slice_get (filter test xs) i ≡ Some y → IsFrom test xs y
filtered test [] i y e = absurd (cc)
filtered {A} test (x ∷ xs) i y e = by_test (test x) refl e (λ i e. filtered test xs i y e)
  where
    later : IsFrom test xs y → IsFrom test (x ∷ xs) y
    later k = (suc k.0, k.1, k.2)

    by_test : (b : Bool) → test x ≡ b → slice_get (cond b (x ∷ filter test xs) (filter test xs)) i ≡ Some y → ((i : ℕ) → slice_get (filter test xs) i ≡ Some y → IsFrom test xs y) → IsFrom test (x ∷ xs) y
    by_test true t e more = (elim i as
        (λ (i : ℕ). test x ≡ true → slice_get (x ∷ filter test xs) i ≡ Some y → ((i : ℕ) → slice_get (filter test xs) i ≡ Some y → IsFrom test xs y) → IsFrom test (x ∷ xs) y)
        [ zero ↦ λ t e more. let same : x ≡ y = same_some e in (zero, e, subst (λ z. test z ≡ true) same t) | suc i ↦ λ t e more. later (more i e) ]) t e more
    by_test false t e more = later (more i e)

-- ---- the value that the plain memory has at a place

module _ (e : Object) (x : ℕ) where
  none_in : IsOutside e x → value_in e x ≡ None
  none_in out = by_tests (x == header_word e.reference) (nat_le (first_value e) x) (nat_lt x (object_end e)) refl refl refl out
    where
      by_tests : (a b d : Bool) → (x == header_word e.reference) ≡ a → nat_le (first_value e) x ≡ b → nat_lt x (object_end e) ≡ d → IsOutside e x
          → (if a then Some (header_of e) else if b && d then slice_get e.values (x - first_value e) else None) ≡ None
      by_tests true b d p q r (inl h) = absurd (let at : x ≡ header_word e.reference = grind (arith, nat_tests, p) in omega (arith, at, h))
      by_tests true b d p q r (inr h) = absurd (let at : x ≡ header_word e.reference = grind (arith, nat_tests, p) in omega (arith, at, h))
      by_tests false true true p q r (inl h) = absurd (let from : first_value e ≤ x = grind (arith, nat_tests, q) in omega (arith, from, h))
      by_tests false true true p q r (inr h) = absurd (let to : x < object_end e = grind (arith, nat_tests, r) in omega (arith, to, h))
      by_tests false true false p q r out = refl
      by_tests false false d p q r out = refl

  header_in : x ≡ header_word e.reference → value_in e x ≡ Some (header_of e)
  header_in at = let same : (x == header_word e.reference) ≡ true = grind (arith, nat_tests, at) in rw same refl

outside_all : (objects : List Object) (x : ℕ) → ((i : ℕ) (o : Object) → slice_get objects i ≡ Some o → IsOutside o x) → object_value objects x ≡ None
outside_all [] x out = refl
outside_all (e ∷ objects) x out = ap (λ o. option_or o (object_value objects x)) (none_in e x (out 0 e refl)) ∙ outside_all objects x (λ i o g. out (suc i) o g)

header_at : (objects : List Object) (i : ℕ) (o : Object) → ((j k : ℕ) (a b : Object) → slice_get objects j ≡ Some a → slice_get objects k ≡ Some b → j ≢ k → IsBeside a b) → slice_get objects i ≡ Some o
    → object_value objects (header_word o.reference) ≡ Some (header_of o)
header_at [] i o apart g = absurd (cc)
header_at (e ∷ objects) zero o apart g =
    let same : e ≡ o = same_some g in
    ap (λ v. option_or v (object_value objects (header_word o.reference))) (subst (λ (z : Object). value_in e (header_word o.reference) ≡ Some (header_of z)) same (header_in e (header_word o.reference) (sym (ap (λ (z : Object). header_word z.reference) same))))
header_at (e ∷ objects) (suc i) o apart g =
    ap (λ v. option_or v (object_value objects (header_word o.reference))) (none_in e (header_word o.reference) (by_side (apart 0 (suc i) e o refl g (λ n. absurd (omega (arith, n))))))
    ∙ header_at objects i o (λ j k a b p q n. apart (suc j) (suc k) a b p q (λ same. n (omega (arith, same)))) g
  where
    by_side : IsBeside e o → IsOutside e (header_word o.reference)
    by_side (inl h) = inr (omega (arith, h))
    by_side (inr h) = inl (omega (arith, h))

static_at : (statics : List StaticValue) (j : ℕ) (v : StaticValue) → ((i k : ℕ) (a b : StaticValue) → slice_get statics i ≡ Some a → slice_get statics k ≡ Some b → i ≢ k → a.word ≢ b.word) → slice_get statics j ≡ Some v
    → static_value statics v.word ≡ Some v.value
static_at [] j v differ g = absurd (cc)
static_at (a ∷ statics) zero v differ g =
    let same : a ≡ v = same_some g in
    let here : (a.word == v.word) ≡ true = grind (arith, nat_tests, ap (λ (z : StaticValue). z.word) same) in
    rw here (ap (λ (z : StaticValue). Some z.value) same)
static_at (a ∷ statics) (suc j) v differ g = by_test (a.word == v.word) refl (static_at statics j v (λ i k x y p q n. differ (suc i) (suc k) x y p q (λ same. n (omega (arith, same)))) g)
  where
    by_test : (b : Bool) → (a.word == v.word) ≡ b → static_value statics v.word ≡ Some v.value → (if b then Some a.value else static_value statics v.word) ≡ Some v.value
    by_test true t rest = let same : a.word ≡ v.word = grind (arith, nat_tests, t) in absurd (differ 0 (suc j) a v refl g (λ n. absurd (omega (arith, n))) same)
    by_test false t rest = rest

-- ---- the objects of the start have no values, and built-in classes or none

record IsStartObject (p : Program) (o : Object) : Type 0 where
  empty : o.values ≡ []
  low : o.class ≤ CLASS_ITSELF
  header : IsHeader p (header o.class 0)

module _ (p : Program) (is_program : IsProgram p) where
  abbrev IsStartClass : ℕ → Type 0
  IsStartClass class = (class ≤ CLASS_ITSELF) × IsHeader p (header class 0)

  built_in : (class : ℕ) → 0 < class → class < CLASS_ITSELF → IsStartClass class
  built_in class from to = (omega (arith, to), class_header p is_program class (grind (arith, nat_tests, from, to)))

  itself : IsStartClass CLASS_ITSELF
  itself = (
    omega arith,
    record {
      class = λ other. absurd (other (class_is CLASS_ITSELF 0 (omega arith)));
      unsized = λ other. length_is CLASS_ITSELF 0 (omega arith);
      fits = omega (arith, length_is CLASS_ITSELF 0 (omega arith));
    },
  )

  ready_are : (classes : List ℕ) → list_all (λ n. nat_lt 0 n && nat_lt n CLASS_ITSELF) classes ≡ true → AllByRecursion IsStartClass classes
  ready_are [] e = tt
  ready_are (class ∷ classes) e =
      let all = both_are_true (nat_lt 0 class && nat_lt class CLASS_ITSELF) (list_all (λ n. nat_lt 0 n && nat_lt n CLASS_ITSELF) classes) e in
      let one = both_are_true (nat_lt 0 class) (nat_lt class CLASS_ITSELF) all.0 in
      let from = one.0 in let to = one.1 in (built_in class (grind (arith, nat_tests, from)) (grind (arith, nat_tests, to)), ready_are classes all.1)

  of_class : (reference class : ℕ) (o : Object) → IsStartClass class → record { reference = reference; class = class; values = [] } ≡ o → IsStartObject p o
  of_class reference class o k same = subst (IsStartObject p) same (record { empty = refl; low = k.0; header = k.1 })

  from_classes : (reference : ℕ) (classes : List ℕ) (rest : List Object) (i : ℕ) (o : Object) → AllByRecursion IsStartClass classes → ((j : ℕ) (z : Object) → slice_get rest j ≡ Some z → IsStartObject p z) → slice_get (objects_from reference classes ++ rest) i ≡ Some o
      → IsStartObject p o
  from_classes reference [] rest i o all more e = more i o e
  from_classes reference (class ∷ classes) rest zero o all more e = of_class reference class o all.0 (same_some e)
  from_classes reference (class ∷ classes) rest (suc i) o all more e = from_classes (reference + OBJECT_HEAD_WORDS) classes rest i o all.1 more e

  of_classes : (fields : List FieldInfo) (reference : ℕ) (classes : List ℕ) (i : ℕ) (o : Object) → slice_get (class_objects fields reference classes) i ≡ Some o → IsStartObject p o
  of_classes fields reference [] i o e = absurd (cc)
  of_classes fields reference (class ∷ classes) zero o e = of_class reference CLASS_ITSELF o itself (same_some e)
  of_classes fields reference (class ∷ classes) (suc i) o e = of_classes fields (reference + OBJECT_HEAD_WORDS + length (statics_of fields class)) classes i o e

  start_object : (i : ℕ) (o : Object) → slice_get (start_objects p) i ≡ Some o → IsStartObject p o
  start_object i o e = from_classes FIRST_READY_WORD ready_classes (class_objects p.fields FIRST_CLASS_WORD (classes_of p)) i o (ready_are ready_classes refl) (of_classes p.fields FIRST_CLASS_WORD (classes_of p)) e

  start_header : (o : Object) → Contains (start_objects p) o → IsHeader p (header_of o)
  start_header o k =
      let s = start_object k.0 o (contained_got (start_objects p) o k) in
      subst (IsHeader p) (sym ((elim (o.class == INT_ARRAY_CLASS) as (λ (b : Bool). length o.values ≡ 0 → header o.class (if b then length o.values else 0) ≡ header o.class 0)
      [ true ↦ λ e. ap (header o.class) e | false ↦ λ e. refl ]) (ap (λ (vs : List ℕ). length vs) s.empty))) s.header

-- ---- the threads

abbrev IsFreshPhase : Phase → Type 0
IsFreshPhase phases.Idle = Unit {0}
IsFreshPhase phases.Start = Unit {0}
IsFreshPhase (phases.Ended e) = Unit {0}
IsFreshPhase phase = ⊥

record IsFresh (x : Thread) : Type 0 where
  phase : IsFreshPhase x.phase
  held : x.held ≡ []

fresh_part : (roots : List ℕ) → IsFreshPhase (part_phase roots)
fresh_part [] = tt
fresh_part (number ∷ roots) = tt

fresh_wait : (is : Classes) (phase : Phase) → IsFreshPhase phase → IsWaitOn is phase
fresh_wait is phases.Idle k = tt
fresh_wait is phase k = first_of (assumption, grind arith)

module _ (c : MarkedProgram) (cfg : Config) where
  is_fresh : (n : ℕ) → IsFresh (start_thread c cfg n)
  is_fresh zero = record { phase = fresh_part (init_roots c.program); held = refl }
  is_fresh (suc n) = record { phase = tt; held = refl }

  fresh_thread : (t : ℕ) (x : Thread) → slice_get (start c cfg).threads t ≡ Some x → IsFresh x
  fresh_thread t x e = let k = mapped_at (start_thread c cfg) (range_with_len 0 (c.program.workers + 1)) t x e in subst IsFresh k.2 (is_fresh k.0)

  fresh_at : (t : ℕ) (x : Thread) (phase : Phase) → slice_get (start c cfg).threads t ≡ Some x → x.phase ≡ phase → IsFreshPhase phase
  fresh_at t x phase e m = let k = fresh_thread t x e in subst IsFreshPhase m k.phase

-- ---- the whole

-- what is known of the start of a run
record KnownStart : Type 0 where
  lies : StartLiesApart
  agrees : StartAgrees
  unused : StartIsUnused
  types : StartIsTyped

module _ (laws : KnownStart) (c : MarkedProgram) (cfg : Config) (marked : IsMarked c) where
  open laws use {lies, agrees, unused, types}
  open marked use {checked.program as is_program}

  apart : LieApart c.program (start_objects c.program) (start_statics c.program) (words_of c.program)
  apart = lies c.program is_program

  found : (x v : ℕ) → value_at (plain_start c.program) x ≡ Some v → slice_index (start c cfg).words x ≡ v
  found x v e = let a = agrees c cfg is_program in a.places x v e (λ k. fresh_at c cfg k.0 k.1 (phases.Made k.2 k.3) k.4 k.5)

  header_found : (o : Object) → Contains (start_objects c.program) o → slice_index (start c cfg).words (header_word o.reference) ≡ header_of o
  header_found o k =
      found (header_word o.reference) (header_of o)
      (ap (λ v. option_or v (static_value (start_statics c.program) (header_word o.reference))) (header_at (start_objects c.program) k.0 o apart.beside (contained_got (start_objects c.program) o k)))

  -- a static field has the value that it begins with
  static_found : (number : ℕ) (f : FieldInfo) → slice_get c.program.fields number ≡ Some f → is_static f.flags ≡ true → slice_index (start c cfg).words f.index ≡ word_of f.start
  static_found number f g s =
      let a = apart in
      let v = a.there number f g s in
      let there = contained_got (start_statics c.program) v.0 v.1 in
      let from = mapped_at (λ (h : FieldInfo). record { word = h.index; value = word_of h.start }) (filter (λ h. is_static h.flags) c.program.fields) v.1.0 v.0 there in
      let own = filtered (λ (h : FieldInfo). is_static h.flags) c.program.fields v.1.0 from.0 from.1 in
      let word : from.0.index ≡ f.index = ap (λ (z : StaticValue). z.word) from.2 ∙ v.2 in
      let same : from.0 ≡ f = same_some (sym own.1 ∙ (ap (slice_get c.program.fields) (one_static_field c.program own.0 number from.0 f is_program own.1 g own.2 s word) ∙ g)) in
      let none : object_value (start_objects c.program) v.0.word ≡ None = outside_all (start_objects c.program) v.0.word (λ i o e. a.mixed i v.1.0 o v.0 e there) in
      let at : value_at (plain_start c.program) v.0.word ≡ Some v.0.value =
      ap (λ o. option_or o (static_value (start_statics c.program) v.0.word)) none ∙ static_at (start_statics c.program) v.1.0 v.0 a.differ there in
      ap (slice_index (start c cfg).words) (sym v.2) ∙ (found v.0.word v.0.value at ∙ (sym (ap (λ (z : StaticValue). z.value) from.2) ∙ ap (λ (h : FieldInfo). word_of h.start) same))

  -- an int of 32 bits, or null
  low_below : (n : ℕ) → n % 2 ^ 32 < 2 ^ 32
  low_below n = omega arith

  static_holds : (number : ℕ) (f : FieldInfo) (kind : Kind) → slice_get c.program.fields number ≡ Some f → is_static f.flags ≡ true → f.kind ≡ kind → KindHolds (HasClass (start_objects c.program)) kind (slice_index (start c cfg).words f.index)
  static_holds number f kinds.Int g s k = subst (λ (v : ℕ). v < 2 ^ 32) (sym (static_found number f g s)) (low_below (cast_unsigned w32 f.start))
  static_holds number f kinds.Bool g s k = subst (λ (v : ℕ). v < 2 ^ 32) (sym (static_found number f g s)) (low_below (cast_unsigned w32 f.start))
  static_holds number f (kinds.Ref class) g s k =
      inl (static_found number f g s ∙ ap word_of (((is_program.fields number f g).start_kept ∙ ap (λ b. cond b (kept_int f.kind f.start) (pos 0)) s) ∙ ap (λ (kind : Kind). kept_int kind f.start) k))

  -- no object of the start has a field or an element
  no_field : (o : Object) (number : ℕ) (f : FieldInfo) → Contains (start_objects c.program) o → slice_get c.program.fields number ≡ Some f → o.class ≡ f.class → ⊥
  no_field o number f k g class =
      omega (arith, (start_object c.program is_program k.0 o (contained_got (start_objects c.program) o k)).low, class, (is_program.fields number f g).class.0)

  places : PlacesHold c.program (start_objects c.program) (start c cfg).words
  places = record {
    headers = header_found;
    fields = λ o number f k g s class. absurd (no_field o number f k g class);
    elements = λ o i k array lt. absurd (omega (arith, lt, ap (λ (vs : List ℕ). length vs) (start_object c.program is_program k.0 o (contained_got (start_objects c.program) o k)).empty));
    statics = λ number f g s. static_holds number f f.kind g s refl;
  }

  start_heap : HeapFacts c (start_objects c.program) (start c cfg)
  start_heap = record {
    started = λ o k. (o, k, refl, refl);
    apart = apart;
    unused = unused c cfg is_program;
    begins = omega arith;
    typed = record {
      threads = types c cfg (start_objects c.program);
      elements = λ t x word stored e m. absurd (fresh_at c cfg t x (phases.Element word stored) e m);
      places = places;
    };
    new_objects = record {
      each = λ t x a word e m. absurd (fresh_at c cfg t x (phases.Made a word) e m);
      apart = λ t u x y a b word other e f n m l. absurd (fresh_at c cfg t x (phases.Made a word) e m);
    };
    headers = start_header c.program is_program;
    new_headers = λ t x a word e m. absurd (fresh_at c cfg t x (phases.Made a word) e m);
    monitors = λ t x e. let k = fresh_thread c cfg t x e in record { held = subst (AllHeld (HasClass (start_objects c.program))) (sym k.held) tt; waits = fresh_wait (HasClass (start_objects c.program)) x.phase k.phase };
  }

pub start_has : StartLiesApart → StartAgrees → StartIsUnused → StartIsTyped → StartHasHeap
start_has lies agrees unused types = start_heap (record { lies = lies; agrees = agrees; unused = unused; types = types })
