-- What stands at the places of the plain machine when one is written, and that its objects and static fields still lie apart.
use Rattle.std.proofs.Common.{◌≡◌, ◌≢◌, ◌⊎◌, inl, inr, ℕ, suc, ◌+◌, ◌-◌, ◌<◌, ◌≤◌, Bool, true, false, List, [], ◌∷◌, length, Option, Some, None, refl, ap, sym, subst, ◌∙◌, arith, ◌==◌, ◌&&◌, nat_le, nat_lt, slice_get, slice_set, map, get_or, if◌then◌else◌}
use Rattle.std.{specs.Option.option_or, proofs.lemmas.{Bool.Decides.nat_tests, List.length-set, Option.slice_get-get_or}}
use Rattle.lists.proofs.ListLaws.{same_some}
use Rattle.jvm_types.specs.{ProgramInvariant.instances_among, declared.{class_numbers.TheConstants.INT_ARRAY_CLASS, fixed_words.TheConstants.FIRST_READY_WORD, program.Program.Program}}
use Rattle.machine_types.specs.{Facts.ArePlainObjects, ObjectsApart.{IsBeside, IsOutside, LieApart}, Owners.references_of}
use Rattle.machine_types.specs.PlainMemory.{Object, StaticValue, header_of, first_value, object_end, has_value, value_in, object_value, object_write, static_value, static_write}
use Rattle.machine_types.specs.{PlainState.{Plain, value_at, written}, Words.{header, header_word, value_word}}
use Rattle.machine_types.proofs.Lists.{got_when_set, got_other}
use Rattle.laws_threads.proofs.MonitorMoves.{contains_got}
use Rattle.laws_states.proofs.Lists.{contained_got}
use Rattle.laws_simulation.proofs.Assembled.{mapped_from}

-- ---- objects of one shape: they differ in their values alone

abbrev pub shape : Object → ℕ × (ℕ × ℕ)
shape o = (o.reference, (o.class, length o.values))

abbrev pub IsShaped : (o e : Object) → Type 0
IsShaped o e = shape e ≡ shape o

pub shape_reference : (o e : Object) → IsShaped o e → e.reference ≡ o.reference
shape_reference o e k = ap (λ (z : ℕ × (ℕ × ℕ)). z.0) k

pub shape_class : (o e : Object) → IsShaped o e → e.class ≡ o.class
shape_class o e k = ap (λ (z : ℕ × (ℕ × ℕ)). z.1.0) k

pub shape_long : (o e : Object) → IsShaped o e → length e.values ≡ length o.values
shape_long o e k = ap (λ (z : ℕ × (ℕ × ℕ)). z.1.1) k

written_shapes : (os : List Object) (x v : ℕ) → map shape (object_write os x v) ≡ map shape os
written_shapes [] x v = refl
written_shapes (o ∷ os) x v = elim (has_value o x) as (λ (b : Bool). map shape (if b then record o { values = slice_set o.values (x - first_value o) v } ∷ os else o ∷ object_write os x v) ≡ map shape (o ∷ os))
    [ true ↦ ap (λ (n : ℕ). (o.reference, (o.class, n)) ∷ map shape os) (length-set o.values (x - first_value o) v) | false ↦ ap (λ (zs : List (ℕ × (ℕ × ℕ))). shape o ∷ zs) (written_shapes os x v) ]

-- each of them is one of the others
abbrev pub ShapedAs : (os es : List Object) → Type 0
ShapedAs os es = (i : ℕ) (e : Object) → slice_get es i ≡ Some e → (o : Object) × (slice_get os i ≡ Some o) × IsShaped o e

pub written_from : (os : List Object) (x v : ℕ) → ShapedAs os (object_write os x v)
written_from os x v = mapped_from shape os (object_write os x v) (written_shapes os x v)

pub written_to : (os : List Object) (x v i : ℕ) (o : Object) → slice_get os i ≡ Some o → (e : Object) × (slice_get (object_write os x v) i ≡ Some e) × IsShaped o e
written_to os x v i o g = let e = mapped_from shape (object_write os x v) os (sym (written_shapes os x v)) i o g in (e.0, e.1, sym e.2)

pub written_references : (os : List Object) (x v : ℕ) → references_of (object_write os x v) ≡ references_of os
written_references [] x v = refl
written_references (o ∷ os) x v = elim (has_value o x) as (λ (b : Bool). references_of (if b then record o { values = slice_set o.values (x - first_value o) v } ∷ os else o ∷ object_write os x v) ≡ references_of (o ∷ os))
    [ true ↦ refl | false ↦ ap (λ (rs : List ℕ). o.reference ∷ rs) (written_references os x v) ]

-- ---- static fields of one word

abbrev pub NamedAs : (ss rs : List StaticValue) → Type 0
NamedAs ss rs = (i : ℕ) (r : StaticValue) → slice_get rs i ≡ Some r → (s : StaticValue) × (slice_get ss i ≡ Some s) × (r.word ≡ s.word)

static_words : (ss : List StaticValue) (x v : ℕ) → map (λ s. s.word) (static_write ss x v) ≡ map (λ s. s.word) ss
static_words [] x v = refl
static_words (s ∷ ss) x v = elim (s.word == x) as (λ (b : Bool). map (λ s. s.word) (if b then record s { value = v } ∷ ss else s ∷ static_write ss x v) ≡ map (λ s. s.word) (s ∷ ss))
    [ true ↦ refl | false ↦ ap (λ (ws : List ℕ). s.word ∷ ws) (static_words ss x v) ]

-- ---- what lies apart lies apart with other values

pub apart_shaped : (p : Program) (os es : List Object) (ss rs : List StaticValue) (next : ℕ) → ShapedAs os es → NamedAs ss rs → NamedAs rs ss → LieApart p os ss next → LieApart p es rs next
apart_shaped p os es ss rs next shaped named back apart = record {
  beside = λ i j o e g h n. let a = shaped i o g in let b = shaped j e h in two_beside a.0 b.0 o e a.2 b.2 (apart.beside i j a.0 b.0 a.1 b.1 n);
  differ = λ i j s r g h n e. let a = named i s g in let b = named j r h in apart.differ i j a.0 b.0 a.1 b.1 n (sym a.2 ∙ e ∙ b.2);
  mixed = λ i j o s g h. let a = shaped i o g in let b = named j s h in one_outside a.0 o b.0.word s.word a.2 (sym b.2) (apart.mixed i j a.0 b.0 a.1 b.1);
  begin = λ i o g. let a = shaped i o g in subst (λ (n : ℕ). FIRST_READY_WORD ≤ n) (sym (shape_reference a.0 o a.2)) (apart.begin i a.0 a.1);
  below = λ i o g. let a = shaped i o g in subst (λ (n : ℕ). n ≤ next) (sym (shape_end a.0 o a.2)) (apart.below i a.0 a.1);
  inside = λ i o g. let a = shaped i o g in subst (λ (n : ℕ). n ≤ p.heap) (sym (shape_end a.0 o a.2)) (apart.inside i a.0 a.1);
  sized = λ i o g n. let a = shaped i o g in shape_sized a.0 o a.2 (apart.sized i a.0 a.1) n;
  statics_begin = λ j s g. let b = named j s g in subst (λ (n : ℕ). FIRST_READY_WORD ≤ n) (sym b.2) (apart.statics_begin j b.0 b.1);
  statics_below = λ j s g. let b = named j s g in subst (λ (n : ℕ). (n < next) × (n < p.heap)) (sym b.2) (apart.statics_below j b.0 b.1);
  there = λ number f g s. let v = apart.there number f g s in let b = back v.1.0 v.0 (contained_got ss v.0 v.1) in (b.0, contains_got rs v.1.0 b.0 b.1, sym b.2 ∙ v.2);
}
  where
    shape_end : (o e : Object) → IsShaped o e → object_end e ≡ object_end o
    shape_end o e k = omega (arith, shape_reference o e k, shape_long o e k)

    two_beside : (a b o e : Object) → IsShaped a o → IsShaped b e → IsBeside a b → IsBeside o e
    two_beside a b o e k l (inl h) = inl (omega (arith, h, shape_end a o k, shape_reference b e l))
    two_beside a b o e k l (inr h) = inr (omega (arith, h, shape_end b e l, shape_reference a o k))

    one_outside : (a o : Object) (n m : ℕ) → IsShaped a o → n ≡ m → IsOutside a n → IsOutside o m
    one_outside a o n m k e (inl h) = inl (omega (arith, h, e, shape_reference a o k))
    one_outside a o n m k e (inr h) = inr (omega (arith, h, e, shape_end a o k))

    shape_sized : (a o : Object) → IsShaped a o → (a.class ≢ INT_ARRAY_CLASS → length a.values ≡ instances_among a.class p.fields) → o.class ≢ INT_ARRAY_CLASS → length o.values ≡ instances_among o.class p.fields
    shape_sized a o k sized n = shape_long a o k ∙ sized (λ e. n (shape_class a o k ∙ e)) ∙ ap (λ (d : ℕ). instances_among d p.fields) (sym (shape_class a o k))

pub apart_written : (p : Program) (q : Plain) (x v next : ℕ) → LieApart p q.objects q.statics next → LieApart p (object_write q.objects x v) (static_write q.statics x v) next
apart_written p q x v next apart = apart_shaped p q.objects (object_write q.objects x v) q.statics (static_write q.statics x v) next (written_from q.objects x v)
    (mapped_from (λ s. s.word) q.statics (static_write q.statics x v) (static_words q.statics x v)) (mapped_from (λ s. s.word) (static_write q.statics x v) q.statics (sym (static_words q.statics x v))) apart

-- ---- values

-- by what an object is
abbrev value_by : (class reference n y : ℕ) → Option ℕ → Option ℕ
value_by class reference n y got =
    if y == header_word reference then Some (header class (if class == INT_ARRAY_CLASS then n else 0)) else if nat_le (value_word reference 0) y && nat_lt y (value_word reference 0 + n) then got else None

got_set : (vs : List ℕ) (i v : ℕ) → i < length vs → slice_get (slice_set vs i v) i ≡ Some v
got_set vs i v lt = got_when_set vs i (get_or vs i 0) v (slice_get-get_or vs i 0 lt)

other_in : (o : Object) (x v y : ℕ) → has_value o x ≡ true → y ≢ x → value_in (record o { values = slice_set o.values (x - first_value o) v }) y ≡ value_in o y
other_in o x v y has n = ap (λ (k : ℕ). value_by o.class o.reference k y (slice_get (slice_set o.values (x - first_value o) v) (y - first_value o))) (length-set o.values (x - first_value o) v) ∙ by_header (y == header_word o.reference)
  where
    by_header : (b : Bool) → (if b then Some (header_of o) else if has_value o y then slice_get (slice_set o.values (x - first_value o) v) (y - first_value o) else None)
        ≡ (if b then Some (header_of o) else if has_value o y then slice_get o.values (y - first_value o) else None)
    by_header true = refl
    by_header false = (elim (has_value o y) as (λ (b : Bool). has_value o y ≡ b → (if b then slice_get (slice_set o.values (x - first_value o) v) (y - first_value o) else None) ≡ (if b then slice_get o.values (y - first_value o) else None))
        [ true ↦ λ e. got_other o.values (x - first_value o) (y - first_value o) v (λ (same : y - first_value o ≡ x - first_value o). n (grind (arith, nat_tests, same, e, has))) | false ↦ λ e. refl ]) refl

-- every other place is as it was
pub other_value : (os : List Object) (x v y : ℕ) → y ≢ x → object_value (object_write os x v) y ≡ object_value os y
other_value [] x v y n = refl
other_value (o ∷ os) x v y n = (elim (has_value o x) as (λ (b : Bool). has_value o x ≡ b → object_value (if b then record o { values = slice_set o.values (x - first_value o) v } ∷ os else o ∷ object_write os x v) y ≡ object_value (o ∷ os) y)
    [ true ↦ λ e. ap (λ (a : Option ℕ). option_or a (object_value os y)) (other_in o x v y e n) | false ↦ λ e. ap (λ (a : Option ℕ). option_or (value_in o y) a) (other_value os x v y n) ]) refl

pub other_static : (ss : List StaticValue) (x v y : ℕ) → y ≢ x → static_value (static_write ss x v) y ≡ static_value ss y
other_static [] x v y n = refl
other_static (s ∷ ss) x v y n = by_test (other_static ss x v y n) (s.word == x) refl
  where
    by_test : static_value (static_write ss x v) y ≡ static_value ss y → (b : Bool) → (s.word == x) ≡ b → static_value (if b then record s { value = v } ∷ ss else s ∷ static_write ss x v) y ≡ static_value (s ∷ ss) y
    by_test more true e = (elim (s.word == y) as (λ (b : Bool). (s.word == y) ≡ b → (s.word == x) ≡ true → (if b then Some v else static_value ss y) ≡ (if b then Some s.value else static_value ss y))
        [ true ↦ λ e t. absurd (n (grind (arith, nat_tests, e, t))) | false ↦ λ e t. refl ]) refl e
    by_test more false e = ap (λ (a : Option ℕ). if s.word == y then Some s.value else a) more

pub other_place : (q : Plain) (x v y : ℕ) → y ≢ x → value_at (written q x v) y ≡ value_at q y
other_place q x v y n = ap (λ (a : Option ℕ). option_or a (static_value (static_write q.statics x v) y)) (other_value q.objects x v y n) ∙ ap (option_or (object_value q.objects y)) (other_static q.statics x v y n)

-- ---- the place that is written

abbrev pub NoHeader : List Object → (x : ℕ) → Type 0
NoHeader os x = (i : ℕ) (o : Object) → slice_get os i ≡ Some o → x ≢ header_word o.reference

abbrev IsOrNone : Option ℕ → (v : ℕ) → Type 0
IsOrNone a v = (a ≡ None) ⊎ (a ≡ Some v)

here_in : (o : Object) (x v : ℕ) → has_value o x ≡ true → x ≢ header_word o.reference → value_in (record o { values = slice_set o.values (x - first_value o) v }) x ≡ Some v
here_in o x v has n =
    ap (λ (k : ℕ). value_by o.class o.reference k x (slice_get (slice_set o.values (x - first_value o) v) (x - first_value o))) (length-set o.values (x - first_value o) v) ∙ by_header (x == header_word o.reference) refl
  where
    by_header : (b : Bool) → (x == header_word o.reference) ≡ b → (if b then Some (header_of o) else if has_value o x then slice_get (slice_set o.values (x - first_value o) v) (x - first_value o) else None) ≡ Some v
    by_header true e = absurd (n (grind (arith, nat_tests, e)))
    by_header false e = ap (λ (b : Bool). if b then slice_get (slice_set o.values (x - first_value o) v) (x - first_value o) else None) has ∙ got_set o.values (x - first_value o) v (grind (arith, nat_tests, has))

not_in : (o : Object) (x : ℕ) → has_value o x ≡ false → x ≢ header_word o.reference → value_in o x ≡ None
not_in o x has n = (elim (x == header_word o.reference) as (λ (b : Bool). (x == header_word o.reference) ≡ b → (if b then Some (header_of o) else if has_value o x then slice_get o.values (x - first_value o) else None) ≡ None)
    [ true ↦ λ e. absurd (n (grind (arith, nat_tests, e))) | false ↦ λ e. ap (λ (b : Bool). if b then slice_get o.values (x - first_value o) else None) has ]) refl

here_value : (os : List Object) (x v : ℕ) → NoHeader os x → IsOrNone (object_value (object_write os x v) x) v
here_value [] x v n = inl refl
here_value (o ∷ os) x v n = (elim (has_value o x) as (λ (b : Bool). has_value o x ≡ b → IsOrNone (object_value (if b then record o { values = slice_set o.values (x - first_value o) v } ∷ os else o ∷ object_write os x v) x) v) [
  | true ↦ λ e. inr (ap (λ (a : Option ℕ). option_or a (object_value os x)) (here_in o x v e (n 0 o refl)))
  | false ↦ λ e. subst (λ (a : Option ℕ). IsOrNone (option_or a (object_value (object_write os x v) x)) v) (sym (not_in o x e (n 0 o refl))) (here_value os x v (λ i d g. n (suc i) d g))
]) refl

here_static : (ss : List StaticValue) (x v : ℕ) → IsOrNone (static_value (static_write ss x v) x) v
here_static [] x v = inl refl
here_static (s ∷ ss) x v = (elim (s.word == x) as (λ (b : Bool). (s.word == x) ≡ b → IsOrNone (static_value (if b then record s { value = v } ∷ ss else s ∷ static_write ss x v) x) v) [
  | true ↦ λ e. inr (ap (λ (b : Bool). if b then Some v else static_value ss x) e)
  | false ↦ λ e. subst (λ (b : Bool). IsOrNone (if b then Some s.value else static_value (static_write ss x v) x) v) (sym e) (here_static ss x v)
]) refl

-- what stands there is what was written
pub here_place : (q : Plain) (x v w : ℕ) → NoHeader q.objects x → value_at (written q x v) x ≡ Some w → w ≡ v
here_place q x v w n e = by_both (object_value (object_write q.objects x v) x) (static_value (static_write q.statics x v) x) (here_value q.objects x v n) (here_static q.statics x v) e
  where
    by_both : (a b : Option ℕ) → IsOrNone a v → IsOrNone b v → option_or a b ≡ Some w → w ≡ v
    by_both None None k l e = absurd (cc)
    by_both None (Some b) k (inl l) e = absurd (cc)
    by_both None (Some b) k (inr l) e = sym (same_some e) ∙ same_some l
    by_both (Some a) b (inl k) l e = absurd (cc)
    by_both (Some a) b (inr k) l e = sym (same_some e) ∙ same_some k

-- ---- objects with a place written are the plain objects still

pub known_written : (objects : List Object) (q : Plain) (x v : ℕ) → ArePlainObjects objects q → ArePlainObjects objects (written q x v)
known_written objects q x v known o k =
    let e = known o k in
    let d = written_to q.objects x v e.1.0 e.0 (contained_got q.objects e.0 e.1) in
    (d.0, contains_got (object_write q.objects x v) e.1.0 d.0 d.1, shape_reference e.0 d.0 d.2 ∙ e.2, shape_class e.0 d.0 d.2 ∙ e.3, shape_long e.0 d.0 d.2 ∙ e.4)

pub header_shaped : (o e : Object) → IsShaped o e → header_of e ≡ header_of o
header_shaped o e k = ap (λ (z : ℕ × (ℕ × ℕ)). header z.1.0 (if z.1.0 == INT_ARRAY_CLASS then z.1.1 else 0)) k
