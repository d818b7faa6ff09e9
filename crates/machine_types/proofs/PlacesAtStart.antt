-- Places at the start of a run of a linked program: they lie apart, and the rest of the heap is unused.
use Rattle.std.proofs.Common.{◌≡◌, ◌≢◌, ◌⊎◌, ⊎_elim, inl, inr, ℕ, zero, suc, ◌+◌, ◌-◌, ◌*◌, ◌<◌, ◌≤◌, Bool, true, false, cond, List, [], ◌∷◌, ◌++◌, length, take, Some, refl, sym, ap, subst, ◌∙◌, length-append, arith, filter, flat_map, map, replicate, Contains, not, nat_le, nat_lt, ◌==◌, ◌&&◌, slice_get, slice_index}
use Rattle.std.{specs.List.{list_all, range_with_len, sum_by}, proofs.lemmas.{Bool.{cases_order, eqb-true, leb-true, Decides.nat_tests}, List.{length-map, length-replicate}}}
use Rattle.lists.proofs.{ListLaws.same_some, TestLaws.both_are_true}
use Rattle.jvm_types.specs.{ClassNames.file_class, Members.is_static, ProgramInvariant.{IsProgram, instances_among, statics_among, words_of}, declared.class_numbers.TheConstants.CLASS_ITSELF}
use Rattle.jvm_types.{specs.declared.{fixed_words.TheConstants.{FIRST_READY_WORD, MONITOR_RECORDS, FIRST_CLASS_WORD}, program.{FieldInfo.FieldInfo, Program.Program}}, proofs.EachAfter.sum_first}
use Rattle.laws_programs.proofs.FieldOrder.{before_at, statics_inside, statics_apart}
use Rattle.checked_program.{specs.CodeIndex.statics_below, proofs.FewStatics.{one_static, one_below, one_at_most}}
use Rattle.machine_types.specs.{Ints.word_of, ObjectsApart.{IsBeside, IsOutside}, PlainMemory.{Object, StaticValue, object_end, objects_from, class_objects, start_objects, start_statics}}
use Rattle.machine_types.{specs.{ReadyObjects.ready_classes, StartLaws.{StartLiesApart, StartIsUnused}, StartWords.{object_words, statics_of, class_words, classes_of}}, proofs.Lists.every}

-- ---- how many static fields there are, and how many of the classes below one

not_below : (class n : ℕ) → class ≤ n → nat_lt n class ≡ false
not_below class n h = grind (arith, nat_tests, h)

is_below : (class n : ℕ) → n < class → nat_lt n class ≡ true
is_below class n h = grind (arith, nat_tests, h)

pub none_of : (class : ℕ) (f : FieldInfo) → class ≤ f.class → one_below class f ≡ 0
none_of class f h = ap (λ (b : Bool). cond {A = ℕ} (b && is_static f.flags) 1 0) (not_below class f.class h)

pub all_of : (class : ℕ) (f : FieldInfo) → f.class < class → one_below class f ≡ one_static f
all_of class f h = ap (λ (b : Bool). cond {A = ℕ} (b && is_static f.flags) 1 0) (is_below class f.class h)

pub below_at_most : (class : ℕ) (fields : List FieldInfo) → statics_below class fields ≤ sum_by one_static fields
below_at_most class [] = omega arith
below_at_most class (f ∷ fs) = omega (arith, one_at_most class f, below_at_most class fs, sum_first (one_below class) f fs, sum_first one_static f fs)

pub none_below : (class : ℕ) (fields : List FieldInfo) → ((i : ℕ) (f : FieldInfo) → slice_get fields i ≡ Some f → class ≤ f.class) → statics_below class fields ≡ 0
none_below class [] all = refl
none_below class (f ∷ fs) all = omega (arith, none_of class f (all 0 f refl), none_below class fs (λ i g e. all (suc i) g e), sum_first (one_below class) f fs)

all_below : (class : ℕ) (fields : List FieldInfo) → ((i : ℕ) (f : FieldInfo) → slice_get fields i ≡ Some f → f.class < class) → statics_below class fields ≡ sum_by one_static fields
all_below class [] all = refl
all_below class (f ∷ fs) all = omega (arith, all_of class f (all 0 f refl), all_below class fs (λ i g e. all (suc i) g e), sum_first (one_below class) f fs, sum_first one_static f fs)

-- those of a class stand between those below it and those below the next
one_more : (class : ℕ) (f : FieldInfo) → cond ((f.class == class) && is_static f.flags) 1 0 + one_below class f ≡ one_below (class + 1) f
one_more class f = by_static (is_static f.flags)
  where
    by_static : (b : Bool) → cond ((f.class == class) && b) 1 0 + cond (nat_lt f.class class && b) 1 0 ≡ cond (nat_lt f.class (class + 1) && b) 1 0
    by_static true = grind (arith, nat_tests)
    by_static false = grind (arith, nat_tests)

length_more : {X : Type 0} (b : Bool) (x : X) (xs : List X) → length (cond b (x ∷ xs) xs) ≡ cond b 1 0 + length xs
length_more true x xs = omega arith
length_more false x xs = omega arith

pub one_class_more : (class : ℕ) (fields : List FieldInfo) → length (statics_of fields class) + statics_below class fields ≡ statics_below (class + 1) fields
one_class_more class [] = refl
one_class_more class (f ∷ fs) =
    let more = length_more ((f.class == class) && is_static f.flags) f (statics_of fs class) in
    omega (arith, more, one_more class f, one_class_more class fs, sum_first (one_below class) f fs, sum_first (one_below (class + 1)) f fs)

pub rises : (class k : ℕ) (fields : List FieldInfo) → statics_below class fields ≤ statics_below (class + k) fields
rises class zero fields = let same : class + 0 ≡ class = omega arith in subst (λ (c : ℕ). statics_below class fields ≤ statics_below c fields) (sym same) (omega arith)
rises class (suc k) fields =
    let same : (class + k) + 1 ≡ class + suc k = omega arith in
    subst (λ (c : ℕ). statics_below class fields ≤ statics_below c fields) same (omega (arith, rises class k fields, one_class_more (class + k) fields))

-- ---- the static fields before one, and those of the classes below

pub before_at_least : (class : ℕ) (fields : List FieldInfo) (n : ℕ) → ((j : ℕ) (g : FieldInfo) → n ≤ j → slice_get fields j ≡ Some g → class ≤ g.class) → statics_below class fields ≤ sum_by one_static (take n fields)
before_at_least class [] n later = omega arith
before_at_least class (g ∷ gs) zero later = omega (arith, none_below class (g ∷ gs) (λ i f e. later i f (omega arith) e))
before_at_least class (g ∷ gs) (suc n) later =
    omega (arith, one_at_most class g, before_at_least class gs n (λ j f h e. later (suc j) f (omega (arith, h)) e), sum_first (one_below class) g gs, sum_first one_static g (take n gs))

before_less : (class : ℕ) (fields : List FieldInfo) (n : ℕ) (f : FieldInfo) → slice_get fields n ≡ Some f → is_static f.flags ≡ true → f.class < class
    → ((j : ℕ) (g : FieldInfo) → j < n → slice_get fields j ≡ Some g → g.class < class) → sum_by one_static (take n fields) < statics_below class fields
before_less class [] n f e s h earlier = cc
before_less class (g ∷ gs) zero f e s h earlier =
    let same : g ≡ f = same_some e in
    let one : ◌≡◌ {A = ℕ} (one_below class g) 1 = ap (one_below class) same ∙ all_of class f h ∙ ap (λ (b : Bool). cond {A = ℕ} b 1 0) s in
    omega (arith, one, sum_first (one_below class) g gs)
before_less class (g ∷ gs) (suc n) f e s h earlier =
    omega (
      arith,
      all_of class g (earlier 0 g (omega arith) refl),
      before_less class gs n f e s h (λ j k l m. earlier (suc j) k (omega (arith, l)) m),
      sum_first (one_below class) g gs,
      sum_first one_static g (take n gs),
    )

-- ---- fields of a program, which stand in the order of their classes

pub class_from : (p : Program) → IsProgram p → (i : ℕ) (f : FieldInfo) → slice_get p.fields i ≡ Some f → file_class 0 ≤ f.class
class_from p is i f e = (is.fields i f e).class.0

pub class_to : (p : Program) → IsProgram p → (i : ℕ) (f : FieldInfo) → slice_get p.fields i ≡ Some f → f.class < file_class (length p.names)
class_to p is i f e = (is.fields i f e).class.1

pub earlier_class : (p : Program) → IsProgram p → (i j : ℕ) (f g : FieldInfo) → slice_get p.fields i ≡ Some f → slice_get p.fields j ≡ Some g → i ≤ j → f.class ≤ g.class
earlier_class p is i j f g e h le = ⊎_elim
    (λ (same : i ≡ j). let one : f ≡ g = same_some (sym e ∙ ap (slice_get p.fields) same ∙ h) in omega (arith, ap (λ (k : FieldInfo). k.class) one))
    (λ (apart : (i < j) ⊎ (j < i)). ⊎_elim (λ (lt : i < j). before_at (λ (k : FieldInfo). k.class ≤ g.class) p.fields i j f (is.fields j g h).ordered e lt) (λ (gt : j < i). absurd (omega (arith, gt, le))) apart)
    (cases_order i j)

pub static_word : (p : Program) → IsProgram p → (n : ℕ) (f : FieldInfo) → slice_get p.fields n ≡ Some f → is_static f.flags ≡ true
    → f.index ≡ FIRST_CLASS_WORD + 2 * (f.class - file_class 0 + 1) + sum_by one_static (take n p.fields)
static_word p is n f e s =
    (is.fields n f e).index ∙ ap (λ b. cond b (FIRST_CLASS_WORD + 2 * (f.class - file_class 0 + 1) + statics_among (take n p.fields)) (instances_among f.class (take n p.fields))) s

-- no object of a built-in class has a field
no_instances : (class : ℕ) (fields : List FieldInfo) → ((i : ℕ) (f : FieldInfo) → slice_get fields i ≡ Some f → class < f.class) → sum_by (λ (f : FieldInfo). cond ((f.class == class) && not (is_static f.flags)) 1 0) fields ≡ 0
no_instances class [] all = refl
no_instances class (f ∷ fs) all =
    let other : (f.class == class) ≡ false = apart f.class class (all 0 f refl) in
    let none : ◌≡◌ {A = ℕ} (cond ((f.class == class) && not (is_static f.flags)) 1 0) 0 = ap (λ (b : Bool). cond {A = ℕ} (b && not (is_static f.flags)) 1 0) other in
    omega (arith, none, no_instances class fs (λ i g e. all (suc i) g e), sum_first (λ (g : FieldInfo). cond ((g.class == class) && not (is_static g.flags)) 1 0) f fs)
  where
    apart : (m n : ℕ) → n < m → (m == n) ≡ false
    apart m n h = grind (arith, nat_tests, h)

-- ---- the static fields of the plain machine are those of the program, in order

abbrev pub value_of : FieldInfo → StaticValue
value_of f = record { word = f.index; value = word_of f.start }

abbrev pub statics_in : List FieldInfo → List StaticValue
statics_in fields = map value_of (filter (λ f. is_static f.flags) fields)

-- the static value is that of this field
pub record IsValueOf (fields : List FieldInfo) (s : StaticValue) : Type 0 where
  pub number : ℕ
  pub field : FieldInfo
  pub is : slice_get fields number ≡ Some field
  pub static : is_static field.flags ≡ true
  pub same : s ≡ value_of field

pub value_at : (fields : List FieldInfo) (j : ℕ) (s : StaticValue) → slice_get (statics_in fields) j ≡ Some s → IsValueOf fields s
value_at [] j s e = cc
value_at (f ∷ fs) j s e = by_test (is_static f.flags) refl j e (λ i h. value_at fs i s h)
  where
    later : (k : IsValueOf fs s) → IsValueOf (f ∷ fs) s
    later k = record { number = suc k.number; field = k.field; is = k.is; static = k.static; same = k.same }

    by_test : (b : Bool) → is_static f.flags ≡ b → (i : ℕ) → slice_get (map value_of (cond b (f ∷ filter (λ g. is_static g.flags) fs) (filter (λ g. is_static g.flags) fs))) i ≡ Some s
        → ((k : ℕ) → slice_get (statics_in fs) k ≡ Some s → IsValueOf fs s) → IsValueOf (f ∷ fs) s
    by_test true t zero h more = record { number = 0; field = f; is = refl; static = t; same = sym (same_some h) }
    by_test true t (suc i) h more = later (more i h)
    by_test false t i h more = later (more i h)

pub record AreValuesOf (fields : List FieldInfo) (s r : StaticValue) : Type 0 where
  pub first : IsValueOf fields s
  pub second : IsValueOf fields r
  pub order : first.number < second.number

values_at : (fields : List FieldInfo) (i j : ℕ) (s r : StaticValue) → slice_get (statics_in fields) i ≡ Some s → slice_get (statics_in fields) j ≡ Some r → i < j → AreValuesOf fields s r
values_at [] i j s r e h lt = cc
values_at (f ∷ fs) i j s r e h lt = by_test (is_static f.flags) refl i j e h lt (λ k l a b less. values_at fs k l s r a b less)
  where
    rest : List FieldInfo
    rest = filter (λ g. is_static g.flags) fs

    next : (x : StaticValue) → IsValueOf fs x → IsValueOf (f ∷ fs) x
    next x k = record { number = suc k.number; field = k.field; is = k.is; static = k.static; same = k.same }

    later : AreValuesOf fs s r → AreValuesOf (f ∷ fs) s r
    later k = record { first = next s k.first; second = next r k.second; order = omega (arith, k.order) }

    by_test : (b : Bool) → is_static f.flags ≡ b → (k l : ℕ) → slice_get (map value_of (cond b (f ∷ rest) rest)) k ≡ Some s → slice_get (map value_of (cond b (f ∷ rest) rest)) l ≡ Some r → k < l
        → ((k l : ℕ) → slice_get (statics_in fs) k ≡ Some s → slice_get (statics_in fs) l ≡ Some r → k < l → AreValuesOf fs s r) → AreValuesOf (f ∷ fs) s r
    by_test true t k zero a b less more = absurd (omega (arith, less))
    by_test true t zero (suc l) a b less more = record { first = record { number = 0; field = f; is = refl; static = t; same = sym (same_some a) }; second = next r (value_at fs l r b); order = omega arith }
    by_test true t (suc k) (suc l) a b less more = later (more k l a b (omega (arith, less)))
    by_test false t k l a b less more = later (more k l a b less)

words_differ : (p : Program) → IsProgram p → (i j : ℕ) (s r : StaticValue) → slice_get (start_statics p) i ≡ Some s → slice_get (start_statics p) j ≡ Some r → i < j → s.word < r.word
words_differ p is i j s r e h lt =
    let k : AreValuesOf p.fields s r = values_at p.fields i j s r e h lt in
    let less = statics_apart p k.first.number k.second.number k.first.field k.second.field is k.first.is k.second.is k.order k.first.static k.second.static in
    omega (arith, less, ap (λ (x : StaticValue). x.word) k.first.same, ap (λ (x : StaticValue). x.word) k.second.same)

-- ---- the ready objects, which are written out

abbrev pub ready_objects : List Object
ready_objects = objects_from FIRST_READY_WORD ready_classes

-- what holds of each object at the start, up to a word
pub record IsPlaced (o : Object) (to : ℕ) : Type 0 where
  pub begins : FIRST_READY_WORD ≤ o.reference
  pub to_word : object_end o ≤ to
  pub built_in : o.class < file_class 0
  pub empty : length o.values ≡ 0

abbrev is_placed : (to : ℕ) → Object → Bool
is_placed to o = nat_le FIRST_READY_WORD o.reference && (nat_le (object_end o) to && (nat_lt o.class (file_class 0) && (length o.values == 0)))

less : (m n : ℕ) → nat_lt m n ≡ true → m < n
less m n e = grind (arith, nat_tests)

placed : (to : ℕ) (o : Object) → is_placed to o ≡ true → IsPlaced o to
placed to o e =
    let a : (nat_le FIRST_READY_WORD o.reference ≡ true) × ((nat_le (object_end o) to && (nat_lt o.class (file_class 0) && (length o.values == 0))) ≡ true) = both_are_true _ _ e in
    let b : (nat_le (object_end o) to ≡ true) × ((nat_lt o.class (file_class 0) && (length o.values == 0)) ≡ true) = both_are_true _ _ a.1 in
    let c : (nat_lt o.class (file_class 0) ≡ true) × ((length o.values == 0) ≡ true) = both_are_true _ _ b.1 in
    record { begins = leb-true FIRST_READY_WORD o.reference a.0; to_word = leb-true (object_end o) to b.0; built_in = less o.class (file_class 0) c.0; empty = eqb-true (length o.values) 0 c.1 }

pub ready_placed : (i : ℕ) (o : Object) → slice_get ready_objects i ≡ Some o → IsPlaced o FIRST_CLASS_WORD
ready_placed i o e = placed FIRST_CLASS_WORD o (every (is_placed FIRST_CLASS_WORD) ready_objects refl i o e)

abbrev each_two : {X : Type 0} → (X → X → Bool) → List X → Bool
each_two test [] = true
each_two test (x ∷ xs) = list_all (λ y. test x y) xs && each_two test xs

two : {X : Type 0} (test : X → X → Bool) (xs : List X) → each_two test xs ≡ true → (i j : ℕ) (x y : X) → slice_get xs i ≡ Some x → slice_get xs j ≡ Some y → i < j → test x y ≡ true
two test [] all i j x y e h lt = cc
two test (z ∷ zs) all i zero x y e h lt = absurd (omega (arith, lt))
two {X} test (z ∷ zs) all zero (suc j) x y e h lt =
    let g : z ≡ x = same_some e in subst (λ (w : X). test w y ≡ true) g (every (λ w. test z w) zs (both_are_true (list_all (λ w. test z w) zs) (each_two test zs) all).0 j y h)
two test (z ∷ zs) all (suc i) (suc j) x y e h lt = two test zs (both_are_true (list_all (λ w. test z w) zs) (each_two test zs) all).1 i j x y e h (omega (arith, lt))

ready_apart : (i j : ℕ) (o e : Object) → slice_get ready_objects i ≡ Some o → slice_get ready_objects j ≡ Some e → i < j → object_end o ≤ e.reference
ready_apart i j o e g h lt = leb-true (object_end o) e.reference (two (λ x y. nat_le (object_end x) y.reference) ready_objects refl i j o e g h lt)

-- ---- the classes themselves

-- the class with a number, among those from a class on whose words begin at a reference
pub record IsClassObject (fields : List FieldInfo) (reference class count number : ℕ) (o : Object) : Type 0 where
  pub place : o.reference + statics_below class fields ≡ reference + 2 * number + statics_below (class + number) fields
  pub few : number < count
  pub empty : o.values ≡ []
  pub itself : o.class ≡ CLASS_ITSELF

class_object : (fields : List FieldInfo) (count class reference i : ℕ) (o : Object) → slice_get (class_objects fields reference (range_with_len class count)) i ≡ Some o → IsClassObject fields reference class count i o
class_object fields zero class reference i o e = cc
class_object fields (suc count) class reference zero o e =
    let same : record { reference = reference; class = CLASS_ITSELF; values = [] } ≡ o = same_some e in
    let is : reference ≡ o.reference = ap (λ (x : Object). x.reference) same in
    let at : statics_below (class + 0) fields ≡ statics_below class fields = ap (λ (c : ℕ). statics_below c fields) (omega arith) in
    record { place = omega (arith, is, at); few = omega arith; empty = sym (ap (λ (x : Object). x.values) same); itself = sym (ap (λ (x : Object). x.class) same) }
class_object fields (suc count) class reference (suc i) o e =
    let k : IsClassObject fields (reference + 2 + length (statics_of fields class)) (class + 1) count i o = class_object fields count (class + 1) (reference + 2 + length (statics_of fields class)) i o e in
    let at : statics_below ((class + 1) + i) fields ≡ statics_below (class + suc i) fields = ap (λ (c : ℕ). statics_below c fields) (omega arith) in
    record { place = omega (arith, k.place, at, one_class_more class fields); few = omega (arith, k.few); empty = k.empty; itself = k.itself }

abbrev classes_in : Program → List Object
classes_in p = class_objects p.fields FIRST_CLASS_WORD (classes_of p)

pub record IsClassAt (p : Program) (number : ℕ) (o : Object) : Type 0 where
  pub place : o.reference ≡ FIRST_CLASS_WORD + 2 * number + statics_below (file_class number) p.fields
  pub few : number < length p.names
  pub itself : o.class ≡ CLASS_ITSELF
  pub placed : IsPlaced o (words_of p)

class_at : (p : Program) → IsProgram p → (number : ℕ) (o : Object) → slice_get (classes_in p) number ≡ Some o → IsClassAt p number o
class_at p is number o e =
    let k : IsClassObject p.fields FIRST_CLASS_WORD (file_class 0) (length p.names) number o = class_object p.fields (length p.names) (file_class 0) FIRST_CLASS_WORD number o e in
    let before : statics_below (file_class 0) p.fields ≡ 0 = none_below (file_class 0) p.fields (class_from p is) in
    let place : o.reference ≡ FIRST_CLASS_WORD + 2 * number + statics_below (file_class number) p.fields = omega (arith, k.place, before) in
    let none : length o.values ≡ 0 = ap length k.empty in
    record {
      place = place;
      few = k.few;
      itself = k.itself;
      placed = record {
        begins = omega (arith, place);
        to_word = omega (arith, place, none, k.few, below_at_most (file_class number) p.fields);
        built_in = omega (arith, k.itself);
        empty = none;
      };
    }

classes_apart : (p : Program) (k l : ℕ) (o e : Object) → IsClassAt p k o → IsClassAt p l e → k < l → object_end o ≤ e.reference
classes_apart p k l o e a b lt =
    let to : file_class k + (l - k) ≡ file_class l = omega (arith, lt) in
    let more : statics_below (file_class k) p.fields ≤ statics_below (file_class l) p.fields = subst (λ (c : ℕ). statics_below (file_class k) p.fields ≤ statics_below c p.fields) to (rises (file_class k) (l - k) p.fields) in
    omega (arith, a.place, b.place, a.placed.empty, more, lt)

-- ---- all objects: the ready ones, and then the classes

pub data Stands (p : Program) (i : ℕ) (o : Object) : Type 0 where
  is_ready : slice_get ready_objects i ≡ Some o → i < 8 → Stands p i o
  is_class : (number : ℕ) → i ≡ 8 + number → IsClassAt p number o → Stands p i o

got_append : {X : Type 0} (xs ys : List X) (i : ℕ) (x : X) → slice_get (xs ++ ys) i ≡ Some x → ((slice_get xs i ≡ Some x) × (i < length xs)) ⊎ ((k : ℕ) × (i ≡ length xs + k) × (slice_get ys k ≡ Some x))
got_append [] ys i x e = inr (i, omega arith, e)
got_append (y ∷ xs) ys zero x e = inl (e, omega arith)
got_append {X} (y ∷ xs) ys (suc i) x e = next (got_append xs ys i x e)
  where
    next : ((slice_get xs i ≡ Some x) × (i < length xs)) ⊎ ((k : ℕ) × (i ≡ length xs + k) × (slice_get ys k ≡ Some x)) → ((slice_get (y ∷ xs) (suc i) ≡ Some x) × (suc i < length (y ∷ xs))) ⊎ ((k : ℕ) × (suc i ≡ length (y ∷ xs) + k) × (slice_get ys k ≡ Some x))
    next (inl h) = inl (h.0, omega (arith, h.1))
    next (inr h) = inr (h.0, omega (arith, h.1), h.2)

pub stands : (p : Program) → IsProgram p → (i : ℕ) (o : Object) → slice_get (start_objects p) i ≡ Some o → Stands p i o
stands p is i o e = by_side (got_append ready_objects (classes_in p) i o e)
  where
    by_side : ((slice_get ready_objects i ≡ Some o) × (i < length ready_objects)) ⊎ ((k : ℕ) × (i ≡ length ready_objects + k) × (slice_get (classes_in p) k ≡ Some o)) → Stands p i o
    by_side (inl h) = is_ready h.0 h.1
    by_side (inr h) = is_class h.0 h.1 (class_at p is h.0 o h.2)

from_first_class : (p : Program) (o : Object) → IsPlaced o FIRST_CLASS_WORD → IsPlaced o (words_of p)
from_first_class p o k = record { begins = k.begins; to_word = omega (arith, k.to_word); built_in = k.built_in; empty = k.empty }

pub object_placed : (p : Program) (i : ℕ) (o : Object) → Stands p i o → IsPlaced o (words_of p)
object_placed p i o (is_ready e lt) = from_first_class p o (ready_placed i o e)
object_placed p i o (is_class number at k) = k.placed

in_order : (p : Program) (i j : ℕ) (o e : Object) → Stands p i o → Stands p j e → i < j → object_end o ≤ e.reference
in_order p i j o e (is_ready g a) (is_ready h b) lt = ready_apart i j o e g h lt
in_order p i j o e (is_ready g a) (is_class l at k) lt = omega (arith, (ready_placed i o g).to_word, k.place)
in_order p i j o e (is_class l at k) (is_ready h b) lt = absurd (omega (arith, lt, at, b))
in_order p i j o e (is_class n at k) (is_class l to m) lt = classes_apart p n l o e k m (omega (arith, lt, at, to))

objects_beside : (p : Program) (i j : ℕ) (o e : Object) → Stands p i o → Stands p j e → i ≢ j → IsBeside o e
objects_beside p i j o e a b differ = ⊎_elim
    (λ (same : i ≡ j). absurd (differ same))
    (λ (apart : (i < j) ⊎ (j < i)). ⊎_elim (λ (lt : i < j). inl (in_order p i j o e a b lt)) (λ (gt : j < i). inr (in_order p j i e o b a gt)) apart)
    (cases_order i j)

-- ---- a static field is outside each object

outside : (p : Program) → IsProgram p → (i : ℕ) (o : Object) (s : StaticValue) → Stands p i o → IsValueOf p.fields s → IsOutside o s.word
outside p is i o s (is_ready g lt) v =
    let word : s.word ≡ v.field.index = ap (λ (x : StaticValue). x.word) v.same in
    inr (omega (arith, word, (ready_placed i o g).to_word, (statics_inside p v.number v.field is v.is v.static).0))
outside p is i o s (is_class number at k) v = ⊎_elim
    (λ (same : v.field.class ≡ file_class number). inr (behind (omega (arith, same))))
    (λ (apart : (v.field.class < file_class number) ⊎ (file_class number < v.field.class)). ⊎_elim (λ (lt : v.field.class < file_class number). inl (before lt)) (λ (gt : file_class number < v.field.class). inr (behind (omega (arith, gt)))) apart)
    (cases_order v.field.class (file_class number))
  where
    word : s.word ≡ FIRST_CLASS_WORD + 2 * (v.field.class - file_class 0 + 1) + sum_by one_static (take v.number p.fields)
    word = ap (λ (x : StaticValue). x.word) v.same ∙ static_word p is v.number v.field v.is v.static

    before : v.field.class < file_class number → s.word < o.reference
    before lt =
        let fewer = before_less (file_class number) p.fields v.number v.field v.is v.static lt (λ j g below e. omega (arith, lt, earlier_class p is j v.number g v.field e v.is (omega (arith, below)))) in
        omega (arith, word, k.place, lt, class_from p is v.number v.field v.is, fewer)

    behind : file_class number ≤ v.field.class → object_end o ≤ s.word
    behind le =
        let more = before_at_least (file_class number) p.fields v.number (λ j g from e. omega (arith, le, earlier_class p is v.number j v.field g v.is e from)) in
        omega (arith, word, k.place, k.placed.empty, le, more)

-- ---- each static field is there

first_in : (test : Bool) → test ≡ true → (g f : FieldInfo) → g ≡ f → (gs : List FieldInfo) → Contains (map value_of (cond test (g ∷ gs) gs)) (value_of f)
first_in true e g f same gs = (0, omega arith, ap value_of same)
first_in false e g f same gs = cc

later_in : (test : Bool) (g f : FieldInfo) (gs : List FieldInfo) → Contains (map value_of gs) (value_of f) → Contains (map value_of (cond test (g ∷ gs) gs)) (value_of f)
later_in true g f gs k = let below : k.0 < length (map value_of gs) = k.1 in (suc k.0, omega arith, k.2)
later_in false g f gs k = k

among_statics : (fields : List FieldInfo) (number : ℕ) (f : FieldInfo) → slice_get fields number ≡ Some f → is_static f.flags ≡ true → Contains (statics_in fields) (value_of f)
among_statics [] number f e is = cc
among_statics (g ∷ gs) zero f e is =
    let same : g ≡ f = same_some e in first_in (is_static g.flags) (subst (λ (h : FieldInfo). is_static h.flags ≡ true) (sym same) is) g f same (filter (λ h. is_static h.flags) gs)
among_statics (g ∷ gs) (suc number) f e is = later_in (is_static g.flags) g f (filter (λ h. is_static h.flags) gs) (among_statics gs number f e is)

-- ---- the whole

pub lies_apart : StartLiesApart
lies_apart p is = record {
  beside = λ i j o e g h differ. objects_beside p i j o e (stands p is i o g) (stands p is j e h) differ;
  differ = λ i j s r g h differ same. ⊎_elim
      (λ (k : i ≡ j). differ k)
      (λ (apart : (i < j) ⊎ (j < i)). ⊎_elim (λ (lt : i < j). omega (arith, words_differ p is i j s r g h lt, same)) (λ (gt : j < i). omega (arith, words_differ p is j i r s h g gt, same)) apart)
      (cases_order i j);
  mixed = λ i j o s g h. outside p is i o s (stands p is i o g) (value_at p.fields j s h);
  begin = λ i o g. (object_placed p i o (stands p is i o g)).begins;
  below = λ i o g. (object_placed p i o (stands p is i o g)).to_word;
  inside = λ i o g. omega (arith, (object_placed p i o (stands p is i o g)).to_word, is.words);
  sized = λ i o g other. let k : IsPlaced o (words_of p) = object_placed p i o (stands p is i o g) in
      k.empty ∙ sym (no_instances o.class p.fields (λ n f e. omega (arith, k.built_in, class_from p is n f e)));
  statics_begin = λ j s g. let v : IsValueOf p.fields s = value_at p.fields j s g in
      omega (arith, ap (λ (x : StaticValue). x.word) v.same, (statics_inside p v.number v.field is v.is v.static).0);
  statics_below = λ j s g. let v : IsValueOf p.fields s = value_at p.fields j s g in
      let word : s.word ≡ v.field.index = ap (λ (x : StaticValue). x.word) v.same in
      let below : v.field.index < words_of p = (statics_inside p v.number v.field is v.is v.static).1 in
      (omega (arith, word, below), omega (arith, word, below, is.words));
  there = λ number f e s. (value_of f, among_statics p.fields number f e s, refl);
}

-- ---- the rest of the heap

length_classes : (fields : List FieldInfo) (count class : ℕ) → length (flat_map (class_words fields) (range_with_len class count)) + statics_below class fields ≡ 2 * count + statics_below (class + count) fields
length_classes fields zero class = let at : statics_below class fields ≡ statics_below (class + 0) fields = ap (λ (c : ℕ). statics_below c fields) (omega arith) in omega (arith, at)
length_classes fields (suc count) class =
    let at : statics_below ((class + 1) + count) fields ≡ statics_below (class + suc count) fields = ap (λ (c : ℕ). statics_below c fields) (omega arith) in
    let own : length (class_words fields class) ≡ 2 + length (statics_of fields class) = omega (arith, length-map (statics_of fields class) (λ (f : FieldInfo). word_of f.start)) in
    omega (
      arith,
      at,
      own,
      one_class_more class fields,
      length_classes fields count (class + 1),
      length-append (class_words fields class) (flat_map (class_words fields) (range_with_len (class + 1) count)),
    )

abbrev pub front : Program → (records : ℕ) → List ℕ
front p records = 0 ∷ words_of p ∷ 0 ∷ 0 ∷ replicate records 0 ++ flat_map object_words ready_classes ++ flat_map (class_words p.fields) (classes_of p)

length_front : (p : Program) (records : ℕ) → IsProgram p → length (front p records) + FIRST_CLASS_WORD ≡ words_of p + (20 + records)
length_front p records is =
    let classes = length_classes p.fields (length p.names) (file_class 0) in
    omega (
      arith,
      classes,
      none_below (file_class 0) p.fields (class_from p is),
      all_below (file_class (length p.names)) p.fields (class_to p is),
      length-append (replicate records 0 ++ flat_map object_words ready_classes) (flat_map (class_words p.fields) (classes_of p)),
      length-append (replicate records 0) (flat_map object_words ready_classes),
      length-replicate {A = ℕ} records 0,
    )

pub in_replicated : (n x : ℕ) → slice_index (replicate n 0) x ≡ 0
in_replicated zero x = refl
in_replicated (suc n) zero = refl
in_replicated (suc n) (suc x) = in_replicated n x

behind_front : (xs : List ℕ) (n x : ℕ) → length xs ≤ x → slice_index (xs ++ replicate n 0) x ≡ 0
behind_front [] n x h = in_replicated n x
behind_front (y ∷ xs) n zero h = absurd (omega (arith, h))
behind_front (y ∷ xs) n (suc x) h = behind_front xs n x (omega (arith, h))

pub is_unused : StartIsUnused
is_unused c cfg is = record {
  many = length-append (front c.program (2 * MONITOR_RECORDS)) (replicate rest 0) ∙ omega (arith, count, length-replicate {A = ℕ} rest 0, is.words);
  empty = λ x from below. behind_front (front c.program (2 * MONITOR_RECORDS)) rest x (omega (arith, count, from));
}
  where
    rest : ℕ
    rest = c.program.heap - words_of c.program

    count : length (front c.program (2 * MONITOR_RECORDS)) ≡ words_of c.program
    count = omega (arith, length_front c.program (2 * MONITOR_RECORDS) is)
