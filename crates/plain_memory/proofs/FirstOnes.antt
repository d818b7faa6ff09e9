-- A change of the first item that passes a test, by the place at which it is found.
use Rattle.std.proofs.Common.{◌≡◌, ℕ, zero, suc, ◌+◌, ◌-◌, ◌<◌, Bool, true, false, List, [], ◌∷◌, length, get_or, Some, None, refl, sym, ap, ◌∙◌, arith, position, slice_set, if◌then◌else◌, ◌==◌}
use Rattle.std.{specs.List.position_from, proofs.lemmas.{Iterator.Adapters.position_from-zero, List.Quantifiers.position-Some}}
use Rattle.machine_types.specs.PlainMemory.{Object, StaticValue, has_value, first_value, object_write, static_write}

pub found_first : {A : Type 0} (test : A → Bool) (change : A → A) (F : List A → List A) → ((a : A) (rest : List A) → F (a ∷ rest) ≡ (if test a then change a ∷ rest else a ∷ F rest))
    → (rest : List A) (i : ℕ) (d : A) → i < length rest → test (get_or rest i d) ≡ true → ((k : ℕ) → k < i → test (get_or rest k d) ≡ false) → F rest ≡ slice_set rest i (change (get_or rest i d))
found_first test change F step [] i d l t before = absurd (omega (arith, l))
found_first test change F step (a ∷ rest) zero d l t before = rw (step a rest, t) refl
found_first test change F step (a ∷ rest) (suc i) d l t before =
    let here : test a ≡ false = before 0 (omega arith) in
    rw (step a rest, here) (ap (λ bs. a ∷ bs) (found_first test change F step rest i d (omega (arith, l)) t (λ k m. before (suc k) (omega (arith, m)))))

none_by : {A : Type 0} (test : A → Bool) (F : List A → List A) (a : A) (rest : List A) (n : ℕ) (now : List A) (t : Bool) → (if t then Some n else position_from test (n + 1) rest) ≡ None → (position_from test (n + 1) rest ≡ None → F rest ≡ rest)
    → (if t then now else a ∷ F rest) ≡ a ∷ rest
none_by test F a rest n now true e h = absurd (cc)
none_by test F a rest n now false e h = ap (λ bs. a ∷ bs) (h e)

none_from : {A : Type 0} (test : A → Bool) (change : A → A) (F : List A → List A) → F [] ≡ [] → ((a : A) (rest : List A) → F (a ∷ rest) ≡ (if test a then change a ∷ rest else a ∷ F rest))
    → (rest : List A) (n : ℕ) → position_from test n rest ≡ None → F rest ≡ rest
none_from test change F base step [] n e = base
none_from test change F base step (a ∷ rest) n e = step a rest ∙ none_by test F a rest n (change a ∷ rest) (test a) e (none_from test change F base step rest (n + 1))

pub none_found : {A : Type 0} (test : A → Bool) (change : A → A) (F : List A → List A) → F [] ≡ [] → ((a : A) (rest : List A) → F (a ∷ rest) ≡ (if test a then change a ∷ rest else a ∷ F rest))
    → (rest : List A) → position test rest ≡ None → F rest ≡ rest
none_found test change F base step rest e = none_from test change F base step rest 0 (sym (position_from-zero test rest) ∙ e)

-- ---- objects

abbrev pub changed_object : (x v : ℕ) → Object → Object
changed_object x v o = record o { values = slice_set o.values (x - first_value o) v }

pub object_found : (os : List Object) (x v i : ℕ) (o : Object) → position (λ o. has_value o x) os ≡ Some i → o ≡ get_or os i o → object_write os x v ≡ slice_set os i (changed_object x v o)
object_found os x v i o e is =
    let f = position-Some (λ o. has_value o x) os i o e in
    found_first (λ o. has_value o x) (changed_object x v) (λ os. object_write os x v) (λ a rest. refl) os i o f.0 f.1 f.2 ∙ ap (λ a. slice_set os i (changed_object x v a)) (sym is)

pub no_object : (os : List Object) (x v : ℕ) → position (λ o. has_value o x) os ≡ None → object_write os x v ≡ os
no_object os x v e = none_found (λ o. has_value o x) (changed_object x v) (λ os. object_write os x v) refl (λ a rest. refl) os e

-- it has the place, and is one of them
pub object_has : (os : List Object) (x i : ℕ) (o : Object) → position (λ o. has_value o x) os ≡ Some i → o ≡ get_or os i o → (i < length os) × (has_value o x ≡ true)
object_has os x i o e is =
    let f = position-Some (λ o. has_value o x) os i o e in
    (f.0, ap (λ a. has_value a x) is ∙ f.1)

-- ---- static fields

pub static_found : (ss : List StaticValue) (x v i : ℕ) (s : StaticValue) → position (λ s. s.word == x) ss ≡ Some i → s ≡ get_or ss i s → static_write ss x v ≡ slice_set ss i (record s { value = v })
static_found ss x v i s e is =
    let f = position-Some (λ s. s.word == x) ss i s e in
    found_first (λ s. s.word == x) (λ s. record s { value = v }) (λ ss. static_write ss x v) (λ a rest. refl) ss i s f.0 f.1 f.2 ∙ ap (λ a. slice_set ss i (record a { value = v })) (sym is)

pub no_static : (ss : List StaticValue) (x v : ℕ) → position (λ s. s.word == x) ss ≡ None → static_write ss x v ≡ ss
no_static ss x v e = none_found (λ s. s.word == x) (λ s. record s { value = v }) (λ ss. static_write ss x v) refl (λ a rest. refl) ss e
