-- Tables of members, as they grow.
use Rattle.std.proofs.Common.{◌≡◌, ℕ, Bool, true, false, cond, List, [], ◌∷◌, ◌++◌, Option, Some, None, is_some, refl, sym, ap, ◌∙◌, subst, append_assoc, append-nil, ◌+◌, ◌-◌, ◌≤◌, map, arith, bytes_eq, ◌==◌, ◌&&◌}
use Rattle.std.{specs.{List.range_with_len, Option.option_or}, proofs.lemmas.{Bool.{and_parts, eqb-true, eq-eqb, false_from_ne_true}, List.{Folds.find-append, FromFn.map-range_with_len_more}}}
use Rattle.std.proofs.lemmas.Slice.Eq.{bytes_eq-Decides}
use Rattle.jvm_types.specs.Members.{Entry, member_in, init_of, is_init_name, look_up}
use Rattle.link_scope.specs.{BuiltIn.first_methods, Keys.{is_key, found_at}, MemberTables.{HasEntries, Adds, found_in}, Scoping.IsFound, TextNumbers.{number_of, IsNumbered, AreApart}}
use Rattle.link_scope.{specs.declared.{scope.Found.Found, table.Key.Key}, proofs.{KeyLaws.or_none, ListLaws.some_same}}

-- ---- equal numbers are equal texts

same_test : (b c : Bool) → (b ≡ true → c ≡ true) → (c ≡ true → b ≡ true) → b ≡ c
same_test true c f g = sym (f refl)
same_test false true f g = g refl
same_test false false f g = refl

pub same_number : (numbers : List (List ℕ × ℕ)) → AreApart numbers → (text other : List ℕ) (n m : ℕ) → IsNumbered numbers text n → IsNumbered numbers other m → (n == m) ≡ bytes_eq text other
same_number numbers apart text other n m is has = same_test (n == m) (bytes_eq text other)
    (λ e. (bytes_eq-Decides text other).1 (apart text other m (is ∙ ap (λ (k : ℕ). Some k) (eqb-true n m e)) has))
    (λ e. eq-eqb n m (some_same (sym is ∙ ap (number_of numbers) ((bytes_eq-Decides text other).0 e) ∙ has)))

-- ---- what was found, and what is found behind it

-- a member and what is known of it
pub record IsMember (f : Found) (e : Entry) : Type 0 where
  pub class : f.class ≡ e.class
  pub flags : f.flags ≡ e.flags
  pub target : f.target ≡ e.target

found_or : (name : List ℕ) (a b : Option Found) (x y : Option Entry) → IsFound name a x → IsFound name b y → IsFound name (option_or a b) (option_or x y)
found_or name None b None y h k = k
found_or name None b (Some e) y h k = absurd h
found_or name (Some f) b None y h k = absurd h
found_or name (Some f) b (Some e) y h k = h

found_if : (name : List ℕ) (f : Found) (e : Entry) (b : Bool) → IsMember f e → (b ≡ true → e.name ≡ name) → IsFound name (cond b (Some f) None) (cond b (Some e) None)
found_if name f e true is named = (is.class, is.flags, is.target, named refl)
found_if name f e false is named = tt

pub found_is_some : (name : List ℕ) (a : Option Found) (x : Option Entry) → IsFound name a x → is_some a ≡ is_some x
found_is_some name None None h = refl
found_is_some name None (Some e) h = absurd h
found_is_some name (Some f) None h = absurd h
found_is_some name (Some f) (Some e) h = refl

-- ---- one more entry

-- whether an entry is the member that a class, a name and a descriptor name
abbrev is_named : ℕ → List ℕ → List ℕ → Entry → Bool
is_named class name descriptor e = (e.class == class) && bytes_eq e.name name && bytes_eq e.descriptor descriptor

named_so : (class : ℕ) (name descriptor : List ℕ) (e : Entry) → is_named class name descriptor e ≡ true → (e.name ≡ name) × (e.descriptor ≡ descriptor)
named_so class name descriptor e h =
    let all : (((e.class == class) && bytes_eq e.name name) ≡ true) × (bytes_eq e.descriptor descriptor ≡ true) = and_parts _ _ h in
    let two : ((e.class == class) ≡ true) × (bytes_eq e.name name ≡ true) = and_parts _ _ all.0 in
    ((bytes_eq-Decides e.name name).0 two.1, (bytes_eq-Decides e.descriptor descriptor).0 all.1)

module _ (numbers : List (List ℕ × ℕ)) where
  pub adds_one : AreApart numbers → (e : Entry) (f : Found) (n d : ℕ) → IsNumbered numbers e.name n → IsNumbered numbers e.descriptor d → IsMember f e → (old new : List (Key × Found))
      → ((q : Key) → found_at new q ≡ option_or (found_at old q) (cond (is_key (record { class = e.class; name = n; descriptor = d }) q) (Some f) None)) → Adds numbers old new (e ∷ [])
  adds_one apart e f n d is_n is_d is old new added entries shows class name descriptor m k is_m is_k =
      let q : Key = record { class = class; name = m; descriptor = k } in
      let test : is_key (record { class = e.class; name = n; descriptor = d }) q ≡ is_named class name descriptor e
      = λ i. ((e.class == class) && same_number numbers apart e.name name n m is_n is_m i) && same_number numbers apart e.descriptor descriptor d k is_d is_k i in
      rw (added q, test, find-append (is_named class name descriptor) entries (e ∷ []))
      (found_or name (found_at old q) _ (member_in entries class name descriptor) _ (shows class name descriptor m k is_m is_k) (found_if name f e (is_named class name descriptor e) is (λ h. (named_so class name descriptor e h).0)))

  -- an entry whose name or descriptor no file has
  pub adds_unnamed : (e : Entry) (table : List (Key × Found)) → ((n d : ℕ) → IsNumbered numbers e.name n → IsNumbered numbers e.descriptor d → ⊥) → Adds numbers table table (e ∷ [])
  adds_unnamed e table not entries shows class name descriptor m k is_m is_k =
      let other : is_named class name descriptor e ≡ false = false_from_ne_true (is_named class name descriptor e) (λ h.
      let so : (e.name ≡ name) × (e.descriptor ≡ descriptor) = named_so class name descriptor e h in
      not m k (ap (number_of numbers) so.0 ∙ is_m) (ap (number_of numbers) so.1 ∙ is_k)) in
      rw (find-append (is_named class name descriptor) entries (e ∷ []), other) (subst (λ (o : Option Entry). IsFound name (found_at table (record { class = class; name = m; descriptor = k })) o) (or_none (member_in entries class name descriptor)) (shows class name descriptor m k is_m is_k))

  pub adds_none : (table : List (Key × Found)) → Adds numbers table table []
  adds_none table entries shows = subst (λ (es : List Entry). HasEntries numbers es table) (sym (append-nil entries)) shows

  pub adds_both : (one two three : List (Key × Found)) (xs ys : List Entry) → Adds numbers one two xs → Adds numbers two three ys → Adds numbers one three (xs ++ ys)
  adds_both one two three xs ys a b entries shows = subst (λ (es : List Entry). HasEntries numbers es three) (append_assoc entries xs ys) (b (entries ++ xs) (a entries shows))

  pub adds_next : (one two three : List (Key × Found)) (xs : List Entry) (e f : Entry) → Adds numbers one two xs → Adds numbers two three (e ∷ []) → e ≡ f → Adds numbers one three (xs ++ f ∷ [])
  adds_next one two three xs e f a b same = subst (λ (x : Entry). Adds numbers one three (xs ++ x ∷ [])) same (adds_both one two three xs (e ∷ []) a b)

-- ---- the throwables

pub inits_next : (class : ℕ) → 4 ≤ class → (first_methods ++ map init_of (range_with_len 4 (class - 4))) ++ init_of class ∷ [] ≡ first_methods ++ map init_of (range_with_len 4 (class + 1 - 4))
inits_next class l =
    let n : class + 1 - 4 ≡ (class - 4) + 1 = omega arith in
    append_assoc first_methods (map init_of (range_with_len 4 (class - 4))) (init_of class ∷ [])
    ∙ ap (λ (xs : List Entry). first_methods ++ xs) (sym (map-range_with_len_more init_of 4 (class - 4) class (omega arith)) ∙ ap (λ (k : ℕ). map init_of (range_with_len 4 k)) (sym n))

-- ---- look-up

unless : (name : List ℕ) (b : Bool) (a : Option Found) (x : Option Entry) → IsFound name a x → IsFound name (cond b None a) (cond b None x)
unless name true a x h = tt
unless name false a x h = h

-- what a table answers for a key is what look-up finds
pub looked_up : (numbers : List (List ℕ × ℕ)) (entries : List Entry) (table : List (Key × Found)) (class : ℕ) (name descriptor : List ℕ) (n d : ℕ) (b : Bool) → HasEntries numbers entries table → IsNumbered numbers name n → IsNumbered numbers descriptor d
    → b ≡ is_init_name name → IsFound name (found_in table (record { class = class; name = n; descriptor = d }) b) (look_up entries class name descriptor)
looked_up numbers entries table class name descriptor n d b shows is_n is_d is =
    rw is (found_or name _ _ _ _ (shows class name descriptor n d is_n is_d) (unless name (is_init_name name) _ _ (shows 1 name descriptor n d is_n is_d)))
