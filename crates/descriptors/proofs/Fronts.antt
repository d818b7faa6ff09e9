-- What a text begins with, and what it says: a type, the name of a class, the types of arguments.
use Rattle.std.proofs.Common.{◌≡◌, ℕ, suc, ◌<◌, true, false, cond, List, [], ◌∷◌, ◌++◌, length, Option, Some, None, refl, sym, ap, subst, ◌∙◌, arith, length-append, append_assoc, append-nil, ◌==◌}
use Rattle.std.{specs.{List.list_any, Option.{option_and_then, option_map}}, proofs.lemmas.Bool.{cond_both, eqb-true, or_parts}}
use Rattle.jvm_types.specs.Descriptors.{Types, Reading, followed, array_of, class_kind, types_from, read_from, only_kind, field_kind, Signature, result_kind, signature_returned}
use Rattle.jvm_types.specs.declared.program.Kind.{Kind}
use Rattle.descriptors.specs.{Signatures.{IsCut, IsFront, IsArgs, ends_args}, declared.reading.{Cut.Cut, Front.Front}}
use Rattle.jvm_types.specs.declared.program.Kind.TheVariants as kinds

module _ (names : List (List ℕ)) where
  -- ---- the name of a class

  abbrev types_at : List ℕ → Option Types
  types_at text = (read_from names text).types

  name_read : (name rest : List ℕ) → list_any (λ b. b == 59) name ≡ false → ((read_from names (name ++ 59 ∷ rest)).name ≡ name) × ((read_from names (name ++ 59 ∷ rest)).behind ≡ types_at rest)
  name_read [] rest p = (refl, refl)
  name_read (byte ∷ name) rest p =
      let parts = or_parts (byte == 59) (list_any (λ b. b == 59) name) p in
      let more = name_read name rest parts.1 in (
        ap (λ b. cond b [] (byte ∷ (read_from names (name ++ 59 ∷ rest)).name)) parts.0 ∙ ap (λ x. byte ∷ x) more.0,
        ap (λ b. cond b (types_at (name ++ 59 ∷ rest)) (read_from names (name ++ 59 ∷ rest)).behind) parts.0 ∙ more.1,
      )

  endless : (text : List ℕ) → list_any (λ b. b == 59) text ≡ false → (read_from names text).behind ≡ None
  endless [] p = refl
  endless (byte ∷ text) p =
      let parts = or_parts (byte == 59) (list_any (λ b. b == 59) text) p in
      ap (λ b. cond b (types_at text) (read_from names text).behind) parts.0 ∙ endless text parts.1

  cut_shorter : (text name rest : List ℕ) → text ≡ name ++ 59 ∷ rest → length rest < suc (length text)
  cut_shorter text name rest e = omega (arith, ap length e, length-append name (59 ∷ rest))

  -- `L`, a name, `;`
  class_there : (text name rest : List ℕ) → text ≡ name ++ 59 ∷ rest → list_any (λ b. b == 59) name ≡ false → types_at (76 ∷ text) ≡ followed (class_kind names name) (types_at rest)
  class_there text name rest e p =
      let parts = name_read name rest p in
      ap (λ t. types_at (76 ∷ t)) e
      ∙ ap (λ n. followed (class_kind names n) (read_from names (name ++ 59 ∷ rest)).behind) parts.0
      ∙ ap (λ o. followed (class_kind names name) o) parts.1

  pub class_front : (text : List ℕ) (c : Cut) (kind : Kind) → IsCut text (Some c) → class_kind names c.name.now ≡ Some kind → IsFront names (76 ∷ text) (Some (record { kind = kind; rest = c.rest }))
  class_front text c kind h k = (
    class_there text c.name.now c.rest.now h.0 h.1 ∙ ap (λ o. followed o (types_at c.rest.now)) k,
    cut_shorter text c.name.now c.rest.now h.0,
  )

  unknown : (o : Option Kind) (after : Option Types) → o ≡ None → followed o after ≡ None
  unknown o after e = ap (λ k. followed k after) e

  unended : (o : Option Kind) (after : Option Types) → after ≡ None → followed o after ≡ None
  unended None after e = refl
  unended (Some kind) after e = ap (followed (Some kind)) e

  none_first : (o : Option Types) → o ≡ None → (t : Types) → o ≡ Some t → t.kinds ≡ []
  none_first o e t f = absurd cc

  pub unknown_front : (text : List ℕ) (c : Cut) → IsCut text (Some c) → class_kind names c.name.now ≡ None → IsFront names (76 ∷ text) None
  unknown_front text c h k = none_first (types_at (76 ∷ text)) (class_there text c.name.now c.rest.now h.0 h.1 ∙ unknown (class_kind names c.name.now) (types_at c.rest.now) k)

  pub unended_front : (text : List ℕ) → IsCut text None → IsFront names (76 ∷ text) None
  unended_front text h = none_first (types_at (76 ∷ text)) (unended (class_kind names (read_from names text).name) (read_from names text).behind (endless text h))

  -- ---- where no type stands

  abbrev Stays : List ℕ → Option Types → Type 0
  Stays text o = (t : Types) → o ≡ Some t → t.kinds ≡ [] → t.rest ≡ text

  some_same : {X : Type 0} {x y : X} → Some x ≡ Some y → x ≡ y
  some_same e = cc

  followed_stays : (text : List ℕ) (kind : Option Kind) (after : Option Types) → Stays text (followed kind after)
  followed_stays text None after t e n = absurd cc
  followed_stays text (Some kind) None t e n = absurd cc
  followed_stays text (Some kind) (Some after) t e n =
      let wrong : kind ∷ after.kinds ≡ [] = ap (λ (u : Types). u.kinds) (some_same e) ∙ n in absurd cc

  array_stays : (text : List ℕ) (ks : List Kind) (rest : List ℕ) → Stays text (array_of ks rest)
  array_stays text (kinds.Int ∷ ks) rest t e n =
      let wrong : kinds.Ref 2 ∷ ks ≡ [] = ap (λ (u : Types). u.kinds) (some_same e) ∙ n in absurd cc
  array_stays text ks rest t e n = absurd cc

  arrays_stay : (text : List ℕ) (o : Option Types) → Stays text (option_and_then (λ t. array_of t.kinds t.rest) o)
  arrays_stay text None t e n = absurd cc
  arrays_stay text (Some u) t e n = array_stays text u.kinds u.rest t e n

  none_stays : (text : List ℕ) → Stays text (Some (record { kinds = []; rest = text }))
  none_stays text t e n = sym (ap (λ (u : Types). u.rest) (some_same e))

  byte_stays : (byte : ℕ) (bytes : List ℕ) (after : Reading) → Stays (byte ∷ bytes) (types_from names byte bytes after)
  byte_stays byte bytes after =
      let text : List ℕ = byte ∷ bytes in
      cond_both (byte == 73) _ _ (Stays text) (λ e. followed_stays text (Some kinds.Int) after.types)
      (λ e. cond_both (byte == 90) _ _ (Stays text) (λ e. followed_stays text (Some kinds.Bool) after.types)
      (λ e. cond_both (byte == 91) _ _ (Stays text) (λ e. arrays_stay text after.types)
      (λ e. cond_both (byte == 76) _ _ (Stays text) (λ e. followed_stays text (class_kind names after.name) after.behind)
      (λ e. none_stays text))))

  stays : (text : List ℕ) → Stays text (types_at text)
  stays [] = none_stays []
  stays (byte ∷ bytes) = byte_stays byte bytes (read_from names bytes)

  -- ---- one type and nothing else

  abbrev only : Option Types → Option Kind
  only o = option_and_then (λ t. only_kind t.kinds t.rest) o

  none_only : (o : Option Types) → ((t : Types) → o ≡ Some t → t.kinds ≡ []) → only o ≡ None
  none_only None h = refl
  none_only (Some t) h = ap (λ ks. only_kind ks t.rest) (h t refl)

  pub no_kind : (text : List ℕ) → IsFront names text None → field_kind names text ≡ None
  no_kind text h = none_only (types_at text) h

  more_behind : (kind : Kind) (ks : List Kind) (rest text : List ℕ) → (text ≡ [] → ⊥) → (ks ≡ [] → rest ≡ text) → only_kind (kind ∷ ks) rest ≡ None
  more_behind kind [] [] text n h = absurd (n (sym (h refl)))
  more_behind kind [] (byte ∷ rest) text n h = refl
  more_behind kind (k ∷ ks) rest text n h = refl

  followed_only : (kind : Kind) (o : Option Types) (text : List ℕ) → (text ≡ [] → ⊥) → Stays text o → only (followed (Some kind) o) ≡ None
  followed_only kind None text n h = refl
  followed_only kind (Some t) text n h = more_behind kind t.kinds t.rest text n (h t refl)

  not_empty : (text : List ℕ) → (length text == 0) ≡ false → text ≡ [] → ⊥
  not_empty text n e = let wrong : true ≡ false = sym (ap (λ t. length t == 0) e) ∙ n in absurd cc

  pub more_than_kind : (text : List ℕ) (f : Front) → IsFront names text (Some f) → (length f.rest.now == 0) ≡ false → field_kind names text ≡ None
  more_than_kind text f h n = ap only h.0 ∙ followed_only f.kind (types_at f.rest.now) f.rest.now (not_empty f.rest.now n) (stays f.rest.now)

  -- ---- the types of arguments

  -- types in front of others
  abbrev pub joined : List Kind → Option Types → Option Types
  joined ks o = option_map (λ t. record { kinds = ks ++ t.kinds; rest = t.rest }) o

  none_joined : (o : Option Types) → joined [] o ≡ o
  none_joined None = refl
  none_joined (Some t) = refl

  joined_more : (ks : List Kind) (kind : Kind) (o : Option Types) → joined (ks ++ kind ∷ []) o ≡ joined ks (followed (Some kind) o)
  joined_more ks kind None = refl
  joined_more ks kind (Some t) = ap (λ js. Some (record { kinds = js; rest = t.rest })) (append_assoc ks (kind ∷ []) t.kinds)

  pub one_arg : (text rest : List ℕ) (ks : List Kind) (f : Front) → joined ks (types_at rest) ≡ types_at text → IsFront names rest (Some f) → joined (ks ++ f.kind ∷ []) (types_at f.rest.now) ≡ types_at text
  one_arg text rest ks f e h = joined_more ks f.kind (types_at f.rest.now) ∙ ap (joined ks) (sym h.0) ∙ e

  not_closed : (ks : List Kind) (rest : List ℕ) → ends_args rest ≡ false → signature_returned names ks rest ≡ None
  not_closed ks [] n = absurd cc
  not_closed ks (byte ∷ rest) n = ap (λ b. cond b (option_map (λ kind. record { args = ks; result = kind }) (result_kind names rest)) None) n

  abbrev behind_args : Option Types → Option Signature
  behind_args o = option_and_then (λ t. signature_returned names t.kinds t.rest) o

  stopped : (ks : List Kind) (o : Option Types) (rest : List ℕ) → ends_args rest ≡ false → ((t : Types) → o ≡ Some t → t.rest ≡ rest) → behind_args (joined ks o) ≡ None
  stopped ks None rest n h = refl
  stopped ks (Some t) rest n h = ap (signature_returned names (ks ++ t.kinds)) (h t refl) ∙ not_closed (ks ++ t.kinds) rest n

  pub no_arg : (text rest : List ℕ) (ks : List Kind) → joined ks (types_at rest) ≡ types_at text → IsFront names rest None → ends_args rest ≡ false → IsArgs names text None
  no_arg text rest ks e h n = ap behind_args (sym e) ∙ stopped ks (types_at rest) rest n (λ t f. stays rest t f (h t f))

  closed : (rest : List ℕ) → ends_args rest ≡ true → types_at rest ≡ Some (record { kinds = []; rest = rest })
  closed [] e = refl
  closed (byte ∷ rest) e = subst (λ b. types_at (b ∷ rest) ≡ Some (record { kinds = []; rest = b ∷ rest })) (sym (eqb-true byte 41 e)) refl

  pub all_args : (text rest : List ℕ) (ks : List Kind) → joined ks (types_at rest) ≡ types_at text → ends_args rest ≡ true → types_at text ≡ Some (record { kinds = ks; rest = rest })
  all_args text rest ks e n = sym e ∙ ap (joined ks) (closed rest n) ∙ ap (λ js. Some (record { kinds = js; rest = rest })) (append-nil ks)
