-- A descriptor has a meaning exactly where it is the text of that meaning.
use Rattle.std.proofs.Common.{◌≡◌, ℕ, Bool, true, false, cond, ◌||◌, List, [], ◌∷◌, ◌++◌, Option, Some, None, refl, sym, ap, ◌∙◌, subst, inl, inr, append_assoc, append-nil, ◌==◌, bytes_eq, codes}
use Rattle.std.{specs.{List.list_any, Option.{option_map, option_and_then}}, proofs.lemmas.{Bool.{cond_both, eqb-true, or_parts}, Slice.Eq.bytes_eq-Decides}}
use Rattle.lists.proofs.ListLaws.{same_some}
use Rattle.jvm_types.specs.{ClassNames.class_number, DescriptorLaws.{SpellsKind, SpellsKinds, SpellsResult, SpellsSignature, FieldsAreSpelled, MethodsAreSpelled}}
use Rattle.jvm_types.specs.Descriptors.{Types, Reading, followed, array_of, class_kind, types_from, read_from, only_kind, field_kind, Signature, result_kind, signature_returned, method_signature}
use Rattle.jvm_types.specs.declared.program.Kind.{Kind}
use Rattle.jvm_types.specs.declared.program.Kind.TheVariants as kinds

module _ (names : List (List ℕ)) where
  -- ---- what is read is spelled

  -- types that stand in front of the rest
  record Front (bytes : List ℕ) (t : Types) : Type 0 where
    front : List ℕ
    is : bytes ≡ front ++ t.rest
    spelled : SpellsKinds names t.kinds front

  -- the rest of a name, and types behind it
  record Behind (bytes name : List ℕ) (t : Types) : Type 0 where
    tail : List ℕ
    is : bytes ≡ name ++ 59 ∷ tail
    plain : list_any (λ b. b == 59) name ≡ false
    types : Front tail t

  abbrev Fronts : List ℕ → Option Types → Type 0
  Fronts bytes o = (t : Types) → o ≡ Some t → Front bytes t

  record Reads (bytes : List ℕ) (r : Reading) : Type 0 where
    types : Fronts bytes r.types
    behind : (t : Types) → r.behind ≡ Some t → Behind bytes r.name t

  front_of : (bytes : List ℕ) {t u : Types} → t ≡ u → Front bytes t → Front bytes u
  front_of bytes e h = subst (Front bytes) e h

  -- one type more
  one_more : (kind : Kind) (text bytes : List ℕ) (t : Types) → SpellsKind names kind text → Front bytes t → Front (text ++ bytes) (record { kinds = kind ∷ t.kinds; rest = t.rest })
  one_more kind text bytes t h f = record {
    front = text ++ f.front;
    is = ap (λ b. text ++ b) f.is ∙ sym (append_assoc text f.front t.rest);
    spelled = (text, f.front, refl, h, f.spelled);
  }

  followed_read : (kind : Kind) (text bytes : List ℕ) (o : Option Types) → SpellsKind names kind text → Fronts bytes o → Fronts (text ++ bytes) (followed (Some kind) o)
  followed_read kind text bytes None h f t e = absurd cc
  followed_read kind text bytes (Some u) h f t e = front_of (text ++ bytes) (same_some e) (one_more kind text bytes u h (f u refl))

  array_read : (bytes : List ℕ) (ks : List Kind) (rest : List ℕ) → Front bytes (record { kinds = ks; rest = rest }) → Fronts (91 ∷ bytes) (array_of ks rest)
  array_read bytes (kinds.Int ∷ ks) rest f t e = front_of (91 ∷ bytes) (same_some e) (record {
    front = 91 ∷ f.front;
    is = ap (λ b. 91 ∷ b) f.is;
    spelled = (codes "[I", f.spelled.1, ap (λ b. 91 ∷ b) (f.spelled.2 ∙ ap (λ b. b ++ f.spelled.1) f.spelled.3), inl (refl, refl), f.spelled.4);
  })
  array_read bytes ks rest f t e = absurd cc

  arrays_read : (bytes : List ℕ) (o : Option Types) → Fronts bytes o → Fronts (91 ∷ bytes) (option_and_then (λ t. array_of t.kinds t.rest) o)
  arrays_read bytes None f t e = absurd cc
  arrays_read bytes (Some u) f t e = array_read bytes u.kinds u.rest (f u refl) t e

  -- a class, behind its `L`
  class_read : (bytes name : List ℕ) (o : Option Kind) (behind : Option Types) → class_kind names name ≡ o → ((t : Types) → behind ≡ Some t → Behind bytes name t) → Fronts (76 ∷ bytes) (followed o behind)
  class_read bytes name None behind k h t e = absurd cc
  class_read bytes name (Some kind) None k h t e = absurd cc
  class_read bytes name (Some kind) (Some u) k h t e =
      let b : Behind bytes name u = h u refl in
      let whole : 76 ∷ bytes ≡ (76 ∷ (name ++ 59 ∷ [])) ++ b.tail = ap (λ x. 76 ∷ x) (b.is ∙ sym (append_assoc name (59 ∷ []) b.tail)) in
      front_of (76 ∷ bytes) (same_some e) (subst (λ x. Front x (record { kinds = kind ∷ u.kinds; rest = u.rest })) (sym whole)
      (one_more kind (76 ∷ (name ++ 59 ∷ [])) b.tail u (class_spelled kind (class_kind_is (class_number names name) (bytes_eq name (codes "[I")) kind k) k b.plain) b.types))
    where
      class_kind_is : (n : Option ℕ) (b : Bool) (kind : Kind) → cond b None (option_map kinds.Ref n) ≡ Some kind → (class : ℕ) × (kind ≡ kinds.Ref class)
      class_kind_is n true kind e = absurd cc
      class_kind_is None false kind e = absurd cc
      class_kind_is (Some class) false kind e = (class, sym (same_some e))

      class_spelled : (kind : Kind) → ((class : ℕ) × (kind ≡ kinds.Ref class)) → class_kind names name ≡ Some kind → list_any (λ b. b == 59) name ≡ false → SpellsKind names kind (76 ∷ (name ++ 59 ∷ []))
      class_spelled kind c k plain = subst (λ j. SpellsKind names j (76 ∷ (name ++ 59 ∷ []))) (sym c.1) (inr (record { name = name; is = refl; known = k ∙ ap (λ j. Some j) c.1; plain = plain }))

  none_read : (bytes : List ℕ) → Fronts bytes (Some (record { kinds = []; rest = bytes }))
  none_read bytes t e = front_of bytes (same_some e) (record { front = []; is = refl; spelled = refl })

  starts_with : (byte : ℕ) (bytes : List ℕ) (n : ℕ) (o : Option Types) → (byte == n) ≡ true → Fronts (n ∷ bytes) o → Fronts (byte ∷ bytes) o
  starts_with byte bytes n o e h = subst (λ b. Fronts (b ∷ bytes) o) (sym (eqb-true byte n e)) h

  types_read : (byte : ℕ) (bytes : List ℕ) (after : Reading) → Reads bytes after → Fronts (byte ∷ bytes) (types_from names byte bytes after)
  types_read byte bytes after h =
      cond_both (byte == 73) _ _ (Fronts (byte ∷ bytes)) (λ e. starts_with byte bytes 73 _ e (followed_read kinds.Int (73 ∷ []) bytes after.types refl h.types))
      (λ e. cond_both (byte == 90) _ _ (Fronts (byte ∷ bytes)) (λ e. starts_with byte bytes 90 _ e (followed_read kinds.Bool (90 ∷ []) bytes after.types refl h.types))
      (λ e. cond_both (byte == 91) _ _ (Fronts (byte ∷ bytes)) (λ e. starts_with byte bytes 91 _ e (arrays_read bytes after.types h.types))
      (λ e. cond_both (byte == 76) _ _ (Fronts (byte ∷ bytes)) (λ e. starts_with byte bytes 76 _ e (class_read bytes after.name (class_kind names after.name) after.behind refl h.behind))
      (λ e. none_read (byte ∷ bytes)))))

  behind_at : (byte : ℕ) (bytes : List ℕ) (after : Reading) → Reads bytes after → (b : Bool) → (byte == 59) ≡ b → (t : Types) → cond b after.types after.behind ≡ Some t → Behind (byte ∷ bytes) (cond b [] (byte ∷ after.name)) t
  behind_at byte bytes after h true b t e = record { tail = bytes; is = ap (λ n. n ∷ bytes) (eqb-true byte 59 b); plain = refl; types = h.types t e }
  behind_at byte bytes after h false b t e =
      let more : Behind bytes after.name t = h.behind t e in
      record { tail = more.tail; is = ap (λ x. byte ∷ x) more.is; plain = ap (λ x. x || list_any (λ b. b == 59) after.name) b ∙ more.plain; types = more.types }

  reads : (bytes : List ℕ) → Reads bytes (read_from names bytes)
  reads [] = record { types = none_read []; behind = λ t e. absurd cc }
  reads (byte ∷ bytes) = record {
    types = types_read byte bytes (read_from names bytes) (reads bytes);
    behind = behind_at byte bytes (read_from names bytes) (reads bytes) (byte == 59) refl;
  }

  -- ---- what is spelled is read

  -- a byte that begins no type stands in front, or nothing
  abbrev Stops : List ℕ → Type 0
  Stops rest = (read_from names rest).types ≡ Some (record { kinds = []; rest = rest })

  name_read : (name tail : List ℕ) → list_any (λ b. b == 59) name ≡ false → ((read_from names (name ++ 59 ∷ tail)).name ≡ name) × ((read_from names (name ++ 59 ∷ tail)).behind ≡ (read_from names tail).types)
  name_read [] tail p = (refl, refl)
  name_read (byte ∷ name) tail p =
      let parts = or_parts (byte == 59) (list_any (λ b. b == 59) name) p in
      let more = name_read name tail parts.1 in (
        ap (λ b. cond b [] (byte ∷ (read_from names (name ++ 59 ∷ tail)).name)) parts.0 ∙ ap (λ x. byte ∷ x) more.0,
        ap (λ b. cond b (read_from names (name ++ 59 ∷ tail)).types (read_from names (name ++ 59 ∷ tail)).behind) parts.0 ∙ more.1,
      )

  after_kind : (kind : Kind) (text tail : List ℕ) (ks : List Kind) (rest : List ℕ) → SpellsKind names kind text → (read_from names tail).types ≡ Some (record { kinds = ks; rest = rest })
      → (read_from names (text ++ tail)).types ≡ Some (record { kinds = kind ∷ ks; rest = rest })
  after_kind kinds.Int text tail ks rest h e = ap (λ t. (read_from names (t ++ tail)).types) h ∙ ap (followed (Some kinds.Int)) e
  after_kind kinds.Bool text tail ks rest h e = ap (λ t. (read_from names (t ++ tail)).types) h ∙ ap (followed (Some kinds.Bool)) e
  after_kind (kinds.Ref class) text tail ks rest (inl h) e =
      ap (λ t. (read_from names (t ++ tail)).types) h.1 ∙ ap (λ o. option_and_then (λ t. array_of t.kinds t.rest) (followed (Some kinds.Int) o)) e ∙ ap (λ c. Some (record { kinds = kinds.Ref c ∷ ks; rest = rest })) (sym h.0)
  after_kind (kinds.Ref class) text tail ks rest (inr h) e =
      let parts = name_read h.name tail h.plain in
      ap (λ t. (read_from names (t ++ tail)).types) h.is
      ∙ ap (λ x. (read_from names (76 ∷ x)).types) (append_assoc h.name (59 ∷ []) tail)
      ∙ ap (λ n. followed (class_kind names n) (read_from names (h.name ++ 59 ∷ tail)).behind) parts.0
      ∙ ap (λ k. followed k (read_from names (h.name ++ 59 ∷ tail)).behind) h.known
      ∙ ap (followed (Some (kinds.Ref class))) (parts.1 ∙ e)

  after_kinds : (ks : List Kind) (text rest : List ℕ) → SpellsKinds names ks text → Stops rest → (read_from names (text ++ rest)).types ≡ Some (record { kinds = ks; rest = rest })
  after_kinds [] text rest h s = ap (λ t. (read_from names (t ++ rest)).types) h ∙ s
  after_kinds (kind ∷ ks) text rest (front, more, e, h, hs) s =
      ap (λ t. (read_from names (t ++ rest)).types) e ∙ ap (λ t. (read_from names t).types) (append_assoc front more rest)
      ∙ after_kind kind front (more ++ rest) ks rest h (after_kinds ks more rest hs s)

  -- ---- fields

  only_read : (text : List ℕ) (ks : List Kind) (rest : List ℕ) (kind : Kind) → only_kind ks rest ≡ Some kind → Front text (record { kinds = ks; rest = rest }) → SpellsKind names kind text
  only_read text [] rest kind e f = absurd cc
  only_read text (k ∷ []) [] kind e f =
      let whole : text ≡ f.spelled.0 = f.is ∙ append-nil f.front ∙ f.spelled.2 ∙ ap (λ b. f.spelled.0 ++ b) f.spelled.4 ∙ append-nil f.spelled.0 in
      subst (λ j. SpellsKind names j text) (same_some e) (subst (SpellsKind names k) (sym whole) f.spelled.3)
  only_read text (k ∷ []) (byte ∷ rest) kind e f = absurd cc
  only_read text (k ∷ j ∷ ks) rest kind e f = absurd cc

  field_read : (text : List ℕ) (o : Option Types) (kind : Kind) → Fronts text o → option_and_then (λ t. only_kind t.kinds t.rest) o ≡ Some kind → SpellsKind names kind text
  field_read text None kind f e = absurd cc
  field_read text (Some t) kind f e = only_read text t.kinds t.rest kind e (f t refl)

  field_there : (text : List ℕ) (kind : Kind) → SpellsKind names kind text → field_kind names text ≡ Some kind
  field_there text kind h =
      ap (λ o. option_and_then (λ t. only_kind t.kinds t.rest) o)
      (sym (ap (λ t. (read_from names t).types) (append-nil text)) ∙ after_kinds (kind ∷ []) text [] (text, [], sym (append-nil text), h, refl) refl)

  -- ---- methods

  result_at : (text : List ℕ) (b : Bool) → bytes_eq text (codes "V") ≡ b → (r : Option Kind) → cond b (Some None) (option_map (λ k. Some k) (field_kind names text)) ≡ Some r → SpellsResult names r text
  result_at text true v r e = subst (λ j. SpellsResult names j text) (same_some e) ((bytes_eq-Decides text (codes "V")).0 v)
  result_at text false v r e = mapped (field_kind names text) refl e
    where
      mapped : (o : Option Kind) → field_kind names text ≡ o → option_map (λ k. Some k) o ≡ Some r → SpellsResult names r text
      mapped None f e = absurd cc
      mapped (Some k) f e = subst (λ j. SpellsResult names j text) (same_some e) (field_read text (read_from names text).types k (reads text).types f)

  result_there : (text : List ℕ) (r : Option Kind) → SpellsResult names r text → result_kind names text ≡ Some r
  result_there text None h = ap (result_kind names) h
  result_there text (Some kind) h = at (bytes_eq text (codes "V")) refl
    where
      not_void : text ≡ codes "V" → ⊥
      not_void e = let wrong : None ≡ Some kind = sym (ap (field_kind names) e) ∙ field_there text kind h in absurd cc

      at : (b : Bool) → bytes_eq text (codes "V") ≡ b → cond b (Some None) (option_map (λ k. Some k) (field_kind names text)) ≡ Some (Some kind)
      at true v = absurd (not_void ((bytes_eq-Decides text (codes "V")).0 v))
      at false v = ap (option_map (λ k. Some k)) (field_there text kind h)

  returned_at : (bytes : List ℕ) (ks : List Kind) (rest : List ℕ) (s : Signature) → Front bytes (record { kinds = ks; rest = rest }) → signature_returned names ks rest ≡ Some s → SpellsSignature names s (40 ∷ bytes)
  returned_at bytes ks [] s f e = absurd cc
  returned_at bytes ks (byte ∷ rest) s f e = at (byte == 41) refl e
    where
      made : (b : (byte == 41) ≡ true) (o : Option (Option Kind)) → result_kind names rest ≡ o → option_map (λ kind. record { args = ks; result = kind }) o ≡ Some s → SpellsSignature names s (40 ∷ bytes)
      made b None r e = absurd cc
      made b (Some kind) r e = subst (λ (t : Signature). SpellsSignature names t (40 ∷ bytes)) (same_some e) (record {
        args = f.front;
        result = rest;
        is = ap (λ x. 40 ∷ x) (f.is ∙ ap (λ n. f.front ++ n ∷ rest) (eqb-true byte 41 b));
        spelled_args = f.spelled;
        spelled_result = result_at rest (bytes_eq rest (codes "V")) refl kind r;
      })

      at : (b : Bool) → (byte == 41) ≡ b → cond b (option_map (λ kind. record { args = ks; result = kind }) (result_kind names rest)) None ≡ Some s → SpellsSignature names s (40 ∷ bytes)
      at true b e = made b (result_kind names rest) refl e
      at false b e = absurd cc

  behind_args : (bytes : List ℕ) (o : Option Types) (s : Signature) → Fronts bytes o → option_and_then (λ t. signature_returned names t.kinds t.rest) o ≡ Some s → SpellsSignature names s (40 ∷ bytes)
  behind_args bytes None s f e = absurd cc
  behind_args bytes (Some t) s f e = returned_at bytes t.kinds t.rest s (f t refl) e

  method_at : (byte : ℕ) (bytes : List ℕ) (s : Signature) (b : Bool) → (byte == 40) ≡ b → cond b (option_and_then (λ t. signature_returned names t.kinds t.rest) (read_from names bytes).types) None ≡ Some s → SpellsSignature names s (byte ∷ bytes)
  method_at byte bytes s true b e = subst (λ n. SpellsSignature names s (n ∷ bytes)) (sym (eqb-true byte 40 b)) (behind_args bytes (read_from names bytes).types s (reads bytes).types e)
  method_at byte bytes s false b e = absurd cc

  method_read : (text : List ℕ) (s : Signature) → method_signature names text ≡ Some s → SpellsSignature names s text
  method_read [] s e = absurd cc
  method_read (byte ∷ bytes) s e = method_at byte bytes s (byte == 40) refl e

  method_there : (text : List ℕ) (s : Signature) → SpellsSignature names s text → method_signature names text ≡ Some s
  method_there text s h =
      ap (method_signature names) h.is
      ∙ ap (λ o. option_and_then (λ t. signature_returned names t.kinds t.rest) o) (after_kinds s.args h.args (41 ∷ h.result) h.spelled_args refl)
      ∙ ap (λ r. option_map (λ kind. record { args = s.args; result = kind }) r) (result_there h.result s.result h.spelled_result)

-- ---- the laws

pub fields_spelled : FieldsAreSpelled
fields_spelled names text kind = (field_read names text (read_from names text).types kind (reads names text).types, field_there names text kind)

pub methods_spelled : MethodsAreSpelled
methods_spelled names text s = (method_read names text s, method_there names text s)
