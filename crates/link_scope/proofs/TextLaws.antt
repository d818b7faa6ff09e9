-- Numbers of texts behind references, as they are looked up and given.
use Rattle.std.proofs.Common.{◌≡◌, ℕ, ◌<◌, ◌⊎◌, Bool, true, false, cond, List, [], ◌∷◌, ◌++◌, length, Option, Some, None, refl, ap, ◌∙◌, sym, subst, inl, inr, arith, ⊎_elim, bytes_eq, slice_get}
use Rattle.std.{specs.{BTreeMap.BTreeMap, Cmp.Lexicographic.slice_cmp, Map.lookup, Ordering.{is_eq, nat_cmp}}, proofs.lemmas.Map.Text.{is_eq-slice_cmp, btree_map_updates_str}}
use Rattle.std.proofs.lemmas.{Option.slice_get_within, Slice.Eq.bytes_eq-Decides}
use Rattle.link_scope.specs.{TextNumbers.{number_of, IsNumbered, Keeps, IsMeaning, AreTexts, by_bytes}, declared.texts.Meaning.Meaning}
use Rattle.link_scope.proofs.ListLaws.{some_same, got_last, some_and, and_some, some_and_before}
use denote.Ref.{Bor}
use Rattle.std.specs.BTreeMap as tree

-- a text is looked up by its bytes
pub looked_up : (text : List ℕ) (entries : List (Bor (List ℕ) × ℕ)) → lookup (λ (k : Bor (List ℕ)). is_eq (slice_cmp nat_cmp text k.now)) entries ≡ number_of (by_bytes entries) text
looked_up text [] = refl
looked_up text (e ∷ es) = rw (is_eq-slice_cmp text e.0.now, looked_up text es) refl

-- ---- a text is given a number

-- the numbers after a text was given one that it had not
abbrev pub Gives : List (List ℕ × ℕ) → List (List ℕ × ℕ) → List ℕ → ℕ → Type 0
Gives old new text n = (other : List ℕ) → number_of new other ≡ cond (bytes_eq text other) (Some n) (number_of old other)

pub inserted : (text : List ℕ) (n : ℕ) (old new : BTreeMap (Bor (List ℕ)) ℕ) → tree.UpdatesBy (λ x y. slice_cmp nat_cmp x.now y.now) (λ k. slice_cmp nat_cmp text k.now) old new (Some n) → Gives (by_bytes old.entries) (by_bytes new.entries) text n
inserted text n old new u other = sym (looked_up other new.entries) ∙ btree_map_updates_str text old new (Some n) u other ∙ ap (λ (o : Option ℕ). cond (bytes_eq text other) (Some n) o) (looked_up other old.entries)

told : (b : Bool) (o : Option ℕ) (n k : ℕ) → cond b (Some n) o ≡ Some k → ((b ≡ true) × (n ≡ k)) ⊎ (o ≡ Some k)
told true o n k e = inl (refl, some_same e)
told false o n k e = inr e

module _ (old new : List (List ℕ × ℕ)) (text : List ℕ) (n : ℕ) (gives : Gives old new text n) where
  -- a text that has a number then is the new one, or had that number before
  was : (other : List ℕ) (k : ℕ) → IsNumbered new other k → ((text ≡ other) × (n ≡ k)) ⊎ IsNumbered old other k
  was other k e = ⊎_elim (λ a. inl ((bytes_eq-Decides text other).0 a.0, a.1)) inr (told (bytes_eq text other) (number_of old other) n k (sym (gives other) ∙ e))

  pub is_given : IsNumbered new text n
  is_given = gives text ∙ ap (λ (b : Bool). cond b (Some n) (number_of old text)) ((bytes_eq-Decides text text).1 refl)

  module _ (absent : number_of old text ≡ None) where
    kept_by : (b : Bool) (other : List ℕ) (k : ℕ) → (b ≡ true → text ≡ other) → IsNumbered old other k → cond b (Some n) (number_of old other) ≡ Some k
    kept_by true other k same e = absurd (let f : number_of old text ≡ Some k = ap (number_of old) (same refl) ∙ e in let g : None ≡ Some k = sym absent ∙ f in cc)
    kept_by false other k same e = e

    pub keeps : Keeps old new
    keeps other k e = gives other ∙ kept_by (bytes_eq text other) other k (bytes_eq-Decides text other).0 e

    module _ (names : List (List ℕ)) (meanings : List Meaning) (m : Meaning) (count : n ≡ length meanings) (texts : AreTexts names old meanings) where
      unused : (other : List ℕ) → IsNumbered old other n → ⊥
      unused other e =
          let a : (x : Meaning) × (slice_get meanings n ≡ Some x) × IsMeaning names other x = and_some (slice_get meanings n) (IsMeaning names other) (texts.meant other n e) in
          let l : n < length meanings = slice_get_within meanings n a.0 a.1 in
          absurd (omega arith)

      apart_by : (one other : List ℕ) (k : ℕ) → ((text ≡ one) × (n ≡ k)) ⊎ IsNumbered old one k → ((text ≡ other) × (n ≡ k)) ⊎ IsNumbered old other k → one ≡ other
      apart_by one other k (inl a) (inl b) = sym a.0 ∙ b.0
      apart_by one other k (inl a) (inr b) = absurd (unused other (b ∙ ap (λ (x : ℕ). Some x) (sym a.1)))
      apart_by one other k (inr a) (inl b) = absurd (unused one (a ∙ ap (λ (x : ℕ). Some x) (sym b.1)))
      apart_by one other k (inr a) (inr b) = texts.apart one other k a b

      pub are_texts : IsMeaning names text m → AreTexts names new (meanings ++ m ∷ [])
      are_texts means = record {
        empty = keeps [] 0 texts.empty;
        apart = λ one other k e f. apart_by one other k (was one k e) (was other k f);
        meant = λ other k e. ⊎_elim
            (λ a. some_and (slice_get (meanings ++ m ∷ []) k) (IsMeaning names other) m (ap (slice_get (meanings ++ m ∷ [])) (sym a.1 ∙ count) ∙ got_last meanings m) (subst (λ (t : List ℕ). IsMeaning names t m) a.0 means))
            (λ b. some_and_before meanings (m ∷ []) k (IsMeaning names other) (texts.meant other k b))
            (was other k e);
      }

-- where the number was not given after all
pub unchanged : (names : List (List ℕ)) (numbers : List (List ℕ × ℕ)) (meanings : List Meaning) (m : Meaning) → AreTexts names numbers meanings → AreTexts names numbers (meanings ++ m ∷ [])
unchanged names numbers meanings m texts = record { empty = texts.empty; apart = texts.apart; meant = λ other k e. some_and_before meanings (m ∷ []) k (IsMeaning names other) (texts.meant other k e) }
