-- The header of a new object is stored: it is among the objects then, as it was among the plain ones.
use Rattle.std.proofs.{Common.{◌≡◌, ◌≢◌, ◌⊎◌, inl, inr, ℕ, ◌-◌, List, ◌∷◌, length, Some, refl, sym, ap, subst, ◌∙◌, arith, Contains, slice_get, slice_index, slice_set}, lemmas.List.length-replicate}
use Rattle.lists.proofs.ListLaws.{same_some}
use Rattle.jvm_types.specs.declared.fixed_words.TheConstants.{NEXT_FREE_WORD, NEXT_TICKET_WORD, OBJECT_HEAD_WORDS}
use Rattle.machine_types.specs.{Agreement.IsPending, NewObjects.size_by, PlainMemory.{Object, new_object}, PlainState.value_at, Threads.Thread, Words.header_word}
use Rattle.machine_types.proofs.Lists.{first_or_more, got_other}
use Rattle.laws_states.{specs.Sites.NewHeaderOf, proofs.Lists.{contains_first, contains_more, same_or_not, set_here, set_there}}
use Rattle.laws_simulation.{specs.StandsBeside.{IsAmong, IsBeingMade, IsPlainNew}, proofs.{AssembledObjects.{MakesNone, made_by_others}, MemoryParts.{place_bits, place_counter}}}
use Rattle.laws_simulation.proofs.{PlainPlaces.value_of_header, Scene.{Scene, Memory}}
use Rattle.machine_types.specs.declared.phase.Phase.TheVariants as phases

made_as : (x y : Thread) (a b word other : ℕ) → x ≡ y → x.phase ≡ phases.Made a word → y.phase ≡ phases.Made b other → a ≡ b
made_as x y a b word other e h k =
    let same : phases.Made a word ≡ phases.Made b other → a ≡ b = λ e. cc in
    same (sym h ∙ (ap (λ (z : Thread). z.phase) e ∙ k))

module _ (scene : Scene) (a word : ℕ) (made : scene.x.phase ≡ phases.Made a word)
    (new : Thread) (none : MakesNone new.phase) where
  open scene use {turn, c, objects, s, t, x, q}

  abbrev later : List Object
  later = new_object a word (size_by c.program word) ∷ objects

  own : IsPlainNew c.program q a word
  own = scene.beside.new_objects t x a word scene.here made

  stands : value_at q (header_word a) ≡ Some word
  stands = subst (λ (r : ℕ). value_at q (header_word r) ≡ Some word) own.reference (value_of_header c.program q scene.beside.apart own.object own.there ∙ ap Some own.header)

  here_or_other : (r : ℕ) → IsBeingMade s.threads r → IsAmong later r ⊎ IsBeingMade (slice_set s.threads t new) r
  here_or_other r k = elim (same_or_not k.0 t) [
    | inl same ↦
        let one : x ≡ k.1 = same_some (sym scene.here ∙ (ap (slice_get s.threads) (sym same) ∙ k.3)) in
        inl (new_object a word (size_by c.program word), contains_first (new_object a word (size_by c.program word)) objects, made_as x k.1 a r word k.2 one made k.4)
    | inr d ↦ inr (k.0, k.1, k.2, got_other s.threads t k.0 new d ∙ k.3, k.4)
  ]

  by_object : (e : Object) → IsAmong objects e.reference ⊎ IsBeingMade s.threads e.reference → IsAmong later e.reference ⊎ IsBeingMade (slice_set s.threads t new) e.reference
  by_object e (inl h) = inl ((h.0, contains_more (new_object a word (size_by c.program word)) objects h.0 h.1, h.2))
  by_object e (inr h) = here_or_other e.reference h

  -- a header that is pending still, but for this one
  pending : (n : ℕ) → n ≢ header_word a → IsPending s.threads n → IsPending (slice_set s.threads t new) n
  pending n d k = elim (same_or_not k.0 t) [
    | inl same ↦
        let one : x ≡ k.1 = same_some (sym scene.here ∙ (ap (slice_get s.threads) (sym same) ∙ k.4)) in
        absurd (d (k.6 ∙ ap header_word (sym (made_as x k.1 a k.2 word k.3 one made k.5))))
    | inr e ↦ (k.0, k.1, k.2, k.3, got_other s.threads t k.0 new e ∙ k.4, k.5, k.6)
  ]

  by_place : (n u : ℕ) → value_at q n ≡ Some u → (IsPending (slice_set s.threads t new) n → ⊥) → (n ≡ header_word a) ⊎ (n ≢ header_word a) → slice_index (slice_set s.words (header_word a) word) n ≡ u
  by_place n u e free (inl same) =
      ap (slice_index (slice_set s.words (header_word a) word)) same
      ∙ (set_here s.words (header_word a) word (scene.inside c objects s (NewHeaderOf a) scene.marked scene.facts.heap (t, x, word, scene.here, made))
      ∙ same_some (sym stands ∙ subst (λ (i : ℕ). value_at q i ≡ Some u) same e))
  by_place n u e free (inr d) = set_there s.words (header_word a) n word d ∙ scene.beside.agrees.places n u e (λ h. free (pending n d h))

  known_by : (o : Object) → (o ≡ new_object a word (size_by c.program word)) ⊎ Contains objects o → (e : Object) × Contains q.objects e × (e.reference ≡ o.reference) × (e.class ≡ o.class) × (length e.values ≡ length o.values)
  known_by o (inl same) = (
    own.object,
    own.there,
    own.reference ∙ sym (ap (λ (z : Object). z.reference) same),
    own.class ∙ sym (ap (λ (z : Object). z.class) same),
    own.values ∙ (sym (length-replicate {A = ℕ} (size_by c.program word - OBJECT_HEAD_WORDS) 0) ∙ sym (ap (λ (z : Object). length z.values) same)),
  )
  known_by o (inr k) = scene.beside.known o k

  pub stored : Memory turn (new_object a word (size_by c.program word) ∷ objects) (slice_set s.words (header_word a) word) q new
  stored = record {
    base_is = refl;
    bits = place_bits scene (header_word a) word word stands;
    places = λ n u e free. by_place n u e free (same_or_not n (header_word a));
    next = place_counter scene (header_word a) word word stands NEXT_FREE_WORD (omega arith) ∙ scene.beside.agrees.next;
    printed = place_counter scene (header_word a) word word stands NEXT_TICKET_WORD (omega arith) ∙ scene.beside.agrees.prints;
    known = λ o k. known_by o (first_or_more (new_object a word (size_by c.program word)) objects o k);
    others = λ e k. by_object e (scene.beside.others e k);
    new_objects = λ u z b other e m. scene.beside.new_objects u z b other (made_by_others s.threads t x new scene.here none u z b other e m) m;
    apart = scene.beside.apart;
  }
