-- What becomes of the memory: it stays, a place is written, the number for the next reference rises, an object is made, or the
-- header of a new object is stored.
use Rattle.std.proofs.Common.{◌≡◌, ◌≢◌, ◌⊎◌, inl, inr, ℕ, ◌+◌, ◌-◌, ◌<◌, ◌≤◌, Bool, true, false, cond, List, [], ◌∷◌, ◌++◌, length, Some, refl, sym, ap, subst, ◌∙◌, arith, Contains, length-append, slice_get, slice_index, slice_set, ◌==◌, if◌then◌else◌}
use Rattle.std.proofs.lemmas.{Bool.Decides.nat_tests, List.{length-replicate, Elements.{Contains-append_left, Contains-append_right}}}
use Rattle.jvm_types.specs.{Numbers.has_number, ProgramInvariant.{instances_among, words_of}, declared.class_numbers.TheConstants.INT_ARRAY_CLASS}
use Rattle.jvm_types.specs.declared.fixed_words.TheConstants.{NEXT_FREE_WORD, NEXT_TICKET_WORD, FIRST_READY_WORD, FIRST_RECORD_WORD, MONITOR_RECORDS, OBJECT_HEAD_WORDS}
use Rattle.machine_types.specs.{Agreement.{IsPending, has_wait_bit}, FoundWords.IsHeader, LockWords.lock_of, NewObjects.size_by, Owners.{lock_at, references_of}}
use Rattle.machine_types.specs.{PlainMemory.{Object, object_write, new_object, object_end, value_in}, PlainState.{Plain, Printed, value_at, written}, Threads.Thread}
use Rattle.machine_types.{specs.{Words.{header_class, header_length, header_word, bits_word, object_size, array_size}, declared.lock.LockWord.LockWord}, proofs.AttemptsPlain.size_two}
use Rattle.machine_types.proofs.Lists.{got_when_set}
use Rattle.laws_threads.proofs.MonitorMoves.{contains_got}
use Rattle.laws_states.{specs.Sites.{Site, Counter, HeaderOf, ValueOf, NewHeaderOf, StaticAt, site_word, IsThere}, proofs.{Headers.new_header, Lists.{contained_got, same_or_not, set_here, set_there}}}
use Rattle.laws_states.proofs.{WordSteps.apart_on, WordViews.{object_has, has_object}}
use Rattle.laws_simulation.{specs.StandsBeside.{IsAmong, IsBeingMade, IsPlainNew}, proofs.AssembledObjects.{MakesNone, new_again, pending_on, making_on, made_before, made_by_others}}
use Rattle.laws_simulation.proofs.{PlainObjects.{contained_last, added_place, new_value, new_end, apart_added}, PlainPlaces.{place_low, no_lock_place}}
use Rattle.laws_simulation.proofs.PlainWrites.{shape_reference, shape_class, shape_long, written_from, written_to, written_references, apart_written, other_place, here_place, NoHeader, known_written, header_shaped}
use Rattle.laws_simulation.proofs.{Scene.{Scene, Memory}, WaitBits.{bit_by, same_bit, same_lock}}
use Rattle.machine_types.specs.declared.lock.LockWord.TheVariants as locks
use Rattle.machine_types.specs.declared.phase.Phase.TheVariants as phases

-- a field or an element, or a static field
abbrev pub IsValueSite : Site → Type 0
IsValueSite (ValueOf reference index) = Unit {0}
IsValueSite (StaticAt word) = Unit {0}
IsValueSite site = ⊥

no_header_site : (site : Site) (reference : ℕ) → IsValueSite site → site ≡ HeaderOf reference → ⊥
no_header_site (ValueOf a i) reference k e = cc
no_header_site site reference k e = first_of (assumption, cc)

no_new_site : (site : Site) (reference : ℕ) → IsValueSite site → site ≡ NewHeaderOf reference → ⊥
no_new_site (ValueOf a i) reference k e = cc
no_new_site site reference k e = first_of (assumption, cc)

module _ (scene : Scene) where
  open scene use {turn, c, objects, s, t, x, q}

  -- ---- words that locks and waiting bits don't stand in

  -- a word n is set that is no lock word and no waiting bits
  calm_bits : (n v : ℕ) → ((o : Object) → Contains q.objects o → o.reference ≢ n) → ((r : ℕ) → r < MONITOR_RECORDS → bits_word r ≢ n)
      → (u m : ℕ) → has_wait_bit (references_of q.objects) (slice_set s.words n v) u m ≡ has_wait_bit (references_of q.objects) s.words u m
  calm_bits n v lock bits u m =
      same_bit (lock_at (references_of q.objects) s.words m) (lock_at (references_of q.objects) (slice_set s.words n v) m) s.words (slice_set s.words n v) u (by_test (has_number (references_of q.objects) m) refl)
      (λ r e. set_there s.words n (bits_word r) v (bits r ((scene.facts.owners.locks_are.below m r (sym (same_lock c.program objects s q scene.beside.known scene.beside.others scene.facts.heap.new_objects m) ∙ e)).1)))
    where
      by_test : (b : Bool) → has_number (references_of q.objects) m ≡ b → cond b (lock_of (slice_index (slice_set s.words n v) m)) (locks.Free 0) ≡ cond b (lock_of (slice_index s.words m)) (locks.Free 0)
      by_test true e = let k = has_object q.objects m e in ap lock_of (set_there s.words n m v (λ same. lock k.0 k.1 (k.2 ∙ same)))
      by_test false e = refl

  -- the lock words lie behind the records, and the records behind the counters
  reference_low : (o : Object) → Contains q.objects o → FIRST_READY_WORD ≤ o.reference
  reference_low o k = scene.beside.apart.begin k.0 o (contained_got q.objects o k)

  pub place_bits : (n w v : ℕ) → value_at q n ≡ Some w → (u m : ℕ) → has_wait_bit (references_of q.objects) (slice_set s.words n v) u m ≡ has_wait_bit (references_of q.objects) s.words u m
  place_bits n w v e = calm_bits n v
      (λ o k same. no_lock_place c.program q scene.beside.apart o w k (subst (λ (i : ℕ). value_at q i ≡ Some w) (sym same) e))
      (λ r low same. omega (arith, low, same, (place_low c.program q scene.beside.apart n w e).0))

  pub place_counter : (n w v : ℕ) → value_at q n ≡ Some w → (counter : ℕ) → counter < FIRST_READY_WORD → slice_index (slice_set s.words n v) counter ≡ slice_index s.words counter
  place_counter n w v e counter low = set_there s.words n counter v (λ same. omega (arith, low, same, (place_low c.program q scene.beside.apart n w e).0))

  -- ---- the memory stays

  still_among : (new : Thread) → MakesNone x.phase → (a : ℕ) → IsAmong objects a ⊎ IsBeingMade s.threads a → IsAmong objects a ⊎ IsBeingMade (slice_set s.threads t new) a
  still_among new old a (inl h) = inl h
  still_among new old a (inr h) = inr (making_on s.threads t x new scene.here old a h)

  pub stays : (words : List ℕ) (new : Thread) → words ≡ s.words → MakesNone x.phase → MakesNone new.phase → Memory turn objects words q new
  stays words new same old none = subst (λ (ws : List ℕ). Memory turn objects ws q new) (sym same) (record {
    base_is = refl;
    bits = λ u m. refl;
    places = λ n v e free. scene.beside.agrees.places n v e (λ h. free (pending_on s.threads t x new scene.here old n h));
    next = scene.beside.agrees.next;
    printed = scene.beside.agrees.prints;
    known = scene.beside.known;
    others = λ e k. still_among new old e.reference (scene.beside.others e k);
    new_objects = λ u z a word e m. scene.beside.new_objects u z a word (made_by_others s.threads t x new scene.here none u z a word e m) m;
    apart = scene.beside.apart;
  })

  -- ---- a place is written

  module _ (site : Site) (value : IsValueSite site) (there : IsThere c.program objects s site)
      (v w : ℕ) (stands : value_at q (site_word site) ≡ Some w) where
    no_header : NoHeader q.objects (site_word site)
    no_header i o g e = elim (scene.beside.others o (contains_got q.objects i o g)) [
      | inl h ↦ no_header_site site o.reference value (scene.differ c objects s site (HeaderOf o.reference) scene.marked scene.facts.heap there h e)
      | inr h ↦ no_new_site site o.reference value (scene.differ c objects s site (NewHeaderOf o.reference) scene.marked scene.facts.heap there h e)
    ]

    new_written : (a word : ℕ) → IsPlainNew c.program q a word → IsPlainNew c.program (written q (site_word site) v) a word
    new_written a word k =
        let e = written_to q.objects (site_word site) v k.there.0 k.object (contained_got q.objects k.object k.there) in
        record {
          object = e.0;
          there = contains_got (object_write q.objects (site_word site) v) k.there.0 e.0 e.1;
          reference = shape_reference k.object e.0 e.2 ∙ k.reference;
          class = shape_class k.object e.0 e.2 ∙ k.class;
          values = shape_long k.object e.0 e.2 ∙ k.values;
          header = header_shaped k.object e.0 e.2 ∙ k.header;
        }

    other_written : (new : Thread) → MakesNone x.phase → (e : Object) → Contains (object_write q.objects (site_word site) v) e → IsAmong objects e.reference ⊎ IsBeingMade (slice_set s.threads t new) e.reference
    other_written new old e k =
        let o = written_from q.objects (site_word site) v k.0 e (contained_got (object_write q.objects (site_word site) v) e k) in
        subst (λ (a : ℕ). IsAmong objects a ⊎ IsBeingMade (slice_set s.threads t new) a) (sym (shape_reference o.0 e o.2)) (still_among new old o.0.reference (scene.beside.others o.0 (contains_got q.objects k.0 o.0 o.1)))

    pub writes : (new : Thread) → MakesNone x.phase → MakesNone new.phase → Memory turn objects (slice_set s.words (site_word site) v) (written q (site_word site) v) new
    writes new old none = record {
      base_is = refl;
      bits = λ u m. ap (λ (rs : List ℕ). has_wait_bit rs (slice_set s.words (site_word site) v) u m) (written_references q.objects (site_word site) v) ∙ place_bits (site_word site) w v stands u m;
      places = λ n u e free. by_place n u e (λ h. free (pending_on s.threads t x new scene.here old n h)) (same_or_not n (site_word site));
      next = place_counter (site_word site) w v stands NEXT_FREE_WORD (omega arith) ∙ scene.beside.agrees.next;
      printed = place_counter (site_word site) w v stands NEXT_TICKET_WORD (omega arith) ∙ scene.beside.agrees.prints;
      known = known_written objects q (site_word site) v scene.beside.known;
      others = λ e k. other_written new old e k;
      new_objects = λ u z a word e m. new_written a word (scene.beside.new_objects u z a word (made_by_others s.threads t x new scene.here none u z a word e m) m);
      apart = apart_written c.program q (site_word site) v q.next scene.beside.apart;
    }
      where
        by_place : (n u : ℕ) → value_at (written q (site_word site) v) n ≡ Some u → (IsPending s.threads n → ⊥) → (n ≡ site_word site) ⊎ (n ≢ site_word site) → slice_index (slice_set s.words (site_word site) v) n ≡ u
        by_place n u e free (inl same) =
            ap (slice_index (slice_set s.words (site_word site) v)) same
            ∙ (set_here s.words (site_word site) v (scene.inside c objects s site scene.marked scene.facts.heap there)
            ∙ sym (here_place q (site_word site) v u no_header (subst (λ (i : ℕ). value_at (written q (site_word site) v) i ≡ Some u) same e)))
        by_place n u e free (inr d) = set_there s.words (site_word site) n v d ∙ scene.beside.agrees.places n u (sym (other_place q (site_word site) v n d) ∙ e) free

  -- ---- the number for the next reference rises

  counter_bits : (i v u m : ℕ) → i < FIRST_RECORD_WORD → has_wait_bit (references_of q.objects) (slice_set s.words i v) u m ≡ has_wait_bit (references_of q.objects) s.words u m
  counter_bits i v u m low = calm_bits i v (λ o k same. omega (arith, reference_low o k, same, low)) (λ r k same. omega (arith, same, low)) u m

  counted_place : (i v n u : ℕ) → i < FIRST_RECORD_WORD → value_at q n ≡ Some u → (IsPending s.threads n → ⊥) → slice_index (slice_set s.words i v) n ≡ u
  counted_place i v n u low e free = set_there s.words i n v (λ same. omega (arith, same, low, (place_low c.program q scene.beside.apart n u e).0)) ∙ scene.beside.agrees.places n u e free

  counter_inside : NEXT_FREE_WORD < length s.words
  counter_inside = scene.inside c objects s (Counter NEXT_FREE_WORD) scene.marked scene.facts.heap (omega arith, omega arith)

  -- a print raises the next ticket
  pub prints : (print : Printed) (new : Thread) → MakesNone x.phase → MakesNone new.phase
      → Memory turn objects (slice_set s.words NEXT_TICKET_WORD (slice_index s.words NEXT_TICKET_WORD + 1)) (record q { prints = q.prints ++ print ∷ [] }) new
  prints print new old none =
      let v = slice_index s.words NEXT_TICKET_WORD + 1 in
      let long : length (q.prints ++ print ∷ []) ≡ length q.prints + 1 = length-append q.prints (print ∷ []) in
      record {
        base_is = refl;
        bits = λ u m. counter_bits NEXT_TICKET_WORD v u m (omega arith);
        places = λ n u e free. counted_place NEXT_TICKET_WORD v n u (omega arith) e (λ h. free (pending_on s.threads t x new scene.here old n h));
        next = set_there s.words NEXT_TICKET_WORD NEXT_FREE_WORD v (λ e. omega (arith, e)) ∙ scene.beside.agrees.next;
        printed = set_here s.words NEXT_TICKET_WORD v (scene.inside c objects s (Counter NEXT_TICKET_WORD) scene.marked scene.facts.heap (omega arith, omega arith)) ∙ omega (arith, scene.beside.agrees.prints, long);
        known = scene.beside.known;
        others = λ e k. still_among new old e.reference (scene.beside.others e k);
        new_objects = λ u z a word e m. new_again c.program q (record q { prints = q.prints ++ print ∷ [] }) a word refl (scene.beside.new_objects u z a word (made_by_others s.threads t x new scene.here none u z a word e m) m);
        apart = scene.beside.apart;
      }

  pub rises : (size : ℕ) (new : Thread) → MakesNone x.phase → MakesNone new.phase
      → Memory turn objects (slice_set s.words NEXT_FREE_WORD (slice_index s.words NEXT_FREE_WORD + size)) (record q { next = q.next + size }) new
  rises size new old none =
      let v = slice_index s.words NEXT_FREE_WORD + size in
      record {
        base_is = refl;
        bits = λ u m. counter_bits NEXT_FREE_WORD v u m (omega arith);
        places = λ n u e free. counted_place NEXT_FREE_WORD v n u (omega arith) e (λ h. free (pending_on s.threads t x new scene.here old n h));
        next = set_here s.words NEXT_FREE_WORD v counter_inside ∙ ap (λ (k : ℕ). k + size) scene.beside.agrees.next;
        printed = set_there s.words NEXT_FREE_WORD NEXT_TICKET_WORD v (λ e. omega (arith, e)) ∙ scene.beside.agrees.prints;
        known = scene.beside.known;
        others = λ e k. still_among new old e.reference (scene.beside.others e k);
        new_objects = λ u z a word e m. new_again c.program q (record q { next = q.next + size }) a word refl (scene.beside.new_objects u z a word (made_by_others s.threads t x new scene.here none u z a word e m) m);
        apart = apart_on c.program q.objects q.statics q.next (q.next + size) (omega arith) scene.beside.apart;
      }

  -- ---- an object is made, and its header is still to be stored

  module _ (word : ℕ) (header : IsHeader c.program word) (new : Thread) (old : MakesNone x.phase)
      (making : new.phase ≡ phases.Made q.next word)
      (fits : q.next + size_by c.program word ≤ c.program.heap) where
    abbrev fresh : Object
    fresh = new_object q.next word (size_by c.program word)

    abbrev grown : List ℕ
    grown = slice_set s.words NEXT_FREE_WORD (slice_index s.words NEXT_FREE_WORD + size_by c.program word)

    abbrev with_new : Plain
    with_new = record q { objects = q.objects ++ new_object q.next word (size_by c.program word) ∷ []; next = q.next + size_by c.program word }

    begins : words_of c.program ≤ q.next
    begins = subst (λ (n : ℕ). words_of c.program ≤ n) scene.beside.agrees.next scene.facts.heap.begins

    two : 2 ≤ size_by c.program word
    two = size_two c.program word

    ends : object_end fresh ≡ q.next + size_by c.program word
    ends = new_end q.next word (size_by c.program word) (omega (arith, two))

    -- its words are 0
    empty : (n : ℕ) → q.next ≤ n → n < q.next + size_by c.program word → slice_index grown n ≡ 0
    empty n from to =
        set_there s.words NEXT_FREE_WORD n (slice_index s.words NEXT_FREE_WORD + size_by c.program word) (λ e. omega (arith, e, from, begins))
        ∙ scene.facts.heap.unused.empty n (omega (arith, scene.beside.agrees.next, from)) (omega (arith, to, fits))

    in_one : (m : ℕ) → has_number (references_of (q.objects ++ fresh ∷ [])) m ≡ true → (has_number (references_of q.objects) m ≡ true) ⊎ (m ≡ q.next)
    in_one m e = by_place (has_object (q.objects ++ fresh ∷ []) m e)
      where
        by_place : (o : Object) × Contains (q.objects ++ fresh ∷ []) o × (o.reference ≡ m) → (has_number (references_of q.objects) m ≡ true) ⊎ (m ≡ q.next)
        by_place k = elim (contained_last q.objects fresh k.0 k.1) [ inl h ↦ inl (object_has q.objects m (k.0, h, k.2)) | inr h ↦ inr (sym k.2 ∙ ap (λ (o : Object). o.reference) h) ]

    -- the lock word of the new one is 0, as if it were not there
    made_bits : (u m : ℕ) → has_wait_bit (references_of (q.objects ++ fresh ∷ [])) grown u m ≡ has_wait_bit (references_of q.objects) s.words u m
    made_bits u m =
        ap (λ (l : LockWord). bit_by l grown u) (same_lock_then (has_number (references_of (q.objects ++ fresh ∷ [])) m) refl (has_number (references_of q.objects) m) refl) ∙ counter_bits NEXT_FREE_WORD (slice_index s.words NEXT_FREE_WORD + size_by c.program word) u m (omega arith)
      where
        same_lock_then : (b : Bool) → has_number (references_of (q.objects ++ fresh ∷ [])) m ≡ b → (d : Bool) → has_number (references_of q.objects) m ≡ d
            → cond b (lock_of (slice_index grown m)) (locks.Free 0) ≡ cond d (lock_of (slice_index grown m)) (locks.Free 0)
        same_lock_then true e true f = refl
        same_lock_then false e false f = refl
        same_lock_then false e true f = let h = (let k = has_object q.objects m f in object_has (q.objects ++ fresh ∷ []) m (k.0, Contains-append_left q.objects (fresh ∷ []) k.0 k.1, k.2)) in absurd (cc)
        same_lock_then true e false f = elim (in_one m e) [ inl h ↦ absurd (cc) | inr h ↦ ap lock_of (empty m (omega (arith, h)) (omega (arith, h, two))) ]

    sized : header_class word ≢ INT_ARRAY_CLASS → length fresh.values ≡ instances_among (header_class word) c.program.fields
    sized other = by_test (header_class word == INT_ARRAY_CLASS) refl
      where
        by_test : (b : Bool) → (header_class word == INT_ARRAY_CLASS) ≡ b
            → length (new_object q.next word (if b then array_size (header_length word) else object_size c.program (header_class word))).values ≡ instances_among (header_class word) c.program.fields
        by_test true e = absurd (other (grind (arith, nat_tests, e)))
        by_test false e = length-replicate {A = ℕ} (object_size c.program (header_class word) - OBJECT_HEAD_WORDS) 0 ∙ omega arith

    own_header : IsPending (slice_set s.threads t new) (header_word q.next)
    own_header = (t, new, q.next, word, got_when_set s.threads t x new scene.here, making, refl)

    new_plain : IsPlainNew c.program with_new q.next word
    new_plain = record {
      object = fresh;
      there = Contains-append_right q.objects (fresh ∷ []) fresh (0, omega arith, refl);
      reference = refl;
      class = refl;
      values = length-replicate {A = ℕ} (size_by c.program word - OBJECT_HEAD_WORDS) 0;
      header = new_header c.program scene.marked.checked.program q.next word header;
    }

    old_plain : (a other : ℕ) → IsPlainNew c.program q a other → IsPlainNew c.program with_new a other
    old_plain a other k = record {
      object = k.object;
      there = Contains-append_left q.objects (fresh ∷ []) k.object k.there;
      reference = k.reference;
      class = k.class;
      values = k.values;
      header = k.header;
    }

    pub makes : Memory turn objects grown with_new new
    makes = record {
      base_is = refl;
      bits = made_bits;
      places = λ n u e free. by_place n u free (added_place q.objects q.statics fresh n u e);
      next = set_here s.words NEXT_FREE_WORD (slice_index s.words NEXT_FREE_WORD + size_by c.program word) counter_inside ∙ ap (λ (k : ℕ). k + size_by c.program word) scene.beside.agrees.next;
      printed = set_there s.words NEXT_FREE_WORD NEXT_TICKET_WORD (slice_index s.words NEXT_FREE_WORD + size_by c.program word) (λ e. omega (arith, e)) ∙ scene.beside.agrees.prints;
      known = λ o k. let e = scene.beside.known o k in (e.0, Contains-append_left q.objects (fresh ∷ []) e.0 e.1, e.2, e.3, e.4);
      others = λ e k. by_object e (contained_last q.objects fresh e k);
      new_objects = λ u z a other e m. by_thread u z a other m (made_before s.threads t x new scene.here u z a other e m);
      apart = apart_added c.program q.objects q.statics q.next (q.next + size_by c.program word) fresh (record {
        from = omega arith;
        to = omega (arith, ends);
        begin = omega (arith, begins);
        inside = omega (arith, ends, fits);
        sized = sized;
      }) scene.beside.apart;
    }
      where
        by_place : (n u : ℕ) → (IsPending (slice_set s.threads t new) n → ⊥) → (value_at q n ≡ Some u) ⊎ (value_in fresh n ≡ Some u) → slice_index grown n ≡ u
        by_place n u free (inl h) = counted_place NEXT_FREE_WORD (slice_index s.words NEXT_FREE_WORD + size_by c.program word) n u (omega arith) h (λ k. free (pending_on s.threads t x new scene.here old n k))
        by_place n u free (inr h) = elim (new_value q.next word (size_by c.program word) n u h)
            [ inl k ↦ absurd (free (subst (λ (i : ℕ). IsPending (slice_set s.threads t new) i) (sym k.0) own_header)) | inr k ↦ empty n (omega (arith, k.from)) (omega (arith, k.to, ends)) ∙ sym k.is ]

        by_object : (e : Object) → Contains q.objects e ⊎ (e ≡ fresh) → IsAmong objects e.reference ⊎ IsBeingMade (slice_set s.threads t new) e.reference
        by_object e (inl h) = still_among new old e.reference (scene.beside.others e h)
        by_object e (inr h) = inr (subst (λ (a : ℕ). IsBeingMade (slice_set s.threads t new) a) (sym (ap (λ (o : Object). o.reference) h)) (t, new, word, got_when_set s.threads t x new scene.here, making))

        by_thread : (u : ℕ) (z : Thread) (a other : ℕ) → z.phase ≡ phases.Made a other → (new.phase ≡ phases.Made a other) ⊎ ((u ≢ t) × (slice_get s.threads u ≡ Some z)) → IsPlainNew c.program with_new a other
        by_thread u z a other m (inl h) =
            let both : phases.Made q.next word ≡ phases.Made a other = sym making ∙ h in
            let same : (q.next ≡ a) × (word ≡ other) = (cc, cc) in
            subst (λ (b : ℕ). IsPlainNew c.program with_new b other) same.0
            (subst (λ (w : ℕ). IsPlainNew c.program with_new q.next w) same.1 new_plain)
        by_thread u z a other m (inr k) = old_plain a other (scene.beside.new_objects u z a other k.1 m)
