-- No place has an unfinished object after an event.
use Rattle.std.proofs.Common.{◌≡◌, ℕ, zero, suc, ◌+◌, ◌<◌, inl, inr, Bool, true, false, List, ◌∷◌, length, Option, Some, None, refl, sym, ap, ◌∙◌, subst, arith, ◌==◌, nat_le, bit_or, bit_and, Contains, slice_get, slice_set, slice_index, if◌then◌else◌}
use Rattle.std.proofs.lemmas.Bool.{ne_eqb}
use Rattle.lists.proofs.ListLaws.{same_some}
use Rattle.jvm_types.specs.{Members.is_static, ProgramInvariant.{IsProgram, words_of, instances_among}, declared.{class_numbers.TheConstants.INT_ARRAY_CLASS, code.Insn.Insn}}
use Rattle.jvm_types.specs.declared.{fixed_words.TheConstants.{NEXT_FREE_WORD, NEXT_TICKET_WORD}, op_row.OpRow.OpRow, program.{FieldInfo.FieldInfo, Kind.Kind, MethodInfo.MethodInfo, Target.Target}}
use Rattle.laws_programs.proofs.FieldOrder.{instances_inside, one_instance_field, one_static_field}
use Rattle.machine_types.specs.{Accesses.words_after, Construction.{Owning, KindKeeps, PlaceStores, PlacesKeep}, Elision.looks, Events.element_wants}
use Rattle.machine_types.specs.{FoundWords.{Content, IntPlace, ReferencePlace, leave_content}, Instructions.{has_print_left, effect_wants}, Monitors.{Claim, Has}, NewObjects.size_by}
use Rattle.machine_types.specs.{OwnedPlaces.Stores, PlainMemory.{Object, new_object}, StartLaws.StartLiesApart, Threads.{Attempt, Thread}, Typed.HasClass}
use Rattle.machine_types.specs.{Words.{header_word, header_class, value_word, variable_word, object_size, array_size}, Worlds.{World, IsFinished, IsWorld, GoesOn}, declared.access.Access.Access}
use Rattle.machine_types.specs.declared.{access.Access.TheVariants.{Load, Store, Cas, Add, Or, And, Rest}, effect.Effect.Effect}
use Rattle.machine_types.specs.declared.effect.{Effect.TheVariants.{Goes, Reads, Writes, Indexes, Measures, Raises, Makes, Prints, Calls}, Variable.{Variable, TheVariants.{Instance, Static}}}
use Rattle.machine_types.specs.declared.{lock.Kept.{Kept, TheVariants.{Fat, Flat}}, phase.Phase.TheVariants.Made}
use Rattle.laws_threads.{specs.Allowed.{IsNamedField, Allowed}, proofs.MonitorMoves.contains_got}
use Rattle.laws_states.specs.Sites.{Site, Counter, ValueOf, NewHeaderOf, StaticAt, site_word, IsThere, Suits, ReachesIf}
use Rattle.laws_states.proofs.{Accesses.ElementSite, Movers.HeapState, Lists.{contained_got, contains_more, same_or_not, set_here, set_there}, Places.same_object, Sites.{sites_apart, sites_inside}, WordViews.set_self}
use Rattle.laws_objects.proofs.{Buildings.first_finished, BuiltEffects.KindOld, PlaceWriters.{has_field, holder_of}, Views.finished_on}
use Rattle.jvm_types.specs.declared.program.Kind.TheVariants as kinds
use Rattle.machine_types.specs.Words as words

-- what is neither a field nor an element
abbrev pub IsPlain : Content → Type 0
IsPlain IntPlace = ⊥
IsPlain ReferencePlace = ⊥
IsPlain content = Unit {0}

pub leave_plain : (claim : Claim) → IsPlain (leave_content claim)
leave_plain (Has h) = elim h.kept as (λ (kept : Kept). IsPlain (leave_content (Has (record h { kept = kept })))) [ Flat n ↦ tt | Fat r ↦ tt ]
leave_plain claim = tt

-- an event, in a world: what is owned, and what was stored before it and behind it
pub record PlaceChange : Type 0 where
  pub lies : StartLiesApart
  pub heap : HeapState
  pub open heap use *
  pub own : Owning
  pub after : Stores
  pub w : World
  pub later : World
  pub more : ℕ
  pub t : ℕ
  pub goes : GoesOn w later (slice_index s.words NEXT_FREE_WORD) more t 0
  pub places : PlacesKeep c own w (slice_index s.words NEXT_FREE_WORD) objects s.words
  pub on : (word : ℕ) (owned : Bool) (kind : Kind) (v : ℕ) → KindKeeps w (slice_index s.words NEXT_FREE_WORD) kind v → PlaceStores own.stores word owned kind v → PlaceStores after word owned kind v
  pub arrays_are : (v word : ℕ) → after v ≡ Some word → (o : Object) × (Contains objects o) × (o.reference ≡ v) × (o.class ≡ INT_ARRAY_CLASS)

module _ (change : PlaceChange) where
  open change use {lies, heap, c, marked, objects, s, facts, own, after, w, later, more, t, goes, places, on, arrays_are}

  is_program : IsProgram c.program
  is_program = marked.checked.program

  -- what is said of the places behind the event
  abbrev pub Behind : List ℕ → Type 0
  Behind words = PlacesKeep c (record own { stores = after }) later more objects words

  -- what a word has to be where it stands
  abbrev pub LeftKeeps : Site → (v : ℕ) → Type 0
  LeftKeeps (ValueOf r i) v = (o : Object) (number : ℕ) (f : FieldInfo) → Contains objects o → slice_get c.program.fields number ≡ Some f → is_static f.flags ≡ false → o.class ≡ f.class → o.reference ≡ r → f.index ≡ i
      → KindKeeps later more f.kind v × PlaceStores after (value_word o.reference f.index) (own.owned number) f.kind v
  LeftKeeps (StaticAt word) v = (number : ℕ) (f : FieldInfo) → slice_get c.program.fields number ≡ Some f → is_static f.flags ≡ true → f.index ≡ word → KindKeeps later more f.kind v × PlaceStores after f.index false f.kind v
  LeftKeeps site v = Unit {0}

  kind_on : (kind : Kind) (v : ℕ) → KindKeeps w (slice_index s.words NEXT_FREE_WORD) kind v → KindKeeps later more kind v
  kind_on (kinds.Ref class) v k = finished_on w later (slice_index s.words NEXT_FREE_WORD) more t goes v k
  kind_on kind v k = tt

  pub old_kind : (kind : Kind) (v : ℕ) → KindOld (IsFinished w (slice_index s.words NEXT_FREE_WORD)) kind v → KindKeeps later more kind v
  old_kind (kinds.Ref class) v k = finished_on w later (slice_index s.words NEXT_FREE_WORD) more t goes v k
  old_kind kind v k = tt

  pub same_words : Behind s.words
  same_words = record {
    fields = λ o number f k g n class. kind_on f.kind (slice_index s.words (value_word o.reference f.index)) (places.fields o number f k g n class);
    statics = λ number f g n. kind_on f.kind (slice_index s.words f.index) (places.statics number f g n);
    arrays = λ o number f k g n class. on (value_word o.reference f.index) (own.owned number) f.kind (slice_index s.words (value_word o.reference f.index)) (places.fields o number f k g n class) (places.arrays o number f k g n class);
    static_arrays = λ number f g n. on f.index false f.kind (slice_index s.words f.index) (places.statics number f g n) (places.static_arrays number f g n);
    stored = arrays_are;
  }

  pub loaded : (word : ℕ) → Behind (words_after s.words (Some (Load word)))
  loaded word = subst Behind (sym (set_self s.words word)) same_words

  -- a word is stored
  module _ (word value : ℕ) (site : Site) (there : IsThere c.program objects s site) (word_is : word ≡ site_word site) (left : LeftKeeps site value) where
    -- at another site than this one the word stays
    at : (P : ℕ → Type 0) (mine : Site) → IsThere c.program objects s mine → P (slice_index s.words (site_word mine)) → (LeftKeeps mine value → P value) → P (slice_index (slice_set s.words word value) (site_word mine))
    at P mine is old new = elim (same_or_not (site_word mine) word) [
      | inl e ↦ let one : mine ≡ site = sites_apart lies c objects s mine site marked facts is there (e ∙ word_is) in
          subst P (sym (ap (slice_index (slice_set s.words word value)) e ∙ set_here s.words word value
          (subst (λ (n : ℕ). n < length s.words) (sym word_is) (sites_inside lies c objects s site marked facts there)))) (new (subst (λ (x : Site). LeftKeeps x value) (sym one) left))
      | inr n ↦ subst P (sym (set_there s.words word (site_word mine) value n)) old
    ]

    pub stored : Behind (slice_set s.words word value)
    stored = record {
      fields = λ o number f k g n class. at (KindKeeps later more f.kind) (ValueOf o.reference f.index) (o, k, refl, has_field heap o number f k g n class) (same_words.fields o number f k g n class) (λ l. (l o number f k g n class refl refl).0);
      statics = λ number f g n. (let v = facts.apart.there number f g n in at (KindKeeps later more f.kind) (StaticAt f.index) (v.0, v.1, v.2) (same_words.statics number f g n) (λ l. (l number f g n refl).0));
      arrays = λ o number f k g n class.
          at (PlaceStores after (value_word o.reference f.index) (own.owned number) f.kind) (ValueOf o.reference f.index) (o, k, refl, has_field heap o number f k g n class) (same_words.arrays o number f k g n class) (λ l. (l o number f k g n class refl refl).1);
      static_arrays = λ number f g n. (let v = facts.apart.there number f g n in at (PlaceStores after f.index false f.kind) (StaticAt f.index) (v.0, v.1, v.2) (same_words.static_arrays number f g n) (λ l. (l number f g n refl).1));
      stored = arrays_are;
    }

  -- ---- at no place

  plain_left : (content : Content) (site : Site) (v : ℕ) → IsPlain content → Suits content site → LeftKeeps site v
  plain_left IntPlace site v p u = absurd p
  plain_left ReferencePlace site v p u = absurd p
  plain_left content (ValueOf a i) v p u = absurd u
  plain_left content (StaticAt word) v p u = absurd u
  plain_left content site v p u = tt

  pub plain : (content : Content) → IsPlain content → (access : Option Access) → ReachesIf c.program objects s content access → Behind (words_after s.words access)
  plain content p None r = same_words
  plain content p (Some Rest) r = same_words
  plain content p (Some (Load word)) r = loaded word
  plain content p (Some (Store word v)) r = stored word v r.site r.there r.word (plain_left content r.site v p r.suits)
  plain content p (Some (Cas word is v)) r = let value = if slice_index s.words word == is then v else slice_index s.words word in stored word value r.site r.there r.word (plain_left content r.site value p r.suits)
  plain content p (Some (Add word v)) r = let value = slice_index s.words word + v in stored word value r.site r.there r.word (plain_left content r.site value p r.suits)
  plain content p (Some (Or word v)) r = let value = bit_or (slice_index s.words word) v in stored word value r.site r.there r.word (plain_left content r.site value p r.suits)
  plain content p (Some (And word v)) r = let value = bit_and (slice_index s.words word) v in stored word value r.site r.there r.word (plain_left content r.site value p r.suits)

  -- ---- an element

  pub element : (word : ℕ) (put : Option ℕ) → ElementSite objects word put → Behind (words_after s.words (Some (element_wants word put)))
  element word None k = loaded word
  element word (Some v) k = stored word v (ValueOf k.array.reference k.index) (k.array, k.there, refl, k.below) k.word_is (λ o number f l g n class same index.
      absurd (let one : o ≡ k.array = same_object c.program objects (slice_index s.words NEXT_FREE_WORD) facts.apart o k.array l k.there same in
      let from = (is_program.fields number f g).class.0 in
      let array = k.class in
      omega (arith, from, class, array, ap (λ (x : Object). x.class) one)))

  -- ---- a field

  -- where the word goes, by the field that the target names
  abbrev pub IsLeft : (target : Target) (v : Variable) (n : ℕ) → Type 0
  IsLeft target v n =
      (f : FieldInfo) (at : IsNamedField c.program (HasClass objects) target v f)
      → KindKeeps later more f.kind n × (is_static f.flags ≡ false → PlaceStores after (value_word at.reference f.index) (own.owned at.number) f.kind n) × (is_static f.flags ≡ true → PlaceStores after f.index false f.kind n)

  pub field_written : (target : Target) (v : Variable) (f : FieldInfo) (n : ℕ) → IsNamedField c.program (HasClass objects) target v f → IsLeft target v n → Behind (words_after s.words (Some (Store (variable_word v) n)))
  field_written target v f n at left = subst (λ (u : Variable). Behind (words_after s.words (Some (Store (variable_word u) n)))) (sym at.variable) (by_flag (is_static f.flags) refl)
    where
      same_info : (other : ℕ) (g : FieldInfo) → slice_get c.program.fields other ≡ Some g → other ≡ at.number → g ≡ f
      same_info other g e same = same_some (sym e ∙ (ap (slice_get c.program.fields) same ∙ at.there))

      by_flag : (b : Bool) → is_static f.flags ≡ b → Behind (words_after s.words (Some (Store (variable_word (if b then Static f.index else Instance at.reference f.index)) n)))
      by_flag true e =
          let k = facts.apart.there at.number f at.there e in
          stored f.index n (StaticAt f.index) (k.0, k.1, k.2) refl (λ other g there is index.
          (let one : g ≡ f = same_info other g there (one_static_field c.program other at.number g f is_program there at.there is e index) in
          subst (λ (x : FieldInfo). KindKeeps later more x.kind n × PlaceStores after x.index false x.kind n) (sym one) ((left f at).0, (left f at).2 e)))
      by_flag false e =
          let holder = holder_of heap at.number f at.reference at.there e (at.holder e) in
          stored (value_word at.reference f.index) n (ValueOf at.reference f.index) holder.there refl (λ o other g l there_too is class same index.
          (let one : o ≡ holder.object = same_object c.program objects (slice_index s.words NEXT_FREE_WORD) facts.apart o holder.object l holder.known (same ∙ sym holder.is) in
          let classes : g.class ≡ f.class = sym class ∙ (ap (λ (x : Object). x.class) one ∙ holder.of_class) in
          let number : other ≡ at.number = one_instance_field c.program other at.number g f is_program there_too at.there classes is e index in
          let info : g ≡ f = same_info other g there_too number in
          subst (λ (r : ℕ). KindKeeps later more g.kind n × PlaceStores after (value_word r g.index) (own.owned other) g.kind n) (sym same)
          (subst (λ (d : ℕ). KindKeeps later more g.kind n × PlaceStores after (value_word at.reference g.index) (own.owned d) g.kind n) (sym number)
          (subst (λ (x : FieldInfo). KindKeeps later more x.kind n × PlaceStores after (value_word at.reference x.index) (own.owned at.number) x.kind n) (sym info) ((left f at).0, (left f at).1 e)))))

  -- ---- the event that begins an instruction

  looked : (o : Option Attempt) → Behind (words_after s.words (looks o))
  looked None = same_words
  looked (Some a) = loaded a.monitor

  abbrev pub WritesFine : Target → Effect → Type 0
  WritesFine target (Writes v n) = IsLeft target v n
  WritesFine target e = Unit {0}

  pub effect_places : (x : Thread) (m : MethodInfo) (insn : Insn) (target : Target) (r : OpRow) (stack : List ℕ) (pc : ℕ) (e : Effect) → Allowed c.program m (HasClass objects) insn target r stack e → WritesFine target e → Behind (words_after s.words (effect_wants x pc e))
  effect_places x m insn target r stack pc (Goes to made) al left = elim (nat_le to pc) as (λ (b : Bool). Behind (words_after s.words (if b then looks x.attempt else None))) [ true ↦ looked x.attempt | false ↦ same_words ]
  effect_places x m insn target r stack pc (Calls number) al left = looked x.attempt
  effect_places x m insn target r stack pc (Reads v) al left = loaded (variable_word v)
  effect_places x m insn target r stack pc (Writes v n) al left = field_written target v al.1 n al.2 left
  effect_places x m insn target r stack pc (Indexes a i put) al left = loaded (header_word a)
  effect_places x m insn target r stack pc (Measures a) al left = loaded (header_word a)
  effect_places x m insn target r stack pc (Raises a) al left = loaded (header_word a)
  effect_places x m insn target r stack pc (Makes word size) al left = stored NEXT_FREE_WORD (slice_index s.words NEXT_FREE_WORD + size) (Counter NEXT_FREE_WORD) (omega arith, omega arith) refl tt
  effect_places x m insn target r stack pc (Prints n) al left = elim (has_print_left x) as (λ (b : Bool). Behind (words_after s.words (if b then Some (Add NEXT_TICKET_WORD 1) else None)))
      [ true ↦ stored NEXT_TICKET_WORD (slice_index s.words NEXT_TICKET_WORD + 1) (Counter NEXT_TICKET_WORD) (omega arith, omega arith) refl tt | false ↦ same_words ]
  effect_places x m insn target r stack pc e al left = same_words

  -- ---- a new object

  pub made_places : (x : Thread) (a word : ℕ) → after 0 ≡ None → IsWorld later (words_of c.program) more → slice_get s.threads t ≡ Some x → x.phase ≡ Made a word
      → PlacesKeep c (record own { stores = after }) later more (new_object a word (size_by c.program word) ∷ objects) (slice_set s.words (header_word a) word)
  made_places x a word null is there made = record {
    fields = λ o number f l g n class.
        of_each (λ o number f v. KindKeeps later more f.kind v) (λ o number f. null_kind f.kind 0 refl) old.fields l.0 o number f (contained_got (new_object a word (size_by c.program word) ∷ objects) o l) g n class;
    statics = old.statics;
    arrays = λ o number f l g n class.
        of_each (λ o number f v. PlaceStores after (value_word o.reference f.index) (own.owned number) f.kind v) (λ o number f. null_place (value_word o.reference f.index) (own.owned number) f.kind) old.arrays l.0 o number f (contained_got (new_object a word (size_by c.program word) ∷ objects) o l) g n class;
    static_arrays = old.static_arrays;
    stored = λ v at e. (let k = arrays_are v at e in (k.0, contains_more (new_object a word (size_by c.program word)) objects k.0 k.1, k.2, k.3));
  }
    where
      old : Behind (slice_set s.words (header_word a) word)
      old = stored (header_word a) word (NewHeaderOf a) (t, x, word, there, made) refl tt

      null_kind : (kind : Kind) (v : ℕ) → v ≡ 0 → KindKeeps later more kind v
      null_kind (kinds.Ref class) v e = subst (IsFinished later more) (sym e) (first_finished later (words_of c.program) more 0 is (omega arith))
      null_kind kind v e = tt

      null_place : (at : ℕ) (owned : Bool) (kind : Kind) → PlaceStores after at owned kind 0
      null_place at true kind = inl refl
      null_place at false (kinds.Ref class) = null
      null_place at false kind = tt

      -- its fields are null, and the others as before
      of_each : (P : Object → ℕ → FieldInfo → ℕ → Type 0) → ((o : Object) (number : ℕ) (f : FieldInfo) → P o number f 0)
          → ((o : Object) (number : ℕ) (f : FieldInfo) → Contains objects o → slice_get c.program.fields number ≡ Some f → is_static f.flags ≡ false → o.class ≡ f.class → P o number f (slice_index (slice_set s.words (header_word a) word) (value_word o.reference f.index)))
          → (j : ℕ) (o : Object) (number : ℕ) (f : FieldInfo) → slice_get (new_object a word (size_by c.program word) ∷ objects) j ≡ Some o → slice_get c.program.fields number ≡ Some f → is_static f.flags ≡ false → o.class ≡ f.class
          → P o number f (slice_index (slice_set s.words (header_word a) word) (value_word o.reference f.index))
      of_each P nothing before zero o number f e g n class =
          let same : new_object a word (size_by c.program word) ≡ o = same_some e in
          let from = (is_program.fields number f g).class.0 in
          let of_class : header_class word ≡ f.class = ap (λ (z : Object). z.class) same ∙ class in
          let other : (header_class word == INT_ARRAY_CLASS) ≡ false = ne_eqb (header_class word) INT_ARRAY_CLASS (λ array. absurd (omega (arith, array, of_class, from))) in
          let sized : size_by c.program word ≡ object_size c.program (header_class word) = ap (λ (b : Bool). if b then array_size (words.header_length word) else object_size c.program (header_class word)) other in
          let inside : f.index < instances_among (header_class word) c.program.fields = subst (λ (d : ℕ). f.index < instances_among d c.program.fields) (sym of_class) (instances_inside c.program number f is_program g n) in
          let new = facts.new_objects.each t x a word there made in
          let zero_is : slice_index (slice_set s.words (header_word a) word) (value_word a f.index) ≡ 0 = set_there s.words (header_word a) (value_word a f.index) word (λ q. omega (arith, q)) ∙ new.empty (value_word a f.index) (omega arith) (omega (arith, sized, inside)) in
          let at_o : slice_index (slice_set s.words (header_word a) word) (value_word o.reference f.index) ≡ 0 = ap (λ (z : Object). slice_index (slice_set s.words (header_word a) word) (value_word z.reference f.index)) (sym same) ∙ zero_is in
          subst (P o number f) (sym at_o) (nothing o number f)
      of_each P nothing before (suc j) o number f e g n class = before o number f (contains_got objects j o e) g n class
