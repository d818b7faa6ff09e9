-- The places that stay for a thread stay so after an event of another thread, and keep their words.
use Rattle.std.proofs.Common.{◌≡◌, ◌≢◌, ◌⊎◌, inl, inr, ℕ, zero, suc, Bool, true, false, List, [], ◌∷◌, Option, Some, None, refl, sym, ap, ◌∙◌, subst, arith, slice_get, slice_index}
use Rattle.lists.proofs.ListLaws.{same_some}
use Rattle.jvm_types.specs.{ClassNames.file_of_class, Members.{is_final, is_private, is_static}, declared.program.FieldInfo.FieldInfo}
use Rattle.checked_program.specs.SectionLaws.{OwnedIsDecided}
use Rattle.machine_types.specs.{Accesses.words_after, Attempts.{IsFieldAt, Stays, header, frozen, guarded, element, frozen_static, guarded_static}, Construction.AttemptKeepsIn, Core.{event, event_of}}
use Rattle.machine_types.specs.{Events.wanted, Guards.{Changes, ChangesWord, HoldsMonitor, IsOfClassInit, KeepsGuards, MakesClass, MakesObject}, LockWords.word_of_lock, PlainMemory.Object}
use Rattle.machine_types.specs.{Structure.{AttemptStandsIn, IsAs, IsPhaseInside, IsStructured, Stands}, Threads.{Attempt, Frame, Thread}, Words.{class_object, value_word}}
use Rattle.machine_types.specs.{Worlds.{Builder, IsOwnOrFinished}, declared.{lock.LockWord.TheVariants.Free, phase.Phase.{Phase, TheVariants.Idle}}}
use Rattle.laws_threads.specs.{InsideEffects.InsideMayDo, InsideMoves.ElementsInside}
use Rattle.laws_states.proofs.{Lists.same_or_not, Movers.KnownSites}
use Rattle.laws_objects.proofs.{ElementWriters.{ElementWriter, StoresElement, element_writer}, PlaceWriters.{BuiltEvent, TopWrites}}
use Rattle.laws_refinement.{specs.ElidedSteps.next_free, proofs.{Attempting.Event, FieldWriters.{TopIsOf, field_writer}, Inside.is_inside, InsideWords.words_stay, LockNoted.held_not, OwnBuilders.{IsOwn, makes_own}, StayingOn.still_object}}

-- the laws of events that it follows from
pub record AreEventFacts : Type 0 where
  pub may_do : InsideMayDo
  pub elements : ElementsInside
  pub decided : OwnedIsDecided
  pub sites : KnownSites

module _ (its : Event) where
  open its use {c, objects, was, frozen as is_frozen, owning as own, w, later, s, t, x, facts, con as built, turns}

  abbrev pub after : List ℕ
  after = words_after s.words (wanted c x x.phase)

  pub event_words : (event c s t).words ≡ words_after s.words (wanted c x x.phase)
  event_words = ap (λ (o : Option Thread). (event_of c s t o).words) turns.thread

  abbrev IsSame : ℕ → Type 0
  IsSame place = slice_index (event c s t).words place ≡ slice_index s.words place

  at_place : (z place : ℕ) → z ≡ place → IsSame place → IsSame z
  at_place z place at = subst IsSame (sym at)

  -- ---- what another thread may know stays

  module _ (u : ℕ) (other : u ≢ t) where
    pub still_own : (v : ℕ) → IsOwnOrFinished w (next_free s) u v → IsOwnOrFinished later (next_free (event c s t)) u v
    still_own v (below, own) = (
      let grows = turns.goes_on.grows in omega (arith, below, grows),
      λ b e. elim (same_or_not b.thread t) [ inl same ↦ by_world b e same (w v) refl | inr d ↦ own b (turns.goes_on.no_more v b d e) ],
    )
      where
        by_world : (b : Builder) → later v ≡ Some b → b.thread ≡ t → (o : Option Builder) → w v ≡ o → b.thread ≡ u
        by_world b e same None f = let none : later v ≡ None = turns.goes_on.finished v (below, f) in absurd (cc)
        by_world b e same (Some d) f =
            let mine : d.thread ≡ u = own d f in
            ap (λ (g : Builder). g.thread) (same_some (sym e ∙ turns.goes_on.others v d (λ g. other (sym mine ∙ g)) f)) ∙ mine

    -- ---- their words stay

    module _ (laws : AreEventFacts) where
      open laws use {may_do, elements, decided, sites}

      abbrev built_event : BuiltEvent
      built_event = record { sites = sites; state = its.state; t = t; x = x; there = its.here }

      -- a word stays, unless the thread is in no attempt and changes it
      unchanged : (place : ℕ) → (x.attempt ≡ None → ChangesWord place s (event c s t) → ⊥) → IsSame place
      unchanged place never = (elim x.attempt as (λ (a : Option Attempt). x.attempt ≡ a → IsSame place) [
        | None ↦ λ e. elim (same_or_not (slice_index (event c s t).words place) (slice_index s.words place)) [ inl same ↦ same | inr changes ↦ absurd (never e changes) ]
        | Some a ↦ λ e. ap (λ (words : List ℕ). slice_index words place) (event_words ∙ words_stay s.words c x a (is_inside may_do elements c its.marked x a e (was t) (facts.structure t x turns.thread)))
      ]) refl

      -- no `<init>` that another thread runs is on an object that this one knows
      not_made : (v class : ℕ) → IsOwnOrFinished w (next_free s) u v → is_frozen class ≡ true → x.attempt ≡ None → MakesObject c v x.frames → TopIsOf c.program class x.frames → ⊥
      not_made v class known is outside makes top =
          let own : IsOwn w t v = makes_own c is_frozen own (next_free s) t v class is w (was t) x (built.each t x turns.thread) outside makes top in
          other (sym (known.1 own.0 own.1) ∙ own.2)

      -- a field of a frozen class that changes only where its object is made
      module _ (fi z : ℕ) (o : Object) (k : IsFieldAt c objects w (next_free s) u fi z o) (instance : is_static k.field.flags ≡ false) (restricted : (is_private k.field.flags ≡ true) ⊎ (is_final k.field.flags ≡ true))
          (is : is_frozen k.field.class ≡ true) where
        abbrev place : ℕ
        place = value_word o.reference k.field.index

        field_stays : (KeepsGuards c own.stores objects s (event c s t) x → Changes fi c o s (event c s t) → MakesObject c o.reference x.frames) → IsSame z
        field_stays guards = at_place z place k.place (unchanged place (λ e d. by_writer e d (field_writer built_event fi k.field k.is restricted o instance k.there k.of_class)
            (guards (turns.guards e) (record { field = k.field; is = k.is; of_class = k.of_class; changes = d }))))
          where
            by_writer : x.attempt ≡ None → ChangesWord place s (event c s t) → (slice_index after place ≡ slice_index s.words place) ⊎ TopIsOf c.program k.field.class x.frames → MakesObject c o.reference x.frames → ⊥
            by_writer e d (inl same) makes = d (ap (λ (words : List ℕ). slice_index words place) event_words ∙ same)
            by_writer e d (inr top) makes = not_made o.reference k.field.class k.known is e makes top

      -- a static field that changes only where its class is made: then no worker has begun, so none is in an attempt, and none moves
      module _ (y : Thread) (there : slice_get s.threads u ≡ Some y) (mine : Attempt) (tries : y.attempt ≡ Some mine) (place class : ℕ) where
        static_stays : (KeepsGuards c own.stores objects s (event c s t) x → ChangesWord place s (event c s t) → MakesClass c class s x) → IsSame place
        static_stays guards = unchanged place (λ e changes. not_clinit (guards (turns.guards e) changes))
          where
            -- one of the two is a worker
            not_clinit : MakesClass c class s x → ⊥
            not_clinit makes = by_number u t refl refl
              where
                by_number : (i j : ℕ) → u ≡ i → t ≡ j → ⊥
                by_number zero zero f g = other (f ∙ sym g)
                by_number (suc i) j f g =
                    let st : IsStructured c (was u) y = facts.structure u y there in
                    let is : was u ≡ Idle = subst (λ (phase : Phase). IsAs phase (was u)) (makes.no_worker i y (subst (λ (n : ℕ). slice_get s.threads n ≡ Some y) f there)) st.is_as in
                    subst (IsPhaseInside mine.monitor) is (subst (AttemptStandsIn c (was u) y.frames y.held) tries st.attempt).inside
                by_number zero (suc j) f g =
                    let st : IsStructured c (was t) x = facts.structure t x turns.thread in
                    let is : was t ≡ Idle = subst (λ (phase : Phase). IsAs phase (was t)) (makes.no_worker j x (subst (λ (n : ℕ). slice_get s.threads n ≡ Some x) g turns.thread)) st.is_as in
                    subst (IsOfClassInit c class) (subst (λ (phase : Phase). Stands c phase x.frames x.held x.attempt) is st.stands).phase_shows makes.runs

      -- the thread that moves does not hold a free monitor
      not_by_lock : (Makes : Type 0) (m n o : ℕ) → slice_index s.words m ≡ word_of_lock (Free n) → o ≡ m → HoldsMonitor o x ⊎ Makes → Makes
      not_by_lock Makes m n o free at (inl holds) = absurd (held_not c its.cfg objects was s t x facts turns.thread m n free (subst (λ (r : ℕ). HoldsMonitor r x) at holds))
      not_by_lock Makes m n o free at (inr makes) = makes

      -- for a thread in an attempt
      pub still_word : (y : Thread) → slice_get s.threads u ≡ Some y → (a : Attempt) → y.attempt ≡ Some a → (z : ℕ) → slice_index s.words a.monitor ≡ word_of_lock (Free a.noted) → Stays c own.stores objects w (next_free s) u a.monitor z → slice_index (event c s t).words z ≡ slice_index s.words z
      still_word y there a tries z free (header o known at) =
          ap (slice_index (event c s t).words) at ∙ turns.facts_after.heap.typed.places.headers o (still_object its o known) ∙ sym (ap (slice_index s.words) at ∙ facts.heap.typed.places.headers o known)
      still_word y there a tries z free (frozen fi o is k) =
          let one : is.field ≡ k.field = same_some (sym is.is ∙ k.is) in
          field_stays fi z o k (subst (λ (f : FieldInfo). is_static f.flags ≡ false) one is.instance) (inr (subst (λ (f : FieldInfo). is_final f.flags ≡ true) one is.final))
          (subst (λ (f : FieldInfo). is_frozen f.class ≡ true) one (built.frozen_are.with_frozen fi is)) (λ guards changes. guards.frozen fi o k.there is changes)
      still_word y there a tries z free (guarded fi o is at k) =
          let one : is.field ≡ k.field = same_some (sym is.is ∙ k.is) in
          field_stays fi z o k (subst (λ (f : FieldInfo). is_static f.flags ≡ false) one is.instance) (inl (subst (λ (f : FieldInfo). is_private f.flags ≡ true) one is.private))
          (subst (λ (f : FieldInfo). is_frozen f.class ≡ true) one (built.frozen_are.with_guarded fi is))
          (λ guards changes. not_by_lock (MakesObject c o.reference x.frames) a.monitor a.noted o.reference free at (guards.guarded fi o k.there is changes))
      still_word y there a tries z free (element fi o owned known at k) = unchanged z (λ e changes. by_writer e changes (element_writer decided built_event fi z o known owned k))
        where
          -- the monitor is no object that another thread builds
          known_here : IsOwnOrFinished w (next_free s) u o.reference
          known_here = subst (IsOwnOrFinished w (next_free s) u) (sym at) (subst (AttemptKeepsIn c is_frozen own w (next_free s) u y.frames) tries (built.each u y there).attempt).monitor

          frozen_class : is_frozen o.class ≡ true
          frozen_class = subst (λ (class : ℕ). is_frozen class ≡ true) (sym (k.of_class ∙ ap (λ (f : FieldInfo). f.class) (same_some (sym k.is_field.is ∙ owned.is))))
              (by_final (is_final owned.field.flags) refl)
            where
              by_final : (b : Bool) → is_final owned.field.flags ≡ b → is_frozen owned.field.class ≡ true
              by_final true e = built.frozen_are.with_frozen fi (record { field = owned.field; is = owned.is; final = e; instance = owned.instance; frozen = owned.frozen })
              by_final false e = built.frozen_are.with_guarded fi (record {
                field = owned.field;
                is = owned.is;
                private = owned.private;
                changes = e;
                instance = owned.instance;
                frozen = owned.frozen;
                written = owned.written;
              })

          by_top : (fs : List Frame) → TopWrites (ElementWriter c o) fs → TopIsOf c.program o.class fs
          by_top [] writer = writer
          by_top (f ∷ fs) writer = (writer.stands.method, writer.stands.at.in_program, sym writer.of_class)

          by_writer : x.attempt ≡ None → ChangesWord z s (event c s t) → (slice_index after z ≡ slice_index s.words z) ⊎ StoresElement c o z x → ⊥
          by_writer e changes (inl still) = changes (ap (λ (words : List ℕ). slice_index words z) event_words ∙ still)
          by_writer e changes (inr stores) = not_made o.reference o.class known_here frozen_class e
              (not_by_lock (MakesObject c o.reference x.frames) a.monitor a.noted o.reference free at ((turns.guards e).elements fi z o known owned k changes)) (by_top x.frames stores.top)
      still_word y there a tries z free (frozen_static fi is at) =
          at_place z is.field.index at (static_stays y there a tries is.field.index is.field.class (λ guards changes. guards.frozen_statics fi is changes))
      still_word y there a tries z free (guarded_static fi is on at) = at_place z is.field.index at (static_stays y there a tries is.field.index is.field.class
          (λ guards changes. not_by_lock (MakesClass c is.field.class s x) a.monitor a.noted (class_object c.program (file_of_class is.field.class)) free on (guards.statics fi is changes)))
