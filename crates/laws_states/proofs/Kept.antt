-- An event, and the begin of a part, keep what the words hold of objects and places.
use Rattle.std.proofs.Common.{⊎_elim, ◌≡◌, ◌⊎◌, inl, inr, ℕ, List, [], ◌∷◌, Option, Some, None, refl, ap, sym, subst, ◌∙◌, slice_get, slice_index, slice_set}
use Rattle.jvm_types.specs.declared.{fixed_words.TheConstants.NEXT_FREE_WORD, program.Program.Program}
use Rattle.checked_program.specs.MarkedProgram.{MarkedProgram}
use Rattle.machine_types.specs.{Accesses.{found_by, words_after}, Core.{Core, event_of, next}, Events.{wanted, moved}, FoundWords.content_at, NewObjects.{size_by, IsNewObject}}
use Rattle.machine_types.specs.{PlainMemory.{Object, new_object}, StartLaws.StartLiesApart, Structure.{IsAs, PhaseShows, IsStructured}, Threads.{Frame, Thread}}
use Rattle.machine_types.specs.{Typed.{Classes, HasClass, HasElementIn, FramesHold, AttemptHolds, PhaseHolds, ThreadHolds}, Words.header_word, declared.phase.Phase.Phase}
use Rattle.laws_threads.{specs.StructureLaws.StructureIsKept, proofs.KeptPhases.PhaseFinds}
use Rattle.laws_states.{specs.{HeapFacts.{IsWaitOn, HoldsObjects, HeapFacts, objects_by, objects_of}, HeapLaws.{EventsKeepHeap, NextKeepsHeap}}, proofs.Assembled.{Behind, Became, assembled}}
use Rattle.laws_states.proofs.{BegunThreads.{StartsOrEnded, Begins, begun}, Leads.{Leads, phase_leads}, Lifted.{thread_up, monitors_up, element_up}, Moves.{has_objects, old_finds, moved_values}}
use Rattle.laws_states.proofs.{Movers.{HeapMover, heap_mover}, NewHeader.{behind_new, class_new, Maker}, Phases.{IsOldPhase, old_fits}, Quiet.AllHeld, WordSteps.{WordsGoOn, words_go_on}}
use Rattle.jvm_types.specs.declared.outcome.End.TheVariants as ends
use Rattle.machine_types.specs.declared.phase.Phase.TheVariants as phases

-- ---- an event

objects_old : (p : Program) (phase : Phase) (objects : List Object) → IsOldPhase phase → objects_by p phase objects ≡ objects
objects_old p (phases.Made a word) objects old = absurd old
objects_old p phase objects old = refl

new_or_old : (phase : Phase) → IsOldPhase phase ⊎ ((a : ℕ) × (word : ℕ) × (phase ≡ phases.Made a word))
new_or_old (phases.Made a word) = inr (a, word, refl)
new_or_old phase = inl tt

module _ (keeps : StructureIsKept) (lies : StartLiesApart) (mover : HeapMover) where
  open mover use {t, x, there, lawful, state.{c, marked, objects, s, facts}}

  abbrev after : List ℕ
  after = words_after s.words (wanted c x x.phase)

  abbrev got : ℕ
  got = found_by s.words (wanted c x x.phase)

  abbrev now : Thread
  now = moved c x x.phase (found_by s.words (wanted c x x.phase))

  abbrev state : Core
  state = record { words = words_after s.words (wanted c x x.phase); threads = slice_set s.threads t (moved c x x.phase (found_by s.words (wanted c x x.phase))) }

  leads : Leads c objects s after now
  leads = let monitors = facts.monitors t x there in let typed = facts.typed.threads t x there in phase_leads mover.state x x.phase refl monitors.held typed.phase monitors.waits

  -- ---- where no header is stored for the first time

  old_behind : IsOldPhase x.phase → Behind c objects objects s t after
  old_behind old =
      let w : WordsGoOn c objects s after =
      words_go_on lies mover.state (content_at c x x.phase) (wanted c x x.phase) (old_fits mover old) in
      record {
        up = λ o k. k;
        long = w.long;
        free = w.free;
        unused = w.unused;
        apart = facts.apart;
        places = w.places;
        headers = facts.headers;
        new = λ u z a word n differ e m from to. w.new a n (record { t = u; thread = z; word = word; there = e; made = m; from = from; to = to });
        beside = λ u z a word differ e m o k. let new = facts.new_objects.each u z a word e m in new.beside o k;
      }

  old_became : IsOldPhase x.phase → Became c objects s after now
  old_became old =
      let typed = facts.typed.threads t x there in
      let has = has_objects mover.state objects (slice_index s.words NEXT_FREE_WORD) (λ o k. k) facts.apart in
      let l = leads in
      record {
        values = moved_values keeps c marked (HasClass objects) has x lawful typed got (old_finds mover x.phase refl old typed.phase);
        monitors = l.monitors;
        element = l.element;
        made = l.made;
      }

  old_kept : IsOldPhase x.phase → HeapFacts c (objects_by c.program x.phase objects) state
  old_kept old =
      subst (λ os. HeapFacts c os state) (sym (objects_old c.program x.phase objects old))
      (assembled (record { before = mover.state; later = objects; t = t; after = after; y = now; behind = old_behind old; became = old_became old }))

  -- ---- where one is

  module _ (a word : ℕ) (made : x.phase ≡ phases.Made a word) where
    abbrev maker : Maker
    maker = record { mover = mover; a = a; word = word; made = made }

    abbrev later : List Object
    later = new_object a word (size_by c.program word) ∷ objects

    behind : Behind c objects later s t (slice_set s.words (header_word a) word)
    behind = behind_new lies maker

    up : (class v : ℕ) → HasClass objects class v → HasClass later class v
    up class v k = let b = behind in (k.0, b.up k.0 k.1, k.2, k.3)

    new_became : Became c later s after now
    new_became =
        let b = behind in
        let values = thread_up (HasClass objects) (HasClass later) up c x (facts.typed.threads t x there) in
        let finds = subst (λ phase. PhaseFinds c (HasClass later) phase x.frames got) (sym made) (class_new lies maker) in
        let l = leads in
        record {
          values = moved_values keeps c marked (HasClass later) (has_objects mover.state later (slice_index s.words NEXT_FREE_WORD) b.up b.apart) x lawful values got finds;
          monitors = monitors_up (HasClass objects) (HasClass later) up now l.monitors;
          element = λ w stored e. element_up objects later b.up stored now.frames (l.element w stored e);
          made = l.made;
        }

    new_kept : HeapFacts c (objects_by c.program x.phase objects) state
    new_kept =
        let words : after ≡ slice_set s.words (header_word a) word = ap (λ phase. words_after s.words (wanted c x phase)) made in
        subst (λ os. HeapFacts c os state) (sym (ap (λ phase. objects_by c.program phase objects) made))
        (assembled (record { before = mover.state; later = later; t = t; after = after; y = now; behind = subst (Behind c objects later s t) (sym words) behind; became = new_became }))

  thread_kept : HeapFacts c (objects_by c.program x.phase objects) state
  thread_kept = elim (new_or_old x.phase) [ inl old ↦ old_kept old | inr k ↦ new_kept k.0 k.1 k.2 ]

pub events_keep : StructureIsKept → StartLiesApart → EventsKeepHeap
events_keep keeps lies c objects s t marked facts lawful = (elim (slice_get s.threads t) as
    (λ (o : Option Thread). slice_get s.threads t ≡ o → HeapFacts c (objects_of c.program o objects) (event_of c s t o))
    [ None ↦ λ e. facts | Some x ↦ λ e. thread_kept keeps lies (heap_mover c marked objects s facts t x e (lawful x e)) ]) refl

-- ---- the begin of a part

-- where a part begins there is no frame
no_frame : (c : MarkedProgram) (was : Phase) (y : Thread) → IsStructured c was y → StartsOrEnded y.phase → (is : Classes) → PhaseHolds c is y.phase y.frames
no_frame c was y k fresh is = by_phase y.phase k.is_as fresh
  where
    nothing : (fs : List Frame) → fs ≡ [] → FramesHold c is fs
    nothing fs e = subst (FramesHold c is) (sym e) tt

    shown : (phase : Phase) → was ≡ phase → PhaseShows c phase y.frames k.stands.shown y.held y.attempt
    shown phase e = subst (λ z. PhaseShows c z y.frames k.stands.shown y.held y.attempt) e k.stands.phase_shows

    by_phase : (phase : Phase) → IsAs phase was → StartsOrEnded phase → PhaseHolds c is phase y.frames
    by_phase phases.Start e fresh = nothing y.frames (shown phases.Start e)
    by_phase (phases.Ended ends.Returned) e fresh = nothing y.frames (shown (phases.Ended ends.Returned) e)
    by_phase phase e fresh = absurd fresh

no_wait : (is : Classes) (phase : Phase) → StartsOrEnded phase → IsWaitOn is phase
no_wait is phases.Start fresh = tt
no_wait is (phases.Ended ends.Returned) fresh = tt
no_wait is phase fresh = absurd fresh

pub next_keeps : NextKeepsHeap
next_keeps c objects was s facts structure = record {
  started = facts.started;
  apart = facts.apart;
  unused = record { many = facts.unused.many; empty = facts.unused.empty };
  begins = facts.begins;
  typed = record {
    threads = λ u y e. let b = before u y e in values u y b.0 e b.1 b.2;
    elements = λ u y word stored e m. let b = before u y e in element u y b.0 word stored b.1 b.2 m;
    places = facts.typed.places;
  };
  new_objects = record {
    each = new_object_kept;
    apart = λ t u x y a b word other e f n m l.
        let i = before t x e in
        let j = before u y f in
        facts.new_objects.apart t u i.0 j.0 a b word other i.1 j.1 n (made_before i.0 x a word i.2 m) (made_before j.0 y b other j.2 l);
  };
  headers = facts.headers;
  new_headers = λ u y a word e m. let b = before u y e in facts.new_headers u b.0 a word b.1 (made_before b.0 y a word b.2 m);
  monitors = λ u y e. let b = before u y e in monitors u y b.0 b.1 b.2;
}
  where
    before : (u : ℕ) (y : Thread) → slice_get (next c s).threads u ≡ Some y → (z : Thread) × (slice_get s.threads u ≡ Some z) × Begins z y
    before u y e = begun c.program s.threads u y e

    made_before : (z y : Thread) (a word : ℕ) → Begins z y → y.phase ≡ phases.Made a word → z.phase ≡ phases.Made a word
    made_before z y a word k m = ⊎_elim (λ (e : y.phase ≡ z.phase). sym e ∙ m) (λ (fresh : StartsOrEnded y.phase). absurd (subst StartsOrEnded m fresh)) k.phase

    values : (u : ℕ) (y z : Thread) → slice_get (next c s).threads u ≡ Some y → slice_get s.threads u ≡ Some z → Begins z y → ThreadHolds c (HasClass objects) y
    values u y z e g k =
        let typed = facts.typed.threads u z g in
        record {
          phase = ⊎_elim
              (λ (same : y.phase ≡ z.phase). let typed = facts.typed.threads u z g in subst (λ phase. PhaseHolds c (HasClass objects) phase y.frames) (sym same) (subst (PhaseHolds c (HasClass objects) z.phase) (sym k.frames) typed.phase))
              (λ (fresh : StartsOrEnded y.phase). no_frame c (was u) y (structure u y e) fresh (HasClass objects)) k.phase;
          attempt = subst (λ attempt. AttemptHolds c (HasClass objects) y.frames attempt) (sym k.attempt) (subst (λ fs. AttemptHolds c (HasClass objects) fs z.attempt) (sym k.frames) typed.attempt);
        }

    element : (u : ℕ) (y z : Thread) (word : ℕ) (stored : Option ℕ) → slice_get s.threads u ≡ Some z → Begins z y → y.phase ≡ phases.Element word stored → HasElementIn objects stored y.frames
    element u y z word stored g k m = ⊎_elim
        (λ (same : y.phase ≡ z.phase). subst (HasElementIn objects stored) (sym k.frames) (facts.typed.elements u z word stored g (sym same ∙ m)))
        (λ (fresh : StartsOrEnded y.phase). absurd (subst StartsOrEnded m fresh)) k.phase

    monitors : (u : ℕ) (y z : Thread) → slice_get s.threads u ≡ Some z → Begins z y → HoldsObjects (HasClass objects) y
    monitors u y z g k = record {
      held = subst (AllHeld (HasClass objects)) (sym k.held) (facts.monitors u z g).held;
      waits = ⊎_elim
          (λ (same : y.phase ≡ z.phase). let m = facts.monitors u z g in subst (IsWaitOn (HasClass objects)) (sym same) m.waits)
          (λ (fresh : StartsOrEnded y.phase). no_wait (HasClass objects) y.phase fresh) k.phase;
    }

    new_object_kept : (u : ℕ) (y : Thread) (a word : ℕ) → slice_get (next c s).threads u ≡ Some y → y.phase ≡ phases.Made a word → IsNewObject c.program objects (next c s) a (size_by c.program word)
    new_object_kept u y a word e m =
        let b = before u y e in
        let k = facts.new_objects.each u b.0 a word b.1 (made_before b.0 y a word b.2 m) in
        record { begins = k.begins; below = k.below; inside = k.inside; beside = k.beside; empty = k.empty }
