-- A state whose thread t has moved stands beside a plain state whose thread t has, where objects and static fields stay as
-- they are.
use Rattle.std.proofs.Common.{◌≡◌, ◌≢◌, inl, inr, ℕ, zero, suc, ◌≤◌, List, [], ◌∷◌, length, Option, Some, refl, sym, ap, ◌∙◌, subst, arith, slice_get, slice_index, slice_set, map, None, option_map, option_and_then}
use Rattle.std.proofs.lemmas.{List.length-set, Option.slice_get-map}
use Rattle.lists.proofs.ListLaws.{same_some}
use Rattle.jvm_types.specs.declared.{fixed_words.TheConstants.{NEXT_FREE_WORD, NEXT_TICKET_WORD}, program.Program.Program}
use Rattle.machine_types.specs.{Accesses.{found_by, words_after}, Agreement.{ThreadFits, has_wait_bit}, Core.{Core, event, event_of}, Events.{wanted, moved}}
use Rattle.machine_types.specs.{History.{acts_of, steps_of}, Owners.references_of, Parts.done_roots, PlainMemory.Object}
use Rattle.machine_types.specs.{PlainState.{Plain, PlainThread, Holding, Printed, value_at}, PlainSteps.{step_at, step_of, plain_run}, Threads.{Thread}, declared.plain.Act.Act}
use Rattle.machine_types.proofs.Lists.{got_when_set, got_other, got_below}
use Rattle.laws_states.{specs.HeapFacts.{objects_by, objects_of}, proofs.{Assembled.got_set}}
use Rattle.laws_simulation.specs.{StandsBeside.{StandsBeside, ends_shown}, StepsBeside.StepsBeside}
use Rattle.laws_simulation.proofs.{AssembledObjects.{MakesNone, made_by_others, making_on, new_again, pending_on}, HoldingsAlike.HoldAlike, Turns.{Member, Turn}, WaitBits.fits_by}
use Rattle.jvm_types.specs.declared.outcome.End.TheVariants as ends
use Rattle.machine_types.specs.declared.phase.Phase.TheVariants as phases

-- ---- lists

pub got_same_length : {A B : Type 0} (xs : List A) (ys : List B) (i : ℕ) (x : A) → length ys ≡ length xs → slice_get xs i ≡ Some x → (y : B) × (slice_get ys i ≡ Some y)
got_same_length xs [] i x e g = absurd (omega (arith, e, got_below xs i x g))
got_same_length [] (y ∷ ys) i x e g = absurd (omega (arith, e))
got_same_length (x ∷ xs) (y ∷ ys) zero z e g = (y, refl)
got_same_length (x ∷ xs) (y ∷ ys) (suc i) z e g = got_same_length xs ys i z (omega (arith, e)) g

-- lists that are the same by f
pub mapped_from : {A B : Type 0} (f : A → B) (xs ys : List A) → map f ys ≡ map f xs → (i : ℕ) (y : A) → slice_get ys i ≡ Some y → (x : A) × (slice_get xs i ≡ Some x) × (f y ≡ f x)
mapped_from {A} f xs ys same i y g = (elim (slice_get xs i) as (λ (o : Option A). slice_get xs i ≡ o → option_map f o ≡ Some (f y) → (x : A) × (slice_get xs i ≡ Some x) × (f y ≡ f x))
    [ None ↦ λ e h. absurd (cc) | Some x ↦ λ e h. (x, e, sym (same_some h)) ]) refl (sym (slice_get-map f xs i) ∙ ap (λ zs. slice_get zs i) (sym same) ∙ slice_get-map f ys i ∙ ap (option_map f) g)

-- ---- what is asked of all threads

-- thread u of the plain state, which was w, fits the words that were left
pub record IsLater (p : Program) (q : Plain) (words : List ℕ) (plains : List PlainThread) (u : ℕ) (z : Thread) (w : PlainThread) : Type 0 where
  pub now : PlainThread
  pub twin : slice_get plains u ≡ Some now
  pub fits : ThreadFits p (has_wait_bit (references_of q.objects) words u) z z.attempt now
  pub ends : now.ended ≡ w.ended

module _ (member : Member) where
  open member use {c, objects, s, q, t, x as was, beside, here}

  -- the thread has become x and its plain one y, and each other fits the words
  pub record Fitting (base : Plain) (words : List ℕ) (x : Thread) (y : PlainThread) (plains : List PlainThread) : Type 0 where
    pub many : length plains ≡ length q.threads
    pub own : slice_get plains t ≡ Some y
    pub fits : ThreadFits c.program (has_wait_bit (references_of base.objects) words t) x x.attempt y
    pub ended : y.ended ≡ ends_shown c.program x.part x.phase
    pub others : (u : ℕ) (z : Thread) (w : PlainThread) → u ≢ t → slice_get s.threads u ≡ Some z → slice_get q.threads u ≡ Some w → IsLater c.program base words plains u z w
    -- it has its part, and rests if it did
    pub part : x.part ≡ was.part
    pub rests : was.phase ≡ phases.Ended ends.Returned → x.phase ≡ phases.Ended ends.Returned

  module _ {base : Plain} {words : List ℕ} {x : Thread} {y : PlainThread} {plains : List PlainThread} (k : Fitting base words x y plains) where
    abbrev Both : ℕ → Thread → PlainThread → Type 0
    Both u z w = ThreadFits c.program (has_wait_bit (references_of base.objects) words u) z z.attempt w × (w.ended ≡ ends_shown c.program z.part z.phase)

    pub each_fits : (u : ℕ) (z : Thread) (w : PlainThread) → slice_get (slice_set s.threads t x) u ≡ Some z → slice_get plains u ≡ Some w → Both u z w
    each_fits u z w g h = elim (got_set s.threads t u x z g) [
      | inl e ↦
          let at : slice_get plains t ≡ Some w = subst (λ (i : ℕ). slice_get plains i ≡ Some w) e.0 h in
          let own : slice_get plains t ≡ Some y = k.own in
          let same : w ≡ y = cc in
          let one : Both t z w = subst (λ (v : Thread). Both t v w) (sym e.1) (subst (λ (v : PlainThread). Both t x v) (sym same) (k.fits, k.ended)) in
          subst (λ (i : ℕ). Both i z w) (sym e.0) one
      | inr e ↦
          let first = got_same_length plains q.threads u w (sym k.many) h in
          let l : IsLater c.program base words plains u z first.0 = k.others u z first.0 e.0 e.1 first.1 in
          let there : slice_get plains u ≡ Some l.now = l.twin in
          let same : l.now ≡ w = cc in
          subst (λ (v : PlainThread). Both u z v) same (l.fits, l.ends ∙ beside.ends u z first.0 e.1 first.1)
    ]

    pub all_rest : (z : Thread) → slice_get (slice_set s.threads t x) 0 ≡ Some z → 2 ≤ z.part → done_roots c.program ≡ [] → z.phase ≡ phases.Ended ends.Returned
    all_rest z e two none = elim (got_set s.threads t 0 x z e) [
      | inl h ↦
          ap (λ (w : Thread). w.phase) h.1
          ∙ k.rests (beside.done was (ap (slice_get s.threads) h.0 ∙ here) (subst (λ (n : ℕ). 2 ≤ n) (ap (λ (w : Thread). w.part) h.1 ∙ k.part) two) none)
      | inr h ↦ beside.done z h.1 two none
    ]

  -- where the memory that the plain machine knows is as it was
  pub record Assembled (words : List ℕ) (x : Thread) (y : PlainThread) (holdings : List Holding) (plains : List PlainThread) (prints : List Printed) : Type 0 where
    pub fitting : Fitting q words x y plains
    pub places : (n v : ℕ) → value_at q n ≡ Some v → slice_index words n ≡ slice_index s.words n
    pub next : slice_index words NEXT_FREE_WORD ≡ slice_index s.words NEXT_FREE_WORD
    pub printed : slice_index words NEXT_TICKET_WORD ≡ length prints
    pub alike : HoldAlike holdings (slice_set s.threads t x)
    -- it has made no object, and makes none
    pub old : MakesNone was.phase
    pub new : MakesNone x.phase

  pub stands_beside : (words : List ℕ) (x : Thread) (y : PlainThread) (holdings : List Holding) (plains : List PlainThread) (prints : List Printed) → Assembled words x y holdings plains prints
      → StandsBeside c.program objects (record { words = words; threads = slice_set s.threads t x }) (record q { holdings = holdings; threads = plains; prints = prints })
  stands_beside words x y holdings plains prints k = record {
    agrees = record {
      places = λ n v e d. k.places n v e ∙ beside.agrees.places n v e (λ h. d (pending_on s.threads t was x here k.old n h));
      next = k.next ∙ beside.agrees.next;
      prints = k.printed;
      monitors = k.alike;
      many = k.fitting.many ∙ beside.agrees.many ∙ sym (length-set s.threads t x);
      threads = λ u z w e f. (each_fits k.fitting u z w e f).0;
    };
    known = beside.known;
    others = λ e there. elim (beside.others e there) [ inl h ↦ inl h | inr h ↦ inr (making_on s.threads t was x here k.old e.reference h) ];
    new_objects = λ u z a word e m. new_again c.program q (record q { holdings = holdings; threads = plains; prints = prints }) a word refl (beside.new_objects u z a word (made_by_others s.threads t was x here k.new u z a word e m) m);
    apart = beside.apart;
    ends = λ u z w e f. (each_fits k.fitting u z w e f).1;
    done = all_rest k.fitting;
  }

  -- where one plain thread has moved, and the waiting bits of the others are as they were
  pub record Moved (words : List ℕ) (x : Thread) (holdings : List Holding) (y : PlainThread) (prints : List Printed) : Type 0 where
    pub fits : ThreadFits c.program (has_wait_bit (references_of q.objects) words t) x x.attempt y
    pub ended : y.ended ≡ ends_shown c.program x.part x.phase
    pub places : (n v : ℕ) → value_at q n ≡ Some v → slice_index words n ≡ slice_index s.words n
    pub next : slice_index words NEXT_FREE_WORD ≡ slice_index s.words NEXT_FREE_WORD
    pub printed : slice_index words NEXT_TICKET_WORD ≡ length prints
    pub bits : (u m : ℕ) → u ≢ t → has_wait_bit (references_of q.objects) words u m ≡ has_wait_bit (references_of q.objects) s.words u m
    pub alike : HoldAlike holdings (slice_set s.threads t x)
    pub old : MakesNone was.phase
    pub new : MakesNone x.phase
    pub part : x.part ≡ was.part
    pub rests : was.phase ≡ phases.Ended ends.Returned → x.phase ≡ phases.Ended ends.Returned

  pub moved_beside : (words : List ℕ) (x : Thread) (holdings : List Holding) (y : PlainThread) (prints : List Printed) → Moved words x holdings y prints
      → StandsBeside c.program objects (record { words = words; threads = slice_set s.threads t x }) (record q { holdings = holdings; threads = slice_set q.threads t y; prints = prints })
  moved_beside words x holdings y prints k =
      let twin = got_same_length s.threads q.threads t was beside.agrees.many here in
      stands_beside words x y holdings (slice_set q.threads t y) prints (record {
        fitting = record {
          many = length-set q.threads t y;
          own = got_when_set q.threads t twin.0 y twin.1;
          fits = k.fits;
          ended = k.ended;
          others = λ u z w d g h. record {
            now = w;
            twin = got_other q.threads t u y d ∙ h;
            fits = fits_by c.program (has_wait_bit (references_of q.objects) s.words u) (has_wait_bit (references_of q.objects) words u) z z.attempt w (λ m. k.bits u m d) (beside.agrees.threads u z w g h);
            ends = refl;
          };
          part = k.part;
          rests = k.rests;
        };
        places = k.places;
        next = k.next;
        printed = k.printed;
        alike = k.alike;
        old = k.old;
        new = k.new;
      })

-- ---- the steps of an event

pub one_step : (p : Program) (q after : Plain) (t : ℕ) (y : PlainThread) (act : Act) → slice_get q.threads t ≡ Some y → step_at p q t y act y.status ≡ Some after → plain_run p q (steps_of t (act ∷ [])) ≡ Some after
one_step p q after t y act e f = ap (λ (o : Option PlainThread). option_and_then (λ r. plain_run p r []) (step_of p q t act o)) e ∙ ap (λ (o : Option Plain). option_and_then (λ r. plain_run p r []) o) f

-- an event that stores no header
module _ (turn : Turn) (after : Plain) where
  open turn use {c, objects, s, t, x, q, here}

  pub steps_beside : objects_by c.program x.phase objects ≡ objects → plain_run c.program q (steps_of t (acts_of c x x.phase (found_by s.words (wanted c x x.phase)))) ≡ Some after
      → StandsBeside c.program objects (record { words = words_after s.words (wanted c x x.phase); threads = slice_set s.threads t (moved c x x.phase (found_by s.words (wanted c x x.phase))) }) after
      → StepsBeside c objects s t x q
  steps_beside old run beside = record {
    after = after;
    run = run;
    beside = subst (λ (os : List Object). StandsBeside c.program os (event c s t) after) (sym (ap (λ (o : Option Thread). objects_of c.program o objects) here ∙ old))
        (subst (λ (r : Core). StandsBeside c.program objects r after) (sym (ap (event_of c s t) here)) beside);
  }
