-- An event of a thread that is in no attempt, and what its state and the plain state share: the thread goes on as its plain
-- thread does, whatever becomes of the memory.
use Rattle.std.proofs.Common.{◌≡◌, ◌⊎◌, ℕ, Bool, true, false, List, length, Option, Some, None, refl, sym, ap, subst, ◌∙◌, Contains, slice_get, slice_index, slice_set}
use Rattle.std.proofs.lemmas.List.{length-set, set-get_or}
use Rattle.jvm_types.specs.declared.{fixed_words.TheConstants.{NEXT_FREE_WORD, NEXT_TICKET_WORD}}
use Rattle.checked_program.specs.MarkedProgram.{MarkedProgram}
use Rattle.machine_types.specs.{Accesses.{found_by, words_after}, Agreement.{IsPending, ThreadFits, depth_for, has_wait_bit}, Core.{Core, event, event_of}, Events.{wanted, moved}}
use Rattle.machine_types.specs.{Facts.ArePlainObjects, Going.goes_on, History.{acts_of, steps_of}, ObjectsApart.LieApart, Onward.Onward, Owners.{lock_at, references_of}}
use Rattle.machine_types.specs.{PlainMemory.Object, PlainState.{Plain, PlainThread, Holding, value_at, holding_at, with_thread}, PlainSteps.plain_run, Structure.IsAs}
use Rattle.machine_types.specs.{Threads.{Attempt, Thread}, Waiting.MayWait, declared.{access.Access.{Access, TheVariants.Load}, phase.Phase.Phase, plain.Act.Act}}
use Rattle.machine_types.proofs.Lists.{got_when_set, got_other}
use Rattle.laws_states.{specs.{HeapFacts.{objects_by, objects_of}, SiteLaws.{SitesDiffer, SitesLieInside}}}
use Rattle.laws_simulation.{specs.{StandsBeside.{StandsBeside, IsAmong, IsBeingMade, IsPlainNew}, StepsBeside.{StepsBeside, StepsWhere}}, proofs.{Assembled.{Fitting, all_rest, each_fits}, AssembledObjects.new_again, EventSteps.gone_on, HoldingsAlike.alike_kept}}
use Rattle.laws_simulation.proofs.{GoingOnAlike.{IsAwake, IsUnderWay, OwnFits, going_alike}, OwnThread.own, Turns.{StepsOf, Turn, by_turn}, WaitBits.{fits_by, same_lock}, WaitersHaveBits.bit_in}
use Rattle.jvm_types.specs.declared.outcome.End.TheVariants as ends
use Rattle.machine_types.specs.PlainState as plain
use Rattle.machine_types.specs.declared.lock.LockWord.TheVariants as locks
use Rattle.machine_types.specs.declared.phase.Phase.TheVariants as phases

-- a turn, with the laws that no two sites share a word, and that each lies among the words
pub record Scene : Type 0 where
  pub turn : Turn
  pub open turn use *
  pub differ : SitesDiffer
  pub inside : SitesLieInside

pub by_scene : (Holds : MarkedProgram → Thread → Type 0) → SitesDiffer → SitesLieInside
    → ((scene : Scene) → Holds scene.c scene.x → StepsOf scene.turn) → StepsWhere Holds
by_scene Holds differ inside steps = by_turn Holds
    (λ turn holds. steps (record { turn = turn; differ = differ; inside = inside }) holds)

module _ (turn : Turn) where
  open turn use {c, objects, was, s, t, x, q, facts, beside, here}

  -- ---- a thread that doesn't wait has no bit set

  pub awake : (phase : Phase) → was t ≡ phase → ((r : ℕ) → MayWait phase r → ⊥)
      → IsAwake (has_wait_bit (references_of q.objects) s.words t)
  awake phase e none m = (elim (has_wait_bit (references_of q.objects) s.words t m) as (λ (b : Bool). has_wait_bit (references_of q.objects) s.words t m ≡ b → b ≡ false) [
    | true ↦ λ f.
        let k = bit_in (references_of q.objects) s.words t m f in
        let fat : lock_at (references_of objects) s.words m ≡ locks.Fat k.r = sym (same_lock c.program objects s q beside.known beside.others facts.heap.new_objects m) ∙ k.fat in
        let waits = facts.waiting.each t x here in
        absurd (none k.r (subst (λ (z : Phase). MayWait z k.r) e (waits.only k.r (facts.owners.locks_are.below m k.r fat).1 k.set)))
    | false ↦ λ f. refl
  ]) refl

  -- the phase that counts of a thread that no limit ended
  pub counts_as : (phase : Phase) → x.phase ≡ phase → IsAs phase (was t)
  counts_as phase e = let k = facts.structure t x here in subst (λ (z : Phase). IsAs z (was t)) e k.is_as

  -- ---- it goes on

  pub record GoesOn (new : Thread) (shown : PlainThread) : Type 0 where
    pub held : new.held ≡ x.held
    pub outside : new.attempt ≡ None
    pub part : new.part ≡ x.part
    pub own : OwnFits c.program (has_wait_bit (references_of q.objects) s.words t) new shown

  pub going : (z : Thread) (v : PlainThread) (o : Onward) → z.held ≡ x.held → z.attempt ≡ None → z.part ≡ x.part
      → IsAwake (has_wait_bit (references_of q.objects) s.words t) → IsUnderWay c.program z.part z.roots v
      → GoesOn (goes_on z o) (plain.plain_goes_on v o)
  going z v o held outside part wakes under = record {
    held = (gone_on z o).held ∙ held;
    outside = (gone_on z o).attempt ∙ outside;
    part = (gone_on z o).part ∙ part;
    own = going_alike c.program (has_wait_bit (references_of q.objects) s.words t) wakes z v o under;
  }

  -- ---- what becomes of the memory: base is the plain state but for its thread

  pub record Memory (later : List Object) (words : List ℕ) (base : Plain) (new : Thread) : Type 0 where
    pub base_is : record base { objects = q.objects; statics = q.statics; next = q.next; prints = q.prints } ≡ q
    pub bits : (u m : ℕ) → has_wait_bit (references_of base.objects) words u m ≡ has_wait_bit (references_of q.objects) s.words u m
    pub places : (n v : ℕ) → value_at base n ≡ Some v → (IsPending (slice_set s.threads t new) n → ⊥) → slice_index words n ≡ v
    pub next : slice_index words NEXT_FREE_WORD ≡ base.next
    pub printed : slice_index words NEXT_TICKET_WORD ≡ length base.prints
    pub known : ArePlainObjects later base
    pub others : (e : Object) → Contains base.objects e → IsAmong later e.reference ⊎ IsBeingMade (slice_set s.threads t new) e.reference
    pub new_objects : (u : ℕ) (z : Thread) (a word : ℕ) → slice_get (slice_set s.threads t new) u ≡ Some z → z.phase ≡ phases.Made a word → IsPlainNew c.program base a word
    pub apart : LieApart c.program base.objects base.statics base.next

  -- ---- both together

  module _ (later : List Object) (words : List ℕ) (base : Plain) (new : Thread)
      (shown : PlainThread) (lives : x.phase ≡ phases.Ended ends.Returned → ⊥)
      (goes : GoesOn new shown) (memory : Memory later words base new) where
    abbrev r : Core
    r = record { words = words; threads = slice_set s.threads t new }

    abbrev after : Plain
    after = with_thread base t shown

    plain_threads : after.threads ≡ slice_set q.threads t shown
    plain_threads = ap (λ (r : Plain). slice_set r.threads t shown) memory.base_is

    fitting : Fitting turn.member base words new shown after.threads
    fitting = record {
      many = ap (λ (xs : List PlainThread). length xs) plain_threads ∙ length-set q.threads t shown;
      own = ap (λ (xs : List PlainThread). slice_get xs t) plain_threads ∙ got_when_set q.threads t (own turn).plain shown (own turn).here;
      fits = fits_by c.program (has_wait_bit (references_of q.objects) s.words t) (has_wait_bit (references_of base.objects) words t) new new.attempt shown (memory.bits t)
          (subst (λ (a : Option Attempt). ThreadFits c.program (has_wait_bit (references_of q.objects) s.words t) new a shown) (sym goes.outside) goes.own.outside);
      ended = goes.own.ended;
      others = λ u z w d g h. record {
        now = w;
        twin = ap (λ (xs : List PlainThread). slice_get xs u) plain_threads ∙ got_other q.threads t u shown d ∙ h;
        fits = fits_by c.program (has_wait_bit (references_of q.objects) s.words u) (has_wait_bit (references_of base.objects) words u) z z.attempt w (memory.bits u) (beside.agrees.threads u z w g h);
        ends = refl;
      };
      part = goes.part;
      rests = λ e. absurd (lives e);
    }

    pub comes_beside : StandsBeside c.program later r after
    comes_beside = record {
      agrees = record {
        places = memory.places;
        next = memory.next;
        prints = memory.printed;
        monitors = λ u m. ap (λ (r : Plain). depth_for u (holding_at r.holdings m)) memory.base_is ∙ alike_kept q.holdings s.threads beside.agrees.monitors t x new here goes.held u m;
        many = fitting.many ∙ beside.agrees.many ∙ sym (length-set s.threads t new);
        threads = λ u z w e f. (each_fits turn.member fitting u z w e f).0;
      };
      known = memory.known;
      others = memory.others;
      new_objects = λ u z a word e m. new_again c.program base after a word refl (memory.new_objects u z a word e m);
      apart = memory.apart;
      done = all_rest turn.member fitting;
      ends = λ u z w e f. (each_fits turn.member fitting u z w e f).1;
    }

  -- ---- the steps of an event, by its phase: what it wants, its acts, and what becomes of its thread, of the plain one and of the memory

  pub steps_in : (phase : Phase) → x.phase ≡ phase → (later : List Object) (access : Option Access) (acts : List Act) (base : Plain) (new : Thread) (shown : PlainThread)
      → objects_by c.program phase objects ≡ later → wanted c x phase ≡ access → acts_of c x phase (found_by s.words access) ≡ acts → moved c x phase (found_by s.words access) ≡ new
      → (phase ≡ phases.Ended ends.Returned → ⊥) → plain_run c.program q (steps_of t acts) ≡ Some (with_thread base t shown) → GoesOn new shown → Memory later (words_after s.words access) base new → StepsBeside c objects s t x q
  steps_in phase is later access acts base new shown objects_are wants acts_are moves lives run goes memory = record {
    after = with_thread base t shown;
    run = ap (λ (z : Phase). plain_run c.program q (steps_of t (acts_of c x z (found_by s.words (wanted c x z))))) is
        ∙ (ap (λ (a : Option Access). plain_run c.program q (steps_of t (acts_of c x phase (found_by s.words a)))) wants ∙ (ap (λ (acted : List Act). plain_run c.program q (steps_of t acted)) acts_are ∙ run));
    beside =
        subst (λ (os : List Object). StandsBeside c.program os (event c s t) (with_thread base t shown)) (sym (ap (λ (o : Option Thread). objects_of c.program o objects) here ∙ (ap (λ (z : Phase). objects_by c.program z objects) is ∙ objects_are)))
        (subst (λ (r : Core). StandsBeside c.program later r (with_thread base t shown)) (sym (ap (event_of c s t) here ∙ state_is)) (comes_beside later (words_after s.words access) base new shown (λ e. lives (sym is ∙ e)) goes memory));
  }
    where
      state_is : event_of c s t (Some x) ≡ record { words = words_after s.words access; threads = slice_set s.threads t new }
      state_is =
          ap (λ (z : Phase). record { words = words_after s.words (wanted c x z); threads = slice_set s.threads t (moved c x z (found_by s.words (wanted c x z))) }) is
          ∙ (ap (λ (a : Option Access). record { words = words_after s.words a; threads = slice_set s.threads t (moved c x phase (found_by s.words a)) }) wants
          ∙ ap (λ (z : Thread). record { words = words_after s.words access; threads = slice_set s.threads t z }) moves)

-- ---- an access that only looks

pub looked : (words : List ℕ) (w : ℕ) → words_after words (Some (Load w)) ≡ words
looked words w = set-get_or words w 0
