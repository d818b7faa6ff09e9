-- A thread in no attempt that is about to move, in a reached state, beside the plain thread that it stands for; and what stands
-- beside when it has moved, and wrote at most a word of a monitor record.
use Rattle.std.proofs.Common.{◌≡◌, ◌≢◌, ℕ, ◌<◌, ◌≤◌, Bool, true, false, cond, List, ◌∷◌, length, Option, Some, None, refl, sym, ap, ◌∙◌, subst, arith, slice_get, slice_index, slice_set, option_and_then}
use Rattle.jvm_types.specs.{Numbers.has_number, declared.{fixed_words.TheConstants.{NEXT_FREE_WORD, NEXT_TICKET_WORD, FIRST_RECORD_WORD, FIRST_READY_WORD}, program.Program.Program}}
use Rattle.machine_types.specs.{Accesses.{found_by, words_after}, Agreement.{has_wait_bit, StatusFits, OutsideFits, ThreadFits, frames_shown, roots_shown}, Core.{Core, accessed_by}}
use Rattle.machine_types.specs.{Events.{wanted, moved}, History.{acts_of, steps_of}, LockWords.lock_of, Owners.{lock_at, references_of}, PlainState.{Status, Plain, PlainThread, Holding}}
use Rattle.machine_types.specs.{PlainSteps.{step_at, step_of, plain_run}, Structure.IsAs, Threads.{Attempt, Thread}, declared.{phase.Phase.Phase, plain.Act.Act}}
use Rattle.laws_states.{specs.{HeapFacts.objects_by, Sites.HasObject}, proofs.{Lists.{set_there, contained_got}, WordViews.has_object}}
use Rattle.laws_simulation.{specs.{StandsBeside.{StandsBeside, ends_shown}, StepsBeside.StepsBeside}, proofs.{Assembled.{IsLater, stands_beside, steps_beside}, HoldingsAlike.HoldAlike}}
use Rattle.laws_simulation.proofs.{OwnThread.own, PlainPlaces.place_low, Turns.Turn, WaitBits.same_lock}
use Rattle.jvm_types.specs.declared.outcome.End.TheVariants as ends
use Rattle.machine_types.specs.declared.lock.LockWord.TheVariants as locks
use Rattle.machine_types.specs.declared.phase.Phase.TheVariants as phases

-- ---- words

-- where at most words of monitor records were written
pub record AreRecordsWritten (words later : List ℕ) : Type 0 where
  pub counters : (i : ℕ) → i < FIRST_RECORD_WORD → slice_index later i ≡ slice_index words i
  pub places : (i : ℕ) → FIRST_READY_WORD ≤ i → slice_index later i ≡ slice_index words i

pub same_words : (words : List ℕ) → AreRecordsWritten words words
same_words words = record { counters = λ i h. refl; places = λ i h. refl }

pub record_written : (words : List ℕ) (w v : ℕ) → FIRST_RECORD_WORD ≤ w → w < FIRST_READY_WORD → AreRecordsWritten words (slice_set words w v)
record_written words w v l h = record {
  counters = λ i k. set_there words w i v (λ e. absurd (omega (arith, l, h, k, e)));
  places = λ i k. set_there words w i v (λ e. absurd (omega (arith, l, h, k, e)));
}

-- ---- before

pub record Moment (turn : Turn) (phase : Phase) : Type 0 where
  pub phase_is : turn.x.phase ≡ phase

-- ---- a run of the plain machine begins with a step

pub first_step : (p : Program) (q r : Plain) (t : ℕ) (y : PlainThread) (act : Act) (acts : List Act) (status : Status) → slice_get q.threads t ≡ Some y → y.status ≡ status → step_at p q t y act status ≡ Some r
    → plain_run p q (steps_of t (act ∷ acts)) ≡ plain_run p r (steps_of t acts)
first_step p q r t y act acts status g w e =
    ap (λ (o : Option PlainThread). option_and_then (λ (z : Plain). plain_run p z (steps_of t acts)) (step_of p q t act o)) g
    ∙ ap (λ (k : Status). option_and_then (λ (z : Plain). plain_run p z (steps_of t acts)) (step_at p q t y act k)) w
    ∙ ap (option_and_then (λ (z : Plain). plain_run p z (steps_of t acts))) e

-- ---- what stands beside when the thread has moved

module _ {turn : Turn} {phase : Phase} (k : Moment turn phase) where
  open turn use {c, objects, was, s, t, x, q}
  open own turn use {plain as y}

  -- ---- what is known of the thread

  pub own_status : StatusFits (has_wait_bit (references_of q.objects) s.words t) x phase y.status
  own_status = subst (λ (f : Phase). StatusFits (has_wait_bit (references_of q.objects) s.words t) x f y.status) k.phase_is (own turn).fits.status

  pub own_frames : y.frames ≡ frames_shown phase x.frames
  own_frames = (own turn).fits.frames ∙ ap (λ (f : Phase). frames_shown f x.frames) k.phase_is

  pub own_roots : y.roots ≡ roots_shown c.program x.part phase x.roots
  own_roots = (own turn).fits.roots ∙ ap (λ (f : Phase). roots_shown c.program x.part f x.roots) k.phase_is

  pub own_ends : y.ended ≡ ends_shown c.program x.part phase
  own_ends = (own turn).ended ∙ ap (λ (f : Phase). ends_shown c.program x.part f) k.phase_is

  pub own_number : x.number ≡ t
  own_number = (turn.facts.threads.own t x turn.here).number

  pub own_as : IsAs phase (was t)
  own_as = subst (λ (f : Phase). IsAs f (was t)) k.phase_is (turn.facts.structure t x turn.here).is_as

  pub lock_same : (m : ℕ) → lock_at (references_of q.objects) s.words m ≡ lock_at (references_of objects) s.words m
  lock_same m = same_lock c.program objects s q turn.beside.known turn.beside.others turn.facts.heap.new_objects m

  pub holdings_alike : HoldAlike q.holdings s.threads
  holdings_alike u m = turn.beside.agrees.monitors u m

  -- ---- the locks stay

  pub lock_kept : (later : List ℕ) → AreRecordsWritten s.words later → (m : ℕ) → lock_at (references_of q.objects) later m ≡ lock_at (references_of q.objects) s.words m
  lock_kept later w m = by_test (has_number (references_of q.objects) m) refl
    where
      high : HasObject q.objects m → FIRST_READY_WORD ≤ m
      high h = let low : FIRST_READY_WORD ≤ h.0.reference = turn.beside.apart.begin h.1.0 h.0 (contained_got q.objects h.0 h.1) in subst (λ (i : ℕ). FIRST_READY_WORD ≤ i) h.2 low

      by_test : (b : Bool) → has_number (references_of q.objects) m ≡ b → cond b (lock_of (slice_index later m)) (locks.Free 0) ≡ cond b (lock_of (slice_index s.words m)) (locks.Free 0)
      by_test true e = ap lock_of (w.places m (high (has_object q.objects m e)))
      by_test false e = refl

  -- ---- the whole

  -- the thread has become x2 and its plain one y2, and these are the words, the holdings and the plain threads
  pub record Becomes (later : List ℕ) (x2 : Thread) (y2 : PlainThread) (holdings : List Holding) (threads : List PlainThread) : Type 0 where
    pub written : AreRecordsWritten s.words later
    pub old : (a word : ℕ) → phase ≢ phases.Made a word
    pub new : (a word : ℕ) → x2.phase ≢ phases.Made a word
    pub part : x2.part ≡ x.part
    pub rests : phase ≡ phases.Ended ends.Returned → x2.phase ≡ phases.Ended ends.Returned
    pub free : x2.attempt ≡ None
    pub fits : OutsideFits c.program (has_wait_bit (references_of q.objects) later t) x2 y2
    pub ended : y2.ended ≡ ends_shown c.program x2.part x2.phase
    pub alike : HoldAlike holdings (slice_set s.threads t x2)
    pub many : length threads ≡ length q.threads
    pub own : slice_get threads t ≡ Some y2
    pub others : (u : ℕ) (z : Thread) (w : PlainThread) → u ≢ t → slice_get s.threads u ≡ Some z → slice_get q.threads u ≡ Some w → IsLater c.program q later threads u z w

  pub moved_beside : (later : List ℕ) (x2 : Thread) (y2 : PlainThread) (holdings : List Holding) (threads : List PlainThread) → Becomes later x2 y2 holdings threads
      → StandsBeside c.program objects (record { words = later; threads = slice_set s.threads t x2 }) (record q { holdings = holdings; threads = threads })
  moved_beside later x2 y2 holdings threads b = stands_beside turn.member later x2 y2 holdings threads q.prints (record {
    fitting = record {
      many = b.many;
      own = b.own;
      fits = subst (λ (a : Option Attempt). ThreadFits c.program (has_wait_bit (references_of q.objects) later t) x2 a y2) (sym b.free) b.fits;
      ended = b.ended;
      others = b.others;
      part = b.part;
      rests = λ e. b.rests (sym k.phase_is ∙ e);
    };
    places = λ i v e. b.written.places i (place_low c.program q turn.beside.apart i v e).0;
    next = b.written.counters NEXT_FREE_WORD (omega arith);
    printed = b.written.counters NEXT_TICKET_WORD (omega arith) ∙ turn.beside.agrees.prints;
    alike = b.alike;
    old = λ a word e. b.old a word (sym k.phase_is ∙ e);
    new = b.new;
  })

  -- ---- the steps

  pub stepped : (later : List ℕ) (x2 : Thread) (acts : List Act) (behind : Plain) → objects_by c.program phase objects ≡ objects → acts_of c x phase (found_by s.words (wanted c x phase)) ≡ acts
      → words_after s.words (wanted c x phase) ≡ later → moved c x phase (found_by s.words (wanted c x phase)) ≡ x2 → plain_run c.program q (steps_of t acts) ≡ Some behind
      → StandsBeside c.program objects (record { words = later; threads = slice_set s.threads t x2 }) behind → StepsBeside c objects s t x q
  stepped later x2 acts behind none ea ew em run beside =
      let state_is : accessed_by s t (wanted c x x.phase) (moved c x x.phase (found_by s.words (wanted c x x.phase))) ≡ record { words = later; threads = slice_set s.threads t x2 } =
      ap (λ (f : Phase). accessed_by s t (wanted c x f) (moved c x f (found_by s.words (wanted c x f)))) k.phase_is ∙ λ i. record { words = ew i; threads = slice_set s.threads t (em i) } in
      steps_beside turn behind (ap (λ (f : Phase). objects_by c.program f objects) k.phase_is ∙ none)
      (ap (λ (f : Phase). plain_run c.program q (steps_of t (acts_of c x f (found_by s.words (wanted c x f))))) k.phase_is ∙ ap (λ (l : List Act). plain_run c.program q (steps_of t l)) ea ∙ run)
      (subst (λ (r : Core). StandsBeside c.program objects r behind) (sym state_is) beside)
