-- The state that an event leads to stands beside a plain state, where the event changes one thread and words of which the plain
-- machine knows nothing.
use Rattle.std.proofs.Common.{◌≡◌, ℕ, List, [], ◌∷◌, Some, refl, sym, ◌∙◌, subst, slice_index, slice_set}
use Rattle.jvm_types.specs.declared.fixed_words.TheConstants.{NEXT_FREE_WORD, NEXT_TICKET_WORD}
use Rattle.machine_types.specs.{Agreement.{has_wait_bit, ThreadFits}, Core.Core, History.steps_of, Owners.references_of, PlainMemory.Object}
use Rattle.machine_types.specs.{PlainState.{Plain, PlainThread, Holding, value_at}, PlainSteps.plain_run, Threads.Thread, declared.{phase.Phase.Phase, plain.Act.Act}}
use Rattle.machine_types.proofs.Lists.{set_as_it_is}
use Rattle.laws_states.proofs.Phases.{IsOldPhase}
use Rattle.laws_simulation.{specs.StandsBeside.{StandsBeside, IsBeingMade, ends_shown}, proofs.{Assembled.moved_beside, HoldingsAlike.HoldAlike, OwnThread.{Moving, not_ended}, Turns.Turn}}
use Rattle.laws_simulation.proofs.WaitBits.{fits_by, new_lock, same_wait_bit_in}
use Rattle.machine_types.specs.declared.phase.Phase.TheVariants as phases

-- ---- words in which all stands that the plain machine has

pub record WordsStay (objects : List Object) (s : Core) (q : Plain) (words : List ℕ) : Type 0 where
  pub places : (a v : ℕ) → value_at q a ≡ Some v → slice_index words a ≡ slice_index s.words a
  pub free : slice_index words NEXT_FREE_WORD ≡ slice_index s.words NEXT_FREE_WORD
  pub tickets : slice_index words NEXT_TICKET_WORD ≡ slice_index s.words NEXT_TICKET_WORD
  -- the lock word of an object that is being made
  pub new : (m : ℕ) → IsBeingMade s.threads m → slice_index words m ≡ slice_index s.words m
  pub bits : (u m : ℕ) → has_wait_bit (references_of objects) words u m ≡ has_wait_bit (references_of objects) s.words u m

pub words_stay : (objects : List Object) (s : Core) (q : Plain) → WordsStay objects s q s.words
words_stay objects s q = record { places = λ a v e. refl; free = refl; tickets = refl; new = λ m k. refl; bits = λ u m. refl }

pub never_made : (phase : Phase) (a word : ℕ) → IsOldPhase phase → phase ≡ phases.Made a word → ⊥
never_made phase a word old e = subst IsOldPhase e old

-- ---- thread t, which was x and z, becomes y and w

module _ {turn : Turn} (k : Moving turn) where
  open turn use {c, objects, s, t, x, q, beside}

  pub record Lands (words : List ℕ) (y : Thread) (later : List Holding) (w : PlainThread) : Type 0 where
    pub stay : WordsStay objects s q words
    pub holds : HoldAlike later (slice_set s.threads t y)
    pub fits : ThreadFits c.program (has_wait_bit (references_of q.objects) s.words t) y y.attempt w
    pub ended : w.ended ≡ ends_shown c.program y.part y.phase
    pub now : IsOldPhase y.phase
    pub part : y.part ≡ x.part

  module _ (words : List ℕ) (y : Thread) (later : List Holding) (w : PlainThread)
      (on : Lands words y later w) where
    bits_same : (u m : ℕ) → has_wait_bit (references_of q.objects) words u m ≡ has_wait_bit (references_of q.objects) s.words u m
    bits_same u m =
        same_wait_bit_in objects s.threads words q beside.known beside.others (λ a h. on.stay.new a h ∙ new_lock c.program objects s turn.facts.heap.new_objects a h) u m
        ∙ on.stay.bits u m
        ∙ sym (same_wait_bit_in objects s.threads s.words q beside.known beside.others (new_lock c.program objects s turn.facts.heap.new_objects) u m)

    pub lands : StandsBeside c.program objects (record { words = words; threads = slice_set s.threads t y }) (record q { holdings = later; threads = slice_set q.threads t w })
    lands = moved_beside turn.member words y later w q.prints (record {
      fits = fits_by c.program (has_wait_bit (references_of q.objects) s.words t) (has_wait_bit (references_of q.objects) words t) y y.attempt w (bits_same t) on.fits;
      ended = on.ended;
      places = on.stay.places;
      next = on.stay.free;
      printed = on.stay.tickets ∙ beside.agrees.prints;
      bits = λ u m d. bits_same u m;
      alike = on.holds;
      old = λ a word e. never_made x.phase a word k.old e;
      new = λ a word e. never_made y.phase a word on.now e;
      part = on.part;
      rests = λ e. absurd (not_ended x.phase k.busy e);
    })

  -- ---- the event, with the acts that it stands for

  pub record Makes (acts : List Act) (words : List ℕ) (y : Thread) : Type 0 where
    pub after : Plain
    pub run : plain_run c.program q (steps_of t acts) ≡ Some after
    pub beside_it : StandsBeside c.program objects (record { words = words; threads = slice_set s.threads t y }) after

  -- no plain step
  pub stays : (words : List ℕ) (y : Thread) → Lands words y q.holdings k.z → Makes [] words y
  stays words y on =
      let same : record q { holdings = q.holdings; threads = slice_set q.threads t k.z } ≡ q = λ i. record q { threads = set_as_it_is q.threads t k.z k.twin i } in
      record { after = q; run = refl; beside_it = subst (λ (r : Plain). StandsBeside c.program objects (record { words = words; threads = slice_set s.threads t y }) r) same (lands words y q.holdings k.z on) }

  -- one
  pub steps : (act : Act) (words : List ℕ) (y : Thread) (later : List Holding) (w : PlainThread) → plain_run c.program q (steps_of t (act ∷ [])) ≡ Some (record q { holdings = later; threads = slice_set q.threads t w }) → Lands words y later w
      → Makes (act ∷ []) words y
  steps act words y later w run on = record { after = record q { holdings = later; threads = slice_set q.threads t w }; run = run; beside_it = lands words y later w on }
