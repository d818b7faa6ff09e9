-- What stands beside when a thread has moved: where the plain machine made no step, where one of its threads did, and where the
-- thread goes on to its next instruction.
use Rattle.std.proofs.Common.{◌≡◌, ◌≢◌, inl, inr, ℕ, zero, suc, ◌+◌, ◌<◌, nat_lt, Bool, true, false, cond, List, [], ◌∷◌, Option, Some, None, refl, sym, ap, ◌∙◌, subst, arith, slice_get, slice_set}
use Rattle.jvm_types.specs.{Numbers.has_flag, declared.{fixed_words.TheConstants.{MONITOR_RECORDS, NEXT_FREE_WORD, NEXT_TICKET_WORD}, outcome.End.End, program.Program.Program}}
use Rattle.machine_types.specs.{Agreement.{has_wait_bit, OutsideFits, ThreadFits}, Going.runs, HeldMonitors.held_at, Monitors.bit_of}
use Rattle.machine_types.specs.{Owners.{Knows, lock_at, owner_at, locks_in, references_of, hold_by_kept, hold_by_list, hold_by_word, HeldFat}, Parts.done_roots, PlainMemory.Object}
use Rattle.machine_types.specs.{PlainState.{Status, Plain, PlainThread, Holding}, Structure.{IsFat, Stands}, Threads.{Attempt, Thread}, Waiting.{MayWait, Waits, is_bit_set}}
use Rattle.machine_types.{specs.{Words.{owner_word, bits_word}, declared.{lock.{Held.Held, LockWord.LockWord}, phase.Phase.Phase}}, proofs.Lists.{set_as_it_is}}
use Rattle.laws_states.{specs.{SiteLaws.SitesLieInside, Sites.BitsOf}, proofs.{Lists.{set_here, set_there, same_or_not}, LockViews.fatly}}
use Rattle.laws_simulation.{specs.StandsBeside.{StandsBeside, own_end, end_of_done, ends_shown}, proofs.{Assembled.moved_beside, GoingOnAlike.awake_fits, HoldingsAlike.{HoldAlike, alike_kept}}}
use Rattle.laws_simulation.proofs.{Moments.{Moment, AreRecordsWritten, record_written, lock_same, lock_kept, holdings_alike}, OwnThread.own, PlainPlaces.place_low, Turns.Turn, WaitBits.{bit_by}}
use Rattle.laws_simulation.proofs.WaitersHaveBits.{bit_in, bit_of_fat}
use Rattle.jvm_types.specs.declared.outcome.End.TheVariants as ends
use Rattle.machine_types.specs.PlainState as plain
use Rattle.machine_types.specs.declared.lock.Kept.TheVariants as keeps
use Rattle.machine_types.specs.declared.lock.LockWord.TheVariants as locks
use Rattle.machine_types.specs.declared.phase.Phase.TheVariants as phases

-- ---- ends of parts

-- by how the present part ended
pub ends_alike : (p : Program) (part : ℕ) (a b : Phase) → own_end a ≡ own_end b → ends_shown p part a ≡ ends_shown p part b
ends_alike p zero a b e = e
ends_alike p (suc zero) a b e = refl
ends_alike p (suc (suc n)) a b e = ap (λ (es : List End). ends.Returned ∷ es) (by_roots (done_roots p))
  where
    by_roots : (roots : List ℕ) → end_of_done roots a ≡ end_of_done roots b
    by_roots [] = refl
    by_roots (number ∷ roots) = e

-- ---- a thread that goes on to its next instruction

pub run_end : (b : Bool) → own_end (cond b phases.Run (phases.Ending ends.Steps)) ≡ []
run_end true = refl
run_end false = refl

pub runs_outside : (p : Program) (bit : ℕ → Bool) (z : Thread) (w : PlainThread) → ((m : ℕ) → bit m ≡ false) → w.frames ≡ z.frames → w.status ≡ plain.Run → w.roots ≡ z.roots → OutsideFits p bit (runs z) w
runs_outside p bit z w off frames status roots = elim (nat_lt z.counts.instructions z.cfg.steps) as (λ (b : Bool). OutsideFits p bit (record z { phase = cond b phases.Run (phases.Ending ends.Steps) }) w)
    [ true ↦ record { frames = frames; status = status; roots = roots } | false ↦ record { frames = frames; status = awake_fits bit w.status (w.status ≡ plain.Run) off status; roots = roots } ]

-- ---- the words of records

pub bits_written : (words : List ℕ) (r v : ℕ) → r < MONITOR_RECORDS → AreRecordsWritten words (slice_set words (bits_word r) v)
bits_written words r v low = record_written words (bits_word r) v (omega arith) (omega (arith, low))

pub owner_written : (words : List ℕ) (r v : ℕ) → r < MONITOR_RECORDS → AreRecordsWritten words (slice_set words (owner_word r) v)
owner_written words r v low = record_written words (owner_word r) v (omega arith) (omega (arith, low))

pub owner_keeps_bits : (words : List ℕ) (r v k u : ℕ) → is_bit_set (slice_set words (owner_word r) v) k u ≡ is_bit_set words k u
owner_keeps_bits words r v k u = ap (λ (n : ℕ). has_flag (bit_of u) n) (set_there words (owner_word r) (bits_word k) v (λ e. absurd (omega (arith, e))))

-- of another record
pub other_bits : (words : List ℕ) (r v k u : ℕ) → k ≢ r → is_bit_set (slice_set words (bits_word r) v) k u ≡ is_bit_set words k u
other_bits words r v k u d = ap (λ (n : ℕ). has_flag (bit_of u) n) (set_there words (bits_word r) (bits_word k) v (λ e. d (omega (arith, e))))

-- ---- what the thread has

-- a monitor of which it owns the record
pub record HasFat (objects : List Object) (words : List ℕ) (t m r : ℕ) (x : Thread) : Type 0 where
  pub held : Held
  pub is : held_at x.held m ≡ Some held
  pub kept : held.kept ≡ keeps.Fat r
  pub lock : lock_at (references_of objects) words m ≡ locks.Fat r
  pub owner : owner_at words r ≡ t + 1
  pub low : r < MONITOR_RECORDS

module _ {turn : Turn} {phase : Phase} (k : Moment turn phase) where
  open turn use {c, objects, was, s, t, x, q}
  open own turn use {plain as y, here as twin}

  pub fat_low : (m r : ℕ) → lock_at (references_of objects) s.words m ≡ locks.Fat r → r < MONITOR_RECORDS
  fat_low m r e = (turn.facts.owners.locks_are.below m r e).1

  -- a record belongs to one monitor
  pub fat_one : (m n r : ℕ) → lock_at (references_of objects) s.words m ≡ locks.Fat r → lock_at (references_of objects) s.words n ≡ locks.Fat r → m ≡ n
  fat_one m n r e f = turn.facts.owners.locks_are.one m n r e f

  pub counted : (f : Phase) → was t ≡ f → Stands c f x.frames x.held x.attempt
  counted f e = subst (λ (g : Phase). Stands c g x.frames x.held x.attempt) e (turn.facts.structure t x turn.here).stands

  pub knows : (f : Phase) → was t ≡ f → Knows (locks_in (references_of objects) s.words) t f
  knows f e = subst (λ (g : Phase). Knows (locks_in (references_of objects) s.words) t g) e (turn.facts.owners.each t x turn.here).knows

  pub waits_now : (f : Phase) → was t ≡ f → Waits s.words t f
  waits_now f e = subst (λ (g : Phase). Waits s.words t g) e (turn.facts.waiting.each t x turn.here)

  -- whoever owns the record of a monitor
  pub owning : (u : ℕ) (z : Thread) (m r : ℕ) → slice_get s.threads u ≡ Some z → IsFat r (held_at z.held m) → HasFat objects s.words u m r z
  owning u z m r got fat = (elim (held_at z.held m) as (λ (o : Option Held). held_at z.held m ≡ o → IsFat r o → HasFat objects s.words u m r z) [
    | None ↦ λ e f. absurd f
    | Some h ↦ λ e f.
        let holds : hold_by_word u (lock_at (references_of objects) s.words m) (owner_at s.words) ≡ HeldFat r = (turn.facts.owners.each u z got).holds m ∙ ap hold_by_list e ∙ ap hold_by_kept f in
        let both = fatly u (lock_at (references_of objects) s.words m) (owner_at s.words) r holds in
        record { held = h; is = e; kept = f; lock = both.0; owner = both.1; low = fat_low m r both.0 }
  ]) refl fat

  -- ---- bits

  pub bit_now : (u m r : ℕ) → lock_at (references_of objects) s.words m ≡ locks.Fat r → has_wait_bit (references_of q.objects) s.words u m ≡ is_bit_set s.words r u
  bit_now u m r e = bit_of_fat (references_of q.objects) s.words u m r (lock_same k m ∙ e)

  pub bit_later : (later : List ℕ) → AreRecordsWritten s.words later → (u m r : ℕ) → lock_at (references_of objects) s.words m ≡ locks.Fat r → has_wait_bit (references_of q.objects) later u m ≡ is_bit_set later r u
  bit_later later w u m r e = bit_of_fat (references_of q.objects) later u m r (lock_kept k later w m ∙ lock_same k m ∙ e)

  -- a bit that is set, with the record that has it
  pub set_in : (later : List ℕ) → AreRecordsWritten s.words later → (u m : ℕ) → has_wait_bit (references_of q.objects) later u m ≡ true
      → (r : ℕ) × (lock_at (references_of objects) s.words m ≡ locks.Fat r) × (is_bit_set later r u ≡ true)
  set_in later w u m e = let b = bit_in (references_of q.objects) later u m e in (b.r, sym (lock_same k m) ∙ sym (lock_kept k later w m) ∙ b.fat, b.set)

  pub bits_kept : (later : List ℕ) → AreRecordsWritten s.words later → (u : ℕ) → ((r : ℕ) → r < MONITOR_RECORDS → is_bit_set later r u ≡ is_bit_set s.words r u)
      → (m : ℕ) → has_wait_bit (references_of q.objects) later u m ≡ has_wait_bit (references_of q.objects) s.words u m
  bits_kept later w u same m = by_lock (lock_at (references_of q.objects) s.words m) refl
    where
      by_lock : (l : LockWord) → lock_at (references_of q.objects) s.words m ≡ l → has_wait_bit (references_of q.objects) later u m ≡ has_wait_bit (references_of q.objects) s.words u m
      by_lock (locks.Fat r) e = let at : lock_at (references_of objects) s.words m ≡ locks.Fat r = sym (lock_same k m) ∙ e in bit_later later w u m r at ∙ same r (fat_low m r at) ∙ sym (bit_now u m r at)
      by_lock lock e = ap (λ (l : LockWord). bit_by l later u) (lock_kept k later w m ∙ e) ∙ sym (ap (λ (l : LockWord). bit_by l s.words u) e)

  -- the thread itself waits nowhere, where no bit but one that was set is set
  pub own_off : (later : List ℕ) → AreRecordsWritten s.words later → ((r : ℕ) → is_bit_set later r t ≡ true → is_bit_set s.words r t ≡ true) → (f : Phase) → was t ≡ f → ((r : ℕ) → MayWait f r → ⊥)
      → (m : ℕ) → has_wait_bit (references_of q.objects) later t m ≡ false
  own_off later w less f e never m = (elim (has_wait_bit (references_of q.objects) later t m) as (λ (b : Bool). has_wait_bit (references_of q.objects) later t m ≡ b → b ≡ false)
      [ true ↦ λ g. let b = set_in later w t m g in absurd (never b.0 ((waits_now f e).only b.0 (fat_low m b.0 b.1) (less b.0 b.2))) | false ↦ λ g. refl ]) refl

  -- ---- its thread alone made one

  pub alone_beside : (later : List ℕ) (x2 : Thread) (holdings : List Holding) (y2 : PlainThread) → AreRecordsWritten s.words later → ((a word : ℕ) → phase ≢ phases.Made a word) → ((a word : ℕ) → x2.phase ≢ phases.Made a word)
      → x2.part ≡ x.part → (phase ≡ phases.Ended ends.Returned → x2.phase ≡ phases.Ended ends.Returned) → HoldAlike holdings (slice_set s.threads t x2) → x2.attempt ≡ None
      → OutsideFits c.program (has_wait_bit (references_of q.objects) later t) x2 y2 → y2.ended ≡ ends_shown c.program x2.part x2.phase
      → ((u m : ℕ) → u ≢ t → has_wait_bit (references_of q.objects) later u m ≡ has_wait_bit (references_of q.objects) s.words u m)
      → StandsBeside c.program objects (record { words = later; threads = slice_set s.threads t x2 }) (record q { holdings = holdings; threads = slice_set q.threads t y2 })
  alone_beside later x2 holdings y2 w old new part rests alike free fits ended same = moved_beside turn.member later x2 holdings y2 q.prints (record {
    fits = subst (λ (a : Option Attempt). ThreadFits c.program (has_wait_bit (references_of q.objects) later t) x2 a y2) (sym free) fits;
    ended = ended;
    places = λ i v e. w.places i (place_low c.program q turn.beside.apart i v e).0;
    next = w.counters NEXT_FREE_WORD (omega arith);
    printed = w.counters NEXT_TICKET_WORD (omega arith) ∙ turn.beside.agrees.prints;
    bits = same;
    alike = alike;
    old = λ a word e. old a word (sym k.phase_is ∙ e);
    new = new;
    part = part;
    rests = λ e. rests (sym k.phase_is ∙ e);
  })

  -- ---- the plain machine made no step

  pub quiet_beside : (later : List ℕ) (x2 : Thread) → AreRecordsWritten s.words later → ((a word : ℕ) → phase ≢ phases.Made a word) → ((a word : ℕ) → x2.phase ≢ phases.Made a word)
      → x2.part ≡ x.part → (phase ≡ phases.Ended ends.Returned → x2.phase ≡ phases.Ended ends.Returned) → x2.held ≡ x.held → x2.attempt ≡ None
      → OutsideFits c.program (has_wait_bit (references_of q.objects) later t) x2 y → y.ended ≡ ends_shown c.program x2.part x2.phase
      → ((u m : ℕ) → u ≢ t → has_wait_bit (references_of q.objects) later u m ≡ has_wait_bit (references_of q.objects) s.words u m)
      → StandsBeside c.program objects (record { words = later; threads = slice_set s.threads t x2 }) q
  quiet_beside later x2 w old new part rests held free fits ended same =
      subst (λ (ys : List PlainThread). StandsBeside c.program objects (record { words = later; threads = slice_set s.threads t x2 }) (record q { threads = ys })) (set_as_it_is q.threads t y twin)
      (alone_beside later x2 q.holdings y w old new part rests (alike_kept q.holdings s.threads (holdings_alike k) t x x2 turn.here held) free fits ended same)

  -- ---- a word of waiting bits is written

  pub bits_here : SitesLieInside → (r v u : ℕ) → r < MONITOR_RECORDS → is_bit_set (slice_set s.words (bits_word r) v) r u ≡ has_flag (bit_of u) v
  bits_here inside r v u low = ap (λ (n : ℕ). has_flag (bit_of u) n) (set_here s.words (bits_word r) v (inside c objects s (BitsOf r) turn.marked turn.facts.heap low))

  -- where the bit of u is as it was
  pub bits_else : SitesLieInside → (r v u : ℕ) → r < MONITOR_RECORDS → has_flag (bit_of u) v ≡ is_bit_set s.words r u → (n : ℕ) → is_bit_set (slice_set s.words (bits_word r) v) n u ≡ is_bit_set s.words n u
  bits_else inside r v u low e n = elim (same_or_not n r)
      [ inl f ↦ subst (λ (i : ℕ). is_bit_set (slice_set s.words (bits_word r) v) i u ≡ is_bit_set s.words i u) (sym f) (bits_here inside r v u low ∙ e) | inr d ↦ other_bits s.words r v n u d ]

  -- bits are cleared
  pub bits_less : SitesLieInside → (r v u : ℕ) → r < MONITOR_RECORDS → (has_flag (bit_of u) v ≡ true → is_bit_set s.words r u ≡ true) → (n : ℕ) → is_bit_set (slice_set s.words (bits_word r) v) n u ≡ true → is_bit_set s.words n u ≡ true
  bits_less inside r v u low less n set = elim (same_or_not n r) [
    | inl f ↦
        let here : is_bit_set (slice_set s.words (bits_word r) v) r u ≡ true = subst (λ (i : ℕ). is_bit_set (slice_set s.words (bits_word r) v) i u ≡ true) f set in
        subst (λ (i : ℕ). is_bit_set s.words i u ≡ true) (sym f) (less (sym (bits_here inside r v u low) ∙ here))
    | inr d ↦ sym (other_bits s.words r v n u d) ∙ set
  ]

  pub waits_less : (later : List ℕ) → AreRecordsWritten s.words later → (u : ℕ) → ((r : ℕ) → is_bit_set later r u ≡ true → is_bit_set s.words r u ≡ true)
      → (n : ℕ) → has_wait_bit (references_of q.objects) later u n ≡ true → has_wait_bit (references_of q.objects) s.words u n ≡ true
  waits_less later w u less n e = let b = set_in later w u n e in bit_now u n b.0 b.1 ∙ less b.0 b.2
