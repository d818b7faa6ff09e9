-- Who has a bit set in the record of a monitor that another thread owns: a thread that waits on that monitor. When its bit is
-- cleared it is woken.
use Rattle.std.proofs.Common.{◌≡◌, ◌≢◌, inr, ℕ, ◌+◌, Bool, true, false, cond, List, Option, Some, None, refl, sym, ap, ◌∙◌, subst, arith, slice_get}
use Rattle.jvm_types.specs.declared.outcome.End.{End}
use Rattle.checked_program.specs.MarkedProgram.{MarkedProgram}
use Rattle.machine_types.specs.{Agreement.{has_wait_bit, waiting_status, StatusFits, EndingFits, OutsideFits, ThreadFits}, Owners.{Knows, lock_at, locks_in, owner_at, references_of}}
use Rattle.machine_types.specs.{PlainMemory.Object, PlainState.{Status, Plain, PlainThread}, PlainSteps.{woken, wakes}, Structure.{IsAs, IsLimitAt, AttemptStandsIn, Stands}, Threads.{Attempt, Thread}}
use Rattle.machine_types.{specs.{Waiting.{MayWait, is_bit_set}, declared.phase.Phase.Phase}, proofs.PlainStepLaws.is_same}
use Rattle.laws_simulation.proofs.{Moments.Moment, Moved.{HasFat, fat_one, owning, bit_now}, Turns.Turn}
use Rattle.jvm_types.specs.declared.outcome.End.TheVariants as ends
use Rattle.machine_types.specs.PlainState as plain
use Rattle.machine_types.specs.declared.lock.LockWord.TheVariants as locks
use Rattle.machine_types.specs.declared.phase.Phase.TheVariants as phases

-- ---- a thread that waits on a monitor, or whose turns ran out as it waited

-- its bit is set
ending_sleeps : (bit : ℕ → Bool) (z : Thread) (e : End) (m r depth : ℕ) (phase : Phase) (status : Status) → IsLimitAt e phase (phases.WaitLook m r depth) → ((e : End) → phase ≢ phases.WaitLook m r depth) → EndingFits bit z.held e status → bit m ≡ true
    → (d : ℕ) × (status ≡ plain.Waiting m d)
ending_sleeps bit z ends.Steps m r depth phase status at other f set = absurd (cc)
ending_sleeps bit z ends.Prints m r depth phase status at other f set = absurd (cc)
ending_sleeps bit z ends.Records m r depth phase status at other f set = absurd at
ending_sleeps bit z ends.Turns m r depth phase status at other f set = f.waits m set
ending_sleeps bit z e m r depth phase status at other f set = absurd (other e (sym at))

pub status_sleeps : (bit : ℕ → Bool) (z : Thread) (phase : Phase) (m r depth : ℕ) (status : Status) → IsAs phase (phases.WaitLook m r depth) → StatusFits bit z phase status → bit m ≡ true → (d : ℕ) × (status ≡ plain.Waiting m d)
status_sleeps bit z (phases.WaitLook n k d) m r depth status at f set =
    let one : n ≡ m = cc in
    (d, f ∙ ap (λ (b : Bool). waiting_status b n d) (ap bit one ∙ set) ∙ ap (λ (i : ℕ). plain.Waiting i d) one)
status_sleeps bit z (phases.Ending e) m r depth status at f set = ending_sleeps bit z e m r depth (phases.Ending e) status at (λ i g. cc) f set
status_sleeps bit z (phases.Ended e) m r depth status at f set = ending_sleeps bit z e m r depth (phases.Ended e) status at (λ i g. cc) f set
status_sleeps bit z phase m r depth status at f set = absurd (cc)

-- its bit is cleared, and no other is set
ending_wakes : (bit later : ℕ → Bool) (z : Thread) (e : End) (m r depth d : ℕ) (phase : Phase) (status : Status) → IsLimitAt e phase (phases.WaitLook m r depth) → ((e : End) → phase ≢ phases.WaitLook m r depth) → EndingFits bit z.held e status
    → status ≡ plain.Waiting m d → ((n : ℕ) → later n ≡ true → bit n ≡ true) → later m ≡ false → EndingFits later z.held e (plain.Woken m d)
ending_wakes bit later z ends.Steps m r depth d phase status at other f w less off = absurd (cc)
ending_wakes bit later z ends.Prints m r depth d phase status at other f w less off = absurd (cc)
ending_wakes bit later z ends.Records m r depth d phase status at other f w less off = absurd at
ending_wakes bit later z ends.Turns m r depth d phase status at other f w less off = record { waits = λ n set. absurd (never n set); awake = λ none. inr (m, d, refl) }
  where
    never : (n : ℕ) → later n ≡ true → ⊥
    never n set =
        let k = f.waits n (less n set) in
        let same : plain.Waiting m d ≡ plain.Waiting n k.0 = sym w ∙ k.1 in
        let one : m ≡ n = cc in
        let clash : true ≡ false = sym set ∙ ap later (sym one) ∙ off in cc
ending_wakes bit later z e m r depth d phase status at other f w less off = absurd (other e (sym at))

pub status_wakes : (bit later : ℕ → Bool) (z : Thread) (phase : Phase) (m r depth d : ℕ) (status : Status) → IsAs phase (phases.WaitLook m r depth) → StatusFits bit z phase status → bit m ≡ true → status ≡ plain.Waiting m d
    → ((n : ℕ) → later n ≡ true → bit n ≡ true) → later m ≡ false → StatusFits later z phase (plain.Woken m d)
status_wakes bit later z (phases.WaitLook n k e) m r depth d status at f set w less off =
    let one : n ≡ m = cc in
    let same : plain.Waiting n e ≡ plain.Waiting m d = sym (f ∙ ap (λ (b : Bool). waiting_status b n e) (ap bit one ∙ set)) ∙ w in
    let deep : e ≡ d = cc in
    sym (ap (λ (b : Bool). waiting_status b n e) (ap later one ∙ off) ∙ ap (λ (i : ℕ). plain.Woken i e) one ∙ ap (plain.Woken m) deep)
status_wakes bit later z (phases.Ending e) m r depth d status at f set w less off = ending_wakes bit later z e m r depth d (phases.Ending e) status at (λ i g. cc) f w less off
status_wakes bit later z (phases.Ended e) m r depth d status at f set w less off = ending_wakes bit later z e m r depth d (phases.Ended e) status at (λ i g. cc) f w less off
status_wakes bit later z phase m r depth d status at f set w less off = absurd (cc)

-- ---- whose bit is set in a record that thread t owns

-- it waits on the monitor of the record, in no attempt
pub record IsAsleep (c : MarkedProgram) (objects : List Object) (was : ℕ → Phase) (q : Plain) (u : ℕ) (z : Thread) (m r : ℕ) : Type 0 where
  pub depth : ℕ
  pub looks : was u ≡ phases.WaitLook m r depth
  pub limit : IsAs z.phase (phases.WaitLook m r depth)
  pub free : z.attempt ≡ None

module _ {turn : Turn} {phase : Phase} (k : Moment turn phase) where
  open turn use {c, objects, was, s, t, x, q}

  -- no thread waits inside an attempt
  outside : (u : ℕ) (z : Thread) (m r depth : ℕ) → slice_get s.threads u ≡ Some z → was u ≡ phases.WaitLook m r depth → z.attempt ≡ None
  outside u z m r depth g e = (elim z.attempt as (λ (a : Option Attempt). z.attempt ≡ a → AttemptStandsIn c (phases.WaitLook m r depth) z.frames z.held a → z.attempt ≡ None)
      [ None ↦ λ f stands. f | Some a ↦ λ f stands. absurd stands.inside ]) refl (subst (λ (f : Phase). AttemptStandsIn c f z.frames z.held z.attempt) e (turn.facts.structure u z g).attempt)

  pub asleep : (u : ℕ) (z : Thread) (m r : ℕ) → u ≢ t → slice_get s.threads u ≡ Some z → HasFat objects s.words t m r x → is_bit_set s.words r u ≡ true → IsAsleep c objects was q u z m r
  asleep u z m r d g fat set = (elim (was u) as (λ (f : Phase). was u ≡ f → MayWait f r → IsAsleep c objects was q u z m r) [
    | phases.WaitOut n i ↦ λ e one.
        let stands : Stands c (phases.WaitOut n i) z.frames z.held z.attempt = subst (λ (f : Phase). Stands c f z.frames z.held z.attempt) e (turn.facts.structure u z g).stands in
        let other : HasFat objects s.words u n i z = owning k u z n i g stands.phase_shows.1 in
        let owner : owner_at s.words r ≡ u + 1 = ap (owner_at s.words) one ∙ other.owner in
        let own : owner_at s.words r ≡ t + 1 = fat.owner in
        absurd (d (omega (arith, owner, own)))
    | phases.WaitLook n i depth ↦ λ e one.
        let knows : lock_at (references_of objects) s.words n ≡ locks.Fat i = subst (λ (f : Phase). Knows (locks_in (references_of objects) s.words) u f) e (turn.facts.owners.each u z g).knows in
        let same : n ≡ m = fat_one k n m r (knows ∙ ap locks.Fat (sym one)) fat.lock in
        let at : was u ≡ phases.WaitLook m r depth = e ∙ ap (λ (j : ℕ). phases.WaitLook j i depth) same ∙ ap (λ (j : ℕ). phases.WaitLook m j depth) (sym one) in
        record { depth = depth; looks = at; limit = subst (IsAs z.phase) at (turn.facts.structure u z g).is_as; free = outside u z m r depth g at }
    | f ↦ λ e one. absurd one
  ]) refl ((turn.facts.waiting.each u z g).only r fat.low set)

  -- its plain thread, which waits
  pub sleeper : (u : ℕ) (z : Thread) (w : PlainThread) (m r : ℕ) → slice_get s.threads u ≡ Some z → slice_get q.threads u ≡ Some w → HasFat objects s.words t m r x → is_bit_set s.words r u ≡ true → IsAsleep c objects was q u z m r
      → OutsideFits c.program (has_wait_bit (references_of q.objects) s.words u) z w
  sleeper u z w m r g h fat set a = subst (λ (o : Option Attempt). ThreadFits c.program (has_wait_bit (references_of q.objects) s.words u) z o w) a.free (turn.beside.agrees.threads u z w g h)

  pub sleeps : (u : ℕ) (z : Thread) (w : PlainThread) (m r : ℕ) → slice_get s.threads u ≡ Some z → slice_get q.threads u ≡ Some w → HasFat objects s.words t m r x → is_bit_set s.words r u ≡ true → IsAsleep c objects was q u z m r
      → (d : ℕ) × (w.status ≡ plain.Waiting m d)
  sleeps u z w m r g h fat set a =
      status_sleeps (has_wait_bit (references_of q.objects) s.words u) z z.phase m r a.depth w.status a.limit (sleeper u z w m r g h fat set a).status (bit_now k u m r fat.lock ∙ set)

  -- it is woken, where its bit is cleared and no other one is set
  pub wakes_up : (later : List ℕ) (u : ℕ) (z : Thread) (w : PlainThread) (m r : ℕ) → slice_get s.threads u ≡ Some z → slice_get q.threads u ≡ Some w → HasFat objects s.words t m r x → is_bit_set s.words r u ≡ true → IsAsleep c objects was q u z m r
      → ((n : ℕ) → has_wait_bit (references_of q.objects) later u n ≡ true → has_wait_bit (references_of q.objects) s.words u n ≡ true) → has_wait_bit (references_of q.objects) later u m ≡ false
      → ThreadFits c.program (has_wait_bit (references_of q.objects) later u) z z.attempt (wakes m w)
  wakes_up later u z w m r g h fat set a less off = subst (λ (o : Option Attempt). ThreadFits c.program (has_wait_bit (references_of q.objects) later u) z o (wakes m w)) (sym a.free) (record {
    frames = fits.frames;
    status = subst (λ (f : Status). StatusFits (has_wait_bit (references_of q.objects) later u) z z.phase f) (sym woken_is)
        (status_wakes (has_wait_bit (references_of q.objects) s.words u) (has_wait_bit (references_of q.objects) later u) z z.phase m r a.depth status.0 w.status a.limit fits.status (bit_now k u m r fat.lock ∙ set) status.1 less off);
    roots = fits.roots;
  })
    where
      fits : OutsideFits c.program (has_wait_bit (references_of q.objects) s.words u) z w
      fits = sleeper u z w m r g h fat set a

      status : (d : ℕ) × (w.status ≡ plain.Waiting m d)
      status = sleeps u z w m r g h fat set a

      woken_is : woken m w.status ≡ plain.Woken m status.0
      woken_is = ap (woken m) status.1 ∙ ap (λ (b : Bool). cond b (plain.Woken m status.0) (plain.Waiting m status.0)) (is_same m)
