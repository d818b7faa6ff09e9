-- A call of `wait`, `notify` or `notifyAll`: the plain machine does the instruction, and on a flat lock also the notification,
-- since nobody waits there.
use Rattle.std.proofs.{Common.{◌≡◌, ◌≢◌, inl, inr, ℕ, nat_lt, Bool, false, cond, List, [], ◌∷◌, Option, Some, None, refl, sym, ap, ◌∙◌, subst, slice_get, slice_set}, lemmas.List.set-set}
use Rattle.jvm_types.specs.declared.outcome.Thrown.TheVariants.{IllegalMonitorStateException}
use Rattle.machine_types.specs.{Accesses.{found_by, words_after}, Agreement.{has_wait_bit, StatusFits, OutsideFits, frames_shown, roots_shown}, Events.wanted, Frames.{Top, top_of, effect_at, went_on}}
use Rattle.machine_types.specs.{Going.{with_phase, runs, goes_on}, HeldMonitors.held_at, History.{run_acts, instruction_acts, notified_by, notify_acts, steps_of}}
use Rattle.machine_types.specs.{Instructions.{begun, effect_wants, run_wants, ran, instructed, if_held, waits, notifies}, Onward.threw}
use Rattle.machine_types.specs.{Owners.{lock_at, references_of, owner_at, hold_by_word, hold_by_list, hold_by_kept, HeldFlat}, PlainInstructions.{plain_leaving, instructed_by}}
use Rattle.machine_types.specs.{PlainState.{Status, Plain, PlainThread, with_thread}, PlainSteps.{step_at, plain_run}, Threads.Thread, declared.effect.Effect.Effect}
use Rattle.machine_types.specs.declared.{effect.Effect.TheVariants.{Waits, Notifies, NotifiesAll}, lock.{Held.Held, Kept.Kept}, phase.Phase.Phase, plain.Act.Act}
use Rattle.machine_types.proofs.Lists.{got_when_set, got_other}
use Rattle.laws_states.proofs.{Lists.same_or_not, LockViews.thin_if_flat}
use Rattle.laws_simulation.{specs.{StandsBeside.{StandsBeside, own_end, ends_shown}, StepsBeside.{IsAtEffect, StepsBeside, IsOfWaiting, WaitingSteps}}, proofs.EventSteps.run_made}
use Rattle.laws_simulation.proofs.HoldingsAlike.{alike_kept, is_holder_then, no_holder_then}
use Rattle.laws_simulation.proofs.Moments.{Moment, same_words, first_step, own_status, own_frames, own_roots, own_ends, own_as, lock_same, holdings_alike, stepped}
use Rattle.laws_simulation.proofs.{Moved.{ends_alike, run_end, runs_outside, own_off, alone_beside}, OwnThread.own, Turns.{Turn, by_turn}}
use Rattle.laws_simulation.proofs.WaitersHaveBits.{NobodyWaits, nobody_on_thin, none_waits, none_woken}
use Rattle.machine_types.specs.PlainInstructions as plainly
use Rattle.machine_types.specs.PlainState as plain
use Rattle.machine_types.specs.declared.lock.Kept.TheVariants as keeps
use Rattle.machine_types.specs.declared.lock.LockWord.TheVariants as locks
use Rattle.machine_types.specs.declared.phase.Phase.TheVariants as phases
use Rattle.machine_types.specs.declared.phase.Toward.TheVariants as towards
use Rattle.machine_types.specs.declared.plain.Act.TheVariants as acts

module _ (turn : Turn) (begins : IsAtEffect IsOfWaiting turn.c turn.x) where
  open turn use {c, objects, s, t, x, q}
  open begins use {at, found}
  open own turn use {plain as y, here as twin}

  k : Moment turn phases.Run
  k = record { phase_is = begins.runs }

  -- ---- by what the instruction is

  -- it wants no word
  by_effect : (e : Effect) → effect_at c.program at ≡ e → effect_wants x at.frame.pc e ≡ None → (acts : List Act) (x2 : Thread) (behind : Plain) → instruction_acts x e 0 ≡ acts → instructed c.program (begun x) at e 0 ≡ x2
      → plain_run c.program q (steps_of t acts) ≡ Some behind → StandsBeside c.program objects (record { words = s.words; threads = slice_set s.threads t x2 }) behind → StepsBeside c objects s t x q
  by_effect e is none acts x2 behind ea em run beside =
      let unwanted : wanted c x phases.Run ≡ None = ap (run_wants c.program x) found ∙ ap (effect_wants x at.frame.pc) is ∙ none in
      let nothing : found_by s.words (wanted c x phases.Run) ≡ 0 = ap (found_by s.words) unwanted in
      stepped k s.words x2 acts behind refl
      (ap (run_acts c x (top_of c.program x.frames)) nothing ∙ ap (λ (o : Option Top). run_acts c x o 0) found ∙ ap (λ (f : Effect). instruction_acts x f 0) is ∙ ea)
      (ap (words_after s.words) unwanted)
      (ap (ran c.program x (top_of c.program x.frames)) nothing ∙ ap (λ (o : Option Top). ran c.program x o 0) found ∙ ap (λ (f : Effect). instructed c.program (begun x) at f 0) is ∙ em)
      run beside

  does : (e : Effect) → effect_at c.program at ≡ e → (behind : Plain) → instructed_by c.program q t y at e ≡ Some behind → step_at c.program q t y acts.Do plain.Run ≡ Some behind
  does e is behind run = ap (plainly.plain_instructed c.program q t y) (ap (top_of c.program) (own_frames k) ∙ found) ∙ ap (instructed_by c.program q t y at) is ∙ run

  one_act : (e : Effect) → effect_at c.program at ≡ e → (y2 : PlainThread) → instructed_by c.program q t y at e ≡ Some (with_thread q t y2) → plain_run c.program q (steps_of t (acts.Do ∷ [])) ≡ Some (with_thread q t y2)
  one_act e is y2 run = first_step c.program q (with_thread q t y2) t y acts.Do [] plain.Run twin (own_status k) (does e is (with_thread q t y2) run)

  beside_with : (x2 : Thread) (y2 : PlainThread) → ((a word : ℕ) → x2.phase ≢ phases.Made a word) → x2.part ≡ x.part → x2.held ≡ x.held → x2.attempt ≡ None → OutsideFits c.program (has_wait_bit (references_of q.objects) s.words t) x2 y2
      → y2.ended ≡ ends_shown c.program x2.part x2.phase → StandsBeside c.program objects (record { words = s.words; threads = slice_set s.threads t x2 }) (with_thread q t y2)
  beside_with x2 y2 new part held free fits ended = alone_beside k s.words x2 q.holdings y2 (same_words s.words) (λ a word f. cc) new part (λ f. cc) (alike_kept q.holdings s.threads (holdings_alike k) t x x2 turn.here held) free fits ended (λ u m d. refl)

  -- ---- a thread that does not hold the monitor throws

  abbrev Thrower : Thread
  Thrower = goes_on (begun x) (threw IllegalMonitorStateException at)

  abbrev PlainThrower : PlainThread
  PlainThrower = plain.plain_goes_on y (threw IllegalMonitorStateException at)

  thrown : StandsBeside c.program objects (record { words = s.words; threads = slice_set s.threads t Thrower }) (with_thread q t PlainThrower)
  thrown = beside_with Thrower PlainThrower (λ a word f. cc) refl refl turn.outside (record { frames = refl; status = refl; roots = own_roots k }) (own_ends k ∙ ends_alike c.program x.part phases.Run Thrower.phase refl)

  not_holding : (m : ℕ) (more : PlainThread) → held_at x.held m ≡ None → plainly.if_plain_held q t m y at more ≡ PlainThrower
  not_holding m more e = ap (λ (b : Bool). cond b more PlainThrower) (no_holder_then q.holdings s.threads (holdings_alike k) t m x turn.here e)

  holding : (m : ℕ) (h : Held) (more : PlainThread) → held_at x.held m ≡ Some h → plainly.if_plain_held q t m y at more ≡ more
  holding m h more e = ap (λ (b : Bool). cond b more PlainThrower) (is_holder_then q.holdings s.threads (holdings_alike k) t m x h turn.here e)

  -- ---- one that holds it goes on, with the instruction done

  abbrev Done : Thread
  Done = record (begun x) { frames = went_on c.program at 0 }

  abbrev Leaves : Status → PlainThread
  Leaves status = plain_leaving c.program y at status

  -- in a phase that has the same status
  done_with : (phase : Phase) (turns : ℕ) (status : Status) → ((a word : ℕ) → phase ≢ phases.Made a word) → own_end phase ≡ [] → went_on c.program at 0 ≡ frames_shown phase (went_on c.program at 0)
      → x.roots ≡ roots_shown c.program x.part phase x.roots → StatusFits (has_wait_bit (references_of q.objects) s.words t) (record Done { phase = phase; turns = turns }) phase status
      → StandsBeside c.program objects (record { words = s.words; threads = slice_set s.threads t (record Done { phase = phase; turns = turns }) }) (with_thread q t (Leaves status))
  done_with phase turns status new none frames roots fits = beside_with (record Done { phase = phase; turns = turns }) (Leaves status) new refl refl turn.outside (record { frames = frames; status = fits; roots = own_roots k ∙ roots })
      (own_ends k ∙ ends_alike c.program x.part phases.Run phase (sym none))

  -- and runs
  off : (n : ℕ) → has_wait_bit (references_of q.objects) s.words t n ≡ false
  off n = own_off k s.words (same_words s.words) (λ i f. f) phases.Run (own_as k) (λ i f. f) n

  runs_on : StandsBeside c.program objects (record { words = s.words; threads = slice_set s.threads t (runs Done) }) (with_thread q t (Leaves plain.Run))
  runs_on = beside_with (runs Done) (Leaves plain.Run) (λ a word. run_made (nat_lt (begun x).counts.instructions x.cfg.steps) a word) refl refl turn.outside
      (runs_outside c.program (has_wait_bit (references_of q.objects) s.words t) Done (Leaves plain.Run) off refl refl (own_roots k))
      (own_ends k ∙ ends_alike c.program x.part phases.Run (runs Done).phase (sym (run_end (nat_lt (begun x).counts.instructions x.cfg.steps))))

  -- ---- on a flat lock nobody waits

  thin : (m count : ℕ) (h : Held) → held_at x.held m ≡ Some h → h.kept ≡ keeps.Flat count → (r : ℕ) → lock_at (references_of q.objects) s.words m ≢ locks.Fat r
  thin m count h e f r g =
      let holds : hold_by_word t (lock_at (references_of objects) s.words m) (owner_at s.words) ≡ HeldFlat = (turn.facts.owners.each t x turn.here).holds m ∙ ap hold_by_list e ∙ ap hold_by_kept f in
      thin_if_flat t (lock_at (references_of objects) s.words m) (owner_at s.words) holds r (sym (lock_same k m) ∙ g)

  nobody : (m count : ℕ) (h : Held) (status : Status) → held_at x.held m ≡ Some h → h.kept ≡ keeps.Flat count → ((depth : ℕ) → status ≢ plain.Waiting m depth) → NobodyWaits (slice_set q.threads t (Leaves status)) m
  nobody m count h status e f other u w depth g is = elim (same_or_not u t) [
    | inl same ↦
        let here : slice_get (slice_set q.threads t (Leaves status)) t ≡ Some w = subst (λ (i : ℕ). slice_get (slice_set q.threads t (Leaves status)) i ≡ Some w) same g in
        let there : slice_get (slice_set q.threads t (Leaves status)) t ≡ Some (Leaves status) = got_when_set q.threads t y (Leaves status) twin in
        let one : Leaves status ≡ w = cc in
        other depth (ap (λ (v : PlainThread). v.status) one ∙ is)
    | inr d ↦ nobody_on_thin c.program s q m turn.beside.agrees (thin m count h e f) u w depth (sym (got_other q.threads t u (Leaves status) d) ∙ g) is
  ]

  -- the notification is a second step
  second : (status : Status) (act : Act) (e : Effect) → effect_at c.program at ≡ e → instructed_by c.program q t y at e ≡ Some (with_thread q t (Leaves status))
      → step_at c.program (with_thread q t (Leaves status)) t (Leaves status) act status ≡ Some (with_thread (with_thread q t (Leaves status)) t (Leaves plain.Run))
      → plain_run c.program q (steps_of t (acts.Do ∷ act ∷ [])) ≡ Some (with_thread q t (Leaves plain.Run))
  second status act e is first more =
      first_step c.program q (with_thread q t (Leaves status)) t y acts.Do (act ∷ []) plain.Run twin (own_status k) (does e is (with_thread q t (Leaves status)) first)
      ∙ first_step c.program (with_thread q t (Leaves status)) (with_thread (with_thread q t (Leaves status)) t (Leaves plain.Run)) t (Leaves status) act [] status (got_when_set q.threads t y (Leaves status) twin) refl more
      ∙ ap (λ (ws : List PlainThread). Some (record q { threads = ws })) (set-set q.threads t (Leaves status) (Leaves plain.Run))

  -- ---- the three

  does_wait : (m : ℕ) → effect_at c.program at ≡ Waits m → StepsBeside c objects s t x q
  does_wait m is = (elim (held_at x.held m) as (λ (o : Option Held). held_at x.held m ≡ o → StepsBeside c objects s t x q) [
    | None ↦ λ e. by_effect (Waits m) is refl (acts.Do ∷ []) Thrower (with_thread q t PlainThrower) refl
        (ap (λ (o : Option Held). if_held (begun x) at o (waits Done m)) e)
        (one_act (Waits m) is PlainThrower (ap (λ (w : PlainThread). Some (with_thread q t w)) (not_holding m (Leaves (plain.Wait m)) e))) thrown
    | Some h ↦ λ e. by_kept h h.kept e refl
  ]) refl
    where
      by_kept : (h : Held) (kept : Kept) → held_at x.held m ≡ Some h → h.kept ≡ kept → StepsBeside c objects s t x q
      by_kept h (keeps.Flat count) e f = by_effect (Waits m) is refl (acts.Do ∷ []) (record Done { phase = phases.Grow m towards.Wait; turns = 0 }) (with_thread q t (Leaves (plain.Wait m))) refl
          (ap (λ (o : Option Held). if_held (begun x) at o (waits Done m)) e ∙ ap (waits Done m) f)
          (one_act (Waits m) is (Leaves (plain.Wait m)) (ap (λ (w : PlainThread). Some (with_thread q t w)) (holding m h (Leaves (plain.Wait m)) e)))
          (done_with (phases.Grow m towards.Wait) 0 (plain.Wait m) (λ a word g. cc) refl refl refl refl)
      by_kept h (keeps.Fat r) e f = by_effect (Waits m) is refl (acts.Do ∷ []) (record Done { phase = phases.WaitBit m r; turns = 0 }) (with_thread q t (Leaves (plain.Wait m))) refl
          (ap (λ (o : Option Held). if_held (begun x) at o (waits Done m)) e ∙ ap (waits Done m) f)
          (one_act (Waits m) is (Leaves (plain.Wait m)) (ap (λ (w : PlainThread). Some (with_thread q t w)) (holding m h (Leaves (plain.Wait m)) e)))
          (done_with (phases.WaitBit m r) 0 (plain.Wait m) (λ a word g. cc) refl refl refl refl)

  -- a notification, by its effect, its act on a flat lock, and the phase of its thread on a fat one
  notifying : (m : ℕ) (e : Effect) (act : Act) (status : Status) (to : ℕ → Phase) → effect_at c.program at ≡ e → effect_wants x at.frame.pc e ≡ None → instruction_acts x e 0 ≡ notify_acts (held_at x.held m) act
      → instructed c.program (begun x) at e 0 ≡ if_held (begun x) at (held_at x.held m) (notifies Done to) → instructed_by c.program q t y at e ≡ Some (with_thread q t (plainly.if_plain_held q t m y at (Leaves status)))
      → ((depth : ℕ) → status ≢ plain.Waiting m depth)
      → (NobodyWaits (slice_set q.threads t (Leaves status)) m → step_at c.program (with_thread q t (Leaves status)) t (Leaves status) act status ≡ Some (with_thread (with_thread q t (Leaves status)) t (Leaves plain.Run)))
      → ((r : ℕ) → StandsBeside c.program objects (record { words = s.words; threads = slice_set s.threads t (with_phase Done (to r)) }) (with_thread q t (Leaves status))) → StepsBeside c objects s t x q
  notifying m e act status to is none acts_are moves plain_is awake told stands = (elim (held_at x.held m) as (λ (o : Option Held). held_at x.held m ≡ o → StepsBeside c objects s t x q) [
    | None ↦ λ g. by_effect e is none (acts.Do ∷ []) Thrower (with_thread q t PlainThrower) (acts_are ∙ ap (λ (o : Option Held). notify_acts o act) g) (moves ∙ ap (λ (o : Option Held). if_held (begun x) at o (notifies Done to)) g)
        (one_act e is PlainThrower (plain_is ∙ ap (λ (w : PlainThread). Some (with_thread q t w)) (not_holding m (Leaves status) g))) thrown
    | Some h ↦ λ g. by_kept h h.kept g refl
  ]) refl
    where
      acts_by : (h : Held) (kept : Kept) → held_at x.held m ≡ Some h → h.kept ≡ kept → instruction_acts x e 0 ≡ notified_by kept act
      acts_by h kept g f = acts_are ∙ ap (λ (o : Option Held). notify_acts o act) g ∙ ap (λ (l : Kept). notified_by l act) f

      moves_by : (h : Held) (kept : Kept) → held_at x.held m ≡ Some h → h.kept ≡ kept → instructed c.program (begun x) at e 0 ≡ notifies Done to kept
      moves_by h kept g f = moves ∙ ap (λ (o : Option Held). if_held (begun x) at o (notifies Done to)) g ∙ ap (notifies Done to) f

      by_kept : (h : Held) (kept : Kept) → held_at x.held m ≡ Some h → h.kept ≡ kept → StepsBeside c objects s t x q
      by_kept h (keeps.Flat count) g f = by_effect e is none (acts.Do ∷ act ∷ []) (runs Done) (with_thread q t (Leaves plain.Run)) (acts_by h (keeps.Flat count) g f) (moves_by h (keeps.Flat count) g f)
          (second status act e is (plain_is ∙ ap (λ (w : PlainThread). Some (with_thread q t w)) (holding m h (Leaves status) g)) (told (nobody m count h status g f awake))) runs_on
      by_kept h (keeps.Fat r) g f = by_effect e is none (acts.Do ∷ []) (with_phase Done (to r)) (with_thread q t (Leaves status)) (acts_by h (keeps.Fat r) g f) (moves_by h (keeps.Fat r) g f)
          (one_act e is (Leaves status) (plain_is ∙ ap (λ (w : PlainThread). Some (with_thread q t w)) (holding m h (Leaves status) g))) (stands r)

  does_notify : (m : ℕ) → effect_at c.program at ≡ Notifies m → StepsBeside c objects s t x q
  does_notify m is = notifying m (Notifies m) (acts.Notify None) (plain.Notify m) (phases.NotifyLook m) is refl refl refl refl (λ depth g. cc)
      (λ none. ap (λ (b : Bool). cond b None (Some (with_thread (with_thread q t (Leaves (plain.Notify m))) t (Leaves plain.Run)))) (none_waits m (slice_set q.threads t (Leaves (plain.Notify m))) none))
      (λ r. done_with (phases.NotifyLook m r) x.turns (plain.Notify m) (λ a word g. cc) refl refl refl refl)

  does_notify_all : (m : ℕ) → effect_at c.program at ≡ NotifiesAll m → StepsBeside c objects s t x q
  does_notify_all m is = notifying m (NotifiesAll m) acts.NotifyAll (plain.NotifyAll m) (phases.NotifyAll m) is refl refl refl refl (λ depth g. cc)
      (λ none. ap (λ (ws : List PlainThread). Some (with_thread (record q { threads = ws }) t (Leaves plain.Run))) (none_woken m (slice_set q.threads t (Leaves (plain.NotifyAll m))) none))
      (λ r. done_with (phases.NotifyAll m r) x.turns (plain.NotifyAll m) (λ a word g. cc) refl refl refl refl)

  pub does_one : (e : Effect) → effect_at c.program at ≡ e → IsOfWaiting e → StepsBeside c objects s t x q
  does_one (Waits m) is h = does_wait m is
  does_one (Notifies m) is h = does_notify m is
  does_one (NotifiesAll m) is h = does_notify_all m is
  does_one e is h = absurd h

pub waiting_steps : WaitingSteps
waiting_steps = by_turn (IsAtEffect IsOfWaiting)
    (λ turn b. does_one turn b (effect_at turn.c.program b.at) refl b.kind)
