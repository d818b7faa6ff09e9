-- A thread that waits: it sets its bit, gives the monitor up, looks at its bit, and takes the monitor back.
use Rattle.std.proofs.Common.{◌≡◌, ◌≢◌, inl, inr, ℕ, ◌+◌, nat_lt, Bool, true, false, cond, List, [], ◌∷◌, Some, None, refl, sym, ap, ◌∙◌, arith, slice_get, slice_index, slice_set, ◌==◌, bit_or, if◌then◌else◌}
use Rattle.std.proofs.lemmas.Bool.{cases_Bool, ne_eqb, Decides.nat_tests}
use Rattle.jvm_types.specs.{Numbers.has_flag, declared.fixed_words.TheConstants.MONITOR_RECORDS}
use Rattle.machine_types.specs.{Agreement.{has_wait_bit, waiting_status, depth_for}, Going.{with_phase, failed_turn}, HeldMonitors.{held_at, with_held, without_held}, History.act_if}
use Rattle.machine_types.specs.{Monitors.{bit_of, goes_to_wait, retakes}, Owners.{lock_at, owner_at, references_of, hold_by_list, hold_by_word, NotHeld, HeldFat}}
use Rattle.machine_types.specs.{PlainState.{Plain, PlainThread, Holding, holding_at, with_holding, without_holding, let_go, with_thread, with_status}, PlainSteps.{waited, retaken}, Structure.Stands}
use Rattle.machine_types.{specs.{Threads.Thread, Waiting.is_bit_set, Words.{owner_word, bits_word}, declared.{lock.{Held.Held, LockWord.LockWord}, phase.Phase.Phase}}, proofs.PlainStepLaws.is_same}
use Rattle.laws_states.{specs.SiteLaws.SitesLieInside, proofs.{LockViews.not_held, WordViews.set_self}}
use Rattle.laws_simulation.{specs.{StandsBeside.StandsBeside, StepsBeside.StepsBeside}, proofs.{BitWords.set_other, EventSteps.run_made}}
use Rattle.laws_simulation.proofs.HoldingsAlike.{IsHolding, alone, held_depth_is, holds_then, free_then, alike_put, alike_dropped}
use Rattle.laws_simulation.proofs.Moments.{Moment, AreRecordsWritten, same_words, first_step, own_status, own_frames, own_roots, own_ends, own_number, own_as, holdings_alike, stepped}
use Rattle.laws_simulation.proofs.Moved.{HasFat, ends_alike, run_end, runs_outside, bits_written, owner_written, owner_keeps_bits, fat_low, fat_one, counted, knows, waits_now, owning, bit_now, set_in, bits_kept, own_off, quiet_beside, alone_beside, bits_else}
use Rattle.laws_simulation.proofs.{OwnThread.own, Turns.Turn}
use Rattle.jvm_types.specs.declared.outcome.End.TheVariants as ends
use Rattle.machine_types.specs.PlainState as plain
use Rattle.machine_types.specs.declared.lock.Kept.TheVariants as keeps
use Rattle.machine_types.specs.declared.lock.LockWord.TheVariants as locks
use Rattle.machine_types.specs.declared.phase.Phase.TheVariants as phases
use Rattle.machine_types.specs.declared.plain.Act.TheVariants as acts

abbrev Turned : Thread → Bool → Phase → Thread
Turned x b phase = record x { turns = x.turns + 1; phase = cond b phase (phases.Ending ends.Turns) }

module _ {turn : Turn} where
  open turn use {c, objects, s, t, x, q}
  open own turn use {plain as y, here as twin}

  -- ---- it sets its bit

  pub bit_set : SitesLieInside → (m r : ℕ) → Moment turn (phases.WaitBit m r) → StepsBeside c objects s t x q
  bit_set inside m r k =
      let value : ℕ = bit_or (slice_index s.words (bits_word r)) (bit_of x.number) in
      let later : List ℕ = slice_set s.words (bits_word r) value in
      let fat : HasFat objects s.words t m r x = owning k t x m r turn.here (counted k (phases.WaitBit m r) (own_as k)).phase_shows.1 in
      let same : (u : ℕ) → u ≢ t → has_flag (bit_of u) value ≡ is_bit_set s.words r u = λ u d. set_other (slice_index s.words (bits_word r)) x.number u (λ e. d (e ∙ own_number k)) in
      stepped k later (with_phase x (phases.WaitOut m r)) [] q refl refl refl refl refl
      (quiet_beside k later (with_phase x (phases.WaitOut m r)) (bits_written s.words r value fat.low) (λ a word e. cc) (λ a word e. cc) refl (λ g. cc) refl turn.outside
      (record { frames = own_frames k; status = own_status k; roots = own_roots k })
      (own_ends k ∙ ends_alike c.program x.part (phases.WaitBit m r) (phases.WaitOut m r) refl)
      (λ u n d. bits_kept k later (bits_written s.words r value fat.low) u (λ i low. bits_else k inside r value u fat.low (same u d) i) n))

  -- ---- it gives the monitor up

  pub given_up : (m r : ℕ) → Moment turn (phases.WaitOut m r) → StepsBeside c objects s t x q
  given_up m r k =
      let stands : Stands c (phases.WaitOut m r) x.frames x.held x.attempt = counted k (phases.WaitOut m r) (own_as k) in
      let fat : HasFat objects s.words t m r x = owning k t x m r turn.here stands.phase_shows.1 in
      let later : List ℕ = slice_set s.words (owner_word r) 0 in
      let written : AreRecordsWritten s.words later = owner_written s.words r 0 fat.low in
      let x2 : Thread = record x { held = without_held m x.held; phase = phases.WaitLook m r fat.held.depth } in
      let y2 : PlainThread = with_status y (plain.Waiting m fat.held.depth) in
      let behind : Plain = record q { holdings = without_holding m q.holdings; threads = slice_set q.threads t y2 } in
      let depth : depth_for t (holding_at q.holdings m) ≡ Some fat.held.depth = held_depth_is q.holdings s.threads (holdings_alike k) t m x fat.held turn.here fat.is in
      let holds : IsHolding (holding_at q.holdings m) t m fat.held.depth = holds_then q.holdings s.threads (holdings_alike k) t m x fat.held turn.here fat.is in
      let step : waited q t m y (holding_at q.holdings m) ≡ Some behind =
      ap (waited q t m y) holds.is
      ∙ ap (λ (b : Bool). cond b (Some (with_thread (let_go q m) t (with_status y (plain.Waiting m holds.holding.depth)))) None) (ap (λ (n : ℕ). n == t) holds.holder ∙ is_same t)
      ∙ ap (λ (d : ℕ). Some (with_thread (let_go q m) t (with_status y (plain.Waiting m d)))) holds.depth_is in
      let kept : (u n : ℕ) → has_wait_bit (references_of q.objects) later u n ≡ has_wait_bit (references_of q.objects) s.words u n =
      λ u n. bits_kept k later written u (λ i low. owner_keeps_bits s.words r 0 i u) n in
      let bit : has_wait_bit (references_of q.objects) later t m ≡ true = kept t m ∙ bit_now k t m r fat.lock ∙ (waits_now k (phases.WaitOut m r) (own_as k)).must in
      stepped k later x2 (acts.Wait ∷ []) behind refl refl refl (ap (goes_to_wait x m r) fat.is)
      (first_step c.program q behind t y acts.Wait [] (plain.Wait m) twin (own_status k) step)
      (alone_beside k later x2 (without_holding m q.holdings) y2 written (λ a word e. cc) (λ a word e. cc) refl (λ g. cc)
      (alike_dropped q.holdings s.threads (holdings_alike k) t x x2 turn.here m refl stands.once (λ u d. alone (holding_at q.holdings m) t u fat.held.depth depth d))
      turn.outside
      (record { frames = own_frames k; status = ap (λ (b : Bool). waiting_status b m fat.held.depth) (sym bit); roots = own_roots k })
      (own_ends k ∙ ends_alike c.program x.part (phases.WaitOut m r) (phases.WaitLook m r fat.held.depth) refl)
      (λ u n d. kept u n))

  -- ---- it looks at its bit

  look_on : (m r depth : ℕ) (k : Moment turn (phases.WaitLook m r depth)) → is_bit_set s.words r t ≡ true → (b : Bool)
      → StandsBeside c.program objects (record { words = s.words; threads = slice_set s.threads t (Turned x b (phases.WaitLook m r depth)) }) q
  look_on m r depth k e true = quiet_beside k s.words (Turned x true (phases.WaitLook m r depth)) (same_words s.words) (λ a word f. cc) (λ a word f. cc) refl (λ g. cc) refl turn.outside
      (record { frames = own_frames k; status = own_status k; roots = own_roots k })
      (own_ends k ∙ ends_alike c.program x.part (phases.WaitLook m r depth) (phases.WaitLook m r depth) refl) (λ u n d. refl)
  look_on m r depth k e false =
      let fat : lock_at (references_of objects) s.words m ≡ locks.Fat r = knows k (phases.WaitLook m r depth) (own_as k) in
      let bit : has_wait_bit (references_of q.objects) s.words t m ≡ true = bit_now k t m r fat ∙ e in
      let status : y.status ≡ plain.Waiting m depth = own_status k ∙ ap (λ (b : Bool). waiting_status b m depth) bit in
      let waits : (n : ℕ) → has_wait_bit (references_of q.objects) s.words t n ≡ true → (d : ℕ) × (y.status ≡ plain.Waiting n d) =
      λ n g.
      let b = set_in k s.words (same_words s.words) t n g in
      let one : b.0 ≡ r = (waits_now k (phases.WaitLook m r depth) (own_as k)).only b.0 (fat_low k n b.0 b.1) b.2 in
      let same : m ≡ n = fat_one k m n r fat (b.1 ∙ ap locks.Fat one) in
      (depth, status ∙ ap (λ (i : ℕ). plain.Waiting i depth) same) in
      quiet_beside k s.words (Turned x false (phases.WaitLook m r depth)) (same_words s.words) (λ a word f. cc) (λ a word f. cc) refl (λ g. cc) refl turn.outside
      (record { frames = own_frames k; status = record { waits = waits; awake = λ none. absurd (let clash : true ≡ false = sym bit ∙ none m in cc) }; roots = own_roots k })
      (own_ends k ∙ ends_alike c.program x.part (phases.WaitLook m r depth) (phases.Ending ends.Turns) refl) (λ u n d. refl)

  to_retake : (m r depth : ℕ) (k : Moment turn (phases.WaitLook m r depth)) → is_bit_set s.words r t ≡ false
      → StandsBeside c.program objects (record { words = s.words; threads = slice_set s.threads t (with_phase x (phases.Retake m r depth)) }) q
  to_retake m r depth k e =
      let status : y.status ≡ plain.Woken m depth = own_status k ∙ ap (λ (b : Bool). waiting_status b m depth) (bit_now k t m r (knows k (phases.WaitLook m r depth) (own_as k)) ∙ e) in
      quiet_beside k s.words (with_phase x (phases.Retake m r depth)) (same_words s.words) (λ a word f. cc) (λ a word f. cc) refl (λ g. cc) refl turn.outside
      (record { frames = own_frames k; status = status; roots = own_roots k })
      (own_ends k ∙ ends_alike c.program x.part (phases.WaitLook m r depth) (phases.Retake m r depth) refl) (λ u n d. refl)

  pub looked : (m r depth : ℕ) → Moment turn (phases.WaitLook m r depth) → StepsBeside c objects s t x q
  looked m r depth k = elim (cases_Bool (is_bit_set s.words r t)) [
    | inl e ↦ stepped k s.words (failed_turn x (phases.WaitLook m r depth)) [] q refl refl (set_self s.words (bits_word r)) (moves true e) refl (look_on m r depth k e (nat_lt (x.turns + 1) x.cfg.turns))
    | inr e ↦ stepped k s.words (with_phase x (phases.Retake m r depth)) [] q refl refl (set_self s.words (bits_word r)) (moves false e) refl (to_retake m r depth k e)
  ]
    where
      moves : (b : Bool) → is_bit_set s.words r t ≡ b → cond (has_flag (bit_of x.number) (slice_index s.words (bits_word r))) (failed_turn x (phases.WaitLook m r depth)) (with_phase x (phases.Retake m r depth))
          ≡ cond b (failed_turn x (phases.WaitLook m r depth)) (with_phase x (phases.Retake m r depth))
      moves b e = ap (λ (d : Bool). cond d (failed_turn x (phases.WaitLook m r depth)) (with_phase x (phases.Retake m r depth))) (ap (λ (n : ℕ). has_flag (bit_of n) (slice_index s.words (bits_word r))) (own_number k) ∙ e)

  -- ---- it takes the monitor back

  not_retaken : (m r depth : ℕ) (k : Moment turn (phases.Retake m r depth)) → (b : Bool)
      → StandsBeside c.program objects (record { words = s.words; threads = slice_set s.threads t (Turned x b (phases.Retake m r depth)) }) q
  not_retaken m r depth k true = quiet_beside k s.words (Turned x true (phases.Retake m r depth)) (same_words s.words) (λ a word f. cc) (λ a word f. cc) refl (λ g. cc) refl turn.outside
      (record { frames = own_frames k; status = own_status k; roots = own_roots k })
      (own_ends k ∙ ends_alike c.program x.part (phases.Retake m r depth) (phases.Retake m r depth) refl) (λ u n d. refl)
  not_retaken m r depth k false = quiet_beside k s.words (Turned x false (phases.Retake m r depth)) (same_words s.words) (λ a word f. cc) (λ a word f. cc) refl (λ g. cc) refl turn.outside
      (record { frames = own_frames k; status = record { waits = λ n g. absurd (let clash : true ≡ false = sym g ∙ off n in cc); awake = λ none. inr (m, depth, own_status k) }; roots = own_roots k })
      (own_ends k ∙ ends_alike c.program x.part (phases.Retake m r depth) (phases.Ending ends.Turns) refl) (λ u n d. refl)
    where
      off : (n : ℕ) → has_wait_bit (references_of q.objects) s.words t n ≡ false
      off n = own_off k s.words (same_words s.words) (λ i e. e) (phases.Retake m r depth) (own_as k) (λ i e. e) n

  retook : (m r depth : ℕ) (k : Moment turn (phases.Retake m r depth)) → (slice_index s.words (owner_word r) == 0) ≡ true → StepsBeside c objects s t x q
  retook m r depth k e =
      let fat : lock_at (references_of objects) s.words m ≡ locks.Fat r = knows k (phases.Retake m r depth) (own_as k) in
      let goes : Bool = nat_lt x.counts.instructions x.cfg.steps in
      let later : List ℕ = slice_set s.words (owner_word r) (x.number + 1) in
      let written : AreRecordsWritten s.words later = owner_written s.words r (x.number + 1) (fat_low k m r fat) in
      let entry : Held = record { monitor = m; kept = keeps.Fat r; depth = depth } in
      let one : Holding = record { monitor = m; holder = t; depth = depth } in
      let y2 : PlainThread = with_status y plain.Run in
      let behind : Plain = record q { holdings = with_holding one q.holdings; threads = slice_set q.threads t y2 } in
      -- the record has no owner, so no thread holds the monitor
      let no_owner : owner_at s.words r ≡ 0 =
      elim (nat_lt r MONITOR_RECORDS) as (λ (b : Bool). cond b (slice_index s.words (owner_word r)) 0 ≡ 0) [ true ↦ grind (arith, nat_tests, e) | false ↦ refl ] in
      let none_has : (u : ℕ) (z : Thread) → slice_get s.threads u ≡ Some z → held_at z.held m ≡ None =
      λ u z g.
      let holds : hold_by_word u (lock_at (references_of objects) s.words m) (owner_at s.words) ≡ hold_by_list (held_at z.held m) = (turn.facts.owners.each u z g).holds m in
      let none : hold_by_word u (lock_at (references_of objects) s.words m) (owner_at s.words) ≡ NotHeld = ap (λ (l : LockWord). hold_by_word u l (owner_at s.words)) fat ∙ ap (λ (b : Bool). cond b (HeldFat r) NotHeld) (ne_eqb (owner_at s.words r) (u + 1) (λ f. absurd (omega (arith, f, no_owner)))) in
      not_held (held_at z.held m) (sym holds ∙ none) in
      let nobody : holding_at q.holdings m ≡ None = free_then q.holdings s.threads (holdings_alike k) m none_has in
      let step : retaken q t m depth y (holding_at q.holdings m) ≡ Some behind = ap (retaken q t m depth y) nobody in
      let kept : (u n : ℕ) → has_wait_bit (references_of q.objects) later u n ≡ has_wait_bit (references_of q.objects) s.words u n =
      λ u n. bits_kept k later written u (λ i low. owner_keeps_bits s.words r (x.number + 1) i u) n in
      let off : (n : ℕ) → has_wait_bit (references_of q.objects) later t n ≡ false =
      λ n. kept t n ∙ own_off k s.words (same_words s.words) (λ i f. f) (phases.Retake m r depth) (own_as k) (λ i f. f) n in
      stepped k later (retakes x m r depth) (acts.Retake ∷ []) behind refl (ap (λ (b : Bool). act_if b acts.Retake) e)
      (ap (λ (b : Bool). slice_set s.words (owner_word r) (if b then x.number + 1 else slice_index s.words (owner_word r))) e)
      (ap (λ (b : Bool). cond b (retakes x m r depth) (failed_turn x (phases.Retake m r depth))) e)
      (first_step c.program q behind t y acts.Retake [] (plain.Woken m depth) twin (own_status k) step)
      (alone_beside k later (retakes x m r depth) (with_holding one q.holdings) y2 written (λ a word f. cc) (λ a word. run_made goes a word) refl (λ g. cc)
      (alike_put q.holdings s.threads (holdings_alike k) t x (retakes x m r depth) turn.here m entry refl refl (λ u d. ap (depth_for u) nobody))
      turn.outside
      (runs_outside c.program (has_wait_bit (references_of q.objects) later t) (record x { held = with_held entry x.held }) y2 off (own_frames k) refl (own_roots k))
      (own_ends k ∙ ends_alike c.program x.part (phases.Retake m r depth) (cond goes phases.Run (phases.Ending ends.Steps)) (sym (run_end goes)))
      (λ u n d. kept u n))

  pub took_back : (m r depth : ℕ) → Moment turn (phases.Retake m r depth) → StepsBeside c objects s t x q
  took_back m r depth k = elim (cases_Bool (slice_index s.words (owner_word r) == 0)) [
    | inl e ↦ retook m r depth k e
    | inr e ↦ stepped k s.words (failed_turn x (phases.Retake m r depth)) [] q refl (ap (λ (b : Bool). act_if b acts.Retake) e)
        (ap (λ (b : Bool). slice_set s.words (owner_word r) (if b then x.number + 1 else slice_index s.words (owner_word r))) e ∙ set_self s.words (owner_word r))
        (ap (λ (b : Bool). cond b (retakes x m r depth) (failed_turn x (phases.Retake m r depth))) e) refl
        (not_retaken m r depth k (nat_lt (x.turns + 1) x.cfg.turns))
  ]
