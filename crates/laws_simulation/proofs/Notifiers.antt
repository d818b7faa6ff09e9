-- A thread that notifies: it looks for a thread that waits, and wakes one or all.
use Rattle.std.proofs.Common.{◌≡◌, ◌≢◌, ◌⊎◌, inl, inr, ℕ, ◌-◌, ◌^◌, ◌<◌, nat_lt, Bool, true, false, cond, List, [], ◌∷◌, Option, Some, None, refl, sym, ap, ◌∙◌, subst, arith, IsSome, map, slice_get, slice_index, slice_set, ◌==◌, bit_and, option_map}
use Rattle.std.{proofs.lemmas.{Bool.{cases_Bool, Decides.nat_tests}, List.{length-map, length-set}, Option.slice_get-map}}
use Rattle.jvm_types.specs.Numbers.{has_flag}
use Rattle.machine_types.specs.{Agreement.{has_wait_bit, ThreadFits}, Going.{with_phase, runs}, History.act_if, Monitors.{bit_of, lowest_of}, Owners.references_of}
use Rattle.machine_types.specs.{PlainState.{Plain, PlainThread, with_thread, with_status}, PlainSteps.{waits_on, wakes, wakes_one, notified}, Threads.Thread, Waiting.is_bit_set, Words.bits_word}
use Rattle.machine_types.{specs.declared.phase.Phase.Phase, proofs.{Lists.{got_when_set, got_other}, PlainStepLaws.is_same}}
use Rattle.laws_states.{specs.SiteLaws.SitesLieInside, proofs.{Lists.same_or_not, WordViews.set_self}}
use Rattle.laws_simulation.{specs.StepsBeside.StepsBeside, proofs.{Assembled.{IsLater, got_same_length}, BitWords.{low_if_set, clear_here, clear_other}, EventSteps.run_made, HoldingsAlike.alike_kept}}
use Rattle.laws_simulation.proofs.Moments.{Moment, AreRecordsWritten, same_words, first_step, own_status, own_frames, own_roots, own_ends, own_as, holdings_alike, moved_beside, stepped}
use Rattle.laws_simulation.proofs.Moved.{HasFat, ends_alike, run_end, runs_outside, bits_written, counted, waits_now, owning, bit_now, bit_later, bits_kept, own_off, quiet_beside, alone_beside, bits_here, bits_else, bits_less, waits_less}
use Rattle.laws_simulation.proofs.{OwnThread.own, Sleepers.{asleep, sleeps, wakes_up}, Turns.Turn, WaitBits.fits_by}
use Rattle.laws_simulation.proofs.WaitersHaveBits.{waiter_has_bit, nobody_by_bits, none_waits, stays_asleep}
use Rattle.jvm_types.specs.declared.outcome.End.TheVariants as ends
use Rattle.machine_types.specs.PlainState as plain
use Rattle.machine_types.specs.declared.phase.Phase.TheVariants as phases
use Rattle.machine_types.specs.declared.plain.Act.TheVariants as acts

got_some : {A : Type 0} (o : Option A) → IsSome o → (a : A) × (o ≡ Some a)
got_some None h = absurd (cc)
got_some (Some a) h = (a, refl)

abbrev goes_by : Thread → Bool
goes_by x = nat_lt x.counts.instructions x.cfg.steps

abbrev running : PlainThread → PlainThread
running y = with_status y plain.Run

module _ {turn : Turn} where
  open turn use {c, objects, was, s, t, x, q}
  open own turn use {plain as y, here as twin}

  -- ---- it looks for one that waits

  none_found : (m r : ℕ) (k : Moment turn (phases.NotifyLook m r)) → (slice_index s.words (bits_word r) == 0) ≡ true → StepsBeside c objects s t x q
  none_found m r k e =
      let behind : Plain = record q { threads = slice_set q.threads t (running y) } in
      let empty : slice_index s.words (bits_word r) ≡ 0 = grind (arith, nat_tests, e) in
      let off : (u : ℕ) → has_wait_bit (references_of q.objects) s.words u m ≡ false =
      λ u. bit_now k u m r (owning k t x m r turn.here (counted k (phases.NotifyLook m r) (own_as k)).phase_shows.1).lock ∙ ap (λ (n : ℕ). has_flag (bit_of u) n) empty in
      let step : notified q t m y None ≡ Some behind =
      ap (λ (b : Bool). cond b None (Some (with_thread q t (with_status y plain.Run)))) (none_waits m q.threads (nobody_by_bits c.program s q m turn.beside.agrees off)) in
      stepped k s.words (runs x) (acts.Notify None ∷ []) behind refl (ap (λ (b : Bool). act_if b (acts.Notify None)) e) (set_self s.words (bits_word r))
      (ap (λ (b : Bool). cond b (runs x) (with_phase x (phases.NotifyOne m r (lowest_of (slice_index s.words (bits_word r)))))) e)
      (first_step c.program q behind t y (acts.Notify None) [] (plain.Notify m) twin (own_status k) step)
      (alone_beside k s.words (runs x) q.holdings (running y) (same_words s.words) (λ a word f. cc) (λ a word. run_made (goes_by x) a word) refl (λ g. cc)
      (alike_kept q.holdings s.threads (holdings_alike k) t x (runs x) turn.here refl) turn.outside
      (runs_outside c.program (has_wait_bit (references_of q.objects) s.words t) x (running y) (own_off k s.words (same_words s.words) (λ i f. f) (phases.NotifyLook m r) (own_as k) (λ i f. f)) (own_frames k) refl (own_roots k))
      (own_ends k ∙ ends_alike c.program x.part (phases.NotifyLook m r) (cond (goes_by x) phases.Run (phases.Ending ends.Steps)) (sym (run_end (goes_by x)))) (λ u n d. refl))

  pub looked_for : (m r : ℕ) → Moment turn (phases.NotifyLook m r) → StepsBeside c objects s t x q
  looked_for m r k = elim (cases_Bool (slice_index s.words (bits_word r) == 0)) [
    | inl e ↦ none_found m r k e
    | inr e ↦ stepped k s.words (with_phase x one) [] q refl (ap (λ (b : Bool). act_if b (acts.Notify None)) e) (set_self s.words (bits_word r)) (ap (λ (b : Bool). cond b (runs x) (with_phase x one)) e) refl
        (quiet_beside k s.words (with_phase x one) (same_words s.words) (λ a word f. cc) (λ a word f. cc) refl (λ g. cc) refl turn.outside
        (record { frames = own_frames k; status = own_status k; roots = own_roots k })
        (own_ends k ∙ ends_alike c.program x.part (phases.NotifyLook m r) one refl) (λ u n d. refl))
  ]
    where
      one : Phase
      one = phases.NotifyOne m r (lowest_of (slice_index s.words (bits_word r)))

  -- ---- it wakes one

  module _ (inside : SitesLieInside) (m r u : ℕ) (k : Moment turn (phases.NotifyOne m r u)) where
    one_fat : HasFat objects s.words t m r x
    one_fat = owning k t x m r turn.here (counted k (phases.NotifyOne m r u) (own_as k)).phase_shows.1

    abbrev OneBits : ℕ
    OneBits = bit_and (slice_index s.words (bits_word r)) (2 ^ 64 - 1 - bit_of u)

    abbrev OneLater : List ℕ
    OneLater = slice_set s.words (bits_word r) OneBits

    one_written : AreRecordsWritten s.words OneLater
    one_written = bits_written s.words r OneBits one_fat.low

    one_set : is_bit_set s.words r u ≡ true
    one_set = (waits_now k (phases.NotifyOne m r u) (own_as k)).must

    one_apart : u ≢ t
    one_apart e = (waits_now k (phases.NotifyOne m r u) (own_as k)).only r one_fat.low (subst (λ (i : ℕ). is_bit_set s.words r i ≡ true) e one_set)

    one_low : u < 64
    one_low = low_if_set (slice_index s.words (bits_word r)) u (turn.facts.small (bits_word r)) one_set

    bits_same : (v : ℕ) → v ≢ u → (n : ℕ) → has_wait_bit (references_of q.objects) OneLater v n ≡ has_wait_bit (references_of q.objects) s.words v n
    bits_same v d n = bits_kept k OneLater one_written v (λ i low. bits_else k inside r OneBits v one_fat.low (clear_other (slice_index s.words (bits_word r)) u v (turn.facts.small (bits_word r)) one_low d) i) n

    pub woke_one : StepsBeside c objects s t x q
    woke_one = stepped k OneLater (runs x) (acts.Notify (Some u) ∷ []) behind refl refl refl refl
        (first_step c.program q behind t y (acts.Notify (Some u)) [] (plain.Notify m) twin (own_status k) step)
        (moved_beside k OneLater (runs x) (running y) q.holdings threads (record {
          written = one_written;
          old = λ a word f. cc;
          new = run_made (goes_by x);
          part = refl;
          rests = λ g. cc;
          free = turn.outside;
          fits = runs_outside c.program (has_wait_bit (references_of q.objects) OneLater t) x (running y) off (own_frames k) refl (own_roots k);
          ended = own_ends k ∙ ends_alike c.program x.part (phases.NotifyOne m r u) (cond (goes_by x) phases.Run (phases.Ending ends.Steps)) (sym (run_end (goes_by x)));
          alike = alike_kept q.holdings s.threads (holdings_alike k) t x (runs x) turn.here refl;
          many = length-set (slice_set q.threads u (wakes m w.0)) t (running y) ∙ length-set q.threads u (wakes m w.0);
          own = got_when_set (slice_set q.threads u (wakes m w.0)) t y (running y) (got_other q.threads u t (wakes m w.0) (λ e. one_apart (sym e)) ∙ twin);
          others = others;
        }))
      where
        z : (z : Thread) × (slice_get s.threads u ≡ Some z)
        z = got_some (slice_get s.threads u) (turn.facts.waiting.others r u one_fat.low one_set)

        w : (w : PlainThread) × (slice_get q.threads u ≡ Some w)
        w = got_same_length s.threads q.threads u z.0 turn.beside.agrees.many z.1

        status : (d : ℕ) × (w.0.status ≡ plain.Waiting m d)
        status = sleeps k u z.0 w.0 m r z.1 w.1 one_fat one_set (asleep k u z.0 m r one_apart z.1 one_fat one_set)

        threads : List PlainThread
        threads = slice_set (slice_set q.threads u (wakes m w.0)) t (running y)

        behind : Plain
        behind = record q { threads = threads }

        waiting : waits_on m w.0.status ≡ true
        waiting = ap (waits_on m) status.1 ∙ is_same m

        step : notified q t m y (Some u) ≡ Some behind
        step = ap (λ (o : Option PlainThread). option_map (λ (r : Plain). with_thread r t (with_status y plain.Run)) (wakes_one q m u o)) w.1
            ∙ ap (λ (b : Bool). option_map (λ (r : Plain). with_thread r t (with_status y plain.Run)) (cond b (Some (with_thread q u (wakes m w.0))) None)) waiting

        off : (n : ℕ) → has_wait_bit (references_of q.objects) OneLater t n ≡ false
        off n = bits_same t (λ e. one_apart (sym e)) n ∙ own_off k s.words (same_words s.words) (λ i f. f) (phases.NotifyOne m r u) (own_as k) (λ i f. f) n

        others : (v : ℕ) (a : Thread) (b : PlainThread) → v ≢ t → slice_get s.threads v ≡ Some a → slice_get q.threads v ≡ Some b → IsLater c.program q OneLater threads v a b
        others v a b d g h = by_thread (same_or_not v u)
          where
            by_thread : (v ≡ u) ⊎ (v ≢ u) → IsLater c.program q OneLater threads v a b
            by_thread (inl e) =
                let set : is_bit_set s.words r v ≡ true = subst (λ (i : ℕ). is_bit_set s.words r i ≡ true) (sym e) one_set in
                let here : slice_get q.threads u ≡ Some b = subst (λ (i : ℕ). slice_get q.threads i ≡ Some b) e h in
                let there : slice_get q.threads u ≡ Some w.0 = w.1 in
                let same : w.0 ≡ b = cc in
                record {
                  now = wakes m b;
                  twin = got_other (slice_set q.threads u (wakes m w.0)) t v (running y) d
                      ∙ subst (λ (i : ℕ). slice_get (slice_set q.threads u (wakes m w.0)) i ≡ Some (wakes m b)) (sym e) (got_when_set q.threads u w.0 (wakes m w.0) w.1 ∙ ap (λ (f : PlainThread). Some (wakes m f)) same);
                  fits = wakes_up k OneLater v a b m r g h one_fat set (asleep k v a m r d g one_fat set)
                      (waits_less k OneLater one_written v (bits_less k inside r OneBits v one_fat.low (λ f. set)))
                      (bit_later k OneLater one_written v m r one_fat.lock ∙ bits_here k inside r OneBits v one_fat.low
                      ∙ ap (λ (i : ℕ). has_flag (bit_of i) OneBits) e ∙ clear_here (slice_index s.words (bits_word r)) u one_low);
                  ends = refl;
                }
            by_thread (inr e) = record {
              now = b;
              twin = got_other (slice_set q.threads u (wakes m w.0)) t v (running y) d ∙ got_other q.threads u v (wakes m w.0) e ∙ h;
              fits = fits_by c.program (has_wait_bit (references_of q.objects) s.words v) (has_wait_bit (references_of q.objects) OneLater v) a a.attempt b (bits_same v e) (turn.beside.agrees.threads v a b g h);
              ends = refl;
            }

  -- ---- it wakes all

  module _ (inside : SitesLieInside) (m r : ℕ) (k : Moment turn (phases.NotifyAll m r)) where
    all_fat : HasFat objects s.words t m r x
    all_fat = owning k t x m r turn.here (counted k (phases.NotifyAll m r) (own_as k)).phase_shows.1

    abbrev AllLater : List ℕ
    AllLater = slice_set s.words (bits_word r) 0

    all_written : AreRecordsWritten s.words AllLater
    all_written = bits_written s.words r 0 all_fat.low

    all_less : (v i : ℕ) → is_bit_set AllLater i v ≡ true → is_bit_set s.words i v ≡ true
    all_less v i e = bits_less k inside r 0 v all_fat.low (λ f. cc) i e

    pub woke_all : StepsBeside c objects s t x q
    woke_all = stepped k AllLater (runs x) (acts.NotifyAll ∷ []) behind refl refl refl refl
        (first_step c.program q behind t y acts.NotifyAll [] (plain.NotifyAll m) twin (own_status k) refl)
        (moved_beside k AllLater (runs x) (running y) q.holdings threads (record {
          written = all_written;
          old = λ a word f. cc;
          new = run_made (goes_by x);
          part = refl;
          rests = λ g. cc;
          free = turn.outside;
          fits = runs_outside c.program (has_wait_bit (references_of q.objects) AllLater t) x (running y) (own_off k AllLater all_written (all_less t) (phases.NotifyAll m r) (own_as k) (λ i f. f)) (own_frames k) refl (own_roots k);
          ended = own_ends k ∙ ends_alike c.program x.part (phases.NotifyAll m r) (cond (goes_by x) phases.Run (phases.Ending ends.Steps)) (sym (run_end (goes_by x)));
          alike = alike_kept q.holdings s.threads (holdings_alike k) t x (runs x) turn.here refl;
          many = length-set (map (wakes m) q.threads) t (running y) ∙ length-map q.threads (wakes m);
          own = got_when_set (map (wakes m) q.threads) t (wakes m y) (running y) (slice_get-map (wakes m) q.threads t ∙ ap (option_map (wakes m)) twin);
          others = others;
        }))
      where
        threads : List PlainThread
        threads = slice_set (map (wakes m) q.threads) t (running y)

        behind : Plain
        behind = record q { threads = threads }

        others : (v : ℕ) (a : Thread) (b : PlainThread) → v ≢ t → slice_get s.threads v ≡ Some a → slice_get q.threads v ≡ Some b → IsLater c.program q AllLater threads v a b
        others v a b d g h = by_bit (is_bit_set s.words r v) refl
          where
            twin : slice_get threads v ≡ Some (wakes m b)
            twin = got_other (map (wakes m) q.threads) t v (running y) d ∙ slice_get-map (wakes m) q.threads v ∙ ap (option_map (wakes m)) h

            never : is_bit_set s.words r v ≡ false → (depth : ℕ) → b.status ≡ plain.Waiting m depth → ⊥
            never e depth f =
                let set : is_bit_set s.words r v ≡ true = sym (bit_now k v m r all_fat.lock) ∙ waiter_has_bit c.program s q v m depth b turn.beside.agrees h f in
                let clash : true ≡ false = sym set ∙ e in cc

            by_bit : (i : Bool) → is_bit_set s.words r v ≡ i → IsLater c.program q AllLater threads v a b
            by_bit true e = record {
              now = wakes m b;
              twin = twin;
              fits = wakes_up k AllLater v a b m r g h all_fat e (asleep k v a m r d g all_fat e)
                  (waits_less k AllLater all_written v (all_less v)) (bit_later k AllLater all_written v m r all_fat.lock ∙ bits_here k inside r 0 v all_fat.low);
              ends = refl;
            }
            by_bit false e = record {
              now = wakes m b;
              twin = twin;
              fits = subst (λ (f : PlainThread). ThreadFits c.program (has_wait_bit (references_of q.objects) AllLater v) a a.attempt f) (sym (stays_asleep m b (never e)))
                  (fits_by c.program (has_wait_bit (references_of q.objects) s.words v) (has_wait_bit (references_of q.objects) AllLater v) a a.attempt b
                  (bits_kept k AllLater all_written v (λ i low. bits_else k inside r 0 v all_fat.low (sym e) i)) (turn.beside.agrees.threads v a b g h));
              ends = refl;
            }
