-- Hands that take in those of the workers.
use Rattle.std.proofs.Common.{◌≡◌, ℕ, ◌+◌, ◌*◌, ◌-◌, ◌^◌, ◌<◌, ◌≤◌, Bool, true, false, List, [], ◌∷◌, ◌++◌, length, length-append, refl, sym, ap, subst, ◌∙◌, arith, ◌||◌, slice_index_or}
use Rattle.std.proofs.{Math.Seq.get_or-append_seam, lemmas.{List.get_or_append_left, Nat.pow-add}}
use Rattle.atomic_table.specs.Seated.{TableId}
use Rattle.solero_cell.specs.{Calls.Seated, CellViews.{share, sum_of, halved, newcomer}, declared.views.{Record.Record, Share.Share}}
use Rattle.cell_runner.specs.{HandsOfCell.{AreReady, HasFew, HasGathered, HasJoined, HasWorked, HaveWorked, IsFreshSeat, IsShareLeft, AreRoundsOver, IsReady}, declared.hands.Hand.Hand}
use mathlib.Core.Logic.{dite}
use native.Mathlib.Decide.{ℕ_discrete}

-- ---- numbers

add_le : (a b c w x : ℕ) → a * c ≤ w → b * c ≤ x → (a + b) * c ≤ w + x
add_le a b c w x p q = let sum : (a + b) * c ≡ a * c + b * c = grind arith in rw sum (omega (arith, p, q))

add_most : (a b c w x : ℕ) → w ≤ a * c → x ≤ b * c → w + x ≤ (a + b) * c
add_most a b c w x p q = let sum : (a + b) * c ≡ a * c + b * c = grind arith in rw sum (omega (arith, p, q))

left_le : (k m a b c w x : ℕ) → a ≤ k → b ≤ m → (k - a) * c ≤ w → (m - b) * c ≤ x → (k + m - (a + b)) * c ≤ w + x
left_le k m a b c w x le le' p q = let e : k + m - (a + b) ≡ (k - a) + (m - b) = omega (arith, le, le') in rw e (add_le (k - a) (m - b) c w x p q)

pub times_le : (k m c d : ℕ) → k ≤ m → c ≤ d → k * c ≤ m * d
times_le k m c d p q = grind arith

-- ---- one more worker

or_false : (b c d : Bool) → d ≡ (b || c) → d ≡ false → (b ≡ false) × (c ≡ false)
or_false false c d e f = (refl, sym e ∙ f)
or_false true c d e f = absurd (let bad : true ≡ false = sym e ∙ f in cc)

over_joined : (k m rounds : ℕ) (h w both : Hand) → HasJoined h w both → AreRoundsOver k rounds h → AreRoundsOver m rounds w → AreRoundsOver (k + m) rounds both
over_joined k m rounds h w both j o p =
    let writes : both.tally.writes ≡ h.tally.writes + w.tally.writes = ap (λ r. r.writes) j.tally in
    let reads : both.tally.reads ≡ h.tally.reads + w.tally.reads = ap (λ r. r.reads) j.tally in
    let stopped : both.tally.stopped ≡ h.tally.stopped + w.tally.stopped = ap (λ r. r.stopped) j.tally in
    record {
      stopped = omega (arith, stopped, o.stopped, p.stopped);
      writes = rw writes (add_most k m rounds h.tally.writes w.tally.writes o.writes p.writes);
      reads = rw reads (add_most k m rounds h.tally.reads w.tally.reads o.reads p.reads);
      all_writes = λ not_full.
          let both_not = or_false h.is_full w.is_full both.is_full j.full not_full in
          rw (writes, stopped) (left_le k m h.tally.stopped w.tally.stopped rounds h.tally.writes w.tally.writes o.stopped p.stopped (o.all_writes both_not.0) (p.all_writes both_not.1));
      all_reads = λ not_full.
          let both_not = or_false h.is_full w.is_full both.is_full j.full not_full in
          rw (reads, stopped) (left_le k m h.tally.stopped w.tally.stopped rounds h.tally.reads w.tally.reads o.stopped p.stopped (o.all_reads both_not.0) (p.all_reads both_not.1));
    }

module _ (table : TableId) (opening : Record) (rounds turns : ℕ) where
  gathered_joined : (k : ℕ) (h w both : Hand) → HasJoined h w both → HasGathered table opening k rounds turns h
      → HasGathered table opening 1 rounds turns w → HasGathered table opening (k + 1) rounds turns both
  gathered_joined k h w both j g l =
      let stopped : both.tally.stopped ≡ h.tally.stopped + w.tally.stopped = ap (λ r. r.stopped) j.tally in
      record {
        of = (g.of.0 ∙ sym j.table, g.of.1 ∙ sym j.opening);
        counted = j.counted;
        stopped = rw (stopped, j.failed) (add_le h.tally.stopped w.tally.stopped turns h.seat.view.failed w.seat.view.failed g.stopped l.stopped);
        over = over_joined k 1 rounds h w both j g.over l.over;
      }

  -- the hand of the last of n + 1 workers
  pub one_more : (workers n : ℕ) (h w both : Hand) → n + 1 ≤ workers → HasJoined h w both
      → HasGathered table opening (workers - (n + 1)) rounds turns h → HasWorked table opening (n + 1) rounds turns w
      → HasGathered table opening (workers - n) rounds turns both
  one_more workers n h w both le j g l =
      let count : workers - (n + 1) + 1 ≡ workers - n = omega (arith, le) in
      subst (λ k. HasGathered table opening k rounds turns both) count (gathered_joined (workers - (n + 1)) h w both j g l.gathered)

  pub few_gathered : (k : ℕ) (h : Hand) → k ≤ 8 → rounds ≤ 1000 → HasGathered table opening k rounds turns h → HasFew h.tally
  few_gathered k h le le' g = let most = times_le k 8 rounds 1000 le le' in (omega (arith, most, g.over.writes), omega (arith, most, g.over.reads), omega (arith, le, g.over.stopped))

  -- ---- the hands in a list

  pub fresh_kept : (n : ℕ) (s t : Seated) → t.table_id ≡ s.table_id → t.view ≡ halved s.view → IsFreshSeat table opening n s
      → IsFreshSeat table opening (n + 1) t
  fresh_kept n s t same view f = record {
    of = (f.of.0 ∙ sym same, f.of.1 ∙ sym (ap (λ v. v.opening) view));
    view = view ∙ ap halved f.view;
  }

  fresh_made : (n : ℕ) (s t : Seated) → t.table_id ≡ s.table_id → t.view ≡ newcomer s.view → IsFreshSeat table opening n s
      → IsFreshSeat table opening (n + 1) t
  fresh_made n s t same view f = record {
    of = (f.of.0 ∙ sym same, f.of.1 ∙ sym (ap (λ v. v.opening) view));
    view = view ∙ ap newcomer f.view;
  }

  pub ready_made : (n : ℕ) (s : Seated) (h : Hand) → h.seat.table_id ≡ s.table_id → h.seat.view ≡ newcomer s.view
      → h.tally ≡ record { writes = 0; reads = 0; stopped = 0 } → h.is_full ≡ false → IsFreshSeat table opening n s
      → IsReady table opening (n + 1) h
  ready_made n s h same view tally full f = record { fresh = fresh_made n s h.seat same view f; tally = tally; full = full }

  pub one_more_ready : (hands : List Hand) (h : Hand) (n : ℕ) → length hands ≡ n → AreReady table opening hands
      → IsReady table opening (n + 1) h → AreReady table opening (hands ++ h ∷ [])
  one_more_ready hands h n e are is i d lt =
      let long = length-append hands (h ∷ []) in
      dite (ℕ_discrete i (length hands))
      (λ same. let here : slice_index_or (hands ++ h ∷ []) i d ≡ h = ap (λ k. slice_index_or (hands ++ h ∷ []) k d) same ∙ get_or-append_seam hands h [] d in
      subst (λ k. IsReady table opening (k + 1) (slice_index_or (hands ++ h ∷ []) i d)) (sym e ∙ sym same) (subst (IsReady table opening (n + 1)) (sym here) is))
      (λ other. let before : i < length hands = omega (arith, lt, long, other) in
      subst (IsReady table opening (i + 1)) (sym (get_or_append_left hands (h ∷ []) d i before)) (are i d before))

  pub front_worked : (all hands : List Hand) (w : Hand) → all ≡ hands ++ w ∷ [] → HaveWorked table opening rounds turns all
      → HaveWorked table opening rounds turns hands
  front_worked all hands w e have i d lt =
      let here = subst (HaveWorked table opening rounds turns) e have i d (let l = length-append hands (w ∷ []) in omega (arith, l, lt)) in
      subst (HasWorked table opening (i + 1) rounds turns) (get_or_append_left hands (w ∷ []) d i lt) here

  pub last_worked : (all hands : List Hand) (w : Hand) → all ≡ hands ++ w ∷ [] → HaveWorked table opening rounds turns all
      → HasWorked table opening (length hands + 1) rounds turns w
  last_worked all hands w e have =
      let here = subst (HaveWorked table opening rounds turns) e have (length hands) w (let l = length-append hands (w ∷ []) in omega (arith, l)) in
      subst (HasWorked table opening (length hands + 1) rounds turns) (get_or-append_seam hands w [] w) here

-- ---- shares

left_joined : (parts depth n : ℕ) → parts * 2 ^ (n + 1) ≡ 2 ^ depth
    → (parts * 2 ^ (n + 1) + 1 * 2 ^ depth) * 2 ^ n ≡ 2 ^ (depth + (n + 1))
left_joined parts depth n e =
    let two : 2 ^ (n + 1) ≡ 2 * 2 ^ n = pow-add 2 n 1 ∙ omega arith in
    rw (e, pow-add 2 depth (n + 1), two) (grind arith)

pub one_more_left : (n : ℕ) (h w both : Hand) → HasJoined h w both → IsShareLeft (n + 1) h → w.seat.view.share ≡ share 1 (n + 1)
    → IsShareLeft n both
one_more_left n h w both j left e =
    let s = h.seat.view.share in
    let is : both.seat.view.share ≡ sum_of s (share 1 (n + 1)) = j.share ∙ ap (sum_of s) e in
    subst (λ (t : Share). t.parts * 2 ^ n ≡ 2 ^ t.depth) (sym is) (left_joined s.parts s.depth n left)
