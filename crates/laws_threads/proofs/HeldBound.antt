-- A thread holds no more monitors than its frames show entries, and each frame shows no more than its method and its held tags.
use Rattle.std.proofs.Common.{◌≡◌, ℕ, zero, suc, ◌+◌, ◌*◌, ◌<◌, ◌≤◌, false, cond, List, [], ◌∷◌, length, Option, Some, None, refl, ap, ◌∙◌, subst, arith, length-append, ◌==◌, slice_get}
use Rattle.std.proofs.{Math.Nat.{le-max_left, le-max_right}, lemmas.{Bool.Decides.nat_tests}}
use Rattle.jvm_types.specs.{declared.{limits.TheConstants.MOST_FRAMES}}
use Rattle.checked_program.specs.{LockTags.TagShape, MarkedProgram.MarkedProgram, TaggedCode.tagged_by, declared.tag.Tags.Tags}
use Rattle.machine_types.specs.{HeldMonitors.{held_at, held_in_frame, most_in, most_held, places_of}, Shown.{Shows, ShowBelow, Show}}
use Rattle.machine_types.specs.{Standing.{Operands, Whole}, Structure.{AreHeldOnce, Stands, IsAs, count_in, held_depth, once_at}, Threads.Frame, declared.{lock.Held.Held, phase.Phase.Phase}}
use Rattle.laws_threads.{specs.HeldLaws.{AddsHeld, HeldHasRoom}, proofs.ShownLengths.shown_length}
use Rattle.machine_types.specs.declared.lock.Kept.TheVariants as keeps
use Rattle.machine_types.specs.declared.phase.Phase.TheVariants as phases

-- ---- each monitor that is held is among the entries that are shown

abbrev without_all : (m : ℕ) → List ℕ → List ℕ
without_all m [] = []
without_all m (n ∷ ns) = cond (n == m) (without_all m ns) (n ∷ without_all m ns)

without_length : (m : ℕ) (ns : List ℕ) → length (without_all m ns) + count_in m ns ≡ length ns
without_length m [] = refl
without_length m (n ∷ ns) = grind (arith, nat_tests, without_length m ns)

without_count : (m k : ℕ) (ns : List ℕ) → (m == k) ≡ false → count_in k (without_all m ns) ≡ count_in k ns
without_count m k [] d = refl
without_count m k (n ∷ ns) d = grind (arith, nat_tests, d, without_count m k ns d)

pub few_held : (held : List Held) (shown : List ℕ) → AreHeldOnce held → ((m : ℕ) → held_depth m held ≤ count_in m shown) → length held ≤ length shown
few_held [] shown a d = omega arith
few_held (h ∷ held) shown a d =
    let more : length held ≤ length (without_all h.monitor shown) = few_held held (without_all h.monitor shown) a.2 (λ m. grind (arith, nat_tests, d m, a.0, without_count h.monitor m shown)) in
    let here : h.depth ≤ count_in h.monitor shown = grind (arith, nat_tests, d h.monitor) in
    omega (arith, more, here, a.1, without_length h.monitor shown)

-- ---- what frames show

in_frame : (n : ℕ) (fs : List (Option TagShape)) (t : TagShape) → slice_get fs n ≡ Some (Some t) → length t.held ≤ most_in fs
in_frame n [] t e = absurd (cc)
in_frame zero (f ∷ fs) t e = let one : f ≡ Some t = cc in let deep : held_in_frame f ≡ length t.held = ap held_in_frame one in let up : held_in_frame f ≤ most_in (f ∷ fs) = le-max_left (held_in_frame f) (most_in fs) in omega arith
in_frame (suc n) (f ∷ fs) t e = let more = in_frame n fs t e in let up : most_in fs ≤ most_in (f ∷ fs) = le-max_right (held_in_frame f) (most_in fs) in omega arith

in_tags : (i n : ℕ) (tags : List Tags) (fs : List (Option TagShape)) (t : TagShape) → slice_get (tagged_by tags) i ≡ Some fs → slice_get fs n ≡ Some (Some t) → length t.held ≤ most_held tags
in_tags i n [] fs t e k = absurd (cc)
in_tags zero n (x ∷ tags) fs t e k = let one : x.frames ≡ fs = cc in let here = in_frame n fs t k in let same : most_in x.frames ≡ most_in fs = ap most_in one in let up : most_in x.frames ≤ most_held (x ∷ tags) = le-max_left (most_in x.frames) (most_held tags) in omega arith
in_tags (suc i) n (x ∷ tags) fs t e k = let more = in_tags i n tags fs t e k in let up : most_held tags ≤ most_held (x ∷ tags) = le-max_right (most_in x.frames) (most_held tags) in omega arith

module _ (c : MarkedProgram) where
  abbrev most : ℕ
  most = most_held c.tags

  frame_few : (operands : Operands) (f : Frame) (own : List ℕ) → Shows c operands f own → length own ≤ 1 + most
  frame_few operands f own s =
      let held : length s.stands.tags.held ≤ most = in_tags f.method s.stands.number c.tags s.stands.at.frames s.stands.tags s.stands.at.of_method s.stands.at.frame in
      grind (arith, nat_tests, held, shown_length c operands f own s)

  product : (n k a b : ℕ) → a ≤ 1 + k → b ≤ n * (1 + k) → a + b ≤ suc n * (1 + k)
  product n k a b e f = grind arith

  below_few : (callee : ℕ) (fs : List Frame) (shown : List ℕ) → ShowBelow c callee fs shown → length shown ≤ length fs * (1 + most)
  below_few callee [] shown b = let none : length shown ≡ 0 = ap (length {A = ℕ}) b in omega arith
  below_few callee (f ∷ fs) shown b =
      let long : length shown ≡ length b.0 + length b.1 = ap (length {A = ℕ}) b.2 ∙ length-append b.0 b.1 in
      let both : length b.0 + length b.1 ≤ suc (length fs) * (1 + most) = product (length fs) most (length b.0) (length b.1) (frame_few _ f b.0 b.3.shows) (below_few f.method fs b.1 b.4) in
      omega arith

  show_few : (operands : Operands) (fs : List Frame) (shown : List ℕ) → Show c operands fs shown → length shown ≤ length fs * (1 + most)
  show_few operands [] shown b = let none : length shown ≡ 0 = ap (length {A = ℕ}) b in omega arith
  show_few operands (f ∷ fs) shown b =
      let long : length shown ≡ length b.0 + length b.1 = ap (length {A = ℕ}) b.2 ∙ length-append b.0 b.1 in
      let both : length b.0 + length b.1 ≤ suc (length fs) * (1 + most) = product (length fs) most (length b.0) (length b.1) (frame_few operands f b.0 b.3) (below_few f.method fs b.1 b.4) in
      omega arith

  more_frames : (n k a : ℕ) → a < n * (1 + k) → n ≤ MOST_FRAMES → a < MOST_FRAMES * (1 + k)
  more_frames n k a e f = grind arith

  -- an entry of a monitor that is not held is shown besides those of the monitors that are
  one_more : (m : ℕ) (held : List Held) (operands : Operands) (fs : List Frame) (shown : List ℕ) → Show c operands fs shown → AreHeldOnce held → held_at held m ≡ None → ((k : ℕ) → held_depth k held + once_at m k ≤ count_in k shown)
      → length fs ≤ MOST_FRAMES → length held < places_of c
  one_more m held operands fs shown show once none deep few =
      let all : length (h ∷ held) ≤ length shown = few_held (h ∷ held) shown (none, omega arith, once) (λ k. grind (arith, nat_tests, deep k)) in
      let most_shown : length shown ≤ length fs * (1 + most) = show_few operands fs shown show in
      more_frames (length fs) most (length held) (omega arith) few
    where
      h : Held
      h = record { monitor = m; kept = keeps.Flat 0; depth = 1 }

pub has_room : HeldHasRoom
has_room c was s structured few adds = by_phase s.phase adds structured.is_as
  where
    by_phase : (phase : Phase) → AddsHeld phase → IsAs phase was → length s.held < places_of c
    by_phase (phases.Take m count) adds e = let k : Stands c (phases.Take m count) s.frames s.held s.attempt = subst (λ (phase : Phase). Stands c phase s.frames s.held s.attempt) e structured.stands in
        one_more c m s.held Whole s.frames k.shown k.show k.once k.phase_shows.not_held (λ n. let d = k.depths n in omega arith) few
    by_phase (phases.TakeFat m r) adds e = let k : Stands c (phases.TakeFat m r) s.frames s.held s.attempt = subst (λ (phase : Phase). Stands c phase s.frames s.held s.attempt) e structured.stands in
        one_more c m s.held Whole s.frames k.shown k.show k.once k.phase_shows.not_held (λ n. let d = k.depths n in omega arith) few
    by_phase (phases.Retake m r depth) adds e = let k : Stands c (phases.Retake m r depth) s.frames s.held s.attempt = subst (λ (phase : Phase). Stands c phase s.frames s.held s.attempt) e structured.stands in
        one_more c m s.held Whole s.frames k.shown k.show k.once k.phase_shows.not_held (λ n. grind (arith, nat_tests, k.depths n, k.phase_shows.some)) few
    by_phase phase adds e = absurd adds
