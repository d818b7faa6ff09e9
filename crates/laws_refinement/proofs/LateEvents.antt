-- An event inside an attempt whose lock word is no longer as it was noted: the attempt fails by it, or it goes on with fewer
-- instructions ahead.
use Rattle.std.proofs.Common.{◌≡◌, ℕ, zero, suc, ◌+◌, ◌-◌, ◌<◌, ◌≤◌, nat_lt, Bool, true, false, List, [], ◌∷◌, drop, length, Option, Some, None, refl, sym, ap, subst, ◌∙◌, arith, IsSome, option_map, if◌then◌else◌}
use Rattle.std.proofs.lemmas.Bool.Decides.{nat_tests}
use Rattle.lists.proofs.ListLaws.{same_some}
use Rattle.jvm_types.specs.{Members.is_synchronized, declared.{outcome.{End.TheVariants.Steps, Thrown.{Thrown, TheVariants.ArrayIndexOutOfBoundsException}}, program.Program.Program}}
use Rattle.checked_program.specs.MarkedProgram.{MarkedProgram, IsMarked}
use Rattle.machine_types.specs.{Core.is_live, Elision.{is_checked, is_same, elided, fails, if_same, looks, may_try}, Events.{element_made, wanted, moved}}
use Rattle.machine_types.specs.{FoundWords.{WordFits, content_at, effect_content, run_content}, Frames.{Top, top_of, frames_of, top_row, frame_on, effect_at, monitor_of, returned, went, went_on}}
use Rattle.machine_types.specs.{Going.{with_phase, runs, root_over, goes_on, goes_on_if, goes_after}, HeldMonitors.held_at, Instructions.{begun, did, effect_wants, indexed, instructed, ran, run_wants}, Ints.low}
use Rattle.machine_types.specs.Monitors.{Claim, enter_moves, finishes, leave_moves, finish_wants, leave_wants}
use Rattle.machine_types.specs.{Onward.{Onward, Running, Throwing, Entering, Leaving, RootReturned, Uncaught, threw, back, unwound}, ReadyObjects.thrown_of, Threads.{Attempt, Frame, Thread}}
use Rattle.machine_types.specs.{Words.{header_class, header_length, value_word}, declared.{access.Access.TheVariants.Load, effect.Effect.Effect}}
use Rattle.machine_types.specs.declared.effect.Effect.TheVariants.{Goes, Throws, Reads, Indexes, Measures, Raises, Calls, Returns, Enters, Leaves, Stuck}
use Rattle.machine_types.{specs.declared.phase.{After.{After, TheVariants.{Next, Return}}, Phase.Phase}, proofs.PlainPartLaws.frames_are}
use Rattle.laws_threads.specs.{InsideEffects.MayDo, TopFrames.IsAllowed}
use Rattle.laws_states.{specs.RunSafety.{GoesOnBy, HasAfter, HasEvent}, proofs.HeldOrTried.tried_at}
use Rattle.laws_refinement.{specs.TornRuns.begun_in, proofs.{Inside.{KnownInside}, InstructionsAhead.{IsTop, all_ahead, is_top, next_is_later, returned_on, top_goes_on, top_is_left}}}
use Rattle.machine_types.specs.declared.phase.After.TheVariants as afters
use Rattle.machine_types.specs.declared.phase.Phase.TheVariants as phases

-- ---- what is left to begin: nothing of a frame that is about to be left, and nothing where the next check is sure to come first

abbrev pub left_in : Program → (base : ℕ) → Phase → List Frame → ℕ
left_in p base phases.Run fs = all_ahead p base fs
left_in p base (phases.Element word stored) fs = all_ahead p base fs - 1
left_in p base (phases.Enter m tried) fs = all_ahead p base fs
left_in p base (phases.Leave m afters.Next) fs = all_ahead p base fs
left_in p base (phases.Leave m afters.Return) fs = all_ahead p base (drop 1 fs)
left_in p base phase fs = 0

abbrev left_on : Program → (base : ℕ) → Onward → ℕ
left_on p base (Running fs) = all_ahead p base fs
left_on p base (Entering m fs) = all_ahead p base fs
left_on p base (Leaving m e fs) = left_in p base (phases.Leave m e) fs
left_on p base o = 0

-- ---- behind an event

module _ (p : Program) (a : Attempt) where
  -- with n left before it, by an event that begins k: the attempt is over, or it is the same, and with those that it began no more is left
  pub record Falls (n k : ℕ) (y : Thread) : Type 0 where
    pub few : k ≤ n
    pub same : (b : Attempt) → y.attempt ≡ Some b → (inner : ℕ) × (b ≡ record a { inner = inner })
    pub fewer : (b : Attempt) → y.attempt ≡ Some b → k + left_in p a.base y.phase y.frames ≤ n

  over : (n k : ℕ) (y : Thread) → k ≤ n → y.attempt ≡ None → Falls n k y
  over n k y few none = record { few = few; same = λ b e. absurd (let bad : None ≡ Some b = sym none ∙ e in cc); fewer = λ b e. absurd (let bad : None ≡ Some b = sym none ∙ e in cc) }

  pub goes_on_with : (n k inner : ℕ) (y : Thread) → y.attempt ≡ Some (record a { inner = inner }) → k + left_in p a.base y.phase y.frames ≤ n → Falls n k y
  goes_on_with n k inner y is h = record { few = omega (arith, h); same = λ b e. (inner, same_some (sym e ∙ is)); fewer = λ b e. h }

  runs_with : (n k inner : ℕ) (s : Thread) → s.attempt ≡ Some (record a { inner = inner }) → k + all_ahead p a.base s.frames ≤ n → Falls n k (runs s)
  runs_with n k inner s is h =
      let few : left_in p a.base (runs s).phase s.frames ≤ all_ahead p a.base s.frames = elim (nat_lt s.counts.instructions s.cfg.steps) as
      (λ (b : Bool). left_in p a.base (if b then phases.Run else phases.Ending Steps) s.frames ≤ all_ahead p a.base s.frames) [ true ↦ omega arith | false ↦ omega arith ] in
      goes_on_with n k inner (runs s) is (omega (arith, h, few))

  goes : (n k inner : ℕ) (s : Thread) (o : Onward) → s.attempt ≡ Some (record a { inner = inner }) → k + left_on p a.base o ≤ n → Falls n k (goes_on s o)
  goes n k inner s (Running fs) is h = runs_with n k inner (record s { frames = fs }) is h
  goes n k inner s RootReturned is h =
      let few : left_in p a.base (root_over s.roots) [] ≤ 0 = elim s.roots as (λ (roots : List ℕ). left_in p a.base (root_over roots) [] ≤ 0) [ [] ↦ omega arith | number ∷ roots ↦ omega arith ] in
      goes_on_with n k inner (goes_on s RootReturned) is (omega (arith, h, few))
  goes n k inner s o is h = goes_on_with n k inner (goes_on s o) is h

  -- a check that fails
  check_fails : (n k : ℕ) (s : Thread) (o : Option Attempt) (got : ℕ) (more : Thread) → o ≡ Some a → is_same a got ≡ false → k ≤ n → Falls n k (if_same s o got more)
  check_fails n k s o got more is differs few = subst (λ (t : Option Attempt). Falls n k (if_same s t got more)) (sym is)
      (subst (λ (b : Bool). Falls n k (if b then more else fails s a)) (sym differs) (over n k (fails s a) few refl))

-- ---- an instruction

module _ (c : MarkedProgram) (marked : IsMarked c) (x : Thread) (a : Attempt) (tries : x.attempt ≡ Some a) where
  abbrev Lessens : (n k : ℕ) → Thread → Type 0
  Lessens n k y = Falls c.program a n k y

  module _ (at : Top) (k : IsTop c.program at.frame at.below at) (based : a.base ≤ length at.below) (here : frames_of at ≡ x.frames) where
    abbrev whole : ℕ
    whole = all_ahead c.program a.base (frames_of at)

    on_next : (made : ℕ) → 1 + all_ahead c.program a.base (went_on c.program at made) ≤ whole
    on_next made = top_goes_on c.program a.base at.frame at.below at k (frame_on (top_row c.program at) at.insn.next made at.frame) based refl (next_is_later c at.frame at.below at marked k)

    left_behind : 1 + all_ahead c.program a.base at.below ≤ whole
    left_behind = top_is_left c.program a.base at.frame at.below at k based

    on : (o : Onward) → 1 + left_on c.program a.base o ≤ whole → Lessens whole 1 (goes_on (begun x) o)
    on o h = goes c.program a whole 1 a.inner (begun x) o tries h

    thrown : (z : ℕ) (o : Option Thrown) → IsSome (option_map (λ class. Throwing z class (frames_of at)) o) → Lessens whole 1 (goes_on_if (begun x) (option_map (λ class. Throwing z class (frames_of at)) o))
    thrown z None some = absurd (cc)
    thrown z (Some class) some = on (Throwing z class (frames_of at)) (omega (arith, left_behind))

    gives_back : (b : Bool) → Lessens whole 1 (goes_on (begun x) (if b then Leaving (monitor_of c.program at.method at.frame) Return (frames_of at) else back (returned c.program at)))
    gives_back true = on (Leaving (monitor_of c.program at.method at.frame) Return (frames_of at)) left_behind
    gives_back false = (elim (returned c.program at) as (λ (frames : List Frame). 1 + all_ahead c.program a.base frames ≤ whole → Lessens whole 1 (goes_on (begun x) (back frames)))
        [ [] ↦ λ h. on RootReturned (omega (arith, left_behind)) | f ∷ below ↦ λ h. on (Running (f ∷ below)) h ]) (omega (arith, returned_on c marked a.base at, left_behind))

    -- an element is still to be read
    indexes : (array index count : ℕ) → Lessens whole 1 (indexed (begun x) at array index None count)
    indexes array index count = elim (nat_lt index count) as (λ (b : Bool). Lessens whole 1 (if b then with_phase (begun x) (phases.Element (value_word array index) None) else goes_on (begun x) (threw ArrayIndexOutOfBoundsException at))) [
      | true ↦ goes_on_with c.program a whole 1 a.inner (with_phase (begun x) (phases.Element (value_word array index) None)) tries (omega (arith, left_behind, ap (all_ahead c.program a.base) here))
      | false ↦ on (threw ArrayIndexOutOfBoundsException at) (omega (arith, left_behind))
    ]

    does : (e : Effect) (got : ℕ) → is_checked at.frame.pc e ≡ false → MayDo c a.monitor at e → IsAllowed c.program at e → GoesOnBy c.program at e got → Lessens whole 1 (did c.program (begun x) at e got)
    does (Goes to made) got free may allowed some =
        on (Running (went c.program at to made)) (top_goes_on c.program a.base at.frame at.below at k (frame_on (top_row c.program at) to made at.frame) based refl (grind (arith, nat_tests, free)))
    does (Throws z) got free may allowed some = on (threw z at) (omega (arith, left_behind))
    does (Reads v) got free may allowed some = on (Running (went_on c.program at got)) (on_next got)
    does (Indexes array index None) got free may allowed some = indexes array (low index) (header_length got)
    does (Measures array) got free may allowed some = on (Running (went_on c.program at (header_length got))) (on_next (header_length got))
    does (Raises z) got free may allowed some = thrown z (thrown_of (header_class got)) some
    does (Calls number) got free may allowed some = absurd (cc)
    does Returns got free may allowed some = gives_back (is_synchronized at.method.flags)
    does (Enters m) got free may allowed some = on (Entering m (went_on c.program at 0)) (on_next 0)
    does (Leaves m) got free may allowed some = on (Leaving m Next (went_on c.program at 0)) (on_next 0)
    does Stuck got free may allowed some = absurd allowed
    does e got free may allowed some = absurd may

    -- behind its check, where it has one, which fails
    instruction : (e : Effect) (got : ℕ) → (is_checked at.frame.pc e ≡ true → is_same a got ≡ false) → MayDo c a.monitor at e → IsAllowed c.program at e → GoesOnBy c.program at e got → Lessens whole 1 (instructed c.program (begun x) at e got)
    instruction e got missed may allowed some = (elim (is_checked at.frame.pc e) as (λ (b : Bool). is_checked at.frame.pc e ≡ b → Lessens whole 1 (if b then if_same (begun x) x.attempt got (did c.program (begun x) at e got) else did c.program (begun x) at e got))
        [ true ↦ λ checked. check_fails c.program a whole 1 (begun x) x.attempt got _ tries (missed checked) (omega (arith, left_behind)) | false ↦ λ free. does e got free may allowed some ]) refl

  -- an instruction that is checked looks at the lock word
  checked_looks : (pc : ℕ) (e : Effect) → is_checked pc e ≡ true → effect_wants x pc e ≡ looks x.attempt
  checked_looks pc (Goes to made) checked = subst (λ (b : Bool). (if b then looks x.attempt else None) ≡ looks x.attempt) (sym checked) refl
  checked_looks pc (Calls number) checked = refl
  checked_looks pc e checked = absurd (cc)

  looks_there : looks x.attempt ≡ Some (Load a.monitor)
  looks_there = ap looks tries

  -- ---- an element

  reads : (made : ℕ) → a.base < length x.frames → (at : Top) → top_of c.program x.frames ≡ Some at → Lessens (all_ahead c.program a.base x.frames - 1) 0
      (goes_on_if x (option_map (λ q. Running (went_on c.program q made)) (top_of c.program x.frames)))
  reads made based at found =
      let same : frames_of at ≡ x.frames = frames_are c.program x.frames at found in
      let less = on_next at (is_top c.program at.frame at.below at (ap (top_of c.program) same ∙ found)) (omega (arith, based, ap length same)) same made in
      subst (λ (o : Option Top). Lessens (all_ahead c.program a.base x.frames - 1) 0 (goes_on_if x (option_map (λ q. Running (went_on c.program q made)) o))) (sym found)
      (goes c.program a (all_ahead c.program a.base x.frames - 1) 0 a.inner x (Running (went_on c.program at made)) tries (omega (arith, less, ap (all_ahead c.program a.base) same)))

  -- ---- monitors

  module _ (inner : ℕ) where
    abbrev left : Thread
    left = record x { attempt = Some (record a { inner = inner }) }

    back_to : (n : ℕ) (frames : List Frame) → all_ahead c.program a.base frames ≤ n → Lessens n 0 (goes_on left (back frames))
    back_to n [] h = goes c.program a n 0 inner left RootReturned refl (omega arith)
    back_to n (f ∷ below) h = goes c.program a n 0 inner left (Running (f ∷ below)) refl (omega (arith, h))

    unwinds : (n r : ℕ) (class : Thrown) (below : List Frame) → Lessens n 0 (goes_on left (unwound r class below))
    unwinds n r class [] = goes c.program a n 0 inner left (Uncaught class) refl (omega arith)
    unwinds n r class (f ∷ below) = goes c.program a n 0 inner left (Throwing r class (f ∷ below)) refl (omega arith)

    behind : (m : ℕ) (e : After) → HasAfter c.program e x.frames → Lessens (left_in c.program a.base (phases.Leave m e) x.frames) 0 (goes_after c.program left e)
    behind m afters.Next has = runs_with c.program a (all_ahead c.program a.base x.frames) 0 inner left refl (omega arith)
    behind m afters.Return has =
        let at : Top = has.0 in
        let same : at.below ≡ drop 1 x.frames = ap (λ (fs : List Frame). drop 1 fs) (frames_are c.program x.frames at has.1) in
        let few : all_ahead c.program a.base (returned c.program at) ≤ all_ahead c.program a.base (drop 1 x.frames) = subst (λ (fs : List Frame). all_ahead c.program a.base (returned c.program at) ≤ all_ahead c.program a.base fs) same (returned_on c marked a.base at) in
        subst (λ (o : Option Top). Lessens (all_ahead c.program a.base (drop 1 x.frames)) 0 (goes_on_if left (option_map (λ q. back (returned c.program q)) o))) (sym has.1)
        (back_to (all_ahead c.program a.base (drop 1 x.frames)) (returned c.program at) few)
    behind m (afters.Unwind r class) has = unwinds 0 r class (drop 1 x.frames)

  finish : (m : ℕ) (e : After) (inner got : ℕ) → HasAfter c.program e x.frames → (finish_wants m inner ≡ Some (Load m) → is_same a got ≡ false) → Lessens (left_in c.program a.base (phases.Leave m e) x.frames) 0 (finishes c.program x e a inner got)
  finish m e zero got has missed =
      subst (λ (b : Bool). Lessens (left_in c.program a.base (phases.Leave m e) x.frames) 0 (if b then goes_after c.program (elided x) e else fails x a)) (sym (missed refl))
      (over c.program a (left_in c.program a.base (phases.Leave m e) x.frames) 0 (fails x a) (omega arith) refl)
  finish m e (suc inner) got has missed = behind inner m e has

  -- ---- all phases

  pub late : (phase : Phase) (got : ℕ) → x.phase ≡ phase → KnownInside c x a phase → a.base < length x.frames → (is_live phase ≡ true → HasEvent c x phase) → WordFits c.program (content_at c x phase) got
      → (wanted c x phase ≡ Some (Load a.monitor) → is_same a got ≡ false) → Lessens (left_in c.program a.base phase x.frames) (begun_in phase) (moved c x phase got)
  late phases.Run got e known based has fits missed =
      let at : Top = (has refl).at in
      let same : frames_of at ≡ x.frames = frames_are c.program x.frames at (has refl).found in
      let found : top_of c.program (frames_of at) ≡ Some at = ap (top_of c.program) same ∙ (has refl).found in
      let may : MayDo c a.monitor at (effect_at c.program at) = subst (λ (q : Top). MayDo c a.monitor q (effect_at c.program q)) (same_some (sym known.found ∙ (has refl).found)) known.may in
      let few : a.base ≤ length at.below = (let long : length (frames_of at) ≡ length x.frames = ap length same in omega (arith, based, long)) in
      let word : WordFits c.program (effect_content c.program at.target (effect_at c.program at)) got = subst (λ (o : Option Top). WordFits c.program (run_content c.program o) got) (has refl).found fits in
      let fails_if : is_checked at.frame.pc (effect_at c.program at) ≡ true → is_same a got ≡ false =
      λ checked. missed (ap (run_wants c.program x) (has refl).found ∙ checked_looks at.frame.pc (effect_at c.program at) checked ∙ looks_there) in
      subst (λ (fs : List Frame). Lessens (all_ahead c.program a.base fs) 1 (ran c.program x (top_of c.program x.frames) got)) same
      (subst (λ (o : Option Top). Lessens (all_ahead c.program a.base (frames_of at)) 1 (ran c.program x o got)) (sym (has refl).found)
      (instruction at (is_top c.program at.frame at.below at found) few same (effect_at c.program at) got fails_if may (has refl).allowed ((has refl).goes_on got word)))
  late (phases.Element word stored) got e known based has fits missed = reads (element_made stored got) based known.at known.found
  late (phases.Throw r class) got e known based has fits missed = check_fails c.program a 0 0 x x.attempt got _ tries (missed looks_there) (omega arith)
  late (phases.Enter m tried) got e known based has fits missed = subst (λ (q : Claim). Lessens (all_ahead c.program a.base x.frames) 0 (enter_moves x m tried (may_try c x tried) q got)) (sym known)
      (runs_with c.program a (all_ahead c.program a.base x.frames) 0 (a.inner + 1) (record x { attempt = Some (record a { inner = a.inner + 1 }) }) refl (omega arith))
  late (phases.Leave m after) got e known based has fits missed =
      let same : m ≡ a.monitor = sym (tried_at m (held_at x.held m) x.attempt a known).1 in
      let looked : finish_wants m a.inner ≡ Some (Load m) → is_same a got ≡ false = λ w. missed (ap (leave_wants x m) known ∙ w ∙ ap (λ (n : ℕ). Some (Load n)) same) in
      subst (λ (q : Claim). Lessens (left_in c.program a.base (phases.Leave m after) x.frames) 0 (leave_moves c.program x m after q got)) (sym known) (finish m after a.inner got (has refl).1 looked)
  late (phases.Ending end) got e known based has fits missed = goes_on_with c.program a 0 0 a.inner (with_phase x (phases.Ended end)) tries (omega arith)
  late (phases.Ended end) got e known based has fits missed = goes_on_with c.program a 0 0 a.inner x tries (rw e (omega arith))
  late phase got e known based has fits missed = absurd known
