-- An event inside an attempt, by its phase: it goes on with the attempt or ends it.
use Rattle.std.proofs.Common.{◌≡◌, ℕ, zero, suc, ◌+◌, ◌-◌, ◌<◌, Bool, true, false, cond, List, [], ◌∷◌, Option, Some, None, refl, sym, ap, ◌∙◌, subst, arith, nat_lt, drop, slice_index, option_map, option_and_then, if◌then◌else◌}
use Rattle.std.proofs.lemmas.Bool.Decides.{nat_tests}
use Rattle.lists.proofs.{ListLaws.same_some, TestLaws.same_number}
use Rattle.jvm_types.specs.declared.{class_numbers.TheConstants.INT_ARRAY_CLASS, outcome.{End.End, Thrown.{Thrown, TheVariants.ArrayIndexOutOfBoundsException}}}
use Rattle.checked_program.specs.MarkedProgram.{MarkedProgram, IsMarked}
use Rattle.machine_types.specs.{Accesses.found_by, Construction.PhaseKeepsFrames, Effects.read_by, Elision.{is_same, fails, elided, may_try}, Events.{wanted, moved}}
use Rattle.machine_types.specs.{Frames.{Top, top_of, handler_at, returned, went_on}, Going.{goes_on, goes_on_if, goes_after, runs, with_phase}}
use Rattle.machine_types.specs.{History.{Fate, GoesOn, Finishes, fate, fate_by, leave_fate, acts_of, enter_acts, leave_acts, act_if, with_begun}, Ints.low}
use Rattle.machine_types.specs.Monitors.{Claim, Tries, claim, enter_wants, enter_moves, finish_wants, leave_wants, leave_moves, finishes}
use Rattle.machine_types.specs.{Onward.{Onward, Running, threw, handed, back, unwound, dispatched, after}, PlainInstructions.got_by, ReadyObjects.class_of}
use Rattle.machine_types.specs.Replay.{Alone, only_on, reads_only, goes, instructs, enters, leaves, replay_act, begun_and_done, status_inside, at_present}
use Rattle.machine_types.specs.{Structure.{IsAs, IsLimitAt, CountsTurns, DrawsToWait, IsStructured, AttemptStands, AfterShows, PhaseShows}, Threads.{Frame, Thread}, Typed.{PhaseHolds, HasClass}}
use Rattle.machine_types.specs.{Words.{header_word, value_word}, declared.{effect.{Effect.{Effect, TheVariants.{Reads, Indexes}}, Variable.TheVariants.Static}, phase.After.After}}
use Rattle.machine_types.specs.declared.{phase.{After.TheVariants.{Next, Return, Unwind}, Phase.Phase}, plain.Act.{Act, TheVariants.{Do, Enter, Exit}}}
use Rattle.laws_threads.{specs.{InsideEffects.TakesOwned, InsideMoves.{TopStands}, TopFrames.EffectsAreAllowed}, proofs.{EntryKept.{steps_kept, throws_kept, leaves_kept}, Landing.stand_top, Standings.top_here}}
use Rattle.laws_states.{specs.{FoundLaws.HeapWordsFit}, proofs.PlainMoves.goes_attempt}
use Rattle.laws_simulation.proofs.{ElementEvents.{Element, element_in, has_element}}
use Rattle.laws_refinement.{specs.ElidedSteps.next_free, proofs.Attempting.{Trying, StaysNow, attempt_as, stands_as, inside_as, frames_as, holds_as, inside_of}}
use Rattle.laws_refinement.proofs.{Checks.checked, Inside.{AtElement, KnownInside}}
use Rattle.laws_refinement.proofs.{GoingOn.{Grows, GoesAlike, IsElementRead, Knows, all_done, inner_as, none_begun, plain_as, comes_there, going_alike, grown}, Instructions.{ByFate, runs_by_fate}, StayPlaces.{element_stays, header_stays, top_array}}
use Rattle.jvm_types.specs.declared.outcome.End.TheVariants as ends
use Rattle.machine_types.specs.PlainState as plain
use Rattle.machine_types.specs.declared.phase.Phase.TheVariants as phases

-- ---- the top frame is there

pub top_there : (c : MarkedProgram) (fs : List Frame) → IsMarked c → TopStands c fs → (at : Top) × (top_of c.program fs ≡ Some at)
top_there c [] marked k = absurd k
top_there c (f ∷ fs) marked k = (top_here c f fs k, stand_top c marked f fs k)

-- so a thread that has left a monitor goes on
after_there : (c : MarkedProgram) (m : ℕ) (e : After) (fs : List Frame) → IsMarked c → AfterShows c m e fs → (o : Onward) × (after c.program fs e ≡ Some o)
after_there c m Next fs marked k = (Running fs, refl)
after_there c m (Unwind y class) fs marked k = (unwound y class (drop 1 fs), refl)
after_there c m Return [] marked k = absurd k
after_there c m Return (f ∷ fs) marked k =
    let top = top_there c (f ∷ fs) marked k.0 in
    (back (returned c.program top.0), ap (option_map (λ at. back (returned c.program at))) top.1)

-- ---- a limit leaves a thread where it was, and no element to be read

abbrev IsCalm : Phase → Type 0
IsCalm phase = (status_inside phase ≡ plain.Run) × IsElementRead phase

turn_calm : (phase : Phase) → CountsTurns phase → IsCalm phase
turn_calm (phases.Acquire m) k = (refl, tt)
turn_calm phase k = (first_of (cc, grind arith), assumption)

draw_calm : (phase : Phase) → DrawsToWait phase → IsCalm phase
draw_calm (phases.Grow m toward) k = (refl, tt)
draw_calm phase k = absurd k

limit_calm : (e : End) (phase was : Phase) → IsCalm phase → IsLimitAt e phase was → IsCalm was
limit_calm ends.Turns phase was r k = turn_calm was k
limit_calm ends.Records phase was r k = draw_calm was k
limit_calm ends.Steps phase was r k = subst IsCalm (sym k) (refl, tt)
limit_calm ends.Prints phase was r k = subst IsCalm (sym k) (refl, tt)
limit_calm e phase was r k = subst IsCalm (sym k) r

-- ---- of a thread in an attempt

module _ (fit : HeapWordsFit) (allowed : EffectsAreAllowed) (trying : Trying) (now : Phase) where
  open trying use {c, objects, was, s, t, x, marked, facts, here, a, tries}

  abbrev Keeps : (n : ℕ) → Type 0
  Keeps = StaysNow trying

  abbrev pub found_in : Phase → ℕ
  found_in phase = found_by s.words (wanted c x phase)

  abbrev pub Grown : Phase → Thread → List Act → Type 0
  Grown phase y acts = Grows c.program Keeps s.words x a (was t) now phase y acts

  abbrev pub By : Phase → Fate → Thread → List Act → Type 0
  By phase fate y acts = ByFate c.program Keeps s.words x a (was t) now phase fate y acts

  abbrev pub EventInside : Phase → Type 0
  EventInside phase = IsStructured c now (moved c x phase (found_in phase)) → By phase (fate c x a phase (found_in phase)) (moved c x phase (found_in phase)) (acts_of c x phase (found_in phase))

  attempt_stands : AttemptStands c (was t) x.frames x.held a
  attempt_stands = attempt_as trying (was t) refl

  -- in a phase
  abbrev present : Phase → (n : ℕ) (ended : List End) → Alone
  present phase n ended = at_present x a phase n ended

  -- ---- an exception

  throws_top : (fs : List Frame) (y : ℕ) (class : Thrown) (shown : List ℕ) → PhaseShows c (phases.Throw y class) fs shown x.held (Some a) → (at : Top) × (top_of c.program fs ≡ Some at)
  throws_top [] y class shown k = absurd k
  throws_top (f ∷ fs) y class shown k = top_there c (f ∷ fs) marked k.0

  module _ (y : ℕ) (class : Thrown) (counted : was t ≡ phases.Throw y class) where
    abbrev its_top : (at : Top) × (top_of c.program x.frames ≡ Some at)
    its_top = let k = stands_as trying (phases.Throw y class) counted in throws_top x.frames y class k.shown k.phase_shows

    abbrev its_onward : Onward
    its_onward = handed c.program y class its_top.0 (handler_at (class_of class) its_top.0)

    dispatches : dispatched c.program y class x.frames ≡ Some its_onward
    dispatches = ap (option_map (λ at. handed c.program y class at (handler_at (class_of class) at))) its_top.1

    throw_grows : IsStructured c now (goes_on_if x (dispatched c.program y class x.frames)) → Grown (phases.Throw y class) (goes_on_if x (dispatched c.program y class x.frames)) (Do ∷ [])
    throw_grows k =
        let alike : GoesAlike c x a now x its_onward =
        going_alike c x a now x a.inner refl attempt_stands.based its_onward tries (throws_kept c.program x.frames a y class its_onward dispatches) (subst (λ (o : Option Onward). IsStructured c now (goes_on_if x o)) dispatches k) in
        let acted : (memory : ℕ → Option ℕ) (n : ℕ) (ended : List End) → replay_act c.program a.monitor memory (present (phases.Throw y class) n ended) Do (plain.Throw y class) ≡ Some (at_present (goes_on x its_onward) a now n ended) =
        λ memory n ended.
        ap (λ (o : Option Onward). goes (present (phases.Throw y class) n ended) (option_and_then (only_on a.monitor) o)) dispatches
        ∙ ap (goes (present (phases.Throw y class) n ended)) alike.only ∙ comes_there c x a now x its_onward a.inner alike (plain.Throw y class) ended n in
        let its_grown : Grown (phases.Throw y class) (goes_on x its_onward) (Do ∷ []) =
        grown c x a now x its_onward a.inner alike Keeps s.words (was t) (phases.Throw y class) Do counted tries (λ memory knows n some ended. acted memory n ended) in
        subst (λ (o : Option Onward). Grown (phases.Throw y class) (goes_on_if x o) (Do ∷ [])) (sym dispatches) its_grown

  -- ---- an entry of its monitor

  module _ (m tried : ℕ) (counted : was t ≡ phases.Enter m tried) (claims : claim x m ≡ Tries a) where
    abbrev deeper : Thread
    deeper = runs (record x { attempt = Some (record a { inner = a.inner + 1 }) })

    enter_grows : IsStructured c now deeper → Grown (phases.Enter m tried) deeper (Enter ∷ [])
    enter_grows k =
        let z : Thread = record x { attempt = Some (inner_as a (a.inner + 1)) } in
        let alike : GoesAlike c x a now z (Running x.frames) = going_alike c x a now z (a.inner + 1) refl attempt_stands.based (Running x.frames) refl (λ before behind. refl) k in
        let acted : (memory : ℕ → Option ℕ) (n : ℕ) (ended : List End) → replay_act c.program a.monitor memory (present (phases.Enter m tried) n ended) Enter (plain.Enter m) ≡ Some (at_present deeper (inner_as a (a.inner + 1)) now n ended) =
        λ memory n ended.
        let depth : suc a.inner + 1 ≡ suc (a.inner + 1) = omega arith in
        ap (λ (b : Bool). cond b (Some (enters (present (phases.Enter m tried) n ended))) None) (same_number m a.monitor (inside_as trying (phases.Enter m tried) counted))
        ∙ ap (λ (d : ℕ). goes (record { thread = plain_as x (plain.Enter m) ended; depth = d; begun = n }) (Some (Running x.frames))) depth
        ∙ comes_there c x a now z (Running x.frames) (a.inner + 1) alike (plain.Enter m) ended n in
        grown c x a now z (Running x.frames) (a.inner + 1) alike Keeps s.words (was t) (phases.Enter m tried) Enter counted refl (λ memory knows n some ended. acted memory n ended)

    abbrev EnterBy : Claim → Type 0
    EnterBy q = IsStructured c now (enter_moves x m tried (may_try c x tried) q (found_by s.words (enter_wants m q)))
        → By (phases.Enter m tried) GoesOn (enter_moves x m tried (may_try c x tried) q (found_by s.words (enter_wants m q))) (enter_acts q)

  -- ---- an exit

  module _ (m : ℕ) (e : After) (counted : was t ≡ phases.Leave m e) (claims : claim x m ≡ Tries a) where
    abbrev goes_there : (o : Onward) × (after c.program x.frames e ≡ Some o)
    goes_there = after_there c m e x.frames marked (stands_as trying (phases.Leave m e) counted).phase_shows

    module _ (n : ℕ) (inner : a.inner ≡ suc n) where
      abbrev shallower : Thread
      shallower = record x { attempt = Some (record a { inner = n }) }

      leave_grows : IsStructured c now (goes_after c.program shallower e) → Grown (phases.Leave m e) (goes_after c.program shallower e) (Exit ∷ [])
      leave_grows k =
          let alike : GoesAlike c x a now shallower goes_there.0 =
          going_alike c x a now shallower n refl attempt_stands.based goes_there.0 refl (leaves_kept c.program x.frames a e goes_there.0 goes_there.1) (subst (λ (o : Option Onward). IsStructured c now (goes_on_if shallower o)) goes_there.1 k) in
          let acted : (memory : ℕ → Option ℕ) (begun : ℕ) (ended : List End) → replay_act c.program a.monitor memory (present (phases.Leave m e) begun ended) Exit (plain.Leave m e) ≡ Some (at_present (goes_on shallower goes_there.0) (inner_as a n) now begun ended) =
          λ memory begun ended.
          let z : Alone = present (phases.Leave m e) begun ended in
          ap (λ (b : Bool). cond b (leaves c.program z e (suc a.inner)) None) (same_number m a.monitor (inside_as trying (phases.Leave m e) counted))
          ∙ ap (λ (depth : ℕ). leaves c.program z e (suc depth)) inner
          ∙ ap (goes (record z { depth = suc n })) goes_there.1 ∙ comes_there c x a now shallower goes_there.0 n alike (plain.Leave m e) ended begun in
          let its_grown : Grown (phases.Leave m e) (goes_on shallower goes_there.0) (Exit ∷ []) =
          grown c x a now shallower goes_there.0 n alike Keeps s.words (was t) (phases.Leave m e) Exit counted refl (λ memory knows begun some ended. acted memory begun ended) in
          subst (λ (o : Option Onward). Grown (phases.Leave m e) (goes_on_if shallower o) (Exit ∷ [])) (sym goes_there.1) its_grown

    abbrev InnerBy : ℕ → Type 0
    InnerBy i = IsStructured c now (finishes c.program x e a i (found_by s.words (finish_wants m i)))
        → By (phases.Leave m e) (cond (nat_lt 0 i) GoesOn (fate_by (is_same a (found_by s.words (finish_wants m i))) Finishes)) (finishes c.program x e a i (found_by s.words (finish_wants m i))) (act_if (nat_lt 0 i) Exit)

    by_inner : (i : ℕ) → a.inner ≡ i → InnerBy i
    by_inner zero f k = elim (is_same a (found_by s.words (finish_wants m zero))) as (λ (b : Bool). By (phases.Leave m e) (fate_by b Finishes) (cond b (goes_after c.program (elided x) e) (fails x a)) [])
        [ true ↦ goes_attempt (elided x) (after c.program x.frames e) | false ↦ refl ]
    by_inner (suc n) f k =
        let more : nat_lt 0 (suc n) ≡ true = grind (arith, nat_tests) in
        subst (λ (b : Bool). By (phases.Leave m e) (cond b GoesOn (fate_by (is_same a (found_by s.words (finish_wants m (suc n)))) Finishes)) (goes_after c.program (record x { attempt = Some (record a { inner = n }) }) e) (act_if b Exit)) (sym more)
        (leave_grows n f k)

    abbrev LeaveBy : Claim → Type 0
    LeaveBy q = IsStructured c now (leave_moves c.program x m e q (found_by s.words (leave_wants x m q)))
        → By (phases.Leave m e) (leave_fate q (found_by s.words (leave_wants x m q))) (leave_moves c.program x m e q (found_by s.words (leave_wants x m q))) (leave_acts x q (found_by s.words (leave_wants x m q)))

  -- ---- an element, of an array that the monitor's object owns

  module _ (word : ℕ) (stored : Option ℕ) (is_as : x.phase ≡ phases.Element word stored)
      (counted : was t ≡ phases.Element word stored) where
    abbrev frames_hold : PhaseHolds c (HasClass objects) (phases.Element word stored) x.frames
    frames_hold = holds_as trying (phases.Element word stored) is_as

    its_element : Element c objects x word stored
    its_element = element_in c objects s x marked facts.heap word stored x.frames refl frames_hold.0
        frames_hold.1 (facts.heap.typed.elements t x word stored here is_as) (stands_as trying (phases.Element word stored) counted).phase_shows

  module _ (word : ℕ) (is_as : x.phase ≡ phases.Element word None)
      (counted : was t ≡ phases.Element word None) (known : AtElement c x a None) where
    abbrev k : Element c objects x word None
    k = its_element word None is_as counted

    abbrev read_on : Onward
    read_on = Running (went_on c.program (its_element word None is_as counted).at (slice_index s.words word))

    abbrev frames_keep : PhaseKeepsFrames c trying.frozen trying.owning (trying.con.each t x here).now (next_free s) t (phases.Element word None) x.frames
    frames_keep = frames_as trying (phases.Element word None) counted

    element_there : Keeps word
    element_there = element_stays trying frames_keep k.at k.found word (top_array c trying.frozen trying.owning (trying.con.each t x here).now (next_free s) t objects word marked
        x.frames k.at frames_keep (frames_hold word None is_as counted).1 (stands_as trying (phases.Element word None) counted).phase_shows (facts.heap.typed.elements t x word None here is_as)
        (frames_hold word None is_as counted).0 k.found) (subst (TakesOwned c a.monitor) (same_some (sym known.found ∙ k.found)) known.owned)

    moves : goes_on_if x (option_map (λ at. Running (went_on c.program at (slice_index s.words word))) (top_of c.program x.frames)) ≡ goes_on x
        read_on
    moves = ap (λ (o : Option Top). goes_on_if x (option_map (λ at. Running (went_on c.program at (slice_index s.words word))) o)) k.found

    read_grows : IsStructured c now (goes_on x read_on) → Grown (phases.Element word None) (goes_on x read_on) (Do ∷ [])
    read_grows stands_so =
        let alike : GoesAlike c x a now x read_on = going_alike c x a now x a.inner refl attempt_stands.based read_on tries (steps_kept c.program x.frames a k.at (Reads (Static 0))
        (slice_index s.words word) read_on k.found refl) stands_so in
        let found_there : (memory : ℕ → Option ℕ) → Knows Keeps s.words memory → reads_only c.program memory k.at (Indexes k.array k.index None) (slice_index s.words (header_word k.array)) ≡ Some read_on =
        λ memory knows.
        ap (λ (b : Bool). if b then option_map (λ v. Running (went_on c.program k.at v)) (memory (value_word k.array (low k.index))) else Some (threw ArrayIndexOutOfBoundsException k.at))
        (has_element c objects s x marked facts.heap word None k) ∙ ap (λ (n : ℕ). option_map (λ v. Running (went_on c.program k.at v)) (memory n)) (sym k.word_is)
        ∙ ap (option_map (λ v. Running (went_on c.program k.at v))) (knows word element_there) in
        let acted : (memory : ℕ → Option ℕ) → Knows Keeps s.words memory → (n : ℕ) → 0 < n → (ended : List End) → replay_act c.program a.monitor memory (present (phases.Element word None) n ended) Do plain.Run ≡ Some (at_present (goes_on x read_on) a now n ended) =
        λ memory knows n some ended.
        let z : Alone = present (phases.Element word None) n ended in
        let more : Alone = record z { begun = n - 1 + 1 } in
        ap (instructs c.program a.monitor memory z) k.found ∙ ap (λ (e : Effect). goes more (option_and_then (λ word. option_and_then (only_on a.monitor)
        (reads_only c.program memory k.at e word)) (got_by memory (read_by e)))) k.effect_is ∙ ap (λ (o : Option ℕ). goes more (option_and_then (λ word. option_and_then (only_on a.monitor)
        (reads_only c.program memory k.at (Indexes k.array k.index None) word)) o)) (knows (header_word k.array) (header_stays trying frames_keep k.at k.found INT_ARRAY_CLASS k.array k.is_array))
        ∙ ap (λ (o : Option Onward). goes more (option_and_then (only_on a.monitor) o)) (found_there memory knows)
        ∙ ap (goes more) alike.only ∙ ap (λ (k : ℕ). goes (record z { begun = k }) (Some read_on)) (omega (arith, some)) ∙ comes_there c x a now x read_on a.inner alike plain.Run ended n in
        grown c x a now x read_on a.inner alike Keeps s.words (was t) (phases.Element word None) Do counted tries acted

    read_inside : EventInside (phases.Element word None)
    read_inside stands_so = subst (λ (y : Thread). Grown (phases.Element word None) y (Do ∷ [])) (sym moves) (read_grows (subst (IsStructured c now) moves stands_so))

  -- ---- a limit

  limited : (e : End) (phase later : Phase) → IsCalm phase → ((n : ℕ) → n ≡ with_begun n phase) → IsLimitAt e phase (was t) → IsAs (phases.Ended e) now → Grown phase (with_phase x later) []
  limited e phase later calm same k is_as = record {
    inner = a.inner;
    attempt = tries;
    entry = λ ended. refl;
    begun = λ n. none_begun now (with_begun n phase) read;
    replays = λ memory knows n some ended.
        let status : status_inside (was t) ≡ status_inside now = (limit_calm e phase (was t) calm k).0 ∙ sym (limit_calm e (phases.Ended e) now (refl, tt) is_as).0 in
        let count : begun_and_done (was t) n ≡ begun_and_done now (with_begun n phase) = all_done (was t) n (limit_calm e phase (was t) calm k).1 ∙ same n ∙ sym (all_done now (with_begun n phase) read) in
        (λ i. Some (let next : Alone = record { thread = plain_as x (status i) ended; depth = suc a.inner; begun = count i } in next));
  }
    where
      read : IsElementRead now
      read = (limit_calm e (phases.Ended e) now (refl, tt) is_as).1

  -- ---- all phases

  by_phase : (phase : Phase) → x.phase ≡ phase → IsAs phase (was t) → KnownInside c x a phase → EventInside phase
  by_phase phases.Run e k known = runs_by_fate fit allowed trying e known.at known.found now
  by_phase (phases.Throw y class) e k known = checked (λ z f. IsStructured c now z → By (phases.Throw y class) f z (Do ∷ [])) a x (goes_on_if x (dispatched c.program y class x.frames))
      (found_in (phases.Throw y class)) x.attempt tries (throw_grows y class k) (λ l. refl)
  by_phase (phases.Enter m tried) e k known = subst (EnterBy m tried k known) (sym known) (enter_grows m tried k known)
  by_phase (phases.Leave m after) e k known = subst (LeaveBy m after k known) (sym known) (by_inner m after k known a.inner refl)
  by_phase (phases.Ending reason) e k known = λ l. limited reason (phases.Ending reason) (phases.Ended reason) (refl, tt) (λ n. refl) k l.is_as
  by_phase (phases.Ended reason) e k known = λ l. limited reason (phases.Ended reason) x.phase (refl, tt) (λ n. refl) k (subst (λ (phase : Phase). IsAs phase now) e l.is_as)
  by_phase (phases.Element word None) e k known = read_inside word e k known
  by_phase (phases.Element word (Some v)) e k known = absurd (let bad : Some v ≡ None = known.read in cc)
  by_phase phase e k known = absurd known

  pub event_inside : EventInside x.phase
  event_inside = by_phase x.phase refl (facts.structure t x here).is_as (inside_of trying).known
