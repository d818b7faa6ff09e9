-- Each event of a thread keeps its locking structured.
use Rattle.std.proofs.Common.{◌≡◌, inl, inr, ℕ, Bool, true, cond, List, [], ◌∷◌, ◌++◌, Option, Some, None, refl, sym, ap, ◌∙◌, subst, arith, ◌+◌, nat_lt, slice_get, option_map, ◌&&◌, IsTrue}
use Rattle.std.specs.List.{AllByRecursion}
use Rattle.lists.proofs.TestLaws.{both_are_true}
use Rattle.jvm_types.specs.{Members.is_synchronized, Numbers.has_number, declared.{limits.TheConstants.MOST_ATTEMPTS, outcome.{End.End, Thrown.TheVariants.StackOverflowError}}}
use Rattle.jvm_types.specs.declared.program.{MethodInfo.MethodInfo, Row.Row}
use Rattle.checked_program.specs.MarkedProgram.{MarkedProgram, IsMarked}
use Rattle.machine_types.specs.{Bounds.{IsRooted, part_roots}, Elision.{may_try, enters_marked}, Events.{thread_started, element_made, moved}, Going.{with_phase, failed_turn, goes_on, goes_on_if}}
use Rattle.machine_types.specs.{Frames.{Top, top_of, frames_of, went_on, pushed, has_room, entry_frame, monitor_of, handler_at}, HeldMonitors.{held_at, without_held}, ReadyObjects.class_of}
use Rattle.machine_types.specs.{Monitors.{lets_go, HasNot, claim}, Onward.{Running, Leaving, Uncaught, rooted, root_arguments, handed, unwound, Onward}, Shown.Show, declared.lock.Held.Held}
use Rattle.machine_types.specs.{Standing.{Whole, Thrown}, Structure.{Stands, AttemptStandsIn, IsStructured, IsAs, IsLimitAt, IsPhaseInside, count_in}, Threads.{Frame, Attempt, Thread}}
use Rattle.machine_types.specs.{Typed.{Classes, AfterHolds, PhaseHolds, ThreadHolds}, declared.{lock.Kept.Kept, phase.{After.After, Phase.Phase}}}
use Rattle.laws_threads.{specs.{InsideMoves.{BeginsAttempt, EntersInside}, StructureLaws.{StaysStructured, StructureIsKept, counted_by, turned_from}}, proofs.{FrameCalls.roots_law, Tests.either_way}}
use Rattle.laws_threads.proofs.{FramePlaces.tops_stand_law, FrameThrows.{caught_law, unwound_law}, GoingOn.{unwound_shows, pushed_frame, OnwardShows, none_goes_on, each_goes_on, onward_stands, going}}
use Rattle.laws_threads.proofs.MonitorEntries.{from_take, from_flag, from_take_fat, takes_next, takes_fat_next, looks_again, flags, turned_back, turned_back_fat, looks_at_lock, taken, again, to_acquire, begun, deeper_inside, none_tried}
use Rattle.laws_threads.proofs.{MoveProofs.{elements_law, pushed_law}, Releases.{AtExit, left_with, left_deeper, left_last, grows_first, left_elided, left_inside}, Roots.{IsSomeRoot, part_root}}
use Rattle.laws_threads.proofs.{Steps.elements_inside, Throws.throws_inside, Turns.{TurnsIn, no_try, failing, no_attempt, outside, running, turning}}
use Rattle.laws_threads.proofs.ThreadMove.{if_either, Looks, Lacks, GoesBy, Checks, LeadsTo, TurnsTo, Takes, GivesUp, Move, becomes, mover, by_move, of_mover, not_held, tried_attempt, tried_monitor}
use Rattle.laws_threads.proofs.Waits.{fattened, given_up, retaken}
use Rattle.jvm_types.specs.declared.outcome.End.TheVariants as ends
use Rattle.jvm_types.specs.declared.outcome.Thrown as outcomes
use Rattle.machine_types.specs.Lawful as lawful
use Rattle.machine_types.specs.declared.phase.After.TheVariants as afters
use Rattle.machine_types.specs.declared.phase.Phase.TheVariants as phases
use Rattle.machine_types.specs.declared.phase.Toward.TheVariants as towards
use Rattle.laws_threads.proofs.HeldLists as lists
use Rattle.laws_threads.proofs.Instructions as instruction
use Rattle.laws_threads.proofs.ThreadMove as moves

module _ (c : MarkedProgram) (marked : IsMarked c) (was : Phase) (s : Thread) where
  -- ---- an exception and one frame

  module _ (x : ℕ) (class : outcomes.Thrown) (k : Stands c (phases.Throw x class) s.frames s.held s.attempt) (at : Top) (t : top_of c.program s.frames ≡ Some at) where
    handed_shows : (r : Option Row) → handler_at (class_of class) at ≡ r → OnwardShows c (handed c.program x class at r) k.shown
    handed_shows (Some r) e = (tt, caught_law c s.frames k.shown at (class_of class) x r marked t k.show k.phase_shows e)
    handed_shows None e =
        let left = unwound_law c s.frames k.shown at (class_of class) marked t k.show k.phase_shows e in
        either_way (λ (b : Bool). is_synchronized at.method.flags ≡ b → k.shown ≡ cond b (monitor_of c.program at.method at.frame ∷ []) [] ++ left.0.rest
        → OnwardShows c (cond b (Leaving (monitor_of c.program at.method at.frame) (afters.Unwind x class) (frames_of at)) (unwound x class at.below)) k.shown) (is_synchronized at.method.flags)
        (λ f own. record { leaves = left.0.leaves f; now = k.shown; counts = λ n. omega arith; show = subst (λ (gs : List Frame). Show c Thrown gs k.shown) (tops_stand_law c s.frames Thrown k.shown at marked k.show t).1.frames k.show })
        (λ f own. subst (λ (ns : List ℕ). OnwardShows c (unwound x class at.below) ns) (sym own) (unwound_shows c x class at.below left.0.rest left.0.show left.1)) refl left.0.own

    throw_keeps : AttemptStandsIn c (phases.Throw x class) s.frames s.held s.attempt → StaysStructured c was (goes_on s (handed c.program x class at (handler_at (class_of class) at)))
    throw_keeps inside =
        let shows = handed_shows (handler_at (class_of class) at) refl in
        going c was s k.once (handed c.program x class at (handler_at (class_of class) at)) k.shown shows (λ m. let d = k.depths m in omega arith) (each_goes_on c _ s.held s.attempt (λ a e.
        throws_inside c x class s.frames s.held a at marked (subst (λ (o : Option Attempt). AttemptStandsIn c (phases.Throw x class) s.frames s.held o) e inside)
        (subst (λ (o : Option Attempt). Stands c (phases.Throw x class) s.frames s.held o) e k) t (onward_stands c (handed c.program x class at (handler_at (class_of class) at)) k.shown shows)))

  -- ---- an element, and a new object

  element_keeps : (word : ℕ) (stored : Option ℕ) (value : ℕ) → Stands c (phases.Element word stored) s.frames s.held s.attempt → AttemptStandsIn c (phases.Element word stored) s.frames s.held s.attempt → (at : Top) → top_of c.program s.frames ≡ Some at
      → StaysStructured c was (goes_on s (Running (went_on c.program at value)))
  element_keeps word stored value k inside at t =
      let shows : OnwardShows c (Running (went_on c.program at value)) k.shown = (tt, elements_law c s.frames k.shown at stored value marked t k.show k.phase_shows) in
      going c was s k.once (Running (went_on c.program at value)) k.shown shows (λ m. let d = k.depths m in omega arith) (each_goes_on c (Running (went_on c.program at value)) s.held s.attempt (λ a e.
      (elements_inside c word stored s.frames s.held a at marked (subst (λ (o : Option Attempt). AttemptStandsIn c (phases.Element word stored) s.frames s.held o) e inside)
      (subst (λ (o : Option Attempt). Stands c (phases.Element word stored) s.frames s.held o) e k) t).goes_on value (onward_stands c (Running (went_on c.program at value)) k.shown shows)))

  made_keeps : (a word : ℕ) → Stands c (phases.Made a word) s.frames s.held s.attempt → s.attempt ≡ None → StaysStructured c was (goes_on s (Running (pushed a s.frames)))
  made_keeps a word k none = going c was s k.once (Running (pushed a s.frames)) k.shown (pushed_frame a s.frames k.phase_shows, pushed_law c s.frames k.shown a k.show) (λ m. let d = k.depths m in omega arith)
      (none_goes_on c (Running (pushed a s.frames)) s.held s.attempt none)

  -- ---- the next root

  root_keeps : (number : ℕ) (m : MethodInfo) → slice_get c.program.methods number ≡ Some m → IsSomeRoot m → Stands c phases.Start s.frames s.held s.attempt → s.attempt ≡ None → (roots : List ℕ)
      → StaysStructured c was (goes_on (record s { roots = roots }) (rooted c.program s.number number m))
  root_keeps number m e root k none roots = going c was (record s { roots = roots }) k.once (rooted c.program s.number number m) []
      (if_either (λ o. OnwardShows c o []) (has_room c.program [] m) (Running (entry_frame number m (root_arguments s.number m) ∷ [])) (Uncaught StackOverflowError)
      (tt, elim root as (λ _. Show c Whole (entry_frame number m (root_arguments s.number m) ∷ []) []) [ inl r ↦ roots_law c s.number number m marked e r.static r.unsynchronized | inr r ↦ roots_law c s.number number m marked e r.static r.unsynchronized ]) refl)
      (λ n. let d = k.depths n in let z : count_in n k.shown ≡ 0 = ap (count_in n) (subst (λ (fs : List Frame). Show c Whole fs k.shown) k.phase_shows k.show) in omega arith)
      (none_goes_on c (rooted c.program s.number number m) s.held s.attempt none)

  start_keeps : StaysStructured c was s → (roots : List ℕ) → AllByRecursion (λ (number : ℕ). IsTrue (has_number (part_roots c.program s.number s.part) number)) roots → Stands c phases.Start s.frames s.held s.attempt → s.attempt ≡ None → StaysStructured c was (thread_started c.program s roots)
  start_keeps same [] all k none = same
  start_keeps same (number ∷ roots) all k none = by_method (slice_get c.program.methods number) refl
    where
      by_method : (o : Option MethodInfo) → slice_get c.program.methods number ≡ o → StaysStructured c was (goes_on_if (record s { roots = roots }) (option_map (rooted c.program s.number number) o))
      by_method None e = record { is_as = same.is_as; stands = same.stands; attempt = same.attempt }
      by_method (Some m) e = root_keeps number m e (part_root c.program marked.checked.program s.number s.part number m all.0 e) k none roots

-- ---- the end of a part

over_stands : (c : MarkedProgram) (e : End) (fs : List Frame) (held : List Held) (o : Option Attempt) → Stands c (phases.Ending e) fs held o → Stands c (phases.Ended e) fs held o
over_stands c e fs held o k = record { shown = k.shown; show = k.show; depths = k.depths; once = k.once; phase_shows = k.phase_shows }

ends_keeps : (c : MarkedProgram) (was : Phase) (s : Thread) (e : End) → IsLimitAt e (phases.Ending e) was → Stands c was s.frames s.held s.attempt → AttemptStandsIn c was s.frames s.held s.attempt → StaysStructured c was (with_phase s (phases.Ended e))
ends_keeps c was s ends.Steps l k inside = record { is_as = l; stands = k; attempt = inside }
ends_keeps c was s ends.Prints l k inside = record { is_as = l; stands = k; attempt = inside }
ends_keeps c was s ends.Turns l k inside = record { is_as = l; stands = k; attempt = inside }
ends_keeps c was s ends.Records l k inside = record { is_as = l; stands = k; attempt = inside }
ends_keeps c was s e l k inside =
    let at : Stands c (phases.Ending e) s.frames s.held s.attempt = subst (λ (phase : Phase). Stands c phase s.frames s.held s.attempt) l k in
    let within : AttemptStandsIn c (phases.Ending e) s.frames s.held s.attempt = subst (λ (phase : Phase). AttemptStandsIn c phase s.frames s.held s.attempt) l inside in
    record { is_as = refl; stands = over_stands c e s.frames s.held s.attempt at; attempt = no_attempt c (phases.Ended e) s.frames s.held s.attempt (no_try c (phases.Ending e) s.frames s.held s.attempt at.phase_shows within) }

pub over_counts : (was : Phase) (e : End) → IsLimitAt e (phases.Ended e) was → counted_by was (phases.Ended e) ≡ was
over_counts was ends.Steps l = refl
over_counts was ends.Prints l = refl
over_counts was ends.Turns l = refl
over_counts was ends.Records l = refl
over_counts was e l = sym l

-- ---- all moves

module _ (begin : BeginsAttempt) (entered_again : EntersInside) (is : Classes) (c : MarkedProgram) (marked : IsMarked c) (was : Phase) (s : Thread) (got : ℕ) (structured : IsStructured c was s) where
  abbrev Keeps : Thread → Type 0
  Keeps y = StaysStructured c was y

  at : (phase : Phase) → was ≡ phase → Stands c phase s.frames s.held s.attempt
  at phase e = subst (λ (x : Phase). Stands c x s.frames s.held s.attempt) e structured.stands

  within : (phase : Phase) → was ≡ phase → AttemptStandsIn c phase s.frames s.held s.attempt
  within phase e = subst (λ (x : Phase). AttemptStandsIn c x s.frames s.held s.attempt) e structured.attempt

  none_in : (phase : Phase) → ((m : ℕ) → IsPhaseInside m phase → ⊥) → was ≡ phase → s.attempt ≡ None
  none_in phase never e = outside c phase s.frames s.held s.attempt never (within phase e)

  -- where it stays as it is
  same : (phase : Phase) → s.phase ≡ phase → counted_by was phase ≡ was → StaysStructured c was s
  same phase here e = subst (λ (x : Phase). IsStructured c x s) (sym (ap (counted_by was) here ∙ e)) structured

  -- from just this phase
  from : (phase : Phase) (now : Thread) → was ≡ phase → StaysStructured c phase now → StaysStructured c was now
  from phase now e k = subst (λ (x : Phase). StaysStructured c x now) (sym e) k

  leaving : (m : ℕ) (a : After) → was ≡ phases.Leave m a → AfterHolds c is a s.frames → AtExit is c m a s
  leaving m a e h = record { stands = at (phases.Leave m a) e; inside = within (phases.Leave m a) e; holds = h }

  left_flat : (m : ℕ) (a : After) → Stands c (phases.FlatOut m a) s.frames s.held s.attempt → s.attempt ≡ None → AfterHolds c is a s.frames → StaysStructured c was (lets_go c.program s m a)
  left_flat m a k none h = left_with is c marked was s m a exit (without_held m s.held) (lists.released m s.held k.once k.phase_shows.once) none
    where
      exit : AtExit is c m a s
      exit = record { stands = record { shown = k.shown; show = k.show; depths = k.depths; once = k.once; phase_shows = k.phase_shows.toward_shows }; inside = no_attempt c (phases.Leave m a) s.frames s.held s.attempt none; holds = h }

  may_marked : (tried : ℕ) → may_try c s tried ≡ true → enters_marked c s.frames ≡ true
  may_marked tried e = (both_are_true (s.cfg.elide && nat_lt tried MOST_ATTEMPTS) (enters_marked c s.frames) e).1

  -- where its event takes nothing
  lacks_keeps : (phase : Phase) → Lacks c s got phase → s.phase ≡ phase → IsAs phase was → Keeps s
  lacks_keeps _ (moves.over reason) here e = same (phases.Ended reason) here (over_counts was reason e)
  lacks_keeps phase k here e = same phase here (sym e)

  goes_keeps : (phase : Phase) (o : Onward) → GoesBy c.program s got phase o → s.phase ≡ phase → IsAs phase was → Keeps (goes_on s o)
  goes_keeps _ o (moves.by_effect top x _ t f silent d) here e = instruction.does c marked s top t (at phases.Run e) (within phases.Run e) was (same phases.Run here (sym e)) x got o f d
  goes_keeps _ _ (moves.by_machine top class t y) here e = instruction.refuses c marked s top t (at phases.Run e) (within phases.Run e) was (same phases.Run here (sym e)) class got y
  goes_keeps _ _ (moves.by_nobody top m count h t y there l) here e = instruction.notifies_nobody c marked s top t (at phases.Run e) (within phases.Run e) was (same phases.Run here (sym e)) m y
  goes_keeps _ _ (moves.by_element word stored top t) here e = element_keeps c marked was s word stored (element_made stored got) (at (phases.Element word stored) e) (within (phases.Element word stored) e) top t
  goes_keeps _ _ (moves.by_object a word) here e = made_keeps c marked was s a word (at (phases.Made a word) e) (none_in (phases.Made a word) (λ m k. k) e)
  goes_keeps _ _ (moves.by_handler x class top t) here e = throw_keeps c marked was s x class (at (phases.Throw x class) e) top t (within (phases.Throw x class) e)
  goes_keeps phase _ k here e = let own = at phase e in let shows = own.phase_shows in
      from phase _ e (running c phase s (record { shown = own.shown; show = own.show; depths = own.depths; once = own.once; phase_shows = assumption }) (no_attempt c phases.Run s.frames s.held s.attempt (none_in phase (λ n k. k) e)))

  checks_inside : (phase : Phase) (t : Attempt) → Checks c.program s t phase → IsAs phase was → AttemptStandsIn c phase s.frames s.held s.attempt
  checks_inside _ t (moves.at_instruction top f x) e = within phases.Run e
  checks_inside _ t (moves.at_throw x class) e = within (phases.Throw x class) e
  checks_inside _ t (moves.at_end m a k i) e = within (phases.Leave m a) e

  -- ---- an entry

  -- of a monitor that is neither held nor tried
  module _ (m tried : ℕ) (free : claim s m ≡ HasNot) (e : was ≡ phases.Enter m tried) where
    not_held_on : held_at s.held m ≡ None
    not_held_on = not_held m (held_at s.held m) s.attempt free

    none_on : s.attempt ≡ None
    none_on = none_tried c m tried s.frames s.held (held_at s.held m) s.attempt free (within (phases.Enter m tried) e)

    entered_stands : Stands c (phases.Acquire m) s.frames s.held s.attempt
    entered_stands = to_acquire begin entered_again c s m tried (at (phases.Enter m tried) e) (within (phases.Enter m tried) e) not_held_on none_on

  looks_stands : (m : ℕ) (phase : Phase) → Looks s m phase → IsAs phase was → (turned_from was ≡ phases.Acquire m) × Stands c (phases.Acquire m) s.frames s.held s.attempt
  looks_stands m _ (moves.entering tried free) e = (ap turned_from e, entered_stands m tried free e)
  looks_stands m _ moves.acquiring e = (ap turned_from e, at (phases.Acquire m) e)

  takes_stands : (m : ℕ) (phase : Phase) (kept : Kept) → Takes got m phase kept → IsAs phase was → Stands c (phases.Acquire m) s.frames s.held s.attempt
  takes_stands m _ _ (moves.a_flat count f) e = from_take c s m count (at (phases.Take m count) e)
  takes_stands m _ _ (moves.a_fat r f) e = from_take_fat c s m r (at (phases.TakeFat m r) e)

  -- ---- to another phase

  leads_keeps : (phase now : Phase) → LeadsTo c.program s got phase now → s.phase ≡ phase → IsAs phase was → PhaseHolds c is phase s.frames → Keeps (with_phase s now)
  leads_keeps _ _ (moves.to_acquire m tried free) here e h = looks_at_lock c s m was (entered_stands m tried free e)
  leads_keeps phase _ (moves.to_take m count k f) here e h = let l = looks_stands m phase k e in takes_next c s m was l.0 l.1 count
  leads_keeps phase _ (moves.to_take_fat m r k f) here e h = let l = looks_stands m phase k e in takes_fat_next c s m was l.0 l.1 r
  leads_keeps _ _ (moves.from_flag m u) here e h = looks_at_lock c s m was (from_flag c s m u (at (phases.Flag m u) e))
  leads_keeps _ _ (moves.to_grow m count a x f last l) here e h = grows_first is c marked was s m a (leaving m a e h) x f count last l
  leads_keeps _ _ (moves.to_no_record m f) here e h = let k = at (phases.Grow m towards.Wait) e in from (phases.Grow m towards.Wait) _ e (record { is_as = tt; stands = k; attempt = within (phases.Grow m towards.Wait) e })
  leads_keeps _ _ (moves.to_end reason) here e h = ends_keeps c was s reason e structured.stands structured.attempt
  leads_keeps _ _ (moves.to_element top array index stored t f x) here e h = instruction.element_begins c marked s top t (at phases.Run e) (within phases.Run e) was (same phases.Run here (sym e)) array index stored f
  leads_keeps _ _ (moves.to_no_print top v t l f) here e h = instruction.prints_no_more c marked s top t (at phases.Run e) (within phases.Run e) was (same phases.Run here (sym e))
  leads_keeps phase now k here e h = let own = at phase e in let shows = own.phase_shows in
      from phase _ e (record { is_as = refl; stands = record { shown = own.shown; show = own.show; depths = own.depths; once = own.once; phase_shows = assumption }; attempt = no_attempt c now s.frames s.held s.attempt (none_in phase (λ n k. k) e) })

  turns_keeps : (phase now : Phase) → TurnsTo s got phase now → IsAs phase was → Keeps (failed_turn s now)
  turns_keeps phase _ (moves.looks_again m k) e = let l = looks_stands m phase k e in looks_again c s m was l.0 l.1
  turns_keeps phase _ (moves.flags m u k f) e = let l = looks_stands m phase k e in flags c s m was l.0 l.1 u
  turns_keeps _ _ (moves.takes_not m count f) e = from (phases.Take m count) _ e (turned_back c s m count (from_take c s m count (at (phases.Take m count) e)))
  turns_keeps _ _ (moves.takes_not_fat m r f) e = from (phases.TakeFat m r) _ e (turned_back_fat c s m r (from_take_fat c s m r (at (phases.TakeFat m r) e)))
  turns_keeps phase _ k e = let turns : TurnsIn c phase s = record { counts = tt; stands = at phase e; inside = within phase e } in from phase _ e (turning c phase s phase turns turns)

  gives_up_keeps : (m : ℕ) (a : After) (phase : Phase) → GivesUp s m a phase → IsAs phase was → PhaseHolds c is phase s.frames → Keeps (lets_go c.program s m a)
  gives_up_keeps m a _ (moves.on_leave x f t) e h = left_last is c marked was s m a (leaving m a e h) x f t
  gives_up_keeps m a _ moves.flat_out e h = left_flat m a (at (phases.FlatOut m a) e) (none_in (phases.FlatOut m a) (λ m k. k) e) h

  module _ (roots : AllByRecursion (λ (number : ℕ). IsTrue (has_number (part_roots c.program s.number s.part) number)) s.roots) where
    move_keeps : (phase : Phase) (k : Move c s got phase) → s.phase ≡ phase → IsAs phase was → PhaseHolds c is phase s.frames → Keeps (becomes c s got phase k)
    move_keeps phase (moves.stays k) here e h = lacks_keeps phase k here e
    move_keeps phase (moves.goes o k) here e h = goes_keeps phase o k here e
    move_keeps phase (moves.fails_in t f d k) here e h = failing c was phase s t (subst (λ (o : Option Attempt). AttemptStandsIn c phase s.frames s.held o) f (checks_inside phase t k e))
    move_keeps phase (moves.leads now k) here e h = leads_keeps phase now k here e h
    move_keeps phase (moves.turns now k) here e h = turns_keeps phase now k e
    move_keeps _ (moves.makes top word size t f x) here e h = instruction.object_begins c marked s top t (at phases.Run e) (within phases.Run e) was (same phases.Run here (sym e)) word size got f
    move_keeps _ (moves.prints top n t f x) here e h = instruction.prints_one c marked s top t (at phases.Run e) (within phases.Run e) was (same phases.Run here (sym e)) n got f
    move_keeps _ (moves.asks_to_wait top m x now t f l k) here e h = instruction.waits_for c marked s top t (at phases.Run e) (within phases.Run e) was (same phases.Run here (sym e)) m x x.kept now f l refl k
    move_keeps _ (moves.asks top m x now t y l k) here e h = instruction.notifies_some c marked s top t (at phases.Run e) (within phases.Run e) was (same phases.Run here (sym e)) m x x.kept now y l refl k
    move_keeps _ (moves.enters_again m tried x f) here e h = from (phases.Enter m tried) _ e (again begin entered_again c s m tried (at (phases.Enter m tried) e) (within (phases.Enter m tried) e) x f)
    move_keeps _ (moves.enters_inside m tried t k) here e h =
        from (phases.Enter m tried) _ e (deeper_inside begin entered_again c s m tried (at (phases.Enter m tried) e) (within (phases.Enter m tried) e) t (tried_attempt m (held_at s.held m) s.attempt t k) (tried_monitor m (held_at s.held m) s.attempt t k))
    move_keeps _ (moves.begins_to_try m tried noted f below there may l x free) here e h =
        from (phases.Enter m tried) _ e (begun begin entered_again c s m tried (at (phases.Enter m tried) e) (within (phases.Enter m tried) e) marked (not_held_on m tried free e) (none_on m tried free e) (may_marked tried may) noted (tried + 1) f below there)
    move_keeps phase (moves.takes_lock m kept k) here e h = taken c s m was kept (takes_stands m phase kept k e)
    move_keeps phase (moves.gives_up m a k) here e h = gives_up_keeps m a phase k e h
    move_keeps _ (moves.leaves_outer m a x f t) here e h = left_deeper is c marked was s m a (leaving m a e h) x f t
    move_keeps _ (moves.leaves_inside m a t inner k f) here e h =
        left_inside is c marked was s m a (leaving m a e h) t (tried_attempt m (held_at s.held m) s.attempt t k) (tried_monitor m (held_at s.held m) s.attempt t k) inner f
    move_keeps _ (moves.finishes_try m a t k f y) here e h =
        left_elided is c marked was s m a (leaving m a e h) t (tried_attempt m (held_at s.held m) s.attempt t k) (tried_monitor m (held_at s.held m) s.attempt t k) f
    move_keeps _ (moves.fattens_lock m r toward x f) here e h = from (phases.FatIn m r toward) _ e (fattened c s m (none_in (phases.FatIn m r toward) (λ n k. k) e) r toward (Some x) f (at (phases.FatIn m r toward) e))
    move_keeps _ (moves.gives_up_to_wait m r x f) here e h = from (phases.WaitOut m r) _ e (given_up c s m r (none_in (phases.WaitOut m r) (λ n k. k) e) (Some x) f (at (phases.WaitOut m r) e))
    move_keeps _ (moves.retakes_lock m r depth f) here e h = from (phases.Retake m r depth) _ e (retaken c s m r (none_in (phases.Retake m r depth) (λ n k. k) e) depth (at (phases.Retake m r depth) e))
    move_keeps _ (moves.starts number more f) here e h =
        start_keeps c marked was s (same phases.Start here (sym e)) (number ∷ more) (subst (AllByRecursion (λ (number : ℕ). IsTrue (has_number (part_roots c.program s.number s.part) number))) f roots) (at phases.Start e) (none_in phases.Start (λ m k. k) e)

-- the thread that makes the move
abbrev Before : Classes → MarkedProgram → (was phase : Phase) → Thread → Type 0
Before is c was phase s = IsStructured c was s × AllByRecursion (λ (number : ℕ). IsTrue (has_number (part_roots c.program s.number s.part) number)) s.roots × (s.phase ≡ phase) × PhaseHolds c is phase s.frames

pub structure_kept : BeginsAttempt → EntersInside → (is : Classes) (c : MarkedProgram) (was : Phase) (s : Thread) (got : ℕ) → IsMarked c → IsStructured c was s → ThreadHolds c is s → IsRooted c.program s → StaysStructured c was (moved c s s.phase got)
structure_kept begin entered_again is c was s got marked structured holds rooted =
    -- an instruction is counted before it does anything
    let counted : Before is c was s.phase (mover c.program s.phase s) = of_mover (Before is c was s.phase) c.program s.phase s (structured, rooted.roots, refl, holds.phase)
    (record { is_as = structured.is_as; stands = structured.stands; attempt = structured.attempt }, rooted.roots, refl, holds.phase) in
    by_move (StaysStructured c was) c s s.phase got (λ k. move_keeps begin entered_again is c marked was (mover c.program s.phase s) got counted.0 counted.1 s.phase k counted.2 structured.is_as counted.3)

pub kept : BeginsAttempt → EntersInside → StructureIsKept
kept begin entered_again c was s got marked structured typed rooted = structure_kept begin entered_again (lawful.within c.program) c was s got marked structured typed.values rooted
