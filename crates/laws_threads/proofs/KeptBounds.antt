-- An event keeps the numbers of a thread within their bounds.
use Rattle.std.proofs.Common.{◌≡◌, ℕ, ◌/◌, ◌%◌, zero, suc, ◌+◌, ◌≤◌, Bool, List, [], ◌∷◌, Option, Some, None, refl, sym, subst, ◌<◌, ◌∙◌, arith, ap, if◌then◌else◌, option_map, slice_get, find, IfSome}
use Rattle.std.{specs.{List.{AllByRecursion, range_with_len}, Prelude.unwrap_or}, proofs.lemmas.Bool.Decides.nat_tests}
use Rattle.lists.proofs.ListLaws.{same_some}
use Rattle.jvm_types.specs.{Numbers.has_flag, declared.{limits.TheConstants.MOST_WORKERS, outcome.{End.End, Thrown.TheVariants.StackOverflowError}, program.Program.Program}}
use Rattle.checked_program.specs.MarkedProgram.{MarkedProgram}
use Rattle.machine_types.specs.{Bounds.{TurnsFit, under_way, IsBounded, EntryFits, KeptFits, PhaseFits, StepsFit, WaitFits, attempt_under_way, entry_under_way}, Events.{element_made, moved}}
use Rattle.machine_types.specs.{FoundWords.{WordFits, effect_content, run_content, content_at}, Frames.{Top, top_of, effect_at, has_room, entry_frame, pushed, went_on, handler_at, making}}
use Rattle.machine_types.specs.{Going.{with_phase, failed_turn, goes_on, goes_on_if}, HeldMonitors.held_at, Instructions.{begun, ran}, Ints.low, Lawful.IsTypedWithin}
use Rattle.machine_types.specs.{LockWords.{lock_of}, Monitors.{bit_of, lowest_of, takes}, Onward.{Running, Uncaught, rooted, root_arguments, Onward, handed, threw}}
use Rattle.machine_types.specs.{ReadyObjects.class_of, Structure.{Stands, AttemptStandsIn, IsStructured, IsFlat}, Threads.{Frame, Attempt, Thread}, Words.value_word, declared.effect.Effect.Effect}
use Rattle.machine_types.specs.declared.{effect.Effect.TheVariants.{Raises, Calls, Stuck}, lock.{Held.Held, Kept.Kept}, phase.Phase.Phase}
use Rattle.laws_threads.{specs.{BoundLaws.BoundsAreKept, TopFrames.IsAllowed}, proofs.{Tests.either_way, TopEffects.effects_allowed}}
use Rattle.laws_threads.proofs.BoundedInstructions.{attempt_fails, Begins, begins_here, calm, goes_any, HasDone, does_all, waited, asked, made_bounded, printed_bounded}
use Rattle.laws_threads.proofs.BoundedMonitors.{LockFits, lock_fits, at_found, taken, began, deeper_fits, inner_fits, Leaves, let_go, shallower_fits, finished, left_inner, fattened, gone_to_wait, taken_back}
use Rattle.laws_threads.proofs.ThreadMove.{if_either, if_mapped, Looks, Lacks, GoesBy, Checks, LeadsTo, TurnsTo, Takes, Move, becomes, tried_attempt, tried_monitor, ran_made, by_move, looks_in, gives_up_in}
use Rattle.laws_threads.proofs.{BoundedOnward.{Fit, Spends, spends_less, bounded, fit_of, spends_of, failing, goes, goes_if, EntersNone, handed_enters_none}, HeldBounds.{found as found_held}}
use Rattle.jvm_types.specs.declared.outcome.End.TheVariants as ends
use Rattle.machine_types.specs.declared.lock.Kept.TheVariants as keeps
use Rattle.machine_types.specs.declared.phase.Phase.TheVariants as phases
use Rattle.laws_threads.proofs.ThreadMove as moves
use Rattle.machine_types.specs.declared.phase.Toward.TheVariants as towards

-- ---- what the event finds

-- the effect of a typed frame always goes on
has_done : (p : Program) (at : Top) (e : Effect) (got : ℕ) → IsAllowed p at e → WordFits p (effect_content p at.target e) got → HasDone p e got
has_done p at (Raises x) got a w = w.1
has_done p at (Calls number) got a w = (a.called, a.there)
has_done p at Stuck got a w = absurd a
has_done p at e got a w = tt

-- threads that wait have numbers up to that of the last worker
lowest_few : (bits : ℕ) → lowest_of bits ≤ MOST_WORKERS
lowest_few bits = first_few (λ t. has_flag (bit_of t) bits) (range_with_len 0 9) (range_few 0 9 (omega arith))
  where
    range_few : (a n : ℕ) → a + n ≤ 9 → AllByRecursion (λ t. t ≤ 8) (range_with_len a n)
    range_few a zero h = tt
    range_few a (suc n) h = (omega arith, range_few (a + 1) n (omega arith))

    first_few : (test : ℕ → Bool) (ns : List ℕ) → AllByRecursion (λ n. n ≤ 8) ns → unwrap_or (find test ns) 0 ≤ 8
    first_few test [] all = omega arith
    first_few test (n ∷ ns) all = either_way (λ (b : Bool). unwrap_or (find test ns) 0 ≤ 8 → unwrap_or (if b then Some n else find test ns) 0 ≤ 8) (test n)
        (λ more. all.0)
        (λ more. more) (first_few test ns all.1)

-- the monitor of an attempt is not held
not_held : (c : MarkedProgram) (was : Phase) (fs : List Frame) (held : List Held) (attempt : Option Attempt) → AttemptStandsIn c was fs held attempt → IfSome attempt (λ a. held_at held a.monitor ≡ None)
not_held c was fs held None stands = tt
not_held c was fs held (Some a) stands = stands.not_held

-- ---- the end of a part

ended : (p : Program) (s : Thread) (e : End) → IsBounded p (record s { phase = phases.Ending e }) → IsBounded p (record s { phase = phases.Ended e })
ended p s e b = record {
  number = b.number;
  kept = b.kept;
  noted = b.noted;
  phase = tt;
  prints = b.prints;
  turns = by_end e b.turns;
  steps = b.steps;
  depths = b.depths;
  waits = tt;
  inner = b.inner;
  entry = tt;
  inflated = b.inflated;
  sections = (elim s.attempt as (λ o. s.counts.elided + s.counts.failed + s.counts.locked + under_way o (phases.Ending e) ≤ s.counts.instructions
      → s.counts.elided + s.counts.failed + s.counts.locked + under_way o (phases.Ended e) ≤ s.counts.instructions) [ None ↦ λ t. t | Some a ↦ λ t. t ]) b.sections;
}
  where
    by_end : (e : End) → TurnsFit (phases.Ending e) s.turns s.cfg.turns → TurnsFit (phases.Ended e) s.turns s.cfg.turns
    by_end ends.Turns t = t
    by_end e t = t

-- ---- all moves

-- a phase in which something is under way
abbrev IsUnderWay : Phase → Type 0
IsUnderWay (phases.Ending e) = ⊥
IsUnderWay (phases.Ended e) = ⊥
IsUnderWay phase = Unit {0}

-- an entry outside of the words that it finds
abbrev IsEntry : Phase → Type 0
IsEntry (phases.Enter m tried) = Unit {0}
IsEntry (phases.Acquire m) = Unit {0}
IsEntry (phases.Take m count) = Unit {0}
IsEntry (phases.Flag m u) = Unit {0}
IsEntry (phases.TakeFat m r) = Unit {0}
IsEntry phase = ⊥

-- the lock that is made fat is held
abbrev HoldsFlat : Phase → List Held → Type 0
HoldsFlat (phases.FatIn m r toward) held = IsFlat (held_at held m)
HoldsFlat phase held = Unit {0}

module _ (c : MarkedProgram) (s : Thread) (got : ℕ) where
  -- an instruction that is counted, and goes on
  record AtInstruction : Type 0 where
    at : Top
    found : top_of c.program s.frames ≡ Some at
    begins : Begins c.program s
    goes_on : HasDone c.program (effect_at c.program at) got

  abbrev Ready : Phase → Type 0
  Ready phases.Run = AtInstruction
  Ready phase = IsBounded c.program (with_phase s phase)

  fit : (phase : Phase) → IsUnderWay phase → Ready phase → Fit c.program s
  fit phases.Run u b = b.begins.fit
  fit (phases.Ending e) u b = absurd u
  fit (phases.Ended e) u b = absurd u
  fit phase u b = fit_of c.program s phase b b.turns b.steps

  spent : (phase : Phase) → IsUnderWay phase → Ready phase → Spends s 0 2
  spent phases.Run u b = calm c.program s b.begins.spends
  spent (phases.Ending e) u b = absurd u
  spent (phases.Ended e) u b = absurd u
  spent phase u b = spends_less s (entry_under_way phase) (attempt_under_way phase) 0 2 (spends_of c.program s phase b) (omega arith) (omega arith)

  spent_on_entry : (phase : Phase) → IsEntry phase → Ready phase → Spends s 1 2
  spent_on_entry (phases.Enter m tried) u b = spends_of c.program s (phases.Enter m tried) b
  spent_on_entry (phases.Acquire m) u b = spends_of c.program s (phases.Acquire m) b
  spent_on_entry (phases.Take m count) u b = spends_of c.program s (phases.Take m count) b
  spent_on_entry (phases.Flag m u) v b = spends_of c.program s (phases.Flag m u) b
  spent_on_entry (phases.TakeFat m r) u b = spends_of c.program s (phases.TakeFat m r) b
  spent_on_entry phase u b = absurd u

  less : Spends s 0 2 → Spends s 0 1
  less k = spends_less s 0 2 0 1 k (omega arith) (omega arith)

  lock_at : (m : ℕ) (phase : Phase) → Looks s m phase → WordFits c.program (content_at c s phase) got → LockFits (lock_of got)
  lock_at m _ (moves.entering tried free) w = lock_fits (got % 4) (got / 4) w.0 w.1
  lock_at m _ moves.acquiring w = lock_fits (got % 4) (got / 4) w.0 w.1

  kept_at : (m : ℕ) (h : Held) → held_at s.held m ≡ Some h → Fit c.program s → KeptFits h.kept
  kept_at m h there f = at_found (λ h. KeptFits h.kept) (held_at s.held m) h there (found_held (λ h. KeptFits h.kept) m s.held f.held.kept)

  -- ---- as it is, or in another phase

  stays_bounded : (phase : Phase) → Lacks c s got phase → s.phase ≡ phase → Ready phase → IsBounded c.program s
  stays_bounded _ (moves.no_instruction e) same b = let bad : Some b.at ≡ None = sym b.found ∙ e in absurd (cc)
  stays_bounded _ (moves.no_way at e found is silent d) same b =
      let here : b.at ≡ at = same_some (sym b.found ∙ found) in
      absurd (does_all c.program at e got (subst (λ (e : Effect). HasDone c.program e got) (ap (effect_at c.program) here ∙ is) b.goes_on) silent d)
  stays_bounded phase k same b = subst (λ (w : Phase). IsBounded c.program (with_phase s w)) (sym same) b

  goes_bounded : (phase : Phase) (o : Onward) → GoesBy c.program s got phase o → Ready phase → IsBounded c.program (goes_on s o)
  goes_bounded _ o (moves.by_effect at e _ found is silent d) b = goes_any c.program s o b.begins
  goes_bounded _ _ (moves.by_machine at class found y) b = goes_any c.program s (threw class at) b.begins
  goes_bounded _ _ (moves.by_nobody at m count h found y there l) b = goes_any c.program s (Running (went_on c.program at 0)) b.begins
  goes_bounded _ _ (moves.by_element word stored at found) b = goes c.program s (Running (went_on c.program at (element_made stored got))) tt (fit (phases.Element word stored) tt b) (spent (phases.Element word stored) tt b)
  goes_bounded _ _ (moves.by_object a word) b = goes c.program s (Running (pushed a s.frames)) tt (fit (phases.Made a word) tt b) (spent (phases.Made a word) tt b)
  goes_bounded _ _ (moves.by_handler x class at found) b =
      goes c.program s (handed c.program x class at (handler_at (class_of class) at)) (handed_enters_none c.program x class at (handler_at (class_of class) at)) (fit (phases.Throw x class) tt b) (spent (phases.Throw x class) tt b)
  goes_bounded was _ k b = goes c.program s (Running s.frames) tt (fit was tt b) (spent was tt b)

  -- a phase that asks for nothing of its own
  to : (phase now : Phase) → IsUnderWay phase → Ready phase → PhaseFits now → (s.turns < s.cfg.turns → TurnsFit now s.turns s.cfg.turns) → (s.counts.instructions ≤ s.cfg.steps → StepsFit now s.counts.instructions s.cfg.steps)
      → WaitFits now s.counts.instructions → EntryFits now s.held s.attempt s.counts.instructions → Spends s (entry_under_way now) (attempt_under_way now) → IsBounded c.program (with_phase s now)
  to phase now u b fits turns steps waits entry k = let f = fit phase u b in bounded c.program s now f fits (turns f.limits.few_turns) (steps f.limits.few_steps) waits entry k

  leads_bounded : (phase now : Phase) → LeadsTo c.program s got phase now → Ready phase → WordFits c.program (content_at c s phase) got → IsBounded c.program (with_phase s now)
  leads_bounded _ _ (moves.to_acquire m tried free) b w = to (phases.Enter m tried) (phases.Acquire m) tt b tt (λ few. few) (λ few. few) tt tt (spent_on_entry (phases.Enter m tried) tt b)
  leads_bounded phase _ (moves.to_take m count k e) b w = to phase (phases.Take m count) (looks_in IsUnderWay m phase k (λ tried. tt) tt) b (subst LockFits e (lock_at m phase k w)) (λ few. few) (λ few. few) tt tt
      (spent_on_entry phase (looks_in IsEntry m phase k (λ tried. tt) tt) b)
  leads_bounded phase _ (moves.to_take_fat m r k e) b w = to phase (phases.TakeFat m r) (looks_in IsUnderWay m phase k (λ tried. tt) tt) b (subst LockFits e (lock_at m phase k w)) (λ few. few) (λ few. few) tt tt
      (spent_on_entry phase (looks_in IsEntry m phase k (λ tried. tt) tt) b)
  leads_bounded _ _ (moves.from_flag m u) b w = to (phases.Flag m u) (phases.Acquire m) tt b tt (λ few. few) (λ few. few) tt tt (spent_on_entry (phases.Flag m u) tt b)
  leads_bounded _ _ (moves.to_own m toward e) b w = to (phases.Grow m toward) (phases.Own m got toward) tt b (grind (arith, nat_tests, e)) (λ few. few) (λ few. few) tt tt (spent (phases.Grow m toward) tt b)
  leads_bounded _ _ (moves.to_no_record m e) b w = to (phases.Grow m towards.Wait) (phases.Ending ends.Records) tt b tt (λ few. few) (λ few. few) tt tt (less (spent (phases.Grow m towards.Wait) tt b))
  leads_bounded _ _ (moves.to_retake m r depth e) b w = to (phases.WaitLook m r depth) (phases.Retake m r depth) tt b b.phase (λ few. few) (λ few. few) b.waits tt (spent (phases.WaitLook m r depth) tt b)
  leads_bounded _ _ (moves.to_notify_one m r e) b w = to (phases.NotifyLook m r) (phases.NotifyOne m r (lowest_of got)) tt b (b.phase, lowest_few got) (λ few. few) (λ few. few) tt tt (spent (phases.NotifyLook m r) tt b)
  leads_bounded _ _ (moves.to_end e) b w = ended c.program s e b
  leads_bounded _ _ (moves.to_element at array index stored e f t) b w = to phases.Run (phases.Element (value_word array (low index)) stored) tt b tt (λ few. few) (λ few. few) tt tt (spent phases.Run tt b)
  leads_bounded _ _ (moves.to_no_print at v e l t) b w = to phases.Run (phases.Ending ends.Prints) tt b tt (λ few. few) (λ few. few) tt tt (less (spent phases.Run tt b))
  leads_bounded was now k b w = let fits = b.phase in to was now tt b (assumption) (λ few. few) (λ few. few) tt tt (spent was tt b)

  -- by a turn that failed
  turn : (phase now : Phase) → IsUnderWay phase → Ready phase → PhaseFits now → (s.turns + 1 < s.cfg.turns → TurnsFit now (s.turns + 1) s.cfg.turns) → (s.counts.instructions ≤ s.cfg.steps → StepsFit now s.counts.instructions s.cfg.steps)
      → WaitFits now s.counts.instructions → EntryFits now s.held s.attempt s.counts.instructions → Spends s (entry_under_way now) (attempt_under_way now) → IsBounded c.program (failed_turn s now)
  turn phase now u b fits turns steps waits entry k = let f = fit phase u b in failing c.program s now f fits turns (steps f.limits.few_steps) waits entry k (less (spent phase u b))

  turns_bounded : (phase now : Phase) → TurnsTo s got phase now → Ready phase → WordFits c.program (content_at c s phase) got → IsBounded c.program (failed_turn s now)
  turns_bounded phase _ (moves.looks_again m k) b w = turn phase (phases.Acquire m) (looks_in IsUnderWay m phase k (λ tried. tt) tt) b tt (λ few. few) (λ few. few) tt tt (spent_on_entry phase (looks_in IsEntry m phase k (λ tried. tt) tt) b)
  turns_bounded phase _ (moves.flags m u k e) b w = turn phase (phases.Flag m u) (looks_in IsUnderWay m phase k (λ tried. tt) tt) b (subst LockFits e (lock_at m phase k w)) (λ few. few) (λ few. few) tt tt
      (spent_on_entry phase (looks_in IsEntry m phase k (λ tried. tt) tt) b)
  turns_bounded _ _ (moves.takes_not m count t) b w = turn (phases.Take m count) (phases.Acquire m) tt b tt (λ few. few) (λ few. few) tt tt (spent_on_entry (phases.Take m count) tt b)
  turns_bounded _ _ (moves.takes_not_fat m r t) b w = turn (phases.TakeFat m r) (phases.TakeFat m r) tt b b.phase (λ few. few) (λ few. few) tt tt (spent_on_entry (phases.TakeFat m r) tt b)
  turns_bounded _ _ (moves.waits_on m r depth t) b w = turn (phases.WaitLook m r depth) (phases.WaitLook m r depth) tt b b.phase (λ few. few) (λ few. few) b.waits tt (spent (phases.WaitLook m r depth) tt b)
  turns_bounded _ _ (moves.retakes_not m r depth t) b w = turn (phases.Retake m r depth) (phases.Retake m r depth) tt b b.phase (λ few. few) (λ few. few) b.waits tt (spent (phases.Retake m r depth) tt b)

  -- ---- each move

  checks_under_way : (t : Attempt) (phase : Phase) → Checks c.program s t phase → IsUnderWay phase
  checks_under_way t _ (moves.at_throw x class) = tt
  checks_under_way t phase k = tt

  takes_bounded : (m : ℕ) (phase : Phase) (kept : Kept) → Takes got m phase kept → Ready phase → IsBounded c.program (takes s m kept)
  takes_bounded m _ _ (moves.a_flat count t) b = taken c.program s m (keeps.Flat count) (fit (phases.Take m count) tt b) (spent_on_entry (phases.Take m count) tt b) b.phase
  takes_bounded m _ _ (moves.a_fat r t) b = taken c.program s m (keeps.Fat r) (fit (phases.TakeFat m r) tt b) (spent_on_entry (phases.TakeFat m r) tt b) b.phase

  -- where a monitor is left
  leaves_now : (phase : Phase) → s.phase ≡ phase → Leaves c.program phase → Leaves c.program s.phase
  leaves_now phase same l = subst (Leaves c.program) (sym same) l

  move_bounded : (phase : Phase) (k : Move c s got phase) → s.phase ≡ phase → Ready phase → IfSome s.attempt (λ a. held_at s.held a.monitor ≡ None) → HoldsFlat phase s.held → WordFits c.program (content_at c s phase) got
      → IsBounded c.program (becomes c s got phase k)
  move_bounded phase (moves.stays k) same b free flat w = stays_bounded phase k same b
  move_bounded phase (moves.goes o k) same b free flat w = goes_bounded phase o k b
  move_bounded phase (moves.fails_in t e d k) same b free flat w = let u = checks_under_way t phase k in
      attempt_fails c.program s t e (subst (λ (o : Option Attempt). IfSome o (λ a. held_at s.held a.monitor ≡ None)) e free) (fit phase u b) (spent phase u b)
  move_bounded phase (moves.leads now k) same b free flat w = leads_bounded phase now k b w
  move_bounded phase (moves.turns now k) same b free flat w = turns_bounded phase now k b w
  move_bounded _ (moves.makes at word size e f t) same b free flat w = made_bounded c.program s (making c.program at) got word b.begins
  move_bounded _ (moves.prints at n e f t) same b free flat w = printed_bounded c.program s (went_on c.program at 0) n got t b.begins
  move_bounded _ (moves.asks_to_wait at m h now e f l k) same b free flat w = waited c.program s (went_on c.program at 0) m h.kept now k b.begins (kept_at m h l b.begins.fit)
  move_bounded _ (moves.asks at m h now e y l k) same b free flat w = asked c.program s (went_on c.program at 0) m h.kept now k b.begins (kept_at m h l b.begins.fit)
  move_bounded _ (moves.enters_again m tried h l) same b free flat w = deeper_fits c.program s m h l (fit (phases.Enter m tried) tt b) (spent_on_entry (phases.Enter m tried) tt b) b.entry.0
  move_bounded _ (moves.enters_inside m tried t k) same b free flat w =
      inner_fits c.program s m t (tried_attempt m (held_at s.held m) s.attempt t k) (tried_monitor m (held_at s.held m) s.attempt t k) (fit (phases.Enter m tried) tt b) (spent_on_entry (phases.Enter m tried) tt b) b.entry.1
  move_bounded _ (moves.begins_to_try m tried noted f below e y l t unheld) same b free flat w =
      began c.program s m noted tried f below (fit (phases.Enter m tried) tt b) (spent_on_entry (phases.Enter m tried) tt b) (subst LockFits l (lock_at m (phases.Enter m tried) (moves.entering tried unheld) w))
  move_bounded phase (moves.takes_lock m kept k) same b free flat w = takes_bounded m phase kept k b
  move_bounded phase (moves.gives_up m a k) same b free flat w = let u = gives_up_in IsUnderWay s m a phase k tt tt in
      let_go c.program s s.phase m a (leaves_now phase same (gives_up_in (Leaves c.program) s m a phase k tt tt)) (fit phase u b) (spent phase u b)
  move_bounded _ (moves.leaves_outer m a h l t) same b free flat w = shallower_fits c.program s s.phase m a h l (leaves_now (phases.Leave m a) same tt) (fit (phases.Leave m a) tt b) (spent (phases.Leave m a) tt b)
  move_bounded _ (moves.leaves_inside m a t inner k e) same b free flat w =
      left_inner c.program s s.phase a t inner (leaves_now (phases.Leave m a) same tt) (tried_attempt m (held_at s.held m) s.attempt t k) e (fit (phases.Leave m a) tt b) (spent (phases.Leave m a) tt b)
  move_bounded _ (moves.finishes_try m a t k e y) same b free flat w =
      finished c.program s s.phase a t (leaves_now (phases.Leave m a) same tt) (tried_attempt m (held_at s.held m) s.attempt t k) (fit (phases.Leave m a) tt b) (spent (phases.Leave m a) tt b)
  move_bounded _ (moves.fattens_lock m r toward h l) same b free flat w = fattened c.program s m r toward h l (subst IsFlat l flat) b.phase (fit (phases.FatIn m r toward) tt b) (spent (phases.FatIn m r toward) tt b)
  move_bounded _ (moves.gives_up_to_wait m r h l) same b free flat w = gone_to_wait c.program s m r h l b.phase (fit (phases.WaitOut m r) tt b) (spent (phases.WaitOut m r) tt b)
  move_bounded _ (moves.retakes_lock m r depth e) same b free flat w = taken_back c.program s m r depth b.phase b.waits (fit (phases.Retake m r depth) tt b) (spent (phases.Retake m r depth) tt b)
  move_bounded _ (moves.starts number roots e) same b free flat w =
      let f = fit phases.Start tt b in
      let k = spent phases.Start tt b in
      let o = option_map (rooted c.program s.number number) (slice_get c.program.methods number) in
      let g : Fit c.program (record s { roots = roots; phase = phases.Start }) = record { limits = f.limits; held = f.held; tried = f.tried } in
      subst (λ (w : Phase). IsBounded c.program (goes_on_if (record s { roots = roots; phase = w }) o)) (sym same)
      (goes_if c.program (record s { roots = roots; phase = phases.Start }) o
      (if_mapped EntersNone (slice_get c.program.methods number) (rooted c.program s.number number) (λ m. if_either EntersNone (has_room c.program [] m) (Running (entry_frame number m (root_arguments s.number m) ∷ [])) (Uncaught StackOverflowError) tt tt))
      (bounded c.program (record s { roots = roots }) phases.Start (record { limits = f.limits; held = f.held; tried = f.tried }) tt f.limits.few_turns f.limits.few_steps tt tt (record { few = k.few })) g (record { few = k.few }))

-- ---- all phases

flat_in : (c : MarkedProgram) (was : Phase) (s : Thread) (phase : Phase) → IsStructured c was (record s { phase = phase }) → HoldsFlat phase s.held
flat_in c was s (phases.FatIn m r toward) st =
    let stands : Stands c (phases.FatIn m r toward) s.frames s.held s.attempt = subst (λ (phase : Phase). Stands c phase s.frames s.held s.attempt) st.is_as st.stands in stands.phase_shows.flat
flat_in c was s phase st = tt

pub bounds_kept : BoundsAreKept
bounds_kept c was s got marked structured typed b w = by_phase s.phase structured typed b w
  where
    free : IfSome s.attempt (λ a. held_at s.held a.monitor ≡ None)
    free = not_held c was s.frames s.held s.attempt structured.attempt

    by_phase : (phase : Phase) → IsStructured c was (record s { phase = phase }) → IsTypedWithin c (record s { phase = phase }) → IsBounded c.program (record s { phase = phase })
        → WordFits c.program (content_at c (record s { phase = phase }) phase) got → IsBounded c.program (moved c (record s { phase = phase }) phase got)
    by_phase phases.Run st ty b w = by_top (top_of c.program s.frames) refl w w
      where
        by_top : (o : Option Top) → top_of c.program s.frames ≡ o → WordFits c.program (run_content c.program o) got → WordFits c.program (content_at c (begun (record s { phase = phases.Run })) phases.Run) got
            → IsBounded c.program (ran c.program (record s { phase = phases.Run }) o got)
        by_top None e w v = b
        by_top (Some at) e w v =
            let k = ran_made c (record s { phase = phases.Run }) got (Some at) e in
            let more : HasDone c.program (effect_at c.program at) got = has_done c.program at (effect_at c.program at) got (effects_allowed c s.frames at marked ty.values.phase e) w in
            let ready : AtInstruction c (begun (record s { phase = phases.Run })) got = record { at = at; found = e; begins = begins_here c.program (record s { phase = phases.Run }) b; goes_on = more } in
            subst (IsBounded c.program) (sym k.is) (move_bounded c (begun (record s { phase = phases.Run })) got phases.Run k.move refl ready free tt v)
    by_phase phase st ty b w = by_move (IsBounded c.program) c (record s { phase = phase }) phase got (λ k. move_bounded c (record s { phase = phase }) got phase k refl b free (flat_in c was s phase st) w)
