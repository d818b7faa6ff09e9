-- Each event of a live thread takes away of what is left for it to do, phase by phase.
use Rattle.std.proofs.Common.{◌≡◌, ℕ, suc, ◌+◌, ◌-◌, ◌*◌, ◌<◌, ◌≤◌, nat_lt, Bool, true, false, List, [], ◌∷◌, drop, length, Option, Some, None, refl, sym, ap, subst, ◌∙◌, arith, IsSome, IfSome, slice_get, option_map, if◌then◌else◌}
use Rattle.std.proofs.lemmas.List.{length-drop}
use Rattle.jvm_types.specs.{Members.is_synchronized, declared.{outcome.Thrown.{Thrown, TheVariants.StackOverflowError}, program.{MethodInfo.MethodInfo, Program.Program, Row.Row}}}
use Rattle.checked_program.specs.MarkedProgram.{MarkedProgram}
use Rattle.machine_types.specs.{Bounds.{StepsFit, TurnsFit}, Elision.{fails, elided}, Events.{thread_started, element_made, moved}}
use Rattle.machine_types.specs.Frames.{Top, top_of, frames_of, went_on, has_room, entry_frame, monitor_of, returned, handler_at, caught, pushed}
use Rattle.machine_types.specs.{Going.{with_phase, runs, failed_turn, root_over, goes_on, goes_on_if, goes_after}, HeldMonitors.{held_at, with_held, without_held, deeper, shallower}}
use Rattle.machine_types.specs.{Instructions.{begun, ran}, Onward.{Running, Leaving, Uncaught, root_arguments, rooted, back, unwound, handed, Onward, dispatched}, ReadyObjects.class_of}
use Rattle.machine_types.specs.{Structure.AttemptStandsIn, Threads.{Frame, Thread, Attempt}, declared.{lock.{Held.Held, Kept.Kept}, phase.{After.After, Phase.Phase, Toward.Toward}}}
use Rattle.machine_types.proofs.PlainPartLaws.{frames_are}
use Rattle.laws_threads.proofs.{HeldLists.{held_monitor, held_there}, ThreadMove.{Lacks, GoesBy, Checks, LeadsTo, TurnsTo, Move, begun_attempt, becomes, by_move, looks_in, takes_in}}
use Rattle.laws_states.specs.{RunSafety.{HasAfter, HasRoot, HasInstruction, HasEvent}, WorkLeft.{leaving_work, leaving_held, chain, trying, inside, chains_left, work_in, work_left, EventsLessenWork}}
use Rattle.laws_states.proofs.{InstructionsFollow.{Follows, returned_fewer, runs_follow}, NextEvents.has_event}
use Rattle.jvm_types.specs.declared.outcome.End.TheVariants as ends
use Rattle.machine_types.specs.declared.lock.Kept.TheVariants as keeps
use Rattle.machine_types.specs.declared.phase.After.TheVariants as afters
use Rattle.machine_types.specs.declared.phase.Phase.TheVariants as phases
use Rattle.machine_types.specs.declared.phase.Toward.TheVariants as towards
use Rattle.laws_threads.proofs.ThreadMove as moves

-- ---- sums

as_many : (a f g n : ℕ) → a + f ≡ n → g ≡ f → a + g ≡ n
as_many a f g n e h = omega (arith, e, h)

one_instruction : (m steps i t u r f g : ℕ) → i < steps → u ≤ m → g ≤ suc f → (m + 2) * (steps - (i + 1)) + (m - u) + r + g < (m + 2) * (steps - i) + (m - t) + r + f
one_instruction m steps i t u r f g h turns frames =
    let k : ℕ = steps - (i + 1) in
    let same : steps - i ≡ suc k = omega (arith, h) in
    rw same (by_sum ((m + 2) * k) ((m + 2) * suc k) (grind arith))
  where
    by_sum : (a b : ℕ) → b ≡ a + (m + 2) → a + (m - u) + r + g < b + (m - t) + r + f
    by_sum a b e = omega (arith, e, frames)

-- ---- places

-- what is left of a monitor that is being left
leaving : (o : Option Held) → (2 < leaving_held o) × (leaving_held o < 11)
leaving None = (omega arith, omega arith)
leaving (Some h) = elim h.kept as (λ (k : Kept). (2 < leaving_work k) × (leaving_work k < 11))
    [ keeps.Flat count ↦ (omega arith, omega arith) | keeps.Fat r ↦ (omega arith, omega arith) ]

place_small : (held : List Held) (phase : Phase) → chain held phase < 12
place_small held (phases.Leave m a) = omega (arith, (leaving (held_at held m)).1)
place_small held phase = omega arith

trying_small : (o : Option Attempt) → trying o ≤ 12
trying_small None = omega arith
trying_small (Some a) = omega arith

inside_small : (phase : Phase) (o : Option Attempt) → inside phase o ≤ 12
inside_small phases.Idle o = omega arith
inside_small phase o = omega (arith, trying_small o)

pub small : (y : Thread) → chain y.held y.phase + inside y.phase y.attempt < 24
small y = omega (arith, place_small y.held y.phase, inside_small y.phase y.attempt)

pushed_as_many : (a : ℕ) (frames : List Frame) → length (pushed a frames) ≡ length frames
pushed_as_many a [] = refl
pushed_as_many a (f ∷ below) = refl

put_back_fewer : (a : Attempt) (frames : List Frame) → a.base < length frames → suc (length (drop (length frames - a.base) frames)) ≤ length frames
put_back_fewer a frames h = let few : length (drop (length frames - a.base) frames) ≡ length frames - (length frames - a.base) = length-drop (length frames - a.base) frames in omega (arith, few, h)

-- ---- what is left behind an event

module _ (x : Thread) (phase : Phase) where
  abbrev Lessens : Thread → Type 0
  Lessens y = work_left y < work_in x phase

  by_chains : (y : Thread) → chains_left y < chains_left x → Lessens y
  by_chains y h = omega (arith, h, (small y))

  by_place : (y : Thread) → chains_left y ≡ chains_left x → chain y.held y.phase + inside y.phase y.attempt < chain x.held phase + inside phase x.attempt → Lessens y
  by_place y e h = omega (arith, e, h)

  to_phase : (now : Phase) → chain x.held now + inside now x.attempt < chain x.held phase + inside phase x.attempt → Lessens (with_phase x now)
  to_phase now h = by_place (with_phase x now) refl h

  ran_on : (s : Thread) → chains_left s ≡ chains_left x → 2 < chain x.held phase + inside phase x.attempt → Lessens (runs s)
  ran_on s e h = elim (nat_lt s.counts.instructions s.cfg.steps) as (λ (b : Bool). Lessens (with_phase s (if b then phases.Run else phases.Ending ends.Steps)))
      [ true ↦ by_place (with_phase s phases.Run) e (omega (arith, h)) | false ↦ by_place (with_phase s (phases.Ending ends.Steps)) e (omega (arith, h)) ]

  turned : (now : Phase) → x.turns < x.cfg.turns → Lessens (failed_turn x now)
  turned now h = by_chains (failed_turn x now) (omega (arith, h))

  -- fewer frames
  module _ (s : Thread) (e : chains_left s ≡ chains_left x) where
    abbrev rest : ℕ
    rest = (s.cfg.turns + 2) * (s.cfg.steps - s.counts.instructions) + (s.cfg.turns - s.turns) + 2 * length s.roots

    in_fewer : (frames : List Frame) (now : Phase) → length frames < length s.frames → Lessens (record s { frames = frames; phase = now })
    in_fewer frames now h = by_chains (record s { frames = frames; phase = now }) (omega (arith, e, h))

    in_as_many : (frames : List Frame) → length frames ≡ length s.frames → 2 < chain x.held phase + inside phase x.attempt → Lessens (runs (record s { frames = frames }))
    in_as_many frames h far = ran_on (record s { frames = frames }) (as_many rest (length s.frames) (length frames) (chains_left x) e h) far

    comes_back : (frames : List Frame) → length frames < length s.frames → Lessens (goes_on s (back frames))
    comes_back [] h = in_fewer [] (root_over s.roots) h
    comes_back (f ∷ below) h = in_fewer (f ∷ below) _ h

    unwinds : (r : ℕ) (class : Thrown) (below : List Frame) → length below < length s.frames → Lessens (goes_on s (unwound r class below))
    unwinds r class [] h = in_fewer [] (phases.Ending (ends.Uncaught class)) h
    unwinds r class (f ∷ below) h = in_fewer (f ∷ below) (phases.Throw r class) h

    -- a monitor is left
    goes_behind : (p : Program) (a : After) → HasAfter p a s.frames → 2 < chain x.held phase + inside phase x.attempt → Lessens (goes_after p s a)
    goes_behind p afters.Next k far = ran_on s e far
    goes_behind p afters.Return k far =
        let few : length (returned p k.0) < length s.frames = omega (arith, (ap length (frames_are p s.frames k.0 k.1)), returned_fewer p k.0) in
        subst (λ (o : Option Top). Lessens (goes_on_if s (option_map (λ at. back (returned p at)) o))) (sym k.1) (comes_back (returned p k.0) few)
    goes_behind p (afters.Unwind r class) k far = unwinds r class (drop 1 s.frames) ((elim s.frames as
        (λ (frames : List Frame). IsSome (top_of p frames) → length (drop 1 frames) < length frames)
        [ [] ↦ λ has. absurd (cc) | f ∷ below ↦ λ has. let same : length (drop 1 (f ∷ below)) ≡ length below = refl in omega (arith, same) ]) k)

  -- a failure, far from the end of a chain
  failed : (a : Attempt) → x.attempt ≡ Some a → a.base < length x.frames → 12 < chain x.held phase + inside phase x.attempt → Lessens (fails x a)
  failed a is based far = at_most (chains_left (fails x a)) (chains_left x) (chain x.held phase + inside phase x.attempt)
      (no_more ((x.cfg.turns + 2) * (x.cfg.steps - x.counts.instructions) + (x.cfg.turns - x.turns) + 2 * length x.roots) (length x.frames) (suc (length (drop (length x.frames - a.base) x.frames))) (put_back_fewer a x.frames based)) far
    where
      no_more : (n f g : ℕ) → g ≤ f → n + g ≤ n + f
      no_more n f g h = omega (arith, h)

      at_most : (n k p : ℕ) → n ≤ k → 12 < p → 24 * n + (6 + 0) < 24 * k + p
      at_most n k p h l = omega (arith, h, l)

-- ---- the next root

starts : (p : Program) (x : Thread) (roots : List ℕ) → x.roots ≡ roots → HasRoot p roots → Lessens x phases.Start (thread_started p x roots)
starts p x [] e has = absurd has
starts p x (number ∷ roots) e has = (elim (slice_get p.methods number) as (λ (o : Option MethodInfo). IsSome o → Lessens x phases.Start (goes_on_if y (option_map (rooted p x.number number) o)))
    [ None ↦ λ has. absurd (cc) | Some m ↦ λ has. by_room m (has_room p [] m) ]) has
  where
    one : length x.roots ≡ suc (length roots)
    one = ap length e

    y : Thread
    y = record x { roots = roots }

    rest : ℕ
    rest = (x.cfg.turns + 2) * (x.cfg.steps - x.counts.instructions) + (x.cfg.turns - x.turns)

    by_room : (m : MethodInfo) (b : Bool) → Lessens x phases.Start (goes_on y (if b then Running (entry_frame number m (root_arguments x.number m) ∷ []) else Uncaught StackOverflowError))
    by_room m true = by_chains x phases.Start (goes_on y (Running (entry_frame number m (root_arguments x.number m) ∷ []))) (omega (arith, one))
    by_room m false = by_chains x phases.Start (goes_on y (Uncaught StackOverflowError)) (omega (arith, one))

-- ---- an instruction

begins_one : (p : Program) (x : Thread) (got : ℕ) → HasInstruction p x.frames → x.counts.instructions < x.cfg.steps → x.turns ≤ x.cfg.turns → Lessens x phases.Run (ran p x (top_of p x.frames) got)
begins_one p x got has more turns = rw has.found (by_chains x phases.Run y less)
  where
    y : Thread
    y = ran p x (Some has.at) got

    k : Follows (begun x) y
    k = runs_follow p x has.at got has.found

    less : chains_left y < chains_left x
    less =
        let few : y.turns ≤ x.cfg.turns = omega (arith, k.turns, turns) in
        rw k.cfg (rw k.instructions (rw k.roots (one_instruction x.cfg.turns x.cfg.steps x.counts.instructions x.turns y.turns (2 * length x.roots) (length x.frames) (length y.frames) more few k.frames)))

-- ---- an exception

module _ (p : Program) (x : Thread) (r : ℕ) (class : Thrown) where
  abbrev Throws : Thread → Type 0
  Throws y = Lessens x (phases.Throw r class) y

  far : 2 < 11 + trying x.attempt
  far = omega arith

  hands : (at : Top) → suc (length at.below) ≡ length x.frames → (o : Option Row) → Throws (goes_on x (handed p r class at o))
  hands at same (Some row) = in_as_many x (phases.Throw r class) x refl (caught row r at) same far
  hands at same None = by_method (is_synchronized at.method.flags)
    where
      fewer : length at.below < length x.frames
      fewer = omega (arith, same)

      rest : ℕ
      rest = (x.cfg.turns + 2) * (x.cfg.steps - x.counts.instructions) + (x.cfg.turns - x.turns) + 2 * length x.roots

      by_method : (b : Bool) → Throws (goes_on x (if b then Leaving (monitor_of p at.method at.frame) (afters.Unwind r class) (frames_of at) else unwound r class at.below))
      by_method true =
          by_place x (phases.Throw r class) (record x { frames = frames_of at; phase = phases.Leave (monitor_of p at.method at.frame) (afters.Unwind r class) })
          (as_many rest (length x.frames) (length (frames_of at)) (chains_left x) refl same) (omega (arith, (leaving (held_at x.held (monitor_of p at.method at.frame))).1))
      by_method false = unwinds x (phases.Throw r class) x refl r class at.below fewer

-- ---- all moves but those of an instruction and of a root

abbrev BeginsNothing : Phase → Type 0
BeginsNothing phases.Start = ⊥
BeginsNothing phases.Run = ⊥
BeginsNothing phase = Unit {0}

no_some : {A : Type 0} (o : Option A) → o ≡ None → IsSome o → ⊥
no_some None e has = cc
no_some (Some a) e has = cc

-- what an event takes is there
lacks_none : (c : MarkedProgram) (x : Thread) (got : ℕ) (phase : Phase) → Lacks c x got phase → BeginsNothing phase → HasEvent c x phase → ⊥
lacks_none c x got _ (moves.no_place word stored e) i has = no_some (top_of c.program x.frames) e has
lacks_none c x got _ (moves.no_catcher r class e) i has = no_some (dispatched c.program r class x.frames) (ap (option_map (λ at. handed c.program r class at (handler_at (class_of class) at))) e) has
lacks_none c x got _ (moves.no_claim m a e) i has = has.0 e
lacks_none c x got _ (moves.not_fat m r toward e) i has = no_some (held_at x.held m) e has
lacks_none c x got _ (moves.not_waiting m r e) i has = no_some (held_at x.held m) e has
lacks_none c x got _ k i has = assumption

module _ (c : MarkedProgram) (x : Thread) (got : ℕ) where
  abbrev place : Phase → ℕ
  place phase = chain x.held phase + inside phase x.attempt

  far_left : (m : ℕ) → 2 < leaving_held (held_at x.held m) + trying x.attempt
  far_left m = omega (arith, (leaving (held_at x.held m)).0)

  goes_less : (phase : Phase) (o : Onward) → GoesBy c.program x got phase o → BeginsNothing phase → Lessens x phase (goes_on x o)
  goes_less _ _ (moves.by_element word stored at found) i = in_as_many x (phases.Element word stored) x refl (went_on c.program at (element_made stored got)) (ap length (frames_are c.program x.frames at found)) (omega arith)
  goes_less _ _ (moves.by_object a word) i = in_as_many x (phases.Made a word) x refl (pushed a x.frames) (pushed_as_many a x.frames) (omega arith)
  goes_less _ _ (moves.by_handler r class at found) i = hands c.program x r class at (ap length (frames_are c.program x.frames at found)) (handler_at (class_of class) at)
  goes_less _ o (moves.by_effect at e _ found is silent d) i = absurd i
  goes_less _ _ (moves.by_machine at class found y) i = absurd i
  goes_less _ _ (moves.by_nobody at m count h found y there l) i = absurd i
  goes_less phase _ k i = ran_on x phase x refl (omega arith)

  fails_less : (phase : Phase) (t : Attempt) → Checks c.program x t phase → BeginsNothing phase → x.attempt ≡ Some t → t.base < length x.frames → Lessens x phase (fails x t)
  fails_less _ t (moves.at_throw r class) i is based = failed x (phases.Throw r class) t is based (omega (arith, ap trying is))
  fails_less _ t (moves.at_end m a k zero_inner) i is based = failed x (phases.Leave m a) t is based (omega (arith, ap trying is, (leaving (held_at x.held m)).0))
  fails_less phase t k i is based = absurd i

  leads_less : (phase now : Phase) → LeadsTo c.program x got phase now → BeginsNothing phase → Lessens x phase (with_phase x now)
  leads_less phase _ (moves.to_take m count k e) i = to_phase x phase (phases.Take m count) (looks_in (λ (w : Phase). place (phases.Take m count) < place w) m phase k (λ tried. omega arith) (omega arith))
  leads_less phase _ (moves.to_take_fat m r k e) i = to_phase x phase (phases.TakeFat m r) (looks_in (λ (w : Phase). place (phases.TakeFat m r) < place w) m phase k (λ tried. omega arith) (omega arith))
  leads_less _ _ (moves.to_grow m count a h e t kept) i = to_phase x (phases.Leave m a) (phases.Grow m (towards.Leave a)) (omega (arith, (ap leaving_held e ∙ ap leaving_work kept)))
  leads_less _ _ (moves.to_element at array index stored e f t) i = absurd i
  leads_less _ _ (moves.to_no_print at v e l t) i = absurd i
  leads_less phase now k i = to_phase x phase now (omega arith)

  turns_less : (phase now : Phase) → TurnsTo x got phase now → TurnsFit phase x.turns x.cfg.turns → x.turns < x.cfg.turns
  turns_less phase _ (moves.looks_again m k) fit = looks_in (λ (w : Phase). TurnsFit w x.turns x.cfg.turns → x.turns < x.cfg.turns) m phase k (λ tried less. less) (λ less. less) fit
  turns_less phase _ (moves.flags m u k e) fit = looks_in (λ (w : Phase). TurnsFit w x.turns x.cfg.turns → x.turns < x.cfg.turns) m phase k (λ tried less. less) (λ less. less) fit
  turns_less phase now k fit = fit

  fattens_less : (m r : ℕ) (toward : Toward) (h : Held) (l : held_at x.held m ≡ Some h) → Lessens x (phases.FatIn m r toward) (becomes c x got (phases.FatIn m r toward) (moves.fattens_lock m r toward h l))
  fattens_less m r (towards.Leave a) h l =
      let there : held_at (with_held (record h { kept = keeps.Fat r }) x.held) m ≡ Some (record h { kept = keeps.Fat r }) = held_there m (record h { kept = keeps.Fat r }) x.held (held_monitor m x.held h l) in
      let low : leaving_held (held_at (with_held (record h { kept = keeps.Fat r }) x.held) m) ≡ 3 = ap leaving_held there in
      by_place x (phases.FatIn m r (towards.Leave a)) (becomes c x got (phases.FatIn m r (towards.Leave a)) (moves.fattens_lock m r (towards.Leave a) h l)) refl (omega (arith, low))
  fattens_less m r towards.Wait h l = by_place x (phases.FatIn m r towards.Wait) (becomes c x got (phases.FatIn m r towards.Wait) (moves.fattens_lock m r towards.Wait h l)) refl (omega arith)

  move_less : (phase : Phase) (k : Move c x got phase) → BeginsNothing phase → HasEvent c x phase → TurnsFit phase x.turns x.cfg.turns → IfSome x.attempt (λ t. t.base < length x.frames) → Lessens x phase (becomes c x got phase k)
  move_less phase (moves.stays k) i has turns based = absurd (lacks_none c x got phase k i has)
  move_less phase (moves.goes o k) i has turns based = goes_less phase o k i
  move_less phase (moves.fails_in t e d k) i has turns based = fails_less phase t k i e (subst (λ (o : Option Attempt). IfSome o (λ k. k.base < length x.frames)) e based)
  move_less phase (moves.leads now k) i has turns based = leads_less phase now k i
  move_less phase (moves.turns now k) i has turns based = turned x phase now (turns_less phase now k turns)
  move_less _ (moves.enters_again m tried h l) i has turns based = ran_on x (phases.Enter m tried) (record x { held = with_held (deeper h) x.held }) refl (omega arith)
  move_less _ (moves.enters_inside m tried t k) i has turns based = ran_on x (phases.Enter m tried) (record x { attempt = Some (record t { inner = t.inner + 1 }) }) refl (omega arith)
  move_less _ (moves.begins_to_try m tried noted f below e y l t free) i has turns based = ran_on x (phases.Enter m tried) (record x { attempt = Some (begun_attempt m noted tried f below) }) refl (omega arith)
  move_less phase (moves.takes_lock m kept k) i has turns based =
      ran_on x phase (record x { held = with_held (record { monitor = m; kept = kept; depth = 1 }) x.held; counts = record x.counts { locked = x.counts.locked + 1 } }) refl
      (takes_in (λ (w : Phase). 2 < place w) got m phase kept k (λ count. omega arith) (λ r. omega arith))
  move_less _ (moves.gives_up m a (moves.on_leave h e t)) i has turns based = goes_behind x (phases.Leave m a) (record x { held = without_held m x.held }) refl c.program a has.1 (far_left m)
  move_less _ (moves.gives_up m a moves.flat_out) i has turns based = goes_behind x (phases.FlatOut m a) (record x { held = without_held m x.held }) refl c.program a has.1 (omega arith)
  move_less _ (moves.leaves_outer m a h l t) i has turns based = goes_behind x (phases.Leave m a) (record x { held = with_held (shallower h) x.held }) refl c.program a has.1 (far_left m)
  move_less _ (moves.leaves_inside m a t inner k e) i has turns based = goes_behind x (phases.Leave m a) (record x { attempt = Some (record t { inner = inner }) }) refl c.program a has.1 (far_left m)
  move_less _ (moves.finishes_try m a t k e y) i has turns based = goes_behind x (phases.Leave m a) (elided x) refl c.program a has.1 (far_left m)
  move_less _ (moves.fattens_lock m r toward h l) i has turns based = fattens_less m r toward h l
  move_less _ (moves.gives_up_to_wait m r h l) i has turns based = by_place x (phases.WaitOut m r) (becomes c x got (phases.WaitOut m r) (moves.gives_up_to_wait m r h l)) refl (omega arith)
  move_less _ (moves.retakes_lock m r depth e) i has turns based = ran_on x (phases.Retake m r depth) (record x { held = with_held (record { monitor = m; kept = keeps.Fat r; depth = depth }) x.held }) refl (omega arith)
  move_less phase k i has turns based = absurd i

pub lessens : (c : MarkedProgram) (x : Thread) (phase : Phase) (got : ℕ) → HasEvent c x phase → StepsFit phase x.counts.instructions x.cfg.steps → TurnsFit phase x.turns x.cfg.turns
    → IfSome x.attempt (λ t. t.base < length x.frames) → Lessens x phase (moved c x phase got)
lessens c x phases.Start got has steps turns based = starts c.program x x.roots refl has
lessens c x phases.Run got has steps turns based = begins_one c.program x got has steps (omega (arith, turns))
lessens c x phase got has steps turns based = by_move (Lessens x phase) c x phase got (λ k. move_less c x got phase k tt has turns based)

-- ---- a lawful thread

based_in : (c : MarkedProgram) (was : Phase) (frames : List Frame) (held : List Held) (o : Option Attempt) → AttemptStandsIn c was frames held o → IfSome o (λ t. t.base < length frames)
based_in c was frames held None stands = tt
based_in c was frames held (Some a) stands = stands.based

pub events_lessen_work : EventsLessenWork
events_lessen_work c x got marked lawful live =
    lessens c x x.phase got (has_event c x marked lawful live) lawful.bounded.steps lawful.bounded.turns
    (based_in c lawful.was x.frames x.held x.attempt lawful.structured.attempt)
