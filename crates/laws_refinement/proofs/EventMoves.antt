-- What an event of a thread does to the plain run: outside an attempt it makes its own steps; inside none, but where the section
-- is done, which then stands there as a whole.
use Rattle.std.proofs.Common.{◌≡◌, ℕ, ◌+◌, List, [], Option, Some, None, refl, sym, ap, ◌∙◌, subst, arith}
use Rattle.checked_program.specs.MarkedProgram.{MarkedProgram}
use Rattle.machine_types.specs.{Attempts.Owes, Core.{Core, event, outcome}, Counting.{run_at, take_at, count_along, CountsFit}, Events.moved, Faithful.PrintsFit}
use Rattle.machine_types.specs.{History.{Past, Fate, GoesOn, Fails, Finishes, fate, past_after, shown_by, shown_at, steps_of}, PlainLaws.InstructionsChangeMemory, PlainMemory.Object, PlainState.Plain}
use Rattle.machine_types.specs.{PlainSteps.plain_run, Threads.{Attempt, Thread}, declared.{plain.PlainStep.PlainStep}}
use Rattle.laws_states.specs.HeapFacts.{objects_after}
use Rattle.laws_simulation.{specs.{OutcomeLaws.StandsToMove, StandsBeside.StandsBeside, StepsBeside.StepsBeside}, proofs.{EventCounts.events_are_counted, EventPrints.prints_are_kept}}
use Rattle.laws_refinement.{specs.{ElidedSteps.{found_of, IsNotFinished, FinishesBeside}, FaithfulRuns.{AreEventLaws, AreElidedLaws}}, proofs.{Attempting.Event, EventSteps.steps_beside}}
use Rattle.laws_refinement.proofs.MoreSteps.{recounted}

-- the steps of the event of thread t, which is x with the past d, are a plain run to a state that stands beside the next one;
-- and its counts and prints are those of the thread then, with its past then
pub record MovesBy (c : MarkedProgram) (objects : List Object) (s : Core) (t : ℕ) (x : Thread) (d : Past) (q : Plain) (steps : List PlainStep) (past : Past) : Type 0 where
  pub after : Plain
  pub run : plain_run c.program q steps ≡ Some after
  pub beside : StandsBeside c.program (objects_after c.program s t objects) (event c s t) after
  pub counts : (runs takes : ℕ) → CountsFit x d runs takes
      → CountsFit (moved c x x.phase (found_of c s x)) past (runs + count_along c.program (run_at t) steps q) (takes + count_along c.program (take_at t) steps q)
  pub prints : PrintsFit (outcome s) q → PrintsFit (outcome (event c s t)) after

-- by the attempt that it is in
abbrev pub MovesIn : (c : MarkedProgram) (objects : List Object) (s : Core) (t : ℕ) (x : Thread) (d : Past) (q : Plain) → Option Attempt → Type 0
MovesIn c objects s t x d q attempt = MovesBy c objects s t x d q (steps_of t (shown_at c x attempt (found_of c s x) d)) (past_after c x attempt (found_of c s x) d)

module _ (memory : InstructionsChangeMemory) (laws : AreEventLaws) (elided : AreElidedLaws) (its : Event) (d : Past) (q : Plain) (beside : StandsBeside its.c.program its.objects its.s q)
    (owes : Owes its.c its.owning.stores its.objects its.w its.s its.t (its.was its.t) its.x its.x.attempt d) where
  open its use {c, cfg, objects, was, frozen, owning as own, own_after, w, later, s, t, x, turns}

  -- outside an attempt
  outside : x.attempt ≡ None → MovesIn c objects s t x d q None
  outside e =
      let moves : StepsBeside c objects s t x q = steps_beside laws (record {
        member = record { states = record { c = c; cfg = cfg; objects = objects; was = was; s = s; q = q; marked = turns.marked; facts = turns.facts; beside = beside }; t = t; x = x; here = turns.thread };
        outside = e;
      }) turns.width in
      let stands : StandsToMove c cfg objects was s t x q moves.after =
      record { marked = turns.marked; width = turns.width; facts = turns.facts; beside = beside; thread = turns.thread; outside = e; run = moves.run } in
      record {
        after = moves.after;
        run = moves.run;
        beside = moves.beside;
        counts = λ runs takes k. events_are_counted c cfg objects was s t x q moves.after d runs takes stands k;
        prints = λ k. prints_are_kept memory c cfg objects was s t x q moves.after stands k;
      }

  module _ (a : Attempt) (e : x.attempt ≡ Some a) where
    -- inside one that it does not finish, nothing is shown
    under_way : (f : Fate) → fate c x a x.phase (found_of c s x) ≡ f → IsNotFinished f → shown_by f d ≡ [] → MovesIn c objects s t x d q x.attempt
    under_way f is going none =
        let goes : IsNotFinished (fate c x a x.phase (found_of c s x)) = subst IsNotFinished (sym is) going in
        let nothing : steps_of t (shown_at c x x.attempt (found_of c s x) d) ≡ [] =
        ap (λ (o : Option Attempt). steps_of t (shown_at c x o (found_of c s x) d)) e ∙ ap (λ (g : Fate). steps_of t (shown_by g d)) is ∙ ap (steps_of t) none in
        subst (λ (steps : List PlainStep). MovesBy c objects s t x d q steps (past_after c x x.attempt (found_of c s x) d)) (sym nothing) (record {
          after = q;
          run = refl;
          beside = elided.under_way c cfg objects was s t x a q turns.marked turns.width turns.facts beside turns.thread e goes;
          counts = λ runs takes k. recounted (moved c x x.phase (found_of c s x)) (elided.counted c cfg objects was s t x a d runs takes turns.marked turns.facts turns.thread e goes k) (omega arith) (omega arith);
          prints = λ k. elided.print_nothing c cfg objects was s t x a q q turns.marked turns.facts turns.thread e refl k;
        })

    by_fate : (f : Fate) → fate c x a x.phase (found_of c s x) ≡ f → MovesIn c objects s t x d q x.attempt
    by_fate GoesOn is = under_way GoesOn is tt refl
    by_fate Fails is = under_way Fails is tt refl
    -- the section as a whole
    by_fate Finishes is =
        let finish : FinishesBeside c objects s t x d q = elided.finish c cfg objects was frozen own own_after w later s t x a d q turns beside e owes is in
        record {
          after = finish.after;
          run = finish.run;
          beside = finish.beside;
          counts = λ runs takes k. recounted (moved c x x.phase (found_of c s x)) (elided.finish_counted c cfg objects was s t x a d runs takes turns.marked turns.facts turns.thread e is k)
              (ap (λ (n : ℕ). runs + n) (sym finish.instructions)) (ap (λ (n : ℕ). takes + n) (sym finish.sections));
          prints = λ k. elided.print_nothing c cfg objects was s t x a q finish.after turns.marked turns.facts turns.thread e finish.prints k;
        }

  pub event_moves : MovesIn c objects s t x d q x.attempt
  event_moves = (elim x.attempt as (λ (o : Option Attempt). x.attempt ≡ o → MovesIn c objects s t x d q x.attempt)
      [ None ↦ λ e. subst (MovesIn c objects s t x d q) (sym e) (outside e) | Some a ↦ λ e. by_fate a e (fate c x a x.phase (found_of c s x)) refl ]) refl
