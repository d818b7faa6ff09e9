-- Events of one thread, one after the other, and hands behind them.
use Rattle.std.proofs.Common.{◌≡◌, ◌≢◌, ◌<◌, ◌≤◌, ℕ, zero, suc, Bool, true, false, Option, Some, None, is_some, option_map, refl, sym, ap, subst, ◌∙◌, arith, slice_set}
use Rattle.lists.specs.Stock.{Stock}
use Rattle.jvm_types.specs.declared.outcome.ThreadReport.{ThreadReport}
use Rattle.checked_program.specs.MarkedProgram.{MarkedProgram}
use Rattle.machine_types.specs.{Core.is_live, Events.{moved, wanted}, Threads.Thread, declared.{config.Config.Config, phase.Phase.Phase}}
use Rattle.laws_threads.specs.GivenThread.{GivenIsKept, given_of}
use Rattle.laws_states.specs.{GrowingRuns.IsOfRun, RunSafety.RunsAreSafe, WorkLeft.{EventsLessenWork, work_left}}
use Rattle.local_events.specs.Locals.{AfterLocals}
use Rattle.table_rule.{specs.Views.{View, held_in}, proofs.Entries.{held_here, held_else, set_held}}
use Rattle.table_runner.specs.{Accessing.{CanRun, NextEvent, made_by_event, IsBehindView}, Going.{HasGoneByEvent, IsLaterThread, GoesOnAt}}
use Rattle.table_runner.specs.{Handed.{Handed, AreHands, EachStands, HasReportRoom, viewed}, Running.IsRunOn}
use Rattle.table_runner.proofs.HandedThreads.{goes_alone, is_lawful, room_as, stands_after, stands_of, viewed_else}
use mathlib.Core.Logic.{dite}
use native.Mathlib.Decide.{ℕ_discrete}
use Rattle.machine_types.specs.declared.phase.Phase.TheVariants as phases

-- ---- one thread

pub none_yet : (e : NextEvent) (v : View) → IsBehindView e v → IsLaterThread e v e.state v
none_yet e v stands = record { stands = stands; given = refl; others = λ u n. refl }

pub one_more : GivenIsKept → (e : NextEvent) (v w z : View) (x y : Thread) → IsLaterThread e v x w
    → HasGoneByEvent (record e { state = x }) w y z → IsLaterThread e v y z
one_more given e v w z x y on g =
    let f : NextEvent = record e { state = x } in
    let each : EachStands e.program e.cfg e.number (held_in (viewed (wanted e.program x x.phase) w e.number (made_by_event f g.got)) e.number) (Some (made_by_event f g.got)) = stands_after f w (wanted e.program x x.phase) g.got refl on.stands g.happens in
    let here : IsBehindView (record e { state = made_by_event f g.got }) (viewed (wanted e.program x x.phase) w e.number (made_by_event f g.got)) = stands_of e.program e.cfg e.number (viewed (wanted e.program x x.phase) w e.number (made_by_event f g.got)) (held_in (viewed (wanted e.program x x.phase) w e.number (made_by_event f g.got)) e.number) (made_by_event f g.got) refl each in
    record {
      stands = subst (λ (s : Thread). IsBehindView (record e { state = s }) z) (sym g.state) (subst (IsBehindView (record e { state = made_by_event f g.got })) (sym g.view) here);
      given = ap given_of g.state ∙ given e.program x x.phase g.got ∙ on.given;
      others = λ u n. ap (λ (r : View). held_in r u) g.view
          ∙ viewed_else (wanted e.program x x.phase) w e.number u (made_by_event f g.got) n ∙ on.others u n;
    }

pub one_event : GivenIsKept → (e : NextEvent) (v z : View) (y : Thread) → IsBehindView e v → HasGoneByEvent e v y z → IsLaterThread e v y z
one_event given e v z y stands g = one_more given e v v z e.state y (none_yet e v stands) g

-- those of which none wants an access
pub local_more : GivenIsKept → (k : ℕ) (e : NextEvent) (v w : View) (x y : Thread) → IsLaterThread e v x w
    → AfterLocals e.program x k y → IsLaterThread e v y w
local_more given zero e v w x y on is = subst (λ (s : Thread). IsLaterThread e v s w) (sym is) on
local_more given (suc k) e v w x y on is =
    let f : NextEvent = record e { state = x } in
    local_more given k e v w (made_by_event f 0) y
    (one_more given e v w w x (made_by_event f 0) on (goes_alone f w (made_by_event f 0) on.stands.behind.1 is.0 refl)) is.1

-- and then others
pub then_more : (e : NextEvent) (v w z : View) (x y : Thread) → IsLaterThread e v x w
    → IsLaterThread (record e { state = x }) w y z → IsLaterThread e v y z
then_more e v w z x y on more = record {
  stands = more.stands;
  given = more.given ∙ on.given;
  others = λ u n. more.others u n ∙ on.others u n;
}

-- ---- what they leave to do

still : (c : MarkedProgram) (x : Thread) (phase : Phase) → is_live phase ≡ false → moved c x phase 0 ≡ x
still c x phases.Idle dead = refl
still c x (phases.Ended how) dead = refl
still c x phase dead = cc

one_less : EventsLessenWork → RunsAreSafe → (c : MarkedProgram) (cfg : Config) (words t : ℕ) (x : Thread)
    → CanRun c cfg words → IsOfRun c cfg t x → work_left (moved c x x.phase 0) ≤ work_left x
one_less lessen safe c cfg words t x run of_run = by_live (is_live x.phase) refl
  where
    by_live : (live : Bool) → is_live x.phase ≡ live → work_left (moved c x x.phase 0) ≤ work_left x
    by_live true is =
        let less : work_left (moved c x x.phase 0) < work_left x = lessen c x 0 run.marked (is_lawful safe c cfg words t x run of_run) is in
        omega arith
    by_live false is =
        subst (λ (s : Thread). work_left s ≤ work_left x) (sym (still c x x.phase is)) (omega arith)

-- no more than there was
pub no_more_left : EventsLessenWork → RunsAreSafe → GivenIsKept
    → (k : ℕ) (e : NextEvent) (words : ℕ) (v w : View) (x y : Thread) → CanRun e.program e.cfg words
    → IsLaterThread e v x w → AfterLocals e.program x k y → work_left y ≤ work_left x
no_more_left lessen safe given zero e words v w x y run on is =
    subst (λ (s : Thread). work_left s ≤ work_left x) (sym is) (omega arith)
no_more_left lessen safe given (suc k) e words v w x y run on is =
    let f : NextEvent = record e { state = x } in
    let first : work_left (made_by_event f 0) ≤ work_left x = one_less lessen safe e.program e.cfg words e.number x run on.stands.behind.1 in
    let rest : work_left y ≤ work_left (made_by_event f 0) = no_more_left lessen safe given k e words v w (made_by_event f 0) y run
    (one_more given e v w w x (made_by_event f 0) on (goes_alone f w (made_by_event f 0) on.stands.behind.1 is.0 refl)) is.1 in
    omega arith

-- ---- hands

stands_now : (e : NextEvent) (w : View) → IsBehindView e w
    → EachStands e.program e.cfg e.number (held_in w e.number) (Some e.state)
stands_now e w k = subst (λ o. EachStands e.program e.cfg e.number o (Some e.state)) (sym k.held) k.behind

module _ (h : Handed) (t : ℕ) (k : AreHands h) where
  -- where thread t is there
  each_later : (x y : Thread) (w : View) → held_in h.threads t ≡ Some x
      → IsLaterThread (record { program = h.program; cfg = h.cfg; number = t; state = x }) h.view y w
      → (u : ℕ) → EachStands h.program h.cfg u (held_in w u) (held_in (slice_set h.threads t (Some y)) u)
  each_later x y w is g u = dite (ℕ_discrete u t) here else
    where
      here : u ≡ t → EachStands h.program h.cfg u (held_in w u) (held_in (slice_set h.threads t (Some y)) u)
      here same =
          let one : EachStands h.program h.cfg t (held_in w t) (Some y) = stands_now (record { program = h.program; cfg = h.cfg; number = t; state = y }) w g.stands in
          subst (λ m. EachStands h.program h.cfg m (held_in w m) (held_in (slice_set h.threads t (Some y)) m)) (sym same)
          (subst (EachStands h.program h.cfg t (held_in w t)) (sym (held_here h.threads t x y is)) one)

      else : u ≢ t → EachStands h.program h.cfg u (held_in w u) (held_in (slice_set h.threads t (Some y)) u)
      else n = subst (λ p. EachStands h.program h.cfg u p (held_in (slice_set h.threads t (Some y)) u)) (sym (g.others u n))
          (subst (EachStands h.program h.cfg u (held_in h.view u)) (sym (held_else h.threads t u (Some y) n)) (k.each u))

  pub hands_later : (was now : Option Thread) (w : View) → held_in h.threads t ≡ was
      → GoesOnAt h.program h.cfg t was h.view now w
      → AreHands (record h { threads = slice_set h.threads t now; view = w })
  hands_later None None w is g = subst AreHands (sym (λ i. record h { threads = set_held h.threads t None is i; view = g i })) k
  hands_later None (Some y) w is g = absurd g
  hands_later (Some x) None w is g = absurd g
  hands_later (Some x) (Some y) w is g = record { run = k.run; vacant = k.vacant; each = each_later x y w is g }

  given_at : (was now : Option Thread) (w : View) → held_in h.threads t ≡ was
      → GoesOnAt h.program h.cfg t was h.view now w
      → option_map given_of (held_in (slice_set h.threads t now) t) ≡ option_map given_of (held_in h.threads t)
  given_at None None w is g = ap (λ (v : View). option_map given_of (held_in v t)) (set_held h.threads t None is)
  given_at None (Some y) w is g = absurd g
  given_at (Some x) None w is g = absurd g
  given_at (Some x) (Some y) w is g = ap (option_map given_of) (held_here h.threads t x y is)
      ∙ ap Some g.given ∙ ap (option_map given_of) (sym is)

some_given : (o p : Option Thread) → option_map given_of o ≡ option_map given_of p → is_some o ≡ is_some p
some_given None None e = refl
some_given None (Some y) e = absurd (cc)
some_given (Some x) None e = absurd (cc)
some_given (Some x) (Some y) e = refl

numbers_kept : (v : View) (t : ℕ) (now : Option Thread)
    → option_map given_of (held_in (slice_set v t now) t) ≡ option_map given_of (held_in v t) → (u : ℕ)
    → is_some (held_in (slice_set v t now) u) ≡ is_some (held_in v u)
numbers_kept v t now e u = dite (ℕ_discrete u t)
    (λ same. ap (λ m. is_some (held_in (slice_set v t now) m)) same ∙ some_given (held_in (slice_set v t now) t) (held_in v t) e ∙ ap (λ m. is_some (held_in v m)) (sym same))
    (λ n. ap is_some (held_else v t u now n))

pub room_later : (h : Handed)
    (t : ℕ) (was now : Option Thread) (w : View) (room : Option (Stock ThreadReport)) → AreHands h
    → held_in h.threads t ≡ was → GoesOnAt h.program h.cfg t was h.view now w → HasReportRoom h.threads room
    → HasReportRoom (slice_set h.threads t now) room
room_later h t was now w room k is g m = room_as (held_in h.threads 0) (held_in (slice_set h.threads t now) 0) room (sym (numbers_kept h.threads t now (given_at h t k was now w is g) 0)) m

pub run_on : (h : Handed) (t : ℕ) (was now : Option Thread) (w : View) (n : ℕ) → AreHands h
    → held_in h.threads t ≡ was → GoesOnAt h.program h.cfg t was h.view now w
    → IsRunOn t h (record h { steps = n; threads = slice_set h.threads t now; view = w })
run_on h t was now w n k is g = record {
  same = record { program = refl; cfg = refl; table = refl; numbers = numbers_kept h.threads t now (given_at h t k was now w is g) };
  others = λ u other. held_else h.threads t u now other;
  given = given_at h t k was now w is g;
}
