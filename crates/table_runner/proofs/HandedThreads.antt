-- The threads of hands.
use Rattle.std.proofs.Common.{◌≡◌, ◌≢◌, ℕ, zero, suc, ◌<◌, length, Bool, true, false, [], ◌∷◌, Option, Some, None, is_some, refl, sym, ap, subst, ◌∙◌, arith, slice_index_or, slice_set, IsSome}
use Rattle.lists.specs.Stock.{Stock}
use Rattle.jvm_types.specs.declared.outcome.ThreadReport.{ThreadReport}
use Rattle.checked_program.specs.MarkedProgram.{MarkedProgram}
use Rattle.machine_types.specs.{Accesses.found_by, Core.core, Events.wanted, Facts.IsThread, FoundWords.Fits, Lawful.IsLawful, Threads.Thread, declared.{access.Access.Access, config.Config.Config}}
use Rattle.laws_states.{specs.{GrowingRuns.IsOfRun, RunSafety.RunsAreSafe, StateLaws.{ProgramsKeepThreads, RunsHaveState}}, proofs.GrowingRuns.threads_stay}
use Rattle.local_events.{specs.Locals.Follows, proofs.LocalLaws.{follows_on, follows_itself}}
use Rattle.table_rule.{specs.Views.{View, held_in}, proofs.Entries.{held_here, held_else, set_held}}
use Rattle.table_runner.specs.{Accessing.{NextEvent, made_by_event, Happens, IsEventMade, CanRun, IsBehindView}, Going.{HasGoneByEvent, GoesAt, IsBehindViewAt}}
use Rattle.table_runner.specs.Handed.{Handed, AreHands, EachStands, event_at, steps_behind, viewed, IsEventOf, HasReportRoom, RoomIsThere}
use mathlib.Core.Logic.{dite}
use native.Mathlib.Decide.{ℕ_discrete}

-- ---- a thread of a run

pub is_thread : ProgramsKeepThreads → RunsHaveState
    → (c : MarkedProgram) (cfg : Config) (words t : ℕ) (x : Thread) → CanRun c cfg words → IsOfRun c cfg t x
    → IsThread c cfg t x
is_thread keep reach c cfg words t x run of_run = (reach c cfg of_run.0 run.marked run.width (keep c cfg run.marked run.settings)).facts.threads.own t x of_run.1

pub is_lawful : RunsAreSafe → (c : MarkedProgram) (cfg : Config) (words t : ℕ) (x : Thread)
    → CanRun c cfg words → IsOfRun c cfg t x → IsLawful c x
is_lawful safe c cfg words t x run of_run = (safe c cfg of_run.0 t x run.marked run.width run.settings of_run.1).lawful

pub fits : RunsAreSafe → (e : NextEvent) (words got : ℕ) → CanRun e.program e.cfg words → Happens e got
    → Fits e.program e.state got
fits safe e words got run h = subst (Fits e.program e.state) (sym h.finds) (safe e.program e.cfg h.happenings e.number e.state run.marked run.width run.settings h.at).access.found

-- behind its event it is one of the run
pub stays_of_run : (e : NextEvent) (got : ℕ) → Happens e got → IsOfRun e.program e.cfg e.number (made_by_event e got)
stays_of_run e got h = subst (λ n. IsOfRun e.program e.cfg e.number (made_by_event e n)) (sym h.finds) (threads_stay e.program e.cfg h.happenings e.number e.state h.at)

-- an event without an access happens where the thread stands
pub happens_here : (e : NextEvent) → IsOfRun e.program e.cfg e.number e.state
    → wanted e.program e.state e.state.phase ≡ None → Happens e 0
happens_here e of_run none = record { happenings = of_run.0; at = of_run.1; finds = sym (ap (found_by (core e.program e.cfg of_run.0).words) none) }

-- ---- what an event makes of the view

-- an event without an access
pub goes_alone : (e : NextEvent) (v : View) (after : Thread) → IsOfRun e.program e.cfg e.number e.state
    → wanted e.program e.state e.state.phase ≡ None → after ≡ made_by_event e 0 → HasGoneByEvent e v after v
goes_alone e v after of_run none moves = record {
  got = 0;
  happens = happens_here e of_run none;
  state = moves;
  view = ap (λ o. viewed o v e.number (made_by_event e 0)) (sym none);
}

-- one with an access, whose thread was as it is when the access is made
pub goes_by : (e : NextEvent) (v w : View) (x after : Thread) (a : Access) (got : ℕ)
    → wanted e.program e.state e.state.phase ≡ Some a → x ≡ e.state → IsEventMade (record e { state = x }) v got w
    → after ≡ made_by_event (record e { state = x }) got → HasGoneByEvent e v after w
goes_by e v w x after a got wants same is moves =
    let its : IsEventMade e v got w = subst (λ (y : Thread). IsEventMade (record e { state = y }) v got w) same is in
    record {
      got = got;
      happens = its.happens;
      state = moves ∙ ap (λ (y : Thread). made_by_event (record e { state = y }) got) same;
      view = its.view ∙ ap (λ o. viewed o v e.number (made_by_event e got)) (sym wants);
    }

-- ---- hands

-- what stands is there in the view, too
pub stands_of : (c : MarkedProgram) (cfg : Config) (t : ℕ) (v : View) (o : Option Thread) (y : Thread)
    → held_in v t ≡ o → EachStands c cfg t o (Some y)
    → IsBehindView (record { program = c; cfg = cfg; number = t; state = y }) v
stands_of c cfg t v None y e k = absurd k
stands_of c cfg t v (Some x) y e k = record { was = x; held = e; behind = k }

pub stands_at : (h : Handed) (t : ℕ) (o : Option Thread) → AreHands h → held_in h.threads t ≡ o
    → IsBehindViewAt h.program h.cfg t o h.view
stands_at h t None k e = tt
stands_at h t (Some y) k e = stands_of h.program h.cfg t h.view (held_in h.view t) y refl (subst (EachStands h.program h.cfg t (held_in h.view t)) e (k.each t))

-- its entry in the view, when the thread has made an event
pub stands_after : (e : NextEvent) (v : View) (o : Option Access) (got : ℕ)
    → wanted e.program e.state e.state.phase ≡ o → IsBehindView e v → Happens e got
    → EachStands e.program e.cfg e.number (held_in (viewed o v e.number (made_by_event e got)) e.number) (Some (made_by_event e got))
stands_after e v None got none stands h =
    let zero_got : got ≡ 0 = h.finds ∙ ap (found_by (core e.program e.cfg h.happenings).words) none in
    let onward : Follows e.program stands.was (made_by_event e got) = subst (λ n. Follows e.program stands.was (made_by_event e n)) (sym zero_got) (follows_on e.program stands.was e.state stands.behind.0 none) in
    subst (λ p. EachStands e.program e.cfg e.number p (Some (made_by_event e got))) (sym stands.held) (onward, stays_of_run e got h)
stands_after e v (Some a) got some stands h =
    subst (λ p. EachStands e.program e.cfg e.number p (Some (made_by_event e got))) (sym (held_here v e.number stands.was (made_by_event e got) stands.held)) (follows_itself e.program (made_by_event e got), stays_of_run e got h)

pub viewed_else : (o : Option Access) (v : View) (t u : ℕ) (y : Thread) → u ≢ t
    → held_in (viewed o v t y) u ≡ held_in v u
viewed_else None v t u y n = refl
viewed_else (Some a) v t u y n = held_else v t u (Some y) n

module _ (h : Handed) (t : ℕ) (k : AreHands h) where
  each_after : (x y : Thread) (w : View) → held_in h.threads t ≡ Some x → HasGoneByEvent (event_at h t x) h.view y w
      → (u : ℕ) → EachStands h.program h.cfg u (held_in w u) (held_in (slice_set h.threads t (Some y)) u)
  each_after x y w is g u = dite (ℕ_discrete u t) here else
    where
      here : u ≡ t → EachStands h.program h.cfg u (held_in w u) (held_in (slice_set h.threads t (Some y)) u)
      here same =
          let one = stands_after (event_at h t x) h.view (wanted h.program x x.phase) g.got refl (stands_at h t (Some x) k is) g.happens in
          let now : held_in (slice_set h.threads t (Some y)) t ≡ Some (made_by_event (event_at h t x) g.got) = held_here h.threads t x y is
          ∙ ap Some g.state in
          subst (λ m. EachStands h.program h.cfg m (held_in w m) (held_in (slice_set h.threads t (Some y)) m)) (sym same)
          (subst (λ (z : View). EachStands h.program h.cfg t (held_in z t) (held_in (slice_set h.threads t (Some y)) t)) (sym g.view) (subst (EachStands h.program h.cfg t (held_in (viewed (wanted h.program x x.phase) h.view t (made_by_event (event_at h t x) g.got)) t)) (sym now) one))

      else : u ≢ t → EachStands h.program h.cfg u (held_in w u) (held_in (slice_set h.threads t (Some y)) u)
      else n =
          let old : held_in w u ≡ held_in h.view u = ap (λ (z : View). held_in z u) g.view
          ∙ viewed_else (wanted h.program x x.phase) h.view t u (made_by_event (event_at h t x) g.got) n in
          subst (λ p. EachStands h.program h.cfg u p (held_in (slice_set h.threads t (Some y)) u)) (sym old) (subst (EachStands h.program h.cfg u (held_in h.view u)) (sym (held_else h.threads t u (Some y) n)) (k.each u))

  -- all that holds of hands holds behind the event
  gone : (was now : Option Thread) (w : View) → held_in h.threads t ≡ was
      → GoesAt h.program h.cfg t was h.view now w
      → AreHands (record h { threads = slice_set h.threads t now; view = w })
  gone None now w is g = absurd g
  gone (Some x) None w is g = absurd g
  gone (Some x) (Some y) w is g = record { run = k.run; vacant = k.vacant; each = each_after x y w is g }

  still : (was now : Option Thread) (w : View) → held_in h.threads t ≡ was → now ≡ was → w ≡ h.view
      → record h { threads = slice_set h.threads t now; view = w } ≡ h
  still was now w is same view = (λ i. record h { threads = slice_set h.threads t (same i); view = view i })
      ∙ ap (λ (ts : View). record h { threads = ts }) (set_held h.threads t was is)

  pub hands_kept : (b : Bool) (was now : Option Thread) (w : View) → held_in h.threads t ≡ was
      → (b ≡ false → (now ≡ was) × (w ≡ h.view)) → (b ≡ true → GoesAt h.program h.cfg t was h.view now w)
      → AreHands (record h { threads = slice_set h.threads t now; view = w })
  hands_kept true was now w is f g = gone was now w is (g refl)
  hands_kept false was now w is f g = subst AreHands (sym (still was now w is (f refl).0 (f refl).1)) k

  pub made_event : (was now : Option Thread) (w : View) (n : ℕ) → held_in h.threads t ≡ was
      → GoesAt h.program h.cfg t was h.view now w
      → ((x : Thread) → was ≡ Some x → n ≡ steps_behind (wanted h.program x x.phase) h.steps)
      → IsEventOf h t (record h { steps = n; threads = slice_set h.threads t now; view = w })
  made_event None now w n is g counts = absurd g
  made_event (Some x) None w n is g counts = absurd g
  made_event (Some x) (Some y) w n is g counts = record {
    state = x;
    held = is;
    got = g.got;
    happens = g.happens;
    leaves = λ i. record h { steps = counts x refl i; threads = slice_set h.threads t (Some (g.state i)); view = g.view i };
  }

-- what holds of hands doesn't speak of their steps
pub counted_hands : (h : Handed) (n : ℕ) → AreHands h → AreHands (record h { steps = n })
counted_hands h n k = record { run = k.run; vacant = k.vacant; each = k.each }

-- ---- room for the reports

pub room_as : (o p : Option Thread) (room : Option (Stock ThreadReport)) → is_some o ≡ is_some p
    → RoomIsThere o room → RoomIsThere p room
room_as None None room e k = k
room_as (Some x) None room e k = absurd (let bad : true ≡ false = e in cc)
room_as None (Some y) room e k = absurd (let bad : false ≡ true = e in cc)
room_as (Some x) (Some y) None e k = k
room_as (Some x) (Some y) (Some r) e k = k

goes_some : (c : MarkedProgram) (cfg : Config) (t : ℕ) (was now : Option Thread) (v w : View)
    → GoesAt c cfg t was v now w → is_some was ≡ is_some now
goes_some c cfg t None now v w g = absurd g
goes_some c cfg t (Some x) None v w g = absurd g
goes_some c cfg t (Some x) (Some y) v w g = refl

set_some : (v : View) (t u : ℕ) (o : Option Thread) → is_some (held_in v t) ≡ is_some o
    → is_some (held_in v u) ≡ is_some (held_in (slice_set v t o) u)
set_some [] t u o e = refl
set_some (z ∷ zs) zero zero o e = e
set_some (z ∷ zs) zero (suc u) o e = refl
set_some (z ∷ zs) (suc t) zero o e = refl
set_some (z ∷ zs) (suc t) (suc u) o e = set_some zs t u o e

pub room_kept : (v : View)
    (t : ℕ) (b : Bool) (c : MarkedProgram) (cfg : Config) (was now : Option Thread) (old new : View) (room : Option (Stock ThreadReport))
    → held_in v t ≡ was → (b ≡ false → (now ≡ was) × (new ≡ old))
    → (b ≡ true → GoesAt c cfg t was old now new) → HasReportRoom v room → HasReportRoom (slice_set v t now) room
room_kept v t true c cfg was now old new room is f g k = room_as (held_in v 0) (held_in (slice_set v t now) 0) room (set_some v t 0 now (ap is_some is ∙ goes_some c cfg t was now old new (g refl))) k
room_kept v t false c cfg was now old new room is f g k = room_as (held_in v 0) (held_in (slice_set v t now) 0) room (set_some v t 0 now (ap is_some (is ∙ sym (f refl).0))) k

pub in_place : (v : View) (t : ℕ) (d : Option Thread) → IsSome (held_in v t)
    → held_in v t ≡ slice_index_or v t d
in_place [] t d some = absurd (let bad : false ≡ true = some in cc)
in_place (z ∷ zs) zero d some = refl
in_place (z ∷ zs) (suc t) d some = in_place zs t d some

pub held_within : (v : View) (t : ℕ) → IsSome (held_in v t) → t < length v
held_within [] t some = absurd (let bad : false ≡ true = some in cc)
held_within (z ∷ zs) zero some = omega arith
held_within (z ∷ zs) (suc t) some = let r = held_within zs t some in omega arith
