-- A thread goes on in frames that show what it holds.
use Rattle.std.proofs.Common.{◌≡◌, ℕ, ◌+◌, List, [], ◌∷◌, Option, Some, None, refl, sym, ap, ◌∙◌, arith}
use Rattle.jvm_types.specs.CodeTable.{can_throw}
use Rattle.checked_program.specs.MarkedProgram.{MarkedProgram}
use Rattle.machine_types.specs.{Frames.pushed, Going.{goes_on}, Onward.{Onward, Running, Throwing, Entering, Leaving, RootReturned, Uncaught, back, unwound}, Shown.Show, Standing.{Operands, Whole, Thrown}}
use Rattle.machine_types.specs.Structure.{HasFrame, TopIs, TopEnters, AfterShows, AreHeldOnce, AttemptStands, AttemptStandsIn, count_in, held_depth, tried_depth, entries_left, operands_after}
use Rattle.machine_types.specs.{Threads.{Frame, Attempt, Thread}, declared.{lock.Held.Held, phase.{After.After, Phase.Phase}}}
use Rattle.laws_threads.{specs.{InsideMoves.{GoesOnInside, OnwardStands, TopStands}, StructureLaws.StaysStructured, ThrowLaws.ThrowsOn}, proofs.{ThreadMove.over_to, Turns.running}}
use Rattle.jvm_types.specs.declared.outcome.End.TheVariants as ends
use Rattle.jvm_types.specs.declared.outcome.Thrown as outcomes
use Rattle.machine_types.specs.declared.phase.After.TheVariants as afters
use Rattle.machine_types.specs.declared.phase.Phase.TheVariants as phases

-- ---- what the frames show, where a thread goes on from some entries that it has

-- a monitor is left: its entry is shown still, or not
pub record LeavingShows (c : MarkedProgram) (m : ℕ) (a : After) (fs : List Frame) (shown : List ℕ) : Type 0 where
  pub leaves : AfterShows c m a fs
  pub now : List ℕ
  pub counts : (n : ℕ) → count_in n now + entries_left a m n ≡ count_in n shown
  pub show : Show c (operands_after a) fs now

abbrev pub OnwardShows : MarkedProgram → Onward → (shown : List ℕ) → Type 0
OnwardShows c (Running fs) shown = HasFrame fs × Show c Whole fs shown
OnwardShows c (Throwing x class fs) shown = TopIs c can_throw fs × Show c Thrown fs shown
OnwardShows c (Entering m fs) shown = TopEnters c m fs × Show c Whole fs (m ∷ shown)
OnwardShows c (Leaving m a fs) shown = LeavingShows c m a fs shown
OnwardShows c RootReturned shown = shown ≡ []
OnwardShows c (Uncaught class) shown = shown ≡ []

-- ---- each shows a frame that stands

top_stands : (c : MarkedProgram) (operands : Operands) (fs : List Frame) (shown : List ℕ) → HasFrame fs → Show c operands fs shown → TopStands c fs
top_stands c operands [] shown f k = absurd f
top_stands c operands (f ∷ fs) shown h k = k.3.stands

pub entered_frame : (c : MarkedProgram) (m : ℕ) (fs : List Frame) → TopEnters c m fs → HasFrame fs
entered_frame c m [] k = absurd k
entered_frame c m (f ∷ fs) k = tt

pub left_frame : (c : MarkedProgram) (m : ℕ) (a : After) (fs : List Frame) → AfterShows c m a fs → HasFrame fs
left_frame c m a (f ∷ fs) k = tt
left_frame c m afters.Next [] k = absurd k
left_frame c m a [] k = absurd k

pub onward_stands : (c : MarkedProgram) (onward : Onward) (shown : List ℕ) → OnwardShows c onward shown → OnwardStands c onward
onward_stands c (Running fs) shown k = top_stands c Whole fs shown k.0 k.1
onward_stands c (Throwing x class fs) shown k = tt
onward_stands c (Entering m fs) shown k = top_stands c Whole fs (m ∷ shown) (entered_frame c m fs k.0) k.1
onward_stands c (Leaving m a fs) shown k = top_stands c (operands_after a) fs k.now (left_frame c m a fs k.leaves) k.show
onward_stands c RootReturned shown k = tt
onward_stands c (Uncaught class) shown k = tt

pub back_shows : (c : MarkedProgram) (fs : List Frame) (shown : List ℕ) → Show c Whole fs shown → OnwardShows c (back fs) shown
back_shows c [] shown k = k
back_shows c (f ∷ fs) shown k = (tt, k)

pub unwound_shows : (c : MarkedProgram) (x : ℕ) (class : outcomes.Thrown) (fs : List Frame) (shown : List ℕ) → Show c Thrown fs shown → ThrowsOn c fs → OnwardShows c (unwound x class fs) shown
unwound_shows c x class [] shown k on = k
unwound_shows c x class (f ∷ fs) shown k on = (on, k)

pub pushed_frame : (a : ℕ) (fs : List Frame) → HasFrame fs → HasFrame (pushed a fs)
pushed_frame a [] k = absurd k
pushed_frame a (f ∷ fs) k = tt

-- ---- the thread goes on

abbrev pub AttemptGoesOn : MarkedProgram → Onward → List Held → Option Attempt → Type 0
AttemptGoesOn c onward held None = Unit {0}
AttemptGoesOn c onward held (Some a) = GoesOnInside c onward held a

pub none_goes_on : (c : MarkedProgram) (onward : Onward) (held : List Held) (o : Option Attempt) → o ≡ None → AttemptGoesOn c onward held o
none_goes_on c onward held None e = tt
none_goes_on c onward held (Some a) e = absurd (cc)

pub each_goes_on : (c : MarkedProgram) (onward : Onward) (held : List Held) (o : Option Attempt) → ((a : Attempt) → o ≡ Some a → GoesOnInside c onward held a) → AttemptGoesOn c onward held o
each_goes_on c onward held None f = tt
each_goes_on c onward held (Some a) f = f a refl

-- inside an attempt that goes on, in the phase that the thread comes to
goes_inside : (c : MarkedProgram) (onward : Onward) (phase : Phase) (fs : List Frame) (held : List Held) (o : Option Attempt) → ((a : Attempt) → GoesOnInside c onward held a → AttemptStands c phase fs held a) → AttemptGoesOn c onward held o → AttemptStandsIn c phase fs held o
goes_inside c onward phase fs held None f k = tt
goes_inside c onward phase fs held (Some a) f k = f a k

module _ (c : MarkedProgram) (was : Phase) (s : Thread) (once : AreHeldOnce s.held) where
  none_shown : (shown : List ℕ) → shown ≡ [] → ((m : ℕ) → count_in m shown ≡ held_depth m s.held + tried_depth m s.attempt) → (m : ℕ) → 0 ≡ held_depth m s.held + tried_depth m s.attempt
  none_shown shown e d m = sym (ap (count_in m) e) ∙ d m

  pub going : (onward : Onward) (shown : List ℕ) → OnwardShows c onward shown → ((m : ℕ) → count_in m shown ≡ held_depth m s.held + tried_depth m s.attempt) → AttemptGoesOn c onward s.held s.attempt
      → StaysStructured c was (goes_on s onward)
  going (Running fs) shown k d inside = running c was (record s { frames = fs }) (record { shown = shown; show = k.1; depths = λ m. let e = d m in omega arith; once = once; phase_shows = k.0 }) (goes_inside c (Running fs) phases.Run fs s.held s.attempt (λ a k. k) inside)
  going (Throwing x class fs) shown k d inside = record {
    is_as = refl;
    stands = record { shown = shown; show = k.1; depths = λ m. let e = d m in omega arith; once = once; phase_shows = k.0 };
    attempt = goes_inside c (Throwing x class fs) (phases.Throw x class) fs s.held s.attempt (λ a k. k) inside;
  }
  going (Entering m fs) shown k d inside = record {
    is_as = refl;
    stands = record { shown = m ∷ shown; show = k.1; depths = λ n. let e = d n in omega arith; once = once; phase_shows = record { outer = shown; innermost = refl; enters = k.0 } };
    attempt = goes_inside c (Entering m fs) (phases.Enter m 0) fs s.held s.attempt (λ a k. k) inside;
  }
  going (Leaving m a fs) shown k d inside = record {
    is_as = refl;
    stands = record { shown = k.now; show = k.show; depths = λ n. let e = d n in let f = k.counts n in omega arith; once = once; phase_shows = k.leaves };
    attempt = goes_inside c (Leaving m a fs) (phases.Leave m a) fs s.held s.attempt (λ a k. k) inside;
  }
  going RootReturned shown k d inside = over_to (λ phase. StaysStructured c was (record s { frames = []; phase = phase })) s.roots
      (λ e. record { is_as = refl; stands = record { shown = []; show = refl; depths = none_deep; once = once; phase_shows = refl }; attempt = goes_inside c RootReturned (phases.Ending ends.Returned) [] s.held s.attempt (λ a k. absurd k) inside })
      (λ number rest e. record { is_as = refl; stands = record { shown = []; show = refl; depths = none_deep; once = once; phase_shows = refl }; attempt = goes_inside c RootReturned phases.Start [] s.held s.attempt (λ a k. absurd k) inside })
    where
      none_deep : (m : ℕ) → 0 + 0 ≡ held_depth m s.held + tried_depth m s.attempt + 0
      none_deep m = let e = none_shown shown k d m in omega arith
  going (Uncaught class) shown k d inside = record {
    is_as = refl;
    stands = record { shown = []; show = refl; depths = λ m. let e = none_shown shown k d m in omega arith; once = once; phase_shows = refl };
    attempt = goes_inside c (Uncaught class) (phases.Ending (ends.Uncaught class)) [] s.held s.attempt (λ a k. absurd k) inside;
  }
