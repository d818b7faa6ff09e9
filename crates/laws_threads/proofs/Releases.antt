-- A thread leaves a monitor.
use Rattle.std.proofs.Common.{◌≡◌, ℕ, suc, ◌+◌, ◌<◌, true, false, List, [], ◌∷◌, drop, Option, Some, None, refl, sym, ap, ◌∙◌, subst, arith, nat_lt, option_map}
use Rattle.std.{proofs.lemmas.Bool.{ltb-true, Decides.nat_tests}}
use Rattle.checked_program.specs.MarkedProgram.{MarkedProgram, IsMarked}
use Rattle.machine_types.specs.{Elision.elided, Frames.{Top, frames_of, returned}, Going.{with_phase, goes_on, goes_on_if, goes_after}, HeldMonitors.{held_at, with_held, without_held, shallower}}
use Rattle.machine_types.specs.{Monitors.lets_go, Onward.{Onward, Running, after, back, unwound}, Shown.Show, Standing.Whole}
use Rattle.machine_types.specs.Structure.{AfterShows, AreHeldOnce, IsFlat, Stands, AttemptStandsIn, count_in, held_depth, tried_depth, once_at, entries_left, operands_after}
use Rattle.machine_types.specs.{Threads.{Frame, Attempt, Thread}, Typed.{Classes, AfterHolds, FramesHold}, declared.{lock.Held.Held, phase.{After.After, Phase.Phase}}}
use Rattle.laws_threads.{specs.StructureLaws.StaysStructured, proofs.FramePlaces.{tops_stand_law, have_tops_law}}
use Rattle.laws_threads.proofs.{FrameReturns.{has_height, return_behind_law}, FrameThrows.unwind_behind_law, GoingOn.{back_shows, unwound_shows, OnwardShows, AttemptGoesOn, none_goes_on, onward_stands, going}}
use Rattle.laws_threads.proofs.{HeldLists.{OneLess, lowered, depth_some, held_positive}, Leaves.leaves_inside, Turns.{no_attempt, held_outside}}
use Rattle.machine_types.specs.declared.lock.Kept.TheVariants as keeps
use Rattle.machine_types.specs.declared.phase.After.TheVariants as afters
use Rattle.machine_types.specs.declared.phase.Phase.TheVariants as phases
use Rattle.machine_types.specs.declared.phase.Toward.TheVariants as towards
use Rattle.laws_threads.proofs.HeldLists as lists

-- ---- how it goes on behind the monitor: with one entry less, where that is shown still, and with the others

pub record GoesBehind (c : MarkedProgram) (m : ℕ) (a : After) (fs : List Frame) (shown : List ℕ) : Type 0 where
  pub onward : Onward
  pub is : after c.program fs a ≡ Some onward
  pub rest : List ℕ
  pub counts : (n : ℕ) → count_in n rest + once_at m n ≡ count_in n shown + entries_left a m n
  pub shows : OnwardShows c onward rest

module _ (is : Classes) (c : MarkedProgram) (marked : IsMarked c) (m : ℕ) (shown : List ℕ) where
  less_shown : (rest : List ℕ) → shown ≡ m ∷ rest → (n : ℕ) → count_in n rest + once_at m n ≡ count_in n shown + 0
  less_shown rest e n = let all : count_in n shown ≡ once_at m n + count_in n rest = ap (count_in n) e in omega arith

  pub goes_behind : (a : After) (fs : List Frame) → Show c (operands_after a) fs shown → AfterShows c m a fs → AfterHolds c is a fs → GoesBehind c m a fs shown
  goes_behind afters.Next fs show leaves holds = record { onward = Running fs; is = refl; rest = shown; counts = λ n. refl; shows = (leaves, show) }
  goes_behind afters.Return [] show leaves holds = absurd leaves
  goes_behind afters.Return (f ∷ fs) show leaves holds =
      let top = have_tops_law c f fs Whole shown marked show in
      let stands = tops_stand_law c (f ∷ fs) Whole shown top.0 marked show top.1 in
      let typed : FramesHold c is (frames_of top.0) = subst (λ (gs : List Frame). FramesHold c is gs) stands.1.frames holds in
      let k = return_behind_law c (f ∷ fs) shown top.0 m marked top.1 show (has_height c marked is top.0.frame typed.0) leaves in
      record { onward = back (returned c.program top.0); is = ap (λ (o : Option Top). option_map (λ (at : Top). back (returned c.program at)) o) top.1; rest = k.0; counts = less_shown k.0 k.1; shows = back_shows c (returned c.program top.0) k.0 k.2 }
  goes_behind (afters.Unwind x class) fs show leaves holds =
      let k = unwind_behind_law c fs shown m marked show leaves in
      record { onward = unwound x class (drop 1 fs); is = refl; rest = k.0; counts = less_shown k.0 k.1; shows = unwound_shows c x class (drop 1 fs) k.0 k.2 k.3 }

-- ---- one entry is given up

module _ (is : Classes) (c : MarkedProgram) (marked : IsMarked c) (was : Phase) (m : ℕ) (a : After) (s : Thread) where
  -- what it has left is what is shown without one entry, and the exit itself
  pub record Leaves (shown : List ℕ) : Type 0 where
    pub show : Show c (operands_after a) s.frames shown
    pub leaves : AfterShows c m a s.frames
    pub holds : AfterHolds c is a s.frames
    pub once : AreHeldOnce s.held
    pub depths : (n : ℕ) → count_in n shown + entries_left a m n ≡ held_depth n s.held + tried_depth n s.attempt + once_at m n

  pub left : (shown : List ℕ) → Leaves shown → ((onward : Onward) (rest : List ℕ) → after c.program s.frames a ≡ Some onward → OnwardShows c onward rest → AttemptGoesOn c onward s.held s.attempt) → StaysStructured c was (goes_after c.program s a)
  left shown k inside =
      let g = goes_behind is c marked m shown a s.frames k.show k.leaves k.holds in
      let now : StaysStructured c was (goes_on s g.onward) = going c was s k.once g.onward g.rest g.shows (λ n. let d = k.depths n in let e = g.counts n in omega arith) (inside g.onward g.rest g.is g.shows) in
      subst (λ (o : Option Onward). StaysStructured c was (goes_on_if s o)) (sym g.is) now

-- a thread at the exit of a monitor
pub record AtExit (is : Classes) (c : MarkedProgram) (m : ℕ) (a : After) (s : Thread) : Type 0 where
  pub stands : Stands c (phases.Leave m a) s.frames s.held s.attempt
  pub inside : AttemptStandsIn c (phases.Leave m a) s.frames s.held s.attempt
  pub holds : AfterHolds c is a s.frames

module _ (is : Classes) (c : MarkedProgram) (marked : IsMarked c) (was : Phase) (s : Thread) (m : ℕ) (a : After) (exit : AtExit is c m a s) where
  open exit use {stands as k, inside, holds}

  -- of a monitor that is held
  pub left_with : (less : List Held) → OneLess m s.held less → s.attempt ≡ None → StaysStructured c was (goes_after c.program (record s { held = less }) a)
  left_with less one none = left is c marked was m a (record s { held = less }) k.shown
      (record { show = k.show; leaves = k.phase_shows; holds = holds; once = one.once; depths = λ n. let d = k.depths n in let e = one.depths n in omega arith })
      (λ onward rest e shows. none_goes_on c onward less s.attempt none)

  module _ (h : Held) (e : held_at s.held m ≡ Some h) where
    none_under_way : s.attempt ≡ None
    none_under_way = held_outside c (phases.Leave m a) m h s.frames s.held s.attempt (λ n same. same) e inside

    last_deep : nat_lt 1 h.depth ≡ false → h.depth ≡ 1
    last_deep f = let some : 0 < h.depth = held_positive m s.held h k.once e in grind (arith, nat_tests, f, some)

    pub left_deeper : nat_lt 1 h.depth ≡ true → StaysStructured c was (goes_after c.program (record s { held = with_held (shallower h) s.held }) a)
    left_deeper f = left_with (with_held (shallower h) s.held) (lowered m s.held h k.once e (ltb-true 1 h.depth f)) none_under_way

    pub left_last : nat_lt 1 h.depth ≡ false → StaysStructured c was (lets_go c.program s m a)
    left_last f = left_with (without_held m s.held) (lists.released m s.held k.once (depth_some m s.held h e ∙ last_deep f)) none_under_way

    pub grows_first : (count : ℕ) → nat_lt 1 h.depth ≡ false → h.kept ≡ keeps.Flat count → StaysStructured c was (with_phase s (phases.Grow m (towards.Leave a)))
    grows_first count f l = record { is_as = refl; stands = grows; attempt = no_attempt c (phases.Grow m (towards.Leave a)) s.frames s.held s.attempt none_under_way }
      where
        grows : Stands c (phases.Grow m (towards.Leave a)) s.frames s.held s.attempt
        grows = record {
          shown = k.shown;
          show = k.show;
          depths = k.depths;
          once = k.once;
          phase_shows = record { toward_shows = k.phase_shows; flat = subst (λ (o : Option Held). IsFlat o) (sym e) (count, l); once = depth_some m s.held h e ∙ last_deep f };
        }

  -- of the monitor of an attempt
  module _ (t : Attempt) (e : s.attempt ≡ Some t) (on : t.monitor ≡ m) where
    pub left_elided : t.inner ≡ 0 → StaysStructured c was (goes_after c.program (elided s) a)
    left_elided f = left is c marked was m a (elided s) k.shown
        (record { show = k.show; leaves = k.phase_shows; holds = holds; once = k.once; depths = λ n. grind (arith, nat_tests, k.depths n, ap (tried_depth n) e, f, on) })
        (λ onward rest e shows. tt)

    pub left_inside : (inner : ℕ) → t.inner ≡ suc inner → StaysStructured c was (goes_after c.program (record s { attempt = Some (record t { inner = inner }) }) a)
    left_inside inner f = left is c marked was m a (record s { attempt = Some (record t { inner = inner }) }) k.shown
        (record { show = k.show; leaves = k.phase_shows; holds = holds; once = k.once; depths = λ n. grind (arith, nat_tests, k.depths n, ap (tried_depth n) e, f, on) })
        (λ onward rest g shows. leaves_inside c m a s.frames s.held t inner onward marked (subst (λ (o : Option Attempt). AttemptStandsIn c (phases.Leave m a) s.frames s.held o) e inside) (subst (λ (o : Option Attempt). Stands c (phases.Leave m a) s.frames s.held o) e k) f g (onward_stands c onward rest shows))
