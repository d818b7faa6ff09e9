-- A thread that is about to read or store an element stands at the instruction that led there, in each state of a run.
use Rattle.std.proofs.Common.{◌≡◌, ◌≢◌, ℕ, zero, suc, ◌+◌, Bool, true, false, List, [], ◌∷◌, Option, Some, None, refl, sym, ◌∙◌, subst, slice_get, slice_set, if◌then◌else◌}
use Rattle.std.specs.{List.range_with_len, Option.option_map}
use Rattle.checked_program.specs.MarkedProgram.{MarkedProgram}
use Rattle.machine_types.specs.Accesses.{found_by}
use Rattle.machine_types.specs.Core.{Core, Happening, Of, NextPart, all_happened, core, event_of, happened, how_ended, may_begin, next_threads, part_begins, part_phase, start, start_thread, with_roots}
use Rattle.machine_types.specs.{Elision.elided, Events.{moved, wanted}, Frames.{Top, effect_at, top_of, went_on}, Going.{goes_on, goes_on_if, runs}}
use Rattle.machine_types.specs.{HeldMonitors.{deeper, shallower, with_held, without_held}, Instructions.printed, Ints.low, Monitors.grown, Onward.{Onward, Running, after, rooted}}
use Rattle.machine_types.specs.{Parts.{done_roots, init_roots, run_roots}, Threads.Thread, Words.value_word, declared.{config.Config.Config, effect.Effect.{Effect, TheVariants.Indexes}}}
use Rattle.machine_types.{specs.declared.{lock.Kept.Kept, phase.{Phase.Phase, Toward.Toward}}, proofs.Lists.{got_when_set, got_other}}
use Rattle.laws_threads.proofs.{Lists.mapped_at, ThreadMove.{Asks, IsOnward, LeadsTo, Move, TurnsTo, WaitsFrom, any_move, becomes, begun_attempt, counting, onward_to, runs_to, turns_to}}
use Rattle.event_texts.specs.{Doings.doing_at, NamedWords.doing_of, declared.doing.Doing.Doing}
use mathlib.Core.Logic.{dite}
use native.Mathlib.Decide.{ℕ_discrete}
use Rattle.machine_types.specs.declared.lock.Kept.TheVariants as keeps
use Rattle.machine_types.specs.declared.phase.Phase.TheVariants as phases
use Rattle.machine_types.specs.declared.phase.Toward.TheVariants as towards

-- the word is that of the element which an instruction reads or stores
abbrev pub IsElementBy : (word : ℕ) → Effect → Type 0
IsElementBy word (Indexes array index stored) = word ≡ value_word array (low index)
IsElementBy word e = ⊥

abbrev pub IsElementOf : (word : ℕ) → Option Doing → Type 0
IsElementOf word None = ⊥
IsElementOf word (Some d) = IsElementBy word d.effect

-- a thread at an element stands at the instruction that led there
abbrev pub StandsAtElement : Phase → Option Doing → Type 0
StandsAtElement (phases.Element word stored) d = IsElementOf word d
StandsAtElement phase d = Unit {0}

module _ (c : MarkedProgram) where
  abbrev Stands : Thread → Type 0
  Stands s = StandsAtElement s.phase (doing_of c s)

  -- ---- the phases that a thread comes to as it goes on

  no_element : (phase : Phase) (d : Option Doing) → IsOnward phase → StandsAtElement phase d
  no_element (phases.Element word stored) d k = absurd k
  no_element phase d k = tt

  onward : (s : Thread) (o : Option Onward) → Stands s → Stands (goes_on_if s o)
  onward s None h = h
  onward s (Some o) h = onward_to (λ (phase : Phase). StandsAtElement phase (doing_of c (goes_on s o))) (λ phase k. no_element phase (doing_of c (goes_on s o)) k) s o

  running : (s : Thread) → Stands (runs s)
  running s = runs_to (λ (phase : Phase). StandsAtElement phase (doing_of c s)) s tt tt

  -- ---- each move

  module _ (s : Thread) (got : ℕ) where
    by_instruction : (at : Top) (array index : ℕ) (stored : Option ℕ) → top_of c.program s.frames ≡ Some at → effect_at c.program at ≡ Indexes array index stored → IsElementOf (value_word array (low index)) (doing_of c s)
    by_instruction at array index stored found is =
        subst (λ (o : Option Top). IsElementOf (value_word array (low index)) (option_map (doing_at c.program) o)) (sym found) (subst (IsElementBy (value_word array (low index))) (sym is) refl)

    led : (was now : Phase) → LeadsTo c.program s got was now → StandsAtElement now (doing_of c s)
    led _ _ (LeadsTo.to_element at array index stored found is t) = by_instruction at array index stored found is
    led was now k = tt

    turned : (was now : Phase) (d : Option Doing) → TurnsTo s got was now → StandsAtElement now d
    turned _ _ d (TurnsTo.looks_again m k) = tt
    turned was now d k = tt

    waits : (m : ℕ) (kept : Kept) (now : Phase) (d : Option Doing) → WaitsFrom m kept now → StandsAtElement now d
    waits m _ _ d (WaitsFrom.grows_first count) = tt
    waits m _ _ d (WaitsFrom.waits_fat r) = tt

    asked : (m : ℕ) (kept : Kept) (now : Phase) (d : Option Doing) → Asks m kept now → StandsAtElement now d
    asked m _ _ d (Asks.looks_who r) = tt
    asked m _ _ d (Asks.clears_all r) = tt

    grows : (m r : ℕ) (toward : Toward) (d : Option Doing) → StandsAtElement (grown m r toward) d
    grows m r (towards.Leave a) d = tt
    grows m r towards.Wait d = tt

    stands : (was : Phase) (k : Move c s got was) → Stands s → Stands (becomes c s got was k)
    stands was (Move.stays k) h = h
    stands was (Move.goes o k) h = onward s (Some o) h
    stands was (Move.fails_in t e d k) h = tt
    stands was (Move.leads now k) h = led was now k
    stands was (Move.turns now k) h = turns_to (λ (phase : Phase). StandsAtElement phase (doing_of c s)) s now (turned was now (doing_of c s) k) tt
    stands _ (Move.makes at word size e f t) h = tt
    stands _ (Move.prints at n e f t) h = onward (printed s got n) (Some (Running (went_on c.program at 0))) h
    stands _ (Move.asks_to_wait at m w now e f l k) h = waits m w.kept now (doing_of c (record s { frames = went_on c.program at 0; phase = now; turns = 0 })) k
    stands _ (Move.asks at m w now e y l k) h = asked m w.kept now (doing_of c (record s { frames = went_on c.program at 0; phase = now })) k
    stands _ (Move.enters_again m tried w l) h = running (record s { held = with_held (deeper w) s.held })
    stands _ (Move.enters_inside m tried t k) h = running (record s { attempt = Some (record t { inner = t.inner + 1 }) })
    stands _ (Move.begins_to_try m tried noted f below e y l t free) h = running (record s { attempt = Some (begun_attempt m noted tried f below) })
    stands was (Move.takes_lock m kept k) h = running (record s { held = with_held (record { monitor = m; kept = kept; depth = 1 }) s.held; counts = record s.counts { locked = s.counts.locked + 1 } })
    stands was (Move.gives_up m a k) h = onward (record s { held = without_held m s.held }) (after c.program s.frames a) h
    stands _ (Move.leaves_outer m a w l t) h = onward (record s { held = with_held (shallower w) s.held }) (after c.program s.frames a) h
    stands _ (Move.leaves_inside m a t inner k e) h = onward (record s { attempt = Some (record t { inner = inner }) }) (after c.program s.frames a) h
    stands _ (Move.finishes_try m a t k e y) h = onward (elided s) (after c.program s.frames a) h
    stands _ (Move.fattens_lock m r toward w l) h = grows m r toward (doing_of c s)
    stands _ (Move.gives_up_to_wait m r w l) h = tt
    stands _ (Move.retakes_lock m r depth e) h = running (record s { held = with_held (record { monitor = m; kept = keeps.Fat r; depth = depth }) s.held })
    stands _ (Move.starts number roots e) h = onward (record s { roots = roots }) (option_map (rooted c.program s.number number) (slice_get c.program.methods number)) h

  event_stands : (s : Thread) (got : ℕ) → Stands s → Stands (moved c s s.phase got)
  event_stands s got h = any_move Stands c s s.phase got (λ n k. stands (counting n s) got s.phase k h)

  -- ---- all threads of a state

  abbrev EachStands : List Thread → Type 0
  EachStands xs = (t : ℕ) (x : Thread) → slice_get xs t ≡ Some x → Stands x

  each_set : (xs : List Thread) (t : ℕ) (x now : Thread) → slice_get xs t ≡ Some x → Stands now → EachStands xs → EachStands (slice_set xs t now)
  each_set xs t x now there h each u y at = dite (ℕ_discrete u t)
      (λ (same : u ≡ t). let here : slice_get (slice_set xs t now) u ≡ Some now = subst (λ (v : ℕ). slice_get (slice_set xs t now) v ≡ Some now) (sym same) (got_when_set xs t x now there) in
      let now_is : now ≡ y = cc in subst Stands now_is h)
      (λ (other : u ≢ t). each u y (sym (got_other xs t u now other) ∙ at))

  event_each : (s : Core) (t : ℕ) (o : Option Thread) → slice_get s.threads t ≡ o → EachStands s.threads → EachStands (event_of c s t o).threads
  event_each s t None there each = each
  event_each s t (Some x) there each = each_set s.threads t x (moved c x x.phase (found_by s.words (wanted c x x.phase))) there (event_stands x (found_by s.words (wanted c x x.phase)) (each t x there)) each

  -- ---- the begin of a part

  begins : (roots : List ℕ) (d : Option Doing) → StandsAtElement (part_phase roots) d
  begins [] d = tt
  begins (number ∷ roots) d = tt

  with_roots_stands : (roots : List ℕ) (s : Thread) → Stands (with_roots roots s)
  with_roots_stands roots s = begins roots (doing_of c s)

  part_each : (part : ℕ) (x : Thread) (workers : List Thread) → EachStands (x ∷ workers) → EachStands (part_begins c.program part x workers)
  part_each zero x workers each zero y at = let same : record x { part = 1; first = how_ended x.phase } ≡ y = cc in subst Stands same (each 0 x refl)
  part_each zero x workers each (suc t) y at = let found = mapped_at (with_roots (run_roots c.program)) workers t y at in subst Stands found.2 (with_roots_stands (run_roots c.program) found.0)
  part_each (suc part) x workers each zero y at = let same : with_roots (done_roots c.program) (record x { part = 2 }) ≡ y = cc in subst Stands same (with_roots_stands (done_roots c.program) (record x { part = 2 }))
  part_each (suc part) x workers each (suc t) y at = each (suc t) y at

  next_each : (xs : List Thread) → EachStands xs → EachStands (next_threads c.program xs)
  next_each [] each = each
  next_each (x ∷ workers) each = by_test (may_begin (x ∷ workers))
    where
      by_test : (b : Bool) → EachStands (if b then part_begins c.program x.part x workers else x ∷ workers)
      by_test true = part_each x.part x workers each
      by_test false = each

  -- ---- every run

  happened_each : (s : Core) (h : Happening) → EachStands s.threads → EachStands (happened c s h).threads
  happened_each s (Of t) each = event_each s t (slice_get s.threads t) refl each
  happened_each s NextPart each = next_each s.threads each

  all_each : (s : Core) (hs : List Happening) → EachStands s.threads → EachStands (all_happened c s hs).threads
  all_each s [] each = each
  all_each s (h ∷ hs) each = all_each (happened c s h) hs (happened_each s h each)

  start_stands : (cfg : Config) (t : ℕ) → Stands (start_thread c cfg t)
  start_stands cfg zero = begins (init_roots c.program) (doing_of c (start_thread c cfg 0))
  start_stands cfg (suc t) = tt

  start_each : (cfg : Config) → EachStands (start c cfg).threads
  start_each cfg t x at = let found = mapped_at (start_thread c cfg) (range_with_len 0 (c.program.workers + 1)) t x at in subst Stands found.2 (start_stands cfg found.0)

pub run_stands : (c : MarkedProgram) (cfg : Config) (hs : List Happening) (t : ℕ) (s : Thread) → slice_get (core c cfg hs).threads t ≡ Some s → StandsAtElement s.phase (doing_of c s)
unfolding core
run_stands c cfg hs t s at = all_each c (start c cfg) hs (start_each c cfg) t s at
