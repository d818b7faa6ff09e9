-- An instruction keeps a thread within its bounds, and so does a check that fails.
use Rattle.std.proofs.Common.{◌≡◌, ℕ, ◌+◌, ◌<◌, ◌≤◌, true, List, [], ◌∷◌, ◌++◌, length, Option, Some, None, refl, sym, subst, ap, ◌∙◌, arith, length-append, option_map, slice_get, IfSome, IsSome}
use Rattle.std.{specs.List.AllByRecursion, proofs.lemmas.Bool.Decides.nat_tests}
use Rattle.jvm_types.specs.declared.{outcome.{Print.Print}, program.{MethodInfo.MethodInfo, Program.Program}}
use Rattle.machine_types.specs.{Bounds.{KeptFits, EntryFits, IsInner, IsBounded}, Elision.{put_back, fails}, Frames.{Top, frames_of}, Going.{with_phase, goes_on}, HeldMonitors.{held_at}}
use Rattle.machine_types.specs.{Instructions.{has_print_left, begun, printed}, Ints.int_of, Onward.{Onward, Running, Throwing, Entering, Leaving, RootReturned, Uncaught, called, done}}
use Rattle.machine_types.specs.{ReadyObjects.thrown_of, Threads.{Frame, Attempt, Thread}, Words.header_class, declared.effect.Effect.Effect}
use Rattle.machine_types.specs.declared.{effect.Effect.TheVariants.{Raises, Calls, Stuck}, lock.{Held.Held, Kept.Kept}, phase.Phase.Phase}
use Rattle.laws_threads.proofs.{BoundedOnward.{LimitsFit, Fit, by_attempt, Spends, spends_less, bounded, goes, fit_of, spends_of}, HeldBounds.found, ThreadMove.{IsByDone, Asks, WaitsFrom}}
use Rattle.machine_types.specs.declared.phase.Phase.TheVariants as phases
use Rattle.machine_types.specs.declared.phase.Toward.TheVariants as towards
use Rattle.laws_threads.proofs.ThreadMove as moves

-- ---- checks

pub inside : (o i : ℕ) (attempt : Option Attempt) (a : Attempt) → attempt ≡ Some a → by_attempt o i attempt ≡ i
inside o i attempt a e = ap (by_attempt o i) e

pub attempt_fails : (p : Program) (s : Thread) (a : Attempt) → s.attempt ≡ Some a → held_at s.held a.monitor ≡ None → Fit p s → Spends s 0 2 → IsBounded p (fails s a)
attempt_fails p s a e none f k =
    let after : Thread = record s { frames = put_back a s.frames; attempt = None; counts = record s.counts { failed = s.counts.failed + 1 } } in
    bounded p after (phases.Enter a.monitor a.number) (record { limits = f.limits; held = f.held; tried = record { noted = tt; inner = tt } }) tt f.limits.few_turns f.limits.few_steps tt
    (subst (λ (o : Option Held). IfSome (option_map (λ (h : Held). h.depth) o) (λ depth. depth < s.counts.instructions)) (sym none) tt, tt)
    (record { few = let few = k.few in let two = inside 0 2 s.attempt a e in omega arith })

-- ---- an instruction is begun

-- an instruction is counted for it, of which no section is made yet
pub record Begins (p : Program) (s : Thread) : Type 0 where
  pub fit : Fit p s
  pub spends : Spends s 1 2
  pub entries : (m tried : ℕ) → EntryFits (phases.Enter m tried) s.held s.attempt s.counts.instructions

each_deeper : (held : List Held) (n : ℕ) → AllByRecursion (λ h. h.depth ≤ n) held → AllByRecursion (λ h. h.depth ≤ n + 1) held
each_deeper [] n all = tt
each_deeper (h ∷ held) n all = (let few = all.0 in omega arith, each_deeper held n all.1)

depth_below : (o : Option Held) (n : ℕ) → IfSome o (λ h. h.depth ≤ n) → IfSome (option_map (λ (h : Held). h.depth) o) (λ depth. depth < n + 1)
depth_below None n h = tt
depth_below (Some x) n h = omega arith

inner_more : (attempt : Option Attempt) (n : ℕ) → IfSome attempt (λ a. a.inner ≤ n) → IfSome attempt (λ a. a.inner ≤ n + 1)
inner_more None n h = tt
inner_more (Some a) n h = omega arith

inner_below : (attempt : Option Attempt) (m n : ℕ) → IfSome attempt (λ a. a.inner ≤ n) → IfSome attempt (λ a. IsInner m a (n + 1))
inner_below None m n h = tt
inner_below (Some a) m n h = λ e. omega arith

pub one_more : (attempt : Option Attempt) → by_attempt 1 2 attempt ≡ by_attempt 0 1 attempt + 1
one_more None = refl
one_more (Some a) = refl

module _ (p : Program) where
  pub begins_here : (s : Thread) → IsBounded p (with_phase s phases.Run) → Begins p (begun s)
  begins_here s b =
      let n = s.counts.instructions in
      let f : Fit p s = fit_of p s phases.Run b b.turns (let few = b.steps in omega arith) in
      let k : Spends s 0 1 = spends_of p s phases.Run b in
      record {
        fit = record {
          limits = record { number_fits = f.limits.number_fits; few_prints = f.limits.few_prints; few_turns = f.limits.few_turns; few_steps = let few = b.steps in omega arith };
          held = record { kept = f.held.kept; depths = each_deeper s.held n f.held.depths; inflated_few = f.held.inflated_few };
          tried = record { noted = f.tried.noted; inner = inner_more s.attempt n f.tried.inner };
        };
        spends = record { few = let few = k.few in let more = one_more s.attempt in omega arith };
        entries = λ m tried. (depth_below (held_at s.held m) n (found (λ h. h.depth ≤ n) m s.held f.held.depths), inner_below s.attempt m n f.tried.inner);
      }

  pub calm : (s : Thread) → Spends s 1 2 → Spends s 0 2
  calm s k = spends_less s 1 2 0 2 k (omega arith) (omega arith)

  -- its turns are counted anew
  anew : (s : Thread) (fs : List Frame) → Fit p s → Fit p (record s { frames = fs; turns = 0 })
  anew s fs f =
      let l = f.limits in
      record { limits = record { number_fits = l.number_fits; few_prints = l.few_prints; few_turns = (let few = l.few_turns in omega arith); few_steps = l.few_steps }; held = f.held; tried = f.tried }

  pub goes_any : (s : Thread) (o : Onward) → Begins p s → IsBounded p (goes_on s o)
  goes_any s (Running fs) b = goes p s (Running fs) tt b.fit (calm s b.spends)
  goes_any s (Throwing x class fs) b = goes p s (Throwing x class fs) tt b.fit (calm s b.spends)
  goes_any s (Entering m fs) b = let f = anew s fs b.fit in bounded p (record s { frames = fs; turns = 0 }) (phases.Enter m 0) f tt f.limits.few_turns f.limits.few_steps tt (b.entries m 0) (record { few = b.spends.few })
  goes_any s (Leaving m a fs) b = goes p s (Leaving m a fs) tt b.fit (calm s b.spends)
  goes_any s RootReturned b = goes p s RootReturned tt b.fit (calm s b.spends)
  goes_any s (Uncaught class) b = goes p s (Uncaught class) tt b.fit (calm s b.spends)

  -- ---- what an instruction makes of its thread

  -- with what its effect needs
  abbrev pub HasDone : Effect → (got : ℕ) → Type 0
  HasDone (Raises x) got = IsSome (thrown_of (header_class got))
  HasDone (Calls number) got = (called : MethodInfo) × (slice_get p.methods number ≡ Some called)
  HasDone Stuck got = ⊥
  HasDone e got = Unit {0}

  -- so that it goes on
  pub does_all : (at : Top) (e : Effect) (got : ℕ) → HasDone e got → IsByDone e → done p at e got ≡ None → ⊥
  does_all at (Raises x) got h is none = (elim (thrown_of (header_class got)) as (λ o. IsSome o → option_map (λ class. Throwing x class (frames_of at)) o ≡ None → ⊥) [ None ↦ λ h e. cc | Some class ↦ λ h e. cc ]) h none
  does_all at (Calls number) got h is none =
      let bad : Some (called p at number h.0) ≡ None = ap (option_map (called p at number)) (sym h.1) ∙ none in cc
  does_all at e got h is none = absurd (first_of (assumption, cc))

  refit : (s : Thread) (fs : List Frame) → Fit p s → Fit p (record s { frames = fs })
  refit s fs f = record { limits = f.limits; held = f.held; tried = f.tried }

  pub waited : (s : Thread) (fs : List Frame) (m : ℕ) (kept : Kept) (now : Phase) → WaitsFrom m kept now → Begins p s → KeptFits kept → IsBounded p (record s { frames = fs; phase = now; turns = 0 })
  waited s fs m _ _ (moves.grows_first count) b fits =
      let f = anew s fs b.fit in bounded p (record s { frames = fs; turns = 0 }) (phases.Grow m towards.Wait) f tt f.limits.few_turns f.limits.few_steps tt tt (record { few = let k = calm s b.spends in k.few })
  waited s fs m _ _ (moves.waits_fat r) b fits =
      let f = anew s fs b.fit in bounded p (record s { frames = fs; turns = 0 }) (phases.WaitBit m r) f fits f.limits.few_turns f.limits.few_steps tt tt (record { few = let k = calm s b.spends in k.few })

  pub asked : (s : Thread) (fs : List Frame) (m : ℕ) (kept : Kept) (now : Phase) → Asks m kept now → Begins p s → KeptFits kept → IsBounded p (record s { frames = fs; phase = now })
  asked s fs m _ _ (moves.looks_who r) b fits = bounded p (record s { frames = fs }) (phases.NotifyLook m r) (refit s fs b.fit) fits b.fit.limits.few_turns b.fit.limits.few_steps tt tt (record { few = let k = calm s b.spends in k.few })
  asked s fs m _ _ (moves.clears_all r) b fits = bounded p (record s { frames = fs }) (phases.NotifyAll m r) (refit s fs b.fit) fits b.fit.limits.few_turns b.fit.limits.few_steps tt tt (record { few = let k = calm s b.spends in k.few })

  pub made_bounded : (s : Thread) (fs : List Frame) (a word : ℕ) → Begins p s → IsBounded p (record s { frames = fs; phase = phases.Made a word })
  made_bounded s fs a word b = bounded p (record s { frames = fs }) (phases.Made a word) (refit s fs b.fit) tt b.fit.limits.few_turns b.fit.limits.few_steps tt tt (record { few = let k = calm s b.spends in k.few })

  pub printed_bounded : (s : Thread) (fs : List Frame) (n got : ℕ) → has_print_left s ≡ true → Begins p s → IsBounded p (goes_on (printed s got n) (Running fs))
  printed_bounded s fs n got e b =
      let last : Print = record { ticket = got; value = int_of n } in
      let long : length (s.prints ++ last ∷ []) ≡ length s.prints + 1 = length-append s.prints (last ∷ []) in
      let left : length s.prints < s.cfg.prints = grind (arith, nat_tests, e) in
      let limits : LimitsFit p s.number s.cfg s.turns s.counts.instructions (s.prints ++ last ∷ []) =
      record { number_fits = b.fit.limits.number_fits; few_prints = omega arith; few_turns = b.fit.limits.few_turns; few_steps = b.fit.limits.few_steps } in
      goes p (printed s got n) (Running fs) tt (record { limits = limits; held = b.fit.held; tried = b.fit.tried }) (record { few = let k = calm s b.spends in k.few })
