-- What keeps a thread within its bounds whatever its phase, and that it stays within them as it goes on.
use Rattle.std.proofs.{Common.{◌≡◌, ℕ, ◌+◌, ◌<◌, ◌≤◌, nat_lt, Bool, true, false, List, [], ◌∷◌, length, drop, Option, Some, None, refl, arith, if◌then◌else◌, IfSome}, lemmas.Bool.Decides.nat_tests}
use Rattle.jvm_types.specs.{Members.is_synchronized, declared.{outcome.{Print.Print, Thrown.Thrown}, program.{Program.Program, Row.Row}}}
use Rattle.machine_types.specs.{Bounds.{PhaseFits, TurnsFit, StepsFit, WaitFits, EntryFits, entry_under_way, attempt_under_way, under_way, IsBounded}, FoundWords.most_count, Frames.{Top, top_of}}
use Rattle.machine_types.specs.{Frames.{frames_of, monitor_of, returned}, Going.{with_phase, runs, failed_turn, goes_on, goes_on_if, goes_after}, Onward.{Onward, Running, Throwing, Entering, Leaving}}
use Rattle.machine_types.specs.{Onward.{RootReturned, Uncaught, back, unwound, handed, after}, Threads.{Frame, Attempt, Thread}, declared.{config.Config.Config, phase.{After.After, Phase.Phase}}}
use Rattle.laws_threads.proofs.{HeldBounds.HeldFit, Tests.either_way, ThreadMove.{if_either, if_mapped, over_to}}
use Rattle.jvm_types.specs.declared.outcome.End.TheVariants as ends
use Rattle.machine_types.specs.declared.phase.After.TheVariants as afters
use Rattle.machine_types.specs.declared.phase.Phase.TheVariants as phases

-- ---- whatever the phase

pub record LimitsFit (p : Program) (number : ℕ) (cfg : Config) (turns instructions : ℕ) (prints : List Print) : Type 0 where
  pub number_fits : number ≤ p.workers
  pub few_prints : length prints ≤ cfg.prints
  pub few_turns : turns < cfg.turns
  pub few_steps : instructions ≤ cfg.steps

pub record TryFits (attempt : Option Attempt) (instructions : ℕ) : Type 0 where
  pub noted : IfSome attempt (λ a. a.noted < most_count)
  pub inner : IfSome attempt (λ a. a.inner ≤ instructions)

pub record Fit (p : Program) (s : Thread) : Type 0 where
  pub limits : LimitsFit p s.number s.cfg s.turns s.counts.instructions s.prints
  pub held : HeldFit s.held s.counts.instructions s.counts.inflated s.counts.locked
  pub tried : TryFits s.attempt s.counts.instructions

-- ---- sections

abbrev pub by_attempt : (outside inside : ℕ) → Option Attempt → ℕ
by_attempt outside inside None = outside
by_attempt outside inside (Some a) = inside

-- besides its sections it has made so many instructions, outside an attempt or inside one
pub record Spends (s : Thread) (outside inside : ℕ) : Type 0 where
  pub few : s.counts.elided + s.counts.failed + s.counts.locked + by_attempt outside inside s.attempt ≤ s.counts.instructions

less_by : (attempt : Option Attempt) (o i outside inside : ℕ) → outside ≤ o → inside ≤ i → by_attempt outside inside attempt ≤ by_attempt o i attempt
less_by None o i outside inside e f = e
less_by (Some a) o i outside inside e f = f

pub spends_less : (s : Thread) (o i outside inside : ℕ) → Spends s o i → outside ≤ o → inside ≤ i → Spends s outside inside
spends_less s o i outside inside k e f = record { few = let few = k.few in let less = less_by s.attempt o i outside inside e f in omega arith }

under_way_by : (attempt : Option Attempt) (phase : Phase) → under_way attempt phase ≡ by_attempt (entry_under_way phase) (attempt_under_way phase) attempt
under_way_by None phase = refl
under_way_by (Some a) phase = refl

-- ---- in a phase

-- it enters nothing
abbrev pub EntersNone : Onward → Type 0
EntersNone (Entering m fs) = ⊥
EntersNone o = Unit {0}

module _ (p : Program) where
  pub bounded : (s : Thread) (phase : Phase) → Fit p s → PhaseFits phase → TurnsFit phase s.turns s.cfg.turns → StepsFit phase s.counts.instructions s.cfg.steps → WaitFits phase s.counts.instructions
      → EntryFits phase s.held s.attempt s.counts.instructions → Spends s (entry_under_way phase) (attempt_under_way phase) → IsBounded p (with_phase s phase)
  bounded s phase f fits turns steps waits entry k = record {
    number = f.limits.number_fits;
    kept = f.held.kept;
    noted = f.tried.noted;
    phase = fits;
    prints = f.limits.few_prints;
    turns = turns;
    steps = steps;
    depths = f.held.depths;
    waits = waits;
    inner = f.tried.inner;
    entry = entry;
    inflated = f.held.inflated_few;
    sections = let few = k.few in let same = under_way_by s.attempt phase in omega arith;
  }

  pub fit_of : (s : Thread) (phase : Phase) → IsBounded p (with_phase s phase) → s.turns < s.cfg.turns → s.counts.instructions ≤ s.cfg.steps → Fit p s
  fit_of s phase b turns steps = record {
    limits = record { number_fits = b.number; few_prints = b.prints; few_turns = turns; few_steps = steps };
    held = record { kept = b.kept; depths = b.depths; inflated_few = b.inflated };
    tried = record { noted = b.noted; inner = b.inner };
  }

  pub spends_of : (s : Thread) (phase : Phase) → IsBounded p (with_phase s phase) → Spends s (entry_under_way phase) (attempt_under_way phase)
  spends_of s phase b = record { few = let few = b.sections in let same = under_way_by s.attempt phase in omega arith }

  -- ---- going on

  pub running : (s : Thread) → Fit p s → Spends s 0 1 → IsBounded p (runs s)
  running s f k = either_way (λ (b : Bool). nat_lt s.counts.instructions s.cfg.steps ≡ b → IsBounded p (with_phase s (if b then phases.Run else phases.Ending ends.Steps))) (nat_lt s.counts.instructions s.cfg.steps)
      (λ e. bounded s phases.Run f tt f.limits.few_turns (grind (arith, nat_tests, e)) tt tt k)
      (λ e. bounded s (phases.Ending ends.Steps) f tt f.limits.few_turns f.limits.few_steps tt tt k) refl

  pub failing : (s : Thread) (phase : Phase) → Fit p s → PhaseFits phase → (s.turns + 1 < s.cfg.turns → TurnsFit phase (s.turns + 1) s.cfg.turns) → StepsFit phase s.counts.instructions s.cfg.steps → WaitFits phase s.counts.instructions
      → EntryFits phase s.held s.attempt s.counts.instructions → Spends s (entry_under_way phase) (attempt_under_way phase) → Spends s 0 1 → IsBounded p (failed_turn s phase)
  failing s phase f fits turns steps waits entry k l = by_limit (nat_lt (s.turns + 1) s.cfg.turns) refl
    where
      by_limit : (b : Bool) → nat_lt (s.turns + 1) s.cfg.turns ≡ b → IsBounded p (record s { turns = s.turns + 1; phase = if b then phase else phases.Ending ends.Turns })
      by_limit true e =
          let more : s.turns + 1 < s.cfg.turns = grind (arith, nat_tests, e) in
          let limits : LimitsFit p s.number s.cfg (s.turns + 1) s.counts.instructions s.prints = record { number_fits = f.limits.number_fits; few_prints = f.limits.few_prints; few_turns = more; few_steps = f.limits.few_steps } in
          bounded (record s { turns = s.turns + 1 }) phase (record { limits = limits; held = f.held; tried = f.tried }) fits (turns more) steps waits entry (record { few = k.few })
      by_limit false e = record {
        number = f.limits.number_fits;
        kept = f.held.kept;
        noted = f.tried.noted;
        phase = tt;
        prints = f.limits.few_prints;
        turns = let few = f.limits.few_turns in omega arith;
        steps = f.limits.few_steps;
        depths = f.held.depths;
        waits = tt;
        inner = f.tried.inner;
        entry = tt;
        inflated = f.held.inflated_few;
        sections = let few = l.few in let same = under_way_by s.attempt (phases.Ending ends.Turns) in omega arith;
      }

  pub goes : (s : Thread) (o : Onward) → EntersNone o → Fit p s → Spends s 0 2 → IsBounded p (goes_on s o)
  goes s (Running fs) n f k = running (record s { frames = fs }) (record { limits = f.limits; held = f.held; tried = f.tried }) (record { few = let less = spends_less s 0 2 0 1 k (omega arith) (omega arith) in less.few })
  goes s (Throwing x class fs) n f k = bounded (record s { frames = fs }) (phases.Throw x class) (record { limits = f.limits; held = f.held; tried = f.tried }) tt f.limits.few_turns f.limits.few_steps tt tt (record { few = k.few })
  goes s (Entering m fs) n f k = absurd n
  goes s (Leaving m a fs) n f k = bounded (record s { frames = fs }) (phases.Leave m a) (record { limits = f.limits; held = f.held; tried = f.tried }) tt f.limits.few_turns f.limits.few_steps tt tt (record { few = k.few })
  goes s RootReturned n f k =
      let g : Fit p (record s { frames = [] }) = record { limits = f.limits; held = f.held; tried = f.tried } in
      over_to (λ phase. IsBounded p (record s { frames = []; phase = phase })) s.roots
      (λ e. bounded (record s { frames = [] }) (phases.Ending ends.Returned) g tt f.limits.few_turns f.limits.few_steps tt tt (record { few = let less = spends_less s 0 2 0 1 k (omega arith) (omega arith) in less.few }))
      (λ number rest e. bounded (record s { frames = [] }) phases.Start g tt f.limits.few_turns f.limits.few_steps tt tt (record { few = k.few }))
  goes s (Uncaught class) n f k = bounded (record s { frames = [] }) (phases.Ending (ends.Uncaught class)) (record { limits = f.limits; held = f.held; tried = f.tried }) tt f.limits.few_turns f.limits.few_steps tt tt
      (record { few = let less = spends_less s 0 2 0 1 k (omega arith) (omega arith) in less.few })

  pub goes_if : (s : Thread) (o : Option Onward) → IfSome o EntersNone → IsBounded p s → Fit p s → Spends s 0 2 → IsBounded p (goes_on_if s o)
  goes_if s None n b f k = b
  goes_if s (Some o) n b f k = goes s o n f k

  -- ---- returns and exceptions enter nothing

  pub unwound_enters_none : (x : ℕ) (class : Thrown) (fs : List Frame) → EntersNone (unwound x class fs)
  unwound_enters_none x class [] = tt
  unwound_enters_none x class (f ∷ fs) = tt

  pub handed_enters_none : (x : ℕ) (class : Thrown) (at : Top) (row : Option Row) → EntersNone (handed p x class at row)
  handed_enters_none x class at (Some r) = tt
  handed_enters_none x class at None = if_either EntersNone (is_synchronized at.method.flags) (Leaving (monitor_of p at.method at.frame) (afters.Unwind x class) (frames_of at)) (unwound x class at.below) tt (unwound_enters_none x class at.below)

  after_enters_none : (fs : List Frame) (a : After) → IfSome (after p fs a) EntersNone
  after_enters_none fs afters.Next = tt
  after_enters_none fs afters.Return = if_mapped EntersNone (top_of p fs) (λ at. back (returned p at)) (λ at. elim (returned p at) as (λ fs. EntersNone (back fs)) [ [] ↦ tt | f ∷ fs ↦ tt ])
  after_enters_none fs (afters.Unwind x class) = unwound_enters_none x class (drop 1 fs)

  pub goes_behind : (s : Thread) (a : After) → IsBounded p s → Fit p s → Spends s 0 2 → IsBounded p (goes_after p s a)
  goes_behind s a b f k = goes_if s (after p s.frames a) (after_enters_none s.frames a) b f k
