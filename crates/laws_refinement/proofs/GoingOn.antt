-- A thread inside an attempt goes on as its replay does.
use Rattle.std.proofs.Common.{◌≡◌, ℕ, suc, ◌<◌, Bool, true, false, cond, List, [], ◌∷◌, ◌++◌, length, Option, Some, None, refl, sym, ap, ◌∙◌, subst, arith, ◌==◌, nat_lt, option_and_then, slice_index}
use Rattle.lists.proofs.TestLaws.{same_number}
use Rattle.jvm_types.specs.declared.{outcome.End.{End, TheVariants.Steps}, program.Program.Program}
use Rattle.checked_program.specs.MarkedProgram.{MarkedProgram}
use Rattle.machine_types.specs.{Attempts.IsReadBegun, Elision.put_back, Going.goes_on, History.with_begun, Onward.{Onward, Running, Throwing, Entering, Leaving}, PlainState.{PlainThread, Status}}
use Rattle.machine_types.specs.{Replay.{Alone, goes, only_on, replay_act, replayed, begun_and_done, status_inside, at_entry, at_present}, Structure.{IsAs, IsStructured, IsPhaseInside, AttemptStands, AttemptStandsIn}}
use Rattle.machine_types.specs.{Threads.{Attempt, Thread}, declared.{phase.Phase.Phase, plain.Act.Act}}
use Rattle.laws_threads.specs.EntryFrames.{KeepsEntry}
use Rattle.laws_states.proofs.PlainMoves.{goes_attempt}
use Rattle.machine_types.specs.PlainState as plain
use Rattle.machine_types.specs.declared.phase.Phase.TheVariants as phases

-- ---- the same attempt, with so many entries inside

abbrev pub inner_as : Attempt → ℕ → Attempt
inner_as a i = record a { inner = i }

-- ---- an instruction that is begun is done, but where an element is still to be read

abbrev pub IsElementRead : Phase → Type 0
IsElementRead (phases.Element word stored) = ⊥
IsElementRead phase = Unit {0}

pub all_done : (phase : Phase) (n : ℕ) → IsElementRead phase → begun_and_done phase n ≡ n
all_done (phases.Element word stored) n k = absurd k
all_done phase n k = refl

pub none_begun : (phase : Phase) (n : ℕ) → IsElementRead phase → IsReadBegun phase n
none_begun (phases.Element word stored) n k = absurd k
none_begun phase n k = tt

-- ---- what an event makes of the replay

-- the memory has at the places that stay what the words have
abbrev pub Knows : (Keeps : (n : ℕ) → Type 0) → (words : List ℕ) → (memory : ℕ → Option ℕ) → Type 0
Knows Keeps words memory = (n : ℕ) → Keeps n → memory n ≡ Some (slice_index words n)

-- The thread x in the attempt a becomes y, in the same attempt: the acts lead from where x is to where y is, and the entry stays.
-- was and now are the phases that count.
pub record Grows (p : Program) (Keeps : (n : ℕ) → Type 0) (words : List ℕ) (x : Thread) (a : Attempt) (was now phase : Phase) (y : Thread) (acts : List Act) : Type 0 where
  pub inner : ℕ
  pub attempt : y.attempt ≡ Some (inner_as a inner)
  pub entry : (ended : List End) → at_entry y (inner_as a inner) ended ≡ at_entry x a ended
  pub begun : (n : ℕ) → IsReadBegun now (with_begun n phase)
  pub replays : (memory : ℕ → Option ℕ) → Knows Keeps words memory → (n : ℕ) → IsReadBegun was n → (ended : List End)
      → replayed p a.monitor memory acts (at_present x a was n ended) ≡ Some (at_present y (inner_as a inner) now (with_begun n phase) ended)

-- ---- one act, and a list with more acts

pub replayed_more : (p : Program) (m : ℕ) (memory : ℕ → Option ℕ) (due acts : List Act) (x y : Alone) → replayed p m memory due x ≡ Some y → replayed p m memory (due ++ acts) x ≡ replayed p m memory acts y
replayed_more p m memory [] acts x y e = let same : x ≡ y = cc in ap (replayed p m memory acts) same
replayed_more p m memory (act ∷ due) acts x y e = (elim (replay_act p m memory x act x.thread.status) as (λ (o : Option Alone). option_and_then (replayed p m memory due) o ≡ Some y → option_and_then (replayed p m memory (due ++ acts)) o ≡ replayed p m memory acts y)
    [ None ↦ λ f. absurd (cc) | Some z ↦ λ f. replayed_more p m memory due acts z y f ]) e

-- ---- how a thread goes on

pub running_now : (b : Bool) (now : Phase) → IsAs (cond b phases.Run (phases.Ending Steps)) now → now ≡ phases.Run
running_now true now e = e
running_now false now e = e

abbrev pub plain_as : Thread → Status → (ended : List End) → PlainThread
plain_as x status ended = record { frames = x.frames; status = status; roots = x.roots; ended = ended }

module _ (c : MarkedProgram) (x : Thread) (a : Attempt) (now : Phase) where
  -- z, which is x in all that the plain machine knows of it, goes on, and x alike
  pub record GoesAlike (z : Thread) (o : Onward) : Type 0 where
    pub only : only_on a.monitor o ≡ Some o
    pub thread : (status : Status) (ended : List End) → plain.plain_goes_on (plain_as x status ended) o ≡ plain_as (goes_on z o) (status_inside now) ended
    pub read : IsElementRead now
    pub frames : put_back a (goes_on z o).frames ≡ put_back a x.frames
    pub roots : (goes_on z o).roots ≡ x.roots

  module _ (z : Thread) (i : ℕ) (same_roots : z.roots ≡ x.roots) (based : a.base < length x.frames) where
    only_if : (m : ℕ) (o : Onward) → m ≡ a.monitor → cond (m == a.monitor) (Some o) None ≡ Some o
    only_if m o e = ap (λ (b : Bool). cond b (Some o) None) (same_number m a.monitor e)

    inside_as : (phase : Phase) → now ≡ phase → IsPhaseInside a.monitor now → IsPhaseInside a.monitor phase
    inside_as phase e k = subst (IsPhaseInside a.monitor) e k

    -- where it comes to the phase, with the same roots
    by_phase : (o : Onward) (phase : Phase) → now ≡ phase → IsElementRead phase → only_on a.monitor o ≡ Some o → put_back a (goes_on z o).frames ≡ put_back a x.frames → (goes_on z o).roots ≡ z.roots
        → ((status : Status) (ended : List End) → plain.plain_goes_on (plain_as x status ended) o ≡ record { frames = (goes_on z o).frames; status = status_inside phase; roots = x.roots; ended = ended }) → GoesAlike z o
    by_phase o phase e read only keeps roots goes_so = record {
      only = only;
      thread = λ status ended. goes_so status ended ∙ (λ j. record { frames = (goes_on z o).frames; status = status_inside (sym e j); roots = sym (roots ∙ same_roots) j; ended = ended });
      read = subst IsElementRead (sym e) read;
      frames = keeps;
      roots = roots ∙ same_roots;
    }

    by_onward : (o : Onward) → AttemptStands c now (goes_on z o).frames (goes_on z o).held (inner_as a i) → IsAs (goes_on z o).phase now → KeepsEntry a x.frames o → GoesAlike z o
    by_onward (Running frames) k is_as keeps = by_phase (Running frames) phases.Run (running_now (nat_lt z.counts.instructions z.cfg.steps) now is_as) tt refl (keeps based k.based) refl (λ status ended. refl)
    by_onward (Throwing y class frames) k is_as keeps = by_phase (Throwing y class frames) (phases.Throw y class) is_as tt refl (keeps based k.based) refl (λ status ended. refl)
    by_onward (Entering m frames) k is_as keeps = by_phase (Entering m frames) (phases.Enter m 0) is_as tt (only_if m (Entering m frames) (inside_as (phases.Enter m 0) is_as k.inside)) (keeps based k.based) refl (λ status ended. refl)
    by_onward (Leaving m e frames) k is_as keeps = by_phase (Leaving m e frames) (phases.Leave m e) is_as tt (only_if m (Leaving m e frames) (inside_as (phases.Leave m e) is_as k.inside)) (keeps based k.based) refl (λ status ended. refl)
    by_onward o k is_as keeps = let none = k.based in absurd (omega (arith, none))

    pub going_alike : (o : Onward) → z.attempt ≡ Some (inner_as a i) → KeepsEntry a x.frames o → IsStructured c now (goes_on z o) → GoesAlike z o
    going_alike o tries keeps k =
        by_onward o (subst (λ (q : Option Attempt). AttemptStandsIn c now (goes_on z o).frames (goes_on z o).held q) (goes_attempt z (Some o) ∙ tries) k.attempt) k.is_as keeps

  -- and its replay comes to where it is by one act
  module _ (z : Thread) (o : Onward) (i : ℕ) (alike : GoesAlike z o) where
    pub comes_there : (status : Status) (ended : List End) (n : ℕ) → goes (record { thread = plain_as x status ended; depth = suc i; begun = n }) (Some o) ≡ Some (at_present (goes_on z o) (inner_as a i) now n ended)
    comes_there status ended n = (λ j. Some (let next : Alone = record { thread = alike.thread status ended j; depth = suc i; begun = (sym (all_done now n alike.read)) j } in next))

    pub grown : (Keeps : (n : ℕ) → Type 0) (words : List ℕ) (was phase : Phase) (act : Act) → was ≡ phase → z.attempt ≡ Some (inner_as a i)
        → ((memory : ℕ → Option ℕ) → Knows Keeps words memory → (n : ℕ) → IsReadBegun phase n → (ended : List End)
        → replay_act c.program a.monitor memory (at_present x a phase n ended) act (status_inside phase) ≡ Some (at_present (goes_on z o) (inner_as a i) now (with_begun n phase) ended))
        → Grows c.program Keeps words x a was now phase (goes_on z o) (act ∷ [])
    grown Keeps words was phase act counted tries acted = subst (λ (p : Phase). Grows c.program Keeps words x a p now phase (goes_on z o) (act ∷ [])) (sym counted) (record {
      inner = i;
      attempt = goes_attempt z (Some o) ∙ tries;
      entry = λ ended j. record { thread = record { frames = alike.frames j; status = plain.Run; roots = alike.roots j; ended = ended }; depth = 1; begun = 0 };
      begun = λ n. none_begun now (with_begun n phase) alike.read;
      replays = λ memory knows n some ended. (ap (option_and_then (replayed c.program a.monitor memory [])) (acted memory knows n some ended));
    })
