-- What an event leaves of the roots of its thread, and of its attempt.
use Rattle.std.proofs.Common.{◌≡◌, ℕ, Bool, true, false, List, [], ◌∷◌, Option, Some, None, refl, ap, sym, subst, ◌∙◌, ◌&&◌, nat_lt, if◌then◌else◌}
use Rattle.jvm_types.specs.declared.{limits.TheConstants.MOST_ATTEMPTS, outcome.Thrown.TheVariants.StackOverflowError, program.{MethodInfo.MethodInfo, Program.Program}}
use Rattle.checked_program.specs.MarkedProgram.{MarkedProgram}
use Rattle.machine_types.specs.{Elision.{elided, may_try, enters_marked}, Events.moved, Frames.{has_room, entry_frame}, Going.{runs, goes_on, goes_on_if}, HeldMonitors.held_at}
use Rattle.machine_types.specs.{Instructions.{begun, printed}, Monitors.{Tries, claim}, Onward.{Onward, Running, RootReturned, Uncaught, rooted, root_arguments, after}}
use Rattle.machine_types.specs.{Threads.{Attempt, Thread}, declared.{phase.Phase.Phase}}
use Rattle.laws_threads.proofs.ThreadMove.{LeadsTo, TurnsTo, Asks, WaitsFrom, Move, becomes, tried_attempt, each_move, runs_to, turns_to, over_to}
use Rattle.laws_states.proofs.CalmMoves.{waits_in, asks_in}
use Rattle.jvm_types.specs.declared.outcome.End.TheVariants as ends
use Rattle.machine_types.specs.declared.phase.Phase.TheVariants as phases
use Rattle.machine_types.specs.declared.phase.Toward.TheVariants as towards
use Rattle.laws_threads.proofs.ThreadMove as moves

-- a part that begins has a root, and one that has returned has none left
abbrev pub RootFits : Phase → (roots : List ℕ) → Type 0
RootFits phases.Start [] = ⊥
RootFits phases.Start (number ∷ roots) = Unit {0}
RootFits (phases.Ending ends.Returned) roots = roots ≡ []
RootFits (phases.Ended ends.Returned) roots = roots ≡ []
RootFits phase roots = Unit {0}

module _ (roots : List ℕ) (Bare : Type 0) where
  -- the roots are the same, and where there was no attempt and no section may be tried there is none
  pub record Keeps (now : List ℕ) (attempt : Option Attempt) : Type 0 where
    pub same : now ≡ roots
    pub none : Bare → attempt ≡ None

  pub record Stays (y : Thread) : Type 0 where
    pub keeps : Keeps y.roots y.attempt
    pub fits : RootFits y.phase y.roots

  -- ---- how a thread goes on

  running : (s : Thread) → Keeps s.roots s.attempt → Stays (runs s)
  running s k = record { keeps = k; fits = runs_to (λ (phase : Phase). RootFits phase s.roots) s tt tt }

  goes : (s : Thread) (o : Onward) → Keeps s.roots s.attempt → Stays (goes_on s o)
  goes s (Running frames) k = running (record s { frames = frames }) k
  goes s RootReturned k = record { keeps = k; fits = over_to (λ (phase : Phase). RootFits phase s.roots) s.roots (λ e. e) (λ number rest e. subst (λ (roots : List ℕ). RootFits phases.Start roots) (sym e) tt) }
  goes s o k = record { keeps = k; fits = tt }

  goes_if : (s : Thread) (o : Option Onward) → RootFits s.phase s.roots → Keeps s.roots s.attempt → Stays (goes_on_if s o)
  goes_if s None f k = record { keeps = k; fits = f }
  goes_if s (Some o) f k = goes s o k

-- ---- all moves but those that begin a root

abbrev pub IsNoStart : Phase → Type 0
IsNoStart phases.Start = ⊥
IsNoStart phase = Unit {0}

leads_fits : (p : Program) (s : Thread) (got : ℕ) (was now : Phase) → LeadsTo p s got was now → RootFits was s.roots → RootFits now s.roots
leads_fits p s got _ _ (moves.to_end ends.Returned) f = f
leads_fits p s got was now k f = tt

turns_fit : (s : Thread) (got : ℕ) (was now : Phase) → TurnsTo s got was now → RootFits now s.roots
turns_fit s got was _ (moves.looks_again m k) = tt
turns_fit s got was now k = tt

-- a thread that is in no attempt, and may begin none, where it is bare
pub record BareThread : Type 1 where
  pub s : Thread
  pub Bare : Type 0
  pub none : Bare → s.attempt ≡ None
  pub not : Bare → s.cfg.elide ≡ false

module _ (c : MarkedProgram) (thread : BareThread) (got : ℕ) where
  open thread use {s, Bare, none, not}

  -- that a section may be tried is the only way to an attempt
  never_tries : {P : Type 0} (n : ℕ) → may_try c s n ≡ true → Bare → P
  never_tries n may q =
      let bad : true ≡ false = sym may ∙ (ap (λ (b : Bool). b && nat_lt n MOST_ATTEMPTS && enters_marked c s.frames) (not q)) in absurd (cc)

  -- what a thread without an attempt claims is no attempt
  claims_none : {P : Type 0} (m : ℕ) (t : Attempt) → claim s m ≡ Tries t → Bare → P
  claims_none m t e q = let bad : Some t ≡ None = sym (tried_attempt m (held_at s.held m) s.attempt t e) ∙ none q in absurd (cc)

  keeps_all : Keeps s.roots Bare s.roots s.attempt
  keeps_all = record { same = refl; none = none }

  stays_moved : (was : Phase) (k : Move c s got was) → IsNoStart was → RootFits was s.roots → RootFits s.phase s.roots → Stays s.roots Bare (becomes c s got was k)
  stays_moved was (moves.stays k) ns w f = record { keeps = keeps_all; fits = f }
  stays_moved was (moves.goes o k) ns w f = goes s.roots Bare s o keeps_all
  stays_moved was (moves.fails_in t e d k) ns w f = record { keeps = record { same = refl; none = λ q. refl }; fits = tt }
  stays_moved was (moves.leads now k) ns w f = record { keeps = keeps_all; fits = leads_fits c.program s got was now k w }
  stays_moved was (moves.turns now k) ns w f = record { keeps = keeps_all; fits = turns_to (λ (phase : Phase). RootFits phase s.roots) s now (turns_fit s got was now k) tt }
  stays_moved _ (moves.prints at n e l t) ns w f = goes s.roots Bare (printed s got n) (Running _) keeps_all
  stays_moved _ (moves.asks_to_wait at m h now e l t k) ns w f = record { keeps = keeps_all; fits = waits_in (λ (p : Phase). RootFits p s.roots) m h.kept now k tt (λ r. tt) }
  stays_moved _ (moves.asks at m h now e y l k) ns w f = record { keeps = keeps_all; fits = asks_in (λ (p : Phase). RootFits p s.roots) m h.kept now k (λ r. tt) (λ r. tt) }
  stays_moved _ (moves.enters_again m n h l) ns w f = running s.roots Bare (record s { held = _ }) keeps_all
  stays_moved _ (moves.enters_inside m n t k) ns w f = running s.roots Bare (record s { attempt = _ }) (record { same = refl; none = claims_none m t k })
  stays_moved _ (moves.begins_to_try m n noted x below e may l t free) ns w f = running s.roots Bare (record s { attempt = _ }) (record { same = refl; none = never_tries n may })
  stays_moved was (moves.takes_lock m kept k) ns w f = running s.roots Bare (record s { held = _; counts = _ }) keeps_all
  stays_moved was (moves.gives_up m a k) ns w f = goes_if s.roots Bare (record s { held = _ }) (after c.program s.frames a) f keeps_all
  stays_moved _ (moves.leaves_outer m a h l t) ns w f = goes_if s.roots Bare (record s { held = _ }) (after c.program s.frames a) f keeps_all
  stays_moved _ (moves.leaves_inside m a t inner k e) ns w f = goes_if s.roots Bare (record s { attempt = _ }) (after c.program s.frames a) f (record { same = refl; none = claims_none m t k })
  stays_moved _ (moves.finishes_try m a t k e y) ns w f = goes_if s.roots Bare (elided s) (after c.program s.frames a) f (record { same = refl; none = λ q. refl })
  stays_moved _ (moves.fattens_lock m r (towards.Leave a) h l) ns w f = record { keeps = keeps_all; fits = tt }
  stays_moved _ (moves.retakes_lock m r depth e) ns w f = running s.roots Bare (record s { held = _ }) keeps_all
  stays_moved _ (moves.starts number roots e) ns w f = absurd ns
  stays_moved _ k ns w f = record { keeps = keeps_all; fits = tt }

module _ (c : MarkedProgram) (thread : BareThread) (got : ℕ) where
  open thread use {s, Bare, none}

  pub moved_stays : (phase : Phase) → IsNoStart phase → s.phase ≡ phase → RootFits phase s.roots → Stays s.roots Bare (moved c s phase got)
  moved_stays phase ns e f = each_move (Stays s.roots Bare) c s phase got (λ k. stays_moved c thread got phase k ns f here)
      (λ k. stays_moved c (record { s = begun s; Bare = Bare; none = none; not = thread.not }) got phase k ns f here)
    where
      here : RootFits s.phase s.roots
      here = subst (λ (p : Phase). RootFits p s.roots) (sym e) f

  -- ---- the next root

  -- of a method that is there
  pub root_goes : (number : ℕ) (m : MethodInfo) (roots : List ℕ) → Stays roots Bare (goes_on (record s { roots = roots }) (rooted c.program s.number number m)) × IsNoStart (goes_on (record s { roots = roots }) (rooted c.program s.number number m)).phase
  root_goes number m roots = by_room (has_room c.program [] m)
    where
      by_room : (b : Bool)
          → Stays roots Bare (goes_on (record s { roots = roots }) (if b then Running (entry_frame number m (root_arguments s.number m) ∷ []) else Uncaught StackOverflowError))
          × IsNoStart (goes_on (record s { roots = roots }) (if b then Running (entry_frame number m (root_arguments s.number m) ∷ []) else Uncaught StackOverflowError)).phase
      by_room true = (goes roots Bare (record s { roots = roots }) (Running (entry_frame number m (root_arguments s.number m) ∷ [])) (record { same = refl; none = none }), runs_to IsNoStart s tt tt)
      by_room false = (goes roots Bare (record s { roots = roots }) (Uncaught StackOverflowError) (record { same = refl; none = none }), tt)
