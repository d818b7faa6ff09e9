-- What a thread becomes where it neither makes an object nor is about to read or store an element: the monitors that it holds
-- stay objects.
use Rattle.std.{proofs.Common.{◌≡◌, ℕ, List, Option, Some, refl, sym, subst, arith}, specs.List.AllByRecursion}
use Rattle.jvm_types.specs.declared.program.Program.{Program}
use Rattle.checked_program.specs.MarkedProgram.{MarkedProgram}
use Rattle.machine_types.specs.{Elision.elided, Frames.went_on, Going.{runs, goes_on, goes_on_if}, HeldMonitors.{held_at, with_held, without_held, deeper, shallower}, Instructions.printed}
use Rattle.machine_types.specs.{Monitors.grown, Onward.{Onward, Running, after}, Threads.Thread, Typed.{Classes, IsObject}, declared.{lock.{Held.Held}, phase.{Phase.Phase}}}
use Rattle.machine_types.specs.declared.phase.Toward.{Toward}
use Rattle.laws_threads.proofs.{HeldBounds.{each_put, each_without, found}, HeldLists.held_monitor}
use Rattle.laws_threads.proofs.ThreadMove.{Lacks, LeadsTo, TurnsTo, Takes, GivesUp, Asks, WaitsFrom, Move, becomes, takes_in, gives_up_in, runs_to, turns_to, same_onward, IsOnward, onward_to, onward_if_to}
use Rattle.laws_states.proofs.{CalmMoves.{waits_in, asks_in}, Phases.some_of}
use Rattle.machine_types.specs.declared.lock.Kept.TheVariants as keeps
use Rattle.machine_types.specs.declared.phase.Phase.TheVariants as phases
use Rattle.machine_types.specs.declared.phase.Toward.TheVariants as towards
use Rattle.laws_threads.proofs.ThreadMove as moves

abbrev pub AllHeld : Classes → List Held → Type 0
AllHeld is held = AllByRecursion (λ h. IsObject is h.monitor) held

abbrev pub QuietPhase : Classes → Phase → Type 0
QuietPhase is (phases.Element word stored) = ⊥
QuietPhase is (phases.Made a word) = ⊥
QuietPhase is (phases.WaitLook m r depth) = IsObject is m
QuietPhase is (phases.Retake m r depth) = IsObject is m
QuietPhase is phase = Unit {0}

pub record Quiet (is : Classes) (x : Thread) : Type 0 where
  pub held : AllHeld is x.held
  pub phase : QuietPhase is x.phase

-- a phase that accesses no element
abbrev pub IsNoElement : Phase → Type 0
IsNoElement (phases.Element word stored) = ⊥
IsNoElement phase = Unit {0}

-- all moves but those to an element and to a new object
abbrev pub IsQuietMove : (c : MarkedProgram) (s : Thread) (got : ℕ) (was : Phase) → Move c s got was → Type 0
IsQuietMove c s got was (moves.stays k) = IsNoElement was
IsQuietMove c s got was (moves.leads now k) = IsNoElement now
IsQuietMove c s got _ (moves.makes at word size e f t) = ⊥
IsQuietMove c s got was k = Unit {0}

module _ (is : Classes) where
  -- what a phase knows of its monitor
  abbrev pub KnowsObject : Phase → Type 0
  KnowsObject (phases.Take m count) = IsObject is m
  KnowsObject (phases.TakeFat m r) = IsObject is m
  KnowsObject (phases.WaitLook m r depth) = IsObject is m
  KnowsObject (phases.Retake m r depth) = IsObject is m
  KnowsObject phase = Unit {0}

  onward_quiet : (phase : Phase) → IsOnward phase → QuietPhase is phase
  onward_quiet (phases.Element word stored) n = n
  onward_quiet phase n = first_of (assumption, grind arith)

  goes_quiet : (s : Thread) (o : Option Onward) → AllHeld is s.held → QuietPhase is s.phase → Quiet is (goes_on_if s o)
  goes_quiet s o h q = record { held = subst (AllHeld is) (sym (same_onward (λ (s : Thread). s.held) (λ s frames phase turns. refl) s o)) h; phase = onward_if_to (QuietPhase is) onward_quiet s o q }

  on_quiet : (s : Thread) (o : Onward) → AllHeld is s.held → Quiet is (goes_on s o)
  on_quiet s o h = record { held = subst (AllHeld is) (sym (same_onward (λ (s : Thread). s.held) (λ s frames phase turns. refl) s (Some o))) h; phase = onward_to (QuietPhase is) onward_quiet s o }

  runs_quiet : (s : Thread) → AllHeld is s.held → Quiet is (runs s)
  runs_quiet s h = record { held = h; phase = runs_to (QuietPhase is) s tt tt }

  lacks_quiet : (c : MarkedProgram) (s : Thread) (got : ℕ) (was : Phase) → Lacks c s got was → IsNoElement was → QuietPhase is was
  lacks_quiet c s got _ (moves.no_place word stored e) n = n
  lacks_quiet c s got was k n = tt

  leads_quiet : (p : Program) (s : Thread) (got : ℕ) (was now : Phase) → LeadsTo p s got was now → IsNoElement now → KnowsObject was → QuietPhase is now
  leads_quiet p s got _ _ (moves.to_retake m r depth e) n k = k
  leads_quiet p s got was now m n k = assumption

  turns_quiet : (s : Thread) (got : ℕ) (was now : Phase) → TurnsTo s got was now → KnowsObject was → QuietPhase is now
  turns_quiet s got _ _ (moves.waits_on m r depth e) k = k
  turns_quiet s got was now m k = assumption

  held_is : (hs : List Held) (m : ℕ) (h : Held) → AllHeld is hs → held_at hs m ≡ Some h → IsObject is h.monitor
  held_is hs m h all e = some_of (λ (g : Held). IsObject is g.monitor) (held_at hs m) h e (found (λ g. IsObject is g.monitor) m hs all)

  put_one : (e : Held) (hs : List Held) → IsObject is e.monitor → AllHeld is hs → AllHeld is (with_held e hs)
  put_one = each_put (λ g. IsObject is g.monitor)

  without_one : (m : ℕ) (hs : List Held) → AllHeld is hs → AllHeld is (without_held m hs)
  without_one = each_without (λ g. IsObject is g.monitor)

  pub quiet_moved : (c : MarkedProgram) (s : Thread) (got : ℕ) (was : Phase) (k : Move c s got was) → IsQuietMove c s got was k → AllHeld is s.held → KnowsObject was → s.phase ≡ was → Quiet is (becomes c s got was k)
  quiet_moved c s got was (moves.stays k) n h o same = record { held = h; phase = subst (QuietPhase is) (sym same) (lacks_quiet c s got was k n) }
  quiet_moved c s got was (moves.goes w k) n h o same = on_quiet s w h
  quiet_moved c s got was (moves.fails_in t e d k) n h o same = record { held = h; phase = tt }
  quiet_moved c s got was (moves.leads now k) n h o same = record { held = h; phase = leads_quiet c.program s got was now k n o }
  quiet_moved c s got was (moves.turns now k) n h o same = record { held = h; phase = turns_to (QuietPhase is) s now (turns_quiet s got was now k o) tt }
  quiet_moved c s got _ (moves.makes at word size e f t) n h o same = absurd n
  quiet_moved c s got _ (moves.prints at i e l t) n h o same = on_quiet (printed s got i) (Running (went_on c.program at 0)) h
  quiet_moved c s got _ (moves.asks_to_wait at m e now f l t k) n h o same = record { held = h; phase = waits_in (QuietPhase is) m e.kept now k tt (λ r. tt) }
  quiet_moved c s got _ (moves.asks at m e now f y l k) n h o same = record { held = h; phase = asks_in (QuietPhase is) m e.kept now k (λ r. tt) (λ r. tt) }
  quiet_moved c s got _ (moves.enters_again m tried e l) n h o same = runs_quiet (record s { held = with_held (deeper e) s.held }) (put_one (deeper e) s.held (held_is s.held m e h l) h)
  quiet_moved c s got _ (moves.enters_inside m tried t k) n h o same = runs_quiet (record s { attempt = _ }) h
  quiet_moved c s got _ (moves.begins_to_try m tried noted f below e y l t free) n h o same = runs_quiet (record s { attempt = _ }) h
  quiet_moved c s got was (moves.takes_lock m kept k) n h o same =
      let e : Held = record { monitor = m; kept = kept; depth = 1 } in
      runs_quiet (record s { held = with_held e s.held; counts = _ }) (put_one e s.held (takes_in (λ (w : Phase). KnowsObject w → IsObject is m) got m was kept k (λ count o. o) (λ r o. o) o) h)
  quiet_moved c s got was (moves.gives_up m a k) n h o same =
      goes_quiet (record s { held = without_held m s.held }) (after c.program s.frames a) (without_one m s.held h) (subst (QuietPhase is) (sym same) (gives_up_in (QuietPhase is) s m a was k tt tt))
  quiet_moved c s got _ (moves.leaves_outer m a e l t) n h o same = goes_quiet (record s { held = with_held (shallower e) s.held }) (after c.program s.frames a) (put_one (shallower e) s.held (held_is s.held m e h l) h) (subst (QuietPhase is) (sym same) tt)
  quiet_moved c s got _ (moves.leaves_inside m a t inner k e) n h o same = goes_quiet (record s { attempt = _ }) (after c.program s.frames a) h (subst (QuietPhase is) (sym same) tt)
  quiet_moved c s got _ (moves.finishes_try m a t k e y) n h o same = goes_quiet (elided s) (after c.program s.frames a) h (subst (QuietPhase is) (sym same) tt)
  quiet_moved c s got _ (moves.fattens_lock m r toward e l) n h o same = record {
    held = put_one (record e { kept = keeps.Fat r }) s.held (held_is s.held m e h l) h;
    phase = (elim toward as
        (λ (toward : Toward). QuietPhase is (grown m r toward))
        [ towards.Leave a ↦ tt | towards.Wait ↦ tt ]);
  }
  quiet_moved c s got _ (moves.gives_up_to_wait m r e l) n h o same = record { held = without_one m s.held h; phase = subst (IsObject is) (held_monitor m s.held e l) (held_is s.held m e h l) }
  quiet_moved c s got _ (moves.retakes_lock m r depth e) n h o same = let b : Held = record { monitor = m; kept = keeps.Fat r; depth = depth } in runs_quiet (record s { held = with_held b s.held }) (put_one b s.held o h)
  quiet_moved c s got _ (moves.starts number roots e) n h o same = goes_quiet (record s { roots = roots }) _ h (subst (QuietPhase is) (sym same) tt)
