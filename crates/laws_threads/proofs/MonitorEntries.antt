-- A thread enters a monitor.
use Rattle.std.proofs.{Common.{◌≡◌, ℕ, ◌+◌, true, cond, List, ◌∷◌, length, Option, Some, None, refl, sym, ap, subst, arith, ◌==◌}, lemmas.Bool.Decides.nat_tests}
use Rattle.checked_program.specs.MarkedProgram.{MarkedProgram, IsMarked}
use Rattle.machine_types.specs.{Elision.enters_marked, Going.{with_phase, runs, failed_turn}, HeldMonitors.{held_at, with_held, deeper}, Monitors.{HasNot, claim_by, takes}}
use Rattle.machine_types.specs.{Structure.{Stands, AttemptStands, AttemptStandsIn, tried_depth, once_at}, Threads.{Frame, Attempt, Thread}, declared.{lock.{Held.Held, Kept.Kept}, phase.Phase.Phase}}
use Rattle.laws_threads.{specs.{InsideMoves.{BeginsAttempt, EntersInside}, StructureLaws.{StaysStructured, turned_from}}, proofs.GoingOn.entered_frame}
use Rattle.laws_threads.proofs.{HeldLists.{held_monitor, depth_some, depth_none, depth_put, once_put}, Turns.{TurnsIn, running, turning, no_attempt, held_outside}}
use Rattle.machine_types.specs.declared.phase.Phase.TheVariants as phases

-- ---- the lock is looked at, taken or flagged: the phases of that are alike

module _ (c : MarkedProgram) (s : Thread) (m : ℕ) where
  to_take : (count : ℕ) → Stands c (phases.Acquire m) s.frames s.held s.attempt → Stands c (phases.Take m count) s.frames s.held s.attempt
  to_take count k = record { shown = k.shown; show = k.show; depths = k.depths; once = k.once; phase_shows = k.phase_shows }

  to_flag : (u : ℕ) → Stands c (phases.Acquire m) s.frames s.held s.attempt → Stands c (phases.Flag m u) s.frames s.held s.attempt
  to_flag u k = record { shown = k.shown; show = k.show; depths = k.depths; once = k.once; phase_shows = k.phase_shows }

  to_take_fat : (r : ℕ) → Stands c (phases.Acquire m) s.frames s.held s.attempt → Stands c (phases.TakeFat m r) s.frames s.held s.attempt
  to_take_fat r k = record { shown = k.shown; show = k.show; depths = k.depths; once = k.once; phase_shows = k.phase_shows }

  pub from_take : (count : ℕ) → Stands c (phases.Take m count) s.frames s.held s.attempt → Stands c (phases.Acquire m) s.frames s.held s.attempt
  from_take count k = record { shown = k.shown; show = k.show; depths = k.depths; once = k.once; phase_shows = k.phase_shows }

  pub from_flag : (u : ℕ) → Stands c (phases.Flag m u) s.frames s.held s.attempt → Stands c (phases.Acquire m) s.frames s.held s.attempt
  from_flag u k = record { shown = k.shown; show = k.show; depths = k.depths; once = k.once; phase_shows = k.phase_shows }

  pub from_take_fat : (r : ℕ) → Stands c (phases.TakeFat m r) s.frames s.held s.attempt → Stands c (phases.Acquire m) s.frames s.held s.attempt
  from_take_fat r k = record { shown = k.shown; show = k.show; depths = k.depths; once = k.once; phase_shows = k.phase_shows }

  acquire_turns : Stands c (phases.Acquire m) s.frames s.held s.attempt → TurnsIn c (phases.Acquire m) s
  acquire_turns k = record { counts = tt; stands = k; inside = no_attempt c (phases.Acquire m) s.frames s.held s.attempt k.phase_shows.no_attempt }

  -- by what the lock word says
  module _ (was : Phase) (from : turned_from was ≡ phases.Acquire m) (k : Stands c (phases.Acquire m) s.frames s.held s.attempt) where
    limit : TurnsIn c (turned_from was) s
    limit = subst (λ (phase : Phase). TurnsIn c phase s) (sym from) (acquire_turns k)

    pub takes_next : (count : ℕ) → StaysStructured c was (with_phase s (phases.Take m count))
    takes_next count = record { is_as = refl; stands = to_take count k; attempt = no_attempt c (phases.Take m count) s.frames s.held s.attempt k.phase_shows.no_attempt }

    pub takes_fat_next : (r : ℕ) → StaysStructured c was (with_phase s (phases.TakeFat m r))
    takes_fat_next r = record { is_as = refl; stands = to_take_fat r k; attempt = no_attempt c (phases.TakeFat m r) s.frames s.held s.attempt k.phase_shows.no_attempt }

    pub looks_again : StaysStructured c was (failed_turn s (phases.Acquire m))
    looks_again = turning c was s (phases.Acquire m) (acquire_turns k) limit

    pub flags : (u : ℕ) → StaysStructured c was (failed_turn s (phases.Flag m u))
    flags u = turning c was s (phases.Flag m u) (record { counts = tt; stands = to_flag u k; inside = no_attempt c (phases.Flag m u) s.frames s.held s.attempt k.phase_shows.no_attempt }) limit

  -- the lock was not free
  pub turned_back : (count : ℕ) → Stands c (phases.Acquire m) s.frames s.held s.attempt → StaysStructured c (phases.Take m count) (failed_turn s (phases.Acquire m))
  turned_back count k = turning c (phases.Take m count) s (phases.Acquire m) (acquire_turns k) (acquire_turns k)

  pub turned_back_fat : (r : ℕ) → Stands c (phases.Acquire m) s.frames s.held s.attempt → StaysStructured c (phases.TakeFat m r) (failed_turn s (phases.TakeFat m r))
  turned_back_fat r k =
      let turns : TurnsIn c (phases.TakeFat m r) s = record { counts = tt; stands = to_take_fat r k; inside = no_attempt c (phases.TakeFat m r) s.frames s.held s.attempt k.phase_shows.no_attempt } in
      turning c (phases.TakeFat m r) s (phases.TakeFat m r) turns turns

  pub looks_at_lock : (was : Phase) → Stands c (phases.Acquire m) s.frames s.held s.attempt → StaysStructured c was (with_phase s (phases.Acquire m))
  looks_at_lock was k = record { is_as = refl; stands = k; attempt = no_attempt c (phases.Acquire m) s.frames s.held s.attempt k.phase_shows.no_attempt }

  -- the entry is made
  pub taken : (was : Phase) (kept : Kept) → Stands c (phases.Acquire m) s.frames s.held s.attempt → StaysStructured c was (takes s m kept)
  taken was kept k = running c was (record s { held = with_held entry s.held; counts = record s.counts { locked = s.counts.locked + 1 } }) stands (no_attempt c phases.Run s.frames (with_held entry s.held) s.attempt k.phase_shows.no_attempt)
    where
      entry : Held
      entry = record { monitor = m; kept = kept; depth = 1 }

      stands : Stands c phases.Run s.frames (with_held entry s.held) s.attempt
      stands = record {
        shown = k.shown;
        show = k.show;
        depths = λ n. let d = k.depths n in grind (arith, nat_tests, d, depth_put n entry s.held, depth_none m s.held k.phase_shows.not_held);
        once = once_put entry s.held (omega arith) k.once;
        phase_shows = entered_frame c m s.frames k.phase_shows.entry.enters;
      }

-- ---- an entry begins

-- the attempt at a phase that enters a monitor is one on it: there is none where the monitor is neither held nor tried
pub none_tried : (c : MarkedProgram) (m tried : ℕ) (fs : List Frame) (held : List Held) (h : Option Held) (o : Option Attempt) → claim_by m h o ≡ HasNot → AttemptStandsIn c (phases.Enter m tried) fs held o → o ≡ None
none_tried c m tried fs held (Some h) o e k = absurd (cc)
none_tried c m tried fs held None None e k = refl
none_tried c m tried fs held None (Some a) e k = absurd (grind (arith, nat_tests, e, k.inside))

-- the monitor is held
module _ (begin : BeginsAttempt) (entered_again : EntersInside) (c : MarkedProgram) (s : Thread) (m tried : ℕ) (k : Stands c (phases.Enter m tried) s.frames s.held s.attempt) (inside : AttemptStandsIn c (phases.Enter m tried) s.frames s.held s.attempt) where
  pub again : (h : Held) → held_at s.held m ≡ Some h → StaysStructured c (phases.Enter m tried) (runs (record s { held = with_held (deeper h) s.held }))
  again h e = running c (phases.Enter m tried) (record s { held = with_held (deeper h) s.held }) stands (no_attempt c phases.Run s.frames (with_held (deeper h) s.held) s.attempt (held_outside c (phases.Enter m tried) m h s.frames s.held s.attempt (λ n same. same) e inside))
    where
      stands : Stands c phases.Run s.frames (with_held (deeper h) s.held) s.attempt
      stands = record {
        shown = k.shown;
        show = k.show;
        depths = λ n. let d = k.depths n in grind (arith, nat_tests, d, depth_put n (deeper h) s.held, held_monitor m s.held h e, depth_some m s.held h e);
        once = once_put (deeper h) s.held (omega arith) k.once;
        phase_shows = entered_frame c m s.frames k.phase_shows.enters;
      }

  -- the lock is to be taken
  pub to_acquire : held_at s.held m ≡ None → s.attempt ≡ None → Stands c (phases.Acquire m) s.frames s.held s.attempt
  to_acquire e none = record { shown = k.shown; show = k.show; depths = k.depths; once = k.once; phase_shows = record { entry = k.phase_shows; not_held = e; no_attempt = none } }

  -- an attempt begins
  pub begun : IsMarked c → held_at s.held m ≡ None → s.attempt ≡ None → enters_marked c s.frames ≡ true → (noted number : ℕ) (f : Frame) (below : List Frame) → s.frames ≡ f ∷ below
      → StaysStructured c (phases.Enter m tried) (runs (record s { attempt = Some (record { monitor = m; noted = noted; base = length below; number = number; inner = 0; entry = f }) }))
  begun marked e none may noted number f below same =
      let a : Attempt = record { monitor = m; noted = noted; base = length below; number = number; inner = 0; entry = f } in
      let before : Stands c (phases.Enter m tried) (f ∷ below) s.held None = subst (λ (fs : List Frame). Stands c (phases.Enter m tried) fs s.held None) same (subst (λ (o : Option Attempt). Stands c (phases.Enter m tried) s.frames s.held o) none k) in
      let tried_there : AttemptStands c phases.Run (f ∷ below) s.held a = begin c m tried noted number f below s.held marked before e (subst (λ (fs : List Frame). enters_marked c fs ≡ true) same may) in
      let stands : Stands c phases.Run s.frames s.held (Some a) = record {
        shown = k.shown;
        show = k.show;
        depths = λ n. let d = k.depths n in let now : tried_depth n s.attempt ≡ 0 = ap (tried_depth n) none in let here : cond (m == n) (0 + 1) 0 ≡ once_at m n = refl in omega arith;
        once = k.once;
        phase_shows = entered_frame c m s.frames k.phase_shows.enters;
      } in
      running c (phases.Enter m tried) (record s { attempt = Some a }) stands (subst (λ (fs : List Frame). AttemptStands c phases.Run fs s.held a) (sym same) tried_there)

  -- inside an attempt on the monitor
  pub deeper_inside : (a : Attempt) → s.attempt ≡ Some a → a.monitor ≡ m → StaysStructured c (phases.Enter m tried) (runs (record s { attempt = Some (record a { inner = a.inner + 1 }) }))
  deeper_inside a e on = running c (phases.Enter m tried) (record s { attempt = Some (record a { inner = a.inner + 1 }) }) stands (entered_again c m tried s.frames s.held a (subst (λ (o : Option Attempt). AttemptStandsIn c (phases.Enter m tried) s.frames s.held o) e inside))
    where
      stands : Stands c phases.Run s.frames s.held (Some (record a { inner = a.inner + 1 }))
      stands = record {
        shown = k.shown;
        show = k.show;
        depths = λ n. grind (arith, nat_tests, k.depths n, ap (tried_depth n) e, on);
        once = k.once;
        phase_shows = entered_frame c m s.frames k.phase_shows.enters;
      }
