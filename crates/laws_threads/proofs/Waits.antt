-- A thread makes a lock fat, and waits.
use Rattle.std.proofs.{Common.{◌≡◌, ℕ, Option, Some, None, refl, sym, subst, arith}, lemmas.Bool.Decides.nat_tests}
use Rattle.checked_program.specs.MarkedProgram.{MarkedProgram}
use Rattle.machine_types.specs.{HeldMonitors.{held_at, with_held, without_held}, Monitors.{fattens, goes_to_wait, retakes}}
use Rattle.machine_types.specs.{Structure.{IsFlat, IsFat, Stands}, Threads.Thread, declared.{lock.Held.Held, phase.Toward.Toward}}
use Rattle.laws_threads.{specs.StructureLaws.StaysStructured, proofs.Turns.{running, no_attempt}}
use Rattle.laws_threads.proofs.HeldLists.{depth_some, depth_none, depth_put, depth_without, held_monitor, held_there, held_positive, none_held, once_put, once_without, refitted_depth}
use Rattle.machine_types.specs.declared.lock.Kept.TheVariants as keeps
use Rattle.machine_types.specs.declared.phase.Phase.TheVariants as phases
use Rattle.machine_types.specs.declared.phase.Toward.TheVariants as towards

-- ---- a lock is made fat; no attempt is under way then

module _ (c : MarkedProgram) (s : Thread) (m : ℕ) (none : s.attempt ≡ None) where
  -- the word of the lock says so
  pub fattened : (r : ℕ) (toward : Toward) (o : Option Held) → held_at s.held m ≡ o → Stands c (phases.FatIn m r toward) s.frames s.held s.attempt → StaysStructured c (phases.FatIn m r toward) (fattens s m r toward o)
  fattened r toward None e k = absurd (subst (λ (o : Option Held). IsFlat o) e k.phase_shows.flat)
  fattened r (towards.Leave a) (Some h) e k = record { is_as = refl; stands = stands; attempt = no_attempt c (phases.Leave m a) s.frames (with_held (record h { kept = keeps.Fat r }) s.held) s.attempt none }
    where
      stands : Stands c (phases.Leave m a) s.frames (with_held (record h { kept = keeps.Fat r }) s.held) s.attempt
      stands = record {
        shown = k.shown;
        show = k.show;
        depths = λ n. let d = k.depths n in let same = refitted_depth m n (keeps.Fat r) s.held h e in omega arith;
        once = once_put (record h { kept = keeps.Fat r }) s.held (held_positive m s.held h k.once e) k.once;
        phase_shows = k.phase_shows.toward_shows;
      }
  fattened r towards.Wait (Some h) e k = record { is_as = refl; stands = stands; attempt = no_attempt c (phases.WaitBit m r) s.frames (with_held (record h { kept = keeps.Fat r }) s.held) s.attempt none }
    where
      stands : Stands c (phases.WaitBit m r) s.frames (with_held (record h { kept = keeps.Fat r }) s.held) s.attempt
      stands = record {
        shown = k.shown;
        show = k.show;
        depths = λ n. let d = k.depths n in let same = refitted_depth m n (keeps.Fat r) s.held h e in omega arith;
        once = once_put (record h { kept = keeps.Fat r }) s.held (held_positive m s.held h k.once e) k.once;
        phase_shows = (k.phase_shows.toward_shows, subst (λ (o : Option Held). IsFat r o) (sym (held_there m (record h { kept = keeps.Fat r }) s.held (held_monitor m s.held h e))) refl);
      }

-- ---- waits

module _ (c : MarkedProgram) (s : Thread) (m r : ℕ) (none : s.attempt ≡ None) where
  -- the monitor is given up, and its depth is kept
  pub given_up : (o : Option Held) → held_at s.held m ≡ o → Stands c (phases.WaitOut m r) s.frames s.held s.attempt → StaysStructured c (phases.WaitOut m r) (goes_to_wait s m r o)
  given_up None e k = absurd (subst (λ (o : Option Held). IsFat r o) e k.phase_shows.1)
  given_up (Some h) e k = record { is_as = refl; stands = stands; attempt = no_attempt c (phases.WaitLook m r h.depth) s.frames (without_held m s.held) s.attempt none }
    where
      stands : Stands c (phases.WaitLook m r h.depth) s.frames (without_held m s.held) s.attempt
      stands = record {
        shown = k.shown;
        show = k.show;
        depths = λ n. let d = k.depths n in grind (arith, nat_tests, d, depth_without n m s.held k.once, depth_some m s.held h e);
        once = once_without m s.held k.once;
        phase_shows = record { frame = k.phase_shows.0; not_held = none_held m s.held k.once; some = held_positive m s.held h k.once e };
      }

  -- the monitor is taken back
  pub retaken : (depth : ℕ) → Stands c (phases.Retake m r depth) s.frames s.held s.attempt → StaysStructured c (phases.Retake m r depth) (retakes s m r depth)
  retaken depth k = running c (phases.Retake m r depth) (record s { held = with_held entry s.held }) stands (no_attempt c phases.Run s.frames (with_held entry s.held) s.attempt none)
    where
      entry : Held
      entry = record { monitor = m; kept = keeps.Fat r; depth = depth }

      stands : Stands c phases.Run s.frames (with_held entry s.held) s.attempt
      stands = record {
        shown = k.shown;
        show = k.show;
        depths = λ n. let d = k.depths n in grind (arith, nat_tests, d, depth_put n entry s.held, depth_none m s.held k.phase_shows.not_held);
        once = once_put entry s.held k.phase_shows.some k.once;
        phase_shows = k.phase_shows.frame;
      }
