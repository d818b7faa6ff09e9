-- What an event takes of the work of its thread it takes of that of all.
use Rattle.std.{proofs.Common.{◌≡◌, ℕ, ◌+◌, ◌-◌, ◌*◌, ◌<◌, ◌≤◌, true, length, Option, Some, None, refl, arith, slice_get}}
use Rattle.checked_program.specs.MarkedProgram.{MarkedProgram, IsMarked}
use Rattle.machine_types.specs.{Accesses.found_by, Core.{Core, event_of, is_live_thread}, Events.{wanted, moved}, Threads.Thread, declared.config.Config.Config}
use Rattle.laws_states.{specs.{RunFacts.AreThreads, WorkLeft.{chain, inside, work_left, all_work, EventsLessenWork, EventsLessenAllWork, WorkIsBounded}}, proofs.{Sums.sum_set, WorkFalls.small}}

-- ---- the sum

states : EventsLessenWork → (c : MarkedProgram) (cfg : Config) (s : Core) (t : ℕ) (o : Option Thread) → slice_get s.threads t ≡ o → IsMarked c → AreThreads c cfg s → is_live_thread o ≡ true → all_work (event_of c s t o) < all_work s
states law c cfg s t None e marked threads live = absurd (cc)
states law c cfg s t (Some x) e marked threads live =
    omega (arith, (law c x (found_by s.words (wanted c x x.phase)) marked (threads.lawful t x e) live), sum_set work_left s.threads t x (moved c x x.phase (found_by s.words (wanted c x x.phase))) e)

pub events_lessen_all_work : EventsLessenWork → EventsLessenAllWork
events_lessen_all_work law c cfg s t marked threads live = states law c cfg s t (slice_get s.threads t) refl marked threads live

-- ---- the bound

no_more : (m j k : ℕ) → j ≤ k → m * j ≤ m * k
no_more m j k h = grind (arith, h)

pub work_is_bounded : WorkIsBounded
work_is_bounded x =
    let few : (x.cfg.turns + 2) * (x.cfg.steps - x.counts.instructions) ≤ (x.cfg.turns + 2) * x.cfg.steps = no_more (x.cfg.turns + 2) (x.cfg.steps - x.counts.instructions) x.cfg.steps (omega arith) in
    by_sum ((x.cfg.turns + 2) * (x.cfg.steps - x.counts.instructions)) ((x.cfg.turns + 2) * x.cfg.steps) x.cfg.turns x.turns (2 * length x.roots) (length x.frames) (chain x.held x.phase + inside x.phase x.attempt) few (small x)
    (grind arith)
  where
    by_sum : (a b m t r f p : ℕ) → a ≤ b → p < 24 → (m + 2) * (x.cfg.steps + 1) ≡ b + (m + 2) → 24 * (a + (m - t) + r + f) + p < 24 * ((m + 2) * (x.cfg.steps + 1) + r + f)
    by_sum a b m t r f p h q e = rw e (omega (arith, h, q))
