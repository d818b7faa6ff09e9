-- At the start each thread is one of the program, and lawful.
use Rattle.std.proofs.{Common.{◌≡◌, ◌≤◌, ℕ, zero, suc, ◌+◌, List, [], length, Some, subst, arith, slice_get}, lemmas.{List.FromFn.length-map-range_with_len, Option.slice_get_within}}
use Rattle.checked_program.specs.MarkedProgram.{MarkedProgram}
use Rattle.machine_types.specs.{Bounds.IsBounded, Core.{start, start_thread, part_phase}, Lawful.{IsLawful, IsTypedWithin}, Parts.init_roots, Settings.AreSettings, StartLaws.phase_at_start}
use Rattle.machine_types.specs.{Threads.{Thread, fresh}, declared.{config.Config.Config, phase.Phase.Phase}}
use Rattle.machine_types.proofs.AtStart.{IsFreshPhase, starts, idles, is_over, phase_is_fresh, is_start_thread, has_threads, is_structured}
use Rattle.laws_threads.proofs.PartSteps.{start_fits}
use Rattle.laws_states.specs.RunFacts.{AreThreads}
use Rattle.machine_types.specs.declared.phase.Phase.TheVariants as phases

fresh_bounded : (c : MarkedProgram) (cfg : Config) (t : ℕ) (phase : Phase) (roots : List ℕ) → IsFreshPhase phase → t ≤ c.program.workers → AreSettings cfg → IsBounded c.program (fresh c cfg t phase roots)
fresh_bounded c cfg t _ roots starts few set = record { number = few; kept = tt; noted = tt; phase = tt; prints = omega arith; turns = set.turns; steps = omega arith; depths = tt; waits = tt; inner = tt; entry = tt; inflated = omega arith; sections = omega arith }
fresh_bounded c cfg t _ roots idles few set = record { number = few; kept = tt; noted = tt; phase = tt; prints = omega arith; turns = set.turns; steps = omega arith; depths = tt; waits = tt; inner = tt; entry = tt; inflated = omega arith; sections = omega arith }
fresh_bounded c cfg t _ roots is_over few set = record { number = few; kept = tt; noted = tt; phase = tt; prints = omega arith; turns = set.turns; steps = omega arith; depths = tt; waits = tt; inner = tt; entry = tt; inflated = omega arith; sections = omega arith }

fresh_typed : (c : MarkedProgram) (cfg : Config) (t : ℕ) (phase : Phase) (roots : List ℕ) → IsFreshPhase phase → IsTypedWithin c (fresh c cfg t phase roots)
fresh_typed c cfg t _ roots starts = record { values = record { phase = tt; attempt = tt }; new = tt; receivers = tt; entry = tt }
fresh_typed c cfg t _ roots idles = record { values = record { phase = tt; attempt = tt }; new = tt; receivers = tt; entry = tt }
fresh_typed c cfg t _ roots is_over = record { values = record { phase = tt; attempt = tt }; new = tt; receivers = tt; entry = tt }

-- a thread of the start has a fresh phase
start_typed : (c : MarkedProgram) (cfg : Config) (t : ℕ) → IsTypedWithin c (start_thread c cfg t)
start_typed c cfg zero = fresh_typed c cfg 0 (part_phase (init_roots c.program)) (init_roots c.program) (phase_is_fresh c cfg 0)
start_typed c cfg (suc t) = fresh_typed c cfg (suc t) phases.Idle [] idles

start_bounded : (c : MarkedProgram) (cfg : Config) (t : ℕ) → t ≤ c.program.workers → AreSettings cfg → IsBounded c.program (start_thread c cfg t)
start_bounded c cfg zero few set = fresh_bounded c cfg 0 (part_phase (init_roots c.program)) (init_roots c.program) (phase_is_fresh c cfg 0) few set
start_bounded c cfg (suc t) few set = fresh_bounded c cfg (suc t) phases.Idle [] idles few set

starts_lawful : (c : MarkedProgram) (cfg : Config) (t : ℕ) (x : Thread) → AreSettings cfg → t ≤ c.program.workers → slice_get (start c cfg).threads t ≡ Some x → IsLawful c x
starts_lawful c cfg t x set few e = record {
  was = phase_at_start c cfg t;
  structured = is_structured c cfg t x e;
  typed = subst (λ (y : Thread). IsTypedWithin c y) (is_start_thread c cfg t x e) (start_typed c cfg t);
  bounded = subst (λ (y : Thread). IsBounded c.program y) (is_start_thread c cfg t x e) (start_bounded c cfg t few set);
  rooted = (has_threads c cfg t x e).rooted;
}

count_of : (c : MarkedProgram) (cfg : Config) → length (start c cfg).threads ≡ c.program.workers + 1
count_of c cfg = length-map-range_with_len (start_thread c cfg) 0 (c.program.workers + 1)

pub start_threads : (c : MarkedProgram) (cfg : Config) → AreSettings cfg → AreThreads c cfg (start c cfg)
start_threads c cfg set = record {
  count = count_of c cfg;
  own = λ t x e. has_threads c cfg t x e;
  lawful = λ t x e. starts_lawful c cfg t x set (let lt = slice_get_within (start c cfg).threads t x e in omega (arith, lt, count_of c cfg)) e;
  parts = start_fits c cfg;
}
