-- Where `init` has not returned, the run is over, and no worker was ever live.
use Rattle.std.{proofs.Common.{◌≡◌, ℕ, zero, suc, Bool, true, false, [], ◌+◌, map, Some, refl, sym, ap, ◌∙◌, arith, nat_lt, ◌&&◌, slice_get}, specs.List.range_with_len}
use Rattle.std.proofs.lemmas.Bool.Decides.{nat_tests}
use Rattle.jvm_types.specs.declared.outcome.Outcome.{Outcome}
use Rattle.checked_program.specs.MarkedProgram.{MarkedProgram}
use Rattle.machine_types.specs.{Core.{Core, is_live_thread, lives, may_begin, next, outcome, start, start_thread}, Schedules.{First, is_live_worker}, declared.config.Config.Config}
use Rattle.replay_runner.{specs.Running.{Running, events}, proofs.{LoneWorker.other_lives, ManyEvents.goes_in_init, Turns.{next_same, no_workers_turn, replayed}}}
use Rattle.record_run.specs.Recordings.{IsRecorded}

-- ---- no worker is live at the start

idle_among : (c : MarkedProgram) (cfg : Config) (k n t : ℕ) → is_live_thread (slice_get (map (start_thread c cfg) (range_with_len (k + 1) n)) t) ≡ false
idle_among c cfg k zero t = refl
idle_among c cfg k (suc n) zero = ap (λ (i : ℕ). is_live_thread (Some (start_thread c cfg i))) (let e : k + 1 ≡ suc k = omega arith in e)
idle_among c cfg k (suc n) (suc t) = idle_among c cfg (k + 1) n t

idle_at_start : (c : MarkedProgram) (cfg : Config) (n t : ℕ) → is_live_thread (slice_get (map (start_thread c cfg) (range_with_len 0 (n + 1))) (suc t)) ≡ false
idle_at_start c cfg n t = let e : n + 1 ≡ suc n = omega arith in ap (λ (k : ℕ). is_live_thread (slice_get (map (start_thread c cfg) (range_with_len 0 k)) (suc t))) e ∙ idle_among c cfg 0 n t

-- ---- nor while thread 0 runs alone

idle_on : (c : MarkedProgram) (cfg : Config) (n t : ℕ) → lives (events c (start c cfg) 0 n) (suc t) ≡ false
idle_on c cfg zero t = idle_at_start c cfg c.program.workers t
idle_on c cfg (suc n) t = other_lives c (events c (start c cfg) 0 n) 0 (suc t) (λ e. cc) ∙ idle_on c cfg n t

no_workers : (c : MarkedProgram) (cfg : Config) (n t : ℕ) → is_live_worker (events c (start c cfg) 0 n) t ≡ false
no_workers c cfg n zero = refl
no_workers c cfg n (suc t) = let one : nat_lt 0 (suc t) ≡ true = grind (arith, nat_tests) in ap (λ (b : Bool). b && lives (events c (start c cfg) 0 n) (suc t)) one ∙ idle_on c cfg n t

-- ---- the record of such a run

pub ends_at_init : (c : MarkedProgram) (cfg : Config) (most count : ℕ) (o : Outcome) → lives (events c (start c cfg) 0 count) 0 ≡ false → may_begin (events c (start c cfg) 0 count).threads ≡ false → o ≡ outcome (events c (start c cfg) 0 count) → IsRecorded c cfg most [] o
ends_at_init c cfg most count o over may is =
    let m : Running = record { program = c; cfg = cfg; core = start c cfg } in
    let s : Core = events c (start c cfg) 0 count in
    let same : record m { core = next c s } ≡ record m { core = s } = next_same (record m { core = s }) (record m { core = next c s }) may refl in
    record {
      replayed = replayed c cfg [] (First []) s o (goes_in_init m [] count).leads (no_workers_turn c s [] over may) is;
      few = omega arith;
      at = s;
      begin = record { count = count; init_over = over; begun = sym (ap (λ (r : Running). r.core) same) };
      live = tt;
      whole = λ fewer t. no_workers c cfg count t;
    }
