-- Behind `init` the workers begin, or the run is over.
use Rattle.std.proofs.Common.{◌≡◌, ℕ, true, false, List, [], refl, sym, ap, subst, ◌∙◌}
use Rattle.jvm_types.specs.declared.outcome.Outcome.{Outcome}
use Rattle.checked_program.specs.MarkedProgram.{MarkedProgram}
use Rattle.machine_types.specs.{Core.{lives, may_begin, next, outcome, start}, declared.config.Config.Config}
use Rattle.replay_runner.specs.Running.{Running, events, run_on}
use Rattle.record_run.{specs.{Kept.HaveBegun, Recordings.IsRecorded}, proofs.NoWorkers.ends_at_init}

module _ (c : MarkedProgram) (cfg : Config) (m a : Running) (count : ℕ) (at_start : m ≡ record { program = c; cfg = cfg; core = start c cfg }) (on : a ≡ run_on m 0 count) (over : lives a.core 0 ≡ false) where
  after_init : a ≡ record { program = c; cfg = cfg; core = events c (start c cfg) 0 count }
  after_init = on ∙ ap (λ (z : Running). run_on z 0 count) at_start

  init_over : lives (events c (start c cfg) 0 count) 0 ≡ false
  init_over = ap (λ (z : Running). lives z.core 0) (sym after_init) ∙ over

  pub have_begun : (n : Running) → may_begin a.core.threads ≡ true → n ≡ record a { core = next a.program a.core } → HaveBegun n.program n.cfg n.core
  have_begun n may e =
      let begun : n ≡ record { program = c; cfg = cfg; core = next c (events c (start c cfg) 0 count) } = e ∙ ap (λ (z : Running). record z { core = next z.program z.core }) after_init in
      subst (λ (z : Running). HaveBegun z.program z.cfg z.core) (sym begun)
      (record { begin = record { count = count; init_over = init_over; begun = refl }; returned = ap (λ (z : Running). may_begin z.core.threads) (sym after_init) ∙ may })

  pub ends_there : (n : Running) (most : ℕ) (order : List ℕ) (o : Outcome) → may_begin a.core.threads ≡ false → n ≡ a → order ≡ [] → o ≡ outcome n.core → IsRecorded c cfg most order o
  ends_there n most order o may same none is =
      subst (λ (ts : List ℕ). IsRecorded c cfg most ts o) (sym none)
      (ends_at_init c cfg most count o init_over (ap (λ (z : Running). may_begin z.core.threads) (sym after_init) ∙ may) (is ∙ ap (λ (z : Running). outcome z.core) (same ∙ after_init)))
