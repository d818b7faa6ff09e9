-- Runs, step by step.
use Rattle.std.{proofs.Common.{◌≡◌, ℕ, zero, suc, ◌+◌, ◌<◌, List, [], ◌∷◌, length, take, drop, get_or, Option, Some, None, ap, subst, ◌∙◌, arith}, specs.Option.option_and_then}
use Rattle.jvm_types.specs.declared.program.Program.{Program}
use Rattle.checked_program.specs.MarkedProgram.{MarkedProgram}
use Rattle.machine_types.specs.{PlainState.Plain, PlainSteps.{plain_run, plain_step}, declared.plain.PlainStep.PlainStep}
use Rattle.history_rule.specs.Steps.{IsPlayedOn, Played}

-- one step more of a run that was made
pub run_more : (p : Program) (steps : List PlainStep) (i : ℕ) (d : PlainStep) (q r after : Plain) → i < length steps → plain_run p q (take i steps) ≡ Some r → plain_step p r (get_or steps i d) ≡ Some after
    → plain_run p q (take (suc i) steps) ≡ Some after
run_more p [] i d q r after l made step = absurd (omega (arith, l))
run_more p (x ∷ xs) zero d q r after l made step =
    let same : q ≡ r = cc in
    ap (λ (s : Plain). option_and_then (λ u. plain_run p u []) (plain_step p s x)) same ∙ ap (option_and_then (λ u. plain_run p u [])) step
run_more p (x ∷ xs) (suc i) d q r after l made step = by_first (plain_step p q x) made (λ u e. run_more p xs i d u r after (omega (arith, l)) e step)
  where
    by_first : (o : Option Plain) → option_and_then (λ u. plain_run p u (take i xs)) o ≡ Some r → ((u : Plain) → plain_run p u (take i xs) ≡ Some r → plain_run p u (take (suc i) xs) ≡ Some after) → option_and_then (λ u. plain_run p u (take (suc i) xs)) o ≡ Some after
    by_first None e more = absurd (cc)
    by_first (Some u) e more = more u e

-- what is left of a run, at the next step
pub run_rest : (p : Program) (steps : List PlainStep) (i : ℕ) (d : PlainStep) (r : Plain) (o : Option Plain) → i < length steps → plain_step p r (get_or steps i d) ≡ o
    → plain_run p r (drop i steps) ≡ option_and_then (λ u. plain_run p u (drop (suc i) steps)) o
run_rest p [] i d r o l step = absurd (omega (arith, l))
run_rest p (x ∷ xs) zero d r o l step = ap (option_and_then (λ u. plain_run p u xs)) step
run_rest p (x ∷ xs) (suc i) d r o l step = run_rest p xs i d r o (omega (arith, l)) step

-- ---- of a plain machine that counts its steps

pub one_behind : (p : MarkedProgram) (steps : List PlainStep) (i : ℕ) (d : PlainStep) (old now new : Played) → p ≡ old.program → i < length steps → IsPlayedOn old (take i steps) i now → plain_step p.program now.state (get_or steps i d) ≡ Some new.state
    → new ≡ record now { state = new.state; steps = now.steps + 1 } → IsPlayedOn old (take (i + 1) steps) (i + 1) new
one_behind p steps i d old now new same l here step is =
    let next : i + 1 ≡ suc i = omega arith in
    let its : plain_step old.program.program now.state (get_or steps i d) ≡ Some new.state = subst (λ (c : MarkedProgram). plain_step c.program now.state (get_or steps i d) ≡ Some new.state) same step in
    let count : old.steps + i + 1 ≡ old.steps + (i + 1) = omega arith in
    record {
      made = ap (λ (n : ℕ). plain_run old.program.program old.state (take n steps)) next ∙ run_more old.program.program steps i d old.state now.state new.state l here.made its;
      same = is ∙ ap (λ (q : Played). record q { state = new.state; steps = q.steps + 1 }) here.same ∙ ap (λ (n : ℕ). record old { state = new.state; steps = n }) count;
    }
