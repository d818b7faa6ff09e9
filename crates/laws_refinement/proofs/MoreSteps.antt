-- What behind some steps of the plain machine, or at the start, is known of steps and counts.
use Rattle.std.proofs.Common.{◌≡◌, ℕ, zero, suc, ◌+◌, List, [], ◌∷◌, ◌++◌, Option, Some, None, refl, ap, subst, arith, replicate, option_and_then, slice_get, slice_index_or}
use Rattle.lists.proofs.ListLaws.{same_some}
use Rattle.jvm_types.specs.declared.program.Program.{Program}
use Rattle.checked_program.specs.MarkedProgram.{MarkedProgram}
use Rattle.machine_types.specs.{Core.{start, start_thread}, Counting.{count_from, count_along, CountsFit}, History.{Past, no_past}, Parts.init_roots, PlainState.Plain}
use Rattle.machine_types.{specs.{PlainSteps.{plain_step, plain_run}, Threads.Thread, declared.{config.Config.Config, plain.PlainStep.PlainStep}}, proofs.AtStart.is_start_thread}
use Rattle.laws_simulation.proofs.PlainCounts.{counts_append}
use Rattle.laws_refinement.proofs.SameCounts.{part_extra}

-- ---- runs that go on

pub run_on : (p : Program) (xs ys : List PlainStep) (q r : Plain) → plain_run p q xs ≡ Some r → plain_run p q (xs ++ ys) ≡ plain_run p r ys
run_on p [] ys q r e = ap (λ (z : Plain). plain_run p z ys) (same_some e)
run_on p (step ∷ xs) ys q r e = (elim (plain_step p q step) as (λ (o : Option Plain). option_and_then (λ z. plain_run p z xs) o ≡ Some r → option_and_then (λ z. plain_run p z (xs ++ ys)) o ≡ plain_run p r ys)
    [ None ↦ λ f. absurd (cc) | Some z ↦ λ f. run_on p xs ys z r f ]) e

pub count_on : (p : Program) (count : Plain → PlainStep → ℕ) (xs ys : List PlainStep) (q r : Plain) → plain_run p q xs ≡ Some r → count_along p count (xs ++ ys) q ≡ count_along p count xs q + count_along p count ys r
count_on p count xs ys q r e = omega (arith, counts_append p count xs ys q, ap (count_from (count_along p count ys)) e)

pub recounted : {d : Past} {runs takes more most : ℕ} (x : Thread) → CountsFit x d runs takes → runs ≡ more → takes ≡ most → CountsFit x d more most
recounted x k e f = let i = k.instructions in let n = k.sections in record { instructions = omega (arith, i, e); sections = omega (arith, n, f) }

-- ---- the start

pub all_one : (n t : ℕ) (d : Past) → slice_index_or (replicate n d) t d ≡ d
all_one zero t d = refl
all_one (suc n) zero d = refl
all_one (suc n) (suc t) d = all_one n t d

pub counted_at_start : (c : MarkedProgram) (cfg : Config) (t : ℕ) (x : Thread) → slice_get (start c cfg).threads t ≡ Some x → CountsFit x no_past 0 0
counted_at_start c cfg t x e = subst (λ (z : Thread). CountsFit z no_past 0 0) (is_start_thread c cfg t x e) (elim t as (λ (n : ℕ). CountsFit (start_thread c cfg n) no_past 0 0)
    [ zero ↦ record { instructions = omega (arith, part_extra (init_roots c.program)); sections = refl } | suc n ↦ record { instructions = refl; sections = refl } ])
