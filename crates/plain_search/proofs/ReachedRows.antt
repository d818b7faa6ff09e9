-- A row that comes next behind one that a plain run leads to.
use Rattle.std.proofs.Common.{◌≡◌, List, [], ◌∷◌, ◌++◌, Option, Some, None, sym, ap, ◌∙◌, subst, option_and_then}
use Rattle.jvm_types.specs.declared.program.Program.{Program}
use Rattle.checked_program.specs.MarkedProgram.{MarkedProgram}
use Rattle.machine_types.specs.PlainState.{Plain, plain_start}
use Rattle.machine_types.specs.PlainSteps.{plain_step, plain_run}
use Rattle.machine_types.specs.declared.plain.PlainStep.{PlainStep}
use Rattle.history_rule.specs.Steps.{Played}
use Rattle.plain_orders.specs.LocalSteps.{is_local}
use Rattle.plain_orders.specs.Orders.{IsLocalRun}
use Rattle.plain_search.specs.declared.row.Row.{Row}
use Rattle.plain_search.specs.Nexts.{IsNextRow}
use Rattle.plain_search.specs.Rows.{IsPlainReached, IsSearchRow}

made_first : (p : Program) (q r z : Plain) (a : PlainStep) (xs : List PlainStep) → plain_step p q a ≡ Some r → plain_run p r xs ≡ Some z → plain_run p q (a ∷ xs) ≡ Some z
made_first p q r z a xs e f = ap (option_and_then (λ m. plain_run p m xs)) e ∙ f

run_on : (p : Program) (q r z : Plain) (xs ys : List PlainStep) → plain_run p q xs ≡ Some r → plain_run p r ys ≡ Some z → plain_run p q (xs ++ ys) ≡ Some z
run_on p q r z [] ys e f = let same : q ≡ r = cc in subst (λ (m : Plain). plain_run p m ys ≡ Some z) (sym same) f
run_on p q r z (a ∷ xs) ys e f = by_step (plain_step p q a) e (λ m h. run_on p m r z xs ys h f)
  where
    by_step : (o : Option Plain) → option_and_then (λ m. plain_run p m xs) o ≡ Some r → ((m : Plain) → plain_run p m xs ≡ Some r → plain_run p m (xs ++ ys) ≡ Some z)
        → option_and_then (λ m. plain_run p m (xs ++ ys)) o ≡ Some z
    by_step None h k = cc
    by_step (Some m) h k = k m h

local_run : (p : Program) (q z : Plain) (xs : List PlainStep) → IsLocalRun (plain_step p) (is_local p) q xs z → plain_run p q xs ≡ Some z
local_run p q z [] v = ap (λ (m : Plain). Some m) v
local_run p q z (a ∷ xs) v = made_first p q v.1 z a xs v.2 (local_run p v.1 z xs v.3)

pub next_reached : (c : MarkedProgram) (q : Played) (r : Row) → q.program ≡ c → IsPlainReached c q.state → IsNextRow q r → IsSearchRow c r
next_reached c q r own reached next =
    let b = next.behind in
    let behind : plain_run q.program.program q.state (r.step ∷ b.2.0) ≡ Some r.plain.state =
    made_first q.program.program q.state b.0 r.plain.state r.step b.2.0 b.1 (local_run q.program.program b.0 r.plain.state b.2.0 b.2.1) in
    record {
      own = next.own ∙ own;
      reached = (
        reached.0 ++ (r.step ∷ b.2.0),
        run_on c.program (plain_start c.program) q.state r.plain.state reached.0 (r.step ∷ b.2.0) reached.1
            (subst (λ (d : MarkedProgram). plain_run d.program q.state (r.step ∷ b.2.0) ≡ Some r.plain.state) own behind),
      );
    }

pub start_reached : (c : MarkedProgram) (r : Row) → r.plain.program ≡ c → r.plain.state ≡ plain_start c.program → IsSearchRow c r
start_reached c r own e = record { own = own; reached = ([], ap (λ (q : Plain). Some q) (sym e)) }
