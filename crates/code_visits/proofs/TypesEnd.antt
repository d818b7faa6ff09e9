-- The visits of verification end, as those of its plan.
use Rattle.std.proofs.Common.{◌≡◌, ◌<◌, ℕ, List, Ok, Some, sym, subst}
use Rattle.jvm_types.specs.{Types.TypeFrame, Verifying.IsLaidOut, declared.program.{MethodInfo.MethodInfo, Program.Program}}
use Rattle.laws_programs.proofs.VisitsEnd.{IsKept, first_kept, visit_keeps, visit_works}
use Rattle.checked_program.specs.Visits.{PlanNode}
use Rattle.code_visits.{specs.{Analyses.Ends, TypePlan.{type_plan, typed, TypesKept, types_work}}, proofs.TypeVisits.{visited_typed, next_typed, first_typed}}
use Rattle.jvm_types.specs.Verifying as typing

pub types_end : (p : Program) (m : MethodInfo) → IsLaidOut m → Ends (type_plan p m) (λ nodes. TypesKept m nodes) (λ nodes. types_work m nodes)
types_end p m laid = record {
  first = subst (λ (l : List typing.Node). IsKept m l) (sym (first_typed p m)) (first_kept m laid);
  keeps = λ nodes mid i k n v. visit_keeps p m (typed nodes) (typed mid) i laid k (visited_typed p m i nodes mid v);
  lessens = λ nodes mid i k n v. visit_works p m (typed nodes) (typed mid) i laid k (next_typed nodes (Some i) n) (visited_typed p m i nodes mid v);
}
