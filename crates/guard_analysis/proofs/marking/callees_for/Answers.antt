use Rattle.std.proofs.{Common.{◌≡◌, ◌∙◌, true, sym}, lemmas.Result.IfOk-weaker}
use Rattle.guard_analysis.proofs.{CalleesFound.{fits_method, no_class_lock}, marking.callees_for.Goals.{else-locks_class-via-then-locks_class+else-m-callees, else-locks_class-via-else-locks_class}}
use Rattle.guard_analysis.proofs.marking.callees_for.Goals as goal

pub returns-then-m-callees-clause-fits : goal.returns-then-m-callees-clause-fits
returns-then-m-callees-clause-fits c = IfOk-weaker c.of.result _ _ (λ k same. fits_method k.class c.args.m.now (λ locks static. sym same)) c.of.ensures.class

pub returns-else-locks_class-clause-fits : goal.returns-else-locks_class-clause-fits
returns-else-locks_class-clause-fits c = elim c.else-locks_class.branch [
  | else-locks_class-via-then-locks_class+else-m-callees w ↦ fits_method c.args.callees.class c.args.m.now (λ locks static. w.if-m-callees.false)
  | else-locks_class-via-else-locks_class w ↦ fits_method c.args.callees.class c.args.m.now (λ locks static. absurd (no_class_lock c.args.m.now c.locks_class.result c.locks_class.ensures w.if-locks_class.false locks static))
]
