use Rattle.std.proofs.Common.{[], ◌∷◌, sym, ◌∙◌}
use Rattle.code_visits.specs.TypePlan.{goes_typed}
use Rattle.code_verifier.proofs.{RowsRest.kept_rest_on, VisitLaws.{gone_by, level_for, level_from}}
use Rattle.code_verifier.proofs.visit.go_on.Goals as goal

pub go_along-requires : goal.go_along-requires
go_along-requires c = level_for c.args.m.now c.args.nodes.now c.args.after c.requires.locals_after c.requires.level

pub handle_kept-requires-clause-level : goal.handle_kept-requires-clause-level
handle_kept-requires-clause-level c = level_from c.args.m.now c.go_along.new.nodes c.args.after c.requires.locals_after c.in_ok-go_along.ensures.level

pub handle_kept-requires-clause-rest : goal.handle_kept-requires-clause-rest
handle_kept-requires-clause-rest c = kept_rest_on c.args.m.now c.args.insn.now.pc c.first_to_look_at-from.result c.args.kept.now (goes_typed c.deref.result.now c.args.after ∷ []) c.args.nodes.now c.go_along.new.nodes
    c.in_ok-go_along.ensures.left c.first_to_look_at-from.ensures

pub returns-clause-left : goal.returns-clause-left
returns-clause-left c = λ f k. gone_by c.args.m.now c.args.insn.now f c.args.after c.deref.result.now c.args.nodes.now c.go_along.new.nodes c.handle_kept.new.nodes c.handle_kept.result
    (c.deref.ensures.value ∙ c.in_ok-tos.ensures) c.in_ok-go_along.ensures.left (sym c.in_default.ensures) (c.handle_kept.ensures.left f k)
