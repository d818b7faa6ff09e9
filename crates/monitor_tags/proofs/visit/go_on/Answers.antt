use Rattle.std.proofs.{Common.{[], ◌∷◌, ap, ◌∙◌}, lemmas.Result.err_from_is_err_and}
use Rattle.jvm_types.specs.declared.refusal.SRule.TheVariants.{S4}
use Rattle.checked_program.specs.Tagging.{break_if}
use Rattle.monitor_tags.{specs.Visiting.{does, goes_along}, proofs.{RowsRest.catchers_rest_on, VisitLaws.{went, stopped}}}
use Rattle.monitor_tags.proofs.visit.go_on.Goals as goal

pub returns-in_err-handle_kept-clause-left : goal.returns-in_err-handle_kept-clause-left
returns-in_err-handle_kept-clause-left c =
    let e = err_from_is_err_and c.from_residual-in_err-handle_kept.result c.from_residual-in_err-handle_kept.ensures.1 in
    λ r f k. rw (e.1, e.2) (stopped c.args.m.now c.args.insn.now r f c.args.going c.deref.result.now c.args.nodes.now c.go_along.new.nodes c.handle_kept.new.nodes c.in_err-handle_kept.field-0.0 k (c.deref.ensures.value ∙ c.in_ok-tos.ensures)
    c.in_ok-go_along.ensures.left (c.in_err-handle_kept.ensures.left f k.keeps))

pub returns-then-going-clause-left : goal.returns-then-going-clause-left
returns-then-going-clause-left c = λ r f k. went c.args.m.now c.args.insn.now r f c.args.going c.deref.result.now c.args.nodes.now c.go_along.new.nodes c.handle_kept.new.nodes k (c.deref.ensures.value ∙ c.in_ok-tos.ensures)
    c.in_ok-go_along.ensures.left (c.in_ok-handle_kept.ensures.left f k.keeps) ∙ ap (λ x. does c.args.m.now (break_if x S4 c.args.insn.now.pc) c.handle_kept.new.nodes) c.if-going.true

pub returns-clause-left : goal.returns-clause-left
returns-clause-left c = λ r f k. went c.args.m.now c.args.insn.now r f c.args.going c.deref.result.now c.args.nodes.now c.go_along.new.nodes c.handle_kept.new.nodes k (c.deref.ensures.value ∙ c.in_ok-tos.ensures)
    c.in_ok-go_along.ensures.left (c.in_ok-handle_kept.ensures.left f k.keeps) ∙ ap (λ x. does c.args.m.now (break_if x S4 c.args.insn.now.pc) c.handle_kept.new.nodes) c.if-going.false

pub handle_kept-requires-clause-rest : goal.handle_kept-requires-clause-rest
handle_kept-requires-clause-rest c = catchers_rest_on c.args.m.now c.args.going.at_handler c.in_ok-resting.resting (goes_along c.deref.result.now c.args.going.after ∷ []) c.args.nodes.now c.go_along.new.nodes c.in_ok-go_along.ensures.left c.in_ok-resting.ensures
