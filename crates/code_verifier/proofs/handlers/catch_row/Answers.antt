use Rattle.std.proofs.Common.{ap, ◌∙◌}
use Rattle.code_visits.specs.TypePlan.{type_local_count}
use Rattle.code_verifier.proofs.VisitLaws.{level_for}
use Rattle.code_verifier.proofs.handlers.catch_row.Goals as goal

pub go_along-requires : goal.go_along-requires
go_along-requires c = rw (c.spend.ensures) (level_for c.args.m.now c.args.nodes.now c.in_ok-at_handler.at_handler (ap type_local_count c.in_ok-at_handler.ensures ∙ c.requires.locals) c.requires.level)
