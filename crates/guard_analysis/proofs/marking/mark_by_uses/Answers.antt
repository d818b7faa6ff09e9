use Rattle.checked_program.proofs.CalledMethods.{methods_few}
use Rattle.guard_analysis.proofs.{GraphBounds.is_graph, MarkLists.taggings_long}
use Rattle.guard_analysis.proofs.marking.mark_by_uses.Goals as goal

pub mark_all-requires-clause-few : goal.mark_all-requires-clause-few
mark_all-requires-clause-few c = methods_few c.args.p.now c.requires.program

pub mark_all-requires-clause-graph : goal.mark_all-requires-clause-graph
mark_all-requires-clause-graph c = is_graph c.args.p.now c.args.tags.now c.requires.program

pub mark_all-requires-clause-tags : goal.mark_all-requires-clause-tags
mark_all-requires-clause-tags c = taggings_long c.args.p.now c.args.p.now.methods c.args.tags.now c.requires.tagged
