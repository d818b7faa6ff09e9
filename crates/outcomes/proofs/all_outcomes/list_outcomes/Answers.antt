use Rattle.std.proofs.Common.{◌∙◌, sym}
use Rattle.outcomes.proofs.Found.{all_outcomes}
use Rattle.outcomes.proofs.all_outcomes.list_outcomes.Goals as goal

-- src/all_outcomes.rt:25:1
pub returns-clause-outcomes : goal.returns-clause-outcomes
returns-clause-outcomes c = record {
  listed = c.in_ok-listed.ensures.listed;
  printed = c.in_ok-printed.ensures.printed;
  uncaught = c.in_ok-uncaught.ensures.uncaught;
  all = λ whole. all_outcomes c.args.p.now c.args.found.now _ c.requires.program c.is_whole-is_whole.ensures.searched (sym c.is_whole-is_whole.ensures.whole ∙ whole) c.len.ensures c.in_ok-listed.ensures.all c.in_ok-printed.ensures.all c.in_ok-uncaught.ensures.all;
}
