use Rattle.std.proofs.Common.{◌∙◌, ap, length}
use Rattle.guard_analysis.{specs.BlockReach.{levels_before, turns_before}, proofs.BlockGraphs.{graph_of, levels_long}}
use Rattle.guard_analysis.proofs.block_reach.graph.Goals as goal

pub add_insns-requires : goal.add_insns-requires
add_insns-requires c = record { nodes = c.in_ok-g.ensures.nodes ∙ ap length c.in_ok-levels.ensures ∙ levels_long c.method-method.result.now c.args.tags.now.frames (length c.method-method.result.now.code) ∙ ap (λ x. length x.code) c.method-method.ensures.is }

pub add_rows-requires : goal.add_rows-requires
add_rows-requires c = record { nodes = c.in_ok-add_insns.ensures.nodes ∙ c.in_ok-g.ensures.nodes ∙ ap length c.in_ok-levels.ensures ∙ levels_long c.method-method.result.now c.args.tags.now.frames (length c.method-method.result.now.code) ∙ ap (λ x. length x.code) c.method-method.ensures.is }

pub returns : goal.returns
returns c = graph_of (record {
  m = c.args.m.now;
  frames = c.args.tags.now.frames;
  first = c.in_ok-g.g;
  next = c.add_insns.new.g;
  last = c.add_rows.new.g;
  levels = c.in_ok-g.ensures.levels ∙ c.in_ok-levels.ensures ∙ ap (λ x. levels_before x c.args.tags.now.frames (length x.code)) c.method-method.ensures.is;
  turns = c.in_ok-g.ensures.turns ∙ c.in_ok-turns.ensures ∙ ap (λ x. turns_before x c.args.tags.now.frames (length x.code)) c.method-method.ensures.is;
  none = c.in_ok-g.ensures.edges;
  onward = c.in_ok-add_insns.ensures;
  thrown = c.in_ok-add_rows.ensures;
}) c.method-method.ensures.laid
