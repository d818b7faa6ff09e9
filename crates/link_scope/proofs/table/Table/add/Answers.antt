use Rattle.std.proofs.Common.{sym, ◌∙◌}
use Rattle.link_scope.proofs.KeyLaws.{added}
use Rattle.link_scope.proofs.table.Table.add.Goals as goal

pub returns-clause-added : goal.returns-clause-added
returns-clause-added c = rw (← c.self.view_is) (added c.self.inside.members c.insert.new.self c.args.key c.args.found (sym c.contains_key.ensures ∙ c.if-contains_key.false) c.in_ok-insert.ensures.updates)
