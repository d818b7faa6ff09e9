use Rattle.plain_search.proofs.RowLists.{last_in}
use Rattle.plain_search.proofs.rows.add.Goals as goal

pub returns-then-place-table-clause-there : goal.returns-then-place-table-clause-there
returns-then-place-table-clause-there c = last_in c.args.rows.now.items c.push.new.self.items c.args.row c.in_ok-push.ensures.items

pub returns-else-place-table-clause-there : goal.returns-else-place-table-clause-there
returns-else-place-table-clause-there c = last_in c.args.rows.now.items c.push.new.self.items c.args.row c.in_ok-push.ensures.items
