use Rattle.std.proofs.Common.{Some}
use Rattle.descriptors.proofs.Tables.{put_name}
use Rattle.descriptors.proofs.name_table.put.Goals as goal

pub returns : goal.returns
returns c = put_name c.args.name.now c.args.table.now c.insert.new.self (Some c.args.number) c.in_ok-insert.ensures.updates
