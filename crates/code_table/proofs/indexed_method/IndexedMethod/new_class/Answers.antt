use Rattle.std.proofs.Common.{sym}
use Rattle.code_table.{specs.PcTables.Ascend, proofs.ClassOfNew.new_class_at}
use Rattle.code_table.proofs.indexed_method.IndexedMethod.new_class.Goals as goal

pub returns : goal.returns
returns c =
    let ascends : Ascend 0 c.args.self.now.code = rw (← c.self.view_is) c.self.invariant.ascend in
    rw (c.class_at.ensures, c.as_slice.ensures, c.find.ensures, c.self.view_is) (sym (new_class_at 0 c.args.self.now.code c.args.self.now.targets c.args.pc ascends))
