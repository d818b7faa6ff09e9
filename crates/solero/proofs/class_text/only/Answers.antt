use Rattle.solero.proofs.OneFile.{one_file}
use Rattle.solero.proofs.class_text.only.Goals as goal

pub returns : goal.returns
returns c = one_file c.args.files.now c.as_slice.result.now _ c.requires c.as_slice.ensures c.index-as_slice-0.is
