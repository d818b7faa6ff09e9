use Rattle.command_words.specs.Requests.{asked_by}
use Rattle.solero.proofs.LoadFiles.{is_file_of_load}
use Rattle.solero.proofs.load.load_file.Goals as goal

pub returns-clause-ok : goal.returns-clause-ok
returns-clause-ok c = is_file_of_load (asked_by c.args.request.now) c.in_ok-class.class c.in_ok-bytes.bytes _ c.in_ok-class.ensures.made c.in_ok-bytes.ensures.ok c.in_ok-one_file.ensures
