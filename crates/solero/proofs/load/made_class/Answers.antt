use Rattle.std.proofs.Common.{arith}
use Rattle.command_words.specs.Requests.{asked_by}
use Rattle.solero.proofs.LoadFiles.{is_of_load, load_is_class}
use Rattle.solero.proofs.load.made_class.Goals as goal

pub returns-clause-made : goal.returns-clause-made
returns-clause-made c = is_of_load (asked_by c.args.request.now) c.in_ok-class.class c.in_ok-class.ensures

pub returns-clause-class : goal.returns-clause-class
returns-clause-class c = load_is_class (asked_by c.args.request.now) c.in_ok-class.class c.in_ok-class.ensures (omega (arith, c.args.request.now.bounds.most_size)) c.loads_are_classes.ensures
