use Rattle.load_classes.proofs.LoadSize.{loads_stand}
use Rattle.load_classes.proofs.loads.loads_are_classes.Goals as goal

pub returns : goal.returns
returns c = loads_stand
