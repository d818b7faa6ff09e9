use Rattle.machine_types.proofs.ClassObjects.{class_objects_stand}
use Rattle.machine_types.proofs.start_laws.class_objects_stand.Goals as goal

pub returns : goal.returns
returns c = class_objects_stand
