use Rattle.std.proofs.Common.{refl, Ok, Err}
use Rattle.program_answers.proofs.delivery.deliver.Goals as goal

pub returns-in-Ok : goal.returns-in-Ok
returns-in-Ok g c = (Ok c.in-Ok.field-0, (rw c.text.ensures at c.in-Ok.ensures), c.status.ensures)

pub returns-in-Err : goal.returns-in-Err
returns-in-Err g c = (Err c.in-Err.field-0, (rw c.text.ensures at c.in-Err.ensures), refl)
