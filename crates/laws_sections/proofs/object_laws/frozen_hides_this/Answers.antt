use Rattle.laws_sections.proofs.HiddenThis.{frozen_law}
use Rattle.laws_sections.proofs.object_laws.frozen_hides_this.Goals as goal

pub returns : goal.returns
returns c = frozen_law
