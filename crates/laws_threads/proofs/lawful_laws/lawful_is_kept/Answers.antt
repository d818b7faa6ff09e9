use Rattle.laws_threads.proofs.LawfulThread.{lawful_kept}
use Rattle.laws_threads.proofs.lawful_laws.lawful_is_kept.Goals as goal

pub returns : goal.returns
returns c = lawful_kept c.structure_is_kept.ensures c.types_are_kept.ensures c.bounds_are_kept.ensures c.roots_are_kept.ensures
