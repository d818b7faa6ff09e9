use Rattle.std.proofs.Common.{◌≡◌, sym, ap, ◌∙◌}
use Rattle.lists.proofs.ListLaws.{same_some}
use Rattle.machine_types.specs.Frames.{effect_at}
use Rattle.instr_steps.proofs.halves.effect_told.Goals as goal

pub returns : goal.returns
returns c =
    c.requires.effect.2 ∙ ap (effect_at c.args._p.now.program) (same_some (sym c.requires.effect.1 ∙ c.requires.next.found))
