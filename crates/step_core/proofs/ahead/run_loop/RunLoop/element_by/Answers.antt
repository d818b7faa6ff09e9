use Rattle.std.proofs.Common.{refl}
use Rattle.step_core.{specs.Progress.Progress, proofs.SharedElements.element_behind}
use Rattle.step_core.proofs.ahead.run_loop.RunLoop.element_by.Goals.{in-Some, in-None}
use Rattle.step_core.proofs.ahead.run_loop.RunLoop.element_by.Goals as goal

pub returns : goal.returns
returns c =
    let a = c.args in
    let q = c.self.inside in
    let here = c.match-e.self-inside in
    let was : Progress = record { program = q.checked.now; frames = q.frames; number = q.number; count = q.count } in
    let now : Progress = record { program = here.checked.now; frames = here.frames; number = c.number_behind-self-inside.result; count = c.one_more-self-inside.result } in
    let made = element_behind a.s.now was a.place.now (rw (← c.self.view_is) at c.requires.here) a.e.array a.e.index a.e.stored (rw (← c.self.view_is) at c.requires.effect) a.word a.got now in
    rw (← c.self.view_is) (elim c.match-e.branch [
      | in-Some w ↦ made (rw w.self-inside-is refl) (rw (w.self-inside-is, w.in-Some.is, ← c.insn.ensures) w.take.ensures) (rw (c.one_more-self-inside.ensures, w.self-inside-is) refl)
      | in-None w ↦ made (rw w.self-inside-is refl) (rw (w.self-inside-is, w.in-None.is, ← c.insn.ensures) w.replace.ensures) (rw (c.one_more-self-inside.ensures, w.self-inside-is) refl)
    ])
