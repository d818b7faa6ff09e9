use Rattle.std.proofs.Common.{◌∙◌, ap}
use Rattle.machine_types.specs.{LockWords.word_of_lock, Threads.Thread, declared.lock.LockWord.TheVariants.Held}
use Rattle.step_core.{specs.Sharing.leaving_at, proofs.SharedExits.lets_it_go}
use Rattle.step_core.proofs.ahead.run_loop.RunLoop.leave_by.Goals as goal

pub returns : goal.returns
returns c =
    let s = c.args.s.now in
    let exit = c.args.exit in
    record {
      on = λ yes.
          lets_it_go c.args.self.now.program exit.monitor c.args.got s
          (leaving_at s c.args.self.now c.args.place.now exit.monitor exit.after) c.drop_held.new.self exit.access
          c.requires.exit.leaves c.in_default.not-Load
          (c.if-got-word-2.false ∙ c.word-2.ensures.word ∙ ap (λ n. word_of_lock (Held n)) c.number.ensures)
          c.drop_held.ensures;
      off = λ no. absurd (cc);
      program = ap (λ (t : Thread). t.program) c.drop_held.ensures;
      settings = ap (λ (t : Thread). t.cfg) c.drop_held.ensures;
      number = ap (λ (t : Thread). t.number) c.drop_held.ensures;
    }
