use Rattle.std.proofs.Common.{◌≤◌, ◌∙◌, ℕ, ap, arith}
use Rattle.machine_types.specs.{LockWords.word_of_lock, declared.{config.Config.Config, lock.LockWord.TheVariants.Held}}
use Rattle.step_core.proofs.SectionEvents.{few_taken, place_to_take, take_made}
use Rattle.step_core.proofs.ahead.entries.take_flat.Goals as goal

pub take_unheld-requires-clause-place : goal.take_unheld-requires-clause-place
take_unheld-requires-clause-place c =
    place_to_take c.args.p.now c.args.s.now c.set_turns.new.self c.args.f.now c.args.count c.args.monitor c.args.noted c.args.words.now
    c.held_has_room.ensures c.requires.of c.depth-depth.ensures.few c.set_turns.ensures
    c.requires.held c.requires.alone c.requires.locks c.requires.word c.requires.fine

pub take_unheld-requires-clause-count : goal.take_unheld-requires-clause-count
take_unheld-requires-clause-count c =
    let most : c.args.s.now.cfg.steps ≤ 4294967295 = omega (arith, ap (λ (x : Config). x.steps) c.config-limits.ensures) in
    few_taken c.args.p.now c.args.s.now c.set_turns.new.self c.args.f.now c.args.count c.args.monitor c.args.noted c.args.words.now
    most c.set_turns.ensures c.requires.held c.requires.alone c.requires.locks c.requires.word c.requires.fine

pub returns-clause-on : goal.returns-clause-on
returns-clause-on c =
    take_made c.args.p.now c.args.s.now c.set_turns.new.self c.take_unheld.new.s c.args.f.now c.args.count c.args.monitor c.args.noted
    c.word.result c.args.words.now c.set.new.self
    c.set_turns.ensures c.take_unheld.ensures c.set.ensures (c.word.ensures.word ∙ ap (λ (n : ℕ). word_of_lock (Held n)) c.number.ensures)
    c.requires.held c.requires.alone c.requires.locks c.requires.word
