use Rattle.instr_steps.proofs.Ready.{is_next, ready}
use Rattle.instr_steps.proofs.places.next_place.Goals as goal

pub place_of-requires : goal.place_of-requires
place_of-requires c = (ready c.args.p.now c.args.s.now c.program-checked.ensures.marked c.requires.lawful c.requires.phase).found

pub returns : goal.returns
returns c = is_next c.args.p.now c.args.s.now c.place_of.result c.program-checked.ensures.marked c.requires.lawful c.requires.phase c.place_of.ensures
