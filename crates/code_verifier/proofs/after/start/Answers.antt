use Rattle.std.proofs.Common.{ap, ◌||◌}
use Rattle.code_verifier.proofs.FrameLaws.{object_started}
use Rattle.code_verifier.proofs.after.start.Goals as goal

pub returns : goal.returns
returns c = object_started c.args.object c.args.class c.args.stack.now c.args.locals.now c.initialise_stack.new.stack c.initialise.new.types c.args.ready _ c.requires c.initialise_stack.ensures c.initialise.ensures (ap (λ b. c.args.ready || b) c.same_type.ensures)
