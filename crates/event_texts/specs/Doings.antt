-- What the instruction at which a frame stands does, and what its constant names.
use Rattle.jvm_types.specs.declared.program.Program.{Program}
use Rattle.machine_types.specs.Frames.{Top, effect_at}
use Rattle.event_texts.specs.declared.doing.Doing.{Doing}

abbrev pub doing_at : Program → Top → Doing
doing_at p at = record { pc = at.frame.pc; effect = effect_at p at; target = at.target }
