use Rattle.std.{proofs.Common.{sym, ap, ◌∙◌}, specs.Option.option_copied}
use Rattle.laws_programs.proofs.CodeOrder.{methods_laid_out}
use Rattle.frozen_classes.proofs.class_flags.leak_at.Goals as goal

pub leak_of-requires : goal.leak_of-requires
leak_of-requires c = record { laid = methods_laid_out c.args.p.now c.args.u c.in-Some.m.now c.requires.program (sym c.get.ensures.value ∙ ap option_copied c.in-Some.is) }
