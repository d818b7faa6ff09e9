use Rattle.std.{proofs.Common.{sym, ◌∙◌, subst, Bool}}
use Rattle.checked_program.specs.TaggedCode.{tagged_by}
use Rattle.frozen_classes.{specs.FrozenClasses.TellsOut, proofs.ClassFlags.told_out}
use Rattle.frozen_classes.proofs.class_flags.lets_out.Goals as goal

pub returns-in_ok-leak : goal.returns-in_ok-leak
returns-in_ok-leak c = subst (λ (b : Bool). TellsOut c.args.p.now (tagged_by c.args.tags.now) c.args.class c.args.u b) (sym c.is_some.ensures)
    (told_out c.args.p.now c.args.tags.now c.requires.program c.requires.tagged c.args.class c.args.u c.in_ok-leak.leak (sym c.is_method_of.ensures ∙ c.if-is_method_of.true) c.in_ok-leak.ensures)
