use Rattle.std.{proofs.Common.{sym, ap, ◌∙◌}, specs.Option.option_copied}
use Rattle.jvm_types.proofs.EachAfter.{drop_got, there_is}
use Rattle.plain_frames.proofs.calls.frame_at.Goals as goal

pub returns : goal.returns
returns c = drop_got c.args.frames.now c.args.down _ (sym c.get.ensures.value ∙ ap option_copied c.in-Some.is)

pub unreachable-requires : goal.unreachable-requires
unreachable-requires c = there_is c.args.frames.now c.args.down c.requires (sym c.get.ensures.value ∙ ap option_copied c.in-None.is)
