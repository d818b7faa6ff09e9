use Rattle.std.proofs.Common.{◌≡◌, [], take, Some, None, sym, slice_get, IfOk, IfErr}
use Rattle.laws_programs.proofs.CodeOrder.{laid_out}
use Rattle.checked_program.specs.{Tagging.IsTaggingOf, declared.tag.Tags.Tags}
use Rattle.code_visits.proofs.MethodsWithin.{is_there, some_and}
use Rattle.monitor_tags.{specs.declared.error.TagError.TheVariants.Memory, proofs.OneAnswer.{only_by, tagged_by}}
use Rattle.monitor_tags.proofs.tagging.tag_within.Goals as goal

pub tag_method-requires : goal.tag_method-requires
tag_method-requires c = laid_out c.args.p.now (take c.args.method c.args.p.now.methods) c.in-Some.m.now (c.requires.program.methods c.args.method c.in-Some.m.now (sym c.in-Some.ensures.value))

pub unreachable-requires : goal.unreachable-requires
unreachable-requires c = is_there c.args.p.now.methods c.args.method c.requires.method c.in-None.ensures.value

pub returns-clause-only : goal.returns-clause-only
returns-clause-only c = some_and (slice_get c.args.p.now.methods c.args.method) c.in-Some.m.now (λ m. (t : Tags) → IsTaggingOf c.args.p.now m t → IfOk c.tag_method.result (λ found. found ≡ t)) c.in-Some.ensures.value
    (only_by c.args.p.now c.in-Some.m.now c.tag_method.result c.tag_method.ensures.ok)

pub returns-clause-tagged : goal.returns-clause-tagged
returns-clause-tagged c = some_and (slice_get c.args.p.now.methods c.args.method) c.in-Some.m.now (λ m. (t : Tags) → IsTaggingOf c.args.p.now m t → IfErr c.tag_method.result (λ e. e ≡ Memory)) c.in-Some.ensures.value
    (tagged_by c.args.p.now c.in-Some.m.now c.tag_method.result c.tag_method.ensures.refused)
