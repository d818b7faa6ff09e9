use Rattle.checked_program.specs.TaggedCode.{tagged_by}
use Rattle.mark_reasons.proofs.MemoLaws.{nothing_found}
use Rattle.mark_reasons.proofs.telling.find_known.Goals as goal

pub returns-clause-memo : goal.returns-clause-memo
returns-clause-memo c = nothing_found c.args.p.now (tagged_by c.args.tags.now) c.in_ok-memo.memo c.len.result c.len.ensures c.in_ok-memo.ensures.arrays c.in_ok-memo.ensures.fields
