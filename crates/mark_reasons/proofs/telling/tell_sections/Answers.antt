use Rattle.std.proofs.Common.{◌<◌, ◌∙◌, Err, length, refl, ap, arith, slice_index_or}
use Rattle.std.proofs.lemmas.{Option.slice_get-get_or, Result.err_from_is_err_and}
use Rattle.checked_program.specs.{TaggedCode.tagged_by, declared.section.{SectionMark.SectionMark, Spot.TheVariants.Method}}
use Rattle.mark_reasons.proofs.TellingLaws.{at_start, broken_off, one_more}
use Rattle.mark_reasons.proofs.telling.tell_sections.Goals as goal

pub loop-mark-init : goal.loop-mark-init
loop-mark-init g c = record { so_far = at_start c.args.form c.args.p.now c.args.sources.now (tagged_by c.args.tags.now) c.args.uses.now c.args.marks.now (g.K.Sink.text c.args.sink.now); calm = refl; memo = c.requires.memo }

pub tell_section-requires-clause-marked : goal.tell_section-requires-clause-marked
tell_section-requires-clause-marked g c =
    let first : SectionMark = record { method = 0; spot = Method; mark = 0 } in
    let inside : c.loop-mark.mark-index < length c.args.marks.now = omega (arith, c.loop-mark-test.true) in
    c.requires.marked c.loop-mark.mark-index (slice_index_or c.args.marks.now c.loop-mark.mark-index first) (slice_get-get_or c.args.marks.now c.loop-mark.mark-index first inside)

pub returns-in_err-last-clause-written : goal.returns-in_err-last-clause-written
returns-in_err-last-clause-written g c =
    let first : SectionMark = record { method = 0; spot = Method; mark = 0 } in
    let inside : c.loop-mark.mark-index < length c.args.marks.now = omega (arith, c.loop-mark-test.true) in
    let p = err_from_is_err_and c.from_residual.result c.from_residual.ensures.1 in
    broken_off c.args.form c.args.p.now c.args.sources.now (tagged_by c.args.tags.now) c.args.uses.now c.args.marks.now c.loop-mark.mark-index (slice_index_or c.args.marks.now c.loop-mark.mark-index first) c.loop-mark.last _ _ _ _ _ _ c.in_err-last.field-0.0 c.from_residual.result (p.1 ∙ ap Err p.2)
    c.loop-mark.invariant.so_far (slice_get-get_or c.args.marks.now c.loop-mark.mark-index first inside) c.loop-mark.invariant.calm c.in_err-last.ensures.written

pub loop-mark-preserved : goal.loop-mark-preserved
loop-mark-preserved g c =
    let first : SectionMark = record { method = 0; spot = Method; mark = 0 } in
    let inside : c.loop-mark.mark-index < length c.args.marks.now = omega (arith, c.loop-mark-test.true) in
    record {
      so_far = one_more c.args.form c.args.p.now c.args.sources.now (tagged_by c.args.tags.now) c.args.uses.now c.args.marks.now c.loop-mark.mark-index (slice_index_or c.args.marks.now c.loop-mark.mark-index first) c.loop-mark.last c.in_ok-last.last _ _ _
          c.loop-mark.invariant.so_far (slice_get-get_or c.args.marks.now c.loop-mark.mark-index first inside) c.in_ok-last.ensures.written.1;
      calm = c.in_ok-last.ensures.written.0 ∙ c.loop-mark.invariant.calm;
      memo = c.in_ok-last.ensures.memo;
    }
