use Rattle.std.proofs.{Common.{◌≡◌, ◌<◌, ◌≤◌, ◌∙◌, length, ap, refl, arith, Some, get_or, slice_get}, lemmas.Option.slice_get_read}
use Rattle.laws_programs.proofs.CodeOrder.{methods_laid_out}
use Rattle.checked_program.specs.TaggedCode.{tagged_by}
use Rattle.guard_analysis.proofs.MarkLists.{methods_go_on, methods_end}
use Rattle.guard_analysis.proofs.marking.mark_all.Goals as goal

pub mark_method-requires-clause-laid : goal.mark_method-requires-clause-laid
mark_method-requires-clause-laid c =
    let inside : c.loop-u.u < length c.args.p.now.methods = omega (arith, c.loop-u-test.true, c.len-u-end.ensures) in
    let at : slice_get c.args.p.now.methods c.loop-u.u ≡ Some c.index-as_slice-u.result = slice_get_read c.args.p.now.methods (length c.args.p.now.methods) c.loop-u.u c.index-as_slice-u.result refl inside
    (c.index-as_slice-u.is ∙ ap (λ l. get_or l c.loop-u.u c.index-as_slice-u.result) c.as_slice.ensures) in
    methods_laid_out c.args.p.now c.loop-u.u c.index-as_slice-u.result c.requires.program at

pub mark_method-requires-clause-tagged : goal.mark_method-requires-clause-tagged
mark_method-requires-clause-tagged c =
    let inside : c.loop-u.u < length c.args.tags.now = omega (arith, c.loop-u-test.true, c.len-u-end.ensures, c.requires.tags) in
    slice_get_read c.args.tags.now (length c.args.tags.now) c.loop-u.u c.index-as_slice-u-in-loop-u.result refl inside
    (c.index-as_slice-u-in-loop-u.is ∙ ap (λ l. get_or l c.loop-u.u c.index-as_slice-u-in-loop-u.result) c.as_slice-in-loop-u.ensures)

pub loop-u-preserved : goal.loop-u-preserved
loop-u-preserved c =
    let inside : c.loop-u.u < length c.args.p.now.methods = omega (arith, c.loop-u-test.true, c.len-u-end.ensures) in
    let at : slice_get c.args.p.now.methods c.loop-u.u ≡ Some c.index-as_slice-u.result = slice_get_read c.args.p.now.methods (length c.args.p.now.methods) c.loop-u.u c.index-as_slice-u.result refl inside
    (c.index-as_slice-u.is ∙ ap (λ l. get_or l c.loop-u.u c.index-as_slice-u.result) c.as_slice.ensures) in
    record {
      callees = c.in_ok-callees-2.ensures.are;
      marks = methods_go_on c.args.p.now (tagged_by c.args.tags.now) c.args.uses.now c.loop-u.u c.index-as_slice-u.result c.loop-u.marks c.mark_method.new.marks at c.loop-u.invariant.marks c.in_ok-mark_method.ensures;
    }

pub returns : goal.returns
returns c =
    let all : length c.args.p.now.methods ≤ c.loop-u.u = omega (arith, c.loop-u-test.false, c.len-u-end.ensures) in
    methods_end c.args.p.now (tagged_by c.args.tags.now) c.args.uses.now c.loop-u.u c.loop-u.marks all c.loop-u.invariant.marks
