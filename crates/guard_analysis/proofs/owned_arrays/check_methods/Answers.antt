use Rattle.std.proofs.{Common.{◌≡◌, ◌<◌, ◌∙◌, length, ap, sym, refl, arith, Some, get_or, slice_get}, lemmas.Option.slice_get_read}
use Rattle.laws_programs.proofs.CodeOrder.{methods_laid_out}
use Rattle.guard_analysis.proofs.CheckedMethods.{none_checked, next_checked, next_passed}
use Rattle.guard_analysis.proofs.owned_arrays.check_methods.Goals as goal
use Rattle.guard_analysis.proofs.owned_arrays.check_methods.Goals.{then-class_flag+in_ok-colours, else-class_flag}

pub loop-u-init : goal.loop-u-init
loop-u-init c = none_checked c.args.p.now c.args.tags.now c.args.owning.now c.args.outs.now c.new-reads.result c.requires.none c.new-reads.ensures

pub check_method-requires : goal.check_method-requires
check_method-requires c =
    let inside : c.loop-u.u < length c.args.p.now.methods = omega (arith, c.loop-u-test.true, c.len-u-end.ensures) in
    let at : slice_get c.args.p.now.methods c.loop-u.u ≡ Some c.index-as_slice-u.result = slice_get_read c.args.p.now.methods (length c.args.p.now.methods) c.loop-u.u c.index-as_slice-u.result refl inside
    (c.index-as_slice-u.is ∙ ap (λ l. get_or l c.loop-u.u c.index-as_slice-u.result) c.as_slice.ensures) in
    methods_laid_out c.args.p.now c.loop-u.u c.index-as_slice-u.result c.requires.program at

pub loop-u-preserved : goal.loop-u-preserved
loop-u-preserved c =
    let inside : c.loop-u.u < length c.args.p.now.methods = omega (arith, c.loop-u-test.true, c.len-u-end.ensures) in
    let at : slice_get c.args.p.now.methods c.loop-u.u ≡ Some c.index-as_slice-u.result = slice_get_read c.args.p.now.methods (length c.args.p.now.methods) c.loop-u.u c.index-as_slice-u.result refl inside
    (c.index-as_slice-u.is ∙ ap (λ l. get_or l c.loop-u.u c.index-as_slice-u.result) c.as_slice.ensures) in
    let within : c.loop-u.u < length c.args.tags.now = omega (arith, c.loop-u-test.true, c.len-u-end.ensures, c.requires.tags) in
    let shapes : slice_get c.args.tags.now c.loop-u.u ≡ Some c.index-as_slice-u-in-loop-u.result = slice_get_read c.args.tags.now (length c.args.tags.now) c.loop-u.u c.index-as_slice-u-in-loop-u.result refl within
    (c.index-as_slice-u-in-loop-u.is ∙ ap (λ l. get_or l c.loop-u.u c.index-as_slice-u-in-loop-u.result) c.as_slice-in-loop-u.ensures) in
    elim c.if-class_flag.branch [
      | then-class_flag+in_ok-colours w ↦ next_checked c.args.p.now c.args.tags.now c.args.owning.now c.loop-u.outs c.if-class_flag.outs w.check_method.new.outs c.loop-u.u c.loop-u.reads c.push.new.self c.if-class_flag.colours _ c.index-as_slice-u.result
          c.index-as_slice-u-in-loop-u.result c.loop-u.invariant at shapes (sym c.class_flag.ensures ∙ w.if-class_flag.true) w.in_ok-colours.ensures w.outs-is w.colours-is c.in_ok-push.ensures.ok
      | else-class_flag w ↦ next_passed c.args.p.now c.args.tags.now c.args.owning.now c.loop-u.outs c.if-class_flag.outs c.loop-u.u c.loop-u.reads c.push.new.self c.if-class_flag.colours c.index-as_slice-u.result c.loop-u.invariant at
          (sym c.class_flag.ensures ∙ w.if-class_flag.false) w.outs-is (w.colours-is ∙ w.new-colours.ensures) c.in_ok-push.ensures.ok
    ]
