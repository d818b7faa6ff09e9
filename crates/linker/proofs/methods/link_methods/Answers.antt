use Rattle.std.proofs.{Common.{◌+◌, List, drop, ◌∙◌, arith}, lemmas.Result.err_from_is_err_and}
use Rattle.jvm_types.specs.{Linked.scope_of, Members.{Declared, declared_from, declared_by}, declared.class_file.ClassFile.ClassFile}
use Rattle.linker.proofs.Coding.{class_split, turn_left, turn_made, turn_refused}
use Rattle.linker.proofs.methods.link_methods.Goals as goal

pub loop-number-preserved : goal.loop-number-preserved
loop-number-preserved c =
    let files : List ClassFile = c.args.scope.now in
    let i = c.loop-number.number in
    let class : ClassFile = c.index-files-number.result in
    let split = class_split files _ i class (c.as_slice-files.ensures ∙ c.files.ensures.value) c.loop-number-test.true c.index-files-number.is in
    let here : List Declared = declared_from i class.constants 0 class.methods in
    let behind : List Declared = declared_by (λ d. d.methods) (i + 1) (drop (i + 1) files) in
    let linked = rw c.file-file.ensures at c.in_ok-link_class.ensures.linked in
    record {
      left = turn_left (scope_of files) _ here behind c.loop-number.left split c.loop-number.methods c.link_class.new.code c.link_class.new.methods linked _ c.loop-number.invariant.left;
      made = turn_made (scope_of files) _ here behind c.loop-number.left split c.loop-number.methods c.link_class.new.code c.link_class.new.methods linked _ c.loop-number.invariant.made;
      copied = omega (arith, c.in_ok-link_class.ensures.copied, c.loop-number.invariant.copied);
    }

pub returns-in_err-link_class-clause-linked : goal.returns-in_err-link_class-clause-linked
returns-in_err-link_class-clause-linked c =
    let p = err_from_is_err_and c.from_residual.result c.from_residual.ensures.1 in
    rw (p.1, p.2)
    (turn_refused (scope_of c.args.scope.now) _ (declared_from c.loop-number.number c.index-files-number.result.constants 0 c.index-files-number.result.methods) _ c.loop-number.left
    (class_split c.args.scope.now _ c.loop-number.number c.index-files-number.result (c.as_slice-files.ensures ∙ c.files.ensures.value) c.loop-number-test.true c.index-files-number.is) c.loop-number.methods
    c.in_err-link_class.field-0.0 (rw c.file-file.ensures at c.in_err-link_class.ensures.refused) _ c.loop-number.invariant.left)
