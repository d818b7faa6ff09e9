use Rattle.std.proofs.{Common.{◌+◌, ◌∷◌, [], List, length, drop, arith}, lemmas.Result.err_from_is_err_and}
use Rattle.jvm_types.specs.{Linked.scope_of, Members.{Declared, declared_from}, declared.class_file.Member.Member}
use Rattle.link_scope.specs.Scoping.{FileOf}
use Rattle.linker.{specs.Linking.method_of, proofs.Coding.{member_split, turn_left, turn_made, turn_rest, turn_refused}}
use Rattle.linker.proofs.methods.link_class.Goals as goal

pub loop-number-preserved : goal.loop-number-preserved
loop-number-preserved c =
    let f : FileOf = c.args.file.now in
    let i = c.loop-number.number in
    let ms : List Member = c.as_slice-members.result.now in
    let m : Member = c.index-members-number.result in
    let split = member_split f ms i m c.loop-number-test.true c.index-members-number.is in
    record {
      left = turn_left (scope_of f.files) _ (method_of f i m ∷ []) (declared_from f.number f.class.constants (i + 1) (drop (i + 1) ms)) c.loop-number.code split c.loop-number.methods c.link_member.new.code c.link_member.new.methods c.in_ok-link_member.ensures.linked _ c.loop-number.invariant.left;
      made = turn_made (scope_of f.files) _ (method_of f i m ∷ []) (declared_from f.number f.class.constants (i + 1) (drop (i + 1) ms)) c.loop-number.code split c.loop-number.methods c.link_member.new.code c.link_member.new.methods c.in_ok-link_member.ensures.linked _ c.loop-number.invariant.made;
      rest = turn_rest (scope_of f.files) _ (method_of f i m ∷ []) (declared_from f.number f.class.constants (i + 1) (drop (i + 1) ms)) c.loop-number.code split c.loop-number.methods c.link_member.new.code c.link_member.new.methods c.in_ok-link_member.ensures.linked _ c.loop-number.invariant.rest;
      copied = omega (arith, c.in_ok-link_member.ensures.copied, c.loop-number.invariant.copied);
    }

pub returns-in_err-link_member-clause-refused : goal.returns-in_err-link_member-clause-refused
returns-in_err-link_member-clause-refused c =
    let f : FileOf = c.args.file.now in
    let i = c.loop-number.number in
    let ms : List Member = c.as_slice-members.result.now in
    let m : Member = c.index-members-number.result in
    let p = err_from_is_err_and c.from_residual.result c.from_residual.ensures.1 in
    rw (p.1, p.2)
    (turn_refused (scope_of f.files) _ (method_of f i m ∷ []) (declared_from f.number f.class.constants (i + 1) (drop (i + 1) ms)) c.loop-number.code (member_split f ms i m c.loop-number-test.true c.index-members-number.is) c.loop-number.methods
    c.in_err-link_member.field-0.0 c.in_err-link_member.ensures.refused _ c.loop-number.invariant.left)
