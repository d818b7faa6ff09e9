use Rattle.std.proofs.{Common.{List, ◌+◌, drop, subst, arith}, lemmas.Result.err_from_is_err_and}
use Rattle.jvm_types.specs.{Members.{Declared, declared_by, declared_methods}, Verifying.{IsTypingOf, IsRefused}}
use Rattle.class_runner.{specs.Stages.AreTypedSoFar, proofs.{MethodsDecoded.files_at, MethodsFound.{ends, class_within, few_methods}}}
use Rattle.class_runner.proofs.verifying.verify_files.Goals as goal

pub verify_class-requires-clause-all : goal.verify_class-requires-clause-all
verify_class-requires-clause-all c = class_within (IsTypingOf c.args.program.now) (IsRefused c.args.program.now) c.args.program.now.methods c.loop-file.file c.args.classes.now c.index-classes-file.result (declared_methods c.args.classes.now) c.loop-file.typings c.loop-file-test.true c.index-classes-file.is c.loop-file.invariant

pub verify_class-requires-clause-few : goal.verify_class-requires-clause-few
verify_class-requires-clause-few c = omega (arith, few_methods 0 c.args.classes.now c.requires.classes, c.requires.methods, c.requires.few)

pub returns-in_err-verify_class-clause-refused : goal.returns-in_err-verify_class-clause-refused
returns-in_err-verify_class-clause-refused c =
    let p = err_from_is_err_and c.from_residual.result c.from_residual.ensures.1 in
    let cs = c.args.classes.now in
    let i = c.loop-file.file in
    rw (p.1, p.2) (c.in_err-verify_class.ensures.refused (declared_by (λ x. x.methods) (i + 1) (drop (i + 1) cs)) (declared_methods cs)
    (subst (λ (ds : List Declared). AreTypedSoFar c.args.program.now ds (declared_methods cs) c.loop-file.typings) (files_at i cs c.index-classes-file.result c.loop-file-test.true c.index-classes-file.is) c.loop-file.invariant))

pub loop-file-preserved : goal.loop-file-preserved
loop-file-preserved c =
    let cs = c.args.classes.now in
    let i = c.loop-file.file in
    c.in_ok-verify_class.ensures.ok (declared_by (λ x. x.methods) (i + 1) (drop (i + 1) cs)) (declared_methods cs)
    (subst (λ (ds : List Declared). AreTypedSoFar c.args.program.now ds (declared_methods cs) c.loop-file.typings) (files_at i cs c.index-classes-file.result c.loop-file-test.true c.index-classes-file.is) c.loop-file.invariant)

pub returns-clause-ok : goal.returns-clause-ok
returns-clause-ok c = ends (IsTypingOf c.args.program.now) (IsRefused c.args.program.now) c.args.program.now.methods c.loop-file.file c.args.classes.now (declared_methods c.args.classes.now) c.loop-file.typings c.loop-file-test.false c.loop-file.invariant
