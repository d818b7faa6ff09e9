use Rattle.std.proofs.Common.{◌+◌, drop, subst}
use Rattle.jvm_types.specs.Members.{declared_by, declared_methods}
use Rattle.class_runner.{specs.Stages.AreDecodedSoFar, proofs.MethodsDecoded.{ends, files_at}}
use Rattle.class_runner.proofs.decoding.decode_files.Goals as goal

pub loop-file-preserved : goal.loop-file-preserved
loop-file-preserved c =
    let cs = c.args.classes.now in
    let i = c.loop-file.file in
    c.in_ok-decode_class.ensures.ok (declared_by (λ x. x.methods) (i + 1) (drop (i + 1) cs)) (declared_methods cs)
    (subst (λ (ds : _). AreDecodedSoFar ds (declared_methods cs) c.loop-file.code) (files_at i cs c.index-classes-file.result c.loop-file-test.true c.index-classes-file.is) c.loop-file.invariant)

pub returns-clause-ok : goal.returns-clause-ok
returns-clause-ok c = ends c.loop-file.file c.args.classes.now (declared_methods c.args.classes.now) c.loop-file.code c.loop-file-test.false c.loop-file.invariant
