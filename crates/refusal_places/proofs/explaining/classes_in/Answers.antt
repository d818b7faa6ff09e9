use Rattle.std.proofs.Common.{◌≡◌, ℕ, ◌++◌, List, [], Option, drop, sym, subst, arith}
use Rattle.std.{proofs.lemmas.List.{append-nil, drop_all}, specs.List.AllZip}
use Rattle.jvm_types.specs.declared.class_file.ClassFile.{ClassFile}
use Rattle.refusal_places.specs.Explained.{IsClassSpelled}
use Rattle.refusal_places.proofs.explaining.classes_in.Goals as goal

pub returns : goal.returns
returns c =
    let done : drop c.loop-bytes.bytes-index c.args.contents.now ≡ [] = drop_all c.loop-bytes.bytes-index c.args.contents.now (omega (arith, c.loop-bytes-test.false)) in
    let none : AllZip IsClassSpelled (drop c.loop-bytes.bytes-index c.args.contents.now) [] = subst (λ (bs : List (List ℕ)). AllZip IsClassSpelled bs []) (sym done) tt in
    subst (AllZip IsClassSpelled c.args.contents.now) (append-nil c.loop-bytes.classes) (c.loop-bytes.invariant [] none)
