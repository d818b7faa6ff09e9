use Rattle.std.proofs.Common.{◌≡◌, [], ◌∷◌, drop, length}
use Rattle.jvm_types.specs.Verifying.{covering}
use Rattle.handler_rows.specs.HandlerRows.{picked}
use Rattle.checked_program.specs.Tagging.{until_all}
use Rattle.guard_analysis.specs.{OwnedFound.{compared_each, handlers_of}, declared.colouring.Colour.TheVariants.{Plain}}
use Rattle.guard_analysis.proofs.array_uses.compare_caught.Given as goal

abbrev pub invariant-loop-behind : goal.invariant-loop-behind
invariant-loop-behind l =
    compared_each l.p l.m l.frames l.outs (Plain ∷ []) (handlers_of (until_all (picked l.pc 0 (drop l.k l.m.rows))))
    ≡ compared_each l.p l.m l.frames l.fn.outs (Plain ∷ []) (handlers_of (until_all (covering l.m l.pc)))

abbrev pub decreases-loop-behind : goal.decreases-loop-behind
decreases-loop-behind l = length (picked l.pc 0 (drop l.k l.m.rows))
