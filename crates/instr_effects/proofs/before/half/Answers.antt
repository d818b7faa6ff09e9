use Rattle.std.proofs.Common.{◌∙◌, ◌/◌, sym, length, arith}
use Rattle.instr_effects.proofs.Halving.{back_keys, in_back, in_front, keys_before}
use Rattle.instr_effects.proofs.before.half.Goals as goal

pub returns-then-is_as_far-clause-keys : goal.returns-then-is_as_far-clause-keys
returns-then-is_as_far-clause-keys c = back_keys (length c.args.cases.now / 2) c.args.cases.now c.requires.keys

pub returns-then-is_as_far-clause-same : goal.returns-then-is_as_far-clause-same
returns-then-is_as_far-clause-same c = λ otherwise.
    in_back otherwise c.args.n (length c.args.cases.now / 2) c.args.cases.now _ c.requires.keys (omega (arith, c.requires.some)) (sym c.is_as_far.ensures ∙ c.if-is_as_far.true)

pub returns-else-is_as_far-clause-keys : goal.returns-else-is_as_far-clause-keys
returns-else-is_as_far-clause-keys c = keys_before (length c.args.cases.now / 2) c.args.cases.now c.requires.keys

pub returns-else-is_as_far-clause-same : goal.returns-else-is_as_far-clause-same
returns-else-is_as_far-clause-same c = λ otherwise.
    in_front otherwise c.args.n (length c.args.cases.now / 2) c.args.cases.now _ c.requires.keys (omega (arith, c.requires.some)) (sym c.is_as_far.ensures ∙ c.if-is_as_far.false)
