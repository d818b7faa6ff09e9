use Rattle.std.proofs.Common.{◌≡◌, ◌++◌, [], drop}
use Rattle.outcome_texts.specs.TextParts.{parts_from}
use Rattle.outcome_texts.proofs.parts.parts_between.Given as goal

-- those so far, with those that are left, are all
abbrev pub invariant-loop-c : goal.invariant-loop-c
invariant-loop-c l = l.parts ++ parts_from l.between l.part (drop l.c-index l.text) ≡ parts_from l.between [] l.text
